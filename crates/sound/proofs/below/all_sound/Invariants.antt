-- `below::all_sound`: the groups from i on are left, and the marks are below those of group i.
use mathlib.Core.Path.{◌≡◌}
use Prim.Native.Nat.{◌*◌}
use lib.ListN.{drop}
use Rattle.plan.specs.Groups.{records}
use Rattle.plan.specs.Sound.{all_sound}
use Rattle.plan.specs.Code.Checks.{below_whole}
use Rattle.apart.specs.Code.Marks.{UpTo}
use Rattle.apart.specs.Code.Subject.{rows_of, far_of}
use Rattle.sound.proofs.below.all_sound.Given as goal

abbrev pub invariant-loop-i : goal.invariant-loop-i
invariant-loop-i l =
    let p = l.subject.plan in
    let test = all_sound (far_of l.subject) (rows_of l.subject) (below_whole p.count p.groups.now) in
    let gs = records p.count p.groups.now in
    (test 0 gs ≡ test l.i (drop l.i gs)) × UpTo (1024 * l.i) l.marks
