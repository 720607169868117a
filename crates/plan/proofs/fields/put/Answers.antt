-- `fields::put`: the part that is copied over is the record.
use mathlib.Core.Path.{ap, ◌∙◌}
use mathlib.Core.List.{List, ◌++◌}
use Prim.Native.Nat.{ℕ, ◌*◌}
use native.Mathlib.Omega.{arith}
use lib.ListN.{length, take}
use Rattle.std.proofs.lemmas.Slice.{take-put_mid}
use Rattle.plan.specs.Groups.{width, fields_of}
use Rattle.plan.proofs.fields.put.Goals as goal

pub returns : goal.returns
unfolding fields_of
returns c =
    let e = c.copy_from_slice.ensures.after in
    let front = take (width * c.args.i) c.args.numbers.now in
    take-put_mid _ _ c.args.numbers.now c.copy_from_slice.new.self _ (omega (arith, ap length e)) (omega arith) ∙ ap (λ (xs : List ℕ). front ++ xs) e
