-- `look_up` meets its contract.
use Prim.Native.Nat.{◌+◌, ◌<◌}
use native.Mathlib.Omega.{arith}
use Rattle.steps.specs.Code.Steps.{place_next}
use Rattle.steps.proofs.look_up.Goals as goal

pub next_place-place-requires : goal.next_place-place-requires
next_place-place-requires c =
    let a = c.args in
    let t = a.work.now.course.tables in
    let r = a.work.now.placed.bounded.rising in
    let left : place_next t.first.now a.made.now a.w < 69632 = omega (arith, c.requires.1, r.rises a.w c.requires.0, r.few (a.w + 1) (omega (arith, c.requires.0))) in
    (c.requires.0, left)
