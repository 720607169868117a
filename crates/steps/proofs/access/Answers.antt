-- `access` meets its contract.
use mathlib.Core.Path.{◌≡◌, refl, sym, ◌∙◌}
use mathlib.Core.Logic.{inl, inr}
use lib.IntN.{pos}
use lib.ListN.{get_or}
use mir.Syntax.{w64}
use mir.Val.{SFits}
use mir.Facts.{to_z-of_z}
use native.Mathlib.Omega.{arith}
use borrow.Author.Rules.{rules, sfits_of}
use Rattle.steps.specs.Code.Sum.{sum_of}
use Rattle.steps.proofs.TableSteps.{checked_sum, pick_loads, pick_stores, pick_passes}
use Rattle.steps.proofs.access.Goals as goal

pub returns-then-made-w-eq0 : goal.returns-then-made-w-eq0
returns-then-made-w-eq0 c =
    let a = c.args in
    let e = c.if-made-w-eq0.true in
    record {
      is = λ u t h. rw (to_z-of_z {w = w64} {z = get_or a.sums.now (get_or a.targets.now a.w 0) (pos 0)} (sfits_of c.held-1.given), t)
          (pick_loads a.made.now a.held.now a.sums.now a.w u e);
      left = inl (refl, λ q. e);
    }

pub returns-in_default : goal.returns-in_default
returns-in_default c =
    let sum_is : let a = c.args in c.checked_add.result ≡ sum_of (get_or a.held.now a.w (pos 0)) (get_or a.adds.now a.w (pos 0)) = let a = c.args in
    checked_sum (get_or a.held.now a.w (pos 0)) (get_or a.adds.now a.w (pos 0)) c.checked_add.result (rw (
      to_z-of_z {w = w64} {z = get_or a.held.now a.w (pos 0)} (sfits_of c.checked_add-arg-1.given),
      to_z-of_z {w = w64} {z = get_or a.adds.now a.w (pos 0)} (sfits_of c.checked_add-arg-2-1.given),
    )
    at c.checked_add.ensures) in
    let a = c.args in
    record {
      is = λ u t h. pick_passes a.made.now a.held.now a.sums.now a.w u c.if-made-w-eq0.false (rw h at (sym sum_is ∙ c.in_default.is));
      left = inl (refl, λ q. absurd (omega arith));
    }

pub returns : goal.returns
returns c =
    let sum_is : let a = c.args in c.checked_add.result ≡ sum_of (get_or a.held.now a.w (pos 0)) (get_or a.adds.now a.w (pos 0)) = let a = c.args in
    checked_sum (get_or a.held.now a.w (pos 0)) (get_or a.adds.now a.w (pos 0)) c.checked_add.result (rw (
      to_z-of_z {w = w64} {z = get_or a.held.now a.w (pos 0)} (sfits_of c.checked_add-arg-1.given),
      to_z-of_z {w = w64} {z = get_or a.adds.now a.w (pos 0)} (sfits_of c.checked_add-arg-2-1.given),
    )
    at c.checked_add.ensures) in
    let in-range : SFits w64 c.in-Some.sum = search rules in
    let a = c.args in
    record {
      is = λ u t h. rw (to_z-of_z in-range, t)
          (pick_stores a.made.now a.held.now a.sums.now a.w u c.if-made-w-eq0.false c.in-Some.sum (rw h at (sym sum_is ∙ c.in-Some.is)));
      left = inr refl;
    }
