-- `read_number` meets its contract: no digit, a digit that is not 0, or 0.
use mathlib.Core.Path.{◌≡◌, refl, sym, subst, ◌∙◌}
use Prim.Native.Nat.{ℕ, ◌+◌, ◌-◌}
use native.Mathlib.Omega.{arith}
use lib.ListN.{get_or}
use Rattle.scan.proofs.numbers.Scanning.{digits_end, digits_stop}
use Rattle.scan.proofs.numbers.Digits.{Digits, number-none, digits-first, digits-done, digits_needless}
use Rattle.scan.proofs.numbers.read_number.Goals as goal

pub returns-then-s-at : goal.returns-then-s-at
returns-then-s-at c =
    let a = c.args in
    number-none a.s.now a.at (digits_end a.s.now a.at c.if-s-at.true)

pub returns-then-class_of-ne-DIGIT : goal.returns-then-class_of-ne-DIGIT
returns-then-class_of-ne-DIGIT c =
    let a = c.args in
    number-none a.s.now a.at (digits_stop a.s.now a.at (λ e. c.if-class_of-ne-DIGIT.true (c.class_of.ensures ∙ e)))

pub returns-then-class_at-eq-DIGIT : goal.returns-then-class_at-eq-DIGIT
returns-then-class_at-eq-DIGIT c =
    let zero : Digits c.args.s.now c.args.at 0 (c.args.at + 1) = let a = c.args in
    let z : get_or a.s.now a.at 0 - 48 ≡ 0 = omega (arith, c.if-first-ne48.false) in
    subst (λ (v : ℕ). Digits a.s.now a.at v (a.at + 1)) z
    (digits-first a.s.now a.at c.if-s-at.false (sym c.class_of.ensures ∙ c.if-class_of-ne-DIGIT.false)) in
    let a = c.args in
    digits_needless a.s.now a.at 0 (a.at + 1) zero (omega arith) c.if-first-ne48.false (sym c.class_at.ensures ∙ c.if-class_at-eq-DIGIT.true)

pub returns : goal.returns
returns c =
    let zero : Digits c.args.s.now c.args.at 0 (c.args.at + 1) = let a = c.args in
    let z : get_or a.s.now a.at 0 - 48 ≡ 0 = omega (arith, c.if-first-ne48.false) in
    subst (λ (v : ℕ). Digits a.s.now a.at v (a.at + 1)) z
    (digits-first a.s.now a.at c.if-s-at.false (sym c.class_of.ensures ∙ c.if-class_of-ne-DIGIT.false)) in
    let a = c.args in
    digits-done a.s.now a.at 0 (a.at + 1) zero (omega arith) (digits_stop a.s.now (a.at + 1) (λ e. c.if-class_at-eq-DIGIT.false (c.class_at.ensures ∙ e))) (λ e. refl)
