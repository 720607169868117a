-- A group's stretch of the first n places of an order, as the code takes it: cut off at n.
use mathlib.Core.Path.{◌≡◌, refl, sym, ap, ◌∙◌, subst}
use mathlib.Core.Bool.{Bool, true, false}
use mathlib.Core.List.{List, []}
use Prim.Native.Nat.{ℕ, ◌+◌, ◌-◌, ◌≤◌, ◌<◌, min}
use native.Mathlib.Omega.{arith}
use lib.Dec.{leb}
use lib.ListN.{length, get_or, take, drop, length-take, length-drop, drop_of_length-le}
use lib.Seq.{take_all, take-nil, take-take, length-take-le, get_or-take, get_or-drop}
use borrow.Author.Tests.{leb-true, leb-false}
use Rattle.base.proofs.Lists.{take-drop}
use Rattle.plan.specs.Sound.{each_once}
use Rattle.plan.proofs.Once.{once, low_at}

pub stretch : (n start size : ℕ) (order : List ℕ) → n ≤ length order → take (min (start + size) n - min start n) (drop (min start n) order) ≡ take size (drop start (take n order))
stretch n start size order l = go (leb start n) refl (leb (start + size) n) refl
  where
    go : (b : Bool) → leb start n ≡ b → (c : Bool) → leb (start + size) n ≡ c → take (min (start + size) n - min start n) (drop (min start n) order) ≡ take size (drop start (take n order))
    go true e true f =
        let a : min start n ≡ start = omega (arith, leb-true start n e) in
        let b : min (start + size) n - min start n ≡ size = omega (arith, leb-true (start + size) n f) in
        rw (b, a) (sym (take-take size (n - start) (drop start order) (omega (arith, leb-true (start + size) n f))) ∙ ap (take size) (take-drop start n order))
    go true e false f =
        let a : min start n ≡ start = omega (arith, leb-true start n e) in
        let b : min (start + size) n - min start n ≡ n - start = omega (arith, leb-true start n e, leb-false (start + size) n f) in
        rw (b, a) (take-drop start n order ∙ sym (take_all size (drop start (take n order)) (omega (arith, length-drop start (take n order), length-take-le n order l, leb-false (start + size) n f))))
    go false e c f =
        let b : min (start + size) n - min start n ≡ 0 = omega (arith, leb-false start n e) in
        let none : drop start (take n order) ≡ [] = drop_of_length-le (take n order) {i = start} (omega (arith, length-take-le n order l, leb-false start n e)) in
        rw (b, none) (sym (take-nil size))

-- the rows of a part of the first n places
pub part_low : (n from to : ℕ) (order : List ℕ) → ((j : ℕ) → j < n → get_or order j 0 < n) → to ≤ n
    → (j : ℕ) → j < length (take (to - from) (drop from order)) → get_or (take (to - from) (drop from order)) j 0 < n
part_low n from to order low l j h =
    let short : j < to - from = omega (arith, length-take (to - from) (drop from order)) in
    subst (λ (v : ℕ). v < n) (sym (get_or-take (to - from) (drop from order) j 0 short ∙ get_or-drop from order j 0)) (low (from + j) (omega arith))

-- an order that has each row once has rows only
pub order-low : (n : ℕ) (order : List ℕ) → each_once n (take n order) ≡ true → (j : ℕ) → j < n → get_or order j 0 < n
order-low n order h j l =
    let w = once n (take n order) h in
    subst (λ (v : ℕ). v < n) (get_or-take n order j 0 l) (low_at n (take n order) j w.low (omega (arith, w.long)))
