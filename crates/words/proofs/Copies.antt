-- A list copied over another, element by element: from the front, or from a place to a place.
use mathlib.Core.Path.{◌≡◌, sym, ap, ap₂, ◌∙◌}
use mathlib.Core.List.{List, [], ◌∷◌, ◌++◌, append_assoc}
use Prim.Native.Nat.{ℕ, zero, suc, ◌+◌, ◌≤◌, ◌<◌, min}
use native.Mathlib.Nat.{add-zero, add-suc, suc-add, le_of_lt, zero-min, min-zero, suc-min-suc}
use native.Mathlib.Numerals.{add-one}
use native.Mathlib.Omega.{arith}
use lib.ListN.{length, get_or, set, take, drop, length-drop}
use lib.Seq.{sets, sets-eq, drop-cons, set_at, take-suc, get_or-drop, length-take-le}
use Rattle.words.specs.LittleEndian.{stored}

module _ {A : Type 0} where
  -- a run of stores goes on where the one before it ended
  pub sets-append : (l : List A) (i : ℕ) (xs ys : List A) → sets l i (xs ++ ys) ≡ sets (sets l i xs) (i + length xs) ys
  sets-append l i [] ys = rw add-zero
  sets-append l i (x ∷ xs) ys = sets-append (set l i x) (suc i) xs ys ∙ rw (add-suc i (length xs), suc-add i (length xs))

  -- taking n takes no more than there are
  pub take_min : (n : ℕ) (xs : List A) → take (min (length xs) n) xs ≡ take n xs
  take_min zero xs = rw min-zero
  take_min (suc n) [] = rw zero-min
  take_min (suc n) (x ∷ xs) = rw (suc-min-suc, take_min n xs)

  -- one element more
  pub stored_more : (new old : List A) (k : ℕ) (z : A) → k < length new → k < length old
      → set (stored (take k new) old) k (get_or new k z) ≡ stored (take (k + 1) new) old
  stored_more new old k z hn ho =
      let short : length (take k new) ≡ k = length-take-le k new (le_of_lt hn) in
      let long : length (take (suc k) new) ≡ suc k = length-take-le (suc k) new hn in
      rw (add-one k, short, long, drop-cons old k z, set_at (take k new) (get_or old k z) (drop (suc k) old) (get_or new k z) k short, take-suc new k z, append_assoc)

  -- a run of stores from the front on
  pub sets-front : (new old : List A) → length new ≤ length old → sets old 0 new ≡ stored new old
  sets-front new old h =
      let none : 0 + length new ≡ length new = omega arith in
      sets-eq new old 0 (omega arith) ∙ ap (λ (k : ℕ). new ++ drop k old) none

-- one byte more, from a place to a place
pub copy_more : (to from : List ℕ) (at start k : ℕ) → start + k < length from
    → set (sets to at (take k (drop start from))) (at + k) (get_or from (start + k) 0) ≡ sets to at (take (k + 1) (drop start from))
copy_more to from at start k h =
    let X : List ℕ = drop start from in
    let l : k < length X = rw (length-drop start from) (omega arith) in
    let size : length (take k X) ≡ k = length-take-le k X (omega arith) in
    sym
    (ap (λ (j : ℕ). sets to at (take j X)) (add-one k) ∙ ap (sets to at) (take-suc X k 0 l) ∙ sets-append to at (take k X) (get_or X k 0 ∷ [])
    ∙ ap₂ (λ (i v : ℕ). set (sets to at (take k X)) (at + i) v) size (get_or-drop start from k 0))
