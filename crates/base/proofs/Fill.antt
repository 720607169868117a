-- A loop that fills a lent list: f 0 .. f (i - 1), then what is left of the old list.
use mathlib.Core.Path.{◌≡◌, refl, sym, ap, ◌∙◌}
use mathlib.Core.List.{List, [], ◌∷◌, ◌++◌, map, append_assoc}
use Prim.Native.Nat.{ℕ, suc, ◌+◌, ◌<◌, ◌≤◌}
use native.Mathlib.Numerals.{add-one}
use native.Mathlib.Omega.{arith}
use lib.ListN.{length, get_or, take, drop, set, length-append, length-drop, length-map}
use lib.Seq.{drop-cons, set_at, take-suc, length-take-le}
use Rattle.base.specs.Lists.{range}
use Rattle.base.proofs.Lists.{length-range, range_snoc}

module _ {ℓ} {A : Type ℓ} (f : ℕ → A) (old : List A) where
  -- the first i places are filled
  abbrev pub filled : ℕ → List A
  filled i = map f (range 0 i) ++ drop i old

  pub length-made : (i : ℕ) → length (map f (range 0 i)) ≡ i
  length-made i = length-map (range 0 i) f ∙ length-range 0 i

  pub length-filled : (i : ℕ) → i ≤ length old → length (filled i) ≡ length old
  length-filled i l = simp (length-append, length-drop, length-made i) (omega arith)

  map_snoc : (xs : List ℕ) (k : ℕ) → map f (xs ++ (k ∷ [])) ≡ map f xs ++ (f k ∷ [])
  map_snoc [] k = refl
  map_snoc (x ∷ xs) k = ap (λ (ys : List A). f x ∷ ys) (map_snoc xs k)

  -- one more place
  pub filled_next : (d : A) (i : ℕ) → i < length old → set (filled i) i (f i) ≡ filled (i + 1)
  filled_next d i l =
      let e : 0 + i ≡ i = omega arith in
      rw (add-one i, drop-cons old i d l, set_at (map f (range 0 i)) (get_or old i d) (drop (suc i) old) (f i) i (length-made i))
      (sym (append_assoc (map f (range 0 i)) (f i ∷ []) (drop (suc i) old)) ∙ ap (λ (ys : List A). ys ++ drop (suc i) old) (sym (ap (map f) (range_snoc 0 i) ∙ map_snoc (range 0 i) (0 + i) ∙ ap (λ (k : ℕ). map f (range 0 i) ++ (f k ∷ [])) e)))

-- A loop that copies a list over another: one element more
pub copy_one : {A : Type 0} (new old : List A) (d : A) (k : ℕ) → k < length new → k < length old → set (take k new ++ drop k old) k (get_or new k d) ≡ take (k + 1) new ++ drop (k + 1) old
copy_one new old d k h l = rw (add-one k, take-suc new k d h, drop-cons old k d l, set_at (take k new) (get_or old k d) (drop (suc k) old) (get_or new k d) k (length-take-le k new (omega arith)), append_assoc)
