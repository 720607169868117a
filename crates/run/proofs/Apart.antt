-- Rows of groups that are apart have no sum in common.
use mathlib.Core.Path.{◌≡◌, refl, sym, ap, ◌∙◌, subst}
use mathlib.Core.Logic.{◌⊎◌, inl, inr}
use mathlib.Core.Bool.{Bool, true, ◌||◌}
use mathlib.Core.List.{List, [], ◌∷◌}
use Prim.Native.Nat.{ℕ, zero, suc, ◌+◌, ◌-◌, ◌<◌}
use native.Mathlib.Omega.{arith}
use lib.ListN.{length, get_or, take, drop, length-take, length-drop}
use lib.Seq.{get_or-take, get_or-drop}
use lib.Dec.{eqb}
use borrow.Author.Tests.{eq-eqb, not-true}
use Rattle.base.specs.Lists.{any, is_in}
use Rattle.base.proofs.Booleans.{or_true, clash}
use Rattle.base.proofs.Graph.{Graph}
use Rattle.base.proofs.Lists.{any_of}
use Rattle.plan.specs.Groups.{Group}
use Rattle.plan.specs.Sound.{apart, stretch_of}
use Rattle.run.specs.Tree.{holds}
use Rattle.run.proofs.Holds.{holds_in}

get_d_in : (xs : List ℕ) (k : ℕ) → k < length xs → is_in xs (get_or xs k 0) ≡ true
get_d_in [] k l = absurd (omega arith)
get_d_in (x ∷ xs) zero l = rw (eq-eqb x x refl) refl
get_d_in (x ∷ xs) (suc k) l = rw (get_d_in xs k (omega arith)) (or_true (eqb (get_or xs k 0) x))

module _ (adj : ℕ → List ℕ) (order : List ℕ) where
  -- the sums that the row at position q updates are its own and those of adjacent rows
  abbrev pub Touch : ℕ → ℕ → Type 0
  Touch q t = (t ≡ q) ⊎ (is_in (adj (get_or order q 0)) (get_or order t 0) ≡ true)

  -- the rows at p and q have no sum in common, unless they are one row
  abbrev pub Clear : ℕ → ℕ → Type 0
  Clear p q = (t : ℕ) → Touch p t → Touch q t → p ≡ q

  -- it does not matter which is named first
  pub clear_sym : (p q : ℕ) → Clear p q → Clear q p
  clear_sym p q h t a b = sym (h t b a)

  -- the row at a position that a group holds is a row of the group
  in_rows_lem : (g : Group) (q : ℕ) → holds g q ≡ true → q < length order → is_in (stretch_of order g) (get_or order q 0) ≡ true
  unfolding stretch_of
  in_rows_lem g q h l =
      let (a, b) = holds_in g q h in
      let i : ℕ = q - g.start in
      let e : g.start + i ≡ q = omega arith in
      let rows : List ℕ = take g.length (drop g.start order) in
      let c : get_or rows i 0 ≡ get_or order q 0 = get_or-take g.length (drop g.start order) i 0 (omega arith) ∙ get_or-drop g.start order i 0 ∙ ap (λ (y : ℕ). get_or order y 0) e in
      subst (λ (y : ℕ). is_in rows y ≡ true) c (get_d_in rows i (omega (arith, length-take g.length (drop g.start order), length-drop g.start order)))

  -- positions of two groups that are apart
  pub apart-clear : {n : ℕ} → Graph adj n → (g h : Group) (p q : ℕ) → apart adj (stretch_of order g) (stretch_of order h) ≡ true
      → holds g p ≡ true → p < length order → holds h q ≡ true → q < length order → Clear p q
  unfolding apart
  apart-clear G g h p q e hp lp hq lq t x y = go x y
    where
      u : ℕ
      u = get_or order p 0

      v : ℕ
      v = get_or order q 0

      test : ℕ → ℕ → Bool
      test u v = is_in (adj v) u || any (is_in (adj u)) (adj v)

      never : test u v ≡ true → ⊥
      never z = clash (any_of (λ u. any (test u) (stretch_of order h)) (stretch_of order g) u (in_rows_lem g p hp lp) (any_of (test u) (stretch_of order h) v (in_rows_lem h q hq lq) z)) (not-true _ e)

      go : Touch p t → Touch q t → p ≡ q
      go (inl e) (inl f) = sym e ∙ f
      go (inl e) (inr f) = absurd (never (rw (subst (λ (y : ℕ). is_in (adj v) (get_or order y 0) ≡ true) e f) refl))
      go (inr e) (inl f) = absurd (never (rw (G.both v u (subst (λ (y : ℕ). is_in (adj u) (get_or order y 0) ≡ true) f e)) refl))
      go (inr e) (inr f) = absurd (never (rw (any_of (is_in (adj u)) (adj v) (get_or order t 0) f e) (or_true (is_in (adj v) u))))
