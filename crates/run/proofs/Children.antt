-- The tree of a plan by the indices of its records: the children of a record are the later ones that have it as their
-- parent.
use mathlib.Core.Path.{◌≡◌, refl, sym, ap, ◌∙◌, subst}
use mathlib.Core.Logic.{◌⊎◌, inl, inr, ◌≢◌}
use mathlib.Core.Bool.{Bool, true, false}
use mathlib.Core.List.{List, []}
use Prim.Native.Nat.{ℕ, zero, suc, ◌+◌, ◌-◌, ◌≤◌, ◌<◌}
use native.Mathlib.Omega.{arith}
use lib.Dec.{ltb}
use lib.ListN.{length, drop, drop_of_length-le}
use lib.Seq.{drop-cons}
use borrow.Author.Tests.{ltb-true, ltb-false, eq-eqb, ne_eqb}
use Rattle.base.proofs.Booleans.{same_or}
use Rattle.plan.specs.Groups.{Group, of_fields}
use Rattle.plan.specs.Depths.{group_at}
use Rattle.run.specs.Tree.{Tree, none, node, forest}
use Rattle.run.specs.Plain.{IsLeaf}

-- some of these siblings has the property, with what is below it
abbrev pub Some : (Group → Tree → Type 0) → Tree → Type 0
Some P none = ⊥
Some P (node g below next) = P g below ⊎ Some P next

module _ (gs : List Group) where
  -- the children of the record at index up from index i on
  abbrev pub from : (up i : ℕ) → Tree
  from up i = forest up i (drop i gs)

  -- what is below the record at index i
  abbrev pub under : ℕ → Tree
  under i = from i (suc i)

  module _ (up i : ℕ) where
    from_end : length gs ≤ i → from up i ≡ none
    unfolding forest
    from_end h = rw (drop_of_length-le gs h)

    from-child : i < length gs → (group_at gs i).parent ≡ up → from up i ≡ node (group_at gs i) (under i) (from up (suc i))
    unfolding forest
    from-child h e = rw (drop-cons gs i (of_fields []) h, eq-eqb (group_at gs i).parent up e, forest)

    from-other : i < length gs → (group_at gs i).parent ≢ up → from up i ≡ from up (suc i)
    unfolding forest
    from-other h e = rw (drop-cons gs i (of_fields []) h, ne_eqb (group_at gs i).parent up e, forest)

  -- the record at index c is a child, from index i on
  abbrev Child : (up i c : ℕ) → Type 0
  Child up i c = (i ≤ c) × (c < length gs) × ((group_at gs c).parent ≡ up)

  module _ (P : Group → Tree → Type 0) (up : ℕ) where
    -- m: how many records are left, at most
    some_at_in : (m i : ℕ) → length gs ≤ i + m → Some P (from up i) → (c : ℕ) × Child up i c × P (group_at gs c) (under c)
    some_at_in zero i l s = absurd (subst (Some P) (from_end up i (omega arith)) s)
    some_at_in (suc m) i l s = go (ltb i (length gs)) refl (same_or (group_at gs i).parent up) (some_at_in m (suc i) (omega arith))
      where
        Found : ℕ → Type 0
        Found i = (c : ℕ) × Child up i c × P (group_at gs c) (under c)

        on : Found (suc i) → Found i
        on (c, (a, b, e), p) = (c, (omega arith, b, e), p)

        here : i < length gs → (group_at gs i).parent ≡ up → P (group_at gs i) (under i) ⊎ Some P (from up (suc i)) → (Some P (from up (suc i)) → Found (suc i)) → Found i
        here h e (inl p) ih = (i, (omega arith, h, e), p)
        here h e (inr s) ih = on (ih s)

        go : (b : Bool) → ltb i (length gs) ≡ b → ((group_at gs i).parent ≡ up) ⊎ ((group_at gs i).parent ≢ up) → (Some P (from up (suc i)) → Found (suc i)) → Found i
        go true t (inl e) ih = here (ltb-true i (length gs) t) e (subst (Some P) (from-child up i (ltb-true i (length gs) t) e) s) ih
        go true t (inr e) ih = on (ih (subst (Some P) (from-other up i (ltb-true i (length gs) t) e) s))
        go false t d ih = absurd (subst (Some P) (from_end up i (ltb-false i (length gs) t)) s)

    -- a child with the property, by its index
    pub some_at : (i : ℕ) → Some P (from up i) → (c : ℕ) × Child up i c × P (group_at gs c) (under c)
    some_at i s = some_at_in (length gs) i (omega arith) s

  -- what holds of siblings that begin with the child at index c, and of siblings after which it holds, holds of all
  module _ (Q : Tree → Type 0) (up c : ℕ) (l : c < length gs) (child : (group_at gs c).parent ≡ up)
      (first : (next : Tree) → Q (node (group_at gs c) (under c) next)) (after : (g : Group) (below next : Tree) → Q next → Q (node g below next)) where
    at_in : (m i : ℕ) → i + m ≡ c → Q (from up i)
    at_in zero i e =
        let same : c ≡ i = omega arith in
        subst Q (ap (λ (k : ℕ). node (group_at gs k) (under k) (from up (suc i))) same ∙ sym (from-child up i (omega arith) (ap (λ (k : ℕ). (group_at gs k).parent) (sym same) ∙ child))) (first (from up (suc i)))
    at_in (suc m) i e = go (same_or (group_at gs i).parent up) (at_in m (suc i) (omega arith))
      where
        go : ((group_at gs i).parent ≡ up) ⊎ ((group_at gs i).parent ≢ up) → Q (from up (suc i)) → Q (from up i)
        go (inl d) q = subst Q (sym (from-child up i (omega arith) d)) (after (group_at gs i) (under i) (from up (suc i)) q)
        go (inr d) q = subst Q (sym (from-other up i (omega arith) d)) q

    pub at_child : (i : ℕ) → i ≤ c → Q (from up i)
    at_child i h = at_in (c - i) i (omega arith)

  -- a leaf has nothing below it
  pub leaf-none : (i : ℕ) → IsLeaf gs i → under i ≡ none
  leaf-none i f = go (under i) refl
    where
      go : (T : Tree) → under i ≡ T → T ≡ none
      go none e = refl
      go (node g B next) e =
          let (c, (a, l, p), u) = some_at (λ g B. Unit {0}) i (suc i) (subst (Some (λ g B. Unit {0})) (sym e) (inl tt)) in
          absurd (f c (omega arith) l p)

-- what holds of the whole, and of a record if it holds of its parent, holds of every record
module _ (gs : List Group) (down : (k : ℕ) → 0 < k → k < length gs → (group_at gs k).parent < k)
    (P : ℕ → Type 0) (top : P 0) (child : (i : ℕ) → 0 < i → i < length gs → P (group_at gs i).parent → P i) where
  by_parents_in : (m i : ℕ) → i ≤ m → i < length gs → P i
  by_parents_in zero i l k = let e : 0 ≡ i = omega arith in subst P e top
  by_parents_in (suc m) i l k = go (same_or i 0) (by_parents_in m)
    where
      go : (i ≡ 0) ⊎ (i ≢ 0) → ((i : ℕ) → i ≤ m → i < length gs → P i) → P i
      go (inl e) ih = subst P (sym e) top
      go (inr e) ih =
          let a : 0 < i = omega arith in
          let d = down i a k in
          child i a k (ih (group_at gs i).parent (omega arith) (omega arith))

  pub by_parents : (i : ℕ) → i < length gs → P i
  by_parents i k = by_parents_in i i (omega arith) k
