-- Whose the rows of a leaf are, and whether they are blocked: by the record of the leaf.
use mathlib.Core.Path.{◌≡◌, refl, sym, ap, ◌∙◌}
use mathlib.Core.Bool.{Bool, true, false, true≢false}
use mathlib.Core.List.{List, [], ◌∷◌}
use Prim.Native.Nat.{ℕ, suc, ◌+◌, ◌<◌}
use native.Mathlib.Omega.{arith}
use lib.ListN.{length, get_or, drop}
use lib.Dec.{eqb}
use Rattle.matrix.specs.Matrix.{neighbours}
use Rattle.plan.specs.Groups.{Group}
use Rattle.plan.specs.Sound.{apart, sound, is_sound}
use Rattle.plan.proofs.Sound.{sound_facts}
use Rattle.run.specs.Job.{Job}
use Rattle.run.specs.Tree.{none, forest, tree, holds, owner_in, blocked}
use Rattle.run.specs.Updates.{owner}
use Rattle.tables.specs.Code.Laid.{Leaf, has_child}
use Rattle.run.proofs.Holds.{in_holds, owner_here, owner-next}
use Rattle.tables.proofs.FlatOpen.{open_reds}
use Rattle.tables.proofs.WayDown.{leaf_from, leaf_in, leaf_out}
use Rattle.tables.proofs.LeafIndex.{LeafAt, leaf_at, leaf_index}
use Rattle.tables.proofs.LeafWait.{Forward, leaf_wait}

-- ---- the owner, on the way down

-- `firsts` has the first worker of each record from index i on
abbrev Firsts : (ℕ → ℕ) → ℕ → List Group → Type 0
Firsts firsts i [] = Unit {0}
Firsts firsts i (g ∷ gs) = (firsts i ≡ g.first) × Firsts firsts (suc i) gs

owner_down : (q : ℕ) (firsts : ℕ → ℕ) (leader up i : ℕ) (gs : List Group) → firsts up ≡ leader → Firsts firsts i gs → owner_in leader q (forest up i gs) ≡ firsts (leaf_from q up i gs)
unfolding forest owner_in leaf_from
owner_down q firsts leader up i [] e f = sym e
owner_down q firsts leader up i (g ∷ gs) e f =
    go (eqb g.parent up) refl (holds g q) refl (owner_down q firsts g.first i (suc i) gs f.0 f.1) (owner_down q firsts leader up (suc i) gs e f.1)
  where
    go : (b : Bool) → eqb g.parent up ≡ b → (c : Bool) → holds g q ≡ c
        → owner_in g.first q (forest i (suc i) gs) ≡ firsts (leaf_from q i (suc i) gs) → owner_in leader q (forest up (suc i) gs) ≡ firsts (leaf_from q up (suc i) gs)
        → owner_in leader q (forest up i (g ∷ gs)) ≡ firsts (leaf_from q up i (g ∷ gs))
    go true x true y below after = rw (x, forest) (owner_here g (forest i (suc i) gs) (forest up (suc i) gs) leader q y ∙ below) ∙ ap firsts (sym (leaf_in q up i g gs (rw (x, y) refl)))
    go true x false y below after = rw (x, forest) (owner-next g (forest i (suc i) gs) (forest up (suc i) gs) leader q y ∙ after) ∙ ap firsts (sym (leaf_out q up i g gs (rw (x, y) refl)))
    go false x c y below after = rw (x, forest) after ∙ ap firsts (sym (leaf_out q up i g gs (rw x refl)))

firsts_at : (d : Group) (all : List Group) (k : ℕ) (gs : List Group) → ((i : ℕ) → get_or all (k + i) d ≡ get_or gs i d) → Firsts (λ i. (get_or all i d).first) k gs
firsts_at d all k [] h = tt
firsts_at d all k (g ∷ gs) h = (
  (let e : k + 0 ≡ k = omega arith in ap (λ (i : ℕ). (get_or all i d).first) (sym e) ∙ ap (λ (g : Group). g.first) (h 0)),
  firsts_at d all (suc k) gs (λ i. (let e : suc k + i ≡ k + suc i = omega arith in ap (λ (y : ℕ). get_or all y d) e) ∙ h (suc i)),
)

leaf-owner : (adj : ℕ → List ℕ) (n : ℕ) (order : List ℕ) (g : Group) (gs : List Group) → sound (apart adj) n order (g ∷ gs) ≡ true
    → (q : ℕ) → q < n → (i : ℕ) (d : Group) → LeafAt q 0 (g ∷ gs) i → owner_in 0 q (tree (g ∷ gs)) ≡ (get_or (g ∷ gs) i d).first
unfolding tree
leaf-owner adj n order g gs ok q low i d at =
    let f = sound_facts (apart adj) n order g gs ok in
    owner_here g (forest 0 1 gs) none 0 q (in_holds g q (omega (arith, f.start)) (omega (arith, f.start, f.covers)))
    ∙ owner_down q (λ k. (get_or (g ∷ gs) k d).first) g.first 0 1 gs refl (firsts_at d (g ∷ gs) 1 gs (λ k. (let e : 1 + k ≡ suc k = omega arith in ap (λ (y : ℕ). get_or (g ∷ gs) y d) e)))
    ∙ ap (λ (k : ℕ). (get_or (g ∷ gs) k d).first) (leaf_index adj n order g gs ok q i at)

-- ---- for a job

module _ (j : Job) (ok : is_sound j.matrix j.plan ≡ true) (d : Group) where
  -- the rows that a leaf holds are its first worker's
  pub leaf-rows : (i : ℕ) → Leaf j i → (q : ℕ) → q < j.matrix.n → holds (get_or j.plan.groups i d) q ≡ true → owner j q ≡ (get_or j.plan.groups i d).first
  unfolding owner is_sound sound
  leaf-rows i l q low h = go j.plan.groups ok l.inside l.childless h
    where
      go : (gs : List Group) → sound (apart (neighbours j.matrix)) j.matrix.n j.plan.order gs ≡ true → i < length gs → has_child i (drop 1 gs) ≡ false → holds (get_or gs i d) q ≡ true
          → owner_in 0 q (tree gs) ≡ (get_or gs i d).first
      go [] s a b c = absurd (true≢false (sym s))
      go (g ∷ gs) s a b c = leaf-owner (neighbours j.matrix) j.matrix.n j.plan.order g gs s q low i d (leaf_at q g gs i d a c b)

  -- a row of a leaf is blocked if the forward pass has the leaf blocked
  pub leaf-blocked : (fin : Group → Bool) (q i : ℕ) → Leaf j i → q < j.matrix.n → holds (get_or j.plan.groups i d) q ≡ true
      → (blocks : ℕ → Bool) → blocks 0 ≡ false → Forward (λ up. open_reds fin up 1 (drop 1 j.plan.groups)) blocks 1 (drop 1 j.plan.groups)
      → blocked fin q (tree j.plan.groups) (tree j.plan.groups) ≡ blocks i
  unfolding is_sound sound
  leaf-blocked fin q i l low h blocks start pass = go j.plan.groups ok l.inside l.childless h pass
    where
      go : (gs : List Group) → sound (apart (neighbours j.matrix)) j.matrix.n j.plan.order gs ≡ true → i < length gs → has_child i (drop 1 gs) ≡ false → holds (get_or gs i d) q ≡ true
          → Forward (λ up. open_reds fin up 1 (drop 1 gs)) blocks 1 (drop 1 gs) → blocked fin q (tree gs) (tree gs) ≡ blocks i
      go [] s a b c p = absurd (true≢false (sym s))
      go (g ∷ gs) s a b c p = sym (leaf_wait (neighbours j.matrix) j.matrix.n j.plan.order g gs s fin q low blocks start p i (leaf_at q g gs i d a c b))
