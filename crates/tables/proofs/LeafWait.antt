-- The wait of a leaf by one forward pass along the parents: a record is blocked if its parent is, or if it is blue and
-- has an open red sibling.
use mathlib.Core.Path.{◌≡◌, refl, sym, ap, ◌∙◌, subst}
use mathlib.Core.Bool.{Bool, true, false, ◌&&◌, ◌||◌}
use mathlib.Core.List.{List, [], ◌∷◌}
use Prim.Native.Nat.{ℕ, suc, ◌<◌}
use lib.Dec.{eqb}
use borrow.Author.Tests.{eqb-true}
use Rattle.base.proofs.Booleans.{or_false, clash, is_false}
use Rattle.plan.specs.Groups.{Group, blue}
use Rattle.plan.specs.Sound.{apart, children, sound}
use Rattle.plan.proofs.Sound.{sound_facts}
use Rattle.run.specs.Tree.{tree, holds, blocked}
use Rattle.tables.proofs.FlatOpen.{open_reds}
use Rattle.tables.proofs.WayDown.{held, blocked_from, blocked-held, leaf_from, leaf_in, leaf_out}
use Rattle.tables.proofs.Nesting.{Separate, separate}
use Rattle.tables.proofs.FlatWait.{wait_down}
use Rattle.tables.proofs.LeafIndex.{LeafAt, leaf_index}

-- the pass over the records from index i on; `opened up`: the group at index up has an open red child
abbrev pub Forward : (opened blocks : ℕ → Bool) → ℕ → List Group → Type 0
Forward opened blocks i [] = Unit {0}
Forward opened blocks i (g ∷ gs) = (blocks i ≡ blocks g.parent || (eqb g.colour blue && opened g.parent)) × Forward opened blocks (suc i) gs

module _ (q : ℕ) (opened blocks : ℕ → Bool) where
  -- what the pass has for the leaf at the end of the way down
  passed : (up i : ℕ) (gs : List Group) → Separate q gs → Forward opened blocks i gs → blocks (leaf_from q up i gs) ≡ blocks up || blocked_from q opened up i gs
  unfolding blocked_from leaf_from
  passed up i [] s f = sym (or_false (blocks up))
  passed up i (g ∷ gs) s f = go (eqb g.parent up) refl (holds g q) refl (passed i (suc i) gs s.1 f.1) (passed up (suc i) gs s.1 f.1)
    where
      is_blue : Bool
      is_blue = eqb g.colour blue && opened up

      below : Bool
      below = blocked_from q opened i (suc i) gs

      later : Bool
      later = blocked_from q opened up (suc i) gs

      later-none : g.parent ≡ up → holds g q ≡ true → later ≡ false
      later-none e h = is_false (λ x. clash (blocked-held q opened up (suc i) gs x) (subst (λ (p : ℕ). held q (children p gs) ≡ false) e (s.0 h)))

      assoc : (a b c : Bool) → (a || b) || c ≡ a || ((b || c) || false)
      assoc true b c = refl
      assoc false true c = refl
      assoc false false true = refl
      assoc false false false = refl

      go : (b : Bool) → eqb g.parent up ≡ b → (h : Bool) → holds g q ≡ h → blocks (leaf_from q i (suc i) gs) ≡ blocks i || below → blocks (leaf_from q up (suc i) gs) ≡ blocks up || later
          → blocks (leaf_from q up i (g ∷ gs)) ≡ blocks up || ((eqb g.parent up && (holds g q && (is_blue || below))) || later)
      go true e true h x y =
          let p = eqb-true g.parent up e in
          rw (e, h, later-none p h)
          (ap blocks (leaf_in q up i g gs (rw (e, h) refl)) ∙ x
          ∙ ap (λ (b : Bool). b || below) (subst (λ (m : ℕ). blocks i ≡ blocks m || (eqb g.colour blue && opened m)) p f.0) ∙ assoc (blocks up) is_blue below)
      go true e false h x y = rw (e, h) (ap blocks (leaf_out q up i g gs (rw (e, h) refl)) ∙ y)
      go false e h' h x y = rw e (ap blocks (leaf_out q up i g gs (rw e refl)) ∙ y)

-- the wait of a worker whose next row lies in the leaf at index i is what the pass has for that leaf
pub leaf_wait : (adj : ℕ → List ℕ) (n : ℕ) (order : List ℕ) (g : Group) (gs : List Group) → sound (apart adj) n order (g ∷ gs) ≡ true → (fin : Group → Bool) (q : ℕ) → q < n
    → (blocks : ℕ → Bool) → blocks 0 ≡ false → Forward (λ up. open_reds fin up 1 gs) blocks 1 gs
    → (i : ℕ) → LeafAt q 0 (g ∷ gs) i → blocks i ≡ blocked fin q (tree (g ∷ gs)) (tree (g ∷ gs))
leaf_wait adj n order g gs ok fin q low blocks none pass i at =
    let f = sound_facts (apart adj) n order g gs ok in
    let opened : ℕ → Bool = λ up. open_reds fin up 1 gs in
    ap blocks (sym (leaf_index adj n order g gs ok q i at)) ∙ passed q opened blocks 0 1 gs (separate q adj order g gs f.down f.under) pass
    ∙ ap (λ (b : Bool). b || blocked_from q opened 0 1 gs) none ∙ sym (wait_down adj n order g gs ok fin q low)
