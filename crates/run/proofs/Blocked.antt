-- Who is blocked: laws, what not to be blocked says, and what changes when more leaves are finished.
use mathlib.Core.Path.{◌≡◌, refl}
use mathlib.Core.Logic.{◌⊎◌, inl, inr}
use mathlib.Core.Bool.{Bool, true, false, not, ◌&&◌, ◌||◌}
use Prim.Native.Nat.{ℕ}
use lib.Dec.{eqb}
use borrow.Author.Tests.{eqb-true, eq-eqb}
use Rattle.base.proofs.Booleans.{and_left, and_right, or_true, or_cases, clash, is_false}
use Rattle.plan.specs.Groups.{Group, blue}
use Rattle.run.specs.Tree.{Tree, node, none, holds, red_open, blocked}
use Rattle.run.proofs.Open.{red_mono}

module _ (fin : Group → Bool) (g : Group) (below next all : Tree) (q : ℕ) where
  -- a blue group with an open red sibling blocks what it holds
  pub blocked-blue : holds g q ≡ true → g.colour ≡ blue → red_open fin all ≡ true → blocked fin q all (node g below next) ≡ true
  unfolding blocked
  blocked-blue h c r = rw (h, eq-eqb g.colour blue c, r) refl

  -- so does a child that blocks it
  pub blocked-below : holds g q ≡ true → blocked fin q below below ≡ true → blocked fin q all (node g below next) ≡ true
  unfolding blocked
  blocked-below h b = rw (h, b, or_true (eqb g.colour blue && red_open fin all)) refl

  -- .. or a later sibling
  pub blocked-next : blocked fin q all next ≡ true → blocked fin q all (node g below next) ≡ true
  unfolding blocked
  blocked-next b = rw b (or_true (holds g q && ((eqb g.colour blue && red_open fin all) || blocked fin q below below)))

  -- why the first sibling blocks
  abbrev Here : Type 0
  Here = (holds g q ≡ true) × (((g.colour ≡ blue) × (red_open fin all ≡ true)) ⊎ (blocked fin q below below ≡ true))

  -- and there is no other reason
  pub blocked-is : blocked fin q all (node g below next) ≡ true → Here ⊎ (blocked fin q all next ≡ true)
  unfolding blocked
  blocked-is h = go (or_cases (holds g q && ((is_blue && red_open fin all) || blocked fin q below below)) (blocked fin q all next) h)
    where
      is_blue : Bool
      is_blue = eqb g.colour blue

      inner : (is_blue && red_open fin all ≡ true) ⊎ (blocked fin q below below ≡ true) → ((g.colour ≡ blue) × (red_open fin all ≡ true)) ⊎ (blocked fin q below below ≡ true)
      inner (inl e) = inl (eqb-true g.colour blue (and_left is_blue (red_open fin all) e), and_right is_blue (red_open fin all) e)
      inner (inr e) = inr e

      go : (holds g q && ((is_blue && red_open fin all) || blocked fin q below below) ≡ true) ⊎ (blocked fin q all next ≡ true) → Here ⊎ (blocked fin q all next ≡ true)
      go (inl e) =
          inl (
            and_left (holds g q) ((is_blue && red_open fin all) || blocked fin q below below) e,
            inner (or_cases (is_blue && red_open fin all) (blocked fin q below below) (and_right (holds g q) ((is_blue && red_open fin all) || blocked fin q below below) e)),
          )
      go (inr e) = inr e

  -- who is not blocked: a blue group that holds it has no open red sibling
  pub not-blocked-blue : blocked fin q all (node g below next) ≡ false → holds g q ≡ true → g.colour ≡ blue → red_open fin all ≡ false
  not-blocked-blue f h c = is_false (λ r. clash (blocked-blue h c r) f)

  -- .. its children do not block it
  pub not-blocked-below : blocked fin q all (node g below next) ≡ false → holds g q ≡ true → blocked fin q below below ≡ false
  not-blocked-below f h = is_false (λ b. clash (blocked-below h b) f)

  -- .. nor do the later siblings
  pub not-blocked-next : blocked fin q all (node g below next) ≡ false → blocked fin q all next ≡ false
  not-blocked-next f = is_false (λ b. clash (blocked-next b) f)

  -- a position that the group does not hold, and the later siblings do not block
  pub free-next : holds g q ≡ false → blocked fin q all next ≡ false → blocked fin q all (node g below next) ≡ false
  free-next h k = is_false (λ b. go (blocked-is b))
    where
      go : Here ⊎ (blocked fin q all next ≡ true) → ⊥
      go (inl e) = clash e.0 h
      go (inr e) = clash e k

  -- a position that neither the group, nor its children, nor the later siblings block
  pub free-here : (g.colour ≡ blue → red_open fin all ≡ false) → blocked fin q below below ≡ false → blocked fin q all next ≡ false → blocked fin q all (node g below next) ≡ false
  free-here r k l = is_false (λ b. go (blocked-is b))
    where
      go : Here ⊎ (blocked fin q all next ≡ true) → ⊥
      go (inl (h, inl (c, o))) = clash o (r c)
      go (inl (h, inr b)) = clash b k
      go (inr e) = clash e l

-- more leaves are finished: who is blocked was so before
pub blocked_mono : (fin new : Group → Bool) → ((g : Group) → not (new g) ≡ true → not (fin g) ≡ true) → (q : ℕ) (all T : Tree) → blocked new q all T ≡ true → blocked fin q all T ≡ true
unfolding blocked
blocked_mono fin new grows q all none h = h
blocked_mono fin new grows q all (node g below next) h = go (blocked-is new g below next all q h) (blocked_mono fin new grows q below below) (blocked_mono fin new grows q all next)
  where
    go : ((holds g q ≡ true) × (((g.colour ≡ blue) × (red_open new all ≡ true)) ⊎ (blocked new q below below ≡ true))) ⊎ (blocked new q all next ≡ true)
        → (blocked new q below below ≡ true → blocked fin q below below ≡ true) → (blocked new q all next ≡ true → blocked fin q all next ≡ true) → blocked fin q all (node g below next) ≡ true
    go (inl (k, inl (c, r))) deep ih = blocked-blue fin g below next all q k c (red_mono fin new grows all r)
    go (inl (k, inr b)) deep ih = blocked-below fin g below next all q k (deep b)
    go (inr e) deep ih = blocked-next fin g below next all q (ih e)
