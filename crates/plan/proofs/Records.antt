-- The records of a plan in their order: each stands after its parent, so its children stand after it.
use mathlib.Core.Path.{◌≡◌, refl, sym, subst, ◌∙◌}
use mathlib.Core.Logic.{◌⊎◌, inl, inr}
use mathlib.Core.Bool.{Bool, true, false, ◌||◌, cond, true≢false}
use mathlib.Core.List.{List, [], ◌∷◌}
use Prim.Native.Nat.{ℕ, suc, ◌+◌, ◌≤◌, ◌<◌}
use native.Mathlib.Omega.{arith}
use native.Mathlib.Numerals.{add-one}
use lib.ListN.{length}
use lib.Dec.{eqb, leb}
use borrow.Author.Tests.{eqb-true, leb-true}
use Rattle.base.specs.Lists.{is_in, from_first}
use Rattle.base.proofs.Booleans.{and_left, and_right, or_true, or_cases, conj_first, conj_at}
use Rattle.plan.specs.Groups.{Group}
use Rattle.plan.specs.Sound.{max_depth, depth_first, children, children_sound, all_sound}
use Rattle.plan.proofs.Children.{children_skip}

-- each record's parent stands before it
abbrev pub Down : ℕ → List Group → Type 0
Down i [] = Unit {0}
Down i (g ∷ gs) = (g.parent < i) × Down (suc i) gs

-- ---- one record of a depth-first list

from_first_in : (v m : ℕ) (xs : List ℕ) → is_in (from_first (eqb v) xs) m ≡ true → is_in xs m ≡ true
from_first_in v m [] h = h
from_first_in v m (x ∷ xs) h = go (eqb v x) h (from_first_in v m xs)
  where
    go : (b : Bool) → is_in (cond b (x ∷ xs) (from_first (eqb v) xs)) m ≡ true → (is_in (from_first (eqb v) xs) m ≡ true → is_in xs m ≡ true) → eqb m x || is_in xs m ≡ true
    go true h ih = h
    go false h ih = rw (ih h) (or_true (eqb m x))

from_first-some : (v : ℕ) (xs : List ℕ) → 1 ≤ length (from_first (eqb v) xs) → is_in xs v ≡ true
from_first-some v [] l = absurd (omega arith)
from_first-some v (x ∷ xs) l = go (eqb v x) refl l (from_first-some v xs)
  where
    go : (b : Bool) → eqb v x ≡ b → 1 ≤ length (cond b (x ∷ xs) (from_first (eqb v) xs)) → (1 ≤ length (from_first (eqb v) xs) → is_in xs v ≡ true) → eqb v x || is_in xs v ≡ true
    go true e l ih = rw e refl
    go false e l ih = rw (ih l) (or_true (eqb v x))

-- its ancestors, the parent first
abbrev pub ancestors : List ℕ → Group → List ℕ
ancestors path g = from_first (eqb g.parent) path

-- its parent is in the path of the record before it, so are all its ancestors, as many as its depth says, and the list
-- goes on from it
pub record Step (path : List ℕ) (i : ℕ) (g : Group) (gs : List Group) : Type 0 where
  pub some : 1 ≤ length (ancestors path g)
  pub parent_in : is_in path g.parent ≡ true
  pub in_path : (m : ℕ) → is_in (ancestors path g) m ≡ true → is_in path m ≡ true
  pub depth : g.depth ≡ length (ancestors path g)
  pub rest : depth_first (i ∷ ancestors path g) (suc i) gs ≡ true

-- what `depth_first` tests of it
pub step_of : (path : List ℕ) (i : ℕ) (g : Group) (gs : List Group) → depth_first path i (g ∷ gs) ≡ true → Step path i g gs
unfolding depth_first
step_of path i g gs h =
    let up : List ℕ = ancestors path g in
    let bs : List Bool = leb (length up) max_depth ∷ eqb g.depth (length up) ∷ depth_first (i ∷ up) (i + 1) gs ∷ [] in
    let one = leb-true 1 (length up) (conj_first (leb 1 (length up)) bs h) in
    record {
      some = one;
      parent_in = from_first-some g.parent path one;
      in_path = λ m k. from_first_in g.parent m path k;
      depth = eqb-true g.depth (length up) (conj_at (leb 1 (length up)) bs h 1);
      rest = subst (λ (k : ℕ). depth_first (i ∷ up) k gs ≡ true) (add-one i) (conj_at (leb 1 (length up)) bs h 2);
    }

-- the path has indices below i only
abbrev pub Before : ℕ → List ℕ → Type 0
Before i path = (m : ℕ) → is_in path m ≡ true → m < i

-- .. so has the path after the next record
pub before-step : (path : List ℕ) (i : ℕ) (g : Group) (gs : List Group) → Step path i g gs → Before i path → Before (suc i) (i ∷ ancestors path g)
before-step path i g gs s b m h = go (or_cases (eqb m i) (is_in (ancestors path g) m) h)
  where
    go : (eqb m i ≡ true) ⊎ (is_in (ancestors path g) m ≡ true) → m < suc i
    go (inl e) = let q : m ≡ i = eqb-true m i e in omega arith
    go (inr e) = omega (arith, b m (s.in_path m e))

-- the path of the whole
pub before-one : Before 1 (0 ∷ [])
before-one m h = go (or_cases (eqb m 0) false h)
  where
    go : (eqb m 0 ≡ true) ⊎ (false ≡ true) → m < 1
    go (inl e) = let q : m ≡ 0 = eqb-true m 0 e in omega arith
    go (inr e) = absurd (true≢false (sym e))

-- in a depth-first list each record's parent stands before it
pub down : (path : List ℕ) (i : ℕ) (gs : List Group) → Before i path → depth_first path i gs ≡ true → Down i gs
down path i [] b h = tt
down path i (g ∷ gs) b h = let s = step_of path i g gs h in (b g.parent s.parent_in, down (i ∷ ancestors path g) (suc i) gs (before-step path i g gs s b) s.rest)

-- ---- children

module _ (far : List ℕ → List ℕ → Bool) (order : List ℕ) where
  -- every record's children, which all stand after it, are as a sound plan's
  abbrev pub Sounds : ℕ → List Group → Type 0
  Sounds i [] = Unit {0}
  Sounds i (g ∷ gs) = (children_sound far order g (children i gs) ≡ true) × Sounds (suc i) gs

  -- what `all_sound` says, where the records `below` that stand before index i have no children from i on
  pub sounds : (below : List Group) (i : ℕ) (gs : List Group) → Down i gs → ((k : ℕ) → i ≤ k → children k below ≡ children k gs) → all_sound far order below i gs ≡ true → Sounds i gs
  unfolding all_sound
  sounds below i [] d r h = tt
  sounds below i (g ∷ gs) d r h = (here, sounds below (suc i) gs d.1 after rest)
    where
      after : (k : ℕ) → suc i ≤ k → children k below ≡ children k gs
      after k l = r k (omega arith) ∙ children_skip k g gs (λ e. omega (arith, d.0))

      here : children_sound far order g (children i gs) ≡ true
      here = subst (λ (l : List Group). children_sound far order g l ≡ true) (r i (omega arith) ∙ children_skip i g gs (λ e. omega (arith, d.0)))
          (and_left (children_sound far order g (children i below)) (all_sound far order below (i + 1) gs) h)

      rest : all_sound far order below (suc i) gs ≡ true
      rest = subst (λ (k : ℕ). all_sound far order below k gs ≡ true) (add-one i) (and_right (children_sound far order g (children i below)) (all_sound far order below (i + 1) gs) h)
