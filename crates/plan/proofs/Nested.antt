-- Where the children of a group stand among records that are depth first: after it, and before the first later record
-- whose parent is before it.
use mathlib.Core.Path.{◌≡◌, refl, sym, ap, ◌∙◌, subst}
use mathlib.Core.Logic.{◌⊎◌, inl, inr, ◌≢◌}
use mathlib.Core.Bool.{Bool, true, false, cond, true≢false}
use mathlib.Core.List.{List, [], ◌∷◌}
use Prim.Native.Nat.{ℕ, zero, suc, ◌+◌, ◌-◌, ◌≤◌, ◌<◌}
use native.Mathlib.Omega.{arith}
use native.Mathlib.Numerals.{add-one}
use lib.Dec.{eqb}
use lib.ListN.{drop}
use lib.Seq.{drop-drop}
use borrow.Author.Tests.{eqb-true, ne_eqb}
use Rattle.base.specs.Lists.{is_in, from_first}
use Rattle.base.proofs.Booleans.{or_cases, clash, is_false}
use Rattle.plan.specs.Groups.{Group, records}
use Rattle.plan.specs.Sound.{depth_first, children}
use Rattle.plan.specs.Code.Checks.{record_at, below_whole, stands_depth_first}
use Rattle.plan.proofs.Records.{Down, ancestors, Step, step_of, before-one, down}
use Rattle.plan.proofs.Children.{children_skip, children-keep}
use Rattle.plan.proofs.FlatRecords.{records_at, records-none}

-- ---- paths

-- each number is below the one before it, the first below i
abbrev Falling : ℕ → List ℕ → Type 0
Falling i [] = Unit {0}
Falling i (x ∷ xs) = (x < i) × Falling x xs

falling_more : (i k : ℕ) (xs : List ℕ) → i ≤ k → Falling i xs → Falling k xs
falling_more i k [] l f = tt
falling_more i k (x ∷ xs) l f = (omega arith, f.1)

falling_in : (i v : ℕ) (xs : List ℕ) → Falling i xs → is_in xs v ≡ true → v < i
falling_in i v [] f h = absurd (true≢false (sym h))
falling_in i v (x ∷ xs) f h = go (or_cases (eqb v x) (is_in xs v) h) (falling_in x v xs f.1)
  where
    go : (eqb v x ≡ true) ⊎ (is_in xs v ≡ true) → (is_in xs v ≡ true → v < x) → v < i
    go (inl e) ih = let q : v ≡ x = eqb-true v x e in omega arith
    go (inr m) ih = let q = ih m in omega arith

-- from the parent p on the path falls from p
falling_up : (i p : ℕ) (xs : List ℕ) → Falling i xs → Falling (suc p) (from_first (eqb p) xs)
falling_up i p [] f = tt
falling_up i p (x ∷ xs) f = go (eqb p x) refl (falling_up x p xs f.1)
  where
    go : (b : Bool) → eqb p x ≡ b → Falling (suc p) (from_first (eqb p) xs) → Falling (suc p) (cond b (x ∷ xs) (from_first (eqb p) xs))
    go true e ih = let q : p ≡ x = eqb-true p x e in (omega arith, f.1)
    go false e ih = ih

-- the path of the next record falls too
falling_step : (i : ℕ) (path : List ℕ) (g : Group) (gs : List Group) → Falling i path → Step path i g gs → Falling (suc i) (i ∷ ancestors path g)
falling_step i path g gs f s =
    let low = falling_in i g.parent path f s.parent_in in
    (omega arith, falling_more (suc g.parent) i (ancestors path g) (omega arith) (falling_up i g.parent path f))

-- the path of the record before the one at j
reached : (i j : ℕ) (path : List ℕ) (gs : List Group) → Falling i path → depth_first path i gs ≡ true
    → (path' : List ℕ) × Falling (i + j) path' × (depth_first path' (i + j) (drop j gs) ≡ true)
unfolding depth_first
reached i zero path gs f h = let e : i ≡ i + 0 = omega arith in (path, falling_more i (i + 0) path (omega arith) f, subst (λ (k : ℕ). depth_first path k gs ≡ true) e h)
reached i (suc j) path [] f h = ([], tt, refl)
reached i (suc j) path (g ∷ gs) f h =
    let s = step_of path i g gs h in
    let (path', f', h') = reached (suc i) j (i ∷ ancestors path g) gs (falling_step i path g gs f s) s.rest in
    let e : suc i + j ≡ i + suc j = omega arith in
    (path', falling_more (suc i + j) (i + suc j) path' (omega arith) f', subst (λ (k : ℕ). depth_first path' k (drop j gs) ≡ true) e h')

-- ---- children

-- who is not on the path has no more children
gone : (k i : ℕ) (path : List ℕ) (gs : List Group) → k < i → is_in path k ≡ false → depth_first path i gs ≡ true → children k gs ≡ []
unfolding children
gone k i path [] l out h = refl
gone k i path (g ∷ gs) l out h =
    let s = step_of path i g gs h in
    children_skip k g gs (λ (e : g.parent ≡ k). clash s.parent_in (subst (λ (x : ℕ). is_in path x ≡ false) (sym e) out))
    ∙ gone k (suc i) (i ∷ ancestors path g) gs (omega arith) (rw (ne_eqb k i (λ (e : k ≡ i). omega arith)) (is_false (λ (e : is_in (ancestors path g) k ≡ true). clash (s.in_path k e) out))) s.rest

-- a record whose parent is before k ends the group at k
over : (k i : ℕ) (path : List ℕ) (g : Group) (gs : List Group) → Falling i path → depth_first path i (g ∷ gs) ≡ true → k < i → g.parent < k → children k (g ∷ gs) ≡ []
over k i path g gs f h l b =
    let s = step_of path i g gs h in
    children_skip k g gs (λ (e : g.parent ≡ k). omega arith)
    ∙ gone k (suc i) (i ∷ ancestors path g) gs (omega arith)
    (rw (ne_eqb k i (λ (e : k ≡ i). omega arith)) (is_false (λ (e : is_in (ancestors path g) k ≡ true). omega (arith, falling_in (suc g.parent) k (ancestors path g) (falling_up i g.parent path f) e)))) s.rest

-- the records up to index k are none of k's children
later : (k i j : ℕ) (gs : List Group) → Down i gs → i + j ≤ suc k → children k gs ≡ children k (drop j gs)
later k i zero gs d l = refl
later k i (suc j) [] d l = refl
later k i (suc j) (g ∷ gs) d l = children_skip k g gs (λ (e : g.parent ≡ k). omega (arith, d.0)) ∙ later k (suc i) j gs d.1 (omega arith)

-- ---- the records of a flat list

module _ (count : ℕ) (ns : List ℕ) (nested : stands_depth_first count ns ≡ true) where
  -- none of k's children is left where a record's parent is before k
  pub children-ended : (k i : ℕ) → k < i → i < count → (record_at ns i).parent < k → children k (drop i (records count ns)) ≡ []
  children-ended k i l h b =
      let e : 1 + (i - 1) ≡ i = omega arith in
      let d : drop (i - 1) (below_whole count ns) ≡ record_at ns i ∷ drop (suc i) (records count ns) = drop-drop (i - 1) 1 (records count ns) ∙ ap (λ (j : ℕ). drop j (records count ns)) e ∙ records_at count i ns h in
      let (path, f, q) = reached 1 (i - 1) (0 ∷ []) (below_whole count ns) (omega arith, tt) nested in
      ap (children k) (records_at count i ns h) ∙ over k (1 + (i - 1)) path (record_at ns i) (drop (suc i) (records count ns)) f (rw d at q) (omega arith) b

  pub children-later : (k : ℕ) → children k (below_whole count ns) ≡ children k (drop (k + 1) (records count ns))
  children-later k =
      let e : 1 + k ≡ k + 1 = omega arith in
      later k 1 k (below_whole count ns) (down (0 ∷ []) 1 (below_whole count ns) before-one nested) (omega arith)
      ∙ ap (children k) (drop-drop k 1 (records count ns) ∙ ap (λ (j : ℕ). drop j (records count ns)) e)

-- the record at i is k's child, or not
pub children_at : (count k i : ℕ) (ns : List ℕ) → i < count → (record_at ns i).parent ≡ k
    → children k (drop i (records count ns)) ≡ record_at ns i ∷ children k (drop (i + 1) (records count ns))
children_at count k i ns l e = rw (records_at count i ns l, add-one i) (children-keep k (record_at ns i) (drop (suc i) (records count ns)) e)

pub children-past : (count k i : ℕ) (ns : List ℕ) → i < count → (record_at ns i).parent ≢ k
    → children k (drop i (records count ns)) ≡ children k (drop (i + 1) (records count ns))
children-past count k i ns l d = rw (records_at count i ns l, add-one i) (children_skip k (record_at ns i) (drop (suc i) (records count ns)) d)

pub children-over : (count k i : ℕ) (ns : List ℕ) → count ≤ i → children k (drop i (records count ns)) ≡ []
unfolding children
children-over count k i ns l = ap (children k) (records-none count i ns l)
