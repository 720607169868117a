-- The wait by the plan's records: who waits must wait, and who must wait waits.
use mathlib.Core.Path.{◌≡◌, refl, sym, ap, ◌∙◌, subst}
use mathlib.Core.Logic.{◌⊎◌, inl, inr, ◌≢◌}
use mathlib.Core.Bool.{Bool, true, false, not, true≢false}
use mathlib.Core.List.{List, []}
use Prim.Native.Nat.{ℕ, zero, suc, ◌+◌, ◌≤◌, ◌<◌}
use native.Mathlib.Omega.{arith}
use lib.Dec.{ltb}
use lib.ListN.{length, get_or-eq_default}
use borrow.Author.Tests.{ltb-true, ltb-false, not-true}
use Rattle.base.proofs.Booleans.{or_true, or_cases, or_false}
use Rattle.plan.specs.Groups.{Group, of_fields, whole, red, blue}
use Rattle.plan.specs.Depths.{group_at}
use Rattle.run.specs.Tree.{Tree, none, node, holds, unfinished, red_open, blocked}
use Rattle.run.specs.Job.{Job}
use Rattle.run.specs.Updates.{finished, next}
use Rattle.run.specs.Plain.{IsLeaf, LiesIn, itself, by_parent, MustWait}
use Rattle.run.proofs.Holds.{holds_in, in_holds}
use Rattle.run.proofs.Leaves.{unfinished-left, left-unfinished}
use Rattle.run.proofs.Open.{unfinished-split, red-here, red-next, red-is}
use Rattle.run.proofs.Blocked.{blocked-blue, blocked-below, blocked-next, blocked-is}
use Rattle.run.proofs.Children.{Some, under, some_at, at_child, leaf-none, by_parents}

-- ---- of trees

module _ (fin : Group → Bool) where
  -- the group has an unfinished leaf
  abbrev pub Open : Group → Tree → Type 0
  Open g B = unfinished fin (node g B none) ≡ true

  open_some : (T : Tree) → unfinished fin T ≡ true → Some Open T
  unfolding unfinished
  open_some none h = true≢false (sym h)
  open_some (node g B next) h = go (or_cases (unfinished fin (node g B none)) (unfinished fin next) (sym (unfinished-split fin g B next) ∙ h)) (open_some next)
    where
      go : Open g B ⊎ (unfinished fin next ≡ true) → (unfinished fin next ≡ true → Some Open next) → Some Open (node g B next)
      go (inl e) ih = inl e
      go (inr e) ih = inr (ih e)

  open_first : (g : Group) (B next : Tree) → Open g B → unfinished fin (node g B next) ≡ true
  open_first g B next o = unfinished-split fin g B next ∙ rw o refl

  open_after : (g : Group) (B next : Tree) → unfinished fin next ≡ true → unfinished fin (node g B next) ≡ true
  open_after g B next u = unfinished-split fin g B next ∙ rw u (or_true (unfinished fin (node g B none)))

  -- itself as a leaf, or one below it
  open_is : (g : Group) (B : Tree) → Open g B → ((B ≡ none) × (fin g ≡ false)) ⊎ (unfinished fin B ≡ true)
  unfolding unfinished
  open_is g none o = inl (refl, not-true (fin g) (sym (or_false (not (fin g))) ∙ o))
  open_is g (node k kb kn) o = inr (sym (or_false (unfinished fin (node k kb kn))) ∙ o)

  open_leaf : (g : Group) → fin g ≡ false → Open g none
  unfolding unfinished
  open_leaf g h = rw h refl

  open_below : (g : Group) (B : Tree) → unfinished fin B ≡ true → Open g B
  unfolding unfinished
  open_below g none u = absurd (true≢false (sym u))
  open_below g (node k kb kn) u = rw u refl

  red-some : (T : Tree) → red_open fin T ≡ true → Some (λ g B. (g.colour ≡ red) × Open g B) T
  unfolding red_open
  red-some none h = true≢false (sym h)
  red-some (node g B next) h = go (red-is fin g B next h) (red-some next)
    where
      go : ((g.colour ≡ red) × Open g B) ⊎ (red_open fin next ≡ true) → (red_open fin next ≡ true → Some (λ g B. (g.colour ≡ red) × Open g B) next) → Some (λ g B. (g.colour ≡ red) × Open g B) (node g B next)
      go (inl e) ih = inl e
      go (inr e) ih = inr (ih e)

  module _ (q : ℕ) (all : Tree) where
    -- why a sibling blocks position q
    abbrev pub Blocks : Group → Tree → Type 0
    Blocks g B = (holds g q ≡ true) × (((g.colour ≡ blue) × (red_open fin all ≡ true)) ⊎ (blocked fin q B B ≡ true))

    blocks-some : (T : Tree) → blocked fin q all T ≡ true → Some Blocks T
    unfolding blocked
    blocks-some none h = true≢false (sym h)
    blocks-some (node g B next) h = go (blocked-is fin g B next all q h) (blocks-some next)
      where
        go : Blocks g B ⊎ (blocked fin q all next ≡ true) → (blocked fin q all next ≡ true → Some Blocks next) → Some Blocks (node g B next)
        go (inl e) ih = inl e
        go (inr e) ih = inr (ih e)

    blocks-first : (g : Group) (B next : Tree) → Blocks g B → blocked fin q all (node g B next) ≡ true
    blocks-first g B next (h, inl (c, r)) = blocked-blue fin g B next all q h c r
    blocks-first g B next (h, inr b) = blocked-below fin g B next all q h b

-- ---- of records

module _ (gs : List Group) (down : (k : ℕ) → 0 < k → k < length gs → (group_at gs k).parent < k) (fin : Group → Bool) where
  abbrev OpenAt : ℕ → Type 0
  OpenAt i = Open fin (group_at gs i) (under gs i)

  -- what has nothing below it is a leaf
  none-leaf : (i : ℕ) → under gs i ≡ none → IsLeaf gs i
  none-leaf i e k a l p = subst (Some (λ g B. Unit {0})) e (at_child gs (Some (λ g B. Unit {0})) i k l p (λ next. inl tt) (λ g B next s. inr s) (suc i) (omega (arith, down k a l)))

  lies_up : {r : ℕ} (c : ℕ) {i : ℕ} → 0 < c → c < length gs → (group_at gs c).parent ≡ r → LiesIn gs c i → LiesIn gs r i
  lies_up c a l e itself = by_parent a l (subst (LiesIn gs _) (sym e) itself)
  lies_up c a l e (by_parent x y z) = by_parent x y (lies_up c a l e z)

  -- an unfinished leaf of a group; m: how many records there are from it on, at most
  open_found : (m i : ℕ) → length gs ≤ i + m → i < length gs → OpenAt i → (k : ℕ) × LiesIn gs i k × IsLeaf gs k × (fin (group_at gs k) ≡ false)
  open_found zero i l h o = absurd (omega arith)
  open_found (suc m) i l h o = go (open_is fin (group_at gs i) (under gs i) o) (open_found m)
    where
      go : ((under gs i ≡ none) × (fin (group_at gs i) ≡ false)) ⊎ (unfinished fin (under gs i) ≡ true)
          → ((i : ℕ) → length gs ≤ i + m → i < length gs → OpenAt i → (k : ℕ) × LiesIn gs i k × IsLeaf gs k × (fin (group_at gs k) ≡ false))
          → (k : ℕ) × LiesIn gs i k × IsLeaf gs k × (fin (group_at gs k) ≡ false)
      go (inl (e, f)) ih = (i, itself, none-leaf i e, f)
      go (inr u) ih =
          let (c, (a, h, p), o) = some_at gs (Open fin) i (suc i) (open_some fin (under gs i) u) in
          let (k, x, y, z) = ih c (omega arith) h o in
          (k, lies_up c (omega arith) h p x, y, z)

  -- and the other way: a group is open if one that lies in it is
  open_up : {r i : ℕ} → LiesIn gs r i → OpenAt i → OpenAt r
  open_up itself o = o
  open_up {r} {i} (by_parent a l z) o =
      let p = (group_at gs i).parent in
      open_up z (open_below fin (group_at gs p) (under gs p)
      (at_child gs (λ T. unfinished fin T ≡ true) p i l refl (λ next. open_first fin (group_at gs i) (under gs i) next o) (open_after fin) (suc p) (down i a l)))

-- ---- of a worker

module _ (j : Job) (down : (k : ℕ) → 0 < k → k < length j.plan.groups → (group_at j.plan.groups k).parent < k) (made : List ℕ) (w : ℕ) where
  abbrev gs : List Group
  gs = j.plan.groups

  abbrev fin : Group → Bool
  fin = finished j made

  abbrev q : ℕ
  q = (next j made w).row

  -- the sibling that blocks it
  abbrev First : ℕ → Type 0
  First i = (c : ℕ) × ((suc i ≤ c) × (c < length gs) × ((group_at gs c).parent ≡ i)) × Blocks fin q (under gs i) (group_at gs c) (under gs c)

  first_of : (i : ℕ) → blocked fin q (under gs i) (under gs i) ≡ true → First i
  first_of i h = some_at gs (Blocks fin q (under gs i)) i (suc i) (blocks-some fin q (under gs i) (under gs i) h)

  -- who is blocked must wait
  blocked-waits_in : (m i : ℕ) → length gs ≤ i + m → blocked fin q (under gs i) (under gs i) ≡ true → MustWait j made w
  unfolding next
  blocked-waits_in zero i l h = let (c, (a, k, p), u) = first_of i h in absurd (omega arith)
  blocked-waits_in (suc m) i l h = go (first_of i h) (blocked-waits_in m)
    where
      go : First i → ((c : ℕ) → length gs ≤ c + m → blocked fin q (under gs c) (under gs c) ≡ true → MustWait j made w) → MustWait j made w
      go (c, (a, k, p), (held, inl (is_blue, o))) ih =
          let (r, (b, rl, rp), (is_red, ro)) = some_at gs (λ g B. (g.colour ≡ red) × Open fin g B) i (suc i) (red-some fin (under gs i) o) in
          let (leaf, inside, is_leaf, left) = open_found gs down fin (length gs) r (omega arith) rl ro in
          record {
            blue_group = c;
            red_group = r;
            leaf = leaf;
            is_blue = is_blue;
            has = holds_in (group_at gs c) q held;
            is_red = is_red;
            parent = rp ∙ sym p;
            inside = inside;
            is_leaf = is_leaf;
            unfinished = omega (arith, unfinished-left j made (group_at gs leaf) left);
          }
      go (c, (a, k, p), (held, inr b)) ih = ih c (omega arith) b

  pub blocked-waits : blocked fin q (under gs 0) (under gs 0) ≡ true → MustWait j made w
  blocked-waits h = blocked-waits_in (length gs) 0 (omega arith) h

  -- ---- and the other way

  module _ (whole_colour : (group_at gs 0).colour ≡ whole) (wider : (i : ℕ) → 0 < i → i < length gs → holds (group_at gs i) q ≡ true → holds (group_at gs (group_at gs i).parent) q ≡ true) where
    -- a red or blue group is a record after the whole's
    coloured : (i c : ℕ) → (group_at gs i).colour ≡ suc c → (0 < i) × (i < length gs)
    unfolding of_fields
    coloured i c e = (after i e, there (ltb i (length gs)) refl)
      where
        after : (i : ℕ) → (group_at gs i).colour ≡ suc c → 0 < i
        after zero e = absurd (omega arith)
        after (suc i) e = omega arith

        there : (b : Bool) → ltb i (length gs) ≡ b → i < length gs
        there true t = ltb-true i (length gs) t
        there false t = let z = ap (λ (g : Group). g.colour) (get_or-eq_default gs (of_fields []) (ltb-false i (length gs) t)) in absurd (omega arith)

    -- the record at index i holds the position and has a child that blocks it
    abbrev pub BlockedIn : ℕ → Type 0
    BlockedIn i = (holds (group_at gs i) q ≡ true) × (blocked fin q (under gs i) (under gs i) ≡ true)

    -- .. so has its parent, up to the whole
    blocked-up : (i : ℕ) → 0 < i → i < length gs → Blocks fin q (under gs (group_at gs i).parent) (group_at gs i) (under gs i) → BlockedIn (group_at gs i).parent
    blocked-up i a l b =
        let p = (group_at gs i).parent in (
          wider i a l b.0,
          at_child gs (λ T. blocked fin q (under gs p) T ≡ true) p i l refl (λ n. blocks-first fin q (under gs p) (group_at gs i) (under gs i) n b)
              (λ g B n h. blocked-next fin g B n (under gs p) q h) (suc p) (down i a l),
        )

    blocked_top : (i : ℕ) → i < length gs → BlockedIn i → BlockedIn 0
    blocked_top = by_parents gs down (λ i. BlockedIn i → BlockedIn 0) (λ b. b) (λ i a l up b. up (blocked-up i a l (b.0, inr b.1)))

    -- who must wait is blocked
    pub waits-blocked : MustWait j made w → BlockedIn 0
    unfolding next
    waits-blocked t =
        let b = t.blue_group in
        let r = t.red_group in
        let p = (group_at gs b).parent in
        let (b0, bl) = coloured b 1 t.is_blue in
        let (r0, rl) = coloured r 0 t.is_red in
        let d = down b b0 bl in
        let e = down r r0 rl in
        let left = left-unfinished j made (group_at gs t.leaf) (omega (arith, t.unfinished)) in
        let o : Open fin (group_at gs r) (under gs r) = open_up gs down fin t.inside (rw (leaf-none gs t.leaf t.is_leaf) (open_leaf fin (group_at gs t.leaf) left)) in
        let reds : red_open fin (under gs p) ≡ true =
        at_child gs (λ T. red_open fin T ≡ true) p r rl t.parent (λ n. red-here fin (group_at gs r) (under gs r) n t.is_red o) (λ g B n h. red-next fin g B n h) (suc p) (omega (arith, t.parent)) in
        blocked_top p (omega arith) (blocked-up b b0 bl (in_holds (group_at gs b) q t.has.0 t.has.1, inl (t.is_blue, reds)))
