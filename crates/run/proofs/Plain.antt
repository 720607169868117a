-- The updates of a row one by one, and the wait by the plan's records.
use mathlib.Core.Path.{◌≡◌, refl, sym, ap, ◌∙◌}
use mathlib.Core.Logic.{◌⊎◌, inl, inr, ◌≢◌}
use mathlib.Core.Bool.{Bool, true, false, true≢false}
use mathlib.Core.List.{List, [], ◌∷◌}
use Prim.Native.Nat.{ℕ, zero, suc, ◌+◌, ◌-◌, ◌≤◌, ◌<◌}
use native.Mathlib.Omega.{arith}
use lib.ListN.{length}
use Rattle.base.specs.Lists.{range}
use Rattle.base.proofs.Lists.{filter-of, is_in-range}
use Rattle.matrix.specs.Matrix.{neighbours, adjacent}
use Rattle.matrix.proofs.Ascending.{ascending_passing, ascending_less}
use Rattle.plan.specs.Groups.{Group, blue}
use Rattle.plan.specs.Sound.{apart, sound, is_sound}
use Rattle.plan.specs.Depths.{group_at}
use Rattle.plan.proofs.Records.{Down}
use Rattle.plan.proofs.Sound.{sound_facts}
use Rattle.run.specs.Job.{Job, row_at}
use Rattle.run.specs.Tree.{Tree, none, node, tree, holds, owner_in, red_open, blocked}
use Rattle.run.specs.Updates.{entry_at, displacement_at, later, row_updates, owner, finished, next, waits}
use Rattle.run.specs.Plain.{addition, RowOrder, IsLeaf, InStretch, MustWait}
use Rattle.run.proofs.Holds.{holds_in, in_holds, past-holds, owner_here, owner-next}
use Rattle.run.proofs.Blocked.{blocked-below, blocked-is}
use Rattle.run.proofs.SoundTree.{Inner, Tiles, Tiled, tiles-le}
use Rattle.run.proofs.Forest.{WholePlan}
use Rattle.run.proofs.RowUpdates.{row-length, row-at, later-in}
use Rattle.run.proofs.Children.{Some, under, at_child, leaf-none, by_parents}
use Rattle.run.proofs.Waiting.{blocked-waits, waits-blocked}

-- ---- a row's updates

module _ (j : Job) (p : ℕ) where
  pub row_order : RowOrder j p
  unfolding later row_updates addition entry_at displacement_at
  row_order = record {
    joined = λ q h. later-in j p q h;
    each = λ q a b h. filter-of joins (range (suc p) (j.matrix.n - suc p)) q (is_in-range (suc p) (j.matrix.n - suc p) q a (omega arith)) h;
    ascending = λ i k l m. ascending_less (later j p) i k (ascending_passing joins (suc p) (j.matrix.n - suc p)) l m;
    first = refl;
    own = λ i l. (row-at j p i l).0;
    other = λ i l. (row-at j p i l).1;
    size = row-length j p;
  }
    where
      joins : ℕ → Bool
      joins q = adjacent j.matrix (row_at j p) (row_at j q)

-- ---- the records of a sound plan

-- each stands after its parent
down_at : (i : ℕ) (gs : List Group) → Down i gs → (k : ℕ) → k < length gs → (group_at gs k).parent < i + k
down_at i [] d k l = absurd (omega arith)
down_at i (g ∷ gs) d zero l = omega (arith, d.0)
down_at i (g ∷ gs) d (suc k) l = omega (arith, down_at (suc i) gs d.1 k (omega arith))

sound_down : (far : List ℕ → List ℕ → Bool) (n : ℕ) (order : List ℕ) (gs : List Group) → sound far n order gs ≡ true → (k : ℕ) → 0 < k → k < length gs → (group_at gs k).parent < k
unfolding sound
sound_down far n order [] h k a l = absurd (true≢false (sym h))
sound_down far n order (g ∷ gs) h zero a l = absurd (omega arith)
sound_down far n order (g ∷ gs) h (suc k) a l = omega (arith, down_at 1 gs (sound_facts far n order g gs h).down k (omega arith))

-- the tree is the whole's record with what is below it
tree_is : (gs : List Group) (top : Group) (B : Tree) → tree gs ≡ node top B none → (group_at gs 0 ≡ top) × (under gs 0 ≡ B) × (0 < length gs)
unfolding tree
tree_is [] top B e = let z : ◌≡◌ {A = ℕ} 0 1 = cc in absurd (omega arith)
tree_is (g ∷ gs) top B e = (cc, cc, omega arith)

module _ (adj : ℕ → List ℕ) (order : List ℕ) (gs : List Group) (down : (k : ℕ) → 0 < k → k < length gs → (group_at gs k).parent < k) (q : ℕ) where
  -- a child lies within its siblings' stretch, its own children tile it, and what it holds of the siblings' is its own
  module _ (c : ℕ) (a : 0 < c) (l : c < length gs) where
    abbrev up : ℕ
    up = (group_at gs c).parent

    abbrev Within : Tree → (s e : ℕ) → Type 0
    Within T s e = (s ≤ (group_at gs c).start) × ((group_at gs c).start + (group_at gs c).length ≤ e) × Tiled adj order (group_at gs c) (under gs c)
        × ((leader : ℕ) → holds (group_at gs c) q ≡ true → owner_in leader q T ≡ owner_in (group_at gs c).first q (under gs c))

    abbrev Inside : Tree → Type 0
    Inside T = (s e : ℕ) → Tiles adj order T s e → Within T s e

    abbrev Placed : Type 0
    Placed = Within (under gs up) (group_at gs up).start ((group_at gs up).start + (group_at gs up).length)

    child_in : Inside (under gs up)
    child_in = at_child gs Inside up c l refl here after (suc up) (down c a l)
      where
        here : (next : Tree) → Inside (node (group_at gs c) (under gs c) next)
        here next s e t = let m = tiles-le adj order next (s + (group_at gs c).length) e t.3 in (omega (arith, t.0), omega (arith, t.0), t.2, λ leader h. owner_here (group_at gs c) (under gs c) next leader q h)

        after : (g : Group) (B next : Tree) → Inside next → Inside (node g B next)
        after g B next i s e t =
            let (x, y, z, o) = i (s + g.length) e t.3 in
            (omega arith, y, z, λ leader h. let (a, b) = holds_in (group_at gs c) q h in owner-next g B next leader q (past-holds g q (omega (arith, t.0))) ∙ o leader h)

    -- where there are children
    inner_of : (T : Tree) (P : Type 0) → Some (λ g B. Unit {0}) T → Inner T P → P
    inner_of none P s i = absurd s
    inner_of (node g B next) P s i = i

    in_parent : Tiled adj order (group_at gs up) (under gs up) → Placed
    in_parent t =
        let some : Some (λ g B. Unit {0}) (under gs up) = at_child gs (Some (λ g B. Unit {0})) up c l refl (λ next. inl tt) (λ g B next s. inr s) (suc up) (down c a l) in
        child_in (group_at gs up).start ((group_at gs up).start + (group_at gs up).length) (inner_of (under gs up) _ some t).0

  module _ (top : Tiled adj order (group_at gs 0) (under gs 0)) where
    tiled_at : (i : ℕ) → i < length gs → Tiled adj order (group_at gs i) (under gs i)
    tiled_at = by_parents gs down (λ i. Tiled adj order (group_at gs i) (under gs i)) top (λ i a l t. (in_parent i a l t).2)

    -- what a record is in its parent
    placed : (i : ℕ) (a : 0 < i) (l : i < length gs) → Placed i a l
    placed i a l = let d = down i a l in in_parent i a l (tiled_at (group_at gs i).parent (omega arith))

    -- a parent holds what its child holds
    wider : (i : ℕ) → 0 < i → i < length gs → holds (group_at gs i) q ≡ true → holds (group_at gs (group_at gs i).parent) q ≡ true
    wider i a l h =
        let (x, y) = holds_in (group_at gs i) q h in
        let (s, e, t, o) = placed i a l in
        in_holds (group_at gs (group_at gs i).parent) q (omega arith) (omega arith)

    -- the owner of q, from a group that holds it on
    owner-in : (leader i : ℕ) → i < length gs → holds (group_at gs i) q ≡ true → owner_in leader q (node (group_at gs 0) (under gs 0) none) ≡ owner_in (group_at gs i).first q (under gs i)
    owner-in leader =
        by_parents gs down (λ i. holds (group_at gs i) q ≡ true → owner_in leader q (node (group_at gs 0) (under gs 0) none) ≡ owner_in (group_at gs i).first q (under gs i))
        (λ h. owner_here (group_at gs 0) (under gs 0) none leader q h)
        (λ i a l up h. up (wider i a l h) ∙ (placed i a l).3 (group_at gs (group_at gs i).parent).first h)

-- ---- of a job

module _ (j : Job) (W : WholePlan j) (ok : is_sound j.matrix j.plan ≡ true) where
  abbrev gs : List Group
  gs = j.plan.groups

  root : (group_at gs 0 ≡ W.top) × (under gs 0 ≡ W.below) × (0 < length gs)
  root = tree_is gs W.top W.below W.is

  down : (k : ℕ) → 0 < k → k < length gs → (group_at gs k).parent < k
  unfolding is_sound
  down = sound_down (apart (neighbours j.matrix)) j.matrix.n j.plan.order gs ok

  top_tiled : Tiled (neighbours j.matrix) j.plan.order (group_at gs 0) (under gs 0)
  top_tiled = rw (root.0, root.1) W.under.tiles

  pub run_by : (i p : ℕ) → i < length gs → IsLeaf gs i → InStretch (group_at gs i) p → owner j p ≡ (group_at gs i).first
  unfolding owner owner_in
  run_by i p l leaf (a, b) =
      let o = owner-in (neighbours j.matrix) j.plan.order gs down p top_tiled 0 i l (in_holds (group_at gs i) p a b) in
      ap (owner_in 0 p) W.is ∙ (rw (root.0, root.1) at o) ∙ ap (owner_in (group_at gs i).first p) (leaf-none gs i leaf)

  -- ---- the wait

  module _ (made : List ℕ) (w : ℕ) where
    abbrev fin : Group → Bool
    fin = finished j made

    abbrev q : ℕ
    q = (next j made w).row

    -- who waits is blocked below the whole
    pub no_sooner : waits j made w ≡ true → MustWait j made w
    unfolding waits blocked
    no_sooner h = go (blocked-is fin W.top W.below none (node W.top W.below none) q (rw W.is at h))
      where
        go : ((holds W.top q ≡ true) × (((W.top.colour ≡ blue) × (red_open fin (node W.top W.below none) ≡ true)) ⊎ (blocked fin q W.below W.below ≡ true)))
            ⊎ (blocked fin q (node W.top W.below none) none ≡ true) → MustWait j made w
        go (inl (k, inl (c, r))) = absurd (omega (arith, W.colour))
        go (inl (k, inr b)) = blocked-waits j down made w (rw root.1 b)
        go (inr b) = absurd (true≢false (sym b))

    pub no_later : MustWait j made w → waits j made w ≡ true
    unfolding waits
    no_later t =
        let b = waits-blocked j down made w (ap (λ (g : Group). g.colour) root.0 ∙ W.colour) (wider (neighbours j.matrix) j.plan.order gs down q top_tiled) t in
        rw W.is (blocked-below fin W.top W.below none (node W.top W.below none) q (rw root.0 at b.0) (rw root.1 at b.1))
