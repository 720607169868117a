-- The records of a job's plan, and the rows of its leaves.
use mathlib.Core.Path.{◌≡◌, refl, sym, ap, ◌∙◌, subst}
use mathlib.Core.Bool.{Bool, true, false, true≢false}
use mathlib.Core.List.{List, [], ◌∷◌}
use Prim.Native.Nat.{ℕ, zero, suc, ◌+◌, ◌-◌, ◌≤◌, ◌<◌}
use native.Mathlib.Omega.{arith}
use lib.ListN.{length, get_or, drop}
use Rattle.matrix.specs.Matrix.{neighbours}
use Rattle.plan.specs.Groups.{Group, records, of_fields, group_of}
use Rattle.plan.specs.Sound.{apart, max_workers, max_groups, depth_first, sound, is_sound}
use Rattle.plan.specs.Code.Checks.{record_at, below_whole, stands_depth_first}
use Rattle.plan.specs.declared.fields.Group as code
use Rattle.plan.proofs.FlatRecords.{length-records}
use Rattle.plan.proofs.Sound.{sound_facts}
use Rattle.run.specs.Job.{Job}
use Rattle.run.proofs.Holds.{in_holds}
use Rattle.tables.specs.Code.Laid.{has_child, group_at, Leaf, LeafOf}
use Rattle.tables.proofs.LeafOwner.{leaf-rows}
use Rattle.layout.specs.Code.UpdateTable.{Planned, Stretch, reached}
use Rattle.layout.proofs.Reached.{record_get, start-reached, reached_end}

module _ {j : Job} {groups : List ℕ} {count : ℕ} {sizes : List ℕ} (g : Planned j groups count sizes) where
  abbrev n : ℕ
  n = j.matrix.n

  is-sound : sound (apart (neighbours j.matrix)) n j.plan.order (records count groups) ≡ true
  unfolding is_sound
  is-sound = subst (λ (gs : List Group). sound (apart (neighbours j.matrix)) n j.plan.order gs ≡ true) g.groups_are g.sized.accepted.plan

  -- they stand depth first, and are not too many
  pub in_order_lem : (stands_depth_first count groups ≡ true) × (count ≤ max_groups)
  unfolding sound
  in_order_lem = let h = go (records count groups) is-sound in (h.0, omega (arith, h.1, length-records count groups))
    where
      go : (gs : List Group) → sound (apart (neighbours j.matrix)) n j.plan.order gs ≡ true → (depth_first (0 ∷ []) 1 (drop 1 gs) ≡ true) × (length gs ≤ max_groups)
      go [] h = absurd (true≢false (sym h))
      go (k ∷ ks) h = let f = sound_facts (apart (neighbours j.matrix)) n j.plan.order k ks h in (f.in_order, f.short)

  -- a leaf is one of them
  pub leaf-inside : (i : ℕ) → Leaf j i → i < count
  leaf-inside i h = omega (arith, h.inside, ap length g.groups_are, length-records count groups)

  -- all leaves together reach n
  pub all-reached : reached count groups count ≡ n
  all-reached = reached_end (neighbours j.matrix) n j.plan.order count groups is-sound

  module _ (i : ℕ) (l : i < count) where
    -- record i of the job
    group_is : group_at j i ≡ record_at groups i
    group_is = ap (λ (gs : List Group). get_or gs i (of_fields [])) g.groups_are ∙ record_get count groups i (of_fields []) l

    pub start_is : (record_at groups i).start ≡ reached count groups i
    start_is = (start-reached (neighbours j.matrix) n j.plan.order count groups is-sound i l).0

    first-low : (record_at groups i).first < max_workers
    first-low = (start-reached (neighbours j.matrix) n j.plan.order count groups is-sound i l).1

    leaf-of : has_child i (below_whole count groups) ≡ false → Leaf j i
    leaf-of h = record {
      inside = omega (arith, ap length g.groups_are, length-records count groups);
      childless = ap (λ (gs : List Group). has_child i (drop 1 gs)) g.groups_are ∙ h;
    }

    pub of-leaf : Leaf j i → has_child i (below_whole count groups) ≡ false
    of-leaf h = ap (λ (gs : List Group). has_child i (drop 1 gs)) (sym g.groups_are) ∙ h.childless

    -- the leaves reach its end, if it is one
    pub reached-leaf : has_child i (below_whole count groups) ≡ false → reached count groups (suc i) ≡ reached count groups i + (record_at groups i).length
    unfolding reached
    reached-leaf h = rw h refl

    pub reached_group : has_child i (below_whole count groups) ≡ true → reached count groups (suc i) ≡ reached count groups i
    unfolding reached
    reached_group h = rw h refl

    reached-rises : reached count groups i ≤ reached count groups (suc i)
    reached-rises = go (has_child i (below_whole count groups)) refl
      where
        go : (b : Bool) → has_child i (below_whole count groups) ≡ b → reached count groups i ≤ reached count groups (suc i)
        go true e = omega (arith, reached_group e)
        go false e = omega (arith, reached-leaf e)

    -- its end, by the record and by the job
    pub leaf_end : Leaf j i → (group_at j i).start + (group_at j i).length ≡ reached count groups (suc i)
    leaf_end h = rw group_is (omega (arith, start_is, reached-leaf (of-leaf h)))

    pub leaf_first : (group_at j i).first ≡ (record_at groups i).first
    leaf_first = ap (λ (r : Group). r.first) group_is

  reached-up : (i k : ℕ) → i + k ≤ count → reached count groups i ≤ reached count groups (i + k)
  reached-up i zero l = let e : i + 0 ≡ i = omega arith in rw e (omega arith)
  reached-up i (suc k) l = let e : i + suc k ≡ suc (i + k) = omega arith in rw e (omega (arith, reached-up i k (omega arith), reached-rises (i + k) (omega arith)))

  -- no leaf ends past n
  reached-low : (i : ℕ) → i ≤ count → reached count groups i ≤ n
  reached-low i l =
      let e : i + (count - i) ≡ count = omega arith in
      omega (arith, rw e at (reached-up i (count - i) (omega arith)), all-reached)

  -- the rows of a leaf
  module _ (i : ℕ) (l : i < count) (childless : has_child i (below_whole count groups) ≡ false) where
    row_of : (p : ℕ) → reached count groups i ≤ p → p < reached count groups (suc i) → LeafOf j i p
    row_of p a b = record {
      leaf = leaf-of i l childless;
      held = rw (group_is i l) (in_holds (record_at groups i) p (omega (arith, start_is i l)) (omega (arith, start_is i l, reached-leaf i l childless)));
    }

    pub stretch-of : Stretch j i (record_at groups i).first (reached count groups i) (reached count groups (suc i))
    stretch-of = record {
      rises = reached-rises i l;
      inside = reached-low (suc i) l;
      worker = first-low i l;
      record_low = omega (arith, in_order_lem.1);
      mine = λ p a b. leaf-rows j g.sized.accepted.plan (of_fields []) i (leaf-of i l childless) p (omega (arith, reached-low (suc i) l)) (row_of p a b).held
          ∙ ap (λ (h : Group). h.first) (group_is i l);
      of = row_of;
    }

    -- .. by the record that the code reads
    pub record Read (r : code.Group) : Type 0 where
      pub stretch : Stretch j i r.first r.start (r.start + r.length)
      pub starts : r.start ≡ reached count groups i
      pub ends : r.start + r.length ≡ reached count groups (suc i)
      pub firsts : r.first ≡ (record_at groups i).first

    pub read : {r : code.Group} → group_of r ≡ record_at groups i → Read r
    read {r} h =
        let s : r.start ≡ reached count groups i = ap (λ (g : Group). g.start) h ∙ start_is i l in
        let f : r.first ≡ (record_at groups i).first = ap (λ (g : Group). g.first) h in
        let e : r.start + r.length ≡ reached count groups (suc i) = omega (arith, s, ap (λ (g : Group). g.length) h, reached-leaf i l childless) in
        record { stretch = rw (f, e, s) stretch-of; starts = s; ends = e; firsts = f }
