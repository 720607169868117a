-- Updates at hand: looked up, kept by accesses of other workers and by a load, gone with a store.
use mathlib.Core.Path.{◌≡◌, refl, ap, ◌∙◌}
use mathlib.Core.Logic.{◌⊎◌, inl, inr, ◌≢◌}
use mathlib.Core.Bool.{Bool}
use mathlib.Core.List.{List}
use Prim.Native.Nat.{ℕ, suc, ◌+◌, ◌*◌, ◌/◌, ◌%◌, ◌<◌}
use native.Mathlib.Omega.{arith}
use lib.IntN.{ℤ, pos}
use lib.ListN.{length, get_or, set, replicate, length-set, length-replicate, get_or-replicate}
use lib.Seq.{get_or-set_same, get_or-set_other}
use borrow.Author.Tests.{lt-leb}
use Rattle.base.proofs.Booleans.{same_or}
use Rattle.matrix.specs.Limits.{max_rows}
use Rattle.plan.specs.Sound.{max_workers}
use Rattle.run.specs.Updates.{Update, count}
use Rattle.run.specs.Machine.{reason, onward}
use Rattle.run.specs.State.{State}
use Rattle.tables.specs.Code.Laid.{max_updates, updates_in}
use Rattle.steps.specs.Code.Steps.{row_next, number_next, reason_at, update_next, StepTables, PickMade}
use Rattle.steps.specs.Code.AtHand.{Known, AtHand, AccessMade}
use Rattle.steps.proofs.TableUpdates.{by_low}
use Rattle.steps.proofs.TableSteps.{reason-none}

-- A worker's cause and update depend on its count alone, and are the same after a load that nothing refuses.
pub record Steady (cause : (made : List ℕ) → ℕ → ℕ) (update : (made : List ℕ) → ℕ → Update) : Type 0 where
  pub same_cause : (made new : List ℕ) (w : ℕ) → count new w ≡ count made w → cause new w ≡ cause made w
  pub same_update : (made new : List ℕ) (w : ℕ) → count new w ≡ count made w → update new w ≡ update made w
  pub loaded_cause : (made new : List ℕ) (w : ℕ) → count made w % 2 ≡ 0 → count new w ≡ suc (count made w) → cause made w ≡ 0 → cause new w ≡ 0
  pub loaded_update : (made new : List ℕ) (w : ℕ) → count made w % 2 ≡ 0 → count new w ≡ suc (count made w) → update new w ≡ update made w

module _ {cause : (made : List ℕ) → ℕ → ℕ} {update : (made : List ℕ) → ℕ → Update} where
  -- nothing is at hand
  pub none_at_hand : {made : List ℕ} {adds : List ℤ} → length made ≡ max_workers → length adds ≡ max_workers → AtHand cause update made (replicate max_workers max_rows) adds
  none_at_hand e f = record {
    made_long = e;
    targets_long = length-replicate max_workers max_rows;
    adds_long = f;
    is = λ w l low. absurd (omega (arith, get_or-replicate max_workers w max_rows 0 l));
  }

  module _ {made targets : List ℕ} {adds : List ℤ} (w : ℕ) (l : w < max_workers) (h : AtHand cause update made targets adds) where
    -- .. of worker w
    pub gone : get_or (set targets w max_rows) w 0 ≡ max_rows
    gone = get_or-set_same targets w max_rows 0 (omega (arith, h.targets_long))

    pub one-gone : AtHand cause update made (set targets w max_rows) adds
    one-gone = record { made_long = h.made_long; targets_long = length-set targets w max_rows ∙ h.targets_long; adds_long = h.adds_long; is = λ v l low. go v l low (same_or v w) }
      where
        go : (v : ℕ) → v < max_workers → get_or (set targets w max_rows) v 0 < max_rows → (v ≡ w) ⊎ (v ≢ w) → Known (cause made v) (update made v) (get_or (set targets w max_rows) v 0) (get_or adds v (pos 0))
        go v l low (inl q) = absurd (omega (arith, gone, ap (λ (y : ℕ). get_or (set targets w max_rows) y 0) q))
        go v l low (inr d) = let e = get_or-set_other targets w v max_rows 0 d in rw e (h.is v l (omega (arith, e)))

    -- the update of worker w is put at hand
    abbrev new : List ℕ
    new = set targets w (update made w).target

    abbrev adds' : List ℤ
    adds' = set adds w (update made w).amount

    put : get_or new w 0 ≡ (update made w).target
    put = get_or-set_same targets w (update made w).target 0 (omega (arith, h.targets_long))

    pub put_known : (update made w).target < max_rows → get_or new w 0 < max_rows
    put_known l = rw put l

    pub put_at_hand : cause made w ≡ 0 → AtHand cause update made new adds'
    put_at_hand free = record {
      made_long = h.made_long;
      targets_long = length-set targets w _ ∙ h.targets_long;
      adds_long = length-set adds w _ ∙ h.adds_long;
      is = λ v l low. go v l low (same_or v w);
    }
      where
        go : (v : ℕ) → v < max_workers → get_or new v 0 < max_rows → (v ≡ w) ⊎ (v ≢ w) → Known (cause made v) (update made v) (get_or new v 0) (get_or adds' v (pos 0))
        go v l low (inl q) = rw q (record { free = free; target_is = put; amount_is = get_or-set_same adds w _ (pos 0) (omega (arith, h.adds_long)) })
        go v l low (inr d) =
            let e = get_or-set_other targets w v (update made w).target 0 d in
            rw (e, get_or-set_other adds w v (update made w).amount (pos 0) d) (h.is v l (omega (arith, e)))

    -- worker w makes an access
    module _ (steady : Steady cause update) {made' : List ℕ} (is : made' ≡ onward made w) where
      here : count made' w ≡ suc (count made w)
      unfolding onward
      here = ap (λ (xs : List ℕ). get_or xs w 0) is ∙ get_or-set_same made w (suc (get_or made w 0)) 0 (omega (arith, h.made_long))

      other : (v : ℕ) → v ≢ w → count made' v ≡ count made v
      unfolding onward
      other v d = ap (λ (xs : List ℕ). get_or xs v 0) is ∙ get_or-set_other made w v (suc (get_or made w 0)) 0 d

      made_long' : length made' ≡ max_workers
      unfolding onward
      made_long' = ap length is ∙ length-set made w (suc (get_or made w 0)) ∙ h.made_long

      others : (v : ℕ) → v ≢ w → {target : ℕ} {amount : ℤ} → Known (cause made v) (update made v) target amount → Known (cause made' v) (update made' v) target amount
      others v d k = rw (steady.same_cause made made' v (other v d), steady.same_update made made' v (other v d)) k

      -- a load
      hand_loaded : count made w % 2 ≡ 0 → AtHand cause update made' targets adds
      hand_loaded even = record { made_long = made_long'; targets_long = h.targets_long; adds_long = h.adds_long; is = λ v l low. go v (h.is v l low) (same_or v w) }
        where
          go : (v : ℕ) → Known (cause made v) (update made v) (get_or targets v 0) (get_or adds v (pos 0)) → (v ≡ w) ⊎ (v ≢ w) → Known (cause made' v) (update made' v) (get_or targets v 0) (get_or adds v (pos 0))
          go v k (inr d) = others v d k
          go v k (inl q) =
              let k' : Known (cause made w) (update made w) (get_or targets w 0) (get_or adds w (pos 0)) = rw q at k in
              rw (q, steady.loaded_cause made made' w even here k'.free, steady.loaded_update made made' w even here) (record { free = refl; target_is = k'.target_is; amount_is = k'.amount_is })

      -- a store
      hand-stored : AtHand cause update made' (set targets w max_rows) adds
      hand-stored = record { made_long = made_long'; targets_long = one-gone.targets_long; adds_long = h.adds_long; is = λ v l low. go v l low (same_or v w) }
        where
          go : (v : ℕ) → v < max_workers → get_or (set targets w max_rows) v 0 < max_rows → (v ≡ w) ⊎ (v ≢ w) → Known (cause made' v) (update made' v) (get_or (set targets w max_rows) v 0) (get_or adds v (pos 0))
          go v l low (inl q) = absurd (omega (arith, gone, ap (λ (y : ℕ). get_or (set targets w max_rows) y 0) q))
          go v l low (inr d) = others v d (one-gone.is v l low)

  -- .. by the update at hand: it is the worker's pick, and what is at hand stays so
  module _ (steady : Steady cause update) {s : State} {targets : List ℕ} {adds : List ℤ} {w number : ℕ} {t : State} {targets' : List ℕ} (l : w < max_workers) (low : get_or targets w 0 < max_rows)
      (h : AtHand cause update s.made targets adds) (a : AccessMade s w targets adds number t targets') where
    known : Known (cause s.made w) (update s.made w) (get_or targets w 0) (get_or adds w (pos 0))
    known = h.is w l low

    picked : PickMade 0 s w (update s.made w) number t
    picked = a.is (update s.made w) known.target_is known.amount_is

    pub access-picks : PickMade (cause s.made w) s w (update s.made w) number t
    access-picks = rw known.free picked

    pub access-keeps : AtHand cause update t.made targets' adds
    access-keeps = go (same_or number 0) a.left
      where
        go : (number ≡ 0) ⊎ (number ≢ 0) → ((targets' ≡ targets) × (number ≡ 0 → count s.made w % 2 ≡ 0)) ⊎ (targets' ≡ set targets w max_rows) → AtHand cause update t.made targets' adds
        go (inr d) (inl e) = rw (picked.kept d, e.0) h
        go (inr d) (inr e) = rw (picked.kept d, e) (one-gone w l h)
        go (inl q) (inl e) = rw e.0 (hand_loaded w l h steady (picked.counted q) (e.1 q))
        go (inl q) (inr e) = rw e (hand-stored w l h steady (picked.counted q))

-- by the tables
module _ (workers : ℕ) (first row begins parts leaves : List ℕ) (blocks : List Bool) (displaced : List ℤ) (at : List ℕ) (beside : List ℤ) where
  -- the position of a next update's sum is one of n
  pub target-low : {n : ℕ} → StepTables n first row begins parts leaves at beside → (made : List ℕ) (w : ℕ) → (update_next first row begins parts displaced at beside made w).target < n
  target-low t made w = by_low (number_next first row begins made w) _ (row_next first row made w) (t.at_low _) (t.bounded.row_low _)

  -- what the access of a step that is not refused needs
  pub access-ready : {n : ℕ} → StepTables n first row begins parts leaves at beside → (made : List ℕ) (w : ℕ) → w < max_workers → reason_at workers first row leaves blocks made w ≡ 0
      → {target : ℕ} → target ≡ (update_next first row begins parts displaced at beside made w).target → (count made w < 2 * max_updates) × (target < n)
  access-ready t made w l free e =
      let left = (reason-none w workers (count made w) (2 * updates_in first w) _ free).1 in
      (omega (arith, left, t.bounded.rising.few (w + 1) (omega arith)), omega (arith, e, target-low t made w))

  half : (m : ℕ) → m % 2 ≡ 0 → suc m / 2 ≡ m / 2
  half m e = omega arith

  pub steps_steady : Steady (reason_at workers first row leaves blocks) (update_next first row begins parts displaced at beside)
  unfolding reason
  steps_steady = record {
    same_cause = λ made new w e. rw e;
    same_update = λ made new w e. rw e;
    loaded_cause = λ made new w even e free.
        let l = (reason-none w workers (count made w) (2 * updates_in first w) _ free).1 in
        rw (e, half (count made w) even, lt-leb (2 * updates_in first w) (suc (count made w)) (omega arith)) (rw (lt-leb (2 * updates_in first w) (count made w) l) at free);
    loaded_update = λ made new w even e. rw (e, half (count made w) even);
  }
