-- The updates at hand of a crew, beside the counts of the other.
use mathlib.Core.Path.{◌≡◌, ap, ◌∙◌}
use mathlib.Core.Logic.{◌⊎◌, inl, inr, ◌≢◌}
use mathlib.Core.Bool.{Bool}
use mathlib.Core.List.{List}
use Prim.Native.Nat.{ℕ, suc, ◌<◌}
use native.Mathlib.Omega.{arith}
use lib.IntN.{ℤ, pos}
use lib.ListN.{get_or, set}
use lib.Seq.{get_or-set_other}
use Rattle.base.proofs.Booleans.{same_or}
use Rattle.matrix.specs.Limits.{max_rows}
use Rattle.plan.specs.Sound.{max_workers}
use Rattle.run.specs.Machine.{onward}
use Rattle.run.specs.Updates.{Update, count}
use Rattle.steps.specs.Code.Steps.{reason_at, update_next}
use Rattle.steps.specs.Code.AtHand.{Known, AtHand}
use Rattle.steps.proofs.UpdatesAtHand.{Steady, steps_steady, gone, one-gone}
use Rattle.crews.specs.Crews.{unless_away}
use Rattle.crews.proofs.Turns.{not_away}
use Rattle.turns.specs.Code.Inside.{inside_at, cause_at}
use Rattle.turns.proofs.CrewTurns.{never_away}

module _ (first row begins parts leaves : List ℕ) (blocks : List Bool) (displaced : List ℤ) (at : List ℕ) (beside : List ℤ) where
  -- a crew's causes and updates depend on its workers' counts alone, while the other's counts stay
  pub crew_steady : (other : List ℕ) → Steady (cause_at first row begins leaves blocks other) (update_next first row begins parts displaced at beside)
  crew_steady other =
      let s = steps_steady max_workers first row begins parts leaves blocks displaced at beside in
      record {
        same_cause = λ made new w e. ap (λ (k : ℕ). unless_away k (inside_at first row begins other w)) (s.same_cause made new w e);
        same_update = s.same_update;
        loaded_cause = λ made new w even e free.
            let n = not_away (reason_at max_workers first row leaves blocks made w) (inside_at first row begins other w) free in
            rw (s.loaded_cause made new w even e n.0, n.1) (never_away 0);
        loaded_update = s.loaded_update;
      }

-- the other crew makes an access with worker w, of whom nothing is at hand then
pub other-moved : (first row begins leaves : List ℕ) (blocks : List Bool) {update : (made : List ℕ) → ℕ → Update} (other : List ℕ) {new made targets : List ℕ} {adds : List ℤ} (w : ℕ) → w < max_workers → new ≡ onward other w
    → AtHand (cause_at first row begins leaves blocks other) update made targets adds → AtHand (cause_at first row begins leaves blocks new) update made (set targets w max_rows) adds
unfolding onward
other-moved first row begins leaves blocks {update} other {new} {made} {targets} {adds} w l is h =
    let g = one-gone w l h in
    record { made_long = g.made_long; targets_long = g.targets_long; adds_long = g.adds_long; is = λ v m low. go v low (g.is v m low) (same_or v w) }
  where
    same : (v : ℕ) → v ≢ w → count new v ≡ count other v
    same v d = ap (λ (xs : List ℕ). get_or xs v 0) is ∙ get_or-set_other other w v (suc (get_or other w 0)) 0 d

    go : (v : ℕ) → get_or (set targets w max_rows) v 0 < max_rows → Known (cause_at first row begins leaves blocks other made v) (update made v) (get_or (set targets w max_rows) v 0) (get_or adds v (pos 0)) → (v ≡ w) ⊎ (v ≢ w)
        → Known (cause_at first row begins leaves blocks new made v) (update made v) (get_or (set targets w max_rows) v 0) (get_or adds v (pos 0))
    go v low k (inl q) = absurd (omega (arith, gone w l h, ap (λ (y : ℕ). get_or (set targets w max_rows) y 0) q))
    go v low k (inr d) = rw (same v d) k
