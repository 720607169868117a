-- Who is blocked stays so while a worker's count is below its stop.
use mathlib.Core.Path.{◌≡◌, sym, ap, ◌∙◌, subst}
use mathlib.Core.Logic.{◌⊎◌, inl, inr, ◌≢◌}
use mathlib.Core.Bool.{Bool}
use mathlib.Core.List.{List}
use Prim.Native.Nat.{ℕ, ◌≤◌, ◌<◌}
use native.Mathlib.Omega.{arith}
use lib.Dec.{leb}
use lib.ListN.{get_or}
use borrow.Author.Tests.{le-leb, lt-leb}
use Rattle.base.proofs.Booleans.{same_or}
use Rattle.plan.specs.Sound.{max_workers}
use Rattle.plan.specs.Code.Checks.{record_at}
use Rattle.run.specs.Machine.{onward}
use Rattle.run.proofs.Onward.{onward-length, onward-other, onward_grows}
use Rattle.waits.specs.Code.Waits.{Current}

module _ {count : ℕ} {groups ends made : List ℕ} {blocks : List Bool} {stops : List ℕ} (w : ℕ) (l : w < max_workers) (below : get_or (onward made w) w 0 < get_or stops w 0) (h : Current count groups ends made blocks stops) where
  grown : (v : ℕ) → get_or made v 0 ≤ get_or (onward made w) v 0
  grown v = onward_grows made w (omega (arith, h.long)) v

  -- no count has reached an end
  same : (i : ℕ) → i < count → leb (get_or ends i 0) (get_or (onward made w) (record_at groups i).first 0) ≡ leb (get_or ends i 0) (get_or made (record_at groups i).first 0)
  same i m = go (same_or (record_at groups i).first w) (h.ahead.is i m)
    where
      v : ℕ
      v = (record_at groups i).first

      end : ℕ
      end = get_or ends i 0

      go : (v ≡ w) ⊎ (v ≢ w) → (end ≤ get_or made v 0) ⊎ (get_or stops v 0 ≤ end) → leb end (get_or (onward made w) v 0) ≡ leb end (get_or made v 0)
      go (inr d) x = ap (leb end) (onward-other made w v d)
      go (inl q) (inl x) = le-leb end (get_or (onward made w) v 0) (omega (arith, grown v)) ∙ sym (le-leb end (get_or made v 0) x)
      go (inl q) (inr x) = let b : get_or (onward made w) v 0 < get_or stops v 0 = subst (λ (y : ℕ). get_or (onward made w) y 0 < get_or stops y 0) (sym q) below in
          lt-leb end (get_or (onward made w) v 0) (omega arith) ∙ sym (lt-leb end (get_or made v 0) (omega (arith, grown v)))

  pub kept : Current count groups ends (onward made w) blocks stops
  kept = record {
    long = onward-length made w ∙ h.long;
    blocked = record {
      reds = h.blocked.reds;
      opened = record { long = h.blocked.opened.long; is = λ fin e up m. h.blocked.opened.is fin (λ i n x. e i n x ∙ same i n) up m };
      passed = h.blocked.passed;
    };
    ahead = record { long = h.ahead.long; is = λ i m. go i (h.ahead.is i m) };
  }
    where
      go : (i : ℕ) → (get_or ends i 0 ≤ get_or made (record_at groups i).first 0) ⊎ (get_or stops (record_at groups i).first 0 ≤ get_or ends i 0)
          → (get_or ends i 0 ≤ get_or (onward made w) (record_at groups i).first 0) ⊎ (get_or stops (record_at groups i).first 0 ≤ get_or ends i 0)
      go i (inl x) = inl (omega (arith, grown (record_at groups i).first))
      go i (inr x) = inr x
