-- Columns of the table of gates.
use mathlib.Core.Path.{◌≡◌, refl, sym, ap, ◌∙◌, subst}
use mathlib.Core.Logic.{◌⊎◌, inl, inr, ◌≢◌}
use mathlib.Core.List.{List}
use Prim.Native.Nat.{ℕ, ◌+◌, ◌*◌, ◌<◌}
use native.Mathlib.Omega.{arith}
use lib.ListN.{length, get_or, set, length-set}
use lib.Seq.{get_or-set_same, get_or-set_other}
use Rattle.base.proofs.Booleans.{same_or}
use Rattle.plan.specs.Sound.{max_workers, max_groups}
use Rattle.preparing.specs.Code.Gates.{Gates, Column, AllGates}

-- ---- one column

pub column-none : (v : ℕ) (gates table : List ℕ) → length table ≡ max_groups * max_workers → Column v 0 gates table table
column-none v gates table e = record { long = e; here = λ i l. absurd (omega arith); others = λ i w l d. refl }

-- one gate more
pub column-next : (v k : ℕ) (gates table new : List ℕ) → v < max_workers → k < max_groups → Column v k gates table new → Column v (k + 1) gates table (set new (k * max_workers + v) (get_or gates k 0))
column-next v k gates table new l low c = record {
  long = length-set new (k * max_workers + v) (get_or gates k 0) ∙ c.long;
  here = λ i m. at i (same_or i k) m;
  others = λ i w m d. get_or-set_other new (k * max_workers + v) (i * max_workers + w) (get_or gates k 0) 0 (λ q. d (omega arith)) ∙ c.others i w m d;
}
  where
    at : (i : ℕ) → (i ≡ k) ⊎ (i ≢ k) → i < k + 1 → get_or (set new (k * max_workers + v) (get_or gates k 0)) (i * max_workers + v) 0 ≡ get_or gates i 0
    at i (inl q) m = subst (λ (y : ℕ). get_or (set new (k * max_workers + v) (get_or gates k 0)) (y * max_workers + v) 0 ≡ get_or gates y 0) (sym q) (get_or-set_same new (k * max_workers + v) (get_or gates k 0) 0 (omega (arith, c.long)))
    at i (inr d) m = get_or-set_other new (k * max_workers + v) (i * max_workers + v) (get_or gates k 0) 0 (λ q. d (omega arith)) ∙ c.here i (omega arith)

-- ---- all columns

module _ (count : ℕ) (groups ends : List ℕ) where
  pub columns-none : (table : List ℕ) → length table ≡ max_groups * max_workers → AllGates 0 count groups ends table
  columns-none table e = record { long = e; gates = λ v. table; are = λ v l. absurd (omega arith); is = λ i v l m. absurd (omega arith) }

  -- one column more
  pub columns-next : (v : ℕ) (gates table new : List ℕ) → v < max_workers → Gates count groups ends v gates → Column v max_groups gates table new → AllGates v count groups ends table → AllGates (v + 1) count groups ends new
  columns-next v gates table new l g c a = record {
    long = c.long;
    gates = λ w. pick (same_or w v);
    are = λ w m. made w m (same_or w v);
    is = λ i w m n. at i w m n (same_or w v);
  }
    where
      pick : {w : ℕ} → (w ≡ v) ⊎ (w ≢ v) → List ℕ
      pick {w} (inl q) = gates
      pick {w} (inr d) = a.gates w

      made : (w : ℕ) → w < v + 1 → (s : (w ≡ v) ⊎ (w ≢ v)) → Gates count groups ends w (pick s)
      made w m (inl q) = subst (λ (y : ℕ). Gates count groups ends y gates) (sym q) g
      made w m (inr d) = a.are w (omega arith)

      at : (i w : ℕ) → i < max_groups → w < v + 1 → (s : (w ≡ v) ⊎ (w ≢ v)) → get_or new (i * max_workers + w) 0 ≡ get_or (pick s) i 0
      at i w m n (inl q) = ap (λ (y : ℕ). get_or new (i * max_workers + y) 0) q ∙ c.here i m
      at i w m n (inr d) = c.others i w (omega arith) d ∙ a.is i w m (omega arith)
