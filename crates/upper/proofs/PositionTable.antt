-- The tables of positions, of displacements in plan order and of parts, filled position by position.
use mathlib.Core.Path.{◌≡◌, refl, sym, ap, ◌∙◌}
use mathlib.Core.Logic.{◌⊎◌, inl, inr, ◌≢◌}
use mathlib.Core.List.{List}
use Prim.Native.Nat.{ℕ, ◌+◌, ◌≤◌, ◌<◌}
use native.Mathlib.Omega.{arith}
use lib.IntN.{ℤ, pos}
use lib.ListN.{length, get_or, set, length-set}
use lib.Seq.{get_or-set_same, get_or-set_other}
use Rattle.base.specs.Lists.{position_of}
use Rattle.base.proofs.Booleans.{same_or}
use Rattle.base.proofs.Positions.{position_at}
use Rattle.matrix.specs.Limits.{max_rows}
use Rattle.matrix.specs.Matrix.{displacement}
use Rattle.plan.proofs.Once.{Once, low_at, injective}
use Rattle.upper.specs.Code.Upper.{Positions, Displaced, part_at, Begun}

-- one number more, each in a place of its own
pub held_next : {A : Type 0} (d : A) (place : ℕ → ℕ) (f : ℕ → A) (k : ℕ) (xs : List A) → place k < length xs → ((p : ℕ) → p < k → place p ≢ place k) → ((p : ℕ) → p < k → get_or xs (place p) d ≡ f p)
    → (v : A) → v ≡ f k → (p : ℕ) → p < k + 1 → get_or (set xs (place k) v) (place p) d ≡ f p
held_next d place f k xs l apart is v e p h = go (same_or p k)
  where
    go : (p ≡ k) ⊎ (p ≢ k) → get_or (set xs (place k) v) (place p) d ≡ f p
    go (inl q) = rw q (get_or-set_same xs (place k) v d l ∙ e)
    go (inr q) = let i : p < k = omega (arith, q) in get_or-set_other xs (place k) (place p) v d (apart p i) ∙ is p i

module _ (n : ℕ) (order : List ℕ) (once : Once n order) (few : n ≤ max_rows) (k : ℕ) (l : k < n) where
  -- the row at a position is one of the table's
  pub row_below : get_or order k 0 < max_rows
  row_below = omega (arith, low_at n order k once.low (omega (arith, once.long)))

  -- one position more
  pub positions-next : (position : List ℕ) → Positions k order position → Positions (k + 1) order (set position (get_or order k 0) k)
  positions-next position t = record {
    long = length-set position (get_or order k 0) k ∙ t.long;
    is = held_next 0 (λ p. get_or order p 0) (λ p. p) k position (omega (arith, row_below, t.long)) (λ p h. injective n order once p k (omega arith) l (λ e. omega arith)) t.is k refl;
  }

-- the row at the position of row i is i
pub position_back : (n : ℕ) (order position : List ℕ) → Once n order → Positions n order position → (i : ℕ) → i < n → (get_or position i 0 < n) × (get_or order (get_or position i 0) 0 ≡ i)
position_back n order position rows t i l =
    let at = position_at order i (rows.member i l) in
    let e : get_or position i 0 ≡ position_of order i = ap (λ (v : ℕ). get_or position v 0) (sym at.1) ∙ t.is (position_of order i) (omega (arith, at.0, rows.long)) in
    (omega (arith, at.0, rows.long), ap (λ (p : ℕ). get_or order p 0) e ∙ at.1)

-- ---- a table of a number for each position

-- one position more
pub table-next : {A : Type 0} (d : A) (f : ℕ → A) (k : ℕ) → k < max_rows → (xs : List A) → length xs ≡ max_rows → ((p : ℕ) → p < k → get_or xs p d ≡ f p) → (v : A) → v ≡ f k
    → (length (set xs k v) ≡ max_rows) × ((p : ℕ) → p < k + 1 → get_or (set xs k v) p d ≡ f p)
table-next d f k l xs long is v e = (length-set xs k v ∙ long, held_next d (λ p. p) f k xs (omega (arith, long)) (λ p h e. omega arith) is v e)

-- the displacements in plan order
pub displaced_next : (x : List ℤ) (order : List ℕ) (k : ℕ) → k < max_rows → (displaced : List ℤ) → Displaced k x order displaced → Displaced (k + 1) x order (set displaced k (displacement x (get_or order k 0)))
displaced_next x order k l displaced d =
    let t = table-next (pos 0) (λ p. displacement x (get_or order p 0)) k l displaced d.long d.is _ refl in
    record { long = t.0; is = t.1 }

-- where the parts begin
pub begun-next : (starts order : List ℕ) (k : ℕ) → k < max_rows → {v : ℕ} → v ≡ part_at starts (get_or order k 0) → {parts : List ℕ} → Begun k starts order parts → Begun (k + 1) starts order (set parts k v)
begun-next starts order k l {v} e {parts} b =
    let t = table-next 0 (λ p. part_at starts (get_or order p 0)) k l parts b.long b.is v e in
    record { long = t.0; is = t.1 }
