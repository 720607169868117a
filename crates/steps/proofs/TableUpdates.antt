-- The updates that the tables give are the job's.
use mathlib.Core.Path.{◌≡◌, refl, sym, ap, ◌∙◌}
use mathlib.Core.Logic.{◌≢◌}
use mathlib.Core.Bool.{Bool, true, false}
use mathlib.Core.List.{List, ◌∷◌}
use Prim.Native.Nat.{ℕ, zero, suc, ◌+◌, ◌*◌, ◌-◌, ◌/◌, ◌%◌, ◌≤◌, ◌<◌}
use native.Mathlib.Numerals.{add-one}
use native.Mathlib.Omega.{arith}
use lib.Dec.{eqb}
use lib.IntN.{ℤ, pos, ◌*ℤ◌}
use lib.ListN.{length, get_or}
use borrow.Author.Tests.{eqb-true, eqb-false, eq-eqb, ne_eqb}
use Rattle.base.specs.Lists.{sum_below}
use Rattle.plan.specs.Sound.{max_workers}
use Rattle.run.specs.Job.{Job, row_at}
use Rattle.run.specs.Updates.{Update, entry_at, displacement_at, later, row_updates, updates, no_update}
use Rattle.tables.specs.Code.Laid.{update_at, first_of, next_of, begin_of, updates_in, Counted, Laid}
use Rattle.upper.specs.Code.Upper.{upper_of}
use Rattle.upper.specs.Code.Row.{Part}
use Rattle.upper.proofs.UpperRows.{upper_whole}
use Rattle.steps.specs.Code.Updates.{by_turns, entry_place, update_in, Triangle}
use Rattle.run.proofs.RowUpdates.{row-length, row-at}
use Rattle.run.proofs.Work.{cum, At, locate}
use Rattle.run.proofs.Next.{at_row}

-- ---- the updates of a row

-- one of two numbers below n
pub by_low : (k a b : ℕ) {n : ℕ} → a < n → b < n → by_turns k a b < n
by_low k a b {n} l h = go (eqb (k % 2) 0) refl
  where
    go : (t : Bool) → eqb (k % 2) 0 ≡ t → by_turns k a b < n
    go true e = rw e l
    go false e = rw e h

-- job j's displacements stand in plan order, and the row at p has its part of the upper triangle
pub record RowFound (j : Job) (parts : List ℕ) (displaced : List ℤ) (at : List ℕ) (beside : List ℤ) (p : ℕ) : Type 0 where
  pub low : p < j.matrix.n
  pub displacements : (q : ℕ) → q < j.matrix.n → get_or displaced q (pos 0) ≡ displacement_at j q
  pub at_low : (k : ℕ) → get_or at k 0 < j.matrix.n
  pub part : Part j.matrix j.plan.order p (get_or parts p 0) at beside

module _ (j : Job) {parts : List ℕ} {displaced : List ℤ} {at : List ℕ} {beside : List ℤ} {p : ℕ} (t : RowFound j parts displaced at beside p) where
  -- the row's own position, then the later adjacent ones
  abbrev others : List ℕ
  others = p ∷ later j p

  -- the update with other row number c
  abbrev with_other : (k c : ℕ) → Update
  with_other k c = record { row = p; target = by_turns k (get_or others c 0) p; amount = entry_at j p (get_or others c 0) *ℤ displacement_at j (by_turns k p (get_or others c 0)) }

  found : (k c : ℕ) → (k + 1) / 2 ≡ c → c < length others → update_in parts displaced at beside p k ≡ with_other k c
  unfolding entry_at row_at
  found k c e l =
      let whole = upper_whole j p t.low in
      let inside : c < length (upper_of j.matrix j.plan.order p) = omega (arith, ap length whole) in
      let same = ap (λ (xs : List ℕ). get_or xs c 0) whole in
      let q : get_or at (get_or parts p 0 + c) 0 ≡ get_or others c 0 = t.part.positions c inside ∙ same in
      let v : get_or beside (get_or parts p 0 + c) (pos 0) ≡ entry_at j p (get_or others c 0) = t.part.entries c inside ∙ ap (entry_at j p) same in
      rw (e, t.displacements _ (by_low k p _ t.low (t.at_low (get_or parts p 0 + c))), q, v)

  -- by the numbers of the updates
  pub row-update : (k : ℕ) → k < length (row_updates j p) → update_in parts displaced at beside p k ≡ get_or (row_updates j p) k no_update
  unfolding row_updates
  row-update zero l = found 0 0 refl (omega arith)
  row-update (suc k) l = go (eqb (k % 2) 0) refl
    where
      i : ℕ
      i = k / 2

      low_i : i < length (later j p)
      low_i = omega (arith, row-length j p)

      go : (b : Bool) → eqb (k % 2) 0 ≡ b → update_in parts displaced at beside p (suc k) ≡ get_or (row_updates j p) (suc k) no_update
      go true e =
          let f : suc k ≡ suc (2 * i) = omega (arith, eqb-true (k % 2) 0 e) in
          let d : suc (2 * i) % 2 ≢ 0 = λ z. omega arith in
          rw f (found (suc (2 * i)) (suc i) (omega arith) (omega (arith, low_i)) ∙ rw (ne_eqb (suc (2 * i) % 2) 0 d) (sym (row-at j p i low_i).0))
      go false e =
          let f : suc k ≡ suc (suc (2 * i)) = omega (arith, eqb-false (k % 2) 0 e) in
          let d : suc (suc (2 * i)) % 2 ≡ 0 = omega arith in
          rw f (found (suc (suc (2 * i))) (suc i) (omega arith) (omega (arith, low_i)) ∙ rw (eq-eqb (suc (suc (2 * i)) % 2) 0 d) (sym (row-at j p i low_i).1))

-- .. so has every row in the whole upper triangle
pub triangle-row : (j : Job) {parts : List ℕ} {displaced : List ℤ} {at : List ℕ} {beside : List ℤ} → Triangle j parts displaced at beside
    → (p : ℕ) → p < j.matrix.n → RowFound j parts displaced at beside p
triangle-row j t p low =
    let whole = upper_whole j p low in
    record {
      low = low;
      displacements = t.displacements;
      at_low = t.placed.at_low;
      part = record { positions = λ c l. rw whole (t.placed.positions p c low (rw whole at l)); entries = λ c l. rw whole (t.placed.entries p c low (rw whole at l)) };
    }

-- ---- the updates of a worker

-- how many it has
pub updates-are : (j : Job) {first : List ℕ} → Counted j first → (w : ℕ) → w < max_workers → updates_in first w ≡ length (updates j w)
unfolding sum_below
updates-are j c w l =
    let e : first_of j (w + 1) ≡ first_of j w + length (updates j w) = ap (first_of j) (add-one w) in
    omega (arith, c.is w (omega arith), c.is (w + 1) (omega arith))

module _ (j : Job) {first row begins leaves ends : List ℕ} (laid : Laid j first row begins leaves ends) (w : ℕ) (l : w < max_workers) where
  module _ (k : ℕ) (low : k < length (updates j w)) where
    -- where number k is
    pub placed_at : At j w j.matrix.n k
    unfolding updates
    placed_at = locate j w j.matrix.n k low

    pub begins-is : get_or begins placed_at.row 0 ≡ get_or first w 0 + cum j w placed_at.row
    begins-is =
        laid.begun placed_at.row placed_at.below ∙ ap (λ (v : ℕ). next_of j v placed_at.row) placed_at.mine
        ∙ ap (λ (f : ℕ). f + cum j w placed_at.row) (sym (laid.counted.is w (omega arith)))

    -- its number among the row's
    number : ℕ
    number = k - cum j w placed_at.row

    here : get_or first w 0 + k ≡ begin_of j placed_at.row + number
    unfolding number
    here = omega (arith, laid.begun placed_at.row placed_at.below, begins-is, placed_at.low)

    -- its row
    pub row_is : get_or row (get_or first w 0 + k) 0 ≡ placed_at.row
    unfolding number
    row_is = ap (λ (y : ℕ). get_or row y 0) here ∙ laid.rows placed_at.row number placed_at.below placed_at.inside

    pub row_below : get_or row (get_or first w 0 + k) 0 < j.matrix.n
    row_below = rw row_is placed_at.below

    -- it is not before the row's first
    pub begun-before : get_or begins (get_or row (get_or first w 0 + k) 0) 0 ≤ get_or first w 0 + k
    begun-before = rw row_is (omega (arith, begins-is, placed_at.low))

    -- its number is that of the place, from the row's first on
    number_is : get_or first w 0 + k - get_or begins placed_at.row 0 ≡ k - cum j w placed_at.row
    number_is = omega (arith, begins-is)

    -- the row's update by that number
    pub table-update : {parts : List ℕ} {displaced : List ℤ} {at : List ℕ} {beside : List ℤ} → RowFound j parts displaced at beside (get_or row (get_or first w 0 + k) 0)
        → update_in parts displaced at beside (get_or row (get_or first w 0 + k) 0) (get_or first w 0 + k - get_or begins (get_or row (get_or first w 0 + k) 0) 0) ≡ update_at j w k
    unfolding updates
    table-update t = rw (row_is, number_is) (row-update j (rw row_is at t) (k - cum j w placed_at.row) placed_at.inside ∙ sym placed_at.is)

    -- .. has its entry in the tables, if there is room for the row's
    pub entry-inside : (parts : List ℕ) {room : ℕ} → ((p : ℕ) → p < j.matrix.n → get_or parts p 0 + suc (length (later j p)) ≤ room)
        → entry_place parts (get_or row (get_or first w 0 + k) 0) (get_or first w 0 + k - get_or begins (get_or row (get_or first w 0 + k) 0) 0) < room
    entry-inside parts h = rw (row_is, number_is) (omega (arith, placed_at.inside, row-length j placed_at.row, h placed_at.row placed_at.below))

    -- .. is one of the job's
    pub row-is-update : get_or row (get_or first w 0 + k) 0 ≡ (update_at j w k).row
    row-is-update = row_is ∙ sym (at_row j placed_at)
