-- The numbers that the code writes are those of the job's prepared list.
use mathlib.Core.Path.{◌≡◌, refl, sym, ap, ◌∙◌}
use mathlib.Core.Bool.{Bool, true, false}
use mathlib.Core.List.{List, ◌++◌, map}
use Prim.Native.Nat.{ℕ, zero, suc, ◌+◌, ◌*◌, ◌-◌, ◌/◌, ◌%◌, ◌≤◌, ◌<◌}
use native.Mathlib.Omega.{arith}
use lib.Dec.{ltb}
use lib.IntN.{ℤ}
use lib.ListN.{length, get_or, length-map, get_or-append}
use lib.Seq.{ext_get_or, get_or-append-add}
use borrow.Author.Tests.{ltb-true, ltb-false}
use Rattle.base.specs.Lists.{concat, range, sum_below}
use Rattle.base.proofs.Lists.{length-range, map-range-zero}
use Rattle.base.proofs.Pieces.{length_pieces}
use Rattle.plan.specs.Groups.{records}
use Rattle.plan.specs.Sound.{max_workers}
use Rattle.run.specs.Job.{Job, Accepted, workers}
use Rattle.run.specs.Updates.{Update, updates, accesses, no_update}
use Rattle.tables.specs.Code.Laid.{first_of, Counted, Laid, Bounded}
use Rattle.waits.specs.Code.Waits.{Recorded}
use Rattle.steps.specs.Code.Updates.{Triangle}
use Rattle.steps.specs.Code.Steps.{StepTables}
use Rattle.steps.proofs.GivenTables.{step_tables}
use Rattle.steps.proofs.TableUpdates.{updates-are, row_below, begun-before, triangle-row, table-update}
use Rattle.prepared.specs.Gates.{gate}
use Rattle.prepared.specs.Format.{head_of, lists_of}
use Rattle.prepared.proofs.TablesOf.{piece_at, length-even}
use Rattle.preparing.specs.Code.Gates.{AllGates}
use Rattle.preparing.specs.Code.Filled.{gate_number, gate_numbers, update_number, update_numbers, Legible}
use Rattle.preparing.specs.Code.Rows.{HeadTo}
use Rattle.preparing.proofs.LeafGates.{leaf-gate}

-- ---- updates

-- update number k of all is one of a worker's
record Whose (j : Job) (k : ℕ) : Type 0 where
  worker : ℕ
  number : ℕ
  low : worker < max_workers
  inside : number < length (updates j worker)
  is : first_of j worker + number ≡ k

whose : (j : Job) (m k : ℕ) → m ≤ max_workers → k < first_of j m → Whose j k
unfolding sum_below
whose j zero k l h = absurd (omega arith)
whose j (suc m) k l h = go (ltb k (first_of j m)) refl (whose j m k (omega arith))
  where
    go : (b : Bool) → ltb k (first_of j m) ≡ b → (k < first_of j m → Whose j k) → Whose j k
    go true e before = before (ltb-true k (first_of j m) e)
    go false e before = let x = ltb-false k (first_of j m) e in record { worker = m; number = k - first_of j m; low = omega arith; inside = omega arith; is = omega arith }

module _ (j : Job) (ok : Accepted j) {first row begins leaves ends : List ℕ} (laid : Laid j first row begins leaves ends) (bounded : Bounded j.matrix.n first row leaves)
    {parts at : List ℕ} {displaced beside : List ℤ} (t : Triangle j parts displaced at beside) where
  first_is : (w : ℕ) → w < max_workers → (k : ℕ) → first_of j w + k ≡ get_or first w 0 + k
  first_is w l k = ap (λ (x : ℕ). x + k) (sym (laid.counted.is w (omega arith)))

  steps : StepTables j.matrix.n first row begins parts leaves at beside
  steps = step_tables j laid bounded t

  pub legible : Legible j.matrix.n (first_of j max_workers) row begins parts at beside
  legible = record {
    few = bounded.rows_few;
    at_low = t.placed.at_low;
    long = steps.long;
    room = steps.room;
    row_low = bounded.row_low;
    begun = λ k l. (let s = whose j max_workers k (omega arith) l in rw (sym s.is, first_is s.worker s.low s.number) (begun-before j laid s.worker s.low s.number s.inside));
    inside = λ k l. (let s = whose j max_workers k (omega arith) l in rw (sym s.is, first_is s.worker s.low s.number) (steps.inside s.worker s.number s.low (omega (arith, s.inside, updates-are j laid.counted s.worker s.low))));
  }

  pub all-updates : update_numbers (first_of j max_workers) row begins parts displaced at beside ≡ concat (map (updates j) (range 0 max_workers))
  all-updates =
      ext_get_or no_update (update_numbers count row begins parts displaced at beside) (concat (map (updates j) (range 0 max_workers)))
      (long ∙ sym (length_pieces (updates j) max_workers)) (λ k l. one k (omega (arith, long)))
    where
      count : ℕ
      count = first_of j max_workers

      f : ℕ → Update
      f = update_number row begins parts displaced at beside

      long : length (update_numbers count row begins parts displaced at beside) ≡ count
      long = length-map (range 0 count) f ∙ length-range 0 count

      one : (k : ℕ) → k < count → get_or (update_numbers count row begins parts displaced at beside) k no_update ≡ get_or (concat (map (updates j) (range 0 max_workers))) k no_update
      one k l =
          let s = whose j max_workers k (omega arith) l in
          let here : first_of j s.worker + s.number ≡ k = s.is in
          map-range-zero f count k no_update l
          ∙ ap f (sym s.is ∙ first_is s.worker s.low s.number) ∙ table-update j laid s.worker s.low s.number s.inside (triangle-row j t _ (row_below j laid s.worker s.low s.number s.inside))
          ∙ sym (piece_at (updates j) no_update max_workers s.worker s.number s.low s.inside)
          ∙ ap (λ (x : ℕ). get_or (concat (map (updates j) (range 0 max_workers))) x no_update) (ap (λ (x : ℕ). x + s.number) (length_pieces (updates j) s.worker) ∙ s.is)

  -- ---- gates

  pub all-gates : (count : ℕ) (groups : List ℕ) → j.plan.groups ≡ records count groups → Recorded count groups → (table : List ℕ) → AllGates max_workers count groups ends table
      → gate_numbers j.matrix.n leaves table ≡ concat (map (λ q. map (gate j q) (range 0 max_workers)) (range 0 j.matrix.n))
  all-gates count groups is R table a =
      ext_get_or 0 (gate_numbers n leaves table) (concat (map row16 (range 0 n))) (long ∙ sym (length-even row16 max_workers (λ q. refl) 0 n)) (λ k l. one k (omega (arith, long)))
    where
      n : ℕ
      n = j.matrix.n

      row16 : ℕ → List ℕ
      row16 q = map (gate j q) (range 0 max_workers)

      long : length (gate_numbers n leaves table) ≡ n * max_workers
      long = length-map (range 0 (n * max_workers)) (gate_number leaves table) ∙ length-range 0 (n * max_workers)

      one : (k : ℕ) → k < n * max_workers → get_or (gate_numbers n leaves table) k 0 ≡ get_or (concat (map row16 (range 0 n))) k 0
      one k l =
          let q : ℕ = k / max_workers in
          let v : ℕ = k % max_workers in
          let lq : q < n = omega arith in
          let lv : v < max_workers = omega arith in
          let leaf = laid.leaf q lq in
          let e : q * max_workers + v ≡ k = omega arith in
          map-range-zero (gate_number leaves table) (n * max_workers) k 0 l
          ∙ a.is (get_or leaves q 0) v (bounded.leaf_low q) lv
          ∙ leaf-gate j ok count groups is laid v (a.gates v) (a.are v lv) R (get_or leaves q 0) q leaf.leaf lq leaf.held
          ∙ sym (map-range-zero (gate j q) max_workers v 0 lv) ∙ sym (piece_at row16 0 n q v lq lv)
          ∙ ap (λ (x : ℕ). get_or (concat (map row16 (range 0 n))) x 0) (ap (λ (x : ℕ). x + v) (length-even row16 max_workers (λ q. refl) 0 q) ∙ e)

-- ---- the head

module _ (j : Job) {first : List ℕ} (counted : Counted j first) (head : List ℕ) (h : HeadTo max_workers j.matrix.n (workers j) first head) where
  most : List ℕ
  most = map (accesses j) (range 0 max_workers)

  firsts : List ℕ
  firsts = map (first_of j) (range 0 max_workers)

  both : (w : ℕ) → w < 32 → get_or head (4 + w) 0 ≡ get_or (most ++ firsts) w 0
  unfolding most firsts accesses
  both w l = go (ltb w max_workers) refl
    where
      go : (b : Bool) → ltb w max_workers ≡ b → get_or head (4 + w) 0 ≡ get_or (most ++ firsts) w 0
      go true e =
          let m = ltb-true w max_workers e in
          h.most_is w m ∙ ap (λ (x : ℕ). 2 * x) (updates-are j counted w m) ∙ sym (map-range-zero (accesses j) max_workers w 0 m) ∙ sym (get_or-append most firsts 0 w m)
      go false e =
          let m = ltb-false w max_workers e in
          let k : ℕ = w - max_workers in
          let x : 4 + w ≡ 20 + k = omega arith in
          let y : length most + k ≡ w = omega arith in
          ap (λ (i : ℕ). get_or head i 0) x ∙ h.first_is k (omega arith) ∙ counted.is k (omega arith) ∙ sym (map-range-zero (first_of j) max_workers k 0 (omega arith))
          ∙ sym (get_or-append-add most firsts k 0) ∙ ap (λ (i : ℕ). get_or (most ++ firsts) i 0) y

  pub head_is : head ≡ head_of (lists_of j)
  unfolding head_of lists_of most firsts
  head_is = ext_get_or 0 head (head_of (lists_of j)) h.long (λ i l. at i (omega (arith, h.long)))
    where
      at : (i : ℕ) → i < 36 → get_or head i 0 ≡ get_or (head_of (lists_of j)) i 0
      at zero l = h.mark_is
      at (suc zero) l = h.rows_are
      at (suc (suc zero)) l = h.crew_is
      at (suc (suc (suc zero))) l = h.count_is ∙ counted.is max_workers (omega arith) ∙ sym (length_pieces (updates j) max_workers)
      at (suc (suc (suc (suc w)))) l = (let e : suc (suc (suc (suc w))) ≡ 4 + w = omega arith in ap (λ (i : ℕ). get_or head i 0) e) ∙ both w (omega arith)
