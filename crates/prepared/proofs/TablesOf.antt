-- The lists of a job are its tables.
use mathlib.Core.Path.{◌≡◌, refl, sym, ap, ◌∙◌}
use mathlib.Core.List.{List, ◌++◌, map}
use Prim.Native.Nat.{ℕ, zero, suc, ◌+◌, ◌*◌, ◌-◌, ◌≤◌, ◌<◌}
use native.Mathlib.Omega.{arith}
use native.Mathlib.Nat.{suc-mul}
use lib.ListN.{length, get_or, length-append, get_or-append}
use lib.Seq.{get_or-append-add}
use Rattle.base.specs.Lists.{concat, range, sum_below, position_of}
use Rattle.base.proofs.Lists.{map-range-zero}
use Rattle.base.proofs.Pieces.{pieces_between, length_pieces}
use Rattle.plan.specs.Sound.{max_workers}
use Rattle.run.specs.Job.{Job, Accepted, workers}
use Rattle.run.specs.Updates.{Update, updates, accesses, no_update}
use Rattle.run.proofs.Accepted.{facts}
use Rattle.run.proofs.Work.{locate}
use Rattle.run.proofs.Next.{at_row}
use Rattle.prepared.specs.Gates.{gate}
use Rattle.prepared.specs.Tables.{Of, update_at}
use Rattle.prepared.specs.Format.{tables_of, lists_of}

-- ---- pieces of a list

module _ {A : Type 0} (f : ℕ → List A) where
  -- an element of piece i, counted from the piece's begin
  pub piece_at : (d : A) (n i v : ℕ) → i < n → v < length (f i) → get_or (concat (map f (range 0 n))) (length (concat (map f (range 0 i))) + v) d ≡ get_or (f i) v d
  piece_at d n i v l m =
      let before : List A = concat (map f (range 0 i)) in
      let past : List A = concat (map f (range (suc i) (n - suc i))) in
      ap (λ (xs : List A). get_or xs (length before + v) d) (pieces_between f n i l) ∙ get_or-append-add before (f i ++ past) v d ∙ get_or-append (f i) past d v m

  -- pieces of one length
  pub length-even : (size : ℕ) → ((i : ℕ) → length (f i) ≡ size) → (k n : ℕ) → length (concat (map f (range k n))) ≡ n * size
  length-even size long k zero = omega arith
  length-even size long k (suc n) = length-append (f k) (concat (map f (range (suc k) n))) ∙ omega (arith, long k, length-even size long (suc k) n, suc-mul n size)

module _ (j : Job) (ok : Accepted j) where
  few : workers j ≤ max_workers
  few = (facts j ok).few

  -- update number k of worker w
  at : (w k : ℕ) → w < workers j → k < length (updates j w) → (tables_of (lists_of j)).update w k ≡ update_at j w k
  unfolding tables_of lists_of
  at w k l m =
      ap (λ (x : ℕ). get_or (concat (map (updates j) (range 0 max_workers))) (x + k) no_update)
      (map-range-zero (sum_below (λ w. length (updates j w))) max_workers w 0 (omega (arith, few)) ∙ sym (length_pieces (updates j) w))
      ∙ piece_at (updates j) no_update max_workers w k (omega (arith, few)) m

  -- its row
  row_below : (w k : ℕ) → k < length (updates j w) → (update_at j w k).row < j.matrix.n
  unfolding updates
  row_below w k m = let a = locate j w j.matrix.n k m in omega (arith, at_row j a, a.below)

  -- what it waits for
  needs : (w k v : ℕ) → w < workers j → k < length (updates j w) → v < max_workers → (tables_of (lists_of j)).need w k v ≡ gate j (update_at j w k).row v
  unfolding tables_of lists_of
  needs w k v l m h =
      let gates : ℕ → List ℕ = λ q. map (gate j q) (range 0 max_workers) in
      let q : ℕ = (update_at j w k).row in
      ap (λ (u : Update). get_or (lists_of j).gates (u.row * max_workers + v) 0) (at w k l m)
      ∙ ap (λ (x : ℕ). get_or (lists_of j).gates (x + v) 0) (sym (length-even gates max_workers (λ q. refl) 0 q))
      ∙ piece_at gates 0 j.matrix.n q v (row_below w k m) h
      ∙ map-range-zero (gate j q) max_workers v 0 h

  pub tables-of : Of (tables_of (lists_of j)) j
  unfolding tables_of lists_of
  tables-of = record {
    rows_are = refl;
    crew_is = refl;
    most_is = λ w l. map-range-zero (accesses j) max_workers w 0 l;
    target_is = λ w k l m. ap (λ (u : Update). u.target) (at w k l m);
    amount_is = λ w k l m. ap (λ (u : Update). u.amount) (at w k l m);
    need_is = needs;
    place_is = λ i l. map-range-zero (position_of j.plan.order) j.matrix.n i 0 l;
  }
