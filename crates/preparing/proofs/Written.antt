-- The parts of a prepared list, written one after the other, are the list.
use mathlib.Core.Path.{◌≡◌, refl, sym, ap, ◌∙◌}
use mathlib.Core.List.{List, ◌++◌, map, append_assoc}
use Prim.Native.Nat.{ℕ, ◌+◌, ◌*◌, ◌≤◌, ◌<◌}
use native.Mathlib.Omega.{arith}
use lib.ListN.{length, drop, length-append}
use lib.Seq.{sets, sets-eq}
use borrow.Author.Tests.{le-leb, lt-leb}
use Rattle.base.specs.Refusals as why
use Rattle.base.specs.Replies.{accepted, refused, in_turn, lent}
use Rattle.base.specs.Lists.{concat, range, position_of}
use Rattle.base.proofs.Pieces.{length_pieces}
use Rattle.plan.specs.Sound.{max_workers}
use Rattle.run.specs.Job.{Job, Accepted}
use Rattle.run.specs.Updates.{Update, updates}
use Rattle.tables.specs.Code.Laid.{first_of}
use Rattle.words.specs.LittleEndian.{unsigned_bytes}
use Rattle.words.proofs.Blocks.{length_encoded}
use Rattle.prepared.specs.Gates.{gate}
use Rattle.prepared.specs.Format.{head_bytes, update_bytes, gate_bytes, row_bytes, gates_from, bytes_of_update, head_of, bytes_of_lists, lists_of, prepared_bytes}
use Rattle.prepared.proofs.ReadBack.{update_code, head_long, gates-long, lists-long}
use Rattle.prepared.proofs.JobFits.{job-fits}
use Rattle.prepared.specs.Prepare.{list_reply}
use Rattle.preparing.specs.Code.Prepared.{PreparedIn}
use Rattle.preparing.proofs.Fills.{sets-append}

-- how many bytes the updates of a job have
pub updates-long : (j : Job) → length (concat (map bytes_of_update (lists_of j).updates)) ≡ first_of j max_workers * update_bytes
unfolding lists_of
updates-long j = length_encoded bytes_of_update update_bytes update_code.size (lists_of j).updates ∙ ap (λ (n : ℕ). n * update_bytes) (length_pieces (updates j) max_workers)

-- the updates, then the gates
pub tables_written : (j : Job) (out out1 out2 : List ℕ) (us : ℕ → List Update) (gs : ℕ → List ℕ) (n count : ℕ)
    → out1 ≡ sets out head_bytes (concat (map bytes_of_update (us count))) → out2 ≡ sets out1 (gates_from count) (unsigned_bytes 4 (gs n))
    → count ≡ first_of j max_workers → n ≡ j.matrix.n
    → us (first_of j max_workers) ≡ concat (map (updates j) (range 0 max_workers)) → gs j.matrix.n ≡ concat (map (λ q. map (gate j q) (range 0 max_workers)) (range 0 j.matrix.n))
    → out2 ≡ sets out head_bytes (concat (map bytes_of_update (lists_of j).updates) ++ unsigned_bytes 4 (lists_of j).gates)
unfolding lists_of
tables_written j out out1 out2 us gs n count x y c e u g =
    let E : List ℕ = concat (map bytes_of_update (lists_of j).updates) in
    let G : List ℕ = unsigned_bytes 4 (lists_of j).gates in
    let long : head_bytes + length E ≡ gates_from count = omega (arith, updates-long j, c) in
    y ∙ ap (λ (l : List ℕ). sets out1 (gates_from count) (unsigned_bytes 4 l)) (ap gs e ∙ g)
    ∙ ap (λ (l : List ℕ). sets l (gates_from count) G) (x ∙ ap (λ (l : List Update). sets out head_bytes (concat (map bytes_of_update l))) (ap us c ∙ u))
    ∙ ap (λ (k : ℕ). sets (sets out head_bytes E) k G) (sym long) ∙ sets-append out head_bytes E G

module _ (j : Job) (ok : Accepted j) where
  -- how many bytes the whole has
  pub prepared-long : length (prepared_bytes j) ≡ gates_from (first_of j max_workers) + j.matrix.n * row_bytes
  unfolding prepared_bytes lists_of
  prepared-long = lists-long (lists_of j) (job-fits j ok) ∙ ap (λ (u : ℕ). gates_from u + j.matrix.n * row_bytes) (length_pieces (updates j) max_workers)

  -- head, tables and positions one after the other, where there is room
  pub all-written : (out out1 out2 out3 : List ℕ) (from : ℕ) → length (prepared_bytes j) ≤ length out → from ≡ gates_from (first_of j max_workers) + j.matrix.n * gate_bytes
      → out1 ≡ sets out 0 (unsigned_bytes 4 (head_of (lists_of j)))
      → out2 ≡ sets out1 head_bytes (concat (map bytes_of_update (lists_of j).updates) ++ unsigned_bytes 4 (lists_of j).gates)
      → out3 ≡ sets out2 from (unsigned_bytes 4 (map (position_of j.plan.order) (range 0 j.matrix.n)))
      → out3 ≡ prepared_bytes j ++ drop (length (prepared_bytes j)) out
  unfolding prepared_bytes bytes_of_lists lists_of
  all-written out out1 out2 out3 from room f x y z =
      let H : List ℕ = unsigned_bytes 4 (head_of (lists_of j)) in
      let E : List ℕ = concat (map bytes_of_update (lists_of j).updates) in
      let G : List ℕ = unsigned_bytes 4 (lists_of j).gates in
      let P : List ℕ = unsigned_bytes 4 (lists_of j).places in
      let fits = job-fits j ok in
      let first : length H ≡ head_bytes = head_long (lists_of j) fits in
      let hl : 0 + length H ≡ head_bytes = omega arith in
      let el : length E ≡ first_of j max_workers * update_bytes = updates-long j in
      let gl : length G ≡ j.matrix.n * gate_bytes = gates-long (lists_of j) fits in
      let pl : 0 + length (H ++ (E ++ G)) ≡ from = omega (arith, length-append H (E ++ G), length-append E G, hl, el, gl, f) in
      let all : 0 + length (prepared_bytes j) ≡ length (prepared_bytes j) = omega arith in
      let whole : H ++ (E ++ G) ++ P ≡ H ++ (E ++ (G ++ P)) = append_assoc H (E ++ G) P ∙ ap (λ (l : List ℕ). H ++ l) (append_assoc E G P) in
      z ∙ ap (λ (l : List ℕ). sets l from P) (y ∙ ap (λ (l : List ℕ). sets l head_bytes (E ++ G)) x ∙ ap (λ (k : ℕ). sets (sets out 0 H) k (E ++ G)) (sym hl) ∙ sets-append out 0 H (E ++ G))
      ∙ ap (λ (k : ℕ). sets (sets out 0 (H ++ (E ++ G))) k P) (sym pl) ∙ sets-append out 0 (H ++ (E ++ G)) P ∙ ap (sets out 0) whole
      ∙ sets-eq (prepared_bytes j) out 0 (omega arith) ∙ ap (λ (k : ℕ). prepared_bytes j ++ drop k out) all

-- ---- what is replied

module _ (j : Job) (old : List ℕ) {size : ℕ} (e : size ≡ length (prepared_bytes j)) where
  pub prepare_short : length old < size → PreparedIn j old (refused why.too_short size) old
  unfolding in_turn lent list_reply
  prepare_short l = record { replies = rw (e, lt-leb (length (prepared_bytes j)) (length old) (omega arith)) refl; leaves = refl }

  pub prepare_done : size ≤ length old → {new : List ℕ} → new ≡ prepared_bytes j ++ drop (length (prepared_bytes j)) old → PreparedIn j old (accepted size) new
  unfolding in_turn lent list_reply
  prepare_done l w = record { replies = rw (e, le-leb (length (prepared_bytes j)) (length old) (omega arith)) refl; leaves = w }
