-- `counts_of` meets its contract: the first test that fails decides.
use mathlib.Core.List.{List}
use mathlib.Core.Path.{◌≡◌, sym, ap, ◌∙◌}
use Prim.Native.Nat.{ℕ, ◌/◌}
use native.Mathlib.Omega.{arith}
use lib.ListN.{get_or}
use Rattle.base.specs.Lists.{begins}
use Rattle.words.specs.LittleEndian.{unsigned}
use Rattle.planfile.specs.File.{freedoms_in, groups_in}
use Rattle.planfile.proofs.Judged.{no_table, no-counts, no_length, by_table}
use Rattle.planfile.proofs.judge.counts_of.Goals as goal

-- the counts are those in the table
rows : (file : List ℕ) {v : ℕ} → v ≡ get_or (unsigned 4 file) 3 0 → v / 4 ≡ freedoms_in file
unfolding freedoms_in
rows file e = rw e

records : (file : List ℕ) {v : ℕ} → v ≡ get_or (unsigned 4 file) 6 0 → v / 28 ≡ groups_in file
unfolding groups_in
records file e = rw e

pub returns-then-file : goal.returns-then-file
returns-then-file c = no_table c.args.file.now (omega arith)

pub returns-in_err-counts : goal.returns-in_err-counts
returns-in_err-counts c =
    let file = c.args.file.now in
    rw c.from_residual.ensures (no-counts file (rows file c.number_at.ensures) (records file c.number_at-2.ensures) c.in_err-counts.ensures)

pub returns-then-file-file_size : goal.returns-then-file-file_size
returns-then-file-file_size c =
    let file = c.args.file.now in
    let ok = c.in_ok-counts.ensures in
    no_length file (ok.1 ∙ rows file c.number_at.ensures) (ok.2 ∙ records file c.number_at-2.ensures) (λ e. c.if-file-file_size.true (e ∙ sym c.file_size.ensures.0))

pub returns-then-not-has_table : goal.returns-then-not-has_table
returns-then-not-has_table c =
    let file = c.args.file.now in
    let ok = c.in_ok-counts.ensures in
    sym
    (by_table file (ok.1 ∙ rows file c.number_at.ensures) (ok.2 ∙ records file c.number_at-2.ensures) (rw (ok.1, ok.2) ok.0) (c.if-file-file_size.false ∙ c.file_size.ensures.0))
    ∙ ap (begins (unsigned 4 file)) (sym c.table.ensures) ∙ sym c.has_table.ensures ∙ c.if-not-has_table.true

pub returns : goal.returns
returns c =
    let file = c.args.file.now in
    let ok = c.in_ok-counts.ensures in (
      sym
          (by_table file (ok.1 ∙ rows file c.number_at.ensures) (ok.2 ∙ records file c.number_at-2.ensures) (rw (ok.1, ok.2) ok.0) (c.if-file-file_size.false ∙ c.file_size.ensures.0))
          ∙ ap (begins (unsigned 4 file)) (sym c.table.ensures) ∙ sym c.has_table.ensures ∙ c.if-not-has_table.false,
      ok.1 ∙ rows file c.number_at.ensures,
      ok.2 ∙ records file c.number_at-2.ensures,
    )
