-- `write` meets its contract: the matrix is tested, the text measured, and then put part by part.
use mathlib.Core.Path.{◌≡◌, sym, ◌∙◌}
use mathlib.Core.Bool.{true}
use Prim.Native.Nat.{◌≤◌, ◌+◌, ◌*◌}
use native.Mathlib.Omega.{arith}
use lib.IntN.{pos}
use lib.ListN.{length}
use mir.Syntax.{w32}
use mir.Val.{to_z}
use mir.ValLaws.{to_z_pos}
use Rattle.matrix.specs.Matrix.{Matrix, is_matrix}
use Rattle.matrix.specs.Held.{held}
use Rattle.matrix.specs.Limits.{max_rows}
use Rattle.market.specs.Text.{line_of, lower, written}
use Rattle.writer.specs.Code.Puts.{Put}
use Rattle.base.proofs.Replies.{lent-refused}
use Rattle.matrix.proofs.Matrix.{matrix_facts}
use Rattle.market.proofs.Lower.Count.{lower-few}
use Rattle.market.proofs.Written.{header-length}
use Rattle.writer.proofs.puts.Digits.{natural-few, integer-few, length-line}
use Rattle.writer.proofs.rows.Entries.{lines-few}
use Rattle.writer.proofs.rows.Replies.{write_unmade, write-short, write-reply, write-text, needed_is, put_written}
use Rattle.writer.proofs.write.Goals as goal

pub returns-then-not-is_matrix : goal.returns-then-not-is_matrix
returns-then-not-is_matrix c =
    let one : Matrix = held c.args.m.now in
    let e = write_unmade one (length c.args.text.now) (sym c.is_matrix.ensures ∙ c.if-not-is_matrix.true) in
    record { result_value = sym e; text_after = sym (lent-refused (written one) c.args.text.now _ _ _ e) }

pub overflow_cast-n : goal.overflow_cast-n
overflow_cast-n c = omega (arith, (matrix_facts (held c.args.m.now) (sym c.is_matrix.ensures ∙ c.if-not-is_matrix.false)).few)

pub overflow_cast-count : goal.overflow_cast-count
overflow_cast-count c =
    let one : Matrix = held c.args.m.now in
    let is_one : is_matrix one ≡ true = sym c.is_matrix.ensures ∙ c.if-not-is_matrix.false in
    let few : (c.tally_rows-size.result.entries ≤ 32768) × (c.tally_rows-size.result.bytes ≤ 34 * 32768) = let t = c.tally_rows-size.ensures in
    let l = lower-few one is_one in
    (omega (arith, t.entries_are), omega (arith, t.bytes_are, lines-few (lower one))) in
    let f = few in record { sfits = omega arith }

pub line_width-requires : goal.line_width-requires
line_width-requires c =
    let one : Matrix = held c.args.m.now in
    let is_one : is_matrix one ≡ true = sym c.is_matrix.ensures ∙ c.if-not-is_matrix.false in
    let low : c.args.m.now.n ≤ max_rows = (matrix_facts one is_one).few in
    (low, low)

pub overflow_add-needed : goal.overflow_add-needed
overflow_add-needed c =
    let one : Matrix = held c.args.m.now in
    let is_one : is_matrix one ≡ true = sym c.is_matrix.ensures ∙ c.if-not-is_matrix.false in
    let few : (c.tally_rows-size.result.entries ≤ 32768) × (c.tally_rows-size.result.bytes ≤ 34 * 32768) = let t = c.tally_rows-size.ensures in
    let l = lower-few one is_one in
    (omega (arith, t.entries_are), omega (arith, t.bytes_are, lines-few (lower one))) in
    let count : to_z w32 c.tally_rows-size.result.entries ≡ pos c.tally_rows-size.result.entries = let f = few in to_z_pos w32 c.tally_rows-size.result.entries (omega arith) in
    let width : let n = c.args.m.now.n in c.line_width.result ≡ length (line_of n n (pos c.tally_rows-size.result.entries)) = rw count at c.line_width.ensures in
    let short : c.line_width.result ≤ 34 = let n = c.args.m.now.n in
    let k = c.tally_rows-size.result.entries in
    omega (arith, width, length-line n n (pos k), natural-few n, integer-few (pos k)) in
    omega (arith, short)

pub overflow_add-needed-2 : goal.overflow_add-needed-2
overflow_add-needed-2 c =
    let one : Matrix = held c.args.m.now in
    let is_one : is_matrix one ≡ true = sym c.is_matrix.ensures ∙ c.if-not-is_matrix.false in
    let few : (c.tally_rows-size.result.entries ≤ 32768) × (c.tally_rows-size.result.bytes ≤ 34 * 32768) = let t = c.tally_rows-size.ensures in
    let l = lower-few one is_one in
    (omega (arith, t.entries_are), omega (arith, t.bytes_are, lines-few (lower one))) in
    let count : to_z w32 c.tally_rows-size.result.entries ≡ pos c.tally_rows-size.result.entries = let f = few in to_z_pos w32 c.tally_rows-size.result.entries (omega arith) in
    let width : let n = c.args.m.now.n in c.line_width.result ≡ length (line_of n n (pos c.tally_rows-size.result.entries)) = rw count at c.line_width.ensures in
    let short : c.line_width.result ≤ 34 = let n = c.args.m.now.n in
    let k = c.tally_rows-size.result.entries in
    omega (arith, width, length-line n n (pos k), natural-few n, integer-few (pos k)) in
    let f = few in omega (arith, short)

pub overflow_cast-result : goal.overflow_cast-result
overflow_cast-result c =
    let one : Matrix = held c.args.m.now in
    let is_one : is_matrix one ≡ true = sym c.is_matrix.ensures ∙ c.if-not-is_matrix.false in
    let few : (c.tally_rows-size.result.entries ≤ 32768) × (c.tally_rows-size.result.bytes ≤ 34 * 32768) = let t = c.tally_rows-size.ensures in
    let l = lower-few one is_one in
    (omega (arith, t.entries_are), omega (arith, t.bytes_are, lines-few (lower one))) in
    let count : to_z w32 c.tally_rows-size.result.entries ≡ pos c.tally_rows-size.result.entries = let f = few in to_z_pos w32 c.tally_rows-size.result.entries (omega arith) in
    let width : let n = c.args.m.now.n in c.line_width.result ≡ length (line_of n n (pos c.tally_rows-size.result.entries)) = rw count at c.line_width.ensures in
    let short : c.line_width.result ≤ 34 = let n = c.args.m.now.n in
    let k = c.tally_rows-size.result.entries in
    omega (arith, width, length-line n n (pos k), natural-few n, integer-few (pos k)) in
    let f = few in omega (arith, short)

pub returns-then-text-needed : goal.returns-then-text-needed
returns-then-text-needed c =
    let one : Matrix = held c.args.m.now in
    let is_one : is_matrix one ≡ true = sym c.is_matrix.ensures ∙ c.if-not-is_matrix.false in
    let few : (c.tally_rows-size.result.entries ≤ 32768) × (c.tally_rows-size.result.bytes ≤ 34 * 32768) = let t = c.tally_rows-size.ensures in
    let l = lower-few one is_one in
    (omega (arith, t.entries_are), omega (arith, t.bytes_are, lines-few (lower one))) in
    let count : to_z w32 c.tally_rows-size.result.entries ≡ pos c.tally_rows-size.result.entries = let f = few in to_z_pos w32 c.tally_rows-size.result.entries (omega arith) in
    let width : let n = c.args.m.now.n in c.line_width.result ≡ length (line_of n n (pos c.tally_rows-size.result.entries)) = rw count at c.line_width.ensures in
    let needed : 51 + c.line_width.result + c.tally_rows-size.result.bytes ≡ length (written one) = needed_is one c.tally_rows-size.ensures width in
    let e = write-short one is_one (length c.args.text.now) needed c.if-text-needed.true in
    record { result_value = sym e; text_after = sym (lent-refused (written one) c.args.text.now _ _ _ e) }

pub put_line-second-requires : goal.put_line-second-requires
put_line-second-requires c =
    let one : Matrix = held c.args.m.now in
    let is_one : is_matrix one ≡ true = sym c.is_matrix.ensures ∙ c.if-not-is_matrix.false in
    let low : c.args.m.now.n ≤ max_rows = (matrix_facts one is_one).few in
    let few : (c.tally_rows-size.result.entries ≤ 32768) × (c.tally_rows-size.result.bytes ≤ 34 * 32768) = let t = c.tally_rows-size.ensures in
    let l = lower-few one is_one in
    (omega (arith, t.entries_are), omega (arith, t.bytes_are, lines-few (lower one))) in
    let count : to_z w32 c.tally_rows-size.result.entries ≡ pos c.tally_rows-size.result.entries = let f = few in to_z_pos w32 c.tally_rows-size.result.entries (omega arith) in
    let width : let n = c.args.m.now.n in c.line_width.result ≡ length (line_of n n (pos c.tally_rows-size.result.entries)) = rw count at c.line_width.ensures in
    (low, low, rw count (omega (arith, c.if-text-needed.false, width, c.put_header-first.ensures.next, c.put_header-first.ensures.long, header-length)))

pub put_rows-end-requires : goal.put_rows-end-requires
put_rows-end-requires c =
    let one : Matrix = held c.args.m.now in
    let is_one : is_matrix one ≡ true = sym c.is_matrix.ensures ∙ c.if-not-is_matrix.false in
    let few : (c.tally_rows-size.result.entries ≤ 32768) × (c.tally_rows-size.result.bytes ≤ 34 * 32768) = let t = c.tally_rows-size.ensures in
    let l = lower-few one is_one in
    (omega (arith, t.entries_are), omega (arith, t.bytes_are, lines-few (lower one))) in
    let count : to_z w32 c.tally_rows-size.result.entries ≡ pos c.tally_rows-size.result.entries = let f = few in to_z_pos w32 c.tally_rows-size.result.entries (omega arith) in
    let width : let n = c.args.m.now.n in c.line_width.result ≡ length (line_of n n (pos c.tally_rows-size.result.entries)) = rw count at c.line_width.ensures in
    let p = rw count at c.put_line-second.ensures in
    (is_one, omega (arith, c.if-text-needed.false, width, c.put_header-first.ensures.next, c.put_header-first.ensures.long, header-length, p.next, p.long, c.tally_rows-size.ensures.bytes_are))

pub overflow_cast-result-2 : goal.overflow_cast-result-2
overflow_cast-result-2 c =
    let one : Matrix = held c.args.m.now in
    let is_one : is_matrix one ≡ true = sym c.is_matrix.ensures ∙ c.if-not-is_matrix.false in
    let few : (c.tally_rows-size.result.entries ≤ 32768) × (c.tally_rows-size.result.bytes ≤ 34 * 32768) = let t = c.tally_rows-size.ensures in
    let l = lower-few one is_one in
    (omega (arith, t.entries_are), omega (arith, t.bytes_are, lines-few (lower one))) in
    let count : to_z w32 c.tally_rows-size.result.entries ≡ pos c.tally_rows-size.result.entries = let f = few in to_z_pos w32 c.tally_rows-size.result.entries (omega arith) in
    let width : let n = c.args.m.now.n in c.line_width.result ≡ length (line_of n n (pos c.tally_rows-size.result.entries)) = rw count at c.line_width.ensures in
    let needed : 51 + c.line_width.result + c.tally_rows-size.result.bytes ≡ length (written one) = needed_is one c.tally_rows-size.ensures width in
    let short : c.line_width.result ≤ 34 = let n = c.args.m.now.n in
    let k = c.tally_rows-size.result.entries in
    omega (arith, width, length-line n n (pos k), natural-few n, integer-few (pos k)) in
    let whole : Put (written one) 0 c.put_rows-end.result c.args.text.now c.put_rows-end.new.text = put_written one c.tally_rows-size.ensures c.put_header-first.ensures (rw count at c.put_line-second.ensures) c.put_rows-end.ensures in
    let f = few in
    omega (arith, whole.next, needed, short)

pub returns : goal.returns
returns c =
    let one : Matrix = held c.args.m.now in
    let is_one : is_matrix one ≡ true = sym c.is_matrix.ensures ∙ c.if-not-is_matrix.false in
    let few : (c.tally_rows-size.result.entries ≤ 32768) × (c.tally_rows-size.result.bytes ≤ 34 * 32768) = let t = c.tally_rows-size.ensures in
    let l = lower-few one is_one in
    (omega (arith, t.entries_are), omega (arith, t.bytes_are, lines-few (lower one))) in
    let count : to_z w32 c.tally_rows-size.result.entries ≡ pos c.tally_rows-size.result.entries = let f = few in to_z_pos w32 c.tally_rows-size.result.entries (omega arith) in
    let width : let n = c.args.m.now.n in c.line_width.result ≡ length (line_of n n (pos c.tally_rows-size.result.entries)) = rw count at c.line_width.ensures in
    let needed : 51 + c.line_width.result + c.tally_rows-size.result.bytes ≡ length (written one) = needed_is one c.tally_rows-size.ensures width in
    let whole : Put (written one) 0 c.put_rows-end.result c.args.text.now c.put_rows-end.new.text = put_written one c.tally_rows-size.ensures c.put_header-first.ensures (rw count at c.put_line-second.ensures) c.put_rows-end.ensures in
    let room-left : 51 + c.line_width.result + c.tally_rows-size.result.bytes ≤ length c.args.text.now = c.if-text-needed.false in
    let room : length (written one) ≤ length c.args.text.now = omega (arith, needed, room-left) in
    record { result_value = write-reply one is_one c.args.text.now _ whole room; text_after = write-text one is_one c.args.text.now _ whole room }
