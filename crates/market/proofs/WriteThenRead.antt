-- A matrix that is written and then read is the same matrix.
use mathlib.Core.Path.{◌≡◌, sym, ap, ◌∙◌}
use mathlib.Core.Bool.{true}
use mathlib.Core.List.{List}
use Prim.Native.Nat.{ℕ, suc, ◌≤◌}
use native.Mathlib.Numerals.{add-one}
use lib.ListN.{length, take, length-map}
use lib.Seq.{take-append_seam, length-take-le}
use borrow.Author.Tests.{le-leb}
use Rattle.base.specs.Replies.{accepted, in_turn, lent}
use Rattle.matrix.specs.Matrix.{Matrix, is_matrix, matrix_check}
use Rattle.matrix.proofs.Matrix.{matrix_facts}
use Rattle.market.specs.Parse.{Triplet, Parsed, matrix_text, parse}
use Rattle.market.specs.FullRows.{full, rows_of, columns, of_triplets, read_matrix, read_reply}
use Rattle.market.specs.Text.{lower, written, write_reply}
use Rattle.market.specs.WriteThenRead.{size, exactly, WriteThenRead}
use Rattle.market.proofs.Accepted.{parse-accepted}
use Rattle.market.proofs.FullCount.{length-rows}
use Rattle.market.proofs.Written.{parse-text-of}
use Rattle.market.proofs.Lower.Good.{lower_good}
use Rattle.market.proofs.Lower.Count.{lower-few}
use Rattle.market.proofs.Lower.Back.{matrix-back}

module _ (m : Matrix) (ok : is_matrix m ≡ true) where
  written-parsed : parse (written m) ≡ matrix_text m.n (lower m)
  unfolding written
  written-parsed = let f = matrix_facts m ok in parse-text-of m.n (lower m) f.some f.few (lower-few m ok) (lower_good m ok)

  same-matrix : read_matrix (parse (written m)) ≡ exactly m
  unfolding read_matrix
  same-matrix = ap read_matrix written-parsed ∙ matrix-back m ok

  -- both halves are as many entries as the rows have
  full_size : length (full (lower m)) ≡ size m
  unfolding columns of_triplets exactly size
  full_size =
      sym (length-rows m.n (lower m) (parse-accepted (written m) m.n (lower m) written-parsed).inner) ∙ sym (length-map (rows_of m.n (lower m)) (λ (e : Triplet). e.column))
      ∙ ap (λ (x : Matrix). length x.columns) (matrix-back m ok) ∙ length-take-le (size m) m.columns (matrix_facts m ok).columns_long

  write-accepts : (text : List ℕ) → length (written m) ≤ length text → write_reply m (length text) ≡ accepted (length (written m))
  unfolding write_reply in_turn matrix_check
  write-accepts text h = rw (ok, le-leb (length (written m)) (length text) h)

  text-there : (text : List ℕ) → length (written m) ≤ length text → take (length (written m)) (lent (write_reply m (length text)) (written m) text) ≡ written m
  unfolding lent
  text-there text h = rw (write-accepts text h) (take-append_seam (written m) _)

  read-accepts : (a b c : ℕ) → suc m.n ≤ a → size m ≤ b → size m ≤ c → read_reply (parse (written m)) a b c ≡ accepted m.n
  unfolding read_reply in_turn
  read-accepts a b c ha hb hc = ap (λ (t : Parsed). read_reply t a b c) written-parsed ∙ rw (add-one m.n, le-leb (suc m.n) a ha, full_size, le-leb (size m) b hb, le-leb (size m) c hc)

-- the theorem
pub write_then_read : WriteThenRead
write_then_read = record {
  every = λ m ok. record { parsed = written-parsed m ok; same = same-matrix m ok; writes = λ text h. (write-accepts m ok text h, text-there m ok text h); reads = read-accepts m ok };
}
