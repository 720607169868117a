-- The writer's answer and what it leaves in the lent text.
use mathlib.Core.Path.{◌≡◌, refl, sym, ap, ◌∙◌}
use mathlib.Core.Bool.{true, false}
use mathlib.Core.List.{List, ◌++◌}
use Prim.Native.Nat.{ℕ, ◌+◌, ◌≤◌, ◌<◌}
use native.Mathlib.Omega.{arith}
use lib.IntN.{pos}
use lib.ListN.{length, take, drop, length-append}
use borrow.Author.Tests.{le-leb, lt-leb}
use Rattle.base.specs.Refusals as why
use Rattle.base.specs.Replies.{accepted, refused, in_turn, lent}
use Rattle.matrix.specs.Matrix.{Matrix, is_matrix, matrix_check}
use Rattle.market.specs.Bytes.{header}
use Rattle.market.specs.Text.{line_of, text_of, lower, written, write_reply}
use Rattle.writer.specs.Code.Puts.{Put, lines_of, Tallied}
use Rattle.market.proofs.Written.{header-length}
use Rattle.writer.proofs.puts.Putting.{put_then, put_as}

module _ (m : Matrix) where
  -- line 1, the size line and the entries
  written_is : written m ≡ (header ++ line_of m.n m.n (pos (length (lower m)))) ++ lines_of (lower m)
  unfolding written text_of
  written_is = refl

  -- 5
  pub write_unmade : (room : ℕ) → is_matrix m ≡ false → write_reply m room ≡ refused why.not_matrix 0
  unfolding write_reply in_turn matrix_check
  write_unmade room h = rw h

  module _ (ok : is_matrix m ≡ true) where
    -- 9
    pub write-short : (room : ℕ) {needed : ℕ} → needed ≡ length (written m) → room < needed → write_reply m room ≡ refused why.too_short needed
    unfolding write_reply in_turn matrix_check
    write-short room e h = rw (ok, e, lt-leb (length (written m)) room (omega arith))

    write-accepts : (room : ℕ) → length (written m) ≤ room → write_reply m room ≡ accepted (length (written m))
    unfolding write_reply in_turn matrix_check
    write-accepts room h = rw (ok, le-leb (length (written m)) room h)

    -- the text is put
    module _ (old new : List ℕ) {r : ℕ} (a : Put (written m) 0 r old new) (h : length (written m) ≤ length old) where
      pub write-reply : accepted r ≡ write_reply m (length old)
      write-reply = ap accepted (a.next ∙ zero-sum (length (written m))) ∙ sym (write-accepts (length old) h)
        where
          zero-sum : (k : ℕ) → 0 + k ≡ k
          zero-sum k = omega arith

      pub write-text : new ≡ lent (write_reply m (length old)) (written m) old
      unfolding lent
      write-text = rw (write-accepts (length old) h) (a.text ∙ zero-drop (length (written m)))
        where
          zero-drop : (k : ℕ) → take 0 old ++ (written m ++ drop (0 + k) old) ≡ written m ++ drop k old
          zero-drop k = let e : 0 + k ≡ k = omega arith in rw e

  -- ---- its length and its parts

  module _ {entries bytes : ℕ} (t : Tallied (lower m) entries bytes) where
    -- how many bytes it takes
    pub needed_is : {w : ℕ} → w ≡ length (line_of m.n m.n (pos entries)) → 51 + w + bytes ≡ length (written m)
    needed_is e =
        let l = line_of m.n m.n (pos (length (lower m))) in
        let f : length (line_of m.n m.n (pos entries)) ≡ length l = ap (λ (k : ℕ). length (line_of m.n m.n (pos k))) t.entries_are in
        omega (arith, ap length written_is, length-append (header ++ l) (lines_of (lower m)), length-append header l, header-length, t.bytes_are)

    -- put part by part
    pub put_written : {p q r : ℕ} {old mid last new : List ℕ} → Put header 0 p old mid → Put (line_of m.n m.n (pos entries)) p q mid last → Put (lines_of (lower m)) q r last new → Put (written m) 0 r old new
    put_written a b c =
        put_as (ap (λ (k : ℕ). (header ++ line_of m.n m.n (pos k)) ++ lines_of (lower m)) t.entries_are ∙ sym written_is) (put_then (omega arith) (put_then (omega arith) a b) c)
