-- The writer's call on lists that are cut.
use mathlib.Core.Path.{◌≡◌, ap₂}
use mathlib.Core.Bool.{true, ◌&&◌}
use mathlib.Core.List.{List, [], ◌∷◌, map}
use Prim.Native.Nat.{ℕ}
use lib.Dec.{leb}
use lib.IntN.{ℤ}
use lib.ListN.{length}
use Rattle.base.specs.Lists.{filter, is_in, concat, range}
use Rattle.base.specs.Replies.{refused, accepted, room_for}
use Rattle.base.proofs.Replies.{in_turn-same, accepted-all}
use Rattle.matrix.specs.Matrix.{Matrix, is_matrix, matrix_check}
use Rattle.matrix.proofs.Cut.{cut, cut-matrix, cut-columns, cut-entry}
use Rattle.market.specs.Parse.{triplet}
use Rattle.market.specs.Text.{text_of, column_of, lower, written, write_reply}
use Rattle.lent.specs.Word.{Answered}
use Rattle.lent.proofs.Answers.{answered-same}

-- the text of n rows with these columns and entries
abbrev text : ℕ → (ℕ → List ℕ) → (ℕ → ℕ → ℤ) → List ℕ
text n columns entry = text_of n (concat (map (λ j. map (λ i. triplet i j (entry i j)) (filter (λ i. leb j i && is_in (columns i) j) (range 0 n))) (range 0 n)))

module _ (m : Matrix) where
  written-cut : is_matrix m ≡ true → written (cut m) ≡ written m
  unfolding written lower column_of
  written-cut ok = ap₂ (text m.n) (cut-columns m ok) (cut-entry m ok)

  reply-cut : (room : ℕ) → write_reply (cut m) room ≡ write_reply m room
  unfolding write_reply matrix_check
  reply-cut room = rw (cut-matrix m) (in_turn-same refused (matrix_check m) _ _ _ _ (λ ok. rw (written-cut ok)))

  write-made : (room k : ℕ) → write_reply m room ≡ accepted k → is_matrix m ≡ true
  unfolding write_reply matrix_check
  write-made room k e = (accepted-all (matrix_check m ∷ room_for (length (written m)) room ∷ []) (accepted (length (written m))) k e).0

  -- the lists that a call decodes, cut, for the whole ones
  pub decoded_matrix : (room : ℕ) {c : Matrix} {old : List ℕ} {w : ℕ} {new : List ℕ} → c ≡ cut m → Answered (write_reply c room) (written c) old w new → Answered (write_reply m room) (written m) old w new
  decoded_matrix room e t = answered-same (reply-cut room) (λ k a. written-cut (write-made room k a)) (rw e at t)
