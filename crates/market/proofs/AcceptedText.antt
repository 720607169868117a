-- The matrix of an accepted text is a matrix, also in the lists that the reader's call leaves.
use mathlib.Core.Path.{◌≡◌}
use mathlib.Core.List.{List}
use Prim.Native.Nat.{ℕ}
use lib.IntN.{ℤ}
use lib.ListN.{length}
use Rattle.base.specs.Replies.{accepted}
use Rattle.base.proofs.Replies.{accepted-count}
use Rattle.matrix.specs.SameRows.{SameRows}
use Rattle.matrix.specs.Left.{matrix_left}
use Rattle.matrix.proofs.Alike.{left-rows}
use Rattle.market.specs.Parse.{Triplet, matrix_text, parse}
use Rattle.market.specs.FullRows.{of_triplets, read_matrix, read_reply}
use Rattle.market.specs.AcceptedText.{left_in, AcceptedText}
use Rattle.market.proofs.Accepted.{parse-accepted}
use Rattle.market.proofs.TextMatrix.{text-matrix}

module _ (n k : ℕ) (es : List Triplet) (ss cs : List ℕ) (vs : List ℤ) (r : read_reply (matrix_text n es) (length ss) (length cs) (length vs) ≡ accepted k) where
  left_by_lem : left_in k (matrix_text n es) ss cs vs ≡ matrix_left (read_reply (matrix_text n es) (length ss) (length cs) (length vs)) (of_triplets n es) ss cs vs
  unfolding left_in matrix_left read_matrix read_reply of_triplets
  left_by_lem = let e : n ≡ k = accepted-count _ n k r in rw e

left : (text : List ℕ) (n k : ℕ) (es : List Triplet) (ss cs : List ℕ) (vs : List ℤ) → parse text ≡ matrix_text n es
    → read_reply (parse text) (length ss) (length cs) (length vs) ≡ accepted k → SameRows (left_in k (parse text) ss cs vs) (of_triplets n es)
left text n k es ss cs vs e r =
    let a = rw e at r in
    rw (e, left_by_lem n k es ss cs vs a) (left-rows (of_triplets n es) (text-matrix (parse-accepted text n es e)) (read_reply (matrix_text n es) (length ss) (length cs) (length vs)) k a ss cs vs)

-- the theorem
pub accepted-text : AcceptedText
accepted-text = record { matrix = λ text n es e. text-matrix (parse-accepted text n es e); left = left }
