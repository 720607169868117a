-- The product's call on lists that are cut, and on sums that are made beside the lent list.
use mathlib.Core.Path.{◌≡◌, sym, ap, ◌∙◌}
use mathlib.Core.Bool.{true}
use mathlib.Core.List.{List, [], ◌∷◌, ◌++◌}
use Prim.Native.Nat.{ℕ, ◌/◌, ◌≤◌, min}
use native.Mathlib.Nat.{min_comm}
use native.Mathlib.Omega.{arith}
use lib.IntN.{ℤ}
use lib.ListN.{length, take}
use borrow.Author.Tests.{leb-true}
use Rattle.base.specs.Replies.{accepted, refused, Check, room_for, lent}
use Rattle.base.proofs.Booleans.{leb-min}
use Rattle.base.proofs.Replies.{in_turn-same, accepted-all, lent-refused}
use Rattle.base.proofs.Fill.{length-made}
use Rattle.matrix.specs.Limits.{max_rows}
use Rattle.matrix.specs.Code.Room.{max_starts}
use Rattle.matrix.specs.Matrix.{Matrix, is_matrix, matrix_check, displacement_check, are_displacements}
use Rattle.matrix.specs.Product.{force_at, product, product_reply}
use Rattle.matrix.proofs.Matrix.{matrix_facts}
use Rattle.matrix.proofs.Cut.{cut, cut-matrix, cut_product, cut-displacements, displacements-kept}
use Rattle.words.specs.LittleEndian.{signed_bytes_of, signed_bytes, stored}
use Rattle.lent.specs.Word.{word, Answered}
use Rattle.lent.proofs.Answers.{answered-same, Begins, begins, begins-stored}

module _ (m : Matrix) (x : List ℤ) (room : ℕ) where
  abbrev checks : List Check
  checks = matrix_check m ∷ displacement_check m.n x ∷ room_for m.n room ∷ []

  -- what an accepted call has checked
  pub record Made : Type 0 where
    pub matrix : is_matrix m ≡ true
    pub moved : are_displacements m.n x ≡ true
    pub long : m.n ≤ room

  pub product-made : (k : ℕ) → product_reply m x room ≡ accepted k → Made
  unfolding product_reply matrix_check displacement_check
  product-made k e =
      let all = accepted-all checks (accepted 0) k e in
      record { matrix = all.0; moved = all.1.0; long = leb-true m.n room all.1.1.0 }

  -- ---- cut lists

  matrix-cut-reply : product_reply (cut m) x room ≡ product_reply m x room
  unfolding product_reply matrix_check
  matrix-cut-reply = rw (cut-matrix m)

  -- cut, the lists of the matrix give the same reply and forces
  matrix-cut : {old : List ℕ} {w : ℕ} {new : List ℕ} → Answered (product_reply (cut m) x room) (signed_bytes 8 (product (cut m) x)) old w new
      → Answered (product_reply m x room) (signed_bytes 8 (product m x)) old w new
  matrix-cut t = answered-same matrix-cut-reply (λ k e. ap (signed_bytes 8) (cut_product m (product-made k e).matrix x)) t

  displacements-cut-reply : product_reply m (take max_starts x) room ≡ product_reply m x room
  unfolding product_reply matrix_check
  displacements-cut-reply = in_turn-same refused (matrix_check m) _ _ _ _ (λ h. rw (cut-displacements m.n x (matrix_facts m h).few))

  uncut : (k : ℕ) → product_reply m x room ≡ accepted k → take max_starts x ≡ x
  uncut k e = let made = product-made k e in displacements-kept m.n x (matrix_facts m made.matrix).few made.moved

  -- .. and so do the displacements
  displacements-cut : {old : List ℕ} {w : ℕ} {new : List ℕ} → Answered (product_reply m (take max_starts x) room) (signed_bytes 8 (product m (take max_starts x))) old w new
      → Answered (product_reply m x room) (signed_bytes 8 (product m x)) old w new
  displacements-cut t = answered-same displacements-cut-reply (λ k e. ap (λ (l : List ℤ). signed_bytes 8 (product m l)) (uncut k e)) t

  -- .. and the room for forces
  room_cut : (size : ℕ) → max_rows ≤ size → product_reply m x (min room size) ≡ product_reply m x room
  unfolding product_reply matrix_check
  room_cut size enough = in_turn-same refused (matrix_check m) _ _ _ _ (λ h. rw (min_comm room size, leb-min m.n size room (omega (arith, (matrix_facts m h).few))))

-- the lists that a call decodes, cut, for the whole ones
pub decoded_lists : (m : Matrix) (x : List ℤ) (room : ℕ) {c : Matrix} {y : List ℤ} {old : List ℕ} {w : ℕ} {new : List ℕ} → c ≡ cut m → y ≡ take max_starts x
    → Answered (product_reply c y room) (signed_bytes 8 (product c y)) old w new → Answered (product_reply m x room) (signed_bytes 8 (product m x)) old w new
decoded_lists m x room ec ey t = displacements-cut m x room (matrix-cut m (take max_starts x) room (rw (ec, ey) at t))

-- ---- sums beside the lent list

length-product : (m : Matrix) (x : List ℤ) → length (product m x) ≡ m.n
unfolding product
length-product m x = length-made (force_at m x) [] m.n

-- `many` sums: as many as the lent list has room for, and no more than `size`
module _ (m : Matrix) (x : List ℤ) (size many : ℕ) (enough : max_rows ≤ size) (forces : List ℕ) (least : many ≡ min (length forces / 8) size) where
  many-reply : product_reply m x many ≡ product_reply m x (length forces / 8)
  many-reply = ap (product_reply m x) least ∙ room_cut m x (length forces / 8) size enough

  -- a refused call leaves the lent list
  pub product-refused : (q p : ℕ) {w : ℕ} → refused q p ≡ product_reply m x many → w ≡ word (refused q p)
      → Answered (product_reply m x (length forces / 8)) (signed_bytes 8 (product m x)) forces w forces
  product-refused q p e f =
      let reply = sym (e ∙ many-reply) in
      record { returns = f ∙ ap word (sym reply); leaves = sym (lent-refused (signed_bytes 8 (product m x)) forces _ q p reply) }

  -- an accepted one makes the sums, and stores the first n of them
  module _ (k : ℕ) (e : accepted k ≡ product_reply m x many) where
    made : Made m x many
    made = product-made m x many k (sym e)

    module _ (old sums rest : List ℤ) (s : sums ≡ lent (product_reply m x many) (product m x) old) where
      pub product-begins : Begins (sums ++ rest) (product m x) m.n
      product-begins = begins (sym e) (product m x) old s rest (length-product m x)

      pub product-stored : {w : ℕ} {new : List ℕ} → w ≡ word (accepted k) → new ≡ stored (signed_bytes 8 (take (length forces / 8) (take m.n (sums ++ rest)))) forces
          → Answered (product_reply m x (length forces / 8)) (signed_bytes 8 (product m x)) forces w new
      product-stored f g =
          let reply = e ∙ many-reply in
          record { returns = f ∙ ap word reply; leaves = begins-stored product-begins (signed_bytes_of 8) 8 forces (sym reply) (omega (arith, made.long)) g }
