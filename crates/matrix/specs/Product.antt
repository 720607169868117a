-- The full product, on one core.
use Rattle.std.specs.Prelude.{List, [], ◌∷◌, map, ℕ, ℤ, ◌*ℤ◌}
use Rattle.base.specs.Lists.{range}
use Rattle.base.specs.Integers.{sumℤ}
use Rattle.base.specs.Replies.{Reply, accepted, refused, in_turn, room_for}
use Rattle.matrix.specs.Matrix.{Matrix, entry, displacement, matrix_check, displacement_check}

-- "The full product has at i the sum over all freedoms j of entry (i, j) × j's movement, absent entries as 0"
unfoldable pub force_at : Matrix → List ℤ → ℕ → ℤ
force_at m x i = sumℤ (λ j. entry m i j *ℤ displacement x j) m.n

unfoldable pub product : Matrix → List ℤ → List ℤ
product m x = map (force_at m x) (range 0 m.n)

-- the call's reply: 5, 6, 9. Its list of forces is then `lent (product_reply m x room) (product m x)` of what it was
unfoldable pub product_reply : Matrix → List ℤ → (room : ℕ) → Reply
product_reply m x room = in_turn refused (matrix_check m ∷ displacement_check m.n x ∷ room_for m.n room ∷ []) (accepted 0)
