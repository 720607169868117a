-- Soundness at a distance k.
use Rattle.std.specs.Prelude.{◌≡◌, true, ℕ, ◌≤◌}
use Rattle.matrix.specs.Matrix.{Matrix, is_matrix}
use Rattle.plan.specs.Groups.{Plan}
use Rattle.plan.specs.Sound.{is_sound, is_sound_at}

pub record Distances : Type 0 where
  -- "a plan sound at a larger k is sound at a smaller"
  pub smaller : (m : Matrix) (o : Plan) (j k : ℕ) → j ≤ k → is_sound_at k m o ≡ true → is_sound_at j m o ≡ true
  -- soundness at 2 is document 01's: "The force run still checks at 2"
  pub two : (m : Matrix) (o : Plan) → is_matrix m ≡ true → is_sound_at 2 m o ≡ is_sound m o
  -- "so its promise holds for plans made with 2, 3 or 4"
  pub enough : (m : Matrix) (o : Plan) (k : ℕ) → is_matrix m ≡ true → 2 ≤ k → is_sound_at k m o ≡ true → is_sound m o ≡ true
