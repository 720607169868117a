-- "Each record gets a seventh field, its depth: 0 for the whole, otherwise its parent's plus 1. A plan is sound only if
-- the field says so."
use Rattle.std.specs.Prelude.{◌≡◌, true, List, [], ℕ, suc, ◌<◌, length, get_or}
use Rattle.matrix.specs.Matrix.{Matrix}
use Rattle.plan.specs.Groups.{Group, Plan, of_fields}
use Rattle.plan.specs.Sound.{is_sound}

-- the record at an index
abbrev pub group_at : List Group → ℕ → Group
group_at gs i = get_or gs i (of_fields [])

pub record Depths : Type 0 where
  pub whole : (m : Matrix) (p : Plan) → is_sound m p ≡ true → (group_at p.groups 0).depth ≡ 0
  pub others : (m : Matrix) (p : Plan) → is_sound m p ≡ true → (i : ℕ) → 0 < i → i < length p.groups
      → (group_at p.groups i).depth ≡ suc (group_at p.groups (group_at p.groups i).parent).depth
