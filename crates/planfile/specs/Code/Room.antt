-- What is known once a plan may be written.
use Rattle.std.specs.Prelude.{◌≡◌, true, List, ℕ, ◌*◌, ◌/◌, ◌≤◌, length}
use Rattle.plan.specs.Groups.{width}
use Rattle.planfile.specs.File.{number_size, file_size, is_sized}

-- there is a plan in the lists, and room for its file
pub record Writable (n : ℕ) (order groups : List ℕ) (count room : ℕ) : Type 0 where
  pub sized : is_sized n count ≡ true
  pub rows : n ≤ length order / number_size
  pub fields : width * count ≤ length groups / number_size
  pub fits : file_size n count ≤ room
