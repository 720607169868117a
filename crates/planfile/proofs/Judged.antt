-- What the tests on a file come to.
use mathlib.Core.Path.{◌≡◌}
use mathlib.Core.Bool.{true, false}
use mathlib.Core.List.{List}
use Prim.Native.Nat.{ℕ, ◌<◌}
use native.Mathlib.Omega.{arith}
use lib.ListN.{length}
use borrow.Author.Tests.{eq-eqb, ne_eqb}
use Rattle.base.specs.Lists.{begins}
use Rattle.base.proofs.Booleans.{and_false}
use Rattle.words.specs.LittleEndian.{unsigned}
use Rattle.planfile.specs.File.{contents, file_size, is_sized, freedoms_in, groups_in, is_file}

module _ (file : List ℕ) where
  -- it has not the length that its counts call for
  other_length : (length file ≡ file_size (freedoms_in file) (groups_in file) → ⊥) → is_file file ≡ false
  unfolding is_file
  other_length h = rw (ne_eqb (length file) (file_size (freedoms_in file) (groups_in file)) h, and_false (is_sized (freedoms_in file) (groups_in file)))

  pub no_table : length file < 28 → is_file file ≡ false
  unfolding file_size
  no_table h = other_length (λ e. omega arith)

  module _ {n count : ℕ} (en : n ≡ freedoms_in file) (ec : count ≡ groups_in file) where
    pub no-counts : is_sized n count ≡ false → is_file file ≡ false
    unfolding is_file
    no-counts h = rw (rw (en, ec) at h)

    pub no_length : (length file ≡ file_size n count → ⊥) → is_file file ≡ false
    no_length h = other_length (rw (en, ec) at h)

    pub by_table : is_sized n count ≡ true → length file ≡ file_size n count → begins (unsigned 4 file) (contents n count) ≡ is_file file
    unfolding is_file
    by_table s l = rw (en, ec, rw (en, ec) at s, eq-eqb (length file) (file_size (freedoms_in file) (groups_in file)) (rw (en, ec) at l))
