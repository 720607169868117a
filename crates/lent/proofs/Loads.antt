-- Numbers loaded into an array.
use mathlib.Core.Path.{◌≡◌, sym, ap, ◌∙◌}
use mathlib.Core.Bool.{true}
use mathlib.Core.List.{List, append-nil}
use Prim.Native.Nat.{ℕ, ◌/◌, ◌≤◌, min}
use native.Mathlib.Omega.{arith}
use lib.ListN.{length, take, drop, length-append, length-drop}
use lib.Seq.{take_at, take_all, length-take-le, drop-length}
use Rattle.matrix.specs.Matrix.{Matrix, is_matrix}
use Rattle.matrix.proofs.Cut.{cut}
use Rattle.plan.specs.Groups.{plan_of}
use Rattle.plan.specs.Sound.{is_plan}
use Rattle.plan.proofs.Cut.{cut-sound}
use Rattle.words.specs.LittleEndian.{stored}
use Rattle.words.proofs.Copies.{take_min}
use Rattle.words.proofs.Blocks.{decoded, length_decoded}

-- what a load from bytes leaves in an array; f reads one number of a width
module _ {A : Type 0} (f : List ℕ → A) (width : ℕ) (bytes : List ℕ) (old : List A) {array : List A} {count : ℕ}
    (e : count ≡ min (length bytes / width) (length old)) (h : array ≡ stored (take count (decoded f width bytes)) old) where
  abbrev list : List A
  list = decoded f width bytes

  taken : length (take count list) ≡ count
  taken = length-take-le count list (omega (arith, length_decoded f width bytes))

  -- the numbers that were loaded are there
  pub loaded_fits : count ≤ length array
  loaded_fits = rw (h, length-append (take count list) (drop (length (take count list)) old), length-drop, taken) (omega arith)

  pub loaded_size : count ≡ length (take count array)
  loaded_size = sym (length-take-le count array loaded_fits)

  -- they are those of the list, as far as the array reaches
  pub loaded_is : take count array ≡ take (length old) list
  loaded_is =
      let least : count ≡ min (length list) (length old) = omega (arith, length_decoded f width bytes) in
      rw (h, take_at (take count list) (drop (length (take count list)) old) count taken) (ap (λ (k : ℕ). take k list) least ∙ take_min (length old) list)

  -- all of them, where there are as many as the array has
  pub loaded_whole : length bytes / width ≡ length old → array ≡ list
  loaded_whole many =
      let same : length list ≡ length old = length_decoded f width bytes ∙ many in
      h ∙ rw (take_all count list (omega arith), same, drop-length, append-nil)

-- a plan of a matrix whose lists are cut
pub plan-of-cut : (m : Matrix) (order groups : List ℕ) (count : ℕ) → is_matrix m ≡ true → is_plan (cut m) order groups count ≡ is_plan m order groups count
unfolding is_plan
plan-of-cut m order groups count ok = rw (cut-sound m (plan_of m.n order groups count) ok)
