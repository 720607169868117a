-- The reply of the checks before a change: 5, 6, 20 in turn, by the product into a list that has room for every
-- matrix's.
use mathlib.Core.Path.{◌≡◌, refl, sym, ap, ◌∙◌}
use mathlib.Core.Bool.{Bool, true, false, cond}
use mathlib.Core.List.{List, ◌++◌}
use Prim.Native.Nat.{ℕ, ◌≤◌}
use native.Mathlib.Omega.{arith}
use lib.Dec.{leb}
use lib.IntN.{ℤ}
use lib.ListN.{length, take, drop}
use lib.Seq.{take-append_seam}
use borrow.Author.Tests.{le-leb}
use Rattle.base.specs.Refusals as why
use Rattle.base.specs.Replies.{accepted, refused, in_turn, lent}
use Rattle.base.proofs.Booleans.{is_false}
use Rattle.base.proofs.Replies.{accepted-all}
use Rattle.matrix.specs.Limits.{max_rows}
use Rattle.matrix.specs.Matrix.{Matrix, is_matrix, matrix_check, are_displacements, displacement_check}
use Rattle.matrix.specs.Product.{product, product_reply}
use Rattle.matrix.proofs.Matrix.{matrix_facts}
use Rattle.matrix.proofs.Product.{length-product}
use Rattle.upkeep.specs.Upkeep.{are_forces}
use Rattle.upkeep.specs.Code.Sums.{current_reply}
use Rattle.upkeep.proofs.KeptCurrent.{forces-product, product-forces}

module _ (m : Matrix) (x : List ℤ) where
  -- what a product that is accepted says
  pub record Loaded : Type 0 where
    pub matrix : is_matrix m ≡ true
    pub moved : are_displacements m.n x ≡ true

  pub loaded : (room k : ℕ) → accepted k ≡ product_reply m x room → Loaded
  unfolding product_reply matrix_check displacement_check
  loaded room k e = let held = accepted-all _ _ k (sym e) in record { matrix = held.0; moved = held.1.0 }

  -- a product with room is refused as the checks are
  pub current-refused : (fs : List ℤ) (room q p : ℕ) → refused q p ≡ product_reply m x room → max_rows ≤ room → refused q p ≡ current_reply m x fs
  unfolding product_reply current_reply matrix_check displacement_check in_turn
  current-refused fs room q p e long = go (is_matrix m) refl (are_displacements m.n x) e
    where
      go : (a : Bool) → is_matrix m ≡ a → (b : Bool)
          → refused q p ≡ cond a (cond b (cond (leb m.n room) (accepted 0) (refused why.too_short m.n)) (refused why.bad_displacement (displacement_check m.n x).place)) (refused why.not_matrix 0)
          → refused q p ≡ cond a (cond b (cond (are_forces m x fs) (accepted 0) (refused why.not_forces 0)) (refused why.bad_displacement (displacement_check m.n x).place)) (refused why.not_matrix 0)
      go true f true e =
          let n : leb m.n room ≡ true = le-leb m.n room (omega (arith, (matrix_facts m f).few)) in
          let z : refused q p ≡ accepted 0 = rw n at e in
          cc
      go true f false e = e
      go false f b e = e

  -- a product that is accepted stands at the front of its list
  pub made : (room k : ℕ) (full old : List ℤ) → accepted k ≡ product_reply m x room → full ≡ lent (product_reply m x room) (product m x) old → take m.n full ≡ product m x
  unfolding lent
  made room k full old e is =
      rw (is, ← e) (ap (λ (n : ℕ). take n (product m x ++ drop (length (product m x)) old)) (sym (length-product m x)) ∙ take-append_seam (product m x) (drop (length (product m x)) old))

  module _ (g : Loaded) (fs : List ℤ) where
    pub current_stale : (fs ≡ product m x → ⊥) → refused why.not_forces 0 ≡ current_reply m x fs
    unfolding current_reply matrix_check displacement_check in_turn
    current_stale d = rw (g.matrix, g.moved, is_false (λ h. d (forces-product m x fs h)))

    pub current-fine : fs ≡ product m x → accepted 0 ≡ current_reply m x fs
    unfolding current_reply matrix_check displacement_check in_turn
    current-fine e = rw (g.matrix, g.moved, product-forces m x fs e)
