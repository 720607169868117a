-- A stored entry of a kept force list: where it and its mirror stand, and what is known there.
use mathlib.Core.Path.{◌≡◌, refl, sym, ap, ◌∙◌}
use mathlib.Core.Bool.{Bool, true, false, cond}
use mathlib.Core.List.{List}
use Prim.Native.Nat.{ℕ, suc, ◌+◌, ◌*◌, ◌≤◌, ◌<◌}
use native.Mathlib.Omega.{arith}
use lib.IntN.{ℤ, pos, nat_abs, ◌-ℤ◌, ◌*ℤ◌}
use lib.ListN.{length, get_or}
use mir.Syntax.{w32}
use mir.Val.{SFits, of_z, to_z}
use mir.Facts.{to_z-of_z}
use borrow.Author.Tests.{leb-true}
use Rattle.std.specs.Prelude.{◌==◌, Some, None, position}
use Rattle.std.proofs.lemmas.List.Recursion.{is_position_or_len}
use Rattle.base.specs.Lists.{is_in, position_of}
use Rattle.base.specs.Integers.{within}
use Rattle.base.specs.Replies.{accepted}
use Rattle.base.proofs.Integers.{abs-sub, fits-abs}
use Rattle.matrix.specs.Limits.{max_value}
use Rattle.matrix.specs.Matrix.{Matrix, columns_of, entry, displacement, is_matrix}
use Rattle.matrix.proofs.Matrix.{matrix_facts, column-row, small-entry, small-displacement}
use Rattle.upkeep.specs.KeptCurrent.{Current}
use Rattle.upkeep.specs.Code.Sums.{current_reply, BothIn, Placed}
use Rattle.upkeep.proofs.Displacing.{current}
use Rattle.upkeep.proofs.Altering.{position_test, place_low, value-at, both-moved, both_in}

position_is : (xs : List ℕ) (v : ℕ) → position (λ x. x == v) xs ≡ cond (is_in xs v) (Some (position_of xs v)) None
unfolding position_of
position_is xs v = rw (sym (is_position_or_len (λ ys. position_of ys v) (λ x. x == v) refl (λ x ys. let e : 1 + position_of ys v ≡ suc (position_of ys v) = omega arith in rw e) xs), position_test xs v)

pub position_found : (xs : List ℕ) (v k : ℕ) → Some k ≡ position (λ x. x == v) xs → (is_in xs v ≡ true) × (k ≡ position_of xs v)
position_found xs v k e = go (is_in xs v) refl (rw (position_is xs v) at e)
  where
    go : (b : Bool) → is_in xs v ≡ b → Some k ≡ cond b (Some (position_of xs v)) None → (is_in xs v ≡ true) × (k ≡ position_of xs v)
    go true h e = (h, cc)
    go false h e = cc

pub position_missing : (xs : List ℕ) (v : ℕ) → None ≡ position (λ x. x == v) xs → is_in xs v ≡ false
position_missing xs v e = go (is_in xs v) refl (rw (position_is xs v) at e)
  where
    go : (b : Bool) → is_in xs v ≡ b → None ≡ cond b (Some (position_of xs v)) None → is_in xs v ≡ false
    go true h e = cc
    go false h e = h

pub mirror-named : (m : Matrix) → is_matrix m ≡ true → (i j : ℕ) → is_in (columns_of m i) j ≡ true → is_in (columns_of m j) i ≡ true
mirror-named m ok i j named = (((matrix_facts m ok).row i (column-row m i j named)).mirror j named).0

-- a difference, as the code has it
pub stepped : {to old r : ℤ} → SFits w32 to → SFits w32 old → r ≡ to_z w32 (of_z w32 to) -ℤ to_z w32 (of_z w32 old) → r ≡ to -ℤ old
stepped f g e = simp (to_z-of_z f, to_z-of_z g) at e

-- what is known of a kept force list, a stored entry's two places p and q, the value there and its new value
pub record Known (m : Matrix) (x fs : List ℤ) (i j : ℕ) (to : ℤ) (p q : ℕ) : Type 0 where
  pub current : Current (record { matrix = m; displacements = x; forces = fs })
  pub placed : Placed m i j p q
  pub small : within max_value to ≡ true
  pub first-low : p < length m.values
  pub second-low : q < length m.values
  pub old-is : get_or m.values p (pos 0) ≡ entry m i j
  pub step_small : nat_abs (to -ℤ get_or m.values p (pos 0)) ≤ 2 * max_value
  pub moved-fits : (r : ℕ) → SFits w32 (get_or x r (pos 0))
  pub both_ok : BothIn fs i j ((to -ℤ get_or m.values p (pos 0)) *ℤ get_or x j (pos 0)) ((to -ℤ get_or m.values p (pos 0)) *ℤ get_or x i (pos 0))
  pub inside : (i < length x) × (j < length x)

pub known : {m : Matrix} {x fs : List ℤ} {i j : ℕ} {to : ℤ} {p q : ℕ} {b : Bool} → accepted 0 ≡ current_reply m x fs → Placed m i j p q → SFits w32 to → b ≡ within max_value (to_z w32 (of_z w32 to)) → b ≡ true → Known m x fs i j to p q
unfolding within displacement
known {m} {x} {fs} {i} {j} {to} {p} {q} {b} reply placed fits tested passed =
    record {
      current = kept;
      placed = placed;
      small = small;
      first-low = rw placed.first (place_low m kept.matrix i j placed.stored);
      second-low = rw placed.second (place_low m kept.matrix j i (mirror-named m kept.matrix i j placed.stored));
      old-is = old-is;
      step_small = omega (arith, near, old-small, abs-sub to (get_or m.values p (pos 0)));
      moved-fits = λ r. fits-abs (omega (arith, small-displacement m.n x kept.moved r));
      both_ok = rw old-is (both_in m x fs kept i j to placed.stored near);
      inside = both-moved m x fs kept i j to placed.stored;
    }
  where
    kept : Current (record { matrix = m; displacements = x; forces = fs })
    kept = current (record { matrix = m; displacements = x; forces = fs }) 0 reply

    small : within max_value to ≡ true
    small = ap (within max_value) (sym (to_z-of_z fits)) ∙ sym tested ∙ passed

    near : nat_abs to ≤ max_value
    near = leb-true (nat_abs to) max_value small

    old-is : get_or m.values p (pos 0) ≡ entry m i j
    old-is = rw placed.first (value-at m kept.matrix i j placed.stored)

    old-small : nat_abs (get_or m.values p (pos 0)) ≤ max_value
    old-small = rw old-is (small-entry m kept.matrix i j)
