-- The reply to a change, and the forces after a new displacement.
use mathlib.Core.Path.{◌≡◌, refl, sym, ap, ◌∙◌}
use mathlib.Core.Bool.{Bool, true, false, cond}
use mathlib.Core.List.{List}
use Prim.Native.Nat.{ℕ, ◌≤◌, ◌<◌}
use native.Mathlib.Omega.{arith}
use lib.IntN.{ℤ, pos, nat_abs, ◌-ℤ◌}
use lib.ListN.{length, get_or, set}
use lib.Seq.{ext_get_or}
use borrow.Author.Tests.{leb-true, lt-ltb, le-ltb}
use Rattle.base.specs.Integers.{within}
use Rattle.base.specs.Refusals as why
use Rattle.base.specs.Replies.{Reply, accepted, refused, in_turn}
use Rattle.base.proofs.Integers.{abs-sub}
use Rattle.base.proofs.Replies.{accepted-all}
use Rattle.matrix.specs.Limits.{max_displacement}
use Rattle.matrix.specs.Matrix.{Matrix, columns_of, values_of, matrix_check, displacement, displacement_check}
use Rattle.matrix.specs.Product.{force_at, product}
use Rattle.matrix.proofs.Checks.{matrix_tidy}
use Rattle.matrix.proofs.Matrix.{symmetric, displacements-many, small-displacement}
use Rattle.matrix.proofs.Product.{length-product, product_at}
use Rattle.matrix.proofs.Rows.{entry_row}
use Rattle.matrix.proofs.SmallForces.{small-forces}
use Rattle.matrix.proofs.Symmetry.{row-ordered, row_lengths}
use Rattle.upkeep.specs.Upkeep.{KeptForces, Change, new_displacement, are_forces, is_named, is_small, changed, matrix_after, displacements_after, change_reply, after_reply, after_change}
use Rattle.upkeep.specs.KeptCurrent.{Current}
use Rattle.upkeep.specs.Code.Sums.{current_reply, Addable, Added}
use Rattle.upkeep.proofs.Deltas.{move_force}
use Rattle.upkeep.proofs.KeptCurrent.{forces-product, refusals}

-- ---- the reply

module _ (k : KeptForces) where
  -- a list that the checks before a change accept is current
  pub current : (j : ℕ) → accepted j ≡ current_reply k.matrix k.displacements k.forces → Current k
  unfolding current_reply matrix_check displacement_check
  current j e =
      let held = accepted-all _ _ j (sym e) in
      record { matrix = held.0; moved = held.1.0; forces = forces-product k.matrix k.displacements k.forces held.1.1.0 }

  module _ (c : Change) where
    -- what they refuse is refused
    pub unchecked : (q p : ℕ) → refused q p ≡ current_reply k.matrix k.displacements k.forces → refused q p ≡ change_reply k c
    unfolding current_reply change_reply in_turn
    unchecked q p e = go (matrix_check k.matrix).holds (displacement_check k.matrix.n k.displacements).holds (are_forces k.matrix k.displacements k.forces) e
      where
        later : Reply
        later = cond (is_named k.matrix c) (cond (is_small c) (accepted 0) (refused why.bad_change 0)) (refused why.no_entry 0)

        go : (x y z : Bool) → refused q p
            ≡ cond x (cond y (cond z (accepted 0) (refused why.not_forces 0)) (refused (displacement_check k.matrix.n k.displacements).number (displacement_check k.matrix.n k.displacements).place)) (refused (matrix_check k.matrix).number (matrix_check k.matrix).place)
            → refused q p
            ≡ cond x (cond y (cond z later (refused why.not_forces 0)) (refused (displacement_check k.matrix.n k.displacements).number (displacement_check k.matrix.n k.displacements).place)) (refused (matrix_check k.matrix).number (matrix_check k.matrix).place)
        go true true true e = cc
        go true true false e = e
        go true false z e = e
        go false y z e = e

    module _ (g : Current k) where
      pub unnamed : is_named k.matrix c ≡ false → refused why.no_entry 0 ≡ change_reply k c
      unfolding in_turn
      unnamed h = sym (refusals k g c ∙ rw h)

      pub unsmall : is_named k.matrix c ≡ true → is_small c ≡ false → refused why.bad_change 0 ≡ change_reply k c
      unfolding in_turn
      unsmall h s = sym (refusals k g c ∙ rw (h, s))

      pub fine : is_named k.matrix c ≡ true → is_small c ≡ true → accepted 0 ≡ change_reply k c
      unfolding in_turn
      fine h s = sym (refusals k g c ∙ rw (h, s))

    -- what it leaves
    pub left-same : (q p : ℕ) → refused q p ≡ change_reply k c → k ≡ after_change k c
    unfolding after_change after_reply
    left-same q p e = rw (← e)

    pub left-changed : accepted 0 ≡ change_reply k c → changed k c ≡ after_change k c
    unfolding after_change after_reply
    left-changed e = rw (← e)

-- the reply and two of the lists, after a call that refuses and one that accepts
module _ (k : KeptForces) (c : Change) {A : Type 0} (list : KeptForces → A) where
  abbrev pub Answers : Reply → A → List ℤ → Type 0
  Answers r new fs = (r ≡ change_reply k c) × ((new ≡ list (after_change k c)) × (fs ≡ (after_change k c).forces))

  pub refused-answers : (q p : ℕ) → refused q p ≡ change_reply k c → Answers (refused q p) (list k) k.forces
  refused-answers q p e = (e, (ap list (left-same k c q p e), ap (λ (s : KeptForces). s.forces) (left-same k c q p e)))

  pub accepted-answers : {new : A} {fs : List ℤ} → accepted 0 ≡ change_reply k c → new ≡ list (changed k c) → fs ≡ (changed k c).forces → Answers (accepted 0) new fs
  accepted-answers e f g = (e, (f ∙ ap list (left-changed k c e), g ∙ ap (λ (s : KeptForces). s.forces) (left-changed k c e)))

-- ---- a new displacement

module _ (m : Matrix) (x fs : List ℤ) (g : Current (record { matrix = m; displacements = x; forces = fs })) (i : ℕ) (l : i < m.n) (v : ℤ) {cs : List ℕ} {vs : List ℤ} (e : cs ≡ columns_of m i) (f : vs ≡ values_of m i) where
  forces-long : length fs ≡ m.n
  forces-long = ap length g.forces ∙ length-product m x

  force-at : (r : ℕ) → get_or fs r (pos 0) ≡ force_at m x r
  force-at r = ap (λ (zs : List ℤ). get_or zs r (pos 0)) g.forces ∙ product_at m x r

  pub moved_inside : i < length x
  moved_inside = omega (arith, displacements-many m.n x g.moved)

  pub addable : nat_abs v ≤ max_displacement → Addable cs vs (v -ℤ get_or x i (pos 0)) fs
  unfolding displacement within
  addable s = record {
    order = rw (e, f, forces-long) (row-ordered m (matrix_tidy m g.matrix).order i l);
    beside = row_lengths m (matrix_tidy m g.matrix).shape i l e f;
    near = omega (arith, abs-sub v (get_or x i (pos 0)), small-displacement m.n x g.moved i);
    small = λ r. rw (force-at r) (leb-true (nat_abs (force_at m x r)) 4096000000000000000 (small-forces.small m x g.matrix g.moved r));
  }

  pub displaced_forces : {new : List ℤ} → Added cs vs (v -ℤ get_or x i (pos 0)) fs new → new ≡ product m (set x i v)
  unfolding displacement
  displaced_forces {new} a =
      ext_get_or (pos 0) new (product m (set x i v)) (a.long ∙ forces-long ∙ sym (length-product m (set x i v)))
      (λ r k. a.each r ∙ rw (force-at r, entry_row m i r e f, symmetric m g.matrix i r) (sym (product_at m (set x i v) r ∙ move_force m x i v l moved_inside r)))

-- the tests of a new displacement
module _ (m : Matrix) (i : ℕ) (v : ℤ) where
  pub move-named : i < m.n → is_named m (new_displacement i v) ≡ true
  unfolding is_named
  move-named l = lt-ltb i m.n l

  pub move_unnamed : m.n ≤ i → is_named m (new_displacement i v) ≡ false
  unfolding is_named
  move_unnamed l = le-ltb i m.n l

  pub move-is-small : {b : Bool} → within max_displacement v ≡ b → is_small (new_displacement i v) ≡ b
  unfolding is_small
  move-is-small e = e

  pub move-changed : (x fs : List ℤ) → changed (record { matrix = m; displacements = x; forces = fs }) (new_displacement i v) ≡ record { matrix = m; displacements = set x i v; forces = product m (set x i v) }
  unfolding changed matrix_after displacements_after
  move-changed x fs = refl
