-- A kept force list is kept current.
use mathlib.Core.Path.{◌≡◌, refl, sym, ap, ◌∙◌}
use mathlib.Core.Logic.{◌⊎◌, inl, inr, ◌≢◌}
use mathlib.Core.Bool.{Bool, true, false, cond}
use mathlib.Core.List.{List, [], ◌∷◌}
use Prim.Native.Nat.{ℕ}
use native.Mathlib.Omega.{arith}
use lib.Dec.{eqb}
use lib.IntN.{ℤ, pos}
use lib.ListN.{length, get_or, set, length-set}
use lib.Seq.{ext_get_or, get_or-set_same, get_or-set_other}
use borrow.Author.Tests.{eqb-true, eq-eqb, ne_eqb, ltb-true}
use Rattle.base.specs.Lists.{all, range}
use Rattle.base.specs.Integers.{within, same}
use Rattle.base.specs.Replies.{Reply, accepted, refused, check, in_turn}
use Rattle.base.specs.Refusals as why
use Rattle.base.proofs.Booleans.{and_left, and_right, same_or}
use Rattle.base.proofs.Integers.{same_true, same_refl}
use Rattle.base.proofs.Lists.{all-range, range_all, all_set}
use Rattle.base.proofs.Replies.{accepted-all}
use Rattle.matrix.specs.Limits.{max_displacement}
use Rattle.matrix.specs.Matrix.{Matrix, columns_of, entry, matrix_check, displacement, are_displacements, displacement_check}
use Rattle.matrix.specs.Product.{force_at, product}
use Rattle.matrix.proofs.Matrix.{displacements-many}
use Rattle.matrix.proofs.Product.{length-product, product_at}
use Rattle.upkeep.specs.Upkeep.{KeptForces, Change, new_displacement, new_value, with_value, matrix_after, displacements_after, changed, are_forces, is_named, is_small, change_reply, after_reply, after_change, after_changes}
use Rattle.upkeep.specs.KeptCurrent.{Current, entry_after, displacement_after, is_touched, Writes, KeptCurrent}
use Rattle.upkeep.proofs.Altered.{alter_columns, alter_entry, alter_matrix}
use Rattle.upkeep.proofs.Deltas.{move-none, no-entry, alter_none}

-- ---- the test of the lent forces

-- a list that passes it is the product
pub forces-product : (m : Matrix) (x fs : List ℤ) → are_forces m x fs ≡ true → fs ≡ product m x
unfolding are_forces
forces-product m x fs h =
    ext_get_or (pos 0) fs (product m x) (long ∙ sym (length-product m x))
    (λ i l. same_true (get_or fs i (pos 0)) (force_at m x i) (all-range (λ i. same (get_or fs i (pos 0)) (force_at m x i)) m.n i (and_right (eqb (length fs) m.n) equal h) (omega (arith, long))) ∙ sym (product_at m x i))
  where
    equal : Bool
    equal = all (λ i. same (get_or fs i (pos 0)) (force_at m x i)) (range 0 m.n)

    long : length fs ≡ m.n
    long = eqb-true (length fs) m.n (and_left (eqb (length fs) m.n) equal h)

-- .. and the product passes it
pub product-forces : (m : Matrix) (x fs : List ℤ) → fs ≡ product m x → are_forces m x fs ≡ true
unfolding are_forces
product-forces m x fs e =
    rw (e, eq-eqb (length (product m x)) m.n (length-product m x))
    (range_all (λ i. same (get_or (product m x) i (pos 0)) (force_at m x i)) m.n (λ i l. rw (product_at m x i) (same_refl (force_at m x i))))

-- ---- one call

-- what an accepted call was handed
pub record Taken (k : KeptForces) (c : Change) : Type 0 where
  pub current : Current k
  pub named : is_named k.matrix c ≡ true
  pub small : is_small c ≡ true

pub taken : (k : KeptForces) (c : Change) (n : ℕ) → change_reply k c ≡ accepted n → Taken k c
unfolding change_reply matrix_check displacement_check
taken k c n e =
    let held = accepted-all _ _ n e in
    record {
      current = record { matrix = held.0; moved = held.1.0; forces = forces-product k.matrix k.displacements k.forces held.1.1.0 };
      named = held.1.1.1.0;
      small = held.1.1.1.1.0;
    }

-- displacements with one of them set
set-displacements : (n : ℕ) (x : List ℤ) (i : ℕ) (v : ℤ) → are_displacements n x ≡ true → within max_displacement v ≡ true → are_displacements n (set x i v) ≡ true
unfolding are_displacements
set-displacements n x i v h s =
    rw (length-set x i v, and_left (eqb (length x) n) (all (within max_displacement) x) h)
    (all_set (within max_displacement) x i v (and_right (eqb (length x) n) (all (within max_displacement) x) h) s)

-- what it leaves is current
changed-current : (k : KeptForces) (c : Change) → Taken k c → Current (changed k c)
unfolding changed matrix_after displacements_after is_named is_small with_value
changed-current k (new_displacement i v) t = record { matrix = t.current.matrix; moved = set-displacements k.matrix.n k.displacements i v t.current.moved t.small; forces = refl }
changed-current k (new_value i j v) t = record { matrix = alter_matrix k.matrix t.current.matrix i j v t.named t.small; moved = t.current.moved; forces = refl }

-- what holds of the lists as they were and as changed holds after the call
by_reply : (P : KeptForces → Type 0) (k : KeptForces) (c : Change) → ((n : ℕ) → change_reply k c ≡ accepted n → P (changed k c)) → P k → P (after_change k c)
unfolding after_change after_reply
by_reply P k c new old = go (change_reply k c) refl
  where
    go : (r : Reply) → change_reply k c ≡ r → P (after_reply r (changed k c) k)
    go (accepted n) e = new n e
    go (refused q p) e = old

-- ---- a sequence of calls

sequence : (k : KeptForces) → Current k → (cs : List Change) → Current (after_changes k cs)
unfolding after_changes
sequence k g [] = g
sequence k g (c ∷ cs) = sequence (after_change k c) (by_reply Current k c (λ n e. changed-current k c (taken k c n e)) g) cs

-- ---- refusals of a current list

pub refusals : (k : KeptForces) → Current k → (c : Change) → change_reply k c ≡ in_turn refused (check why.no_entry (is_named k.matrix c) ∷ check why.bad_change (is_small c) ∷ []) (accepted 0)
unfolding change_reply matrix_check displacement_check in_turn
refusals k g c = rw (g.matrix, g.moved, product-forces k.matrix k.displacements k.forces g.forces)

-- ---- what is written

accepted-changed : (k : KeptForces) (c : Change) (n : ℕ) → change_reply k c ≡ accepted n → after_change k c ≡ changed k c
unfolding after_change after_reply
accepted-changed k c n e = rw e

changed-written : (k : KeptForces) (c : Change) → Taken k c → (r : ℕ) → ((s : ℕ) → entry (changed k c).matrix r s ≡ entry_after k.matrix c r s)
    × (columns_of (changed k c).matrix r ≡ columns_of k.matrix r) × (displacement (changed k c).displacements r ≡ displacement_after k.displacements c r)
unfolding changed matrix_after displacements_after entry_after displacement_after is_named displacement
changed-written k (new_displacement i v) t r = ((λ s. refl), refl, go (same_or r i))
  where
    go : (r ≡ i) ⊎ (r ≢ i) → get_or (set k.displacements i v) r (pos 0) ≡ cond (eqb r i) v (get_or k.displacements r (pos 0))
    go (inl e) =
        rw (e, eq-eqb i i refl) (get_or-set_same k.displacements i v (pos 0) (omega (arith, displacements-many k.matrix.n k.displacements t.current.moved, ltb-true i k.matrix.n t.named)))
    go (inr d) = rw (ne_eqb r i d) (get_or-set_other k.displacements i r v (pos 0) d)
changed-written k (new_value i j v) t r = (alter_entry k.matrix t.current.matrix i j v t.named r, alter_columns k.matrix t.current.matrix i j v t.named r, refl)

written : (k : KeptForces) (c : Change) (n : ℕ) → change_reply k c ≡ accepted n → Writes k c
written k c n e =
    let w = changed-written k c (taken k c n e) in
    let same = accepted-changed k c n e in
    record { entries = λ r s. rw same ((w r).0 s); columns = λ r. rw same (w r).1; displacements = λ r. rw same (w r).2 }

-- ---- which forces change

changed-touched : (k : KeptForces) (c : Change) → Taken k c → (r : ℕ) → is_touched k.matrix c r ≡ false
    → force_at (changed k c).matrix (changed k c).displacements r ≡ force_at k.matrix k.displacements r
unfolding changed matrix_after displacements_after is_touched is_named
changed-touched k (new_displacement i v) t r e =
    let l = ltb-true i k.matrix.n t.named in
    move-none k.matrix k.displacements i v l (omega (arith, displacements-many k.matrix.n k.displacements t.current.moved)) r (no-entry k.matrix t.current.matrix i r e)
changed-touched k (new_value i j v) t r e = alter_none k.matrix t.current.matrix i j v t.named k.displacements r e

changed-product : (k : KeptForces) (c : Change) → (changed k c).forces ≡ product (changed k c).matrix (changed k c).displacements
unfolding changed
changed-product k c = refl

touched : (k : KeptForces) → Current k → (c : Change) (r : ℕ) → is_touched k.matrix c r ≡ false → get_or (after_change k c).forces r (pos 0) ≡ get_or k.forces r (pos 0)
touched k g c r e =
    by_reply (λ (s : KeptForces). get_or s.forces r (pos 0) ≡ get_or k.forces r (pos 0)) k c
    (λ n a. at (changed k c) (changed-product k c) ∙ changed-touched k c (taken k c n a) r e ∙ sym (at k g.forces))
    refl
  where
    at : (s : KeptForces) → s.forces ≡ product s.matrix s.displacements → get_or s.forces r (pos 0) ≡ force_at s.matrix s.displacements r
    at s q = ap (λ (zs : List ℤ). get_or zs r (pos 0)) q ∙ product_at s.matrix s.displacements r

pub kept-current : KeptCurrent
kept-current = record { before = λ k c n e. (taken k c n e).current; sequence = sequence; refusals = refusals; written = written; touched = touched }
