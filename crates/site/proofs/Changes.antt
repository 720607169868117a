-- The calls for a kept force list on lists that are cut, and on numbers that are changed beside the lent lists.
use mathlib.Core.Path.{◌≡◌, refl, sym, ap, ◌∙◌}
use mathlib.Core.Bool.{Bool, true, false, ◌&&◌}
use mathlib.Core.List.{List, [], ◌∷◌}
use Prim.Native.Nat.{ℕ, zero, suc, ◌/◌, ◌≤◌, ◌<◌}
use native.Mathlib.Omega.{arith}
use lib.Dec.{eqb, leb}
use lib.IntN.{ℤ, pos, ◌*ℤ◌}
use lib.ListN.{length, get_or, set, take, length-set}
use lib.Seq.{get_or-take, take-take, take_all, length-take-le}
use borrow.Author.Tests.{leb-true, leb-false, ne_eqb}
use Rattle.base.specs.Lists.{all, is_in, range}
use Rattle.base.specs.Integers.{sumℤ, same}
use Rattle.base.specs.Replies.{Reply, accepted, refused, lent}
use Rattle.base.proofs.Replies.{in_turn-same, lent-refused, lent-accepted}
use Rattle.matrix.specs.Limits.{max_rows}
use Rattle.matrix.specs.Matrix.{Matrix, part_of, columns_of, is_matrix, matrix_check, displacement, are_displacements, displacement_check, matrix_of}
use Rattle.matrix.specs.Code.Room.{max_starts, max_cells}
use Rattle.matrix.specs.Product.{force_at, product}
use Rattle.matrix.proofs.Checks.{shape, matrix_tidy}
use Rattle.matrix.proofs.Entries.{few-entries}
use Rattle.matrix.proofs.Matrix.{matrix_facts, column-row, column-low, displacements-many}
use Rattle.matrix.proofs.Product.{length-product}
use Rattle.matrix.proofs.Cut.{cut, cut-matrix, cut-columns, cut-entry, cut_product, cut-displacements, displacements-kept}
use Rattle.words.specs.LittleEndian.{signed_number, signed_bytes_of, signed, signed_bytes, stored}
use Rattle.words.proofs.Blocks.{length_decoded}
use Rattle.lent.specs.Word.{word}
use Rattle.lent.proofs.Answers.{answered-same, Begins, begins-stored}
use Rattle.upkeep.specs.Upkeep.{KeptForces, Change, new_displacement, new_value, entry_place, with_value, matrix_after, displacements_after, changed, are_forces, is_named, is_small, change_reply, after_reply, after_change}
use Rattle.upkeep.proofs.Altered.{alter_matrix}
use Rattle.upkeep.proofs.KeptCurrent.{Taken, taken}
use Rattle.site.specs.Lent.{kept_bytes, value_count, MovementAnswered, EntryAnswered}
use Rattle.site.specs.Code.Decoded.{Decoded}

abbrev kept : Matrix → (x fs : List ℤ) → KeptForces
kept m x fs = record { matrix = m; displacements = x; forces = fs }

-- ---- displacements and forces, cut to one more than any matrix has rows

module _ (m : Matrix) (x fs : List ℤ) where
  forces-cut : m.n ≤ max_rows → are_forces m x (take max_starts fs) ≡ are_forces m x fs
  unfolding are_forces
  forces-cut few = go (leb (length fs) max_starts) refl
    where
      go : (b : Bool) → leb (length fs) max_starts ≡ b → are_forces m x (take max_starts fs) ≡ are_forces m x fs
      go true e = ap (are_forces m x) (take_all max_starts fs (leb-true (length fs) max_starts e))
      go false e =
          let long = leb-false (length fs) max_starts e in
          let size : length (take max_starts fs) ≡ max_starts = length-take-le max_starts fs (omega arith) in
          rw (size, ne_eqb max_starts m.n (λ q. omega arith), ne_eqb (length fs) m.n (λ q. omega arith))

  displaced : (displacement_check m.n x).holds ≡ true → are_displacements m.n x ≡ true
  unfolding displacement_check
  displaced g = g

  module _ (c : Change) where
    lists-cut : change_reply (kept m (take max_starts x) (take max_starts fs)) c ≡ change_reply (kept m x fs) c
    unfolding change_reply matrix_check
    lists-cut =
        in_turn-same refused (matrix_check m) _ _ _ _
        (λ h. rw (cut-displacements m.n x (matrix_facts m h).few)
        (in_turn-same refused (displacement_check m.n x) _ _ _ _ (λ g. rw (displacements-kept m.n x (matrix_facts m h).few (displaced g), forces-cut (matrix_facts m h).few))))

    -- those of an accepted call are not cut
    lists-kept : (n : ℕ) → change_reply (kept m x fs) c ≡ accepted n → kept m (take max_starts x) (take max_starts fs) ≡ kept m x fs
    lists-kept n e =
        let t = (taken (kept m x fs) c n e).current in
        let few = (matrix_facts m t.matrix).few in
        rw (displacements-kept m.n x few t.moved, take_all max_starts fs (omega (arith, ap length t.forces, length-product m x, few)))

-- ---- the matrix cut

set-take : {A : Type 0} (n : ℕ) (l : List A) (i : ℕ) (a : A) → set (take n l) i a ≡ take n (set l i a)
set-take zero l i a = refl
set-take (suc n) [] i a = refl
set-take (suc n) (x ∷ xs) zero a = refl
set-take (suc n) (x ∷ xs) (suc i) a = ap (λ (r : List _). x ∷ r) (set-take n xs i a)

module _ (m : Matrix) (e : columns_of (cut m) ≡ columns_of m) (i j : ℕ) (v : ℤ) (l : i ≤ max_rows) where
  place-cut : entry_place (cut m) i j ≡ entry_place m i j
  unfolding entry_place
  place-cut = rw (get_or-take max_starts m.starts i 0 (omega arith), e)

  put_cut : with_value (cut m) i j v ≡ cut (with_value m i j v)
  unfolding with_value
  put_cut = ap (λ (vs : List ℤ). matrix_of m.n (take max_starts m.starts) (take max_cells m.columns) vs) (ap (λ (p : ℕ). set (take max_cells m.values) p v) place-cut ∙ set-take max_cells m.values (entry_place m i j) v)

  put_columns : columns_of (cut (with_value m i j v)) ≡ columns_of (with_value m i j v)
  unfolding with_value columns_of part_of
  put_columns = e

module _ (m : Matrix) (ok : is_matrix m ≡ true) where
  few : m.n ≤ max_rows
  few = (matrix_facts m ok).few

  named-cut : (c : Change) → is_named (cut m) c ≡ is_named m c
  unfolding is_named
  named-cut (new_displacement i v) = refl
  named-cut (new_value i j v) = ap (λ (cs : ℕ → List ℕ). is_in (cs i) j) (cut-columns m ok)

  forces-of-cut : (x fs : List ℤ) → are_forces (cut m) x fs ≡ are_forces m x fs
  unfolding are_forces force_at
  forces-of-cut x fs = ap (λ (e : ℕ → ℕ → ℤ). eqb (length fs) m.n && all (λ i. same (get_or fs i (pos 0)) (sumℤ (λ j. e i j *ℤ displacement x j) m.n)) (range 0 m.n)) (cut-entry m ok)

  -- the matrix after a change, cut
  after-cut : (c : Change) → is_named m c ≡ true → matrix_after (cut m) c ≡ cut (matrix_after m c)
  unfolding matrix_after is_named
  after-cut (new_displacement i v) h = refl
  after-cut (new_value i j v) h =
      let li = column-row m i j h in
      let lj = column-low m ok i j h in
      ap (λ (q : Matrix). with_value q j i v) (put_cut m (cut-columns m ok) i j v (omega (arith, few)))
      ∙ put_cut (with_value m i j v) (put_columns m (cut-columns m ok) i j v (omega (arith, few))) j i v (omega (arith, few))

  after-matrix : (c : Change) → is_named m c ≡ true → is_small c ≡ true → is_matrix (matrix_after m c) ≡ true
  unfolding matrix_after is_named is_small
  after-matrix (new_displacement i v) h s = ok
  after-matrix (new_value i j v) h s = alter_matrix m ok i j v h s

matrix-reply : (m : Matrix) (x fs : List ℤ) (c : Change) → change_reply (kept (cut m) x fs) c ≡ change_reply (kept m x fs) c
unfolding change_reply matrix_check
matrix-reply m x fs c =
    rw (cut-matrix m) (in_turn-same refused (matrix_check m) _ _ _ _ (λ h. rw (forces-of-cut m h x fs, named-cut m h c)))

module _ (m : Matrix) (x fs : List ℤ) (c : Change) (n : ℕ) (e : change_reply (kept m x fs) c ≡ accepted n) where
  took : Taken (kept m x fs) c
  took = taken (kept m x fs) c n e

  changed-displacements : (changed (kept (cut m) x fs) c).displacements ≡ (changed (kept m x fs) c).displacements
  unfolding changed
  changed-displacements = refl

  changed-forces : (changed (kept (cut m) x fs) c).forces ≡ (changed (kept m x fs) c).forces
  unfolding changed
  changed-forces =
      let t = took in
      ap (λ (q : Matrix). product q (displacements_after x c)) (after-cut m t.current.matrix c t.named) ∙ cut_product (matrix_after m c) (after-matrix m t.current.matrix c t.named t.small) (displacements_after x c)

  changed-values : take (value_count (cut m)) (changed (kept (cut m) x fs) c).matrix.values ≡ take (value_count m) (changed (kept m x fs) c).matrix.values
  unfolding changed
  changed-values =
      let t = took in
      rw (get_or-take max_starts m.starts m.n 0 (omega (arith, few m t.current.matrix)))
      (ap (λ (q : Matrix). take (value_count m) q.values) (after-cut m t.current.matrix c t.named) ∙ take-take (value_count m) max_cells (matrix_after m c).values (few-entries m t.current.matrix))

-- the lists that a call decodes, cut, for the whole ones
module _ (m : Matrix) (c : Change) (movements forces : List ℕ) where
  abbrev moves : List ℤ
  moves = signed 4 movements

  abbrev held : List ℤ
  held = signed 8 forces

  reply : change_reply (kept (cut m) moves held) c ≡ change_reply (kept m moves held) c
  reply = matrix-reply m moves held c

  forces-same : {w : ℕ} {new_forces : List ℕ} → w ≡ word (change_reply (kept (cut m) moves held) c) → new_forces ≡ lent (change_reply (kept (cut m) moves held) c) (signed_bytes 8 (changed (kept (cut m) moves held) c).forces) forces
      → new_forces ≡ lent (change_reply (kept m moves held) c) (signed_bytes 8 (changed (kept m moves held) c).forces) forces
  forces-same r l = (answered-same reply (λ n e. ap (signed_bytes 8) (changed-forces m moves held c n e)) (record { returns = r; leaves = l })).leaves

  pub movement_cut : {q : Matrix} → q ≡ cut m → {w : ℕ} {new_movements new_forces : List ℕ} → MovementAnswered q c movements forces w new_movements new_forces → MovementAnswered m c movements forces w new_movements new_forces
  movement_cut {q} eq {w} {new_movements} {new_forces} h = go (rw eq at h)
    where
      go : MovementAnswered (cut m) c movements forces w new_movements new_forces → MovementAnswered m c movements forces w new_movements new_forces
      go g = record {
        returns = g.returns ∙ ap word reply;
        movements_left = (answered-same reply (λ n e. ap (signed_bytes 4) (changed-displacements m moves held c n e)) (record { returns = g.returns; leaves = g.movements_left })).leaves;
        forces_left = forces-same g.returns g.forces_left;
      }

  pub entry-cut : {q : Matrix} → q ≡ cut m → {values : List ℕ} {w : ℕ} {new_values new_forces : List ℕ} → EntryAnswered q c values movements forces w new_values new_forces → EntryAnswered m c values movements forces w new_values new_forces
  entry-cut {q} eq {values} {w} {new_values} {new_forces} h = go (rw eq at h)
    where
      go : EntryAnswered (cut m) c values movements forces w new_values new_forces → EntryAnswered m c values movements forces w new_values new_forces
      go g = record {
        returns = g.returns ∙ ap word reply;
        values_left = (answered-same reply (λ n e. ap (signed_bytes 4) (changed-values m moves held c n e)) (record { returns = g.returns; leaves = g.values_left })).leaves;
        forces_left = forces-same g.returns g.forces_left;
      }

-- a number by another name
pub movement_said : {m : Matrix} {i : ℕ} {y z : ℤ} {movements forces : List ℕ} {w : ℕ} {new_movements new_forces : List ℕ} → y ≡ z
    → MovementAnswered m (new_displacement i y) movements forces w new_movements new_forces → MovementAnswered m (new_displacement i z) movements forces w new_movements new_forces
movement_said e h = rw e at h

pub entry_said : {m : Matrix} {i j : ℕ} {y z : ℤ} {values movements forces : List ℕ} {w : ℕ} {new_values new_forces : List ℕ} → y ≡ z
    → EntryAnswered m (new_value i j y) values movements forces w new_values new_forces → EntryAnswered m (new_value i j z) values movements forces w new_values new_forces
entry_said e h = rw e at h

-- ---- numbers changed beside the lent lists

-- an answer that fits, stored over bytes, is lent
all-stored : (width : ℕ) (answer : List ℤ) (bytes : List ℕ) {r : Reply} {k : ℕ} → r ≡ accepted k → length answer ≤ length bytes / width → {list : List ℤ} {new : List ℕ} → list ≡ answer
    → new ≡ stored (signed_bytes width (take (length bytes / width) list)) bytes → new ≡ lent r (signed_bytes width answer) bytes
all-stored width answer bytes {r} {k} ok room e f = f ∙ rw (e, take_all (length bytes / width) answer room) (sym (lent-accepted (signed_bytes width answer) bytes r k ok))

moved-long : (x : List ℤ) (c : Change) → length (displacements_after x c) ≡ length x
unfolding displacements_after
moved-long x (new_displacement i v) = length-set x i v
moved-long x (new_value i j v) = refl

same_rows : (m : Matrix) (c : Change) → (matrix_after m c).n ≡ m.n
unfolding matrix_after with_value
same_rows m (new_displacement i v) = refl
same_rows m (new_value i j v) = refl

put_long : (m : Matrix) (i j : ℕ) (v : ℤ) → length (with_value m i j v).values ≡ length m.values
unfolding with_value
put_long m i j v = length-set m.values (entry_place m i j) v

values-long : (m : Matrix) (c : Change) → length (matrix_after m c).values ≡ length m.values
unfolding matrix_after
values-long m (new_displacement i v) = refl
values-long m (new_value i j v) = put_long (with_value m i j v) j i v ∙ put_long m i j v

-- what the whole lists are after an accepted call on those that were decoded
module _ (m : Matrix) (c : Change) (movements forces : List ℕ) {x fs : List ℤ} (d : Decoded movements forces x fs) where
  abbrev loaded : KeptForces
  loaded = kept m x fs

  abbrev whole : KeptForces
  whole = kept_bytes m movements forces

  loaded_reply : change_reply loaded c ≡ change_reply whole c
  loaded_reply = rw (d.moved, d.kept) (lists-cut m (signed 4 movements) (signed 8 forces) c)

  -- a refused call leaves the lent lists
  module _ {q p w : ℕ} (e : refused q p ≡ change_reply loaded c) (f : w ≡ word (refused q p)) where
    refusal : change_reply whole c ≡ refused q p
    refusal = sym (e ∙ loaded_reply)

    pub movement_refused : MovementAnswered m c movements forces w movements forces
    movement_refused = record { returns = f ∙ ap word (sym refusal); movements_left = sym (lent-refused _ movements _ q p refusal); forces_left = sym (lent-refused _ forces _ q p refusal) }

    pub entry-refused : (values : List ℕ) → EntryAnswered m c values movements forces w values forces
    entry-refused values = record { returns = f ∙ ap word (sym refusal); values_left = sym (lent-refused _ values _ q p refusal); forces_left = sym (lent-refused _ forces _ q p refusal) }

  module _ {n : ℕ} (e : accepted n ≡ change_reply loaded c) where
    reply-is : change_reply whole c ≡ accepted n
    reply-is = sym (e ∙ loaded_reply)

    its : Taken whole c
    its = taken whole c n reply-is

    after_is : after_change loaded c ≡ changed whole c
    unfolding after_change after_reply
    after_is = rw (sym e) (ap (λ (k : KeptForces). changed k c) (rw (d.moved, d.kept) (lists-kept m (signed 4 movements) (signed 8 forces) c n reply-is)))

    rows-moved : m.n ≡ length movements / 4
    rows-moved = sym (displacements-many m.n (signed 4 movements) its.current.moved) ∙ length_decoded (signed_number 4) 4 movements

    rows-kept : m.n ≡ length forces / 8
    rows-kept = sym (length-product m (signed 4 movements)) ∙ ap length (sym its.current.forces) ∙ length_decoded (signed_number 8) 8 forces

    forces-stored : {list : List ℤ} {new : List ℕ} → list ≡ (after_change loaded c).forces → new ≡ stored (signed_bytes 8 (take (length forces / 8) list)) forces
        → new ≡ lent (change_reply whole c) (signed_bytes 8 (changed whole c).forces) forces
    unfolding changed
    forces-stored h g =
        all-stored 8 (changed whole c).forces forces reply-is (omega (arith, rows-kept, length-product (matrix_after m c) (displacements_after (signed 4 movements) c), same_rows m c)) (h ∙ ap (λ (k : KeptForces). k.forces) after_is) g

    pub movement_stored : {list sums : List ℤ} {w : ℕ} {new_movements new_forces : List ℕ} → list ≡ (after_change loaded c).displacements → sums ≡ (after_change loaded c).forces → w ≡ word (accepted n)
        → new_movements ≡ stored (signed_bytes 4 (take (length movements / 4) list)) movements → new_forces ≡ stored (signed_bytes 8 (take (length forces / 8) sums)) forces
        → MovementAnswered m c movements forces w new_movements new_forces
    unfolding changed
    movement_stored ax af f gm gf = record {
      returns = f ∙ ap word (sym reply-is);
      movements_left = all-stored 4 (changed whole c).displacements movements reply-is (omega (arith, moved-long (signed 4 movements) c, length_decoded (signed_number 4) 4 movements)) (ax ∙ ap (λ (k : KeptForces). k.displacements) after_is) gm;
      forces_left = forces-stored af gf;
    }

    pub rows-few : m.n ≤ max_rows
    rows-few = (matrix_facts m its.current.matrix).few

    -- the values of the rows
    pub rows_in_lem : m.n < length m.starts
    rows_in_lem = omega (arith, (shape m (matrix_tidy m its.current.matrix).shape).starts-long)

    values-fit : value_count m ≤ length m.values
    values-fit = (shape m (matrix_tidy m its.current.matrix).shape).values-long

    module _ {list : List ℤ} (av : list ≡ (after_change loaded c).matrix.values) {entries : ℕ} (l : entries ≡ value_count m) where
      pub values_begin : Begins list (take (value_count m) (changed whole c).matrix.values) entries
      unfolding changed
      values_begin = rw l (record {
        long = length-take-le (value_count m) (changed whole c).matrix.values (omega (arith, values-fit, values-long m c));
        is = ap (take (value_count m)) (av ∙ ap (λ (k : KeptForces). k.matrix.values) after_is);
      })

      pub entry-stored : (values : List ℕ) → length m.values ≤ length values / 4 → {sums : List ℤ} {w : ℕ} {new_values new_forces : List ℕ} → sums ≡ (after_change loaded c).forces → w ≡ word (accepted n)
          → new_values ≡ stored (signed_bytes 4 (take (length values / 4) (take entries list))) values → new_forces ≡ stored (signed_bytes 8 (take (length forces / 8) sums)) forces
          → EntryAnswered m c values movements forces w new_values new_forces
      entry-stored values room af f gv gf = record {
        returns = f ∙ ap word (sym reply-is);
        values_left = begins-stored values_begin (signed_bytes_of 4) 4 values reply-is (omega (arith, values-fit, l)) gv;
        forces_left = forces-stored af gf;
      }
