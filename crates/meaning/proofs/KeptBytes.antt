-- A force list that is kept in bytes stays the product.
use mathlib.Core.Path.{◌≡◌, refl, sym, ap, ap₂, ◌∙◌, fun_ext}
use mathlib.Core.List.{List, [], ◌∷◌, map}
use Prim.Native.Nat.{ℕ}
use lib.IntN.{ℤ, ◌*ℤ◌}
use Rattle.base.specs.Lists.{range}
use Rattle.base.specs.Integers.{sumℤ}
use Rattle.base.specs.Replies.{Reply, accepted, refused}
use Rattle.base.proofs.Replies.{lent-refused}
use Rattle.matrix.specs.Matrix.{Matrix, lookup, entry, displacement}
use Rattle.matrix.specs.Product.{force_at, product}
use Rattle.matrix.specs.SameRows.{SameRows}
use Rattle.upkeep.specs.Upkeep.{KeptForces, Change, new_displacement, new_value, with_value, matrix_after, displacements_after, changed, change_reply, after_reply, after_change, after_changes}
use Rattle.upkeep.specs.KeptCurrent.{Current}
use Rattle.upkeep.proofs.KeptCurrent.{kept-current}
use Rattle.words.specs.LittleEndian.{signed}
use Rattle.meaning.specs.KeptBytes.{Held, stands_for, Leaves, Leads, none, next, KeptInBytes}
use Rattle.meaning.proofs.ByteLists.{byte-lists}

-- the product is one of the rows
product-rows : (m other : Matrix) → m.n ≡ other.n → SameRows m other → (x : List ℤ) → product m x ≡ product other x
unfolding product force_at entry
product-rows m other e s x =
    ap₂ (λ (columns : ℕ → List ℕ) (values : ℕ → List ℤ). map (λ i. sumℤ (λ j. lookup j (columns i) (values i) *ℤ displacement x j) m.n) (range 0 m.n)) (fun_ext s.columns) (fun_ext s.values)
    ∙ ap (λ (n : ℕ). map (λ i. sumℤ (λ j. entry other i j *ℤ displacement x j) n) (range 0 n)) e

-- an accepted change of a current list
changed-current : (k : KeptForces) (c : Change) (count : ℕ) → change_reply k c ≡ accepted count → Current k → Current (changed k c)
unfolding after_changes after_change after_reply
changed-current k c count ok g = rw ok at (kept-current.sequence k g (c ∷ []))

module _ (n : ℕ) (starts columns : List ℕ) where
  abbrev at : Held → KeptForces
  at = stands_for n starts columns

  -- one call
  one : (b d : Held) (c : Change) (returned : ℕ) → Leaves n starts columns b c returned d → Current (at b) → Current (at d)
  unfolding Leaves changed displacements_after
  one b d (new_displacement i v) returned (a, same) g = go (change_reply (at b) (new_displacement i v)) refl
    where
      go : (r : Reply) → change_reply (at b) (new_displacement i v) ≡ r → Current (at d)
      go (accepted k) ok = rw (same, byte-lists.moved (at b).matrix i v b.movements b.forces returned d.movements d.forces a k ok) (changed-current (at b) (new_displacement i v) k ok g)
      go (refused q p) ok = rw (same, a.movements_left ∙ lent-refused _ _ _ q p ok, a.forces_left ∙ lent-refused _ _ _ q p ok) g
  one b d (new_value i j v) returned (a, same) g = go (change_reply (at b) (new_value i j v)) refl
    where
      rows : n ≡ (changed (at b) (new_value i j v)).matrix.n
      rows = unfold changed matrix_after with_value in refl

      go : (r : Reply) → change_reply (at b) (new_value i j v) ≡ r → Current (at d)
      go (accepted k) ok =
          let left = byte-lists.altered n starts columns b.values i j v b.movements b.forces returned d.values d.forces a k ok in
          let new = changed-current (at b) (new_value i j v) k ok g in
          record {
            matrix = left.0.matrix;
            moved = rw same g.moved;
            forces = left.1 ∙ new.forces ∙ sym (product-rows (at d).matrix (changed (at b) (new_value i j v)).matrix rows left.0 (changed (at b) (new_value i j v)).displacements) ∙ ap (λ (bytes : List ℕ). product (at d).matrix (signed 4 bytes)) (sym same);
          }
      go (refused q p) ok = rw (same, a.values_left ∙ lent-refused _ _ _ q p ok, a.forces_left ∙ lent-refused _ _ _ q p ok) g

  kept : (b e : Held) (cs : List Change) → Leads n starts columns b cs e → Current (at b) → Current (at e)
  kept b e [] none g = g
  kept b e (c ∷ cs) (next {d = d} returned x y) g = kept d e cs y (one b d c returned x g)

pub kept_in_bytes : KeptInBytes
kept_in_bytes = record { sequence = kept }
