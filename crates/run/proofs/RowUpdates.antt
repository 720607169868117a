-- A row's updates: how many they are, and which sums they take.
use mathlib.Core.Path.{◌≡◌, refl}
use mathlib.Core.Logic.{◌⊎◌, inl, inr}
use mathlib.Core.Bool.{Bool, true}
use mathlib.Core.List.{List, [], ◌∷◌}
use Prim.Native.Nat.{ℕ, zero, suc, ◌+◌, ◌*◌, ◌-◌, ◌<◌}
use native.Mathlib.Omega.{arith}
use lib.ListN.{length, get_or}
use lib.Dec.{eqb}
use lib.IntN.{◌*ℤ◌}
use borrow.Author.Tests.{eq-eqb}
use Rattle.base.specs.Lists.{is_in, range}
use Rattle.base.proofs.Booleans.{or_true}
use Rattle.base.proofs.Lists.{filter_in, filter_passes, range_in}
use Rattle.matrix.specs.Matrix.{adjacent}
use Rattle.run.specs.Job.{Job, row_at}
use Rattle.run.specs.Updates.{Update, entry_at, displacement_at, later, with_each, row_updates, no_update}

module _ (j : Job) where
  pub each-length : (p : ℕ) (qs : List ℕ) → length (with_each j p qs) ≡ 2 * length qs
  unfolding with_each
  each-length p [] = refl
  each-length p (q ∷ qs) = omega (arith, each-length p qs)

  -- one for the row itself, two for each later adjacent row
  pub row-length : (p : ℕ) → length (row_updates j p) ≡ 1 + 2 * length (later j p)
  unfolding row_updates
  row-length p = omega (arith, each-length p (later j p))

  each_row : (p : ℕ) (qs : List ℕ) (i : ℕ) → i < length (with_each j p qs) → (get_or (with_each j p qs) i no_update).row ≡ p
  unfolding with_each
  each_row p [] i l = absurd (omega arith)
  each_row p (q ∷ qs) zero l = refl
  each_row p (q ∷ qs) (suc zero) l = refl
  each_row p (q ∷ qs) (suc (suc i)) l = each_row p qs i (omega arith)

  -- they are the row's
  pub row-row : (p i : ℕ) → i < length (row_updates j p) → (get_or (row_updates j p) i no_update).row ≡ p
  unfolding row_updates
  row-row p zero l = refl
  row-row p (suc i) l = each_row p (later j p) i (omega arith)

  -- position t is p, or one of qs
  abbrev Among : ℕ → List ℕ → ℕ → Type 0
  Among p qs t = (t ≡ p) ⊎ (is_in qs t ≡ true)

  each-target : (p : ℕ) (qs : List ℕ) (i : ℕ) → i < length (with_each j p qs) → Among p qs (get_or (with_each j p qs) i no_update).target
  unfolding with_each
  each-target p [] i l = absurd (omega arith)
  each-target p (q ∷ qs) zero l = inl refl
  each-target p (q ∷ qs) (suc zero) l = inr (rw (eq-eqb q q refl) refl)
  each-target p (q ∷ qs) (suc (suc i)) l = go (get_or (with_each j p qs) i no_update).target (each-target p qs i (omega arith))
    where
      go : (t : ℕ) → Among p qs t → Among p (q ∷ qs) t
      go t (inl e) = inl e
      go t (inr e) = inr (rw e (or_true (eqb t q)))

  -- their targets are the row's position and those of its later adjacent rows
  pub row_target : (p i : ℕ) → i < length (row_updates j p) → Among p (later j p) (get_or (row_updates j p) i no_update).target
  unfolding row_updates
  row_target p zero l = inl refl
  row_target p (suc i) l = each-target p (later j p) i (omega arith)

  -- which rows are later and adjacent
  pub later-in : (p t : ℕ) → is_in (later j p) t ≡ true → (p < t) × (t < j.matrix.n) × (adjacent j.matrix (row_at j p) (row_at j t) ≡ true)
  unfolding later
  later-in p t h =
      let f : ℕ → Bool = λ q. adjacent j.matrix (row_at j p) (row_at j q) in
      let b = range_in t (suc p) (j.matrix.n - suc p) (filter_in f (range (suc p) (j.matrix.n - suc p)) t h) in
      (b.0, omega arith, filter_passes f (range (suc p) (j.matrix.n - suc p)) t h)

  -- the two updates of rows p and q: of p's sum
  abbrev pub own_with : ℕ → ℕ → Update
  own_with p q = record { row = p; target = p; amount = entry_at j p q *ℤ displacement_at j q }

  -- .. of q's sum
  abbrev pub other_with : ℕ → ℕ → Update
  other_with p q = record { row = p; target = q; amount = entry_at j p q *ℤ displacement_at j p }

  each_at : (p : ℕ) (qs : List ℕ) (i : ℕ) → i < length qs
      → (get_or (with_each j p qs) (2 * i) no_update ≡ own_with p (get_or qs i 0)) × (get_or (with_each j p qs) (suc (2 * i)) no_update ≡ other_with p (get_or qs i 0))
  unfolding with_each
  each_at p [] i l = absurd (omega arith)
  each_at p (q ∷ qs) zero l = (refl, refl)
  each_at p (q ∷ qs) (suc i) l = let e : 2 * suc i ≡ suc (suc (2 * i)) = omega arith in rw e (each_at p qs i (omega arith))

  -- updates 2 i + 1 and 2 i + 2 of a row are those with its later adjacent row number i
  pub row-at : (p i : ℕ) → i < length (later j p)
      → (get_or (row_updates j p) (suc (2 * i)) no_update ≡ own_with p (get_or (later j p) i 0)) × (get_or (row_updates j p) (suc (suc (2 * i))) no_update ≡ other_with p (get_or (later j p) i 0))
  unfolding row_updates
  row-at p i l = each_at p (later j p) i l
