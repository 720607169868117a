-- Who is refused by the counts, and who is inside a row, has nothing to do with the displacements.
use mathlib.Core.Path.{◌≡◌, refl, sym, ap, ap₂, ◌∙◌, fun_ext}
use mathlib.Core.Bool.{Bool, true, false}
use mathlib.Core.List.{List, [], ◌∷◌, ◌++◌, map, map-append}
use Prim.Native.Nat.{ℕ, zero, suc, ◌/◌}
use lib.ListN.{length, get_or, length-map, get_or-map}
use lib.Dec.{eqb}
use lib.IntN.{ℤ}
use Rattle.matrix.specs.Matrix.{Matrix}
use Rattle.plan.specs.Groups.{Plan}
use Rattle.run.specs.Job.{Job, row_at, workers}
use Rattle.run.specs.Updates.{Update, later, with_each, row_updates, owner, when, up_to, updates, accesses, count, finished, no_update, next, waits}
use Rattle.run.specs.Machine.{refusal, ready_below, ready}
use Rattle.crews.specs.Crews.{in_row}

module _ (m : Matrix) (p : Plan) (x y : List ℤ) where
  abbrev j : Job
  j = record { matrix = m; displacements = x; plan = p }

  abbrev k : Job
  k = record { matrix = m; displacements = y; plan = p }

  -- the rows of a list of updates
  abbrev rows_in : List Update → List ℕ
  rows_in us = map (λ u. u.row) us

  each_rows : (q : ℕ) (qs : List ℕ) → rows_in (with_each j q qs) ≡ rows_in (with_each k q qs)
  unfolding with_each
  each_rows q [] = refl
  each_rows q (t ∷ ts) = ap (λ (l : List ℕ). q ∷ q ∷ l) (each_rows q ts)

  row-rows : (q : ℕ) → rows_in (row_updates j q) ≡ rows_in (row_updates k q)
  unfolding row_updates later row_at
  row-rows q = ap (λ (l : List ℕ). q ∷ l) (each_rows q (later j q))

  up-rows : (w e : ℕ) → rows_in (up_to j w e) ≡ rows_in (up_to k w e)
  unfolding up_to owner when
  up-rows w zero = refl
  up-rows w (suc e) =
      map-append (λ u. u.row) (up_to j w e) (when mine (row_updates j e)) ∙ ap₂ ◌++◌ (up-rows w e) (go mine) ∙ sym (map-append (λ u. u.row) (up_to k w e) (when mine (row_updates k e)))
    where
      mine : Bool
      mine = eqb (owner j e) w

      go : (b : Bool) → rows_in (when b (row_updates j e)) ≡ rows_in (when b (row_updates k e))
      go true = row-rows e
      go false = refl

  cum_same : (w e : ℕ) → length (up_to j w e) ≡ length (up_to k w e)
  cum_same w e = sym (length-map (up_to j w e) (λ u. u.row)) ∙ ap length (up-rows w e) ∙ length-map (up_to k w e) (λ u. u.row)

  accesses-same : (w : ℕ) → accesses j w ≡ accesses k w
  unfolding accesses updates
  accesses-same w = rw (cum_same w m.n) refl

  next-row-same : (made : List ℕ) (w : ℕ) → (next j made w).row ≡ (next k made w).row
  unfolding next updates no_update
  next-row-same made w =
      sym (get_or-map (λ u. u.row) (up_to j w m.n) (count made w / 2) no_update) ∙ ap (λ (l : List ℕ). get_or l (count made w / 2) 0) (up-rows w m.n)
      ∙ get_or-map (λ u. u.row) (up_to k w m.n) (count made w / 2) no_update

  finished-same : (made : List ℕ) → finished j made ≡ finished k made
  unfolding finished
  finished-same made = fun_ext (λ g. rw (cum_same g.first _) refl)

  waits-same : (made : List ℕ) (w : ℕ) → waits j made w ≡ waits k made w
  unfolding waits
  waits-same made w = rw (finished-same made, next-row-same made w) refl

  pub refusal-same : (made : List ℕ) (w : ℕ) → refusal j made w ≡ refusal k made w
  unfolding refusal workers
  refusal-same made w = rw (accesses-same w, waits-same made w) refl

  pub away_same : (made : List ℕ) (w : ℕ) → in_row j made w ≡ in_row k made w
  unfolding in_row
  away_same made w = rw (accesses-same w, next-row-same made w, cum_same w (next k made w).row) refl

  ready-below-same : (made : List ℕ) (e : ℕ) → ready_below j made e ≡ ready_below k made e
  unfolding ready_below
  ready-below-same made zero = refl
  ready-below-same made (suc e) = rw (refusal-same made e, ready-below-same made e) refl

  pub ready-same : (made : List ℕ) → ready j made ≡ ready k made
  unfolding ready workers
  ready-same made = ready-below-same made _
