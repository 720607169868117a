-- A worker's next update: its row, its target, and that its leaf is not finished.
use mathlib.Core.Path.{◌≡◌, refl, sym, ap, ◌∙◌, subst}
use mathlib.Core.Logic.{◌⊎◌, inl, inr}
use mathlib.Core.Bool.{Bool, true, false, not}
use mathlib.Core.List.{List}
use Prim.Native.Nat.{ℕ, suc, ◌+◌, ◌*◌, ◌-◌, ◌/◌, ◌≤◌, ◌<◌}
use native.Mathlib.Omega.{arith}
use lib.ListN.{length, get_or}
use lib.Dec.{ltb, leb}
use borrow.Author.Tests.{ltb-true, ltb-false, leb-true, leb-false, not-true}
use Rattle.base.specs.Lists.{is_in}
use Rattle.base.proofs.Booleans.{clash, is_false}
use Rattle.matrix.specs.Matrix.{neighbours, adjacent}
use Rattle.plan.specs.Groups.{Group}
use Rattle.run.specs.Job.{Job, row_at}
use Rattle.run.specs.Tree.{Tree, tree, holds}
use Rattle.run.specs.Updates.{Update, later, updates, accesses, count, finished, no_update, next, waits}
use Rattle.run.proofs.Holds.{holds_in}
use Rattle.run.proofs.Blocked.{blocked_mono}
use Rattle.run.proofs.Apart.{Touch}
use Rattle.run.proofs.RowUpdates.{row-row, row_target, later-in}
use Rattle.run.proofs.Work.{cum, cum_mono, At, locate}
use Rattle.run.proofs.Leaves.{Past, past-finished, finished-past, left-unfinished}

module _ (j : Job) where
  -- ---- update number k of worker w, wherever it is

  module _ {w k : ℕ} (a : At j w j.matrix.n k) where
    pub at_row : (get_or (updates j w) k no_update).row ≡ a.row
    unfolding updates
    at_row = ap (λ (u : Update). u.row) a.is ∙ row-row j a.row (k - cum j w a.row) a.inside

    -- its target is the sum of its row or of an adjacent one
    at_touch : Touch (neighbours j.matrix) j.plan.order a.row (get_or (updates j w) k no_update).target
    unfolding updates row_at adjacent
    at_touch = subst (λ (u : Update). Touch (neighbours j.matrix) j.plan.order a.row u.target) (sym a.is) (go (row_target j a.row (k - cum j w a.row) a.inside))
      where
        go : {t : ℕ} → (t ≡ a.row) ⊎ (is_in (later j a.row) t ≡ true) → Touch (neighbours j.matrix) j.plan.order a.row t
        go (inl e) = inl e
        go {t} (inr e) = inr (later-in j a.row t e).2

    at_below : (get_or (updates j w) k no_update).target < j.matrix.n
    unfolding updates
    at_below = subst (λ (u : Update). u.target < j.matrix.n) (sym a.is) (go (row_target j a.row (k - cum j w a.row) a.inside))
      where
        go : {t : ℕ} → (t ≡ a.row) ⊎ (is_in (later j a.row) t ≡ true) → t < j.matrix.n
        go (inl e) = omega (arith, a.below)
        go {t} (inr e) = (later-in j a.row t e).1

  -- every update is of a row's sum
  pub target_below : (w k : ℕ) → k < length (updates j w) → (get_or (updates j w) k no_update).target < j.matrix.n
  unfolding updates
  target_below w k l = at_below (locate j w j.matrix.n k l)

  -- those in the rows before a position are the first ones
  pub up-to : (w e k : ℕ) → k < length (updates j w) → (k < cum j w e → (get_or (updates j w) k no_update).row < e) × (cum j w e ≤ k → e ≤ (get_or (updates j w) k no_update).row)
  unfolding updates
  up-to w e k l = go (ltb a.row e) refl
    where
      a : At j w j.matrix.n k
      a = locate j w j.matrix.n k l

      go : (b : Bool) → ltb a.row e ≡ b → (k < cum j w e → (get_or (updates j w) k no_update).row < e) × (cum j w e ≤ k → e ≤ (get_or (updates j w) k no_update).row)
      go true t =
          let before = ltb-true a.row e t in
          (λ h. omega (arith, at_row a), λ h. absurd (omega (arith, cum_mono j w (suc a.row) e before, a.high)))
      go false t =
          let after = ltb-false a.row e t in
          (λ h. absurd (omega (arith, cum_mono j w e a.row after, a.low)), λ h. omega (arith, at_row a))

  -- ---- the next one

  module _ (made : List ℕ) (w : ℕ) (left : count made w < accesses j w) where
    -- its place among the worker's updates
    pub next-at : At j w j.matrix.n (count made w / 2)
    unfolding accesses updates
    next-at = locate j w j.matrix.n (count made w / 2) (omega arith)

    -- its row
    pub next_row : (next j made w).row ≡ next-at.row
    unfolding next
    next_row = at_row next-at

    -- its target is the sum of its row or of an adjacent one
    pub next_touch : Touch (neighbours j.matrix) j.plan.order next-at.row (next j made w).target
    unfolding next
    next_touch = at_touch next-at

    -- its row lies from a on, if w is past a
    pub next-from : (a : ℕ) → Past j made w a → a ≤ next-at.row
    next-from a h = go (ltb next-at.row a) refl
      where
        go : (b : Bool) → ltb next-at.row a ≡ b → a ≤ next-at.row
        go true e = absurd (omega (arith, cum_mono j w (suc next-at.row) a (ltb-true next-at.row a e), h, next-at.high))
        go false e = ltb-false next-at.row a e

    -- .. before b, if w is not past b
    pub next-before : (b : ℕ) → count made w < 2 * cum j w b → next-at.row < b
    next-before b h = go (leb b next-at.row) refl
      where
        go : (t : Bool) → leb b next-at.row ≡ t → next-at.row < b
        go true e = absurd (omega (arith, cum_mono j w b next-at.row (leb-true b next-at.row e), h, next-at.low))
        go false e = leb-false b next-at.row e

    -- the leaf that holds its row, if it is w's, is not finished
    pub live : (g : Group) → holds g next-at.row ≡ true → g.first ≡ w → finished j made g ≡ false
    live g h e =
        left-unfinished j made g
        (subst (λ (y : ℕ). count made y < 2 * cum j y (g.start + g.length)) (sym e)
        (omega (arith, next-at.high, cum_mono j w (suc next-at.row) (g.start + g.length) (holds_in g next-at.row h).1)))

  -- ---- counts grow

  module _ (made new : List ℕ) (grows : (v : ℕ) → count made v ≤ count new v) where
    -- a finished leaf stays finished
    finished_more : (g : Group) → finished j made g ≡ true → finished j new g ≡ true
    finished_more g h = past-finished j new g (omega (arith, finished-past j made g h, grows g.first))

    unfinished_less : (g : Group) → not (finished j new g) ≡ true → not (finished j made g) ≡ true
    unfinished_less g x = rw (is_false (λ y. clash (finished_more g y) (not-true (finished j new g) x))) refl

    -- who does not wait does not wait later on in the same row
    pub lasts_row : (w : ℕ) → (next j made w).row ≡ (next j new w).row → waits j made w ≡ false → waits j new w ≡ false
    unfolding waits
    lasts_row w e h = rw (← e) (is_false (λ b. clash (blocked_mono (finished j made) (finished j new) unfinished_less (next j made w).row T T b) h))
      where
        T : Tree
        T = tree j.plan.groups

    -- .. so not in the same update
    pub lasts : (w : ℕ) → count made w / 2 ≡ count new w / 2 → waits j made w ≡ false → waits j new w ≡ false
    unfolding next
    lasts w e h = lasts_row w (ap (λ (k : ℕ). (get_or (updates j w) k no_update).row) e) h
