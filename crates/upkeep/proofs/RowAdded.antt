-- A row's values times a difference, added to forces column by column.
use mathlib.Core.Path.{◌≡◌, refl, sym, ap, ◌∙◌}
use mathlib.Core.Logic.{◌⊎◌, inl, inr, ◌≢◌}
use mathlib.Core.Bool.{true, ◌&&◌}
use mathlib.Core.List.{List}
use Prim.Native.Nat.{ℕ, suc, ◌+◌, ◌*◌, ◌≤◌, ◌<◌}
use native.Mathlib.Numerals.{add-one}
use native.Mathlib.Omega.{arith}
use lib.Dec.{ltb}
use lib.IntN.{ℤ, pos, nat_abs, ◌+ℤ◌, ◌*ℤ◌, +ℤ_idr, zero-*ℤ}
use lib.ListN.{length, get_or, take, set, length-set}
use lib.Seq.{get_or-set_same, get_or-set_other, take-length}
use mir.Syntax.{w64}
use mir.Val.{SFits}
use borrow.Author.Tests.{ltb-true, leb-true, eq-eqb, ne_eqb}
use Rattle.base.specs.Lists.{all}
use Rattle.base.specs.Integers.{within}
use Rattle.base.proofs.Booleans.{and_left, and_right, same_or}
use Rattle.base.proofs.Lists.{all-get}
use Rattle.base.proofs.Integers.{abs-add, abs-mul-le, fits-abs}
use Rattle.matrix.specs.Limits.{max_value, max_displacement}
use Rattle.matrix.specs.Matrix.{lookup, ascending}
use Rattle.matrix.specs.Code.Checks.{is_ordered}
use Rattle.matrix.proofs.Matrix.{lookup-none, get_d_all}
use Rattle.matrix.proofs.Ascending.{before-place, lookup-next}
use Rattle.upkeep.specs.Code.Sums.{Addable, Added}

module _ (cs : List ℕ) (vs : List ℤ) (step : ℤ) (old : List ℤ) (ok : Addable cs vs step old) where
  ascends : ascending cs ≡ true
  unfolding is_ordered
  ascends = and_left (ascending cs) (all (λ j. ltb j (length old)) cs) (and_left (ascending cs && all (λ j. ltb j (length old)) cs) (all (within max_value) vs) ok.order)

  below : (k : ℕ) → k < length cs → get_or cs k 0 < length old
  unfolding is_ordered
  below k l =
      ltb-true (get_or cs k 0) (length old)
      (all-get (λ j. ltb j (length old)) cs k 0 (and_right (ascending cs) (all (λ j. ltb j (length old)) cs) (and_left (ascending cs && all (λ j. ltb j (length old)) cs) (all (within max_value) vs) ok.order)) l)

  value-small : (k : ℕ) → nat_abs (get_or vs k (pos 0)) ≤ max_value
  unfolding is_ordered within
  value-small k = leb-true (nat_abs (get_or vs k (pos 0))) max_value (get_d_all (within max_value) k vs refl (and_right (ascending cs && all (λ j. ltb j (length old)) cs) (all (within max_value) vs) ok.order))

  more_small : (k : ℕ) → nat_abs (get_or vs k (pos 0) *ℤ step) ≤ max_value * (2 * max_displacement)
  more_small k = abs-mul-le (get_or vs k (pos 0)) step (value-small k) ok.near

  -- the columns before place k are passed
  abbrev Passed : List ℤ → ℕ → Type 0
  Passed new k = Added (take k cs) (take k vs) step old new

  pub none_passed : Passed old 0
  unfolding lookup
  none_passed = record { long = refl; each = λ r. sym (ap (λ (z : ℤ). get_or old r (pos 0) +ℤ z) (zero-*ℤ step) ∙ +ℤ_idr (get_or old r (pos 0))) }

  -- the turn at place k: what it has and makes
  pub record Turn (new : List ℤ) (k : ℕ) : Type 0 where
    pub column : get_or cs k 0 < length new
    pub beside : k < length vs
    pub value : SFits w64 (get_or vs k (pos 0))
    pub more : SFits w64 (get_or vs k (pos 0) *ℤ step)
    pub was : SFits w64 (get_or new (get_or cs k 0) (pos 0))
    pub sum : SFits w64 (get_or new (get_or cs k 0) (pos 0) +ℤ get_or vs k (pos 0) *ℤ step)

  module _ (new : List ℤ) (k : ℕ) (p : Passed new k) (l : k < length cs) where
    -- the force there is as it was
    here : get_or new (get_or cs k 0) (pos 0) ≡ get_or old (get_or cs k 0) (pos 0)
    here =
        p.each (get_or cs k 0)
        ∙ rw (lookup-none (get_or cs k 0) (take k cs) (take k vs) (before-place cs k ascends l), zero-*ℤ step) (+ℤ_idr (get_or old (get_or cs k 0) (pos 0)))

    was_small : nat_abs (get_or new (get_or cs k 0) (pos 0)) ≤ 4096000000000000000
    was_small = rw here (ok.small (get_or cs k 0))

    pub turn : Turn new k
    turn = record {
      column = omega (arith, below k l, p.long);
      beside = omega (arith, ok.beside);
      value = fits-abs (omega (arith, value-small k));
      more = fits-abs (omega (arith, more_small k));
      was = fits-abs (omega (arith, was_small));
      sum = fits-abs (omega (arith, abs-add (get_or new (get_or cs k 0) (pos 0)) (get_or vs k (pos 0) *ℤ step), was_small, more_small k));
    }

    pub one-passed : Passed (set new (get_or cs k 0) (get_or new (get_or cs k 0) (pos 0) +ℤ get_or vs k (pos 0) *ℤ step)) (k + 1)
    one-passed = rw (add-one k) (record { long = length-set new (get_or cs k 0) _ ∙ p.long; each = λ r. each r (same_or r (get_or cs k 0)) })
      where
        c : ℕ
        c = get_or cs k 0

        each : (r : ℕ) → (r ≡ c) ⊎ (r ≢ c) → get_or (set new c (get_or new c (pos 0) +ℤ get_or vs k (pos 0) *ℤ step)) r (pos 0) ≡ get_or old r (pos 0) +ℤ lookup r (take (suc k) cs) (take (suc k) vs) *ℤ step
        each r (inl e) =
            rw (lookup-next cs vs k r ascends ok.beside l, e, eq-eqb c c refl, get_or-set_same new c (get_or new c (pos 0) +ℤ get_or vs k (pos 0) *ℤ step) (pos 0) (omega (arith, below k l, p.long)), here)
        each r (inr d) = rw (lookup-next cs vs k r ascends ok.beside l, ne_eqb r c d, get_or-set_other new c r (get_or new c (pos 0) +ℤ get_or vs k (pos 0) *ℤ step) (pos 0) d) (p.each r)

  -- the turn, by the step as the code has it
  pub turn_as : {s : ℤ} → s ≡ step → (new : List ℤ) (k : ℕ) → Added (take k cs) (take k vs) s old new → k < length cs → Turn new k
  turn_as e new k p l = turn new k (rw e at p) l

  pub all-passed : (new : List ℤ) (k : ℕ) → Passed new k → k ≡ length cs → Added cs vs step old new
  all-passed new k p e =
      let c : take k cs ≡ cs = rw e (take-length cs) in
      let v : take k vs ≡ vs = rw (e, ok.beside) (take-length vs) in
      record { long = p.long; each = λ r. p.each r ∙ rw (c, v) }
