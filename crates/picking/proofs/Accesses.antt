-- A load and a store in one: what is loaded is stored with 0 added, what is held with the amount.
use mathlib.Core.Path.{◌≡◌, refl, sym, subst}
use mathlib.Core.Bool.{Bool, true, false, cond, true≢false}
use mathlib.Core.List.{List}
use Prim.Native.Nat.{ℕ, ◌+◌, ◌%◌, ◌^◌}
use native.Mathlib.Omega.{arith}
use lib.Dec.{eqb}
use lib.IntN.{ℤ, pos, negsuc, +ℤ_idr}
use lib.ListN.{get_or, set}
use mir.Syntax.{w64}
use mir.Val.{SFits}
use lib.Seq.{set-get_or}
use borrow.Author.Tests.{eqb-true, eqb-false, lt-ltb}
use Rattle.base.specs.Integers.{fits64}
use Rattle.base.specs.Refusals as why
use Rattle.run.specs.Updates.{Update, count}
use Rattle.steps.specs.Code.Sum.{sum_if, sum_of}
use Rattle.std.proofs.Common.{Some, None}
use Rattle.steps.specs.Code.Steps.{state_with, PickMade}
use Rattle.steps.proofs.TableSteps.{pick_loads, pick_stores, pick_passes}

-- a number with 0 added is as it is
as_it_is : (x z : ℤ) → sum_of x (pos 0) ≡ Some z → x ≡ z
as_it_is x z e = go (fits64 x) (rw (+ℤ_idr x) at e)
  where
    go : (b : Bool) → sum_if b x ≡ Some z → x ≡ z
    go true h = let q : x ≡ z = cc in q
    go false h = absurd (let q : ◌≡◌ {A = ℕ} 0 1 = cc in omega arith)

-- .. and fits, since it did
fitting : (x : ℤ) → SFits w64 x → fits64 x ≡ true
unfolding fits64
fitting (pos n) f = lt-ltb n (2 ^ 63) (omega (arith, f.sfits))
fitting (negsuc n) f = lt-ltb n (2 ^ 63) (omega (arith, f.sfits))

no-pass : (x : ℤ) → SFits w64 x → sum_of x (pos 0) ≡ None → ⊥
no-pass x f e = go (fits64 x) (fitting x f) (rw (+ℤ_idr x) at e)
  where
    go : (b : Bool) → b ≡ true → sum_if b x ≡ None → ⊥
    go true f h = let q : ◌≡◌ {A = ℕ} 0 1 = cc in omega arith
    go false f h = true≢false (sym f)

module _ (made : List ℕ) (held sums : List ℤ) (w : ℕ) (u : Update) where
  -- it loads
  abbrev pub loads : Bool
  loads = eqb (count made w % 2) 0

  -- the sum, or the held number
  abbrev pub from : ℤ
  from = cond loads (get_or sums u.target (pos 0)) (get_or held w (pos 0))

  -- what is added
  abbrev pub add : ℤ
  add = cond loads (pos 0) u.amount

  pub access-made : (z : ℤ) → sum_of from add ≡ Some z → PickMade 0 (state_with made held sums) w u 0 (state_with (set made w (count made w + 1)) (set held w from) (set sums u.target z))
  access-made z e = go loads refl e
    where
      go : (b : Bool) → loads ≡ b → sum_of (cond b (get_or sums u.target (pos 0)) (get_or held w (pos 0))) (cond b (pos 0) u.amount) ≡ Some z
          → PickMade 0 (state_with made held sums) w u 0 (state_with (set made w (count made w + 1)) (set held w (cond b (get_or sums u.target (pos 0)) (get_or held w (pos 0)))) (set sums u.target z))
      go true q e =
          subst (λ (y : ℤ). PickMade 0 (state_with made held sums) w u 0 (state_with (set made w (count made w + 1)) (set held w x) (set sums u.target y))) (as_it_is x z e)
          (rw (set-get_or sums u.target (pos 0)) (pick_loads made held sums w u (eqb-true (count made w % 2) 0 q)))
        where
          x : ℤ
          x = get_or sums u.target (pos 0)
      go false q e = rw (set-get_or held w (pos 0)) (pick_stores made held sums w u (eqb-false (count made w % 2) 0 q) z e)

  pub access-passes : SFits w64 (get_or sums u.target (pos 0)) → sum_of from add ≡ None → PickMade 0 (state_with made held sums) w u why.overflow (state_with made held sums)
  access-passes fit e = go loads refl e
    where
      go : (b : Bool) → loads ≡ b → sum_of (cond b (get_or sums u.target (pos 0)) (get_or held w (pos 0))) (cond b (pos 0) u.amount) ≡ None
          → PickMade 0 (state_with made held sums) w u why.overflow (state_with made held sums)
      go true q e = absurd (no-pass (get_or sums u.target (pos 0)) fit e)
      go false q e = pick_passes made held sums w u (eqb-false (count made w % 2) 0 q) e
