-- A pick by the tables, case by case: refused, a load, a store, or a sum that passes 64 bits.
use mathlib.Core.Path.{◌≡◌, refl, sym, ap, ◌∙◌}
use mathlib.Core.Logic.{◌≢◌}
use mathlib.Core.Bool.{Bool, true, false}
use mathlib.Core.List.{List}
use Prim.Native.Nat.{ℕ, zero, suc, ◌+◌, ◌*◌, ◌%◌, ◌^◌, ◌≤◌, ◌<◌}
use native.Mathlib.Numerals.{add-one}
use native.Mathlib.Omega.{arith}
use lib.Dec.{eqb, leb, ltb}
use lib.IntN.{ℤ, pos, negsuc, ◌+ℤ◌}
use lib.ListN.{get_or, set}
use borrow.Author.Tests.{ltb-true, lt-ltb, leb-false, eq-eqb, ne_eqb}
use Rattle.std.proofs.Common.{Option, Some, None, SomeIff, FitsSigned, Result, Ok, Err, is_ok}
use mir.Syntax.{w64}
use Rattle.base.specs.Integers.{fits64}
use Rattle.base.specs.Refusals as why
use Rattle.base.specs.Verdicts.{number_of}
use Rattle.base.specs.declared.Kind.{Kind}
use Rattle.base.specs.declared.Kind.TheVariants as kind
use Rattle.plan.specs.Sound.{max_workers}
use Rattle.tables.specs.Code.Laid.{updates_in}
use Rattle.run.specs.Updates.{Update, count}
use Rattle.run.specs.Machine.{reason, moved, halted, onward, load, total, store, access, move, step_if}
use Rattle.run.specs.State.{State}
use Rattle.steps.specs.Code.Sum.{sum_if, sum_of}
use Rattle.steps.specs.Code.Steps.{state_with, told, reason_at, outcome_of, PickMade}

-- a refusal has a number
pub not_told : (k : Kind) → number_of k ≢ 0
not_told k e = absurd (omega (arith, above k))
  where
    above : (k : Kind) → 0 < number_of k
    above kind.BadHeader = omega arith
    above kind.BadForm = omega arith
    above kind.BadSize = omega arith
    above kind.BadEntry = omega arith
    above kind.NotMatrix = omega arith
    above kind.BadDisplacement = omega arith
    above kind.BadParameter = omega arith
    above kind.Unsound = omega arith
    above kind.TooShort = omega arith
    above kind.NoWorker = omega arith
    above kind.NotState = omega arith
    above kind.AllDone = omega arith
    above kind.MustWait = omega arith
    above kind.Overflow = omega arith
    above kind.TooEarly = omega arith
    above kind.BadLayout = omega arith
    above kind.BadSurvey = omega arith
    above kind.NoCrew = omega arith
    above kind.Elsewhere = omega arith
    above kind.NotForces = omega arith
    above kind.NoEntry = omega arith
    above kind.BadChange = omega arith
    above kind.BadPlaces = omega arith
    above kind.PastLimits = omega arith
    above kind.NoRegister = omega arith
    above kind.NotPrepared = omega arith

-- a step that is not refused has none
pub told_none : (r : Result (Unit {0}) Kind) → is_ok r ≡ eqb (told r) 0
told_none (Ok u) = refl
told_none (Err k) = sym (ne_eqb (number_of k) 0 (not_told k))

-- what it is that no reason refuses a step
pub reason-none : (w workers made all : ℕ) (waiting : Bool) → reason (ltb w workers) (leb all made) waiting ≡ 0 → (w < workers) × (made < all)
unfolding reason
reason-none w workers made all waiting e = go (ltb w workers) refl (leb all made) refl waiting e
  where
    go : (a : Bool) → ltb w workers ≡ a → (b : Bool) → leb all made ≡ b → (c : Bool) → reason a b c ≡ 0 → (w < workers) × (made < all)
    go false x b y c e = absurd (omega arith)
    go true x true y c e = absurd (omega arith)
    go true x false y c e = (ltb-true w workers x, leb-false all made y)

-- none refuses a step that moved
moved_none : (s : State) (w : ℕ) (u : Update) (cause : ℕ) (t : State) → moved t ≡ step_if cause s w u → cause ≡ 0
unfolding step_if
moved_none s w u zero t e = refl
moved_none s w u (suc k) t e = absurd (let q : ◌≡◌ {A = ℕ} 0 1 = cc in omega arith)

-- a pick that is taken is of one of sixteen workers
pub pick_worker : {crew : ℕ} (first row leaves : List ℕ) (blocks : List Bool) → crew ≤ max_workers → {s t : State} {w number : ℕ} {u : Update}
    → PickMade (reason_at crew first row leaves blocks s.made w) s w u number t → number ≡ 0 → w < 16
unfolding outcome_of
pick_worker {crew} first row leaves blocks few {s} {t} {w} {number} {u} h q =
    let none = moved_none s w u _ t (ap (λ (y : ℕ). outcome_of y t) (sym q) ∙ h.is) in
    omega (arith, few, reason-none w crew (get_or s.made w 0) (2 * updates_in first w) _ none)

-- a pick that is refused leaves the state
pub pick_refused : (cause number : ℕ) (s : State) (w : ℕ) (u : Update) → number ≡ cause → number ≢ 0 → PickMade cause s w u number s
unfolding outcome_of step_if
pick_refused cause zero s w u e d = absurd (d refl)
pick_refused cause (suc k) s w u e d = record { is = rw (← e) refl; kept = λ q. refl; counted = λ q. absurd (omega arith) }

-- what std's checked sum promises, as the machine's
fit : (z : ℤ) → FitsSigned w64 z → fits64 z ≡ true
unfolding fits64
fit (pos n) f = lt-ltb n (2 ^ 63) (omega (arith, f.sfits))
fit (negsuc n) f = lt-ltb n (2 ^ 63) (omega (arith, f.sfits))

fit_back : (z : ℤ) → fits64 z ≡ true → FitsSigned w64 z
unfolding fits64
fit_back (pos n) e = record { sfits = omega (arith, ltb-true n (2 ^ 63) e) }
fit_back (negsuc n) e = record { sfits = omega (arith, ltb-true n (2 ^ 63) e) }

pub checked_sum : (a b : ℤ) (r : Option ℤ) → SomeIff r (FitsSigned w64 (a +ℤ b)) (a +ℤ b) → r ≡ sum_of a b
checked_sum a b (Some z) h = rw (fit _ h.0, h.1) refl
checked_sum a b None h = go (fits64 (a +ℤ b)) refl
  where
    go : (t : Bool) → fits64 (a +ℤ b) ≡ t → None ≡ sum_if t (a +ℤ b)
    go true e = absurd (h (fit_back _ e))
    go false e = refl

module _ (made : List ℕ) (held sums : List ℤ) (w : ℕ) (u : Update) where
  abbrev s : State
  s = state_with made held sums

  -- at an even count it loads
  pub pick_loads : count made w % 2 ≡ 0 → PickMade 0 s w u 0 (state_with (set made w (count made w + 1)) (set held w (get_or sums u.target (pos 0))) sums)
  unfolding outcome_of step_if move access load onward
  pick_loads e = record {
    is = rw (eq-eqb (count made w % 2) 0 e, add-one (count made w)) refl;
    kept = λ d. absurd (d refl);
    counted = λ q. ap (set made w) (add-one (count made w));
  }

  -- at an odd count the sum is held number plus amount
  module _ (odd : count made w % 2 ≢ 0) where
    y : ℤ
    y = get_or held w (pos 0) +ℤ u.amount

    -- .. that is stored if it fits, and leaves the held number
    pub pick_stores : (z : ℤ) → sum_of (get_or held w (pos 0)) u.amount ≡ Some z → PickMade 0 s w u 0 (state_with (set made w (count made w + 1)) held (set sums u.target z))
    unfolding outcome_of step_if move access store onward total y
    pick_stores z e = record {
      is = rw (ne_eqb (count made w % 2) 0 odd, add-one (count made w)) (go (fits64 y) refl e);
      kept = λ d. absurd (d refl);
      counted = λ q. ap (set made w) (add-one (count made w));
    }
      where
        new : ℤ → State
        new v = state_with (set made w (suc (count made w))) held (set sums u.target v)

        go : (b : Bool) → fits64 y ≡ b → sum_if b y ≡ Some z → moved (new z) ≡ access false (fits64 y) s w u
        go true f e = rw f (ap (λ (v : ℤ). moved (new v)) (let q : z ≡ y = cc in q))
        go false f e = absurd (let q : ◌≡◌ {A = ℕ} 0 1 = cc in omega arith)

    -- .. and refused if it does not
    pub pick_passes : sum_of (get_or held w (pos 0)) u.amount ≡ None → PickMade 0 s w u why.overflow s
    unfolding outcome_of step_if move access total y
    pick_passes e = record { is = rw (ne_eqb (count made w % 2) 0 odd) (go (fits64 y) refl e); kept = λ d. refl; counted = λ q. absurd (omega arith) }
      where
        go : (b : Bool) → fits64 y ≡ b → sum_if b y ≡ None → halted why.overflow ≡ access false (fits64 y) s w u
        go true f e = absurd (let q : ◌≡◌ {A = ℕ} 0 1 = cc in omega arith)
        go false f e = rw f refl
