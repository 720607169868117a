-- One turn of the loop over a schedule: the pick is the step of the machine by tables.
use mathlib.Core.Path.{◌≡◌, refl, sym, ap, ◌∙◌, subst}
use mathlib.Core.Logic.{◌≢◌}
use mathlib.Core.Bool.{Bool, true, false}
use mathlib.Core.List.{List}
use Prim.Native.Nat.{ℕ, zero, suc, ◌+◌, ◌%◌, ◌^◌, ◌<◌}
use native.Mathlib.Omega.{arith}
use lib.Dec.{eqb}
use native.Mathlib.Numerals.{add-one}
use lib.IntN.{ℤ}
use lib.ListN.{length, get_or}
use Rattle.base.specs.Integers.{fits64}
use Rattle.base.specs.Refusals.{overflow}
use Rattle.run.specs.Updates.{Update, count}
use Rattle.run.specs.Machine.{reason, moved, halted, total, access, move, step_if}
use Rattle.run.specs.Schedule.{Passed}
use Rattle.run.specs.State.{State}
use Rattle.run.proofs.Passes.{Left, left-start, left_step, left_skip, left_halt, left-none}
use Rattle.words.specs.LittleEndian.{signed}
use Rattle.steps.specs.Code.Steps.{state_with, outcome_of, PickMade}
use Rattle.machine.specs.Code.Stepped.{passes_over}
use Rattle.machine.specs.declared.state.Rule.{Rule}
use Rattle.prepared.specs.Tables.{Tables, next_by, refusal_by, step_by, pass_by}
use Rattle.picking.specs.Code.Picks.{tables_in, Seen, SumsKept}

-- what a pick comes to
taken_is : (number : ℕ) (t : State) → number ≡ 0 → outcome_of number t ≡ moved t
unfolding outcome_of
taken_is number t q = rw q refl

refused-is : (number : ℕ) (t : State) → number ≢ 0 → outcome_of number t ≡ halted number
unfolding outcome_of
refused-is zero t d = absurd (d refl)
refused-is (suc k) t d = refl

-- the number of a refusal is small
reason-low : (a b c : Bool) → reason a b c < 2 ^ 8
unfolding reason
reason-low false b c = omega arith
reason-low true true c = omega arith
reason-low true false true = omega arith
reason-low true false false = omega arith

pub number_low : (T : Tables) {s t : State} {w : ℕ} {u : Update} (number : ℕ) → PickMade (refusal_by T s.made w) s w u number t → number < 2 ^ 8
unfolding outcome_of step_if move access refusal_by
number_low T zero h = omega arith
number_low T {s} {t} {w} {u} (suc k) h = go (refusal_by T s.made w) (reason-low _ _ _) h.is
  where
    by : (even fitting : Bool) → halted (suc k) ≡ access even fitting s w u → suc k < 2 ^ 8
    by true f e = absurd (let z : ◌≡◌ {A = ℕ} 0 1 = cc in omega arith)
    by false true e = absurd (let z : ◌≡◌ {A = ℕ} 0 1 = cc in omega arith)
    by false false e = let z : suc k ≡ overflow = cc in omega arith

    go : (why : ℕ) → why < 2 ^ 8 → halted (suc k) ≡ step_if why s w u → suc k < 2 ^ 8
    go zero l e = by (eqb (count s.made w % 2) 0) (fits64 (total s w u)) e
    go (suc q) l e = let z : suc k ≡ suc q = cc in omega arith

pub kept_on : {rows : ℕ} {a b c : List ℕ} → SumsKept rows a b → SumsKept rows b c → SumsKept rows a c
kept_on x y = record { long = y.long ∙ x.long; past = y.past ∙ x.past }

module _ (list : List ℕ) (rows count : ℕ) (rule : Rule) (s₀ : State) (old schedule : List ℕ) where
  -- k picks of the schedule, n of them taken, led from s₀, whose sums are these bytes, to counts, held numbers and sums
  pub record Going (n k : ℕ) (made : List ℕ) (held : List ℤ) (seen sums : List ℕ) : Type 0 where
    pub left : Left (passes_over rule) (step_by (tables_in list)) s₀ schedule k n (state_with made held (signed 8 sums))
    pub rows_seen : Seen list rows count made seen
    pub kept : SumsKept rows old sums

  -- what the whole schedule comes to
  abbrev pub Ends : Passed State → Type 0
  Ends r = r ≡ pass_by (tables_in list) (passes_over rule) s₀ schedule

module _ {list : List ℕ} {rows count : ℕ} {rule : Rule} {s₀ : State} {old schedule : List ℕ} where
  -- at first
  pub going_start : {made : List ℕ} {held : List ℤ} {seen : List ℕ} → s₀ ≡ state_with made held (signed 8 old) → Seen list rows count made seen → Going list rows count rule s₀ old schedule 0 0 made held seen old
  going_start e o = record {
    left = subst (Left (passes_over rule) (step_by (tables_in list)) s₀ schedule 0 0) e (left-start (passes_over rule) (step_by (tables_in list)) s₀ schedule);
    rows_seen = o;
    kept = record { long = refl; past = refl };
  }

  module _ {n k : ℕ} {made : List ℕ} {held : List ℤ} {seen sums : List ℕ} (g : Going list rows count rule s₀ old schedule n k made held seen sums) where
    abbrev T : Tables
    T = tables_in list

    abbrev s : State
    s = state_with made held (signed 8 sums)

    -- all picks are gone through
    pub going_none : k ≡ length schedule → Ends list rows count rule s₀ old schedule (record { state = s; taken = n; met = length schedule; number = 0 })
    going_none l = ap (λ (y : ℕ). record { state = s; taken = n; met = y; number = 0 }) (sym l) ∙ left-none (passes_over rule) (step_by T) s₀ schedule k n s g.left l

    -- the next pick
    module _ (l : k < length schedule) {number : ℕ} {t : State} (h : PickMade (refusal_by T made (get_or schedule k 0)) s (get_or schedule k 0) (next_by T made (get_or schedule k 0)) number t) where
      is-step : step_by T s (get_or schedule k 0) ≡ outcome_of number t
      unfolding step_by
      is-step = sym h.is

      -- it is refused, and ends the schedule
      pub going_halt : number ≢ 0 → passes_over rule number ≡ false → Ends list rows count rule s₀ old schedule (record { state = t; taken = n; met = k; number = number })
      going_halt q p =
          ap (λ (y : State). record { state = y; taken = n; met = k; number = number }) (h.kept q)
          ∙ left_halt (passes_over rule) (step_by T) s₀ schedule k n s g.left l number (is-step ∙ refused-is number t q) p

      module _ {seen' new : List ℕ} (o : Seen list rows count t.made seen') (kept : SumsKept rows sums new) (e : t.sums ≡ signed 8 new) where
        same : t ≡ state_with t.made t.held (signed 8 new)
        same = ap (state_with t.made t.held) e

        -- .. or is passed over
        pub going_past : number ≢ 0 → passes_over rule number ≡ true → Going list rows count rule s₀ old schedule n (k + 1) t.made t.held seen' new
        going_past q p = record {
          left = rw (add-one k) (subst (Left (passes_over rule) (step_by T) s₀ schedule (suc k) n) (sym (h.kept q) ∙ same)
              (left_skip (passes_over rule) (step_by T) s₀ schedule k n s g.left l number (is-step ∙ refused-is number t q) p));
          rows_seen = o;
          kept = kept_on g.kept kept;
        }

        -- it is taken
        pub going_on : number ≡ 0 → Going list rows count rule s₀ old schedule (n + 1) (k + 1) t.made t.held seen' new
        going_on q = record {
          left = rw (add-one k, add-one n) (subst (Left (passes_over rule) (step_by T) s₀ schedule (suc k) (suc n)) same
              (left_step (passes_over rule) (step_by T) s₀ schedule k n s g.left l t (is-step ∙ taken_is number t q)));
          rows_seen = o;
          kept = kept_on g.kept kept;
        }
