-- A schedule by a prepared list: what is told of it, and what it leaves in the bytes of state and sums.
use mathlib.Core.Path.{◌≡◌, refl, sym, ap, ◌∙◌, fun_ext}
use mathlib.Core.Bool.{Bool}
use mathlib.Core.List.{List, [], ◌++◌}
use Prim.Native.Nat.{ℕ, zero, suc, ◌*◌, ◌/◌, ◌%◌, ◌^◌, ◌<◌}
use native.Mathlib.Omega.{arith}
use lib.ListN.{length, get_or, take, drop, take-append-drop}
use lib.Seq.{length-take-le}
use Rattle.base.proofs.Each.{Each, each-of-get}
use Rattle.run.specs.Answers.{Call, Answer, picked, previewed, denied}
use Rattle.run.specs.Calls.{place_of, passed_of}
use Rattle.run.specs.Rounds.{skips}
use Rattle.run.specs.Schedule.{Passed, pass, skips_none}
use Rattle.run.specs.State.{State}
use Rattle.words.specs.LittleEndian.{signed, signed_bytes, stored}
use Rattle.words.proofs.Bytes.{IsByte, signed-bytes}
use Rattle.machine.specs.Record.{state_of}
use Rattle.machine.specs.Code.Stepped.{passes_over, stop_number, walked_of}
use Rattle.machine.specs.declared.state.State as code
use Rattle.machine.specs.declared.state.Walked as walked
use Rattle.machine.specs.declared.state.Rule.{Rule}
use Rattle.machine.specs.declared.state.Rule.TheVariants.{Stop, Skip}
use Rattle.std.proofs.Common.{Option, Some, None, Result, Err}
use Rattle.base.specs.Verdicts.{number_of}
use Rattle.base.specs.declared.Kind.{Kind}
use Rattle.base.specs.declared.Kind.TheVariants as kind
use Rattle.base.specs.declared.Refusal.{Refusal}
use Rattle.calls.specs.Performed.{as_answer}
use Rattle.calls.specs.declared.Response.{Response}
use Rattle.answers.specs.Runs.{state_in, bytes_in, left_by}
use Rattle.answers.specs.Code.Ran.{StateIs, Looks}
use Rattle.prepared.specs.PreparedRuns.{after_prepared}
use Rattle.prepared.specs.Tables.{Tables, pass_by, step_by, answer_of_by, after_of_by}
use Rattle.picking.specs.Code.Picks.{tables_in, SumsKept}
use Rattle.rack.specs.Kept.{answer_kept, fitting}
use Rattle.rack.specs.Code.Taken.{takes, TookKept}
use Rattle.rack.specs.Code.Admitted.{IsAdmitted}
use Rattle.rack.proofs.Refused.{Fine, refused-so}

-- ---- a refused call

module _ (r : Refusal) where
  pub refused-picks : {A : Type 0} {k q p : ℕ} → as_answer (Err r) [] ≡ picked k q p → A
  refused-picks e = absurd (let z : ◌≡◌ {A = ℕ} 0 1 = cc in omega arith)

  pub refused_looks : Looks (Err r)
  refused_looks t q p b k e = absurd (let z : ◌≡◌ {A = ℕ} 0 1 = cc in omega arith)

module _ (list state sums : List ℕ) (c : Call) where
  pub took_refused : (r : Refusal) → IsAdmitted list state sums (Err r) → TookKept list state sums c (Err r) state sums
  unfolding fitting left_by
  took_refused r h =
      let told : denied (number_of r.kind) r.place ≡ answer_kept list state sums c = refused-so list state sums r h c in
      record {
        made = [];
        answers = ap fitting told;
        state-left = ap (λ (a : Answer). left_by a (bytes_in (after_prepared list (state_in state sums) c)) state) told;
        sums_left = ap (λ (a : Answer). left_by a (signed_bytes 8 (after_prepared list (state_in state sums) c).sums) sums) told;
        place_low = λ plain. (λ k q p e. refused-picks _ e, refused_looks _);
        moves_low = (λ k q p e. refused-picks _ e, refused_looks _);
      }

-- the number of what ended a schedule fits eight bits
kind_low : (k : Kind) → number_of k < 2 ^ 8
kind_low kind.BadHeader = omega arith
kind_low kind.BadForm = omega arith
kind_low kind.BadSize = omega arith
kind_low kind.BadEntry = omega arith
kind_low kind.NotMatrix = omega arith
kind_low kind.BadDisplacement = omega arith
kind_low kind.BadParameter = omega arith
kind_low kind.Unsound = omega arith
kind_low kind.TooShort = omega arith
kind_low kind.NoWorker = omega arith
kind_low kind.NotState = omega arith
kind_low kind.AllDone = omega arith
kind_low kind.MustWait = omega arith
kind_low kind.Overflow = omega arith
kind_low kind.TooEarly = omega arith
kind_low kind.BadLayout = omega arith
kind_low kind.BadSurvey = omega arith
kind_low kind.NoCrew = omega arith
kind_low kind.Elsewhere = omega arith
kind_low kind.NotForces = omega arith
kind_low kind.NoEntry = omega arith
kind_low kind.BadChange = omega arith
kind_low kind.BadPlaces = omega arith
kind_low kind.PastLimits = omega arith
kind_low kind.NoRegister = omega arith
kind_low kind.NotPrepared = omega arith

stop_low : (s : Option Kind) → stop_number s < 2 ^ 8
stop_low None = omega arith
stop_low (Some k) = kind_low k

-- picks that are the same, and picks are no preview
picked-parts : {a b c k q p : ℕ} → picked a b c ≡ picked k q p → (k ≡ a) × (q ≡ b) × (p ≡ c)
picked-parts e = (cc, cc, cc)

not-look : {A : Type 0} {a b c t q p x y : ℕ} → picked a b c ≡ previewed t q p x y → A
not-look e = absurd (let z : ◌≡◌ {A = ℕ} 0 1 = cc in omega arith)

-- the low bits of a place
pub place-low : (number past : ℕ) → place_of number (past % 2 ^ 32) ≡ place_of number past % 2 ^ 32
unfolding place_of
place-low zero past = refl
place-low (suc k) past = refl

-- ---- a schedule that is gone through

-- a rule's call goes through the schedule so
module _ (T : Tables) (s : State) (ws : List ℕ) where
  rule_skips : (rule : Rule) (f : ℕ → Bool) → ((k : ℕ) → f k ≡ passes_over rule k) → pass f (step_by T) s ws ≡ pass (passes_over rule) (step_by T) s ws
  rule_skips rule f h = ap (λ (e : ℕ → Bool). pass e (step_by T) s ws) (fun_ext h)

  rule_answer : (rule : Rule) → answer_of_by T s (takes rule ws) ≡ passed_of (pass_by T (passes_over rule) s ws)
  unfolding answer_of_by takes passes_over
  rule_answer Stop = ap passed_of (rule_skips Stop skips_none (λ k. refl))
  rule_answer Skip = ap passed_of (rule_skips Skip skips (λ k. refl))

  rule_after : (rule : Rule) → after_of_by T s (takes rule ws) ≡ (pass_by T (passes_over rule) s ws).state
  unfolding after_of_by takes passes_over
  rule_after Stop = ap (λ (r : Passed State). r.state) (rule_skips Stop skips_none (λ k. refl))
  rule_after Skip = ap (λ (r : Passed State). r.state) (rule_skips Skip skips (λ k. refl))

-- sums that are changed in place are stored
in_place : (rows : ℕ) (old new : List ℕ) → rows ≡ length old / 8 → SumsKept rows old new → Each IsByte new → new ≡ stored (signed_bytes 8 (signed 8 new)) old
in_place rows old new e kept bytes =
    let many : 8 * (length new / 8) ≡ rows * 8 = ap (λ (n : ℕ). 8 * (n / 8)) kept.long ∙ omega arith in
    let front : signed_bytes 8 (signed 8 new) ≡ take (rows * 8) new = signed-bytes new bytes ∙ ap (λ (n : ℕ). take n new) many in
    let size : length (take (rows * 8) new) ≡ rows * 8 = length-take-le (rows * 8) new (omega (arith, kept.long)) in
    sym (take-append-drop (rows * 8) new) ∙ ap (λ (l : List ℕ). take (rows * 8) new ++ l) kept.past
    ∙ ap (λ (n : ℕ). take (rows * 8) new ++ drop n old) (sym size) ∙ ap (λ (l : List ℕ). stored l old) (sym front)

module _ {list state sums : List ℕ} (f : Fine list state sums) (rule : Rule) (ws : List ℕ) where
  abbrev T : Tables
  T = tables_in list

  abbrev c : Call
  c = takes rule ws

  pub took : {before : code.State} → StateIs before state → (w : walked.Walked) {new_state new_sums : List ℕ} (rows : ℕ) → rows ≡ length sums / 8
      → walked_of w (signed 8 new_sums) ≡ pass_by T (passes_over rule) (state_of before (signed 8 sums)) ws → SumsKept rows sums new_sums → ((i : ℕ) → get_or new_sums i 0 < 256)
      → new_state ≡ stored (bytes_in (state_of w.state [])) state
      → {reply : Result Response Refusal} → as_answer reply [] ≡ picked (w.taken % 2 ^ 24) (stop_number w.stop) (place_of (stop_number w.stop) w.past % 2 ^ 32)
      → TookKept list state sums c reply new_state new_sums
  unfolding fitting left_by passed_of
  took {before} is w {new_state} {new_sums} rows all e kept bytes new {reply} t =
      let s : state_of before (signed 8 sums) ≡ state_in state sums = λ i. record { made = is.made i; held = is.held i; sums = signed 8 sums } in
      let run : pass_by T (passes_over rule) (state_in state sums) ws ≡ walked_of w (signed 8 new_sums) = ap (λ (y : State). pass_by T (passes_over rule) y ws) (sym s) ∙ sym e in
      let answer : answer_kept list state sums c ≡ passed_of (walked_of w (signed 8 new_sums)) = f.answers c ∙ rule_answer T (state_in state sums) ws rule ∙ ap passed_of run in
      let after : after_prepared list (state_in state sums) c ≡ state_of w.state (signed 8 new_sums) = f.leaves c ∙ rule_after T (state_in state sums) ws rule ∙ ap (λ (r : Passed State). r.state) run in
      record {
        made = [];
        answers = t ∙ sym (ap fitting answer);
        state-left = rw (answer, after) new;
        sums_left = rw (answer, after) (in_place rows sums new_sums all kept (each-of-get IsByte new_sums 0 bytes));
        place_low = λ plain. (λ k q p g. omega (arith, (picked-parts (sym t ∙ g)).2), λ u q p b k g. not-look (sym t ∙ g));
        moves_low = (λ k q p g. (let x = picked-parts (sym t ∙ g) in (omega (arith, x.0), omega (arith, x.1, stop_low w.stop))), λ u q p b k g. not-look (sym t ∙ g));
      }
