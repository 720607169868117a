-- The ready set and the force list by a prepared list.
use mathlib.Core.Path.{◌≡◌, refl, sym, ap, ◌∙◌}
use mathlib.Core.Bool.{Bool, true, false}
use mathlib.Core.List.{List, []}
use Prim.Native.Nat.{ℕ, ◌/◌, ◌≤◌, ◌<◌}
use native.Mathlib.Omega.{arith}
use lib.Count.{ones}
use lib.Dec.{leb}
use lib.ListN.{length}
use borrow.Author.Tests.{le-leb, lt-leb}
use Rattle.base.specs.Replies.{lent}
use Rattle.run.specs.Answers.{Call, ready_set, force_list, Answer, is_ready, forces, denied}
use Rattle.run.specs.Calls.{forces_of}
use Rattle.run.specs.Machine.{bits}
use Rattle.words.specs.LittleEndian.{signed, signed_bytes, stored}
use Rattle.machine.specs.declared.state.State as code
use Rattle.std.proofs.Common.{Ok, Err}
use Rattle.base.specs.Verdicts.{number_of}
use Rattle.base.specs.declared.Kind.TheVariants as kind
use Rattle.base.specs.declared.Refusal.{Refusal}
use Rattle.calls.specs.declared.Response.TheVariants.{Ready, Forces}
use Rattle.answers.specs.Runs.{state_in, reply_to, force_bytes}
use Rattle.answers.specs.Code.Ran.{StateIs, LowPlace}
use Rattle.prepared.specs.Format.{tables_of}
use Rattle.prepared.specs.Tables.{Tables, ready_below_by, all_made_by, original_by, answer_of_by}
use Rattle.picking.specs.Code.Picks.{tables_in}
use Rattle.picking.specs.Code.Reads.{Head}
use Rattle.picking.proofs.Ready.{ready-bits}
use Rattle.rack.specs.Kept.{answer_kept}
use Rattle.rack.specs.Code.Taken.{GaveKept}
use Rattle.rack.specs.Code.Admitted.{IsAdmitted}
use Rattle.rack.proofs.Refused.{Fine, refused-so}

-- ---- answers that name no pick

forces-low : LowPlace (Ok Forces)
forces-low = (λ k q p e. absurd (let z : ◌≡◌ {A = ℕ} 0 1 = cc in omega arith), λ t q p b k e. absurd (let z : ◌≡◌ {A = ℕ} 0 1 = cc in omega arith))

pub ready-low : (bits count : ℕ) → LowPlace (Ok (Ready bits count))
ready-low bits count = (λ k q p e. absurd (let z : ◌≡◌ {A = ℕ} 0 1 = cc in omega arith), λ t q p b k e. absurd (let z : ◌≡◌ {A = ℕ} 0 1 = cc in omega arith))

pub refused-low : (r : Refusal) → LowPlace (Err r)
refused-low r = (λ k q p e. absurd (let z : ◌≡◌ {A = ℕ} 0 1 = cc in omega arith), λ t q p b k e. absurd (let z : ◌≡◌ {A = ℕ} 0 1 = cc in omega arith))

module _ (list state sums old : List ℕ) where
  abbrev c : Call
  c = force_list (length old / 8)

  -- a refusal leaves the list
  gave_refused : (r : Refusal) → denied (number_of r.kind) r.place ≡ answer_kept list state sums c → GaveKept list state sums old (Err r) old
  unfolding lent reply_to
  gave_refused r told = record {
    made = [];
    answers = told;
    lists = ap (λ (a : Answer). lent (reply_to a) (force_bytes a) old) told;
    place_low = λ plain. refused-low r;
  }

  pub gave_none : (r : Refusal) → IsAdmitted list state sums (Err r) → GaveKept list state sums old (Err r) old
  gave_none r h = gave_refused r (refused-so list state sums r h c)

module _ {list state sums : List ℕ} (f : Fine list state sums) {rows crew n : ℕ} (h : Head list rows crew n) {before : code.State} (is : StateIs before state) where
  abbrev T : Tables
  T = tables_in list

  -- ---- the ready set

  pub ready-told : {b : ℕ} → b ≡ bits (ready_below_by T before.made crew) → is_ready b (ones b) ≡ answer_kept list state sums ready_set
  unfolding answer_of_by tables_of
  ready-told {b} e =
      ready-bits T before.made b (e ∙ ap (λ (k : ℕ). bits (ready_below_by T before.made k)) h.crew_is)
      ∙ ap (λ (m : List ℕ). answer_of_by T (record { made = m; held = (state_in state sums).held; sums = signed 8 sums }) ready_set) is.made ∙ sym (f.answers ready_set)

  -- ---- the forces

  module _ (old : List ℕ) (over : Bool) (o : over ≡ all_made_by T before.made crew) where
    told-by : (long : Bool) → leb rows (length old / 8) ≡ long → forces_of over long rows (original_by T (signed 8 sums)) ≡ answer_kept list state sums (force_list (length old / 8))
    unfolding answer_of_by tables_of
    told-by long l =
        ap (λ (b : Bool). forces_of b long rows (original_by T (signed 8 sums))) (o ∙ ap (λ (k : ℕ). all_made_by T before.made k) h.crew_is ∙ ap (λ (m : List ℕ). all_made_by T m T.crew) is.made)
        ∙ ap (λ (b : Bool). forces_of (all_made_by T (state_in state sums).made T.crew) b rows (original_by T (signed 8 sums))) (sym l)
        ∙ ap (λ (r : ℕ). forces_of (all_made_by T (state_in state sums).made T.crew) (leb r (length old / 8)) r (original_by T (signed 8 sums))) h.rows_are
        ∙ sym (f.answers (force_list (length old / 8)))

  module _ (old : List ℕ) where
    -- not yet
    pub gave_early : false ≡ all_made_by T before.made crew → GaveKept list state sums old (Err (record { kind = kind.TooEarly; place = 0 })) old
    unfolding forces_of
    gave_early o = gave_refused list state sums old (record { kind = kind.TooEarly; place = 0 }) (told-by old false o (leb rows (length old / 8)) refl)

    module _ (o : true ≡ all_made_by T before.made crew) where
      -- no room
      pub gave_short : length old / 8 < rows → GaveKept list state sums old (Err (record { kind = kind.TooShort; place = rows })) old
      unfolding forces_of
      gave_short l = gave_refused list state sums old (record { kind = kind.TooShort; place = rows }) (told-by old true o false (lt-leb rows (length old / 8) l))

      -- they are stored
      pub gave_forces : rows ≤ length old / 8 → {new : List ℕ} → new ≡ stored (signed_bytes 8 (original_by T (signed 8 sums))) old → GaveKept list state sums old (Ok Forces) new
      unfolding forces_of lent reply_to force_bytes
      gave_forces l {new} e =
          let told : forces (original_by T (signed 8 sums)) ≡ answer_kept list state sums (force_list (length old / 8)) = told-by old true o true (le-leb rows (length old / 8) l) in
          record {
            made = original_by T (signed 8 sums);
            answers = told;
            lists = e ∙ ap (λ (a : Answer). lent (reply_to a) (force_bytes a) old) told;
            place_low = λ plain. forces-low;
          }
