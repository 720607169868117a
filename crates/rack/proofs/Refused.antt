-- Why every call is refused, and what the calls answer if none is.
use mathlib.Core.Path.{◌≡◌, refl, sym, ap, ◌∙◌}
use mathlib.Core.Logic.{◌≢◌}
use mathlib.Core.Bool.{Bool, true, false, ◌&&◌, cond}
use mathlib.Core.List.{List}
use Prim.Native.Nat.{ℕ, ◌/◌}
use native.Mathlib.Omega.{arith}
use lib.Dec.{eqb}
use lib.ListN.{length, take}
use borrow.Author.Tests.{eqb-true, eq-eqb, ne_eqb}
use Rattle.base.specs.Replies.{in_turn}
use Rattle.base.specs.Verdicts.{number_of}
use Rattle.base.specs.declared.Refusal.{Refusal}
use Rattle.base.proofs.Booleans.{and_left}
use Rattle.plan.specs.Sound.{max_workers}
use Rattle.run.specs.Answers.{Call, denied}
use Rattle.words.specs.LittleEndian.{signed_number, unsigned}
use Rattle.words.proofs.Blocks.{length_decoded}
use Rattle.answers.specs.Runs.{count_bytes, state_bytes, state_in}
use Rattle.std.proofs.Common.{Err}
use Rattle.steps.proofs.TableSteps.{not_told}
use Rattle.prepared.specs.Format.{tables_of, lists_in, is_prepared}
use Rattle.prepared.specs.Tables.{is_state_by, counts_fine_by, state_check_by, answer_of_by, after_of_by, answer_by, after_by}
use Rattle.prepared.specs.PreparedRuns.{prepared_check, answer_prepared, after_prepared}
use Rattle.picking.specs.Code.Picks.{tables_in}
use Rattle.rack.specs.Kept.{answer_kept}
use Rattle.rack.specs.Code.Taken.{refusal_in}
use Rattle.rack.specs.Code.Admitted.{IsAdmitted}

module _ (list state sums : List ℕ) where
  abbrev is_whole : Bool
  is_whole = eqb (length state) state_bytes

  abbrev is_state : Bool
  is_state = is_state_by (tables_in list) (state_in state sums)

  -- ---- test by test

  pub not-prepared : is_prepared list ≡ false → 26 ≡ refusal_in list state sums
  unfolding refusal_in
  not-prepared x = rw x refl

  module _ (x : is_prepared list ≡ true) where
    pub not-whole : length state ≢ state_bytes → 11 ≡ refusal_in list state sums
    unfolding refusal_in
    not-whole d = rw (x, ne_eqb (length state) state_bytes d) refl

    module _ (w : length state ≡ state_bytes) where
      by_state : refusal_in list state sums ≡ cond (eqb (length sums / 8) (lists_in list).rows && counts_fine_by (tables_in list) (unsigned 4 (take count_bytes state)) max_workers) 0 11
      unfolding refusal_in is_state_by tables_of
      by_state =
          rw (x, eq-eqb (length state) state_bytes w)
          (ap (λ (n : ℕ). cond (eqb n (lists_in list).rows && counts_fine_by (tables_in list) (unsigned 4 (take count_bytes state)) max_workers) 0 11) (length_decoded (signed_number 8) 8 sums))

      pub other-rows : length sums / 8 ≢ (lists_in list).rows → 11 ≡ refusal_in list state sums
      other-rows d = sym (by_state ∙ rw (ne_eqb (length sums / 8) (lists_in list).rows d) refl)

      pub by_counts : length sums / 8 ≡ (lists_in list).rows → {made : List ℕ} → made ≡ unsigned 4 (take count_bytes state) → (b : Bool) → b ≡ counts_fine_by (tables_in list) made max_workers → cond b 0 11 ≡ refusal_in list state sums
      by_counts e {made} m b f =
          sym (by_state ∙ rw (eq-eqb (length sums / 8) (lists_in list).rows e) (ap (λ (t : Bool). cond t 0 11) (ap (λ (l : List ℕ). counts_fine_by (tables_in list) l max_workers) (sym m) ∙ sym f)))

  -- a refused call
  pub refused_all : refusal_in list state sums ≢ 0 → (c : Call) → denied (refusal_in list state sums) 0 ≡ answer_kept list state sums c
  unfolding refusal_in answer_kept answer_prepared prepared_check answer_by state_check_by in_turn
  refused_all d c = go (is_prepared list) refl is_whole refl is_state refl
    where
      go : (p : Bool) → is_prepared list ≡ p → (w : Bool) → is_whole ≡ w → (t : Bool) → is_state ≡ t → denied (refusal_in list state sums) 0 ≡ answer_kept list state sums c
      go false x true y t z = rw (x, y) refl
      go false x false y t z = rw (x, y) refl
      go true x false y t z = rw (x, y) refl
      go true x true y false z = rw (x, y, z) refl
      go true x true y true z = absurd (d (rw (x, y, z) refl))

  -- .. by the code
  pub refused-so : (r : Refusal) → IsAdmitted list state sums (Err r) → (c : Call) → denied (number_of r.kind) r.place ≡ answer_kept list state sums c
  refused-so r h c = rw h.1 (ap (λ (k : ℕ). denied k 0) h.0 ∙ refused_all (λ q. not_told r.kind (h.0 ∙ q)) c)

  many : is_state ≡ true → (lists_in list).rows ≡ length sums / 8
  unfolding is_state_by tables_of
  many h = sym (eqb-true (length (state_in state sums).sums) (lists_in list).rows (and_left _ _ h)) ∙ length_decoded (signed_number 8) 8 sums

  -- what it is that none is refused
  pub record Fine : Type 0 where
    pub prepared : is_prepared list ≡ true
    pub whole : length state ≡ state_bytes
    pub rows : (lists_in list).rows ≡ length sums / 8
    pub answers : (c : Call) → answer_kept list state sums c ≡ answer_of_by (tables_in list) (state_in state sums) c
    pub leaves : (c : Call) → after_prepared list (state_in state sums) c ≡ after_of_by (tables_in list) (state_in state sums) c

  pub fine : refusal_in list state sums ≡ 0 → Fine
  unfolding refusal_in answer_kept answer_prepared after_prepared prepared_check answer_by after_by state_check_by in_turn
  fine e = go (is_prepared list) refl is_whole refl is_state refl
    where
      go : (p : Bool) → is_prepared list ≡ p → (w : Bool) → is_whole ≡ w → (t : Bool) → is_state ≡ t → Fine
      go false x w y t z = absurd (let q = rw x at e in omega arith)
      go true x false y t z = absurd (let q = rw (x, y) at e in omega arith)
      go true x true y false z = absurd (let q = rw (x, y, z) at e in omega arith)
      go true x true y true z = record {
        prepared = x;
        whole = eqb-true (length state) state_bytes y;
        rows = many z;
        answers = λ c. rw (x, y, z) refl;
        leaves = λ c. rw (x, z) refl;
      }
