-- Two runs in bytes are the two runs on the roof.
use mathlib.Core.Path.{◌≡◌, refl, sym, ap, ◌∙◌}
use mathlib.Core.Bool.{true}
use mathlib.Core.List.{List, [], ◌∷◌, ◌++◌}
use Prim.Native.Nat.{ℕ}
use lib.IntN.{ℤ}
use borrow.Author.Tests.{eq-eqb}
use Rattle.matrix.specs.Matrix.{Matrix}
use Rattle.run.specs.Job.{job_of}
use Rattle.run.specs.Machine.{is_state}
use Rattle.run.specs.State.{State}
use Rattle.run.specs.Calls.{picked_of}
use Rattle.run.specs.Answers.{picks, force_list}
use Rattle.run.specs.Sequence.{state_after}
use Rattle.run.specs.EveryRun.{run_state}
use Rattle.run.specs.LentRuns.{passed}
use Rattle.run.proofs.Sequence.{all_answered, all_left}
use Rattle.words.specs.LittleEndian.{signed_bytes}
use Rattle.answers.specs.Runs.{state_bytes, bytes_in, left_by}
use Rattle.answers.proofs.StateBytes.{stored-over}
use Rattle.crews.specs.Crews.{Crew, crew0, crew1, Two, own_of, Roof, job_for, turns}
use Rattle.crews.specs.Calls.{BothCall, picks_both, ready_sets, forces_for, one, denied_both, answer_both, after_both, roof_of}
use Rattle.crews.specs.TwoCrews.{both_fresh, both_state, both_answers, passed_both, taken_for, LentBoth}
use Rattle.crews.proofs.LentBoth.{own-passed, lent_both}
use Rattle.crews.proofs.TwoCrews.{two-crews}
use Rattle.shared.proofs.Sharing.{are_states, states_fine}
use Rattle.quarters.specs.Both.{states_in, are_whole, if_whole, answer_both_in, bytes_left}
use Rattle.meaning.specs.ByteRuns.{in_bytes, byte_answer}
use Rattle.meaning.specs.BothRuns.{both_in_bytes, both_zeros, both_leave, bytes_after, both_byte_answers, both_bytes, BothInBytes, BothByteRuns}
use Rattle.meaning.proofs.StateBack.{Sized, state-length, state-back, sums-length, zeros-fresh}
use Rattle.meaning.proofs.ByteRuns as own

-- one call more
state_more : {S C : Type 0} (after : S → C → S) (s : S) (cs : List C) (c : C) → state_after after s (cs ++ c ∷ []) ≡ after (state_after after s cs) c
unfolding state_after
state_more after s [] c = refl
state_more after s (d ∷ cs) c = state_more after (after s d) cs c

module _ (m : Matrix) (x : Two (List ℤ)) (order groups : List ℕ) (count : ℕ) (pass : passed_both m x order groups count ≡ true) where
  abbrev roof : Roof
  roof = roof_of m x order groups count

  same : LentBoth m x order groups count
  same = lent_both m x order groups count pass

  -- states that calls for both lead to from fresh
  record Reached (s : Two State) : Type 0 where
    calls : List BothCall
    is : s ≡ both_state roof calls

  reached-fresh : Reached (both_fresh m.n)
  unfolding both_state state_after roof_of
  reached-fresh = record { calls = []; is = refl }

  reached-after : (s : Two State) → Reached s → (c : BothCall) → Reached (after_both roof s c)
  unfolding both_state
  reached-after s k c = record { calls = k.calls ++ c ∷ []; is = rw k.is (sym (state_more (after_both roof) (both_fresh roof.matrix.n) k.calls c)) }

  -- each crew's is one that a run of its own meets
  module _ (s : Two State) (k : Reached s) (c : Crew) where
    abbrev pass-own : passed m (own_of x c) order groups count ≡ true
    pass-own = own-passed m x order groups count pass c

    met : own.Met m (own_of x c) order groups count pass-own (own_of s c)
    unfolding roof_of job_of
    met =
        let run : own_of s c ≡ run_state (job_for roof c) (picks (taken_for roof k.calls c) ∷ []) = ap (λ (t : Two State). own_of t c) k.is ∙ ((two-crews.both_runs roof same.accepted k.calls).each c).reached in
        rw run (own.met m (own_of x c) order groups count pass-own (picks (taken_for roof k.calls c) ∷ []))

    sized : Sized (own_of s c)
    sized = own.sized m (own_of x c) order groups count pass-own (own_of s c) met

    is_state_lem : is_state (job_for roof c) (own_of s c) ≡ true
    unfolding roof_of job_of
    is_state_lem = own.is_state_lem m (own_of x c) order groups count pass-own (own_of s c) met

  -- ---- one call

  both-back : (s : Two State) → Reached s → states_in (both_in_bytes s) ≡ s
  both-back s k = λ i. record { of0 = state-back s.of0 (sized s k crew0) i; of1 = state-back s.of1 (sized s k crew1) i }

  are-whole : (s : Two State) → Reached s → are_whole (both_in_bytes s) ≡ true
  unfolding are_whole
  are-whole s k = rw (eq-eqb _ state_bytes (state-length s.of0 (sized s k crew0)), eq-eqb _ state_bytes (state-length s.of1 (sized s k crew1))) refl

  if-whole : (s : Two State) → Reached s → (c : BothCall) → if_whole m x order groups count (both_in_bytes s) c ≡ answer_both roof s c
  unfolding if_whole
  if-whole s k c = rw (are-whole s k, both-back s k) (same.answered s c)

  one_answer : (s : Two State) → Reached s → (c : BothCall) → answer_both_in m x order groups count (both_in_bytes s) c ≡ answer_both roof s c
  unfolding answer_both_in answer_both roof_of job_of byte_answer
  one_answer s k (picks_both bs) = if-whole s k (picks_both bs)
  one_answer s k ready_sets = if-whole s k ready_sets
  one_answer s k (forces_for crew0 room) = ap one (own.one_answer m x.of0 order groups count (pass-own s k crew0) s.of0 (met s k crew0) (force_list room))
  one_answer s k (forces_for crew1 room) = ap one (own.one_answer m x.of1 order groups count (pass-own s k crew1) s.of1 (met s k crew1) (force_list room))

  one_left : (s : Two State) → Reached s → (bs : List ℕ) → both_leave m x order groups count (both_in_bytes s) bs ≡ after_both roof s (picks_both bs)
  unfolding both_leave
  one_left s k bs = rw (both-back s k) (same.left s (picks_both bs))

  are-states : (s : Two State) → Reached s → are_states roof s ≡ true
  are-states s k = rw (is_state_lem s k crew0, is_state_lem s k crew1) refl

  -- picks are taken, if only some or none: no check refuses them
  picks-answer : (s : Two State) → Reached s → (bs : List ℕ) → answer_both roof s (picks_both bs) ≡ one (picked_of (turns roof s bs).taken (turns roof s bs).number)
  unfolding answer_both
  picks-answer s k bs = states_fine roof s denied_both _ (are-states s k)

  -- a crew's bytes after them
  own-after : (s : Two State) → Reached s → (t : Two State) → Reached t → (c : Crew) (taken number : ℕ) → bytes_left (one (picked_of taken number)) (own_of t c) (in_bytes (own_of s c)) ≡ in_bytes (own_of t c)
  unfolding bytes_left left_by picked_of
  own-after s k t l c taken number =
      rw (
        stored-over (bytes_in (own_of t c)) (bytes_in (own_of s c)) (state-length (own_of t c) (sized t l c) ∙ sym (state-length (own_of s c) (sized s k c))),
        stored-over (signed_bytes 8 (own_of t c).sums) (signed_bytes 8 (own_of s c).sums) (sums-length (own_of t c).sums (own_of s c).sums ((met t l c).inv.sums-length ∙ sym (met s k c).inv.sums-length)),
      )

  one-after : (s : Two State) → Reached s → (c : BothCall) → bytes_after m x order groups count (both_in_bytes s) c ≡ both_in_bytes (after_both roof s c)
  unfolding bytes_after
  one-after s k (picks_both bs) =
      let t = after_both roof s (picks_both bs) in
      let l = reached-after s k (picks_both bs) in
      let r = turns roof s bs in
      rw (one_answer s k (picks_both bs), picks-answer s k bs, one_left s k bs) (λ i. record { of0 = own-after s k t l crew0 r.taken r.number i; of1 = own-after s k t l crew1 r.taken r.number i })
  one-after s k ready_sets = unfold after_both in refl
  one-after s k (forces_for c room) = unfold after_both in refl

  -- ---- call by call

  begin : both_zeros m.n ≡ both_in_bytes (both_fresh m.n)
  unfolding both_zeros both_fresh
  begin = rw (zeros-fresh m.n) refl

  module _ (cs : List BothCall) where
    left : both_bytes m x order groups count cs ≡ both_in_bytes (both_state roof cs)
    unfolding both_bytes both_state roof_of
    left =
        rw begin
        (all_left (answer_both roof) (after_both roof) (answer_both_in m x order groups count) (bytes_after m x order groups count) both_in_bytes Reached one_answer one-after reached-after (both_fresh m.n) reached-fresh cs)

    answers-are : both_byte_answers m x order groups count cs ≡ both_answers roof cs
    unfolding both_byte_answers both_answers roof_of
    answers-are =
        rw begin
        (all_answered (answer_both roof) (after_both roof) (answer_both_in m x order groups count) (bytes_after m x order groups count) both_in_bytes Reached one_answer one-after reached-after (both_fresh m.n) reached-fresh cs)

    both-in-bytes : BothInBytes m x order groups count cs
    both-in-bytes = record { answered = answers-are; left = left; read_back = rw left (both-back (both_state roof cs) (record { calls = cs; is = refl })) }

-- the theorem
pub both-byte-runs : BothByteRuns
both-byte-runs = record { every = both-in-bytes }
