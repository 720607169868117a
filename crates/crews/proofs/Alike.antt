-- What a crew is told, and its state, has nothing to do with the other's displacements.
use mathlib.Core.Path.{◌≡◌, refl, sym, ap, ap₂, ◌∙◌, fun_ext}
use mathlib.Core.Logic.{◌⊎◌, inl, inr}
use mathlib.Core.Bool.{not}
use mathlib.Core.List.{List, [], ◌∷◌, ◌++◌}
use Prim.Native.Nat.{ℕ, zero, suc, ◌/◌, ◌%◌, ◌≤◌}
use lib.IntN.{ℤ}
use lib.ListN.{length}
use Rattle.base.specs.Lists.{filter}
use Rattle.base.specs.Refusals as why
use Rattle.matrix.specs.Matrix.{Matrix}
use Rattle.plan.specs.Groups.{Plan}
use Rattle.plan.specs.Sound.{max_workers}
use Rattle.run.specs.State.{State}
use Rattle.run.specs.Machine.{refusal, onward, ready, bits}
use Rattle.run.specs.Schedule.{Passed, one_taken, pass, skips_none}
use Rattle.run.specs.Calls.{picked_of}
use Rattle.run.specs.Sequence.{state_after}
use Rattle.run.proofs.Passes.{pass_on, pass_end}
use Rattle.crews.specs.Crews.{Crew, crew0, crew1, other, crew_number, Two, own_of, put_for, Roof, job_for, in_row, is_away, unless_away, crew_refusal, for_both, turn, turns, crew_ready}
use Rattle.crews.specs.Calls.{BothCall, picks_both, ready_sets, forces_for, one, ready_for, ready_both, denied_both, answer_both, after_both}
use Rattle.crews.specs.TwoCrews.{AcceptedRoof, both_fresh, both_state, picks_taken, all_taken, taken_for}
use Rattle.crews.proofs.Movements.{refusal-same, away_same, ready-same}
use Rattle.crews.proofs.Turns.{crew_end, who, turn-for, turn-none}
use Rattle.crews.proofs.Kept.{InvBoth, fresh-both, step-taken, call_inv, both-fine}

-- two roofs that differ in displacements alone
module _ (m : Matrix) (p : Plan) (x y : Two (List ℤ)) where
  abbrev r : Roof
  r = record { matrix = m; displacements = x; plan = p }

  abbrev q : Roof
  q = record { matrix = m; displacements = y; plan = p }

  -- the counts are the same
  abbrev SameCounts : Two State → Two State → Type 0
  SameCounts s t = (c : Crew) → (own_of s c).made ≡ (own_of t c).made

  module _ (s t : Two State) (e : SameCounts s t) (c : Crew) where
    away_alike : (w : ℕ) → is_away r s c w ≡ is_away q t c w
    unfolding is_away
    away_alike w = ap (λ (l : List ℕ). in_row (job_for r (other c)) l w) (e (other c)) ∙ away_same m p (own_of x (other c)) (own_of y (other c)) (own_of t (other c)).made w

    refusal-alike : (w : ℕ) → crew_refusal r s c w ≡ crew_refusal q t c w
    unfolding crew_refusal
    refusal-alike w = ap₂ unless_away (ap (λ (l : List ℕ). refusal (job_for r c) l w) (e c) ∙ refusal-same m p (own_of x c) (own_of y c) (own_of t c).made w) (away_alike w)

    ready-alike : ready_for r s c ≡ ready_for q t c
    unfolding ready_for crew_ready
    ready-alike =
        ap (λ (ws : List ℕ). record { bits = bits ws; count = length ws })
        (ap₂ filter (fun_ext (λ w. ap not (away_alike w))) (ap (ready (job_for r c)) (e c) ∙ ready-same m p (own_of x c) (own_of y c) (own_of t c).made))

  -- a schedule for both
  record Alike (a b : Passed (Two State)) : Type 0 where
    taken : a.taken ≡ b.taken
    number : a.number ≡ b.number
    made : SameCounts a.state b.state

  -- the states of both roofs after the same calls
  pub record Like (s t : Two State) : Type 0 where
    pub here : InvBoth r s
    pub there : InvBoth q t
    pub made : SameCounts s t

  put_made : (s t : Two State) → SameCounts s t → (c : Crew) (u v : State) → u.made ≡ v.made → SameCounts (put_for s c u) (put_for t c v)
  put_made s t e crew0 u v h crew0 = h
  put_made s t e crew0 u v h crew1 = e crew1
  put_made s t e crew1 u v h crew0 = e crew0
  put_made s t e crew1 u v h crew1 = h

  module _ (ok : AcceptedRoof r) (ko : AcceptedRoof q) where
    turns-alike : (s t : Two State) → Like s t → (bs : List ℕ) → Alike (turns r s bs) (turns q t bs)
    unfolding pass one_taken for_both
    turns-alike s t L [] = record { taken = refl; number = refl; made = L.made }
    turns-alike s t L (b ∷ bs) = go (who b) (λ u v K. turns-alike u v K bs)
      where
        w : ℕ
        w = b % max_workers

        go : ((c : Crew) × (b / max_workers ≡ crew_number c)) ⊎ (2 ≤ b / max_workers) → ((u v : Two State) → Like u v → Alike (turns r u bs) (turns q v bs)) → Alike (turns r s (b ∷ bs)) (turns q t (b ∷ bs))
        go (inr l) ih = rw (pass_end skips_none (turn r) s b bs why.no_crew (turn-none r s b l) refl, pass_end skips_none (turn q) t b bs why.no_crew (turn-none q t b l) refl) (record { taken = refl; number = refl; made = L.made })
        go (inl (c, n)) ih = by (crew_refusal r s c w) refl
          where
            by : (k : ℕ) → crew_refusal r s c w ≡ k → Alike (turns r s (b ∷ bs)) (turns q t (b ∷ bs))
            by zero e =
                let a = step-taken r ok s L.here c w e in
                let d = step-taken q ko t L.there c w (sym (refusal-alike s t L.made c w) ∙ e) in
                let k = ih (put_for s c a.state) (put_for t c d.state) (record { here = a.inv; there = d.inv; made = put_made s t L.made c a.state d.state (a.made ∙ ap (λ (l : List ℕ). onward l w) (L.made c) ∙ sym d.made) }) in
                rw (pass_on skips_none (turn r) s b bs (put_for s c a.state) (turn-for r s b c n ∙ ap (for_both s c) a.is), pass_on skips_none (turn q) t b bs (put_for t c d.state) (turn-for q t b c n ∙ ap (for_both t c) d.is))
                (record { taken = ap suc k.taken; number = k.number; made = k.made })
            by (suc k) e =
                rw (
                  pass_end skips_none (turn r) s b bs (suc k) (turn-for r s b c n ∙ ap (for_both s c) (crew_end r s c w k e)) refl,
                  pass_end skips_none (turn q) t b bs (suc k) (turn-for q t b c n ∙ ap (for_both t c) (crew_end q t c w k (sym (refusal-alike s t L.made c w) ∙ e))) refl,
                )
                (record { taken = refl; number = refl; made = L.made })

    -- the answers
    module _ (s t : Two State) (L : Like s t) where
      pub picked-alike : (bs : List ℕ) → answer_both r s (picks_both bs) ≡ answer_both q t (picks_both bs)
      unfolding answer_both
      picked-alike bs = both-fine r ok s L.here denied_both _ ∙ (let k = turns-alike s t L bs in ap₂ (λ (a b : ℕ). one (picked_of a b)) k.taken k.number) ∙ sym (both-fine q ko t L.there denied_both _)

      pub sets-alike : answer_both r s ready_sets ≡ answer_both q t ready_sets
      unfolding answer_both ready_both
      sets-alike = both-fine r ok s L.here denied_both _ ∙ rw (ready-alike s t L.made crew0, ready-alike s t L.made crew1) refl ∙ sym (both-fine q ko t L.there denied_both _)

      -- the states and the picks taken
      call_alike : (c : BothCall) → Like (after_both r s c) (after_both q t c)
      call_alike c = record { here = call_inv r ok s c L.here; there = call_inv q ko t c L.there; made = counts c }
        where
          counts : (c : BothCall) → SameCounts (after_both r s c) (after_both q t c)
          counts (picks_both bs) = unfold after_both in (rw (both-fine r ok s L.here (λ number place. s) (turns r s bs).state, both-fine q ko t L.there (λ number place. t) (turns q t bs).state) (turns-alike s t L bs).made)
          counts ready_sets = unfold after_both in L.made
          counts (forces_for c room) = unfold after_both in L.made

      taken-alike : (c : BothCall) → picks_taken r s c ≡ picks_taken q t c
      unfolding picks_taken
      taken-alike (picks_both bs) = rw (picked-alike bs) refl
      taken-alike ready_sets = refl
      taken-alike (forces_for c room) = refl

    all_alike : (s t : Two State) → Like s t → (cs : List BothCall) → (Like (state_after (after_both r) s cs) (state_after (after_both q) t cs)) × (all_taken r s cs ≡ all_taken q t cs)
    unfolding state_after all_taken
    all_alike s t L [] = (L, refl)
    all_alike s t L (c ∷ cs) = let k = all_alike (after_both r s c) (after_both q t c) (call_alike s t L c) cs in (k.0, ap₂ ◌++◌ (taken-alike s t L c) k.1)

    fresh-alike : Like (both_fresh m.n) (both_fresh m.n)
    fresh-alike = record { here = fresh-both r; there = fresh-both q; made = λ c. refl }

    pub alike : (cs : List BothCall) → Like (both_state r cs) (both_state q cs)
    unfolding both_state
    alike cs = (all_alike (both_fresh m.n) (both_fresh m.n) fresh-alike cs).0

    pub same_taken : (cs : List BothCall) (c : Crew) → taken_for r cs c ≡ taken_for q cs c
    unfolding taken_for
    same_taken cs c = rw (all_alike (both_fresh m.n) (both_fresh m.n) fresh-alike cs).1 refl
