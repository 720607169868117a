-- The lists of both crews, and what a pick makes of them.
use Rattle.std.specs.Prelude.{◌≡◌, ◌≢◌, Bool, false, List, [], ℕ, ◌/◌, ◌%◌, ℤ, get_or, set}
use Rattle.matrix.specs.Limits.{max_rows}
use Rattle.plan.specs.Sound.{max_workers}
use Rattle.run.specs.Updates.{Update}
use Rattle.run.specs.State.{State}
use Rattle.run.specs.Machine.{onward}
use Rattle.waits.specs.Code.Waits.{Current}
use Rattle.steps.specs.declared.course.Work.{Work}
use Rattle.steps.specs.Code.AtHand.{Entered, AccessMade}
use Rattle.crews.specs.Crews.{Crew, other, crew_number, Two, own_of}
use Rattle.turns.specs.Code.Turned.{misnamed}

-- crew 0's list, then crew 1's
abbrev pub both : {A : Type 0} → List (List A) → Two (List A)
both xs = record { of0 = get_or xs 0 []; of1 = get_or xs 1 [] }

-- what crew c's steps are taken by
abbrev pub work_for : (work0 work1 : Work) → Crew → Work
work_for work0 work1 = own_of (record { of0 = work0; of1 = work1 })

-- .. with the displacements of each
abbrev pub both_moves : (work0 work1 : Work) → Two (List ℤ)
both_moves work0 work1 = record { of0 = work0.displaced.now; of1 = work1.displaced.now }

-- The pick with this byte is refused with this number, or its update is at hand: nothing else of the worker's is.
pub record Begun (cause : Crew → (made : List ℕ) → ℕ → ℕ) (update : Crew → (made : List ℕ) → ℕ → Update) (made : Two (List ℕ)) (byte workers number : ℕ)
    (targets : Two (List ℕ)) (adds : Two (List ℤ)) (targets' : Two (List ℕ)) (adds' : Two (List ℤ)) : Type 0 where
  pub halted : misnamed byte workers ≢ 0 → number ≡ misnamed byte workers
  pub entered : misnamed byte workers ≡ 0 → (c : Crew) → byte / max_workers ≡ crew_number c → Entered (cause c) (update c) (own_of made c) (byte % max_workers) number (own_of targets' c) (own_of adds' c)
  pub gone : misnamed byte workers ≡ 0 → (c : Crew) → byte / max_workers ≡ crew_number c → own_of targets' (other c) ≡ set (own_of targets (other c)) (byte % max_workers) max_rows
  pub adds_kept : misnamed byte workers ≡ 0 → (c : Crew) → byte / max_workers ≡ crew_number c → own_of adds' (other c) ≡ own_of adds (other c)

-- the access of the pick with this byte, of its crew alone
pub record AccessFor (byte : ℕ) (S : Two State) (targets : Two (List ℕ)) (adds : Two (List ℤ)) (number : ℕ) (S' : Two State) (targets' : Two (List ℕ)) : Type 0 where
  pub made : (c : Crew) → byte / max_workers ≡ crew_number c → AccessMade (own_of S c) (byte % max_workers) (own_of targets c) (own_of adds c) number (own_of S' c) (own_of targets' c)
  pub state_kept : (c : Crew) → byte / max_workers ≡ crew_number c → own_of S' (other c) ≡ own_of S (other c)
  pub targets_kept : (c : Crew) → byte / max_workers ≡ crew_number c → own_of targets' (other c) ≡ own_of targets (other c)

-- who is blocked is known after that access, of its crew alone; false: the groups that were
pub record RenewedFor (count : ℕ) (groups ends : List ℕ) (made : Two (List ℕ)) (byte : ℕ) (renewed : Bool) (blocks : Two (List Bool)) (stops : Two (List ℕ)) (blocks' : Two (List Bool)) (stops' : Two (List ℕ)) : Type 0 where
  pub current : (c : Crew) → byte / max_workers ≡ crew_number c → (before : List ℕ) → own_of made c ≡ onward before (byte % max_workers)
      → Current count groups ends before (own_of blocks c) (own_of stops c) → Current count groups ends (own_of made c) (own_of blocks' c) (own_of stops' c)
  pub same : (c : Crew) → byte / max_workers ≡ crew_number c → renewed ≡ false → own_of blocks' c ≡ own_of blocks c
  pub blocks_kept : (c : Crew) → byte / max_workers ≡ crew_number c → own_of blocks' (other c) ≡ own_of blocks (other c)
  pub stops_kept : (c : Crew) → byte / max_workers ≡ crew_number c → own_of stops' (other c) ≡ own_of stops (other c)
