-- What a call on an accepted job comes to.
use Rattle.std.specs.Prelude.{◌≡◌, Bool, true, false, List, ℕ, ℤ}
use Rattle.run.specs.Answers.{Call, picks, ready_set, rounds, Answer, shown}
use Rattle.run.specs.Calls as calls
use Rattle.run.specs.Calls.{forces_lent}
use Rattle.run.specs.Job.{Job}
use Rattle.run.specs.State.{State}
use Rattle.calls.specs.declared.Call as code
use Rattle.calls.specs.declared.Call.TheVariants.{Picks, ReadySet, ForceList, Preview, Rounds}
use Rattle.machine.specs.declared.state.Rule.{Rule}
use Rattle.machine.specs.declared.state.Rule.TheVariants.{Stop, Skip}

-- call c in state s, with old in the lent list of forces: its answer, the state after it, and the list after it
pub record Made (j : Job) (s : State) (c : Call) (old : List ℤ) (answer : Answer) (after : State) (new : List ℤ) : Type 0 where
  pub answers : answer ≡ calls.answer j s c
  pub leaves : after ≡ calls.after j s c
  pub forces : new ≡ forces_lent answer old

-- whether a call takes the picks that it names
unfoldable pub is_taken : code.Call → Bool
is_taken Picks = true
is_taken ReadySet = false
is_taken ForceList = false
is_taken Preview = false
is_taken Rounds = true

-- the rule under which they are gone through
unfoldable pub rule_of : code.Call → Rule
rule_of Picks = Stop
rule_of ReadySet = Stop
rule_of ForceList = Stop
rule_of Preview = Stop
rule_of Rounds = Skip

-- .. the call that takes them so
unfoldable pub taking : code.Call → (schedule : List ℕ) → Call
taking Picks ws = picks ws
taking ReadySet ws = picks ws
taking ForceList ws = picks ws
taking Preview ws = picks ws
taking Rounds ws = rounds ws

-- what is told of them, with the answer of a ready-set call after them: a preview tells both
unfoldable pub told_by : code.Call → (ended there : Answer) → Answer
told_by Picks ended there = ended
told_by ReadySet ended there = ended
told_by ForceList ended there = ended
told_by Preview ended there = shown ended there
told_by Rounds ended there = ended

-- picks that are taken in state s: what is told of them, and the state after them
pub record Taken (j : Job) (s : State) (call : code.Call) (ws : List ℕ) (answer : Answer) (after : State) : Type 0 where
  pub answers : answer ≡ told_by call (calls.answer j s (taking call ws)) (calls.answer j (calls.after j s (taking call ws)) ready_set)
  pub leaves : after ≡ calls.after j s (taking call ws)
