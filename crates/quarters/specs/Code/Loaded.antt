-- States decoded from bytes, and the movements of both crews.
use Rattle.std.specs.Prelude.{◌≡◌, cond, Result, Ok, List, [], ℕ, ◌≤◌, eqb, ℤ, length}
use Rattle.base.specs.declared.Refusal.{Refusal}
use Rattle.words.specs.LittleEndian.{signed}
use Rattle.answers.specs.Runs.{state_bytes, Bytes}
use Rattle.answers.specs.Code.Ran.{StateIs}
use Rattle.crews.specs.Crews.{Two}
use Rattle.turns.specs.declared.Crews.{Crews}
use Rattle.shared.specs.declared.Sets.{Sets}
use Rattle.quarters.specs.declared.bytes.RoofBytes.{RoofBytes}

-- the record that the bytes of both stand for, where they are of a state's length
pub record CrewsAre (r : Crews) (bytes0 bytes1 : List ℕ) : Type 0 where
  pub is0 : length bytes0 ≡ state_bytes → StateIs r.of0 bytes0
  pub is1 : length bytes1 ≡ state_bytes → StateIs r.of1 bytes1

-- .. and the bytes of the sums beside them: none, where the bytes are no state
pub record CrewsLent (r : Crews) (bytes0 bytes1 : List ℕ) (b : Two Bytes) : Type 0 where
  pub crews : CrewsAre r b.of0.state b.of1.state
  pub sums0 : bytes0 ≡ cond (eqb (length b.of0.state) state_bytes) b.of0.sums []
  pub sums1 : bytes1 ≡ cond (eqb (length b.of1.state) state_bytes) b.of1.sums []

-- each crew's movements
abbrev pub movements_of : RoofBytes → Two (List ℤ)
movements_of roof = record { of0 = signed 4 roof.movements0.now; of1 = signed 4 roof.movements1.now }

-- no count is above eight bits
abbrev pub FewReady : Result Sets Refusal → Type 0
FewReady r = (t : Sets) → r ≡ Ok t → (t.count0 ≤ 255) × (t.count1 ≤ 255)
