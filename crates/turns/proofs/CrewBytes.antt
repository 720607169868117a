-- The crew that a pick's byte names.
use mathlib.Core.Path.{◌≡◌, refl}
use mathlib.Core.Logic.{◌⊎◌, inl, inr}
use Prim.Native.Nat.{ℕ, ◌*◌, ◌/◌, ◌≤◌, ◌<◌}
use native.Mathlib.Omega.{arith}
use Rattle.plan.specs.Sound.{max_workers}
use Rattle.crews.proofs.Turns.{who}
use Rattle.crews.specs.Crews.{Crew, crew0, crew1, crew_number}

pub crew-of : (byte : ℕ) → byte < 2 * max_workers → (c : Crew) × (byte / max_workers ≡ crew_number c)
crew-of byte l = by (who byte)
  where
    by : ((c : Crew) × (byte / max_workers ≡ crew_number c)) ⊎ (2 ≤ byte / max_workers) → (c : Crew) × (byte / max_workers ≡ crew_number c)
    by (inl x) = x
    by (inr m) = absurd (omega arith)

-- a byte below 16 is for crew 0, one from there on for crew 1
pub of-low : {byte : ℕ} → byte < max_workers → (c : Crew) → byte / max_workers ≡ crew_number c → c ≡ crew0
of-low l crew0 n = refl
of-low l crew1 n = absurd (omega arith)

pub of_high : {byte : ℕ} → max_workers ≤ byte → (c : Crew) → byte / max_workers ≡ crew_number c → c ≡ crew1
of_high l crew0 n = absurd (omega arith)
of_high l crew1 n = refl
