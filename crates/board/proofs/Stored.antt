-- A unit's bytes: stored one by one, and read back.
use mathlib.Core.Path.{◌≡◌, refl, ap}
use mathlib.Core.Bool.{Bool, true, false}
use mathlib.Core.List.{List, [], ◌∷◌, ◌++◌}
use Prim.Native.Nat.{ℕ, ◌+◌, ◌*◌, ◌/◌, ◌%◌, ◌^◌, ◌≤◌, ◌<◌}
use native.Mathlib.Omega.{arith}
use lib.ListN.{length, set, drop}
use lib.Seq.{sets}
use Rattle.base.specs.Lists.{bit}
use Rattle.words.specs.LittleEndian.{number, bytes_of, stored}
use Rattle.words.proofs.Digits.{number-bytes_of}
use Rattle.barrier.specs.declared.Barrier.{Barrier}
use Rattle.barrier.specs.Bits.{has_bit}
use Rattle.barrier.specs.Registers.{register}
use Rattle.board.specs.Unit.{unit_size, unit_in, unit_bytes}

module _ (a0 a1 a2 a3 a4 a5 b0 b1 b2 b3 : ℕ) where
  -- six stores, and a run of four
  ten_stores : (xs : List ℕ) → 10 ≤ length xs → sets (set (set (set (set (set (set xs 0 a0) 1 a1) 2 a2) 3 a3) 4 a4) 5 a5) 6 (b0 ∷ b1 ∷ b2 ∷ b3 ∷ []) ≡ a0 ∷ a1 ∷ a2 ∷ a3 ∷ a4 ∷ a5 ∷ b0 ∷ b1 ∷ b2 ∷ b3 ∷ drop 10 xs
  ten_stores [] h = absurd (omega arith)
  ten_stores (x0 ∷ []) h = absurd (omega arith)
  ten_stores (x0 ∷ x1 ∷ []) h = absurd (omega arith)
  ten_stores (x0 ∷ x1 ∷ x2 ∷ []) h = absurd (omega arith)
  ten_stores (x0 ∷ x1 ∷ x2 ∷ x3 ∷ []) h = absurd (omega arith)
  ten_stores (x0 ∷ x1 ∷ x2 ∷ x3 ∷ x4 ∷ []) h = absurd (omega arith)
  ten_stores (x0 ∷ x1 ∷ x2 ∷ x3 ∷ x4 ∷ x5 ∷ []) h = absurd (omega arith)
  ten_stores (x0 ∷ x1 ∷ x2 ∷ x3 ∷ x4 ∷ x5 ∷ x6 ∷ []) h = absurd (omega arith)
  ten_stores (x0 ∷ x1 ∷ x2 ∷ x3 ∷ x4 ∷ x5 ∷ x6 ∷ x7 ∷ []) h = absurd (omega arith)
  ten_stores (x0 ∷ x1 ∷ x2 ∷ x3 ∷ x4 ∷ x5 ∷ x6 ∷ x7 ∷ x8 ∷ []) h = absurd (omega arith)
  ten_stores (x0 ∷ x1 ∷ x2 ∷ x3 ∷ x4 ∷ x5 ∷ x6 ∷ x7 ∷ x8 ∷ x9 ∷ xs) h = refl

pub unit-stored : (u : Barrier) (bytes : List ℕ) → unit_size ≤ length bytes
    → sets (set (set (set (set (set (set bytes 0 (u.members % 256)) 1 (u.members / 256)) 2 (u.arrived % 256)) 3 (u.arrived / 256)) 4 (bit u.status)) 5 (bit u.enable)) 6 (bytes_of 4 u.releases) ≡ stored (unit_bytes u) bytes
unfolding unit_bytes register bytes_of
unit-stored u bytes h =
    ten_stores (u.members % 256) (u.members / 256) (u.arrived % 256) (u.arrived / 256) (bit u.status) (bit u.enable) (u.releases % 256) (u.releases / 256 % 256) (u.releases / 256 / 256 % 256) (u.releases / 256 / 256 / 256 % 256) bytes h

flag_back : (b : Bool) → has_bit (bit b) 0 ≡ b
unfolding has_bit
flag_back true = refl
flag_back false = refl

-- a unit is read back from its bytes, whatever stands past them
pub unit-back : (u : Barrier) (rest : List ℕ) → u.members < 2 ^ 16 → u.arrived < 2 ^ 16 → u.releases < 2 ^ 32 → unit_in (unit_bytes u ++ rest) ≡ u
unfolding unit_in unit_bytes register bytes_of number
unit-back u rest m a r =
    let members : u.members / 256 * 256 + u.members % 256 ≡ u.members = omega arith in
    let arrived : u.arrived / 256 * 256 + u.arrived % 256 ≡ u.arrived = omega arith in
    rw (members, arrived, flag_back u.status, flag_back u.enable) (ap (λ (k : ℕ). record { members = u.members; arrived = u.arrived; status = u.status; enable = u.enable; releases = k }) (number-bytes_of 4 u.releases r))
