-- The bytes after writes are those of the model's unit.
use mathlib.Core.Path.{◌≡◌, refl, sym, ap, ◌∙◌}
use mathlib.Core.Bool.{Bool, true, false}
use mathlib.Core.List.{List, [], ◌∷◌, ◌++◌}
use Prim.Native.Nat.{ℕ, ◌%◌, ◌^◌, ◌≤◌}
use native.Mathlib.Omega.{arith}
use lib.Dec.{leb}
use lib.ListN.{length, drop, length-append}
use lib.Seq.{drop-append_seam}
use borrow.Author.Tests.{leb-true, leb-false}
use Rattle.base.specs.Lists.{bit}
use Rattle.base.specs.Replies.{accepted, lent}
use Rattle.words.specs.LittleEndian.{bytes_of}
use Rattle.words.proofs.Digits.{length-bytes_of}
use Rattle.barrier.specs.declared.Barrier.{Barrier}
use Rattle.barrier.specs.Registers.{after_write, register, last_address, is_up}
use Rattle.barrier.specs.Gatherings.{Write, gatherings}
use Rattle.barrier.specs.BarrierUnit.{unit_after, history}
use Rattle.barrier.proofs.BarrierUnit.{tells, refused-same, barrier_unit}
use Rattle.board.specs.Unit.{unit_size, unit_in, unit_bytes, write_unit_reply, read_unit_reply, line_reply, releases_reply}
use Rattle.board.specs.KeptUnit.{unit_left, unit_bytes_after, KeptUnit}
use Rattle.board.proofs.Stored.{unit-back}
use Rattle.board.proofs.Judged.{no_register_lem, in_reach, enough}

length-unit : (u : Barrier) → length (unit_bytes u) ≡ unit_size
unfolding unit_bytes
length-unit u = omega (arith, length-bytes_of 4 u.releases)

back : (ws : List Write) (rest : List ℕ) → unit_in (unit_bytes (unit_after ws) ++ rest) ≡ unit_after ws
back ws rest = unit-back (unit_after ws) rest (tells ws).sets.few (tells ws).sets.come (omega (arith, (tells ws).sets.count))

module _ (rest : List ℕ) where
  long : (u : Barrier) → unit_size ≤ length (unit_bytes u ++ rest)
  long u = omega (arith, length-unit u, length-append (unit_bytes u) rest)

  -- one write
  next : (ws : List Write) (w : Write) → unit_left (unit_bytes (unit_after ws) ++ rest) w ≡ unit_bytes (after_write (unit_after ws) w.address w.byte) ++ rest
  unfolding write_unit_reply lent
  next ws w = go (leb w.address last_address) refl
    where
      new : List ℕ
      new = unit_bytes (after_write (unit_after ws) w.address w.byte)

      go : (b : Bool) → leb w.address last_address ≡ b → unit_left (unit_bytes (unit_after ws) ++ rest) w ≡ unit_bytes (after_write (unit_after ws) w.address w.byte) ++ rest
      go true e =
          rw (in_reach (unit_bytes (unit_after ws) ++ rest) w.address (accepted 0) (leb-true w.address last_address e) (long (unit_after ws)), back ws rest)
          (ap (λ (l : List ℕ). new ++ l) (ap (λ (k : ℕ). drop k (unit_bytes (unit_after ws) ++ rest)) (length-unit (after_write (unit_after ws) w.address w.byte) ∙ sym (length-unit (unit_after ws))) ∙ drop-append_seam (unit_bytes (unit_after ws)) rest))
      go false e =
          let l = leb-false w.address last_address e in
          rw (no_register_lem (unit_bytes (unit_after ws) ++ rest) w.address (accepted 0) l, refused-same (unit_after ws) w.address w.byte l)

  left : (ws : List Write) → unit_bytes_after rest ws ≡ unit_bytes (unit_after ws) ++ rest
  unfolding unit_bytes_after unit_after unit_bytes register bytes_of
  left [] = refl
  left (w ∷ ws) = rw (left ws) (next ws w)

  module _ (ws : List Write) where
    stands : unit_in (unit_bytes_after rest ws) ≡ unit_after ws
    stands = rw (left ws) (back ws rest)

    sized : unit_size ≤ length (unit_bytes_after rest ws)
    sized = rw (left ws) (long (unit_after ws))

    reads : (address : ℕ) → address ≤ last_address → read_unit_reply (unit_bytes_after rest ws) address ≡ accepted (register (unit_after ws) address)
    unfolding read_unit_reply
    reads address l = in_reach (unit_bytes_after rest ws) address _ l sized ∙ rw stands

    line : line_reply (unit_bytes_after rest ws) ≡ accepted (bit (is_up (unit_after ws)))
    unfolding line_reply
    line = enough (unit_bytes_after rest ws) _ sized ∙ rw stands

    counts : releases_reply (unit_bytes_after rest ws) ≡ accepted (gatherings (history ws) % 2 ^ 32)
    unfolding releases_reply
    counts = enough (unit_bytes_after rest ws) _ sized ∙ rw (stands, barrier_unit.counts ws)

pub kept-unit : KeptUnit
kept-unit = record { left = left; read_back = stands; reads = reads; line = line; counts = counts }
