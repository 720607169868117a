-- How many entries and bytes, one part after the other.
use mathlib.Core.Path.{◌≡◌, refl, sym, ap, ◌∙◌}
use mathlib.Core.List.{List, [], ◌++◌}
use Prim.Native.Nat.{ℕ, ◌+◌, ◌*◌, ◌≤◌, ◌<◌}
use native.Mathlib.Omega.{arith}
use lib.IntN.{ℤ}
use lib.ListN.{length, length-append}
use Rattle.market.specs.Parse.{Triplet}
use Rattle.market.specs.Text.{line_of}
use Rattle.writer.specs.Code.Puts.{if_lower, lines_of, Tallied}
use Rattle.writer.proofs.rows.Entries.{lines-append, lines-few, before_diagonal, from-diagonal, line-from_diagonal}

pub tallied_none : (j c : ℕ) (v : ℤ) → c < j → Tallied (if_lower j c v) 0 0
tallied_none j c v h = rw (before_diagonal j c v h) record { entries_are = refl; bytes_are = refl }

pub tallied_one : (j c : ℕ) (v : ℤ) → j ≤ c → {b : ℕ} → b ≡ length (line_of (c + 1) (j + 1) v) → Tallied (if_lower j c v) 1 b
tallied_one j c v h e = record { entries_are = rw (from-diagonal j c v h); bytes_are = e ∙ ap length (sym (line-from_diagonal j c v h)) }

-- of the entries whole, those before left are counted
pub record Tallying (whole left : List Triplet) (entries bytes : ℕ) : Type 0 where
  pub entries_are : entries + length left ≡ length whole
  pub bytes_are : bytes + length (lines_of left) ≡ length (lines_of whole)

pub tallying_start : (whole : List Triplet) → Tallying whole whole 0 0
tallying_start whole = record { entries_are = omega arith; bytes_are = omega arith }

module _ {whole left : List Triplet} {entries bytes : ℕ} (g : Tallying whole left entries bytes) where
  -- xs are next
  pub tallying_more : {xs left' : List Triplet} → left ≡ xs ++ left' → {e b : ℕ} → Tallied xs e b → Tallying whole left' (entries + e) (bytes + b)
  tallying_more {xs} {left'} s t = record {
    entries_are = omega (arith, g.entries_are, t.entries_are, ap length s, length-append xs left');
    bytes_are = omega (arith, g.bytes_are, t.bytes_are, ap (λ (l : List Triplet). length (lines_of l)) s, ap length (lines-append xs left'), length-append (lines_of xs) (lines_of left'));
  }

  -- the numbers stay small
  pub tallying_small : (entries ≤ length whole) × (bytes ≤ 34 * length whole)
  tallying_small = (omega (arith, g.entries_are), omega (arith, g.bytes_are, lines-few whole))

  -- nothing is left
  pub tallying_end : left ≡ [] → Tallied whole entries bytes
  tallying_end e = record {
    entries_are = omega (arith, g.entries_are, ap length e);
    bytes_are = omega (arith, g.bytes_are, ap (λ (l : List Triplet). length (lines_of l)) e);
  }
