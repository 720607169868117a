-- Lines in any order, with marks: which places are given already.
use mathlib.Core.Path.{◌≡◌, ◌∙◌}
use mathlib.Core.Bool.{false}
use mathlib.Core.List.{List, [], ◌∷◌, ◌++◌}
use Prim.Native.Nat.{ℕ, ◌+◌, ◌<◌}
use native.Mathlib.Omega.{arith}
use lib.ListN.{length, length-append}
use Rattle.std.proofs.Common.{Ok}
use Rattle.reader.specs.declared.size.Size.{Size}
use Rattle.reader.specs.declared.entry.Entry.{Entry}
use Rattle.market.specs.Parse.{Triplet, triplet, Parsed, is_among}
use Rattle.reader.specs.Code.Entries.{EntryAt, Held, remaining}
use Rattle.reader.specs.Code.Marks.{marked, bit_of, Marks}
use Rattle.reader.proofs.marks.Triangle.{marks_more}
use Rattle.reader.proofs.entries.Turns.{taken-line, held_more}

-- the state of the loop: i entries are read and marked, and the lines from p on decide what all of them make
pub record Going (all : Parsed) (s : List ℕ) (z : Size) (es : List Triplet) (ms : List ℕ) (p i : ℕ) : Type 0 where
  pub held : Held z.entries es
  pub size : length es ≡ i
  pub marks : Marks ms es
  pub same : remaining s z es p ≡ all

-- one more line: its bit q is set
pub going_more : {all : Parsed} {s : List ℕ} {z : Size} {es : List Triplet} {ms : List ℕ} {p i : ℕ} → Going all s z es ms p i → i < z.entries
    → (e : Entry) → EntryAt s p z.rows (Ok e) → is_among es e.row e.column ≡ false
    → {q : ℕ} → q ≡ bit_of e.row e.column → q < 8390656 → {ms' : List ℕ} → ms' ≡ marked ms q → Going all s z (es ++ triplet e.row e.column e.value ∷ []) ms' e.next (i + 1)
going_more {s = s} {z} {es} {p = p} g more e l new eq small em =
    let m : length es < z.entries = omega (arith, g.size) in
    record {
      held = held_more s p z es m e l g.held;
      size = rw (length-append es (triplet e.row e.column e.value ∷ []), g.size);
      marks = marks_more g.marks (triplet e.row e.column e.value) l.0 eq small em;
      same = taken-line s p z es m e l new ∙ g.same;
    }
