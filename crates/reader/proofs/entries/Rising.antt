-- Lines whose places rise: none of them is given twice.
use mathlib.Core.Path.{◌≡◌, refl, sym, ◌∙◌}
use mathlib.Core.Logic.{⊎_elim}
use mathlib.Core.Bool.{true, false}
use mathlib.Core.List.{List, [], ◌∷◌, ◌++◌}
use Prim.Native.Nat.{ℕ, ◌+◌, ◌*◌, ◌≤◌, ◌<◌}
use native.Mathlib.Omega.{arith}
use lib.Dec.{eqb}
use lib.IntN.{ℤ}
use lib.ListN.{length, length-append}
use borrow.Author.Tests.{eqb-true}
use Rattle.base.proofs.Booleans.{and_left, and_right, or_cases, clash, is_false}
use Rattle.std.proofs.Common.{Ok}
use Rattle.reader.specs.declared.size.Size.{Size}
use Rattle.reader.specs.declared.entry.Entry.{Entry}
use Rattle.market.specs.Parse.{Triplet, triplet, is_at, is_among}
use Rattle.reader.specs.Code.Entries.{EntryAt, Held, remaining}
use Rattle.reader.proofs.marks.Triangle.{among_snoc}
use Rattle.reader.proofs.entries.Turns.{taken-line, held_more}

-- the places come before a key
abbrev pub Rising : List Triplet → ℕ → Type 0
Rising es low = (r c : ℕ) → is_among es r c ≡ true → c * 4096 + r < low

-- a place that does not come before it is new
rising_new : (es : List Triplet) {low : ℕ} (r c : ℕ) → Rising es low → low ≤ c * 4096 + r → is_among es r c ≡ false
rising_new es r c g h = is_false (λ e. omega (arith, g r c e))

-- one more line
rising_more : (es : List Triplet) {low : ℕ} (r c : ℕ) (v : ℤ) → Rising es low → low ≤ c * 4096 + r → Rising (es ++ triplet r c v ∷ []) (c * 4096 + r + 1)
rising_more es r c v g h i j e =
    ⊎_elim
    (λ f. omega (arith, eqb-true r i (and_left (eqb r i) (eqb c j) f), eqb-true c j (and_right (eqb r i) (eqb c j) f)))
    (λ f. omega (arith, g i j f))
    (or_cases (is_at i j (triplet r c v)) (is_among es i j) (sym (among_snoc es (triplet r c v) i j) ∙ e))

-- the state of the loop over such lines: i entries are read, and the lines from p on decide
pub record Sorted (s : List ℕ) (at : ℕ) (z : Size) (es : List Triplet) (low p i : ℕ) : Type 0 where
  pub held : Held z.entries es
  pub size : length es ≡ i
  pub rising : Rising es low
  pub same : remaining s z es p ≡ remaining s z [] at

pub sorted_start : (s : List ℕ) (at : ℕ) (z : Size) → Sorted s at z [] 0 at 0
sorted_start s at z = record { held = record { count = omega arith; lower = refl }; size = refl; rising = λ r c h. absurd (clash h refl); same = refl }

-- one more line
pub sorted_more : {s : List ℕ} {at : ℕ} {z : Size} {es : List Triplet} {low p i : ℕ} → Sorted s at z es low p i → i < z.entries
    → (e : Entry) → EntryAt s p z.rows (Ok e) → low ≤ e.column * 4096 + e.row → Sorted s at z (es ++ triplet e.row e.column e.value ∷ []) (e.column * 4096 + e.row + 1) e.next (i + 1)
sorted_more {s} {z = z} {es} {p = p} g more e l h =
    let m : length es < z.entries = omega (arith, g.size) in
    record {
      held = held_more s p z es m e l g.held;
      size = rw (length-append es (triplet e.row e.column e.value ∷ []), g.size);
      rising = rising_more es e.row e.column e.value g.rising h;
      same = taken-line s p z es m e l (rising_new es e.row e.column g.rising h) ∙ g.same;
    }
