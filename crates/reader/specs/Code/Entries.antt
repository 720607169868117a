-- What the code that reads entry lines answers, and how far it has come.
use Rattle.std.specs.Prelude.{Result, Ok, Err, ◌≡◌, true, not, ◌&&◌, cond, Bool, List, ◌∷◌, ◌++◌, [], ℕ, suc, ◌+◌, ◌-◌, ◌≤◌, ◌<◌, leb, ltb, length, drop}
use Rattle.base.specs.Lists.{all}
use Rattle.base.specs.Refusals as why
use Rattle.matrix.specs.Limits.{max_rows}
use Rattle.base.specs.Verdicts.{number_of}
use Rattle.base.specs.declared.Kind.{Kind}
use Rattle.base.specs.declared.Refusal.{Refusal}
use Rattle.reader.specs.declared.size.Size.{Size}
use Rattle.reader.specs.declared.entry.Entry.{Entry}
use Rattle.market.specs.Parse.{Triplet, triplet, Parsed, rejected, is_among, entries}
use Rattle.reader.specs.Code.Scanned.{parsed}

-- the entry line at p, by what is made of the text from it on: its place is taken if it is new; or the line is refused
abbrev pub EntryAt : List ℕ → (p n : ℕ) → Result Entry Kind → Type 0
EntryAt s p n (Ok e) = (e.column ≤ e.row) × (e.row < n) × ((m k : ℕ) (es : List Triplet) → entries n (suc m) k es (drop p s) ≡ cond (not (is_among es e.row e.column)) (entries n m (suc k) (es ++ triplet e.row e.column e.value ∷ []) (drop e.next s)) (rejected why.bad_entry k))
EntryAt s p n (Err q) = (m k : ℕ) (es : List Triplet) → entries n (suc m) k es (drop p s) ≡ rejected (number_of q) k

-- an entry's place lies on or below the diagonal
abbrev pub is_lower : Triplet → Bool
is_lower t = leb t.column t.row && ltb t.row max_rows

-- some of m entries
pub record Held (m : ℕ) (es : List Triplet) : Type 0 where
  pub count : length es ≤ m
  pub lower : all is_lower es ≡ true

-- what the text from p on makes of them
abbrev pub remaining : List ℕ → Size → List Triplet → ℕ → Parsed
remaining s z es p = entries z.rows (z.entries - length es) (z.line + length es) es (drop p s)

-- the answer for all entries and the text from p on, which is to be empty
abbrev pub Ended : List ℕ → ℕ → Size → Result ℕ Refusal → Type 0
Ended s p z r = (es : List Triplet) → length es ≡ z.entries → remaining s z es p ≡ parsed r es
