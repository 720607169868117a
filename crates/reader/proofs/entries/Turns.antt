-- One turn of a loop over entry lines, on plain values.
use mathlib.Core.Path.{◌≡◌, sym, ◌∙◌}
use mathlib.Core.Bool.{true, false}
use mathlib.Core.List.{List, ◌∷◌, ◌++◌, []}
use Prim.Native.Nat.{ℕ, suc, ◌+◌, ◌-◌, ◌≤◌, ◌<◌}
use native.Mathlib.Omega.{arith}
use lib.ListN.{length, drop, drop_of_length-le, length-append}
use borrow.Author.Tests.{le-leb, lt-ltb}
use Rattle.base.specs.Refusals as why
use Rattle.base.proofs.Lists.{all_append}
use Rattle.std.proofs.Common.{Ok, Err}
use Rattle.base.specs.Verdicts.{number_of}
use Rattle.base.specs.declared.Kind.{Kind}
use Rattle.reader.specs.declared.size.Size.{Size}
use Rattle.reader.specs.declared.entry.Entry.{Entry}
use Rattle.market.specs.Parse.{Triplet, triplet, matrix_text, rejected, is_among, entries}
use Rattle.reader.specs.Code.Entries.{EntryAt, is_lower, Held, remaining}
use Rattle.scan.proofs.Left.{left-cons}

-- before the first line
pub none_read : (s : List ℕ) (n m k p : ℕ) → entries n m k [] (drop p s) ≡ entries n (m - 0) (k + 0) [] (drop p s)
none_read s n m k p = let a : m - 0 ≡ m = omega arith in let b : k + 0 ≡ k = omega arith in rw (a, b)

-- nothing may follow the last line
module _ (s : List ℕ) (p : ℕ) (z : Size) (es : List Triplet) (all-there : length es ≡ z.entries) where
  none-left : z.entries - length es ≡ 0
  none-left = omega arith

  pub too_many : p < length s → remaining s z es p ≡ rejected why.bad_form (z.line + z.entries)
  unfolding entries
  too_many h = rw (none-left, all-there, left-cons s p h)

  pub no_more : length s ≤ p → remaining s z es p ≡ matrix_text z.rows es
  unfolding entries
  no_more h = rw (none-left, drop_of_length-le s h)

module _ (s : List ℕ) (p : ℕ) (z : Size) (es : List Triplet) (more : length es < z.entries) where
  turn : z.entries - length es ≡ suc (z.entries - (length es + 1))
  turn = omega arith

  pub refused-line : (q : Kind) → EntryAt s p z.rows (Err q) → remaining s z es p ≡ rejected (number_of q) (z.line + length es)
  refused-line q l = rw turn (l (z.entries - (length es + 1)) (z.line + length es) es)

  -- a line with a place and a value
  module _ (e : Entry) (l : EntryAt s p z.rows (Ok e)) where
    pub again_line : is_among es e.row e.column ≡ true → remaining s z es p ≡ rejected why.bad_entry (z.line + length es)
    again_line t = rw turn (l.2 (z.entries - (length es + 1)) (z.line + length es) es ∙ rw t)

    longer : length (es ++ triplet e.row e.column e.value ∷ []) ≡ length es + 1
    longer = length-append es (triplet e.row e.column e.value ∷ [])

    pub taken-line : is_among es e.row e.column ≡ false → remaining s z (es ++ triplet e.row e.column e.value ∷ []) e.next ≡ remaining s z es p
    taken-line t =
        let f : z.line + (length es + 1) ≡ suc (z.line + length es) = omega arith in
        rw (longer, f, turn) (sym (l.2 (z.entries - (length es + 1)) (z.line + length es) es ∙ rw t))

    pub held_more : Held z.entries es → Held z.entries (es ++ triplet e.row e.column e.value ∷ [])
    held_more g = record {
      count = rw longer (omega arith);
      lower = all_append is_lower es (triplet e.row e.column e.value ∷ []) ∙ rw (g.lower, le-leb e.column e.row l.0, lt-ltb e.row 4096 (omega (arith, l.1, z.within.rows)));
    }
