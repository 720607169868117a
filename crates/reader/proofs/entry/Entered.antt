-- The entry line at a position, as the text's definition has it.
use mathlib.Core.Path.{◌≡◌, refl, ◌∙◌}
use mathlib.Core.Bool.{true, false, ◌&&◌, not, cond}
use mathlib.Core.List.{List, [], ◌∷◌, ◌++◌}
use Prim.Native.Nat.{ℕ, suc, ◌-◌}
use native.Mathlib.Omega.{arith}
use lib.IntN.{ℤ}
use lib.ListN.{drop}
use Rattle.base.specs.Refusals as why
use Rattle.std.proofs.Common.{Some, None, Ok, Err}
use Rattle.base.specs.declared.Kind.TheVariants as kind
use Rattle.scan.specs.declared.lines.Line as code
use Rattle.market.specs.Fields.{fields}
use Rattle.market.specs.Parse.{Triplet, triplet, rejected, is_entry, is_among, on_line, entries}
use Rattle.scan.specs.Code.Positions.{fields_at}
use Rattle.reader.specs.Code.Entries.{EntryAt}
use Rattle.scan.proofs.Left.{left-later}
use Rattle.scan.proofs.lines.Lines.{line_at, line-no}
use Rattle.market.proofs.Inside.{inside}

module _ (s : List ℕ) (p n : ℕ) where
  turn : (m k : ℕ) (es : List Triplet) → entries n (suc m) k es (drop p s) ≡ on_line (fields (drop p s)) (rejected why.bad_form k) (λ r c v a.
      cond (is_entry n r c v && not (is_among es (r - 1) (c - 1)))
      (entries n m (suc k) (es ++ triplet (r - 1) (c - 1) v ∷ []) (drop a (drop p s)))
      (rejected why.bad_entry k))
  unfolding entries
  turn m k es = refl

  pub broken-line : None ≡ fields_at p (fields (drop p s)) → EntryAt s p n (Err kind.BadForm)
  broken-line b m k es = turn m k es ∙ rw (line-no p (fields (drop p s)) b)

  module _ (f : code.Line) (l : Some f ≡ fields_at p (fields (drop p s))) where
    pub bad_line : is_entry n f.row f.column f.value ≡ false → EntryAt s p n (Err kind.BadEntry)
    bad_line not-one m k es = turn m k es ∙ rw ((line_at p f.row f.column f.next f.value (fields (drop p s)) l).0, not-one)

    -- the value is w in 32 bits
    pub good_line : is_entry n f.row f.column f.value ≡ true → {w : ℤ} → w ≡ f.value → EntryAt s p n (Ok (record { row = f.row - 1; column = f.column - 1; value = w; next = f.next }))
    good_line is-one e =
        let a = line_at p f.row f.column f.next f.value (fields (drop p s)) l in
        let i = inside n f.row f.column f.value is-one in
        (omega (arith, i.below), omega (arith, i.first, i.below, i.last), λ m k es. turn m k es ∙ rw (a.0, is-one, left-later s p f.next a.1, e))
