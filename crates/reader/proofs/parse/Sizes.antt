-- The size line, and what comes before it, on plain values.
use mathlib.Core.Path.{◌≡◌, refl, ap, ◌∙◌}
use mathlib.Core.Bool.{Bool, true, false, ◌&&◌, cond, true≢false}
use mathlib.Core.List.{List, []}
use Prim.Native.Nat.{ℕ, ◌+◌, ◌≤◌, ◌<◌}
use native.Mathlib.Numerals.{add-one}
use native.Mathlib.Omega.{arith}
use lib.Dec.{leb, eqb}
use lib.IntN.{ℤ, pos, negsuc, nat_abs}
use lib.Signed.{lt_z}
use lib.ListN.{length, drop}
use mir.Syntax.{w64}
use mir.Val.{SFits, Fits}
use borrow.Author.Tests.{le-ltb, lt-ltb, ltb-true, leb-true}
use Rattle.base.specs.Lists.{begins}
use Rattle.base.specs.Refusals as why
use Rattle.base.proofs.Booleans.{and_left, and_right}
use Rattle.matrix.specs.Limits.{max_rows, max_entries, max_text}
use Rattle.std.proofs.Common.{Some, None}
use Rattle.scan.specs.declared.lines.Line as code
use Rattle.market.specs.Bytes.{header}
use Rattle.market.specs.Fields.{fields}
use Rattle.market.specs.Parse.{rejected, entries, sized, size_line, Place, place, comments, parse}
use Rattle.scan.specs.Code.Positions.{fields_at}
use Rattle.scan.proofs.Left.{left-later}
use Rattle.scan.proofs.lines.Lines.{line_at, line-no}
use Rattle.base.proofs.Begins.{begins-length}

pub fits-natural : (v : ℤ) → SFits w64 v → Fits w64 (nat_abs v)
fits-natural (pos n) f = record { fits = omega (arith, f.sfits) }
fits-natural (negsuc n) f = record { fits = omega (arith, f.sfits) }

module _ (s : List ℕ) (p k : ℕ) where
  pub size-broken : None ≡ fields_at p (fields (drop p s)) → size_line k (drop p s) ≡ rejected why.bad_form k
  unfolding size_line
  size-broken b = rw (line-no p (fields (drop p s)) b)

  module _ (f : code.Line) (l : Some f ≡ fields_at p (fields (drop p s))) where
    size_is : size_line k (drop p s) ≡ sized k f.row f.column f.value (drop f.next s)
    unfolding size_line
    size_is = let a = line_at p f.row f.column f.next f.value (fields (drop p s)) l in rw (a.0, left-later s p f.next a.1)

    pub size-negative : lt_z f.value (pos 0) ≡ true → size_line k (drop p s) ≡ rejected why.bad_form k
    size-negative h = size_is ∙ go f.value h
      where
        go : (v : ℤ) → lt_z v (pos 0) ≡ true → sized k f.row f.column v (drop f.next s) ≡ rejected why.bad_form k
        go (pos n) h = absurd (omega (arith, ltb-true n 0 h))
        go (negsuc n) h = refl

    -- the size is tested, m being the entry count
    pub size_tested : lt_z f.value (pos 0) ≡ false → {m : ℕ} → m ≡ nat_abs f.value → {t : Bool} → t ≡ eqb f.row f.column && leb 1 f.row && leb f.row max_rows && leb m max_entries
        → size_line k (drop p s) ≡ cond t (entries f.row m (k + 1) [] (drop f.next s)) (rejected why.bad_size k)
    size_tested h em e = size_is ∙ rw (e, em) (go f.value h)
      where
        go : (v : ℤ) → lt_z v (pos 0) ≡ false
            → sized k f.row f.column v (drop f.next s) ≡ cond (eqb f.row f.column && leb 1 f.row && leb f.row max_rows && leb (nat_abs v) max_entries) (entries f.row (nat_abs v) (k + 1) [] (drop f.next s)) (rejected why.bad_size k)
        go (pos n) h = rw (add-one k)
        go (negsuc n) h = absurd (true≢false h)

-- what the test of the size says
pub size_limits : (r c m : ℕ) → eqb r c && leb 1 r && leb r max_rows && leb m max_entries ≡ true → (r ≤ max_rows) × (m ≤ max_entries)
size_limits r c m h =
    let q = and_left (eqb r c && leb 1 r && leb r max_rows) (leb m max_entries) h in
    (leb-true r max_rows (and_right (eqb r c && leb 1 r) (leb r max_rows) q), leb-true m max_entries (and_right (eqb r c && leb 1 r && leb r max_rows) (leb m max_entries) h))

module _ (s : List ℕ) where
  pub too_long : max_text < length s → parse s ≡ rejected why.bad_form 0
  unfolding parse
  too_long h = rw (lt-ltb max_text (length s) h)

  pub header-there : begins s header ≡ true → 51 ≤ length s
  unfolding header
  header-there b = begins-length s header b

  module _ (short : length s ≤ max_text) where
    pub no_header : begins s header ≡ false → parse s ≡ rejected why.bad_header 1
    unfolding parse
    no_header b = rw (le-ltb max_text (length s) short, b)

    pub then_size : begins s header ≡ true → (k p : ℕ) → comments false 2 (drop 51 s) ≡ place k (drop p s) → parse s ≡ size_line k (drop p s)
    unfolding parse header
    then_size b k p e = rw (le-ltb max_text (length s) short, b) (ap (λ (a : Place). size_line a.number a.text) e)
