-- A text that is written from entries is parsed to them: it has no lines that begin with `%` and single spaces.
use mathlib.Core.Path.{◌≡◌, refl, sym, ap, ◌∙◌}
use mathlib.Core.List.{List, [], ◌∷◌, ◌++◌, append_assoc, map}
use Prim.Native.Nat.{ℕ, suc, ◌*◌, ◌≤◌}
use native.Mathlib.Omega.{arith}
use lib.IntN.{ℤ, pos, negsuc, nat_abs}
use lib.ListN.{length, length-append, length-map}
use Rattle.base.specs.Lists.{concat}
use Rattle.market.specs.Bytes.{header}
use Rattle.market.specs.Parse.{Triplet, matrix_text, parse}
use Rattle.market.specs.Text.{integer, line_of, entry_line, text_of}
use Rattle.market.specs.Texts.{Gaps, spaced_line, Spaced, spaced_entry, Lines, entries_of, text_of_lines}
use Rattle.market.proofs.Decimal.{decimal-length}
use Rattle.market.proofs.Inside.{inside}
use Rattle.market.proofs.Spaced.{Good, lines-parsed}

-- ---- how long it is

integer-length : (v : ℤ) → nat_abs v ≤ 1000000000 → length (integer v) ≤ 11
integer-length (pos n) h = omega (arith, decimal-length 10 10 n (omega arith) (omega arith))
integer-length (negsuc n) h = omega (arith, decimal-length 10 10 (suc n) (omega arith) (omega arith))

line-length : (r c : ℕ) (v : ℤ) → r ≤ 4096 → c ≤ 4096 → nat_abs v ≤ 1000000000 → length (line_of r c v) ≤ 22
line-length r c v hr hc hv =
    simp length-append
    (omega (arith, decimal-length 10 4 r (omega arith) (omega arith), decimal-length 10 4 c (omega arith) (omega arith), integer-length v hv))

lines-length : (n : ℕ) → n ≤ 4096 → (es done : List Triplet) → Good n done es → length (concat (map entry_line es)) ≤ 22 * length es
lines-length n hn [] done g = omega arith
lines-length n hn (e ∷ es) done g =
    let i = inside n (suc e.row) (suc e.column) e.value g.0 in
    let l = line-length (suc e.row) (suc e.column) e.value (omega arith) (omega arith) i.small in
    let m = lines-length n hn es (done ++ e ∷ []) g.2 in
    rw length-append (omega arith)

pub header-length : length header ≡ 51
unfolding header
header-length = refl

text-length : (n : ℕ) (es : List Triplet) → n ≤ 4096 → length es ≤ 32768 → Good n [] es → length (text_of n es) ≤ 1048576
unfolding text_of
text-length n es hn hm g =
    let sizes : List ℕ = line_of n n (pos (length es)) in
    let listing : List ℕ = concat (map entry_line es) in
    omega (arith, length-append (header ++ sizes) listing, length-append header sizes, line-length n n (pos (length es)) hn hn (omega arith), lines-length n hn es [] g, header-length)

-- ---- its lines

abbrev single : Gaps
single = record { left = 0; right = 0 }

abbrev plain : Triplet → Spaced
plain e = record { entry = e; gaps = single }

abbrev plain_lines : ℕ → List Triplet → Lines
plain_lines n es = record { comments = []; n = n; gaps = single; entries = map plain es }

line_single : (r c : ℕ) (v : ℤ) → spaced_line single r c v ≡ line_of r c v
line_single r c v = simp append_assoc

lines_single : (es : List Triplet) → concat (map spaced_entry (map plain es)) ≡ concat (map entry_line es)
lines_single [] = refl
lines_single (e ∷ es) = rw (line_single (suc e.row) (suc e.column) e.value, lines_single es)

entries_single : (n : ℕ) (es : List Triplet) → entries_of (plain_lines n es) ≡ es
unfolding entries_of
entries_single n [] = refl
entries_single n (e ∷ es) = ap (λ (xs : List Triplet). e ∷ xs) (entries_single n es)

text_single : (n : ℕ) (es : List Triplet) → text_of_lines (plain_lines n es) ≡ text_of n es
unfolding text_of text_of_lines
text_single n es = rw (length-map, line_single n n (pos (length es)), lines_single es) (simp append_assoc)

-- Parsing what is written gives n and the entries back.
pub parse-text-of : (n : ℕ) (es : List Triplet) → 1 ≤ n → n ≤ 4096 → length es ≤ 32768 → Good n [] es → parse (text_of n es) ≡ matrix_text n es
parse-text-of n es h1 hn hm g =
    let long : length (text_of n es) ≤ 1048576 = text-length n es hn hm g in
    let t : Lines = plain_lines n es in
    let p = lines-parsed t h1 hn (rw length-map hm) (rw entries_single g) tt (rw text_single long) in
    ap parse (sym (text_single n es)) ∙ p ∙ ap (matrix_text n) (entries_single n es)
