-- A text that is made from its lines is parsed to its entries, however many lines begin with `%` and however many
-- spaces part the fields.
use mathlib.Core.Path.{◌≡◌, refl, sym, ap, ◌∙◌, subst}
use mathlib.Core.Bool.{true, false, true≢false}
use mathlib.Core.List.{List, [], ◌∷◌, ◌++◌, append_assoc, append-nil, map}
use Prim.Native.Nat.{ℕ, zero, suc, ◌+◌, ◌-◌, ◌^◌, ◌≤◌, ◌<◌}
use native.Mathlib.Omega.{arith}
use lib.Dec.{eqb}
use lib.IntN.{ℤ, pos, negsuc, nat_abs}
use lib.ListN.{length, get_or, drop, replicate, length-append, length-replicate}
use lib.Seq.{drop-append_seam, drop-append-add, drop-drop}
use borrow.Author.Tests.{le-ltb, le-leb, eq-eqb, ne_eqb}
use Rattle.base.specs.Lists.{concat, is_in}
use Rattle.base.proofs.Begins.{begins-append}
use Rattle.base.proofs.Booleans.{is_false, clash, or_left_false, or_right_false}
use Rattle.base.proofs.Each.{Each}
use Rattle.market.specs.Bytes.{class_of, header, is_digit, is_space, is_end}
use Rattle.market.specs.Fields.{got, is, line, numeral, spaces, field, value, value_field, fields}
use Rattle.market.specs.Parse.{Triplet, matrix_text, is_among, is_entry, entries, size_line, place, comments, parse}
use Rattle.market.specs.Text.{natural, integer}
use Rattle.market.specs.Texts.{Gaps, gap, spaced_line, Spaced, spaced_entry, comment_line, Lines, entries_of, text_of_lines}
use Rattle.market.proofs.Classes.{is_means}
use Rattle.market.proofs.Decimal.{digit_class, starts_digit, number-natural, signed_decimal_lem}
use Rattle.market.proofs.Inside.{inside}

-- ---- one line

value-integer : (v : ℤ) (b : ℕ) (xs : List ℕ) → nat_abs v < 10 ^ 10 → is_digit b ≡ false → value (integer v ++ b ∷ xs) ≡ is v (length (integer v))
unfolding value
value-integer = signed_decimal_lem numeral 9 number-natural

-- all spaces of a gap
spaces-gap : (k : ℕ) (xs : List ℕ) → is_space (get_or xs 0 0) ≡ false → spaces (replicate k 32 ++ xs) ≡ k
unfolding spaces class_of
spaces-gap zero [] e = refl
spaces-gap zero (b ∷ bs) e = rw e
spaces-gap (suc k) xs e = ap suc (spaces-gap k xs e)

drop-gap : (k : ℕ) (xs : List ℕ) → drop k (replicate k 32 ++ xs) ≡ xs
drop-gap zero xs = refl
drop-gap (suc k) xs = drop-gap k xs

field-natural : (k n b : ℕ) (xs : List ℕ) → n < 10 ^ 10 → is_digit b ≡ false → field (gap k ++ (natural n ++ b ∷ xs)) ≡ got n (suc k + length (natural n))
unfolding field
field-natural k n b xs h e =
    let s = spaces-gap (suc k) (natural n ++ b ∷ xs) (rw (digit_class _ (starts_digit 9 n (b ∷ xs)))) in
    rw (s, le-leb 1 (suc k) (omega arith), drop-gap k (natural n ++ b ∷ xs), number-natural n b xs h e)

first-value : (v : ℤ) (xs : List ℕ) → is_space (get_or (integer v ++ xs) 0 0) ≡ false
unfolding class_of
first-value (pos n) xs = rw (digit_class _ (starts_digit 9 n xs))
first-value (negsuc n) xs = refl

field-integer : (k : ℕ) (v : ℤ) (b : ℕ) (xs : List ℕ) → nat_abs v < 10 ^ 10 → is_digit b ≡ false → value_field (gap k ++ (integer v ++ b ∷ xs)) ≡ is v (suc k + length (integer v))
unfolding value_field
field-integer k v b xs h e =
    let s = spaces-gap (suc k) (integer v ++ b ∷ xs) (first-value v (b ∷ xs)) in
    rw (s, le-leb 1 (suc k) (omega arith), drop-gap k (integer v ++ b ∷ xs), value-integer v b xs h e)

drop-field : (k : ℕ) (q ys : List ℕ) → drop (suc k + length q) (gap k ++ (q ++ ys)) ≡ ys
drop-field k q ys = sym (drop-drop (length q) (suc k) (gap k ++ (q ++ ys))) ∙ ap (drop (length q)) (drop-gap k (q ++ ys)) ∙ drop-append_seam q ys

-- a line is parsed
pub fields-line : (g : Gaps) (r c : ℕ) (v : ℤ) (xs : List ℕ) → r < 10 ^ 10 → c < 10 ^ 10 → nat_abs v < 10 ^ 10 → fields (spaced_line g r c v ++ xs) ≡ line r c v (length (spaced_line g r c v))
unfolding fields class_of
fields-line g r c v xs hr hc hv =
    let a = g.left in
    let b = g.right in
    let p = natural r in
    let q = natural c in
    let w = integer v in
    let tail : List ℕ = gap b ++ (w ++ 10 ∷ xs) in
    let middle : List ℕ = gap a ++ (q ++ tail) in
    let whole : List ℕ = p ++ middle in
    let e1 : spaced_line g r c v ++ xs ≡ whole = simp append_assoc in
    let d1 : drop (length p) whole ≡ middle = drop-append_seam p middle in
    let d2 : drop (length p + (suc a + length q)) whole ≡ tail = drop-append-add p middle (suc a + length q) ∙ drop-field a q tail in
    let d3 : drop (length p + (suc a + length q) + (suc b + length w)) whole ≡ 10 ∷ xs = sym (drop-drop (suc b + length w) (length p + (suc a + length q)) whole) ∙ ap (drop (suc b + length w)) d2 ∙ drop-field b w (10 ∷ xs) in
    let l : length p + (suc a + length q) + (suc b + length w) + 1 ≡ length (spaced_line g r c v) = simp (length-append, length-replicate) (omega arith) in
    rw (e1, number-natural r 32 (replicate a 32 ++ (q ++ tail)) hr refl, d1, field-natural a c 32 (replicate b 32 ++ (w ++ 10 ∷ xs)) hc refl, d2, field-integer b v 10 xs hv refl, d3, l)

-- ---- the entries

-- the entries of es may come after those of done: inside n, on or below the diagonal, not too large, each place once
abbrev pub Good : ℕ → List Triplet → List Triplet → Type 0
Good n done [] = Unit
Good n done (e ∷ es) = (is_entry n (suc e.row) (suc e.column) e.value ≡ true) × (is_among done e.row e.column ≡ false) × Good n (done ++ e ∷ []) es

abbrev only : Spaced → Triplet
only s = s.entry

entries-lines : (n : ℕ) → n ≤ 4096 → (ss : List Spaced) (done : List Triplet) (k : ℕ) → Good n done (map only ss) → entries n (length ss) k done (concat (map spaced_entry ss)) ≡ matrix_text n (done ++ map only ss)
unfolding entries
entries-lines n hn [] done k g = rw append-nil
entries-lines n hn (s ∷ ss) done k g =
    let e = s.entry in
    let i = inside n (suc e.row) (suc e.column) e.value g.0 in
    let t = fields-line s.gaps (suc e.row) (suc e.column) e.value (concat (map spaced_entry ss)) (omega arith) (omega arith) (omega arith) in
    let r : suc e.row - 1 ≡ e.row = omega arith in
    let c : suc e.column - 1 ≡ e.column = omega arith in
    rw (t, r, c, g.0, g.1, drop-append_seam (spaced_entry s) (concat (map spaced_entry ss)))
    (entries-lines n hn ss (done ++ e ∷ []) (suc k) g.2 ∙ rw append_assoc)

-- ---- the lines that begin with `%`

-- no line feed
abbrev pub Clean : List ℕ → Type 0
Clean c = is_in c 10 ≡ false

comment_end : (c : List ℕ) (k : ℕ) (xs : List ℕ) → Clean c → comments true k (c ++ 10 ∷ xs) ≡ comments false (suc k) xs
unfolding comments class_of
comment_end [] k xs h = refl
comment_end (b ∷ bs) k xs h =
    let off : is_end b ≡ false = is_false (λ t. clash (eq-eqb 10 b (sym (is_means b 4 t))) (or_left_false (eqb 10 b) (is_in bs 10) h)) in
    rw (off, comments) (comment_end bs k xs (or_right_false (eqb 10 b) (is_in bs 10) h))

comments-passed : (cs : List (List ℕ)) (k : ℕ) (xs : List ℕ) → Each Clean cs → comments false k (concat (map comment_line cs) ++ xs) ≡ comments false (k + length cs) xs
unfolding comments
comments-passed [] k xs h = let e : k + 0 ≡ k = omega arith in rw e
comments-passed (c ∷ cs) k xs h =
    let rest : List ℕ = concat (map comment_line cs) ++ xs in
    let e1 : (c ++ 10 ∷ [] ++ concat (map comment_line cs)) ++ xs ≡ c ++ 10 ∷ rest = simp append_assoc in
    let e2 : k + suc (length cs) ≡ suc k + length cs = omega arith in
    ap (comments true k) e1 ∙ comment_end c k rest h.0 ∙ comments-passed cs (suc k) xs h.1 ∙ ap (λ (m : ℕ). comments false m xs) (sym e2)

comments-none : (k : ℕ) (xs : List ℕ) → eqb (get_or xs 0 0) 37 ≡ false → comments false k xs ≡ place k xs
unfolding comments
comments-none k [] e = refl
comments-none k (b ∷ bs) e = rw e

digit_no_comment : (b : ℕ) → is_digit b ≡ true → eqb b 37 ≡ false
unfolding class_of
digit_no_comment b h = ne_eqb b 37 (λ e. true≢false (sym (subst (λ (x : ℕ). is_digit x ≡ true) e h)))

-- ---- the text

module _ (t : Lines) (h1 : 1 ≤ t.n) (hn : t.n ≤ 4096) (hm : length t.entries ≤ 32768) (g : Good t.n [] (entries_of t)) where
  abbrev sizes : List ℕ
  sizes = spaced_line t.gaps t.n t.n (pos (length t.entries))

  abbrev listing : List ℕ
  listing = concat (map spaced_entry t.entries)

  -- the size line, and the entries
  size-parsed : (k : ℕ) → size_line k (sizes ++ listing) ≡ matrix_text t.n (entries_of t)
  unfolding size_line entries_of
  size-parsed k =
      rw (fields-line t.gaps t.n t.n (pos (length t.entries)) listing (omega arith) (omega arith) (omega arith), drop-append_seam sizes listing, eq-eqb t.n t.n refl, le-leb 1 t.n h1, le-leb t.n 4096 hn, le-leb (length t.entries) 32768 hm)
      (entries-lines t.n hn t.entries [] (suc k) g)

  pub lines-parsed : Each Clean t.comments → length (text_of_lines t) ≤ 1048576 → parse (text_of_lines t) ≡ matrix_text t.n (entries_of t)
  unfolding parse text_of_lines
  lines-parsed clean short =
      let rest : List ℕ = concat (map comment_line t.comments) ++ (sizes ++ listing) in
      let digit : is_digit (get_or (sizes ++ listing) 0 0) ≡ true = rw append_assoc (starts_digit 9 t.n _) in
      rw (le-ltb 1048576 (length (header ++ rest)) short, begins-append header rest, drop-append_seam header rest, comments-passed t.comments 2 (sizes ++ listing) clean, comments-none (2 + length t.comments) (sizes ++ listing) (digit_no_comment _ digit))
      (size-parsed (2 + length t.comments))
