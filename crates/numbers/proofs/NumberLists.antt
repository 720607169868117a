-- A list that is written and then read is the same list, and a text that is read is the text of its list.
use Rattle.std.proofs.Common.{◌≡◌, ℕ, zero, suc, ◌/◌, ◌%◌, ◌^◌, ◌<◌, ◌≤◌, Bool, true, false, cond, ◌⊎◌, List, [], ◌∷◌, ◌++◌, length, get_or, take, drop, ℤ, pos, negsuc, nat_abs, sym, refl, ap, ◌∙◌, inl, inr, append_assoc, append-nil, add-one, arith, length-append, length-drop, ltb-true}
use lib.Seq.{append_snoc, take-append_seam, drop-append_seam, get_or-append_seam}
use Rattle.base.specs.Lists.{all}
use Rattle.base.specs.Integers.{fits64}
use Rattle.base.specs.Replies.{lent}
use Rattle.base.proofs.Each.{all-each}
use Rattle.base.proofs.Booleans.{and_left, and_right}
use Rattle.market.specs.Bytes.{class_of, is_digit, is_end}
use Rattle.market.specs.Fields.{is, no, Signed, digits}
use Rattle.market.specs.Text.{decimal, signed_decimal, integer}
use Rattle.market.proofs.Decimal.{decimal-same, signed_decimal_lem}
use Rattle.numbers.specs.Lines.{number_line, numbers_text, lines_in, whole_number, number_on, numbers, faulty, listed_from, listed}
use Rattle.words.specs.LittleEndian.{signed, signed_bytes}
use Rattle.words.proofs.Codes.{HoldsSigned, signed-append}
use Rattle.numbers.specs.Calls.{numbers_in, read_numbers_reply, write_numbers_reply}
use Rattle.numbers.specs.NumberLists.{NumberLists}
use Rattle.numbers.proofs.Filled.{filled-fits}
use Rattle.market.proofs.Classes.{is_means}
use Rattle.market.proofs.Spelled.{all_digits}
use Rattle.numbers.proofs.Spelled.{whole-decimal, whole-only}
use Rattle.numbers.proofs.Split.{Digits, Plain, Negative, number_spelled, listed-number, listed-broken, listed-done}

-- ---- written, then read

few-digits : (z : ℤ) → fits64 z ≡ true → nat_abs z < 10 ^ 19
unfolding fits64
few-digits (pos n) h = omega (arith, ltb-true n (2 ^ 63) h)
few-digits (negsuc n) h = omega (arith, ltb-true n (2 ^ 63) h)

-- the line of a number, with anything after it
line_more : (z : ℤ) (xs : List ℕ) → number_line z ++ xs ≡ signed_decimal 19 z ++ 10 ∷ xs
unfolding number_line
line_more z xs = append_snoc (signed_decimal 19 z) 10 xs

line-length : (z : ℤ) → length (number_line z) ≡ suc (length (signed_decimal 19 z))
unfolding number_line
line-length z = length-append (signed_decimal 19 z) (10 ∷ []) ∙ add-one (length (signed_decimal 19 z))

line_read : (z : ℤ) (xs : List ℕ) → fits64 z ≡ true → number_on (number_line z ++ xs) ≡ is z (length (signed_decimal 19 z))
unfolding number_on class_of
line_read z xs h =
    rw (line_more z xs, signed_decimal_lem whole_number 18 (whole-decimal 18) z 10 xs (few-digits z h) refl, get_or-append_seam (signed_decimal 19 z) 10 xs 0)

pub text_more : (z : ℤ) (zs : List ℤ) → numbers_text (z ∷ zs) ≡ number_line z ++ numbers_text zs
unfolding numbers_text
text_more z zs = refl

text-read : (done zs : List ℤ) → all fits64 zs ≡ true → listed_from done (lines_in (numbers_text zs)) ≡ numbers (done ++ zs)
unfolding numbers_text
text-read done [] h = listed-done done ∙ rw append-nil
text-read done (z ∷ zs) h =
    let f = and_left (fits64 z) (all fits64 zs) h in
    listed-number done (number_line z ++ numbers_text zs) z (length (signed_decimal 19 z)) (line_read z (numbers_text zs) f)
    ∙ rw (f, ← line-length z, drop-append_seam (number_line z) (numbers_text zs))
    (text-read (done ++ z ∷ []) zs (and_right (fits64 z) (all fits64 zs) h) ∙ rw append_assoc)

-- ---- read, then written

-- a text that begins with digits and a line feed
digits_then : (xs : List ℕ) → is_end (get_or xs (length (digits xs)) 0) ≡ true → xs ≡ digits xs ++ 10 ∷ drop (suc (length (digits xs))) xs
unfolding digits
digits_then [] h = absurd (nothing h)
  where
    nothing : is_end 0 ≡ true → ⊥
    nothing h = let z = is_means 0 4 h in omega arith
digits_then (b ∷ bs) h = go (is_digit b) (digits_then bs) h
  where
    go : (t : Bool) → (is_end (get_or bs (length (digits bs)) 0) ≡ true → bs ≡ digits bs ++ 10 ∷ drop (suc (length (digits bs))) bs)
        → is_end (get_or (b ∷ bs) (length (cond t (b ∷ digits bs) [])) 0) ≡ true → b ∷ bs ≡ cond t (b ∷ digits bs) [] ++ 10 ∷ drop (suc (length (cond t (b ∷ digits bs) []))) (b ∷ bs)
    go true ih h = ap (λ (l : List ℕ). b ∷ l) (ih h)
    go false ih h = ap (λ (d : ℕ). d ∷ bs) (is_means b 4 h)

digits-line : (ys : List ℕ) (v m : ℕ) → Digits ys v m → v < 10 ^ 19 → ys ≡ decimal 19 v ++ 10 ∷ drop (suc m) ys
digits-line ys v m d h =
    let e : digits ys ≡ decimal 19 v = sym (whole-only 18 (digits ys) (all_digits ys) d.whole (rw d.is h)) ∙ ap (decimal 19) d.is in
    digits_then ys (rw d.size d.end) ∙ ap (λ (k : ℕ). digits ys ++ 10 ∷ drop (suc k) ys) d.size ∙ ap (λ (ds : List ℕ). ds ++ 10 ∷ drop (suc m) ys) e

-- a line that is read is the line of its number
line-only : (xs : List ℕ) (z : ℤ) (k : ℕ) → number_on xs ≡ is z k → fits64 z ≡ true → xs ≡ number_line z ++ drop (suc k) xs
line-only xs z k e f = go (number_spelled xs z k e) ∙ sym (line_more z (drop (suc k) xs))
  where
    go : Plain xs z k ⊎ Negative xs z k → xs ≡ signed_decimal 19 z ++ 10 ∷ drop (suc k) xs
    go (inl p) =
        let small = few-digits z f in
        rw p.of (digits-line xs p.value k p.has (rw p.of at small))
    go (inr n) =
        let small = few-digits z f in
        let l : n.rest ≡ decimal 19 (suc n.less) ++ 10 ∷ drop (suc n.length_rest) n.rest = digits-line n.rest (suc n.less) n.length_rest n.has (rw n.of at small) in
        rw (n.of, n.size, n.starts) (ap (λ (b : ℕ). b ∷ n.rest) (is_means n.sign 2 n.signed) ∙ ap (λ (ys : List ℕ). 45 ∷ ys) l)

pub record Read (done : List ℤ) (xs : List ℕ) (out : List ℤ) : Type 0 where
  pub list : List ℤ
  pub after : out ≡ done ++ list
  pub text : xs ≡ numbers_text list
  pub fit : all fits64 list ≡ true

never : {X : Type 0} {q p : ℕ} {zs : List ℤ} → faulty q p ≡ numbers zs → X
never e = let z : ◌≡◌ {A = ℕ} 0 1 = cc in absurd (omega arith)

-- a text of n bytes at most
abbrev pub Only : ℕ → Type 0
Only n = (done : List ℤ) (xs : List ℕ) (out : List ℤ) → length xs ≤ n → listed_from done (lines_in xs) ≡ numbers out → Read done xs out

only_none : Only 0
unfolding numbers_text
only_none done [] out l h = record { list = []; after = (let d = listed-done done in cc) ∙ sym (append-nil done); text = refl; fit = refl }
only_none done (b ∷ bs) out l h = absurd (omega arith)

only_more : (n : ℕ) → Only n → Only (suc n)
unfolding numbers_text
only_more n ih done [] out l h = only_none done [] out (omega arith) h
only_more n ih done (b ∷ bs) out l h = of (number_on (b ∷ bs)) refl
  where
    with_number : (z : ℤ) (k : ℕ) (t : Bool) → number_on (b ∷ bs) ≡ is z k → fits64 z ≡ t → cond t (listed_from (done ++ z ∷ []) (lines_in (drop (suc k) (b ∷ bs)))) (faulty 4 (suc (length done))) ≡ numbers out
        → Read done (b ∷ bs) out
    with_number z k true e f h =
        let i = ih (done ++ z ∷ []) (drop (suc k) (b ∷ bs)) out (rw length-drop (omega arith)) h in
        record {
          list = z ∷ i.list;
          after = i.after ∙ append_assoc done (z ∷ []) i.list;
          text = line-only (b ∷ bs) z k e f ∙ ap (λ (ys : List ℕ). number_line z ++ ys) i.text;
          fit = rw f i.fit;
        }
    with_number z k false e f h = never h

    of : (s : Signed) → number_on (b ∷ bs) ≡ s → Read done (b ∷ bs) out
    of (is z k) e = with_number z k (fits64 z) e refl (sym (listed-number done (b ∷ bs) z k e) ∙ h)
    of no e = never (sym (listed-broken done b bs e) ∙ h)

pub text-only : (n : ℕ) → Only n
text-only zero = only_none
text-only (suc n) = only_more n (text-only n)

-- ---- in bytes

holds : (z : ℤ) → fits64 z ≡ true → HoldsSigned 8 z
unfolding fits64
holds (pos n) h = omega (arith, ltb-true n (2 ^ 63) h)
holds (negsuc n) h = omega (arith, ltb-true n (2 ^ 63) h)

text_left : (zs : List ℤ) (old : List ℕ) → length (numbers_text zs) ≤ length old
    → take (length (numbers_text zs)) (lent (write_numbers_reply zs (length old)) (numbers_text zs) old) ≡ numbers_text zs
unfolding write_numbers_reply lent
text_left zs old h = rw (sym (filled-fits (length (numbers_text zs)) (length old) (length (numbers_text zs) % 2 ^ 32) refl h)) (take-append_seam (numbers_text zs) _)

list_left : (text : List ℕ) (zs : List ℤ) → listed text ≡ numbers zs → (old : List ℕ) → length zs ≤ length old / 8
    → take (length zs) (signed 8 (lent (read_numbers_reply (listed text) (length old / 8)) (signed_bytes 8 (numbers_in (listed text))) old)) ≡ zs
unfolding read_numbers_reply numbers_in lent listed
list_left text zs e old h =
    let fit = text-only (length text) [] text zs (omega arith) e in
    let each : all fits64 zs ≡ true = rw fit.after fit.fit in
    rw (e, sym (filled-fits (length zs) (length old / 8) (length zs % 2 ^ 32) refl h), signed-append 8 (omega arith) zs (all-each (HoldsSigned 8) fits64 holds zs each) (drop (length (signed_bytes 8 zs)) old))
    (take-append_seam zs _)

-- ---- spelled as in a matrix text

line-alike : (z : ℤ) → nat_abs z < 10 ^ 10 → number_line z ≡ integer z ++ 10 ∷ []
unfolding number_line
line-alike (pos n) h = rw (decimal-same 19 10 n (omega arith) (omega arith) (omega arith) h)
line-alike (negsuc n) h = rw (decimal-same 19 10 (suc n) (omega arith) (omega arith) (omega arith) h)

-- the theorem
pub number-lists : NumberLists
unfolding listed
number-lists = record {
  back = text-read [];
  only = λ text zs h. (let r = text-only (length text) [] text zs (omega arith) h in (rw r.after r.text, rw r.after r.fit));
  text_left = text_left;
  list_left = list_left;
  alike = line-alike;
}
