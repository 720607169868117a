-- The lines of a text one after the other: the first by the text itself, and those after it.
use Rattle.std.proofs.Common.{◌≡◌, ℕ, zero, suc, Bool, true, false, cond, ◌⊎◌, List, [], ◌∷◌, ◌++◌, length, get_or, drop, ℤ, pos, negsuc, refl, ap, ◌∙◌, inl, inr, arith, eqb-true}
use Rattle.base.specs.Integers.{fits64}
use Rattle.base.specs.Refusals as why
use Rattle.base.proofs.Booleans.{clash}
use Rattle.market.specs.Bytes.{class_of, is_digit, is_sign, is_end}
use Rattle.market.specs.Fields.{got, none, is, no, digits, value_of, numeral_if, positive, negative}
use Rattle.market.proofs.Decimal.{digit_class}
use Rattle.numbers.specs.Lines.{lengthened, lines_in, is_spelled, whole_number, with_end, number_on, when_number, numbers, faulty, listed_from}

-- ---- the first line

-- a text up to its first line end, and what comes after that
abbrev up_to : List ℕ → List ℕ
up_to [] = []
up_to (b ∷ bs) = b ∷ cond (is_end b) [] (up_to bs)

abbrev past : List ℕ → List ℕ
past [] = []
past (b ∷ bs) = cond (is_end b) bs (past bs)

lines_split : (b : ℕ) (bs : List ℕ) → lines_in (b ∷ bs) ≡ up_to (b ∷ bs) ∷ lines_in (past (b ∷ bs))
unfolding lines_in
lines_split b [] = go (is_end b)
  where
    go : (t : Bool) → cond t ((b ∷ []) ∷ []) ((b ∷ []) ∷ []) ≡ (b ∷ cond t [] []) ∷ lines_in (cond t [] [])
    go true = refl
    go false = refl
lines_split b (c ∷ cs) = go (is_end b) (lines_split c cs)
  where
    go : (t : Bool) → lines_in (c ∷ cs) ≡ up_to (c ∷ cs) ∷ lines_in (past (c ∷ cs))
        → cond t ((b ∷ []) ∷ lines_in (c ∷ cs)) (lengthened b (lines_in (c ∷ cs))) ≡ (b ∷ cond t [] (up_to (c ∷ cs))) ∷ lines_in (cond t (c ∷ cs) (past (c ∷ cs)))
    go true ih = refl
    go false ih = ap (lengthened b) ih

digit_no_end : (b : ℕ) → is_digit b ≡ true → is_end b ≡ false
digit_no_end b h = rw (digit_class b h)

sign_class : (b : ℕ) → is_sign b ≡ true → class_of b ≡ 2
sign_class b h = eqb-true (class_of b) 2 h

none-signed : is_sign (get_or [] 0 0) ≡ true → ⊥
unfolding class_of
none-signed h = clash h refl

sign_no_end : (b : ℕ) → is_sign b ≡ true → is_end b ≡ false
sign_no_end b h = rw (sign_class b h)

-- it has the digits of the text, the byte after them, and if that ends it, it ends there
digits-first : (xs : List ℕ) → digits (up_to xs) ≡ digits xs
unfolding digits
digits-first [] = refl
digits-first (b ∷ bs) = go (is_digit b) refl (digits-first bs)
  where
    go : (t : Bool) → is_digit b ≡ t → digits (up_to bs) ≡ digits bs → cond t (b ∷ digits (cond (is_end b) [] (up_to bs))) [] ≡ cond t (b ∷ digits bs) []
    go true e ih = rw (digit_no_end b e, ih)
    go false e ih = refl

byte-first : (xs : List ℕ) → get_or (up_to xs) (length (digits xs)) 0 ≡ get_or xs (length (digits xs)) 0
unfolding digits
byte-first [] = refl
byte-first (b ∷ bs) = go (is_digit b) refl (byte-first bs)
  where
    go : (t : Bool) → is_digit b ≡ t → get_or (up_to bs) (length (digits bs)) 0 ≡ get_or bs (length (digits bs)) 0
        → get_or (b ∷ cond (is_end b) [] (up_to bs)) (length (cond t (b ∷ digits bs) [])) 0 ≡ get_or (b ∷ bs) (length (cond t (b ∷ digits bs) [])) 0
    go true e ih = rw (digit_no_end b e) ih
    go false e ih = refl

past_first_lem : (xs : List ℕ) → is_end (get_or xs (length (digits xs)) 0) ≡ true → past xs ≡ drop (suc (length (digits xs))) xs
unfolding digits class_of
past_first_lem [] h = refl
past_first_lem (b ∷ bs) h = go (is_digit b) refl (past_first_lem bs) h
  where
    go : (t : Bool) → is_digit b ≡ t → (is_end (get_or bs (length (digits bs)) 0) ≡ true → past bs ≡ drop (suc (length (digits bs))) bs)
        → is_end (get_or (b ∷ bs) (length (cond t (b ∷ digits bs) [])) 0) ≡ true → cond (is_end b) bs (past bs) ≡ drop (length (cond t (b ∷ digits bs) [])) bs
    go true e ih h = rw (digit_no_end b e) (ih h)
    go false e ih h = rw h

-- so its number is the text's
number-first : (b : ℕ) (bs : List ℕ) → number_on (up_to (b ∷ bs)) ≡ number_on (b ∷ bs)
unfolding number_on whole_number
number-first b bs = go (is_sign b) refl
  where
    signed : (w : Bool) (v : ℕ) → with_end (b ∷ up_to bs) (negative (cond w (got v (length (digits bs))) none)) ≡ with_end (b ∷ bs) (negative (cond w (got v (length (digits bs))) none))
    signed true zero = refl
    signed true (suc v) = rw (byte-first bs)
    signed false v = refl

    plain : (w : Bool) (v : ℕ) → with_end (up_to (b ∷ bs)) (positive (cond w (got v (length (digits (b ∷ bs)))) none)) ≡ with_end (b ∷ bs) (positive (cond w (got v (length (digits (b ∷ bs)))) none))
    plain true v = rw (byte-first (b ∷ bs))
    plain false v = refl

    go : (t : Bool) → is_sign b ≡ t → with_end (up_to (b ∷ bs)) (cond t (negative (numeral_if is_spelled (digits (cond (is_end b) [] (up_to bs))))) (positive (numeral_if is_spelled (digits (up_to (b ∷ bs))))))
        ≡ with_end (b ∷ bs) (cond t (negative (numeral_if is_spelled (digits bs))) (positive (numeral_if is_spelled (digits (b ∷ bs)))))
    go true e = rw (sign_no_end b e, digits-first bs) (signed (is_spelled (digits bs)) (value_of 0 (digits bs)))
    go false e = rw (digits-first (b ∷ bs)) (plain (is_spelled (digits (b ∷ bs))) (value_of 0 (digits (b ∷ bs))))

-- ---- a number at the start of a text

-- digits, and a line feed
pub record Digits (xs : List ℕ) (v k : ℕ) : Type 0 where
  pub whole : is_spelled (digits xs) ≡ true
  pub is : value_of 0 (digits xs) ≡ v
  pub size : length (digits xs) ≡ k
  pub end : is_end (get_or xs k 0) ≡ true

-- a number that is not negative, and one that is
pub record Plain (xs : List ℕ) (z : ℤ) (k : ℕ) : Type 0 where
  pub value : ℕ
  pub of : z ≡ pos value
  pub has : Digits xs value k

pub record Negative (xs : List ℕ) (z : ℤ) (k : ℕ) : Type 0 where
  pub sign : ℕ
  pub rest : List ℕ
  pub less : ℕ
  pub length_rest : ℕ
  pub starts : xs ≡ sign ∷ rest
  pub signed : is_sign sign ≡ true
  pub of : z ≡ negsuc less
  pub size : k ≡ suc length_rest
  pub has : Digits rest (suc less) length_rest

pub number_spelled : (xs : List ℕ) (z : ℤ) (k : ℕ) → number_on xs ≡ is z k → Plain xs z k ⊎ Negative xs z k
unfolding number_on whole_number
number_spelled xs z k e = go xs (is_sign (get_or xs 0 0)) refl e
  where
    never : {X : Type 0} → no ≡ is z k → X
    never e = let z : ◌≡◌ {A = ℕ} 0 1 = cc in absurd (omega arith)

    plain : (xs : List ℕ) (w t : Bool) → is_spelled (digits xs) ≡ w → is_end (get_or xs (length (digits xs)) 0) ≡ t → with_end xs (positive (cond w (got (value_of 0 (digits xs)) (length (digits xs))) none)) ≡ is z k → Plain xs z k
    plain xs true true ew et e =
        let f : z ≡ pos (value_of 0 (digits xs)) = cc (rw et at e) in
        let g : length (digits xs) ≡ k = cc (rw et at e) in
        record { value = value_of 0 (digits xs); of = f; has = record { whole = ew; is = refl; size = g; end = rw (← g) et } }
    plain xs true false ew et e = never (rw et at e)
    plain xs false t ew et e = never e

    negated : (b : ℕ) (bs : List ℕ) → is_sign b ≡ true → (w t : Bool) (v : ℕ) → is_spelled (digits bs) ≡ w → is_end (get_or bs (length (digits bs)) 0) ≡ t → value_of 0 (digits bs) ≡ v
        → with_end (b ∷ bs) (negative (cond w (got v (length (digits bs))) none)) ≡ is z k → Negative (b ∷ bs) z k
    negated b bs eb true t zero ew et ev e = never e
    negated b bs eb true true (suc v) ew et ev e =
        let f : z ≡ negsuc v = cc (rw et at e) in
        let g : k ≡ suc (length (digits bs)) = cc (rw et at e) in
        record { sign = b; rest = bs; less = v; length_rest = length (digits bs); starts = refl; signed = eb; of = f; size = g; has = record { whole = ew; is = ev; size = refl; end = et } }
    negated b bs eb true false (suc v) ew et ev e = never (rw et at e)
    negated b bs eb false t v ew et ev e = never e

    go : (xs : List ℕ) (t : Bool) → is_sign (get_or xs 0 0) ≡ t → with_end xs (cond t (negative (numeral_if is_spelled (digits (drop 1 xs)))) (positive (numeral_if is_spelled (digits xs)))) ≡ is z k → Plain xs z k ⊎ Negative xs z k
    go (b ∷ bs) true s e = inr (negated b bs s (is_spelled (digits bs)) (is_end (get_or bs (length (digits bs)) 0)) (value_of 0 (digits bs)) refl refl refl e)
    go [] true s e = absurd (none-signed s)
    go xs false s e = inl (plain xs (is_spelled (digits xs)) (is_end (get_or xs (length (digits xs)) 0)) refl refl e)

-- ---- the lines of a text, by their numbers

past-number : (xs : List ℕ) (z : ℤ) (k : ℕ) → number_on xs ≡ is z k → past xs ≡ drop (suc k) xs
past-number xs z k e = go (number_spelled xs z k e)
  where
    of : (ys : List ℕ) {v m : ℕ} → Digits ys v m → past ys ≡ drop (suc m) ys
    of ys d = past_first_lem ys (rw d.size d.end) ∙ rw d.size

    go : Plain xs z k ⊎ Negative xs z k → past xs ≡ drop (suc k) xs
    go (inl p) = of xs p.has
    go (inr n) = rw (n.starts, n.size, sign_no_end n.sign n.signed) (of n.rest n.has)

number-nothing : number_on [] ≡ no
unfolding number_on whole_number is_spelled digits class_of
number-nothing = refl

listed-first : (done : List ℤ) (b : ℕ) (bs : List ℕ) → listed_from done (lines_in (b ∷ bs))
    ≡ when_number (number_on (b ∷ bs)) (faulty why.bad_form (suc (length done))) (λ z. cond (fits64 z) (listed_from (done ++ z ∷ []) (lines_in (past (b ∷ bs)))) (faulty why.bad_entry (suc (length done))))
unfolding listed_from
listed-first done b bs = rw (lines_split b bs, number-first b bs)

-- a line that has a number
pub listed-number : (done : List ℤ) (xs : List ℕ) (z : ℤ) (k : ℕ) → number_on xs ≡ is z k
    → listed_from done (lines_in xs) ≡ cond (fits64 z) (listed_from (done ++ z ∷ []) (lines_in (drop (suc k) xs))) (faulty why.bad_entry (suc (length done)))
listed-number done [] z k e = let q = e in let p = number-nothing in let z : ◌≡◌ {A = ℕ} 0 1 = cc in absurd (omega arith)
listed-number done (b ∷ bs) z k e = listed-first done b bs ∙ rw (e, past-number (b ∷ bs) z k e)

-- one that has none
pub listed-broken : (done : List ℤ) (b : ℕ) (bs : List ℕ) → number_on (b ∷ bs) ≡ no → listed_from done (lines_in (b ∷ bs)) ≡ faulty why.bad_form (suc (length done))
listed-broken done b bs e = listed-first done b bs ∙ rw e

-- none is left
pub listed-done : (done : List ℤ) → listed_from done (lines_in []) ≡ numbers done
unfolding listed_from lines_in
listed-done done = refl
