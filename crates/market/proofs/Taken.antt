-- A text that is parsed is made from lines: what stands at its start, part by part.
use mathlib.Core.Path.{◌≡◌, refl, sym, ap, ◌∙◌}
use mathlib.Core.Bool.{Bool, true, false, ◌&&◌, cond}
use mathlib.Core.List.{List, [], ◌∷◌, ◌++◌, append_assoc}
use Prim.Native.Nat.{ℕ, zero, suc, ◌+◌, ◌-◌, ◌^◌, ◌≤◌}
use native.Mathlib.Nat.{pow-le-pow_right}
use native.Mathlib.Omega.{arith}
use lib.Dec.{leb}
use lib.IntN.{ℤ, pos, negsuc}
use lib.ListN.{length, get_or, drop, replicate}
use lib.Seq.{drop-drop}
use borrow.Author.Tests.{leb-true}
use Rattle.base.proofs.Booleans.{and_left, and_right}
use Rattle.market.specs.Bytes.{is_digit, is_sign, is_space, is_end}
use Rattle.market.specs.Fields.{Scan, got, none, Signed, is, no, line, broken, digits, is_needed, is_number, value_of, numeral, spaces, shifted, field, positive, negative, value, shifted_signed, value_field, on_number, on_signed, fields}
use Rattle.market.specs.Text.{natural, integer}
use Rattle.market.specs.Texts.{Gaps, gap, spaced_line}
use Rattle.market.proofs.Classes.{is_means}
use Rattle.market.proofs.Spelled.{all_digits, spelled, spelled_as}

-- no number, no signed number and no line is one
none_never : {X : Type 0} {v k : ℕ} → none ≡ got v k → X
none_never e = let z : ◌≡◌ {A = ℕ} 0 1 = cc in absurd (omega arith)

no_never : {X : Type 0} {v : ℤ} {k : ℕ} → no ≡ is v k → X
no_never e = let z : ◌≡◌ {A = ℕ} 0 1 = cc in absurd (omega arith)

broken_never : {X : Type 0} {r c k : ℕ} {v : ℤ} → broken ≡ line r c v k → X
broken_never e = let z : ◌≡◌ {A = ℕ} 0 1 = cc in absurd (omega arith)

-- ---- numbers

digits-split : (xs : List ℕ) → xs ≡ digits xs ++ drop (length (digits xs)) xs
unfolding digits
digits-split [] = refl
digits-split (b ∷ bs) = go (is_digit b) (digits-split bs)
  where
    go : (t : Bool) → bs ≡ digits bs ++ drop (length (digits bs)) bs → b ∷ bs ≡ cond t (b ∷ digits bs) [] ++ drop (length (cond t (b ∷ digits bs) [])) (b ∷ bs)
    go true ih = ap (λ (l : List ℕ). b ∷ l) ih
    go false ih = refl

number_digits : (ds : List ℕ) → is_number ds ≡ true → (1 ≤ length ds) × (length ds ≤ 10) × (is_needed ds ≡ true)
unfolding is_number
number_digits ds h =
    let p = and_left (leb 1 (length ds) && leb (length ds) 10) (is_needed ds) h in
    (leb-true 1 (length ds) (and_left (leb 1 (length ds)) (leb (length ds) 10) p), leb-true (length ds) 10 (and_right (leb 1 (length ds)) (leb (length ds) 10) p), and_right (leb 1 (length ds) && leb (length ds) 10) (is_needed ds) h)

-- a number stands there as it is written
numeral-taken : (xs : List ℕ) (v k : ℕ) → numeral xs ≡ got v k → xs ≡ natural v ++ drop k xs
unfolding numeral
numeral-taken xs v k e = go (is_number (digits xs)) refl e
  where
    ds : List ℕ
    ds = digits xs

    go : (t : Bool) → is_number ds ≡ t → cond t (got (value_of 0 ds) (length ds)) none ≡ got v k → xs ≡ natural v ++ drop k xs
    go true h e =
        let (some, few, needed) = number_digits ds h in
        let s = spelled ds (all_digits xs) some needed in
        let a : value_of 0 ds ≡ v = cc in
        let b : length ds ≡ k = cc in
        let m : 10 ^ length ds ≤ 10 ^ 10 = pow-le-pow_right {n = 10} (omega arith) few in
        let n : natural v ≡ ds = ap natural (sym a) ∙ spelled_as 9 s some (omega (arith, s.small)) in
        rw (n, ← b) (digits-split xs)
    go false h e = none_never e

-- a value, too
signed-taken : (xs : List ℕ) (v : ℤ) (k : ℕ) → value xs ≡ is v k → xs ≡ integer v ++ drop k xs
unfolding value
signed-taken xs v k e = go (is_sign (get_or xs 0 0)) refl e
  where
    plain : (s : Scan) → numeral xs ≡ s → positive s ≡ is v k → xs ≡ integer v ++ drop k xs
    plain none f e = no_never e
    plain (got u m) f e =
        let a : pos u ≡ v = cc in
        let b : m ≡ k = cc in
        rw (← a, ← b) (numeral-taken xs u m f)

    less : (ys : List ℕ) (s : Scan) → is_sign (get_or ys 0 0) ≡ true → numeral (drop 1 ys) ≡ s → negative s ≡ is v k → ys ≡ integer v ++ drop k ys
    less ys none h f e = no_never e
    less ys (got zero m) h f e = no_never e
    less [] (got (suc u) m) h f e = let z = is_means 0 2 h in absurd (omega arith)
    less (b ∷ bs) (got (suc u) m) h f e =
        let a : negsuc u ≡ v = cc in
        let l : suc m ≡ k = cc in
        let c : b ≡ 45 = is_means b 2 h in
        rw (← a, ← l) (ap (λ (x : ℕ). x ∷ bs) c ∙ ap (λ (l : List ℕ). 45 ∷ l) (numeral-taken bs (suc u) m f))

    go : (t : Bool) → is_sign (get_or xs 0 0) ≡ t → cond t (negative (numeral (drop 1 xs))) (positive (numeral xs)) ≡ is v k → xs ≡ integer v ++ drop k xs
    go true h e = less xs (numeral (drop 1 xs)) h refl e
    go false h e = plain (numeral xs) refl e

-- ---- fields

spaces-split : (xs : List ℕ) → xs ≡ replicate (spaces xs) 32 ++ drop (spaces xs) xs
unfolding spaces
spaces-split [] = refl
spaces-split (b ∷ bs) = go (is_space b) refl (spaces-split bs)
  where
    go : (t : Bool) → is_space b ≡ t → bs ≡ replicate (spaces bs) 32 ++ drop (spaces bs) bs → b ∷ bs ≡ replicate (cond t (suc (spaces bs)) 0) 32 ++ drop (cond t (suc (spaces bs)) 0) (b ∷ bs)
    go true h ih = let e : b ≡ 32 = is_means b 3 h in ap (λ (x : ℕ). x ∷ bs) e ∙ ap (λ (l : List ℕ). 32 ∷ l) ih
    go false h ih = refl

-- a gap, and what is written after it
after-gap : (xs q : List ℕ) (k : ℕ) → 1 ≤ spaces xs → drop (spaces xs) xs ≡ q ++ drop k (drop (spaces xs) xs) → xs ≡ gap (spaces xs - 1) ++ (q ++ drop (spaces xs + k) xs)
after-gap xs q k l e =
    let s : suc (spaces xs - 1) ≡ spaces xs = omega arith in
    spaces-split xs ∙ ap (λ (m : ℕ). replicate m 32 ++ drop (spaces xs) xs) (sym s) ∙ ap (λ (ys : List ℕ). gap (spaces xs - 1) ++ ys) (e ∙ ap (λ (ys : List ℕ). q ++ ys) (drop-drop k (spaces xs) xs))

field-taken : (xs : List ℕ) (v k : ℕ) → field xs ≡ got v k → xs ≡ gap (spaces xs - 1) ++ (natural v ++ drop k xs)
unfolding field
field-taken xs v k e = go (leb 1 (spaces xs)) refl (numeral (drop (spaces xs) xs)) refl e
  where
    go : (t : Bool) → leb 1 (spaces xs) ≡ t → (s : Scan) → numeral (drop (spaces xs) xs) ≡ s → cond t (shifted (spaces xs) s) none ≡ got v k → xs ≡ gap (spaces xs - 1) ++ (natural v ++ drop k xs)
    go true h (got u m) f e =
        let a : u ≡ v = cc in
        let b : spaces xs + m ≡ k = cc in
        rw (← a, ← b) (after-gap xs (natural u) m (leb-true 1 (spaces xs) h) (numeral-taken (drop (spaces xs) xs) u m f))
    go true h none f e = none_never e
    go false h s f e = none_never e

value_taken : (xs : List ℕ) (v : ℤ) (k : ℕ) → value_field xs ≡ is v k → xs ≡ gap (spaces xs - 1) ++ (integer v ++ drop k xs)
unfolding value_field
value_taken xs v k e = go (leb 1 (spaces xs)) refl (value (drop (spaces xs) xs)) refl e
  where
    go : (t : Bool) → leb 1 (spaces xs) ≡ t → (s : Signed) → value (drop (spaces xs) xs) ≡ s → cond t (shifted_signed (spaces xs) s) no ≡ is v k → xs ≡ gap (spaces xs - 1) ++ (integer v ++ drop k xs)
    go true h (is u m) f e =
        let a : u ≡ v = cc in
        let b : spaces xs + m ≡ k = cc in
        rw (← a, ← b) (after-gap xs (integer u) m (leb-true 1 (spaces xs) h) (signed-taken (drop (spaces xs) xs) u m f))
    go true h no f e = no_never e
    go false h s f e = no_never e

-- ---- a line

end_taken : (ys : List ℕ) → is_end (get_or ys 0 0) ≡ true → ys ≡ 10 ∷ drop 1 ys
end_taken [] h = let z = is_means 0 4 h in absurd (omega arith)
end_taken (b ∷ bs) h = ap (λ (x : ℕ). x ∷ bs) (is_means b 4 h)

-- a line of three fields with some spaces between them, and the text after it
pub record LineTaken (xs : List ℕ) (r c : ℕ) (v : ℤ) (k : ℕ) : Type 0 where
  pub gaps : Gaps
  pub is : xs ≡ spaced_line gaps r c v ++ drop k xs

pub line_taken : (xs : List ℕ) (r c : ℕ) (v : ℤ) (k : ℕ) → fields xs ≡ line r c v k → LineTaken xs r c v k
unfolding fields
line_taken xs r c v k e = first (numeral xs) refl e
  where
    third : (a b d : ℕ) (r' c' : ℕ) (v' : ℤ) (t : Bool) → numeral xs ≡ got r' a → field (drop a xs) ≡ got c' b → value_field (drop (a + b) xs) ≡ is v' d
        → is_end (get_or (drop (a + b + d) xs) 0 0) ≡ t → cond t (line r' c' v' (a + b + d + 1)) broken ≡ line r c v k → LineTaken xs r c v k
    third a b d r' c' v' false f g h i e = broken_never e
    third a b d r' c' v' true f g h i e =
        let er : r' ≡ r = cc in
        let ec : c' ≡ c = cc in
        let ev : v' ≡ v = cc in
        let ek : a + b + d + 1 ≡ k = cc in
        let m : ℕ = spaces (drop a xs) - 1 in
        let w : ℕ = spaces (drop (a + b) xs) - 1 in
        let p1 : xs ≡ natural r ++ drop a xs = numeral-taken xs r a (f ∙ ap (λ (x : ℕ). got x a) er) in
        let p2 : drop a xs ≡ gap m ++ (natural c ++ drop (a + b) xs) = field-taken (drop a xs) c b (g ∙ ap (λ (x : ℕ). got x b) ec) ∙ ap (λ (ys : List ℕ). gap m ++ (natural c ++ ys)) (drop-drop b a xs) in
        let p3 : drop (a + b) xs ≡ gap w ++ (integer v ++ drop (a + b + d) xs) = value_taken (drop (a + b) xs) v d (h ∙ ap (λ (x : ℤ). is x d) ev) ∙ ap (λ (ys : List ℕ). gap w ++ (integer v ++ ys)) (drop-drop d (a + b) xs) in
        let p4 : drop (a + b + d) xs ≡ 10 ∷ drop k xs = end_taken (drop (a + b + d) xs) i ∙ ap (λ (ys : List ℕ). 10 ∷ ys) (drop-drop 1 (a + b + d) xs ∙ ap (λ (y : ℕ). drop y xs) ek) in
        record {
          gaps = record { left = m; right = w };
          is = p1 ∙ ap (λ (ys : List ℕ). natural r ++ ys) (p2 ∙ ap (λ (ys : List ℕ). gap m ++ (natural c ++ ys)) (p3 ∙ ap (λ (ys : List ℕ). gap w ++ (integer v ++ ys)) p4)) ∙ sym (simp append_assoc);
        }

    second : (a b r' c' : ℕ) (s : Signed) → numeral xs ≡ got r' a → field (drop a xs) ≡ got c' b → value_field (drop (a + b) xs) ≡ s
        → on_signed s (λ v d. cond (is_end (get_or (drop (a + b + d) xs) 0 0)) (line r' c' v (a + b + d + 1)) broken) ≡ line r c v k → LineTaken xs r c v k
    second a b r' c' no f g h e = broken_never e
    second a b r' c' (is v' d) f g h e = third a b d r' c' v' (is_end (get_or (drop (a + b + d) xs) 0 0)) f g h refl e

    middle : (a r' : ℕ) (s : Scan) → numeral xs ≡ got r' a → field (drop a xs) ≡ s
        → on_number s (λ c b. on_signed (value_field (drop (a + b) xs)) (λ v d. cond (is_end (get_or (drop (a + b + d) xs) 0 0)) (line r' c v (a + b + d + 1)) broken)) ≡ line r c v k → LineTaken xs r c v k
    middle a r' none f g e = broken_never e
    middle a r' (got c' b) f g e = second a b r' c' (value_field (drop (a + b) xs)) f g refl e

    first : (s : Scan) → numeral xs ≡ s
        → on_number s (λ r a. on_number (field (drop a xs)) (λ c b. on_signed (value_field (drop (a + b) xs)) (λ v d. cond (is_end (get_or (drop (a + b + d) xs) 0 0)) (line r c v (a + b + d + 1)) broken))) ≡ line r c v k
        → LineTaken xs r c v k
    first none f e = broken_never e
    first (got r' a) f e = middle a r' (field (drop a xs)) f refl e
