-- The number of the line at a position, by its sign, its digits and the byte after them.
use Rattle.std.proofs.Common.{◌≡◌, ℕ, zero, suc, ◌+◌, ◌^◌, ◌<◌, min, Bool, true, false, cond, ltb, List, ◌∷◌, length, get_or, drop, pos, negsuc, refl, ap, ◌∙◌, arith, get_or-drop, ltb-false, ltb-true, le-ltb, eqb-true}
use mir.Val.{bool_byte}
use Rattle.market.specs.Bytes.{class_of, is_sign, is_end}
use Rattle.market.specs.Fields.{got, none, Signed, is, no, digits, value_of, positive, negative}
use Rattle.scan.proofs.Left.{left-cons}
use Rattle.scan.proofs.numbers.Scanning.{class_inside}
use Rattle.numbers.specs.Lines.{is_spelled, whole_number, with_end, number_on}
use Rattle.std.proofs.Common.{Err}
use Rattle.base.specs.declared.Kind.TheVariants as kind
use Rattle.numbers.specs.Code.Lines.{many, plain_of, negative_of, line_at}

-- what k digits of the value v are, after a sign or not, if the line ends after them or not
number_by : (signed : Bool) (v k : ℕ) (end : Bool) → Signed
number_by false v k end = cond end (is (pos v) k) no
number_by true zero k end = no
number_by true (suc v) k end = cond end (is (negsuc v) (suc k)) no

module _ (s : List ℕ) (at : ℕ) where
  -- a sign and a line end stand in the text
  pub sign_inside : is_sign (get_or s at 0) ≡ true → at < length s
  sign_inside h = class_inside s at (omega (arith, eqb-true (class_of (get_or s at 0)) 2 h))

  pub end_inside : is_end (get_or s at 0) ≡ true → at < length s
  end_inside h = class_inside s at (omega (arith, eqb-true (class_of (get_or s at 0)) 4 h))

  number_at : (t : Bool) → is_sign (get_or s at 0) ≡ t → (ds : List ℕ) → ds ≡ digits (drop (at + bool_byte t) s)
      → number_on (drop at s) ≡ cond (is_spelled ds) (number_by t (value_of 0 ds) (length ds) (is_end (get_or s (at + bool_byte t + length ds) 0))) no
  unfolding number_on whole_number number_by
  number_at false e ds d =
      let z : at + 0 ≡ at = omega arith in
      let here : get_or (drop at s) 0 0 ≡ get_or s at 0 = get_or-drop at s 0 0 ∙ rw z in
      rw (here, e, d, z) (go (is_spelled (digits (drop at s))))
    where
      go : (w : Bool) → with_end (drop at s) (positive (cond w (got (value_of 0 (digits (drop at s))) (length (digits (drop at s)))) none))
          ≡ cond w (cond (is_end (get_or s (at + length (digits (drop at s))) 0)) (is (pos (value_of 0 (digits (drop at s)))) (length (digits (drop at s)))) no) no
      go true = rw (get_or-drop at s (length (digits (drop at s))) 0)
      go false = refl
  number_at true e ds d = rw (left-cons s at (sign_inside e), e, d) (go (is_spelled ys) (value_of 0 ys))
    where
      ys : List ℕ
      ys = digits (drop (at + 1) s)

      byte : get_or (drop (at + 1) s) (length ys) 0 ≡ get_or s (at + 1 + length ys) 0
      byte = get_or-drop (at + 1) s (length ys) 0

      go : (w : Bool) (v : ℕ) → with_end (get_or s at 0 ∷ drop (at + 1) s) (negative (cond w (got v (length ys)) none)) ≡ cond w (number_by true v (length ys) (is_end (get_or s (at + 1 + length ys) 0))) no
      go true zero = refl
      go true (suc v) = rw byte
      go false v = refl

-- a line that does not end
number_unended : (t : Bool) (v k : ℕ) → number_by t v k false ≡ no
unfolding number_by
number_unended false v k = refl
number_unended true zero k = refl
number_unended true (suc v) k = refl

-- ---- a value that is told up to a limit

plain-told : (p v k : ℕ) → plain_of (min v many) (p + k + 1) ≡ line_at p (number_by false v k true)
unfolding number_by
plain-told p v k = go (ltb v (2 ^ 63)) refl
  where
    go : (t : Bool) → ltb v (2 ^ 63) ≡ t → plain_of (min v many) (p + k + 1) ≡ plain_of v (p + k + 1)
    go true e = let m : min v many ≡ v = omega (arith, ltb-true v (2 ^ 63) e) in rw m
    go false e = let l = ltb-false v (2 ^ 63) e in rw (e, le-ltb (min v many) (2 ^ 63) (omega arith))

negative-told : (p v k : ℕ) → negative_of (min v many) (p + 1 + k + 1) ≡ line_at p (number_by true v k true)
unfolding number_by
negative-told p zero k = refl
negative-told p (suc v) k = go (ltb v (2 ^ 63)) refl
  where
    next : p + 1 + k + 1 ≡ p + suc k + 1
    next = omega arith

    past : (m : ℕ) → 2 ^ 63 < m → negative_of m (p + 1 + k + 1) ≡ Err kind.BadEntry
    past zero h = absurd (omega arith)
    past (suc m) h = rw (le-ltb m (2 ^ 63) (omega arith))

    go : (t : Bool) → ltb v (2 ^ 63) ≡ t → negative_of (min (suc v) many) (p + 1 + k + 1) ≡ negative_of (suc v) (p + suc k + 1)
    go true e = let m : min (suc v) many ≡ suc v = omega (arith, ltb-true v (2 ^ 63) e) in rw (m, next)
    go false e = let l = ltb-false v (2 ^ 63) e in past (min (suc v) many) (omega arith) ∙ rw e

-- ---- the line that the code tells

-- the digits after a sign or none
abbrev pub digits_at : List ℕ → ℕ → Bool → List ℕ
digits_at s at t = digits (drop (at + bool_byte t) s)

module _ (s : List ℕ) (at : ℕ) {t : Bool} (signed : is_sign (get_or s at 0) ≡ t) {value next : ℕ} (told : value ≡ min (value_of 0 (digits_at s at t)) many) (after : next ≡ at + bool_byte t + length (digits_at s at t)) where
  by_end : is_spelled (digits_at s at t) ≡ true → {e : Bool} → is_end (get_or s next 0) ≡ e → number_on (drop at s) ≡ number_by t (value_of 0 (digits_at s at t)) (length (digits_at s at t)) e
  by_end w {e} end = number_at s at t signed (digits_at s at t) refl ∙ rw (w, ← after, end)

  pub line-none : is_spelled (digits_at s at t) ≡ false → Err kind.BadForm ≡ line_at at (number_on (drop at s))
  line-none w = rw (number_at s at t signed (digits_at s at t) refl, w)

  pub line_unended : is_spelled (digits_at s at t) ≡ true → is_end (get_or s next 0) ≡ false → Err kind.BadForm ≡ line_at at (number_on (drop at s))
  line_unended w e = rw (by_end w e, number_unended t (value_of 0 (digits_at s at t)) (length (digits_at s at t)))

  pub line-negative : is_spelled (digits_at s at t) ≡ true → is_end (get_or s next 0) ≡ true → t ≡ true → negative_of value (next + 1) ≡ line_at at (number_on (drop at s))
  line-negative w e h =
      let n : next ≡ at + 1 + length (digits_at s at t) = after ∙ ap (λ (b : Bool). at + bool_byte b + length (digits_at s at t)) h in
      rw (by_end w e, told, n) (negative-told at (value_of 0 (digits_at s at t)) (length (digits_at s at t)) ∙ rw h)

  pub line_plain : is_spelled (digits_at s at t) ≡ true → is_end (get_or s next 0) ≡ true → t ≡ false → plain_of value (next + 1) ≡ line_at at (number_on (drop at s))
  line_plain w e h =
      let z : at + 0 + length (digits_at s at t) ≡ at + length (digits_at s at t) = omega arith in
      let n : next ≡ at + length (digits_at s at t) = after ∙ ap (λ (b : Bool). at + bool_byte b + length (digits_at s at t)) h ∙ z in
      rw (by_end w e, told, n) (plain-told at (value_of 0 (digits_at s at t)) (length (digits_at s at t)) ∙ rw h)
