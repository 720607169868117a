-- Bytes put one before the other.
use Rattle.std.proofs.Common.{◌≡◌, ℕ, suc, ◌-◌, ◌^◌, ◌<◌, ◌≤◌, List, [], ◌∷◌, ◌++◌, length, drop, set, nat_abs, ◌∙◌, append_assoc, arith, length-append, length-set}
use Rattle.market.specs.Text.{decimal}
use Rattle.words.specs.LittleEndian.{to_signed}
use Rattle.numbers.specs.Lines.{number_line}
use Rattle.market.specs.Code.Puts.{PutBefore}
use Rattle.market.proofs.digits.Spelling.{drop-set}
use Rattle.numbers.proofs.width.Widths.{line_plain, line-negative, line-width}

-- one byte
pub put_one : (old : List ℕ) (end b : ℕ) → 1 ≤ end → end ≤ length old → PutBefore (b ∷ []) end (end - 1) old (set old (end - 1) b)
put_one old end b h k =
    let e : suc (end - 1) ≡ end = omega arith in
    record { begins = omega arith; long = length-set old (end - 1) b; text = drop-set old (end - 1) b (omega arith) ∙ rw e }

-- ys, and then xs before it
pub put_then : {xs ys : List ℕ} {end p r : ℕ} {old mid new : List ℕ} → PutBefore ys end p old mid → PutBefore xs p r mid new → PutBefore (xs ++ ys) end r old new
put_then {xs} {ys} {end} {p} {r} {old} a b = record {
  begins = rw (length-append xs ys) (omega (arith, a.begins, b.begins));
  long = b.long ∙ a.long;
  text = b.text ∙ rw a.text (append_sides xs ys (drop end old));
}
  where
    append_sides : (xs ys zs : List ℕ) → xs ++ (ys ++ zs) ≡ (xs ++ ys) ++ zs
    append_sides xs ys zs = rw append_assoc

-- ---- the line of a number in two's complement

module _ (v : ℕ) (old : List ℕ) {m end r : ℕ} {new : List ℕ} (is : m ≡ nat_abs (to_signed 8 v)) (room : length (number_line (to_signed 8 v)) ≤ end) (inside : end ≤ length old)
    (digits : PutBefore (decimal 19 m) (end - 1) r (set old (end - 1) 10) new) where
  feed_put : PutBefore (decimal 19 m ++ 10 ∷ []) end r old new
  feed_put = put_then (put_one old end 10 (omega (arith, line-width v, room)) inside) digits

  pub put_plain : v < 2 ^ 63 → PutBefore (number_line (to_signed 8 v)) end r old new
  put_plain h = rw (line_plain v h, ← is) feed_put

  module _ (negative : 2 ^ 63 ≤ v) where
    pub sign_room : 1 ≤ r
    sign_room =
        let l : length (number_line (to_signed 8 v)) ≡ suc (length (decimal 19 m ++ 10 ∷ [])) = rw (line-negative v negative, ← is) in
        omega (arith, room, l, feed_put.begins)

    pub sign_inside : r ≤ length new
    sign_inside = omega (arith, feed_put.begins, feed_put.long)

    pub put_negative : PutBefore (number_line (to_signed 8 v)) end (r - 1) old (set new (r - 1) 45)
    put_negative = rw (line-negative v negative, ← is) (put_then feed_put (put_one new r 45 sign_room sign_inside))
