-- A sum that is loaded or stored in its bytes, in place: the list of sums that the bytes stand for.
use mathlib.Core.Path.{◌≡◌, refl, sym, ap, ◌∙◌}
use mathlib.Core.Logic.{◌⊎◌, inl, inr, ◌≢◌}
use mathlib.Core.Bool.{Bool, true, false}
use mathlib.Core.List.{List, [], ◌∷◌, ◌++◌, append_assoc}
use Prim.Native.Nat.{ℕ, suc, ◌+◌, ◌*◌, ◌-◌, ◌/◌, ◌≤◌, ◌<◌}
use native.Mathlib.Omega.{arith}
use lib.Dec.{ltb}
use lib.IntN.{ℤ, pos}
use lib.ListN.{length, get_or, take, drop, set, length-set}
use lib.Seq.{sets, length-sets, sets-eq, take_at, drop_at, take-set-le, drop-set-lt, length-take-le, get_or-set_same, get_or-set_other, ext_get_or}
use borrow.Author.Tests.{ltb-true, ltb-false}
use Rattle.base.proofs.Booleans.{same_or}
use Rattle.base.proofs.Lists.{take-drop}
use Rattle.words.specs.LittleEndian.{number, to_signed, signed_number, signed_bytes_of, signed}
use Rattle.words.specs.Code.Places.{eight_at}
use Rattle.words.proofs.Digits.{length-signed_bytes_of, eight-at}
use Rattle.words.proofs.Blocks.{decoded_at, length_decoded}
use Rattle.words.proofs.Codes.{HoldsSigned, signed_code}

module _ {A : Type 0} where
  -- what is stored before a place, or from a place on
  pub past-sets : (l : List A) (i : ℕ) (vs : List A) (a : ℕ) → i + length vs ≤ a → drop a (sets l i vs) ≡ drop a l
  past-sets l i [] a h = refl
  past-sets l i (v ∷ vs) a h = past-sets (set l i v) (suc i) vs a (omega arith) ∙ drop-set-lt a l i v (omega arith)

  before-sets : (l : List A) (i : ℕ) (vs : List A) (e : ℕ) → e ≤ i → take e (sets l i vs) ≡ take e l
  before-sets l i [] e h = refl
  before-sets l i (v ∷ vs) e h = before-sets (set l i v) (suc i) vs e (omega arith) ∙ take-set-le e l i v h

  here-sets : (l : List A) (i : ℕ) (vs : List A) (w : ℕ) → length vs ≡ w → i + length vs ≤ length l → take w (drop i (sets l i vs)) ≡ vs
  here-sets l i vs w e h =
      ap (λ (x : List A). take w (drop i x)) (sets-eq vs l i h ∙ append_assoc (take i l) vs (drop (i + length vs) l))
      ∙ ap (take w) (drop_at (take i l) (vs ++ drop (i + length vs) l) i (length-take-le i l (omega arith))) ∙ take_at vs (drop (i + length vs) l) w e

-- sum t is loaded
pub load_signed : (bytes : List ℕ) (t : ℕ) → t < length bytes / 8 → get_or (signed 8 bytes) t (pos 0) ≡ to_signed 8 (eight_at bytes (t * 8))
unfolding number to_signed
load_signed bytes t l = decoded_at (signed_number 8) 8 bytes t l ∙ ap (to_signed 8) (sym (eight-at bytes (t * 8) (omega arith)))

-- sum t is stored
module _ (bytes : List ℕ) (t : ℕ) (z : ℤ) (holds : HoldsSigned 8 z) (fits : t < length bytes / 8) where
  abbrev new : List ℕ
  new = sets bytes (t * 8) (signed_bytes_of 8 z)

  abbrev vs : List ℕ
  vs = signed_bytes_of 8 z

  vs_long : length vs ≡ 8
  vs_long = length-signed_bytes_of 8 z

  abbrev block : ℕ → List ℕ → List ℕ
  block k l = take 8 (drop (k * 8) l)

  other : (k : ℕ) → k ≢ t → block k new ≡ block k bytes
  other k d = go (ltb k t) refl
    where
      e : k * 8 + 8 - k * 8 ≡ 8
      e = omega arith

      cut : (l : List ℕ) → block k l ≡ drop (k * 8) (take (k * 8 + 8) l)
      cut l = ap (λ (w : ℕ). take w (drop (k * 8) l)) (sym e) ∙ take-drop (k * 8) (k * 8 + 8) l

      go : (b : Bool) → ltb k t ≡ b → block k new ≡ block k bytes
      go true c = cut new ∙ ap (drop (k * 8)) (before-sets bytes (t * 8) vs (k * 8 + 8) (omega (arith, ltb-true k t c))) ∙ sym (cut bytes)
      go false c = ap (take 8) (past-sets bytes (t * 8) vs (k * 8) (omega (arith, vs_long, ltb-false k t c)))

  same-long : length new / 8 ≡ length bytes / 8
  same-long = ap (λ (n : ℕ). n / 8) (length-sets bytes (t * 8) vs)

  pub store-signed : signed 8 new ≡ set (signed 8 bytes) t z
  store-signed =
      ext_get_or (signed_number 8 []) (signed 8 new) (set (signed 8 bytes) t z)
      (length_decoded (signed_number 8) 8 new ∙ same-long ∙ sym (length_decoded (signed_number 8) 8 bytes) ∙ sym (length-set (signed 8 bytes) t z)) at
    where
      at : (k : ℕ) → k < length (signed 8 new) → get_or (signed 8 new) k (signed_number 8 []) ≡ get_or (set (signed 8 bytes) t z) k (signed_number 8 [])
      at k l = decoded_at (signed_number 8) 8 new k low ∙ go (same_or k t)
        where
          low : k < length new / 8
          low = omega (arith, length_decoded (signed_number 8) 8 new)

          go : (k ≡ t) ⊎ (k ≢ t) → signed_number 8 (block k new) ≡ get_or (set (signed 8 bytes) t z) k (signed_number 8 [])
          go (inl q) =
              ap (λ (y : ℕ). signed_number 8 (block y new)) q
              ∙ ap (signed_number 8) (here-sets bytes (t * 8) vs 8 vs_long (omega (arith, vs_long)))
              ∙ (signed_code 8 (omega arith)).back z holds
              ∙ sym (get_or-set_same (signed 8 bytes) t z (signed_number 8 []) (omega (arith, length_decoded (signed_number 8) 8 bytes)))
              ∙ ap (λ (y : ℕ). get_or (set (signed 8 bytes) t z) y (signed_number 8 [])) (sym q)
          go (inr q) =
              ap (signed_number 8) (other k q) ∙ sym (decoded_at (signed_number 8) 8 bytes k (omega (arith, low, same-long)))
              ∙ sym (get_or-set_other (signed 8 bytes) t k z (signed_number 8 []) q)
