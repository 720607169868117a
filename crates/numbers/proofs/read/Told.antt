-- What the code's line says of the number there.
use Rattle.std.proofs.Common.{◌≡◌, ℕ, suc, ◌+◌, ◌-◌, ◌^◌, Bool, true, false, ltb, ℤ, pos, negsuc, refl}
use Rattle.base.specs.Integers.{fits64}
use Rattle.market.specs.Fields.{Signed, is, no}
use Rattle.words.specs.LittleEndian.{of_signed}
use Rattle.std.proofs.Common.{Ok, Err, ◌⊎◌, inl, inr, ap}
use Rattle.base.specs.declared.Kind.{Kind}
use Rattle.base.specs.declared.Kind.TheVariants as kind
use Rattle.numbers.specs.Code.Lines.{if_fits, line_at}

-- a number of 64 bits
pub record IsNumber (p bits next : ℕ) (x : Signed) : Type 0 where
  pub value : ℤ
  pub size : ℕ
  pub of : x ≡ is value size
  pub fits : fits64 value ≡ true
  pub after : next ≡ p + size + 1
  pub code : bits ≡ of_signed 8 value

-- one that passes 64 bits
pub record IsPast (x : Signed) : Type 0 where
  pub value : ℤ
  pub size : ℕ
  pub of : x ≡ is value size
  pub past : fits64 value ≡ false

module _ (p : ℕ) where
  pub number-told : (bits next : ℕ) (x : Signed) → Ok (bits, next) ≡ line_at p x → IsNumber p bits next x
  unfolding fits64 of_signed
  number-told bits next (is (pos v) k) e = go (ltb v (2 ^ 63)) refl e
    where
      go : (t : Bool) → ltb v (2 ^ 63) ≡ t → Ok (bits, next) ≡ if_fits t v (p + k + 1) → IsNumber p bits next (is (pos v) k)
      go true f e =
          let q : (bits, next) ≡ (v, p + k + 1) = cc in
          record { value = pos v; size = k; of = refl; fits = f; after = ap (λ (x : ℕ × ℕ). x.1) q; code = ap (λ (x : ℕ × ℕ). x.0) q }
      go false f e = absurd (cc)
  number-told bits next (is (negsuc v) k) e = go (ltb v (2 ^ 63)) refl e
    where
      go : (t : Bool) → ltb v (2 ^ 63) ≡ t → Ok (bits, next) ≡ if_fits t (2 ^ 64 - suc v) (p + k + 1) → IsNumber p bits next (is (negsuc v) k)
      go true f e =
          let q : (bits, next) ≡ (2 ^ 64 - suc v, p + k + 1) = cc in
          record { value = negsuc v; size = k; of = refl; fits = f; after = ap (λ (x : ℕ × ℕ). x.1) q; code = ap (λ (x : ℕ × ℕ). x.0) q }
      go false f e = absurd (cc)
  number-told bits next no e = absurd (cc)

  -- why a line is refused
  pub fault-told : (q : Kind) (x : Signed) → Err q ≡ line_at p x → (IsPast x × (q ≡ kind.BadEntry)) ⊎ ((x ≡ no) × (q ≡ kind.BadForm))
  unfolding fits64
  fault-told q (is (pos v) k) e = go (ltb v (2 ^ 63)) refl e
    where
      go : (t : Bool) → ltb v (2 ^ 63) ≡ t → Err q ≡ if_fits t v (p + k + 1) → (IsPast (is (pos v) k) × (q ≡ kind.BadEntry)) ⊎ ((is (pos v) k ≡ no) × (q ≡ kind.BadForm))
      go true f e = absurd (cc)
      go false f e = inl (record { value = pos v; size = k; of = refl; past = f }, cc)
  fault-told q (is (negsuc v) k) e = go (ltb v (2 ^ 63)) refl e
    where
      go : (t : Bool) → ltb v (2 ^ 63) ≡ t → Err q ≡ if_fits t (2 ^ 64 - suc v) (p + k + 1) → (IsPast (is (negsuc v) k) × (q ≡ kind.BadEntry)) ⊎ ((is (negsuc v) k ≡ no) × (q ≡ kind.BadForm))
      go true f e = absurd (cc)
      go false f e = inl (record { value = negsuc v; size = k; of = refl; past = f }, cc)
  fault-told q no e = inr (refl, cc)
