-- What the functions of this crate need of their definitions.
use mathlib.Core.Path.{◌≡◌, refl, sym, ap, ◌∙◌}
use mathlib.Core.Bool.{Bool, true, false, ◌||◌}
use mathlib.Core.List.{List}
use Prim.Native.Nat.{ℕ, ◌+◌, ◌*◌, ◌/◌, ◌≤◌, ◌<◌}
use native.Mathlib.Omega.{arith}
use native.Mathlib.Numerals.{add-one}
use lib.Dec.{ltb}
use lib.IntN.{ℤ, pos}
use lib.ListN.{length, get_or, set, get_or-eq_default}
use lib.Seq.{sets, length-sets, set_out}
use borrow.Author.Tests.{ltb-true, ltb-false, lt-ltb, le-ltb}
use Rattle.run.specs.Updates.{no_update}
use Rattle.words.specs.LittleEndian.{to_signed, of_signed, bytes_of, signed_bytes_of, signed_number, signed}
use Rattle.words.specs.Code.Places.{four_at, eight_at}
use Rattle.words.proofs.Blocks.{length_decoded}
use Rattle.words.proofs.Digits.{length-signed_bytes_of}
use Rattle.words.proofs.Codes.{HoldsSigned}
use Rattle.prepared.specs.Gates.{behind}
use Rattle.prepared.proofs.InPlace.{load_signed, store-signed, past-sets}
use Rattle.picking.specs.Code.Reads.{loaded_at, stored_at, gate_at, update_of, update_at, shut_at}
use Rattle.picking.specs.Code.Picks.{SumsKept}

or_comm : (a b : Bool) → a || b ≡ b || a
or_comm true true = refl
or_comm true false = refl
or_comm false true = refl
or_comm false false = refl

module _ (made : List ℕ) (need : ℕ → ℕ) where
  pub behind-start : false ≡ behind made need 0
  unfolding behind
  behind-start = refl

  pub behind-turn : (v : ℕ) (late : Bool) (r : ℕ) → late ≡ behind made need v → r ≡ need v → late || ltb (get_or made v 0) r ≡ behind made need (v + 1)
  unfolding behind
  behind-turn v late r e h = rw (add-one v, e, h) (or_comm (behind made need v) (ltb (get_or made v 0) (need v)))

  pub behind-all : (v : ℕ) (late : Bool) → v ≡ 16 → late ≡ behind made need v → late ≡ behind made need 16
  behind-all v late q e = e ∙ ap (behind made need) q

module _ (sums : List ℕ) (rows t : ℕ) where
  pub loaded_none : rows ≤ t → pos 0 ≡ loaded_at sums rows t
  unfolding loaded_at
  loaded_none h = rw (le-ltb t rows h) refl

  pub loaded_is : t < rows → to_signed 8 (eight_at sums (t * 8)) ≡ loaded_at sums rows t
  unfolding loaded_at
  loaded_is h = rw (lt-ltb t rows h) refl

  pub stored-none : rows ≤ t → (z : ℤ) → sums ≡ stored_at sums rows t z
  unfolding stored_at
  stored-none h z = rw (le-ltb t rows h) refl

  pub stored_is : t < rows → (z : ℤ) → sets sums (t * 8) (bytes_of 8 (of_signed 8 z)) ≡ stored_at sums rows t z
  unfolding stored_at
  stored_is h z = rw (lt-ltb t rows h) refl

module _ (list : List ℕ) (count k : ℕ) where
  pub update-none : count ≤ k → update_of (record { amount = pos 0; target = 0; row = 0 }) ≡ update_at list count k
  unfolding update_at update_of no_update
  update-none h = rw (le-ltb k count h) refl

  pub update-is : k < count → (a : ℤ) (t r : ℕ) → a ≡ to_signed 8 (eight_at list (144 + k * 16)) → t ≡ four_at list (144 + k * 16 + 8) → r ≡ four_at list (144 + k * 16 + 12)
      → update_of (record { amount = a; target = t; row = r }) ≡ update_at list count k
  unfolding update_at update_of
  update-is h a t r x y z = rw (lt-ltb k count h, x, y, z) refl

-- ---- the sums that bytes stand for

module _ (sums : List ℕ) (rows t : ℕ) (all : rows ≡ length sums / 8) where
  pub loaded_signed : loaded_at sums rows t ≡ get_or (signed 8 sums) t (pos 0)
  loaded_signed = go (ltb t rows) refl
    where
      go : (b : Bool) → ltb t rows ≡ b → loaded_at sums rows t ≡ get_or (signed 8 sums) t (pos 0)
      go true e = let l = ltb-true t rows e in sym (loaded_is sums rows t l) ∙ sym (load_signed sums t (omega arith))
      go false e =
          let l = ltb-false t rows e in
          sym (loaded_none sums rows t l) ∙ sym (get_or-eq_default (signed 8 sums) (pos 0) (omega (arith, length_decoded (signed_number 8) 8 sums)))

  module _ (z : ℤ) where
    pub stored-signed : HoldsSigned 8 z → signed 8 (stored_at sums rows t z) ≡ set (signed 8 sums) t z
    stored-signed h = go (ltb t rows) refl
      where
        go : (b : Bool) → ltb t rows ≡ b → signed 8 (stored_at sums rows t z) ≡ set (signed 8 sums) t z
        go true e = let l = ltb-true t rows e in ap (signed 8) (sym (stored_is sums rows t l z)) ∙ store-signed sums t z h (omega arith)
        go false e =
            let l = ltb-false t rows e in
            ap (signed 8) (sym (stored-none sums rows t l z)) ∙ sym (set_out (signed 8 sums) t z (omega (arith, length_decoded (signed_number 8) 8 sums)))

    -- what stands past the sums is kept
    pub stored-kept : SumsKept rows sums (stored_at sums rows t z)
    stored-kept = go (ltb t rows) refl
      where
        bytes : List ℕ
        bytes = signed_bytes_of 8 z

        go : (b : Bool) → ltb t rows ≡ b → SumsKept rows sums (stored_at sums rows t z)
        go true e =
            let l = ltb-true t rows e in
            rw (← stored_is sums rows t l z)
            (record { long = length-sets sums (t * 8) bytes; past = past-sets sums (t * 8) bytes (rows * 8) (omega (arith, length-signed_bytes_of 8 z)) })
        go false e = rw (← stored-none sums rows t (ltb-false t rows e) z) (record { long = refl; past = refl })

module _ (list : List ℕ) (gates rows row : ℕ) (made : List ℕ) where
  pub shut_none : rows ≤ row → false ≡ shut_at list gates rows row made
  unfolding shut_at
  shut_none h = rw (le-ltb row rows h) refl

  pub shut_is : row < rows → behind made (gate_at list (gates + row * 64)) 16 ≡ shut_at list gates rows row made
  unfolding shut_at
  shut_is h = rw (lt-ltb row rows h) refl
