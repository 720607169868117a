-- Loading what was stored gives the numbers back, for any width and any code of one number.
use mathlib.Core.Path.{◌≡◌, refl}
use mathlib.Core.List.{List, [], ◌∷◌, ◌++◌, map, map-append, append_assoc, append-nil}
use Prim.Native.Nat.{ℕ, ◌+◌, ◌/◌, ◌<◌}
use native.Mathlib.Nat.{add-zero, zero-add, suc-add, mul-div_cancel, mul-add-div_right}
use lib.ListN.{length, length-append}
use lib.Seq.{take_at, drop_at}
use Rattle.base.specs.Lists.{concat}
use Rattle.base.proofs.Each.{Each}
use Rattle.words.specs.LittleEndian.{blocks}
use Rattle.words.proofs.Blocks.{decoded, encoded, length_encoded}

-- a code of one number in `width` bytes: f writes it and g reads it; P: the numbers that have one
pub record Code {A : Type 0} (f : A → List ℕ) (g : List ℕ → A) (width : ℕ) (P : A → Type 0) : Type 0 where
  pub some : 0 < width
  pub size : (a : A) → length (f a) ≡ width
  pub back : (a : A) → P a → g (f a) ≡ a

module _ {A : Type 0} (f : A → List ℕ) (g : List ℕ → A) (width : ℕ) (P : A → Type 0) (code : Code f g width P) where
  -- the blocks of numbers' bytes, with anything after them
  blocks_encoded : (xs : List A) (more : ℕ) (rest : List ℕ) → blocks width (length xs + more) (concat (map f xs) ++ rest) ≡ map f xs ++ blocks width more rest
  unfolding blocks
  blocks_encoded [] more rest = rw zero-add
  blocks_encoded (x ∷ xs) more rest =
      rw (
        suc-add (length xs) more,
        append_assoc (f x) (concat (map f xs)) rest,
        take_at (f x) (concat (map f xs) ++ rest) width (code.size x),
        drop_at (f x) (concat (map f xs) ++ rest) width (code.size x),
        blocks_encoded xs more rest,
      )

  read_back : (xs : List A) → Each P xs → map g (map f xs) ≡ xs
  read_back [] h = refl
  read_back (x ∷ xs) h = rw (code.back x h.0, read_back xs h.1)

  -- the numbers of numbers' bytes, with anything after them
  pub decoded_append : (xs : List A) → Each P xs → (rest : List ℕ) → decoded g width (encoded f xs ++ rest) ≡ xs ++ decoded g width rest
  decoded_append xs h rest =
      let count : length (encoded f xs ++ rest) / width ≡ length xs + length rest / width = rw (length-append (encoded f xs) rest, length_encoded f width code.size xs) (mul-add-div_right code.some (length xs) (length rest)) in
      rw (count, blocks_encoded xs (length rest / width) rest, map-append, read_back xs h)

  -- the numbers of numbers' bytes
  pub decoded_encoded : (xs : List A) → Each P xs → decoded g width (encoded f xs) ≡ xs
  unfolding blocks
  decoded_encoded xs h =
      let count : length (encoded f xs) / width ≡ length xs + 0 = rw (length_encoded f width code.size xs, add-zero) (mul-div_cancel (length xs) code.some) in
      let split : blocks width (length xs + 0) (encoded f xs) ≡ map f xs = rw (append-nil (encoded f xs), append-nil (map f xs)) at (blocks_encoded xs 0 []) in
      rw (count, split, read_back xs h)
