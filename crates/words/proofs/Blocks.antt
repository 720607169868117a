-- Lists of numbers in blocks of bytes: what a loop over the numbers does in one turn, loading or storing, for any width
-- and any code of one number.
use mathlib.Core.Path.{◌≡◌, refl, ap, ◌∙◌}
use mathlib.Core.List.{List, [], ◌∷◌, ◌++◌, map, map-append, append_assoc, append-nil}
use Prim.Native.Nat.{ℕ, zero, suc, ◌+◌, ◌*◌, ◌/◌, ◌≤◌, ◌<◌, min}
use native.Mathlib.Nat.{add_comm, div-mul-le_self, mul-le-mul_right, zero-mul, suc-mul, le_of_lt, not-suc-le-zero, le_of_suc-le-suc}
use native.Mathlib.Numerals.{add-one}
use native.Mathlib.Omega.{arith}
use lib.ListN.{length, get_or, set, take, drop, length-append, length-set, length-drop, length-map, get_or-map}
use lib.Seq.{sets, sets-eq, length-sets, drop-drop, drop-append-add, take-suc, length-take-le, take_at}
use Rattle.base.proofs.Lists.{concat-append}
use Rattle.words.specs.LittleEndian.{blocks, whole_blocks, stored}
pub use Rattle.words.specs.LittleEndian.{decoded, encoded}
use Rattle.words.proofs.Copies.{take_min, stored_more}

-- ---- blocks

-- how many they are
pub length-blocks : (width count : ℕ) (bytes : List ℕ) → length (blocks width count bytes) ≡ count
unfolding blocks
length-blocks width zero bytes = refl
length-blocks width (suc count) bytes = ap suc (length-blocks width count (drop width bytes))

-- the block at an index
pub blocks_at : (width count : ℕ) (bytes : List ℕ) (k : ℕ) → k < count → get_or (blocks width count bytes) k [] ≡ take width (drop (k * width) bytes)
unfolding blocks
blocks_at width zero bytes k h = absurd (not-suc-le-zero h)
blocks_at width (suc count) bytes zero h = rw zero-mul
blocks_at width (suc count) bytes (suc k) h = blocks_at width count (drop width bytes) k (le_of_suc-le-suc h) ∙ rw (drop-drop (k * width) width bytes, suc-mul, add_comm width (k * width))

-- a block before the last whole one's end lies within the bytes
pub room : (width k long : ℕ) → k < long / width → k * width + width ≤ long
room width k long h =
    let last : suc k * width ≤ long / width * width = mul-le-mul_right width h in
    let next : suc k * width ≡ k * width + width = suc-mul k width in
    omega (arith, last, next, div-mul-le_self long width)

-- ---- loading

module _ {A : Type 0} (f : List ℕ → A) (width : ℕ) (bytes : List ℕ) where
  -- as many as the bytes hold
  pub length_decoded : length (decoded f width bytes) ≡ length bytes / width
  length_decoded = length-map (whole_blocks width bytes) f ∙ length-blocks width (length bytes / width) bytes

  -- the number at an index
  pub decoded_at : (k : ℕ) → k < length bytes / width → get_or (decoded f width bytes) k (f []) ≡ f (take width (drop (k * width) bytes))
  decoded_at k h = get_or-map f (whole_blocks width bytes) k [] ∙ ap f (blocks_at width (length bytes / width) bytes k h)

  -- `count` numbers are being loaded over a list, and k are
  pub record Loading (old : List A) (count : ℕ) (now : List A) (k : ℕ) : Type 0 where
    pub far : k ≤ count
    pub long : length now ≡ length old
    pub is : now ≡ stored (take k (decoded f width bytes)) old

  module _ (old : List A) (count : ℕ) where
    -- before the first turn
    pub load-none : Loading old count old 0
    load-none = record { far = omega arith; long = refl; is = refl }

    -- a turn
    pub load_more : count ≤ length bytes / width → count ≤ length old → (now : List A) (k next : ℕ) (v : A) → k < count → next ≡ k + 1 → v ≡ f (take width (drop (k * width) bytes))
        → Loading old count now k → Loading old count (set now k v) next
    load_more hb ho now k next v h one e l = record {
      far = omega arith;
      long = length-set now k v ∙ l.long;
      is = rw (one, l.is, e, ← decoded_at k (omega arith)) (stored_more (decoded f width bytes) old k (f []) (rw length_decoded (omega arith)) (omega arith));
    }

    -- after the last turn
    pub load-all : (now : List A) (k : ℕ) → count ≤ k → Loading old count now k → now ≡ stored (take count (decoded f width bytes)) old
    load-all now k h l =
        let all : k ≡ count = omega (arith, l.far) in
        l.is ∙ rw all

-- ---- storing

module _ {A : Type 0} (f : A → List ℕ) (width : ℕ) (same : (a : A) → length (f a) ≡ width) where
  -- as many as the numbers' widths together
  pub length_encoded : (xs : List A) → length (encoded f xs) ≡ length xs * width
  length_encoded [] = rw zero-mul
  length_encoded (x ∷ xs) = rw (length-append, same, length_encoded xs, suc-mul) (omega arith)

  -- `count` numbers are being stored over bytes, and k are
  pub record Storing (xs : List A) (old : List ℕ) (count : ℕ) (now : List ℕ) (k : ℕ) : Type 0 where
    pub far : k ≤ count
    pub long : length now ≡ length old
    pub is : now ≡ stored (encoded f (take k xs)) old

  module _ (xs : List A) (old : List ℕ) (count : ℕ) where
    -- before the first turn
    pub store-none : Storing xs old count old 0
    store-none = record { far = omega arith; long = refl; is = refl }

    -- one block more
    next_block : (k : ℕ) (z : A) → k < length xs → k * width + width ≤ length old
        → sets (stored (encoded f (take k xs)) old) (k * width) (f (get_or xs k z)) ≡ stored (encoded f (take (k + 1) xs)) old
    next_block k z hx ho =
        let done = encoded f (take k xs) in
        let block = f (get_or xs k z) in
        let size : length done ≡ k * width = length_encoded (take k xs) ∙ ap (λ (n : ℕ). n * width) (length-take-le k xs (le_of_lt hx)) in
        let all : length (done ++ drop (k * width) old) ≡ length old = rw (length-append, size, length-drop) (omega arith) in
        let next : encoded f (take (k + 1) xs) ≡ done ++ block =
        rw (add-one k, take-suc xs k z, map-append, concat-append (map f (take k xs)) (block ∷ []), append-nil) in
        let rest : drop (k * width + length block) (done ++ drop (k * width) old) ≡ drop (k * width + width) old =
        rw (same (get_or xs k z), ← size, drop-append-add, drop-drop) in
        rw (size, next, length-append done block, same (get_or xs k z), size, append_assoc)
        (sets-eq block (done ++ drop (k * width) old) (k * width) (rw (all, same (get_or xs k z)) ho) ∙ rw (take_at done (drop (k * width) old) (k * width) size, rest, append_assoc))

    -- a turn
    pub store_more : (now later : List ℕ) (k : ℕ) (z : A) → count ≤ length xs → k < count → k * width + width ≤ length old → later ≡ sets now (k * width) (f (get_or xs k z))
        → Storing xs old count now k → Storing xs old count later (k + 1)
    store_more now later k z hx h ho e s = record {
      far = omega arith;
      long = ap length e ∙ length-sets now (k * width) (f (get_or xs k z)) ∙ s.long;
      is = e ∙ rw s.is (next_block k z (omega arith) ho);
    }

    -- after the last turn; `room`: how many the bytes hold
    pub store-all : (room : ℕ) (now : List ℕ) (k : ℕ) → count ≡ min (length xs) room → count ≤ k → Storing xs old count now k → now ≡ stored (encoded f (take room xs)) old
    store-all room now k e h s =
        let all : k ≡ min (length xs) room = omega (arith, s.far) in
        s.is ∙ rw (all, take_min room xs)
