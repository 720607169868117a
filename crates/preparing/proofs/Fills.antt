-- Pieces of one width that are written into a list one after the other, from a place on.
use mathlib.Core.Path.{◌≡◌, refl, sym, ap, ◌∙◌}
use mathlib.Core.List.{List, [], ◌∷◌, ◌++◌, map, map-map}
use Prim.Native.Nat.{ℕ, suc, ◌+◌, ◌*◌, ◌≤◌, ◌<◌}
use native.Mathlib.Nat.{add-zero}
use native.Mathlib.Numerals.{add-one}
use native.Mathlib.Omega.{arith}
use lib.ListN.{length, get_or, set, length-map}
use lib.Seq.{sets, length-sets, ext_get_or}
use Rattle.base.specs.Lists.{concat, range}
use Rattle.base.proofs.Lists.{length-range, map-range-zero}
use Rattle.base.proofs.Pieces.{pieces_snoc}
use Rattle.run.specs.Updates.{Update}
use Rattle.words.specs.LittleEndian.{bytes_of, unsigned_bytes}
use Rattle.words.proofs.Digits.{length-bytes_of}
use Rattle.prepared.specs.Format.{bytes_of_update}
use Rattle.prepared.proofs.TablesOf.{length-even}
use Rattle.prepared.proofs.ReadBack.{update_code}

-- lists that are written one after the other
pub sets-append : {A : Type 0} (l : List A) (i : ℕ) (vs ws : List A) → sets (sets l i vs) (i + length vs) ws ≡ sets l i (vs ++ ws)
sets-append l i [] ws = ap (λ (k : ℕ). sets l k ws) (add-zero i)
sets-append l i (v ∷ vs) ws = ap (λ (k : ℕ). sets (sets (set l i v) (suc i) vs) k ws) (omega arith) ∙ sets-append (set l i v) (suc i) vs ws

-- the three parts of an update
pub update-written : (l A T R : List ℕ) (at : ℕ) → length A ≡ 8 → length T ≡ 4 → sets (sets (sets l at A) (at + 8) T) (at + 12) R ≡ sets l at (A ++ (T ++ R))
update-written l A T R at a t =
    ap (λ (k : ℕ). sets (sets (sets l at A) (at + 8) T) k R) (omega (arith, t)) ∙ sets-append (sets l at A) (at + 8) T R
    ∙ ap (λ (k : ℕ). sets (sets l at A) (at + k) (T ++ R)) (sym a) ∙ sets-append l at A (T ++ R)

module _ (f : ℕ → List ℕ) (width : ℕ) (same : (i : ℕ) → length (f i) ≡ width) (old : List ℕ) (from : ℕ) where
  -- k of `count` pieces are written
  pub record Filling (count : ℕ) (now : List ℕ) (k : ℕ) : Type 0 where
    pub far : k ≤ count
    pub long : length now ≡ length old
    pub is : now ≡ sets old from (concat (map f (range 0 k)))

  pub fill_none : (count : ℕ) → Filling count old 0
  fill_none count = record { far = omega arith; long = refl; is = refl }

  -- one more
  pub fill_more : (count : ℕ) (now later : List ℕ) (k : ℕ) → k < count → later ≡ sets now (from + k * width) (f k) → Filling count now k → Filling count later (k + 1)
  fill_more count now later k l e s = record {
    far = omega arith;
    long = ap length e ∙ length-sets now (from + k * width) (f k) ∙ s.long;
    is =
        e ∙ ap (λ (xs : List ℕ). sets xs (from + k * width) (f k)) s.is
        ∙ ap (λ (n : ℕ). sets (sets old from (concat (map f (range 0 k)))) (from + n) (f k)) (sym (length-even f width same 0 k))
        ∙ sets-append old from (concat (map f (range 0 k))) (f k)
        ∙ ap (sets old from) (sym (ap (λ (n : ℕ). concat (map f (range 0 n))) (add-one k) ∙ pieces_snoc f 0 k ∙ ap (λ (n : ℕ). concat (map f (range 0 k)) ++ f n) (omega arith)));
  }

-- numbers of four bytes
module _ (g : ℕ → ℕ) where
  abbrev pub four_of : ℕ → List ℕ
  four_of i = bytes_of 4 (g i)

  pub four_long : (i : ℕ) → length (four_of i) ≡ 4
  four_long i = length-bytes_of 4 (g i)

  pub four_pieces : (n : ℕ) → concat (map four_of (range 0 n)) ≡ unsigned_bytes 4 (map g (range 0 n))
  four_pieces n = ap concat (sym (map-map (bytes_of 4) g (range 0 n)))

-- the numbers of a list, one by one
pub listed : (xs : List ℕ) → map (λ i. get_or xs i 0) (range 0 (length xs)) ≡ xs
listed xs =
    let long : length (map (λ i. get_or xs i 0) (range 0 (length xs))) ≡ length xs = length-map (range 0 (length xs)) (λ i. get_or xs i 0) ∙ length-range 0 (length xs) in
    ext_get_or 0 (map (λ i. get_or xs i 0) (range 0 (length xs))) xs long (λ k l. map-range-zero (λ i. get_or xs i 0) (length xs) k 0 (omega (arith, long)))

-- updates
module _ (g : ℕ → Update) where
  abbrev pub update_of : ℕ → List ℕ
  update_of i = bytes_of_update (g i)

  pub update-long : (i : ℕ) → length (update_of i) ≡ 16
  update-long i = update_code.size (g i)

  pub update_pieces : (n : ℕ) → concat (map update_of (range 0 n)) ≡ concat (map bytes_of_update (map g (range 0 n)))
  update_pieces n = ap concat (sym (map-map bytes_of_update g (range 0 n)))
