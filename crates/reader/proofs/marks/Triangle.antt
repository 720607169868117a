-- The bits of the lower triangle differ, so that the marks say which entries are there.
use mathlib.Core.Path.{◌≡◌, refl, ◌∙◌}
use mathlib.Core.Bool.{Bool, true, false, ◌&&◌, ◌||◌}
use mathlib.Core.Logic.{⊎_elim}
use mathlib.Core.List.{List, [], ◌∷◌, ◌++◌}
use Prim.Native.Nat.{ℕ, zero, suc, ◌+◌, ◌*◌, ◌/◌, ◌%◌, ◌^◌, ◌≤◌, ◌<◌}
use native.Mathlib.Nat.{div-eq_of_lt, eq-or-lt_of_le, mul-le-mul}
use native.Mathlib.Omega.{arith}
use lib.Dec.{eqb, ltb}
use lib.Pow.{pow_pos}
use lib.ListN.{replicate, length-replicate}
use borrow.Author.Tests.{eqb-true, eqb-false, ltb-true, ltb-false, eq-eqb, ne_eqb}
use Rattle.base.proofs.Booleans.{eqb_sym}
use Rattle.base.proofs.Lists.{get_d_zeros}
use Rattle.market.specs.Parse.{Triplet, is_at, is_among}
use Rattle.reader.specs.Code.Marks.{is_marked, marked, triangle, bit_of, Marks}
use Rattle.reader.proofs.marks.Bits.{length_marked, marked-is}

-- an earlier row's bits come first
triangle_mono : (r s : ℕ) → r < s → triangle r + suc r ≤ triangle s
unfolding triangle
triangle_mono r zero h = absurd (omega arith)
triangle_mono r (suc s) h = ⊎_elim (λ (e : suc r ≡ suc s). let f : r ≡ s = omega arith in rw f (omega arith)) (λ (l : suc r < suc s). omega (arith, triangle_mono r s (omega arith))) (eq-or-lt_of_le h)

-- the bits of two places are the same if the places are
pub bit-of-is : (r c s d : ℕ) → c ≤ r → d ≤ s → eqb (bit_of r c) (bit_of s d) ≡ eqb r s && eqb c d
bit-of-is r c s d h k = go (eqb r s) refl (ltb r s) refl
  where
    go : (b : Bool) → eqb r s ≡ b → (l : Bool) → ltb r s ≡ l → eqb (bit_of r c) (bit_of s d) ≡ b && eqb c d
    go true e l f = rw (eqb-true r s e) (same (eqb c d) refl)
      where
        same : (b : Bool) → eqb c d ≡ b → eqb (triangle s + c) (triangle s + d) ≡ b
        same true f = eq-eqb (triangle s + c) (triangle s + d) (omega (arith, eqb-true c d f))
        same false f = ne_eqb (triangle s + c) (triangle s + d) (λ (n : triangle s + c ≡ triangle s + d). eqb-false c d f (omega arith))
    go false e true f = ne_eqb (bit_of r c) (bit_of s d) (λ (n : bit_of r c ≡ bit_of s d). omega (arith, triangle_mono r s (ltb-true r s f)))
    go false e false f = ne_eqb (bit_of r c) (bit_of s d) (λ (n : bit_of r c ≡ bit_of s d). let l : s < r = omega (arith, ltb-false r s f, eqb-false r s e) in omega (arith, triangle_mono s r l))

pub among_snoc : (es : List Triplet) (e : Triplet) (r c : ℕ) → is_among (es ++ e ∷ []) r c ≡ is_at r c e || is_among es r c
among_snoc [] e r c = refl
among_snoc (d ∷ es) e r c = rw (among_snoc es e r c) (go (is_at r c d) (is_at r c e) (is_among es r c))
  where
    go : (x y z : Bool) → x || (y || z) ≡ y || (x || z)
    go true true z = refl
    go true false z = refl
    go false y z = refl

-- one entry more, and its bit
pub marks_more : {ms ms' : List ℕ} {es : List Triplet} {q : ℕ} → Marks ms es → (e : Triplet) → e.column ≤ e.row → q ≡ bit_of e.row e.column → q < 8390656 → ms' ≡ marked ms q → Marks ms' (es ++ e ∷ [])
marks_more {ms} {es = es} {q} g e h eq small em =
    rw em record {
      long = length_marked ms q ∙ g.long;
      each = λ r c k. marked-is ms q (bit_of r c) (omega (arith, g.long)) ∙ rw (eq, bit-of-is r c e.row e.column k h, g.each r c k, among_snoc es e r c, eqb_sym r e.row, eqb_sym c e.column);
    }

-- no mark, no entry
pub marks-none : (w : ℕ) → w ≡ 131104 → Marks (replicate w 0) []
unfolding is_marked
marks-none w e = record {
  long = length-replicate w 0 ∙ e;
  each = λ r c h. rw (get_d_zeros w (bit_of r c / 64), div-eq_of_lt {n = 0} {m = 2 ^ (bit_of r c % 64)} (pow_pos (bit_of r c % 64)));
}

twice : (r : ℕ) → triangle r * 2 ≡ r * (r + 1)
unfolding triangle
twice zero = refl
twice (suc r) = omega (arith, twice r)

-- as the code computes it
pub triangle-is : (r : ℕ) → r * (r + 1) / 2 ≡ triangle r
triangle-is r = omega (arith, twice r)

-- and it stays small
pub square : (r : ℕ) → r < 4096 → r * (r + 1) ≤ 16773120
square r h = mul-le-mul {n₁ = r} {m₁ = r + 1} {n₂ = 4095} {m₂ = 4096} (omega arith) (omega arith)
