-- What is found of a group's rows in any order holds of the group.
use mathlib.Core.Path.{◌≡◌, refl, sym, ap, ◌∙◌}
use mathlib.Core.Bool.{Bool, true, false, cond}
use mathlib.Core.List.{List}
use Prim.Native.Nat.{ℕ}
use lib.Dec.{eqb}
use lib.ListN.{get_or}
use Rattle.base.specs.Lists.{filter, is_in, range, bit}
use Rattle.base.proofs.Lists.{filter_ext}
use Rattle.levels.proofs.Members.{levels-same}
use Rattle.search.specs.Code.Marks.{at_mark, Marked}
use Rattle.search.specs.Code.Search.{Levelled, Searched}

-- what is found of T's rows in any order holds of T
pub searched : {adj : ℕ → List ℕ} {reach n : ℕ} {T own rows : List ℕ} {k : ℕ} {marks : List ℕ} → own ≡ filter (is_in T) (range 0 n) → is_in rows ≡ is_in T → Levelled adj reach n rows k marks → Searched adj reach n T own k marks
searched {adj} {reach} {n} {T} {own} {rows} e same l = record {
  own_is = e;
  levelled = record {
    levels_are = sym (levels-same adj reach n rows T same) ∙ l.levels_are;
    few = l.few;
    fresh = l.fresh;
    reached = λ v h. l.reached v (ap (λ (p : ℕ → Bool). p v) same ∙ h);
  };
}

-- rows that got mark 1, where no row had one
pub marked-bit : (T marks marks' : List ℕ) → ((v : ℕ) → get_or marks v 0 ≡ 0) → Marked T marks marks' → (v : ℕ) → get_or marks' v 0 ≡ bit (is_in T v)
marked-bit T marks marks' blank m v = m.is v ∙ ap (cond (is_in T v) 1) (blank v) ∙ same (is_in T v)
  where
    same : (b : Bool) → cond b 1 0 ≡ bit b
    same true = refl
    same false = refl

pub marked-are : (n : ℕ) (T marks marks' : List ℕ) → ((v : ℕ) → get_or marks v 0 ≡ 0) → Marked T marks marks' → at_mark n marks' 1 ≡ filter (is_in T) (range 0 n)
marked-are n T marks marks' blank m =
    filter_ext (λ v. eqb (get_or marks' v 0) 1) (is_in T) (range 0 n) (λ v h. ap (λ (x : ℕ). eqb x 1) (marked-bit T marks marks' blank m v) ∙ test (is_in T v))
  where
    test : (b : Bool) → eqb (bit b) 1 ≡ b
    test true = refl
    test false = refl
