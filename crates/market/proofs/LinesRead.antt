-- A text of lines that are allowed is read, as its entries.
use mathlib.Core.Path.{◌≡◌, refl}
use mathlib.Core.Bool.{Bool, true, false, not, ◌||◌}
use mathlib.Core.List.{List, [], ◌∷◌, ◌++◌}
use Prim.Native.Nat.{ℕ, suc, ◌≤◌, ◌<◌}
use native.Mathlib.Omega.{arith}
use lib.Dec.{eqb}
use lib.IntN.{ℤ, nat_abs}
use lib.ListN.{length}
use borrow.Author.Tests.{le-leb, eqb-true, not-true}
use Rattle.base.specs.Lists.{is_in}
use Rattle.base.specs.Integers.{within}
use Rattle.base.proofs.Booleans.{and_left, and_right, is_false}
use Rattle.base.proofs.Each.{all-each}
use Rattle.matrix.specs.Limits.{max_value}
use Rattle.market.specs.Parse.{Triplet, matrix_text, is_at, is_among, is_entry, parse}
use Rattle.market.specs.Texts.{Lines, entries_of, text_of_lines, entry_on, Allowed}
use Rattle.market.proofs.Spaced.{Good, Clean, lines-parsed}

-- an entry of n rows
entry-is : (n r c : ℕ) (v : ℤ) → 1 ≤ c → c ≤ r → r ≤ n → nat_abs v ≤ max_value → is_entry n r c v ≡ true
unfolding within
entry-is n r c v a b d s = rw (le-leb 1 c a, le-leb c r b, le-leb r n d, le-leb (nat_abs v) max_value s)

among_more : (done : List Triplet) (e : Triplet) (r c : ℕ) → is_among done r c ≡ false → is_at r c e ≡ false → is_among (done ++ e ∷ []) r c ≡ false
among_more [] e r c h k = rw k
among_more (d ∷ done) e r c h k = go (is_at r c d) h (λ g. among_more done e r c g k)
  where
    go : (b : Bool) → b || is_among done r c ≡ false → (is_among done r c ≡ false → is_among (done ++ e ∷ []) r c ≡ false) → b || is_among (done ++ e ∷ []) r c ≡ false
    go true h ih = h
    go false h ih = ih h

not_at : (r c : ℕ) (e : Triplet) → (e.row ≡ r → e.column ≡ c → ⊥) → is_at r c e ≡ false
not_at r c e h = is_false (λ t. h (eqb-true e.row r (and_left (eqb e.row r) (eqb e.column c) t)) (eqb-true e.column c (and_right (eqb e.row r) (eqb e.column c) t)))

-- entries told by their numbers
good_of : (n : ℕ) (done es : List Triplet) → ((i : ℕ) → i < length es → is_entry n (suc (entry_on es i).row) (suc (entry_on es i).column) (entry_on es i).value ≡ true)
    → ((i : ℕ) → i < length es → is_among done (entry_on es i).row (entry_on es i).column ≡ false)
    → ((i k : ℕ) → i < k → k < length es → (entry_on es i).row ≡ (entry_on es k).row → (entry_on es i).column ≡ (entry_on es k).column → ⊥)
    → Good n done es
unfolding entry_on
good_of n done [] fit new once = tt
good_of n done (e ∷ es) fit new once = (
  fit 0 (omega arith),
  new 0 (omega arith),
  good_of n (done ++ e ∷ []) es (λ i l. fit (suc i) (omega arith))
      (λ i l. among_more done e _ _ (new (suc i) (omega arith)) (not_at _ _ e (once 0 (suc i) (omega arith) (omega arith))))
      (λ i k l m. once (suc i) (suc k) (omega arith) (omega arith)),
)

module _ (t : Lines) (a : Allowed t) where
  abbrev at : ℕ → Triplet
  at i = entry_on (entries_of t) i

  pub read : parse (text_of_lines t) ≡ matrix_text t.n (entries_of t)
  read =
      lines-parsed t a.some a.rows a.count (good_of t.n [] (entries_of t) fit (λ i l. refl) a.once)
      (all-each Clean (λ (c : List ℕ). not (is_in c 10)) (λ c h. not-true (is_in c 10) h) t.comments a.comments) a.short
    where
      fit : (i : ℕ) → i < length (entries_of t) → is_entry t.n (suc (at i).row) (suc (at i).column) (at i).value ≡ true
      fit i l = entry-is t.n (suc (at i).row) (suc (at i).column) (at i).value (omega arith) (omega (arith, a.below i l)) (omega (arith, a.inside i l)) (a.small i l)
