-- Entries that a matrix text may hold: inside n, on or below the diagonal, not too large, each place once.
use mathlib.Core.Path.{◌≡◌, refl}
use mathlib.Core.Bool.{Bool, true, false, ◌||◌, true≢false}
use mathlib.Core.List.{List, [], ◌∷◌, ◌++◌}
use Prim.Native.Nat.{ℕ, suc, ◌≤◌, ◌<◌}
use native.Mathlib.Omega.{arith}
use lib.Dec.{eqb}
use lib.ListN.{length, length-append}
use borrow.Author.Tests.{eqb-true}
use Rattle.base.specs.Lists.{filter, keep}
use Rattle.base.proofs.Booleans.{and_left, and_right}
use Rattle.base.proofs.Each.{Each, each_append}
use Rattle.base.proofs.Lists.{filter-append}
use Rattle.market.specs.Parse.{Triplet, is_at, is_among, is_entry}
use Rattle.market.proofs.Inside.{Inside, inside}

-- an entry of n rows: inside n, on or below the diagonal, not too large
abbrev pub Fits : ℕ → Triplet → Type 0
Fits n e = is_entry n (suc e.row) (suc e.column) e.value ≡ true

-- entries of n rows, each place once
pub record Stored (n : ℕ) (es : List Triplet) : Type 0 where
  pub fits : Each (Fits n) es
  pub once : (i j : ℕ) → i < n → j < n → length (filter (is_at i j) es) ≤ 1

pub fits-inside : (n : ℕ) (e : Triplet) → Fits n e → Inside n (suc e.row) (suc e.column) e.value
fits-inside n e f = inside n (suc e.row) (suc e.column) e.value f

-- ---- one entry more

-- where an entry is
pub at_place : (i j : ℕ) (e : Triplet) → is_at i j e ≡ true → (e.row ≡ i) × (e.column ≡ j)
at_place i j e h = (eqb-true e.row i (and_left (eqb e.row i) (eqb e.column j) h), eqb-true e.column j (and_right (eqb e.row i) (eqb e.column j) h))

none_at : (i j : ℕ) (es : List Triplet) → is_among es i j ≡ false → length (filter (is_at i j) es) ≡ 0
none_at i j [] h = refl
none_at i j (e ∷ es) h = go (is_at i j e) h (none_at i j es)
  where
    go : (b : Bool) → b || is_among es i j ≡ false → (is_among es i j ≡ false → length (filter (is_at i j) es) ≡ 0) → length (keep b e (filter (is_at i j) es)) ≡ 0
    go true h ih = absurd (true≢false h)
    go false h ih = ih h

-- an entry at a new place
pub stored_more : (n : ℕ) (es : List Triplet) (e : Triplet) → Stored n es → Fits n e → is_among es e.row e.column ≡ false → Stored n (es ++ e ∷ [])
stored_more n es e s f new = record { fits = each_append (Fits n) es (e ∷ []) s.fits (f, tt); once = λ i j a b. go i j a b (is_at i j e) refl }
  where
    go : (i j : ℕ) → i < n → j < n → (b : Bool) → is_at i j e ≡ b → length (filter (is_at i j) (es ++ e ∷ [])) ≤ 1
    go i j li lj true t =
        let (a, b) = at_place i j e t in
        let no : length (filter (is_at i j) es) ≡ 0 = rw (← a, ← b) (none_at e.row e.column es new) in
        rw (filter-append (is_at i j) es (e ∷ []), length-append (filter (is_at i j) es), t) (omega arith)
    go i j li lj false t = rw (filter-append (is_at i j) es (e ∷ []), length-append (filter (is_at i j) es), t) (omega (arith, s.once i j li lj))
