-- Each line of the entries that are written is accepted: its place is new.
use mathlib.Core.Path.{◌≡◌, refl, ap}
use mathlib.Core.Bool.{Bool, true, false, ◌||◌}
use mathlib.Core.List.{List, [], ◌∷◌, ◌++◌, append_assoc}
use Prim.Native.Nat.{ℕ, suc, ◌≤◌, ◌<◌}
use native.Mathlib.Omega.{arith}
use lib.ListN.{length, length-append}
use borrow.Author.Tests.{eq-eqb}
use Rattle.base.specs.Lists.{filter, keep}
use Rattle.base.proofs.Each.{Each}
use Rattle.base.proofs.Lists.{filter-append}
use Rattle.matrix.specs.Matrix.{Matrix, is_matrix}
use Rattle.market.specs.Parse.{Triplet, is_at, is_among}
use Rattle.market.specs.Text.{lower}
use Rattle.market.proofs.Stored.{Fits, fits-inside}
use Rattle.market.proofs.Spaced.{Good}
use Rattle.market.proofs.Lower.At.{lower-stored}

none_among : (i j : ℕ) (es : List Triplet) → length (filter (is_at i j) es) ≡ 0 → is_among es i j ≡ false
none_among i j [] h = refl
none_among i j (e ∷ es) h = go (is_at i j e) h (none_among i j es)
  where
    go : (b : Bool) → length (keep b e (filter (is_at i j) es)) ≡ 0 → (length (filter (is_at i j) es) ≡ 0 → is_among es i j ≡ false) → b || is_among es i j ≡ false
    go true h ih = absurd (omega arith)
    go false h ih = ih h

-- of entries with each place once, the place of one is not that of an earlier one
new_place : (done es : List Triplet) (e : Triplet) → length (filter (is_at e.row e.column) (done ++ e ∷ es)) ≤ 1 → is_among done e.row e.column ≡ false
new_place done es e h =
    let p = is_at e.row e.column in
    let more : length (filter p (e ∷ es)) ≡ suc (length (filter p es)) = rw (eq-eqb e.row e.row refl, eq-eqb e.column e.column refl) in
    none_among e.row e.column done (omega (arith, ap length (filter-append p done (e ∷ es)), length-append (filter p done) (filter p (e ∷ es))))

once_good : (n : ℕ) (done es : List Triplet) → Each (Fits n) es → ((i j : ℕ) → i < n → j < n → length (filter (is_at i j) (done ++ es)) ≤ 1) → Good n done es
once_good n done [] f h = tt
once_good n done (e ∷ es) f h =
    let i = fits-inside n e f.0 in
    (f.0, new_place done es e (h e.row e.column i.last (omega (arith, i.below, i.last))), once_good n (done ++ e ∷ []) es f.1 (λ r c a b. rw (append_assoc done (e ∷ []) es) (h r c a b)))

-- each line of the entries is accepted
pub lower_good : (m : Matrix) → is_matrix m ≡ true → Good m.n [] (lower m)
lower_good m ok = let s = lower-stored m ok in once_good m.n [] (lower m) s.fits s.once
