-- The entries of an accepted text: what holds of no entries, and is kept by each entry that is taken, holds of them.
use mathlib.Core.Path.{◌≡◌, refl, sym, subst}
use mathlib.Core.Bool.{Bool, true, false, ◌&&◌, not, cond}
use mathlib.Core.List.{List, [], ◌∷◌, ◌++◌}
use Prim.Native.Nat.{ℕ, zero, suc, ◌+◌, ◌-◌, ◌≤◌, ◌<◌}
use native.Mathlib.Omega.{arith}
use lib.Dec.{leb, ltb, eqb}
use lib.IntN.{ℤ, pos, negsuc}
use lib.ListN.{length, drop, length-append}
use borrow.Author.Tests.{leb-true}
use Rattle.base.specs.Lists.{is_empty, begins}
use Rattle.base.specs.Refusals as why
use Rattle.base.proofs.Each.{Each, each_map}
use Rattle.matrix.specs.Limits.{max_rows, max_entries, max_text}
use Rattle.market.specs.Bytes.{header}
use Rattle.market.specs.Fields.{Line, line, broken, fields}
use Rattle.market.specs.Parse.{Triplet, triplet, matrix_text, rejected, is_entry, is_among, on_line, entries, size_line, sized, comments, body, parse}
use Rattle.market.proofs.Inside.{inside}
use Rattle.market.proofs.Stored.{Fits, Stored, fits-inside, stored_more}

-- a refusal is no matrix
pub never : {X : Type 0} {q p n : ℕ} {es : List Triplet} → rejected q p ≡ matrix_text n es → X
never e = let z : ◌≡◌ {A = ℕ} 0 1 = cc in absurd (omega arith)

-- P m es: with es taken, m are to come
module _ (n : ℕ) (P : ℕ → List Triplet → Type 0)
    (kept : (m : ℕ) (es : List Triplet) (r c : ℕ) (v : ℤ) → P (suc m) es → is_entry n r c v ≡ true → is_among es (r - 1) (c - 1) ≡ false → P m (es ++ triplet (r - 1) (c - 1) v ∷ [])) where
  pub entries_induction : (m k : ℕ) (done : List Triplet) (xs : List ℕ) (n' : ℕ) (es : List Triplet) → P m done → entries n m k done xs ≡ matrix_text n' es → (n' ≡ n) × P 0 es
  unfolding entries
  entries_induction zero k done xs n' es q e = go (is_empty xs) e
    where
      go : (b : Bool) → cond b (matrix_text n done) (rejected why.bad_form k) ≡ matrix_text n' es → (n' ≡ n) × P 0 es
      go true e =
          let f : n ≡ n' = cc in
          let g : done ≡ es = cc in
          (sym f, subst (P 0) g q)
      go false e = never e
  entries_induction (suc m) k done xs n' es q e = on (fields xs) e (λ k' d x q' e'. entries_induction m k' d x n' es q' e')
    where
      on : (l : Line) → on_line l (rejected why.bad_form k) (λ r c v a.
          cond (is_entry n r c v && not (is_among done (r - 1) (c - 1)))
          (entries n m (suc k) (done ++ triplet (r - 1) (c - 1) v ∷ []) (drop a xs))
          (rejected why.bad_entry k)) ≡ matrix_text n' es
          → ((k' : ℕ) (d : List Triplet) (x : List ℕ) → P m d → entries n m k' d x ≡ matrix_text n' es → (n' ≡ n) × P 0 es) → (n' ≡ n) × P 0 es
      on broken e ih = never e
      on (line r c v a) e ih = go (is_entry n r c v) refl (is_among done (r - 1) (c - 1)) refl e
        where
          go : (f : Bool) → is_entry n r c v ≡ f → (t : Bool) → is_among done (r - 1) (c - 1) ≡ t → cond (f && not t) (entries n m (suc k) (done ++ triplet (r - 1) (c - 1) v ∷ []) (drop a xs)) (rejected why.bad_entry k) ≡ matrix_text n' es → (n' ≡ n) × P 0 es
          go true hf false ht e = ih (suc k) (done ++ triplet (r - 1) (c - 1) v ∷ []) (drop a xs) (kept m done r c v q hf ht) e
          go true hf true ht e = never e
          go false hf t ht e = never e

-- row and column are inside n
abbrev pub Inner : ℕ → Triplet → Type 0
Inner n e = (e.row < n) × (e.column < n)

pub stored_inner : {n : ℕ} {es : List Triplet} → Stored n es → Each (Inner n) es
stored_inner {n} {es} s = each_map (Fits n) (Inner n) (λ e f. let i = fits-inside n e f in omega (arith, i.below, i.last)) es s.fits

-- what an accepted text's n and entries are
pub record Accepted (n : ℕ) (es : List Triplet) : Type 0 where
  pub some : 1 ≤ n
  pub rows : n ≤ max_rows
  pub count : length es ≤ max_entries
  pub stored : Stored n es
  pub inner : Each (Inner n) es

entries-accepted : (n m k : ℕ) (xs : List ℕ) (n' : ℕ) (es : List Triplet) → 1 ≤ n → n ≤ max_rows → m ≤ max_entries → entries n m k [] xs ≡ matrix_text n' es → Accepted n' es
entries-accepted n m k xs n' es h1 hn hm e =
    let q = entries_induction n (λ (j : ℕ) (ds : List Triplet). (length ds + j ≡ m) × Stored n ds) kept m k [] xs n' es (omega arith, record { fits = tt; once = λ i j a b. omega arith }) e in
    let s = q.1.1 in
    subst (λ (x : ℕ). Accepted x es) (sym q.0)
    (record { some = h1; rows = hn; count = omega (arith, q.1.0); stored = s; inner = stored_inner s })
  where
    kept : (j : ℕ) (ds : List Triplet) (r c : ℕ) (v : ℤ) → (length ds + suc j ≡ m) × Stored n ds → is_entry n r c v ≡ true → is_among ds (r - 1) (c - 1) ≡ false → (length (ds ++ triplet (r - 1) (c - 1) v ∷ []) + j ≡ m) × Stored n (ds ++ triplet (r - 1) (c - 1) v ∷ [])
    kept j ds r c v q f t =
        let i = inside n r c v f in
        let er : suc (r - 1) ≡ r = omega (arith, i.first, i.below) in
        let ec : suc (c - 1) ≡ c = omega (arith, i.first) in
        (rw (length-append ds (triplet (r - 1) (c - 1) v ∷ [])) (omega (arith, q.0)), stored_more n ds (triplet (r - 1) (c - 1) v) q.1 (rw (er, ec) f) t)

size-accepted : (k : ℕ) (xs : List ℕ) (n : ℕ) (es : List Triplet) → size_line k xs ≡ matrix_text n es → Accepted n es
unfolding size_line
size-accepted k xs n es e = on (fields xs) e
  where
    on : (l : Line) → on_line l (rejected why.bad_form k) (λ r c v a. sized k r c v (drop a xs)) ≡ matrix_text n es → Accepted n es
    on broken e = never e
    on (line r c (negsuc m) a) e = never e
    on (line r c (pos m) a) e = go (eqb r c) (leb 1 r) refl (leb r max_rows) refl (leb m max_entries) refl e
      where
        go : (w x : Bool) → leb 1 r ≡ x → (y : Bool) → leb r max_rows ≡ y → (z : Bool) → leb m max_entries ≡ z → cond (w && x && y && z) (entries r m (suc k) [] (drop a xs)) (rejected why.bad_size k) ≡ matrix_text n es → Accepted n es
        go true true hx true hy true hz e = entries-accepted r m (suc k) (drop a xs) n es (leb-true 1 r hx) (leb-true r max_rows hy) (leb-true m max_entries hz) e
        go true true hx true hy false hz e = never e
        go true true hx false hy z hz e = never e
        go true false hx y hy z hz e = never e
        go false x hx y hy z hz e = never e

-- of every text
pub parse-accepted : (s : List ℕ) (n : ℕ) (es : List Triplet) → parse s ≡ matrix_text n es → Accepted n es
unfolding parse
parse-accepted s n es e = go (ltb max_text (length s)) (begins s header) e
  where
    go : (a b : Bool) → cond a (rejected why.bad_form 0) (cond b (body (comments false 2 (drop (length header) s))) (rejected why.bad_header 1)) ≡ matrix_text n es → Accepted n es
    go true b e = never e
    go false true e = size-accepted _ _ n es e
    go false false e = never e
