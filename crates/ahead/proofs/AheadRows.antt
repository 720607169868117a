-- Rows that get their parts one after the other, each after those before it.
use mathlib.Core.Path.{◌≡◌, refl, sym, ap, ◌∙◌}
use mathlib.Core.Logic.{◌⊎◌, inl, inr, ◌≢◌}
use mathlib.Core.Bool.{Bool, true, false, ◌||◌}
use mathlib.Core.List.{List}
use Prim.Native.Nat.{ℕ, ◌+◌, ◌/◌, ◌≤◌, ◌<◌}
use native.Mathlib.Omega.{arith}
use lib.Dec.{eqb}
use lib.IntN.{ℤ}
use lib.ListN.{length, get_or, set, take, length-set}
use lib.Seq.{get_or-set_same, get_or-set_other}
use borrow.Author.Tests.{eq-eqb, ne_eqb}
use Rattle.base.proofs.Booleans.{same_or, clash, or_true, or_false}
use Rattle.matrix.specs.Limits.{max_rows}
use Rattle.matrix.specs.Matrix.{Matrix, matrix_of, is_matrix}
use Rattle.matrix.proofs.Matrix.{matrix_facts}
use Rattle.plan.specs.Sound.{max_workers}
use Rattle.upper.specs.Code.Upper.{Lent, Sizes, upper_of, UpperLaid}
use Rattle.upper.specs.Code.Row.{Part, Kept}
use Rattle.upper.proofs.UpperRows.{upper_few}
use Rattle.steps.specs.Code.Steps.{place_next}
use Rattle.ahead.specs.Code.Ahead.{PartBefore, PartsOf, With, PartsAhead}

-- ---- one row

module _ {n : ℕ} {starts columns : List ℕ} {values : List ℤ} {order : List ℕ} (x : Lent n starts columns values order) where
  abbrev m : Matrix
  m = matrix_of n starts columns values

  pub few-rows : n ≤ max_rows
  few-rows = (matrix_facts m x.ordered.matrix).few

  -- a row has at most one entry for each
  pub size_few : {sizes : List ℕ} → Sizes m (take n order) n sizes → (p : ℕ) → p < n → get_or sizes p 0 ≤ max_rows
  size_few t p l = omega (arith, few-rows, t.is p l, upper_few m (take n order) p n)

-- a row gets its part, after those of a set
module _ (m : Matrix) (order : List ℕ) {rows : ℕ → Bool} {p b e : ℕ} {parts at at' : List ℕ} {beside beside' : List ℤ} (h : PartsOf m order rows b parts at beside)
    (t : Part m order p b at' beside') (k : Kept m.n b at beside at' beside') (low : p < max_rows) (is : e ≡ b + length (upper_of m order p)) (room : e ≤ length at) where
  here : get_or (set parts p b) p 0 ≡ b
  here = get_or-set_same parts p b 0 (omega (arith, h.parts_long))

  other : (q : ℕ) → q ≢ p → get_or (set parts p b) q 0 ≡ get_or parts q 0
  other q d = get_or-set_other parts p q b 0 d

  -- the parts before are as they were
  before : (q : ℕ) → q ≢ p → PartBefore m order b q parts at beside → PartBefore m order e q (set parts p b) at' beside'
  before q d o = record {
    part = rw (other q d) (record {
      positions = λ c l. k.at_same (get_or parts q 0 + c) (omega (arith, o.below)) ∙ o.part.positions c l;
      entries = λ c l. k.beside_same (get_or parts q 0 + c) (omega (arith, o.below)) ∙ o.part.entries c l;
    });
    below = rw (other q d) (omega (arith, o.below, is));
  }

  pub parts_more : PartsOf m order (λ q. rows q || eqb q p) e (set parts p b) at' beside'
  parts_more = record {
    parts_long = length-set parts p b ∙ h.parts_long;
    at_low = k.low h.at_low;
    room = λ q l. room_of q l (same_or q p);
    is = λ q y. of q y (same_or q p);
  }
    where
      room_of : (q : ℕ) → q < m.n → (q ≡ p) ⊎ (q ≢ p) → get_or (set parts p b) q 0 + length (upper_of m order q) ≤ length at'
      room_of q l (inl y) = rw y (omega (arith, here, is, room, k.at_long))
      room_of q l (inr d) = omega (arith, other q d, h.room q l, k.at_long)

      of : (q : ℕ) → rows q || eqb q p ≡ true → (q ≡ p) ⊎ (q ≢ p) → PartBefore m order e q (set parts p b) at' beside'
      of q y (inl z) = rw z (record { part = rw here t; below = omega (arith, here, is) })
      of q y (inr d) = before q d (h.is q (sym (or_false (rows q)) ∙ ap (λ (x : Bool). rows q || x) (sym (ne_eqb q p d)) ∙ y))

-- at first no row has one
pub parts_none : (m : Matrix) (order : List ℕ) → is_matrix m ≡ true → {parts at : List ℕ} {beside : List ℤ} → length parts ≡ max_rows → ((p : ℕ) → get_or parts p 0 ≡ 0) → ((k : ℕ) → get_or at k 0 ≡ 0)
    → max_rows ≤ length at → PartsOf m order (λ q. false) 0 parts at beside
parts_none m order ok e first zero long =
    let f = matrix_facts m ok in
    record {
      parts_long = e;
      at_low = λ k. omega (arith, zero k, f.some);
      room = λ p l. omega (arith, first p, upper_few m order p m.n, f.few);
      is = λ p h. absurd (clash h refl);
    }

-- ---- the rows of a stretch of places

module _ {rows : ℕ → Bool} {row : List ℕ} {from : ℕ} where
  pub with_none : With rows row from from rows
  with_none = record { kept = λ p h. h; has = λ k l h. absurd (omega arith) }

  module _ {k : ℕ} {more : ℕ → Bool} (w : With rows row from k more) where
    -- the row of the next place is in the set
    pub with_same : more (get_or row k 0) ≡ true → With rows row from (k + 1) more
    with_same h = record { kept = w.kept; has = λ i l u. go i l u (same_or i k) }
      where
        go : (i : ℕ) → from ≤ i → i < k + 1 → (i ≡ k) ⊎ (i ≢ k) → more (get_or row i 0) ≡ true
        go i l u (inl e) = rw e h
        go i l u (inr d) = w.has i l (omega (arith, d))

    -- .. or is taken in
    pub with_more : {p : ℕ} → p ≡ get_or row k 0 → With rows row from (k + 1) (λ q. more q || eqb q p)
    with_more {p} e = record { kept = λ q h. rw (w.kept q h) refl; has = λ i l u. go i l u (same_or i k) }
      where
        go : (i : ℕ) → from ≤ i → i < k + 1 → (i ≡ k) ⊎ (i ≢ k) → more (get_or row i 0) || eqb (get_or row i 0) p ≡ true
        go i l u (inl y) = rw (y, eq-eqb (get_or row k 0) p (sym e)) (or_true (more (get_or row k 0)))
        go i l u (inr d) = rw (w.has i l (omega (arith, d))) refl

    -- up to an earlier place
    pub with_fewer : {to : ℕ} → to ≤ k → With rows row from to more
    with_fewer l = record { kept = w.kept; has = λ i a u. w.has i a (omega arith) }

-- .. which get their parts in turn: those before place k, and the last of them, if there is one, is in the set
pub record Going (m : Matrix) (order row : List ℕ) (rows : ℕ → Bool) (from k next last : ℕ) (parts at : List ℕ) (beside : List ℤ) : Type 0 where
  pub more : ℕ → Bool
  pub taken : With rows row from k more
  pub laid : PartsOf m order more next parts at beside
  pub known : last < max_rows → more last ≡ true

module _ {m : Matrix} {order row : List ℕ} {rows : ℕ → Bool} {from : ℕ} where
  pub going_start : {place : ℕ} {parts at : List ℕ} {beside : List ℤ} → PartsOf m order rows place parts at beside → Going m order row rows from from place max_rows parts at beside
  going_start {place} h = record { more = rows; taken = with_none; laid = h; known = λ l. absurd (omega arith) }

  module _ {k next last : ℕ} {parts at : List ℕ} {beside : List ℤ} (g : Going m order row rows from k next last parts at beside) {p : ℕ} (e : p ≡ get_or row k 0) where
    -- the row of the next place is the last
    pub going_same : p ≡ last → p < max_rows → Going m order row rows from (k + 1) next last parts at beside
    going_same same low = record { more = g.more; taken = with_same g.taken (ap g.more (sym e ∙ same) ∙ g.known (omega (arith, same))); laid = g.laid; known = g.known }

    -- .. or gets its part
    pub going_more : {next' : ℕ} {parts' at' : List ℕ} {beside' : List ℤ} → PartsOf m order (λ q. g.more q || eqb q p) next' parts' at' beside' → Going m order row rows from (k + 1) next' p parts' at' beside'
    going_more h = record { more = λ q. g.more q || eqb q p; taken = with_more g.taken e; laid = h; known = λ l. rw (eq-eqb p p refl) (or_true (g.more p)) }

-- ---- the workers

-- the rows that the first workers can reach are in the set
pub record Workers (first row made : List ℕ) (picks w : ℕ) (rows : ℕ → Bool) : Type 0 where
  pub has : (v k : ℕ) → v < w → place_next first made v ≤ k → k ≤ place_next first made v + picks / 2 → k < get_or first (v + 1) 0 → rows (get_or row k 0) ≡ true

module _ {first row made : List ℕ} {picks : ℕ} {rows : ℕ → Bool} where
  pub workers-none : Workers first row made picks 0 rows
  workers-none = record { has = λ v k l a b c. absurd (omega arith) }

  pub workers_more : {w from to : ℕ} {more : ℕ → Bool} → Workers first row made picks w rows → With rows row from to more → from ≡ place_next first made w
      → ((k : ℕ) → k ≤ from + picks / 2 → k < get_or first (w + 1) 0 → k < to) → Workers first row made picks (w + 1) more
  workers_more {w} {from} {to} {more} h t e far = record { has = λ v k l a b c. go v k l a b c (same_or v w) }
    where
      go : (v k : ℕ) → v < w + 1 → place_next first made v ≤ k → k ≤ place_next first made v + picks / 2 → k < get_or first (v + 1) 0 → (v ≡ w) ⊎ (v ≢ w) → more (get_or row k 0) ≡ true
      go v k l a b c (inl y) =
          let a' : place_next first made w ≤ k = rw y at a in
          let b' : k ≤ place_next first made w + picks / 2 = rw y at b in
          let c' : k < get_or first (w + 1) 0 = rw y at c in
          t.has k (omega (arith, e)) (far k (omega (arith, e)) c')
      go v k l a b c (inr d) = t.kept (get_or row k 0) (h.has v k (omega (arith, d)) a b c)

-- .. and have their parts
pub record Serving (m : Matrix) (order first row made : List ℕ) (picks w next : ℕ) (parts at : List ℕ) (beside : List ℤ) : Type 0 where
  pub rows : ℕ → Bool
  pub reached : Workers first row made picks w rows
  pub laid : PartsOf m order rows next parts at beside

module _ {m : Matrix} {order first row made : List ℕ} {picks : ℕ} where
  pub serving_start : {parts at : List ℕ} {beside : List ℤ} → PartsOf m order (λ q. false) 0 parts at beside → Serving m order first row made picks 0 0 parts at beside
  serving_start h = record { rows = λ q. false; reached = workers-none; laid = h }

  pub serving_done : {next : ℕ} {parts at : List ℕ} {beside : List ℤ} → Serving m order first row made picks max_workers next parts at beside → PartsAhead m order first row made picks parts at beside
  serving_done s = record {
    at_low = s.laid.at_low;
    room = s.laid.room;
    is = λ w k l a b c. (s.laid.is (get_or row k 0) (s.reached.has w k l a b c)).part;
  }

-- ---- all rows

-- the whole upper triangle has the parts of all rows, whatever the picks
pub upper_ahead : {m : Matrix} {order first row made : List ℕ} {picks : ℕ} {parts at : List ℕ} {beside : List ℤ} → ((k : ℕ) → get_or row k 0 < m.n)
    → UpperLaid m order parts at beside → PartsAhead m order first row made picks parts at beside
upper_ahead {row = row} low u = record {
  at_low = u.placed.at_low;
  room = λ p l. omega (arith, u.parts.room p l, u.placed.at_long);
  is = λ w k l from to left. record { positions = λ c. u.placed.positions (get_or row k 0) c (low k); entries = λ c. u.placed.entries (get_or row k 0) c (low k) };
}
