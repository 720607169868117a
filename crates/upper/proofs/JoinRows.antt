-- Position q joins the parts of the rows before it that are adjacent to its row, and begins its own: column by column
-- of that row.
use mathlib.Core.Path.{◌≡◌, refl, sym, ap, ◌∙◌, subst}
use mathlib.Core.Logic.{◌⊎◌, inl, inr, ◌≢◌}
use mathlib.Core.Bool.{Bool, true, false, ◌&&◌, ◌||◌, cond}
use mathlib.Core.List.{List, [], ◌∷◌, ◌++◌, append-nil}
use Prim.Native.Nat.{ℕ, zero, suc, ◌+◌, ◌≤◌, ◌<◌}
use native.Mathlib.Numerals.{add-one}
use native.Mathlib.Omega.{arith}
use lib.Dec.{eqb, ltb}
use lib.IntN.{ℤ, pos}
use lib.ListN.{length, get_or, set, take, length-append}
use lib.Seq.{get_or-set_same, get_or-set_other, take-suc, take-length}
use mir.Val.{bool_byte}
use borrow.Author.Tests.{eq-eqb, ne_eqb, le-ltb, ltb-true, ltb-false}
use Rattle.base.specs.Lists.{keep, is_in, bit}
use Rattle.base.proofs.Booleans.{same_or, clash, is_false, and_false, or_true, or_false}
use Rattle.base.proofs.Lists.{is_in-append}
use Rattle.matrix.specs.Matrix.{Matrix, columns_of, values_of, entry, ascending, adjacent}
use Rattle.matrix.proofs.Matrix.{matrix_facts, column-low, column_neighbour, neighbour_column, absent_column, adjacent-both, symmetric}
use Rattle.matrix.proofs.Ascending.{ascending-first, ascending_tail, is_in-get, lookup-get}
use Rattle.matrix.specs.Code.Checks.{shaped}
use Rattle.matrix.proofs.Checks.{matrix_tidy}
use Rattle.matrix.proofs.Rows.{entry_row, length-columns, length-values}
use Rattle.plan.proofs.Once.{Once, once, injective}
use Rattle.tables.specs.Code.Laid.{max_updates}
use Rattle.matrix.specs.Limits.{max_rows}
use Rattle.upper.specs.Code.Upper.{Positions, Ordered, upper_to, upper_of, Parts, Placed, Upper}
use Rattle.upper.proofs.UpperRows.{upper_before, upper_next, upper_part, upper_some}
use Rattle.upper.proofs.PositionTable.{position_back}
use Rattle.upper.proofs.PlacedRows.{grown, row_low, next-below, placed-written, placed_grown, placed_same}

-- a column of an ascending row is not among those before it
new_column : (cs : List ℕ) (k : ℕ) → ascending cs ≡ true → k < length cs → is_in (take k cs) (get_or cs k 0) ≡ false
new_column [] k a l = absurd (omega arith)
new_column (c ∷ cs) zero a l = refl
new_column (c ∷ cs) (suc k) a l = rw (ne_eqb (get_or cs k 0) c (λ e. omega (arith, ascending-first c cs a k (omega arith)))) (new_column cs k (ascending_tail c cs a) (omega arith))

-- the lists when the first k columns cs of the row at q have been treated: q has joined those of earlier rows
abbrev joined : Matrix → (order : List ℕ) (q : ℕ) (cs : List ℕ) (k p : ℕ) → List ℕ
joined m order q cs k p = upper_to m order p (q + bit (is_in (take k cs) (get_or order p 0) && ltb p q))

-- .. and q stands in the first place of its own row's part, beside its diagonal entry if that column is one of them
pub record Joined (m : Matrix) (order begins : List ℕ) (q : ℕ) (cs : List ℕ) (k : ℕ) (next at : List ℕ) (beside : List ℤ) : Type 0 where
  pub placed : Placed m order begins (joined m order q cs k) next at beside
  pub own : get_or at (get_or begins q 0) 0 ≡ q
  pub diagonal : get_or beside (get_or begins q 0) (pos 0) ≡ cond (is_in (take k cs) (get_or order q 0)) (entry m (get_or order q 0) (get_or order q 0)) (pos 0)

-- one column more, whose row stands at r: its next place is one of the tables, and what is then there
pub record Turn (m : Matrix) (order begins : List ℕ) (q : ℕ) (cs : List ℕ) (vs : List ℤ) (k r : ℕ) (next at : List ℕ) (values : List ℤ) : Type 0 where
  pub inside : r < m.n
  pub beside_long : k < length vs
  pub place : get_or next r 0 < max_updates
  pub after : Joined m order begins q cs (k + 1) (set next r (get_or next r 0 + bool_byte (ltb r q))) (set at (get_or next r 0) q) (set values (get_or next r 0) (get_or vs k (pos 0)))

module _ {m : Matrix} {order position begins : List ℕ} (o : Ordered m order) (t : Positions m.n order position) (parts : Parts m order begins) where
  rows : Once m.n order
  rows = once m.n order o.once

  module _ {q : ℕ} (low : q < m.n) {cs : List ℕ} {vs : List ℤ} (is : cs ≡ columns_of m (get_or order q 0)) (beside : vs ≡ values_of m (get_or order q 0)) where
    abbrev row : ℕ
    row = get_or order q 0

    -- the first place of its part
    abbrev first : ℕ
    first = get_or begins q 0

    stored : (i : ℕ) → is_in cs i ≡ true → is_in (columns_of m row) i ≡ true
    stored i h = ap (λ (xs : List ℕ). is_in xs i) (sym is) ∙ h

    -- rows from q on have no list yet
    joined-none : (k p : ℕ) → q ≤ p → joined m order q cs k p ≡ []
    joined-none k p l = rw (le-ltb p q l, and_false (is_in (take k cs) (get_or order p 0))) (upper_before m order p (q + 0) (omega arith))

    first_is : (k : ℕ) → first + length (joined m order q cs k q) ≡ first
    first_is k = omega (arith, ap length (joined-none k q (omega arith)))

    room-own : (k : ℕ) → length (joined m order q cs k q) < length (upper_of m order q)
    room-own k = omega (arith, first_is k, upper_some m order q low)

    -- ---- one column

    module _ {k : ℕ} (l : k < length cs) where
      abbrev i : ℕ
      i = get_or cs k 0

      abbrev p : ℕ
      p = get_or position i 0

      here : is_in cs i ≡ true
      here = is_in-get cs k l

      column-below : i < m.n
      column-below = column-low m o.matrix row i (stored i here)

      ascends : ascending cs ≡ true
      ascends = ap ascending is ∙ ((matrix_facts m o.matrix).row row (row_low m order o q low)).ascends

      back : (p < m.n) × (get_or order p 0 ≡ i)
      back = position_back m.n order position rows t i column-below

      taken : (r : ℕ) → is_in (take (k + 1) cs) r ≡ is_in (take k cs) r || eqb r i
      taken r = ap (λ (j : ℕ). is_in (take j cs) r) (add-one k) ∙ ap (λ (xs : List ℕ). is_in xs r) (take-suc cs k 0 l) ∙ is_in-append (take k cs) (i ∷ []) r ∙ ap (λ (b : Bool). is_in (take k cs) r || b) (or_false (eqb r i))

      -- the list of i is complete before q
      before : joined m order q cs k p ≡ upper_to m order p q
      before = rw (back.1, new_column cs k ascends l) (let e : q + 0 ≡ q = omega arith in ap (upper_to m order p) e)

      near : p ≢ q → adjacent m i row ≡ true
      unfolding adjacent
      near d = adjacent-both m o.matrix row i (column_neighbour m row i (stored i here) (λ e. injective m.n order rows p q back.0 low d (back.1 ∙ e)))

      -- q is taken up if row i stands before it
      up : upper_to m order p (q + bit (ltb p q)) ≡ upper_to m order p q ++ keep (ltb p q) q []
      up = go (ltb p q) refl
        where
          go : (b : Bool) → ltb p q ≡ b → upper_to m order p (q + bit b) ≡ upper_to m order p q ++ keep b q []
          go true e =
              let h = ltb-true p q e in
              ap (upper_to m order p) (add-one q) ∙ upper_next m order p q (omega arith) ∙ rw (back.1, near (λ y. omega arith), or_true (eqb q p))
          go false e = (let x : q + 0 ≡ q = omega arith in ap (upper_to m order p) x) ∙ sym (append-nil (upper_to m order p q))

      -- there is room for it, whether it is or not
      room : length (joined m order q cs k p) < length (upper_of m order p)
      room = go (ltb p q) refl up
        where
          go : (b : Bool) → ltb p q ≡ b → upper_to m order p (q + bit b) ≡ upper_to m order p q ++ keep b q [] → length (joined m order q cs k p) < length (upper_of m order p)
          go true e u = omega (arith, ap length before, ap length u, length-append (upper_to m order p q) (q ∷ []), upper_part m order p (q + 1) (omega arith))
          go false e u = omega (arith, ap length (joined-none k p (ltb-false p q e)), upper_some m order p back.0)

      -- the value beside the column is the entry of row i with the row at q
      value-is : get_or vs k (pos 0) ≡ entry m (get_or order p 0) row
      value-is = sym (lookup-get cs vs k ascends l) ∙ entry_row m row i is beside ∙ symmetric m o.matrix row i ∙ ap (λ (r : ℕ). entry m r row) (sym back.1)

      joined-next : (r : ℕ) → r < m.n → grown (joined m order q cs k) p (ltb p q) q r ≡ joined m order q cs (k + 1) r
      joined-next r h = go (same_or r p)
        where
          go : (r ≡ p) ⊎ (r ≢ p) → grown (joined m order q cs k) p (ltb p q) q r ≡ joined m order q cs (k + 1) r
          go (inl e) = rw (eq-eqb r p e, before, e, taken (get_or order p 0), back.1, eq-eqb i i refl, or_true (is_in (take k cs) i)) (sym up)
          go (inr d) =
              rw (ne_eqb r p d, taken (get_or order r 0), ne_eqb (get_or order r 0) i (λ e. injective m.n order rows r p h back.0 d (e ∙ sym back.1)), or_false (is_in (take k cs) (get_or order r 0)))

      -- the next place of row i
      abbrev slot : ℕ
      slot = get_or begins p 0 + length (joined m order q cs k p)

      -- it is the first of q's part only if i is its row
      first_next : {A : Type 0} (xs : List A) (v w d : A) → slot < length xs → (p ≡ q → v ≡ w) → (p ≢ q → get_or xs first d ≡ w) → get_or (set xs slot v) first d ≡ w
      first_next xs v w d h same other = go (same_or p q)
        where
          go : (p ≡ q) ⊎ (p ≢ q) → get_or (set xs slot v) first d ≡ w
          go (inl e) =
              let x : slot ≡ first = ap (λ (r : ℕ). get_or begins r 0 + length (joined m order q cs k r)) e ∙ first_is k in
              ap (λ (y : ℕ). get_or (set xs slot v) y d) (sym x) ∙ get_or-set_same xs slot v d h ∙ same e
          go (inr e) =
              get_or-set_other xs slot first v d (λ y. parts.apart q p 0 (length (joined m order q cs k p)) low back.0 (λ z. e (sym z)) (upper_some m order q low) room (omega (arith, y))) ∙ other e

      diagonal_next : (values : List ℤ) → slot < length values → get_or values first (pos 0) ≡ cond (is_in (take k cs) row) (entry m row row) (pos 0)
          → get_or (set values slot (get_or vs k (pos 0))) first (pos 0) ≡ cond (is_in (take (k + 1) cs) row) (entry m row row) (pos 0)
      diagonal_next values h d = first_next values (get_or vs k (pos 0)) (cond (is_in (take (k + 1) cs) row) (entry m row row) (pos 0)) (pos 0) h same other
        where
          same : p ≡ q → get_or vs k (pos 0) ≡ cond (is_in (take (k + 1) cs) row) (entry m row row) (pos 0)
          same e =
              let x : row ≡ i = ap (λ (r : ℕ). get_or order r 0) (sym e) ∙ back.1 in
              rw (taken row, eq-eqb row i x, or_true (is_in (take k cs) row)) (value-is ∙ ap (λ (r : ℕ). entry m (get_or order r 0) row) e)

          other : p ≢ q → get_or values first (pos 0) ≡ cond (is_in (take (k + 1) cs) row) (entry m row row) (pos 0)
          other e = rw (taken row, ne_eqb row i (λ x. injective m.n order rows p q back.0 low e (back.1 ∙ sym x)), or_false (is_in (take k cs) row)) d

      few : m.n ≤ max_rows
      few = (matrix_facts m o.matrix).few

      treated : {next at : List ℕ} {values : List ℤ} → Joined m order begins q cs k next at values
          → Joined m order begins q cs (k + 1) (set next p (slot + bit (ltb p q))) (set at slot q) (set values slot (get_or vs k (pos 0)))
      treated {next} {at} {values} d =
          let L = joined m order q cs k in
          let inside = next-below m order begins parts L p back.0 room in
          let at_long : slot < length at = omega (arith, inside, d.placed.at_long) in
          let values-long : slot < length values = omega (arith, inside, d.placed.beside_long) in
          record {
            placed = placed_same m order begins (grown L p (ltb p q) q) (joined m order q cs (k + 1)) joined-next
                (placed_grown m order begins parts L p back.0 room (placed-written m order begins parts L p back.0 room d.placed q (get_or vs k (pos 0)) low) few (ltb p q) q
                (λ e. get_or-set_same at slot q 0 at_long) (λ e. get_or-set_same values slot (get_or vs k (pos 0)) (pos 0) values-long ∙ value-is));
            own = first_next at q q 0 at_long (λ e. refl) (λ e. d.own);
            diagonal = diagonal_next values values-long d.diagonal;
          }

      -- one column more, whose row stands after q
      pub join-past : {r : ℕ} → r ≡ p → q < r → {next at : List ℕ} {values : List ℤ} → Joined m order begins q cs k next at values → Joined m order begins q cs (k + 1) next at values
      join-past e l d =
          let x : q < p = omega (arith, e) in
          let far : p ≢ q = λ y. omega arith in
          record {
            placed = placed_same m order begins (joined m order q cs k) (joined m order q cs (k + 1)) (λ r h. same (ltb p q) (le-ltb p q (omega arith)) r ∙ joined-next r h) d.placed;
            own = d.own;
            diagonal = rw (taken row, ne_eqb row i (λ y. injective m.n order rows p q back.0 low far (back.1 ∙ sym y)), or_false (is_in (take k cs) row)) d.diagonal;
          }
        where
          -- no list grows
          same : (b : Bool) → b ≡ false → (r : ℕ) → joined m order q cs k r ≡ grown (joined m order q cs k) p b q r
          same b e r = rw e (go (same_or r p))
            where
              go : (r ≡ p) ⊎ (r ≢ p) → joined m order q cs k r ≡ grown (joined m order q cs k) p false q r
              go (inl y) = rw (eq-eqb r p y, append-nil (joined m order q cs k p)) (ap (joined m order q cs k) y)
              go (inr y) = rw (ne_eqb r p y) refl

      -- .. whose row stands at r
      pub join-turn : {r : ℕ} {next at : List ℕ} {values : List ℤ} → r ≡ p → Joined m order begins q cs k next at values → Turn m order begins q cs vs k r next at values
      join-turn {r} {next} {at} {values} e d = subst (λ (y : ℕ). Turn m order begins q cs vs k y next at values) (sym e) (record {
        inside = back.0;
        beside_long = omega (arith, ap length is, ap length beside, length-columns m shape row low-row, length-values m shape row low-row);
        place = omega (arith, here, next-below m order begins parts (joined m order q cs k) p back.0 room);
        after = subst (λ (y : ℕ). After y (bool_byte (ltb p q))) (sym here) (subst (After slot) (byte (ltb p q)) (treated d));
      })
        where
          After : (y z : ℕ) → Type 0
          After y z = Joined m order begins q cs (k + 1) (set next p (y + z)) (set at y q) (set values y (get_or vs k (pos 0)))

          byte : (x : Bool) → bit x ≡ bool_byte x
          byte true = refl
          byte false = refl

          here : get_or next p 0 ≡ slot
          here = d.placed.ends p back.0

          shape : shaped m ≡ true
          shape = (matrix_tidy m o.matrix).shape

          low-row : row < m.n
          low-row = row_low m order o q low

      pub column-inside : i < m.n
      column-inside = column-below

    -- ---- none, and all

    -- its next place is where its part begins
    pub own-next : {next at : List ℕ} {values : List ℤ} → Upper m order begins q next at values → (get_or next q 0 ≡ first) × (first < max_updates)
    own-next u = (omega (arith, u.ends q low, ap length (upper_before m order q q (omega arith))), omega (arith, parts.room q low, upper_some m order q low))

    -- that is written, no column has been treated
    pub join-begun : {next at : List ℕ} {values : List ℤ} → Upper m order begins q next at values → Joined m order begins q cs 0 next (set at first q) (set values first (pos 0))
    join-begun {next} {at} {values} u = record {
      placed = subst (λ (y : ℕ). Placed m order begins (joined m order q cs 0) next (set at y q) (set values y (pos 0))) (first_is 0)
          (placed-written m order begins parts (joined m order q cs 0) q low (room-own 0) same q (pos 0) low);
      own = get_or-set_same at first q 0 (omega (arith, (own-next u).1, u.at_long));
      diagonal = get_or-set_same values first (pos 0) (pos 0) (omega (arith, (own-next u).1, u.beside_long));
    }
      where
        same : Placed m order begins (joined m order q cs 0) next at values
        same = let e : q ≡ q + 0 = omega arith in placed_same m order begins (λ p. upper_to m order p q) (joined m order q cs 0) (λ p l. ap (upper_to m order p) e) u

    -- row r is no column of q's: they are not adjacent
    far : (r : ℕ) → is_in cs (get_or order r 0) ≡ false → adjacent m (get_or order r 0) row ≡ false
    unfolding adjacent
    far r e = is_false (λ y. clash (ap (λ (xs : List ℕ). is_in xs (get_or order r 0)) is ∙ neighbour_column m row (get_or order r 0) (adjacent-both m o.matrix (get_or order r 0) row y)) e)

    joined-all : (r : ℕ) → r < m.n → grown (joined m order q cs (length cs)) q true q r ≡ upper_to m order r (q + 1)
    joined-all r h = go (same_or r q)
      where
        other : r ≢ q → (b : Bool) → is_in cs (get_or order r 0) ≡ b → (c : Bool) → ltb r q ≡ c → upper_to m order r (q + bit (b && c)) ≡ upper_to m order r (q + 1)
        other d true e true f = refl
        other d false e true f =
            (let x : q + 0 ≡ q = omega arith in ap (upper_to m order r) x)
            ∙ sym (ap (upper_to m order r) (add-one q) ∙ upper_next m order r q (omega (arith, ltb-true r q f)) ∙ rw (ne_eqb q r (λ y. d (sym y)), far r e) (append-nil (upper_to m order r q)))
        other d b e false f =
            let x = ltb-false r q f in
            rw (and_false b) (upper_before m order r (q + 0) (omega arith) ∙ sym (upper_before m order r (q + 1) (omega arith)))

        go : (r ≡ q) ⊎ (r ≢ q) → grown (joined m order q cs (length cs)) q true q r ≡ upper_to m order r (q + 1)
        go (inl e) =
            rw (eq-eqb r q e, joined-none (length cs) q (omega arith), e)
            (sym (ap (upper_to m order q) (add-one q) ∙ upper_next m order q q (omega arith) ∙ rw (eq-eqb q q refl, upper_before m order q q (omega arith)) refl))
        go (inr d) = rw (ne_eqb r q d, take-length cs) (other d (is_in cs (get_or order r 0)) refl (ltb r q) refl)

    -- all have, and its part has its first entry
    pub join-ended : {next at : List ℕ} {values : List ℤ} → Joined m order begins q cs (length cs) next at values → Upper m order begins (q + 1) (set next q (first + 1)) at values
    join-ended {next} {at} {values} d =
        let L = joined m order q cs (length cs) in
        let x = first_is (length cs) in
        placed_same m order begins (grown L q true q) (λ p. upper_to m order p (q + 1)) joined-all
        (subst (λ (n : ℕ). Placed m order begins (grown L q true q) (set next q (n + 1)) at values) x
        (placed_grown m order begins parts L q low (room-own (length cs)) d.placed (matrix_facts m o.matrix).few true q
        (λ e. ap (λ (y : ℕ). get_or at y 0) x ∙ d.own) (λ e. ap (λ (y : ℕ). get_or values y (pos 0)) x ∙ d.diagonal ∙ diagonal (is_in cs row) refl)))
      where
        diagonal : (b : Bool) → is_in cs row ≡ b → cond (is_in (take (length cs) cs) row) (entry m row row) (pos 0) ≡ entry m row row
        diagonal true e = rw (take-length cs, e) refl
        diagonal false e = rw (take-length cs, e) (sym (absent_column m row row (ap (λ (xs : List ℕ). is_in xs row) (sym is) ∙ e)))
