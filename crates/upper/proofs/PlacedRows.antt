-- Lists of positions that are kept in the parts of a matrix's rows: a row's next place is written, then counts.
use mathlib.Core.Path.{◌≡◌, refl, sym, ap, ◌∙◌, subst}
use mathlib.Core.Logic.{◌⊎◌, inl, inr, ◌≢◌}
use mathlib.Core.Bool.{Bool, true, false, cond}
use mathlib.Core.List.{List, [], ◌++◌}
use Prim.Native.Nat.{ℕ, ◌+◌, ◌≤◌, ◌<◌}
use native.Mathlib.Omega.{arith}
use lib.Dec.{eqb, ltb}
use lib.IntN.{ℤ, pos}
use lib.ListN.{length, get_or, set, length-append, length-set, get_or-append}
use lib.Seq.{get_or-set_same, get_or-set_other, get_or-append_seam}
use borrow.Author.Tests.{eq-eqb, ne_eqb, ltb-true, ltb-false}
use Rattle.base.specs.Lists.{keep, bit}
use Rattle.base.proofs.Booleans.{same_or}
use Rattle.base.proofs.Lists.{set-each}
use Rattle.matrix.specs.Limits.{max_rows}
use Rattle.matrix.specs.Matrix.{Matrix, entry}
use Rattle.plan.proofs.Once.{once, low_at}
use Rattle.tables.specs.Code.Laid.{max_updates}
use Rattle.upper.specs.Code.Upper.{Ordered, upper_to, upper_of, Parts, Placed, Upper}
use Rattle.upper.proofs.UpperRows.{length-keep, upper_before}

-- ---- one position more

bit_le : (b : Bool) → bit b ≤ 1
bit_le true = omega arith
bit_le false = omega arith

-- the list of p grows by q if b holds
abbrev pub grown : (L : ℕ → List ℕ) (p : ℕ) (b : Bool) (q : ℕ) → ℕ → List ℕ
grown L p b q r = cond (eqb r p) (L p ++ keep b q []) (L r)

-- what stands in the order is a row
pub row_low : (m : Matrix) (order : List ℕ) → Ordered m order → (p : ℕ) → p < m.n → get_or order p 0 < m.n
row_low m order o p l = let rows = once m.n order o.once in low_at m.n order p rows.low (omega (arith, rows.long))

module _ (m : Matrix) (order begins : List ℕ) (parts : Parts m order begins) where
  -- the part of the row at p
  abbrev part : ℕ → ℕ
  part p = get_or begins p 0

  -- how many entries it has in the end
  abbrev whole : ℕ → ℕ
  whole p = length (upper_of m order p)

  module _ (L : ℕ → List ℕ) (p : ℕ) (low : p < m.n) where
    -- the next place of the row at p
    abbrev place : ℕ
    place = part p + length (L p)

    -- what stands in the parts: g r of each position in the list of r
    module _ {A : Type 0} (d : A) (g : ℕ → ℕ → A) (xs : List A) where
      abbrev Holds : (ℕ → List ℕ) → List A → Type 0
      Holds K ys = (r c : ℕ) → r < m.n → c < length (K r) → get_or ys (part r + c) d ≡ g r (get_or (K r) c 0)

      holds-written : ((r : ℕ) → r < m.n → length (L r) ≤ whole r) → length (L p) < whole p → (v : A) → Holds L xs → Holds L (set xs place v)
      holds-written inside room v had r c l h = get_or-set_other xs place (part r + c) v d (go (same_or r p)) ∙ had r c l h
        where
          go : (r ≡ p) ⊎ (r ≢ p) → part r + c ≢ place
          go (inl e) y =
              let k : c < length (L p) = rw e at h in
              let z : part p + c ≡ place = rw e at y in
              omega arith
          go (inr e) y = parts.apart r p c (length (L p)) l low e (omega (arith, inside r l)) room y

      holds_grown : (b : Bool) (q : ℕ) → (b ≡ true → get_or xs place d ≡ g p q) → Holds L xs → Holds (grown L p b q) xs
      holds_grown b q is had r c l h = go (same_or r p)
        where
          own : c < length (L p ++ keep b q []) → (y : Bool) → ltb c (length (L p)) ≡ y → (z : Bool) → b ≡ z → get_or xs (part p + c) d ≡ g p (get_or (L p ++ keep b q []) c 0)
          own k true e z f = let i = ltb-true c (length (L p)) e in had p c low i ∙ ap (g p) (sym (get_or-append (L p) (keep b q []) 0 c i))
          own k false e true f =
              let i : length (L p) ≡ c = omega (arith, ltb-false c (length (L p)) e, length-append (L p) (keep b q []), length-keep b q, bit_le b) in
              rw (← i, f) (is f ∙ ap (g p) (sym (get_or-append_seam (L p) q [] 0)))
          own k false e false f = absurd (omega (arith, ltb-false c (length (L p)) e, length-append (L p) (keep b q []), length-keep b q, ap bit f))

          go : (r ≡ p) ⊎ (r ≢ p) → get_or xs (part r + c) d ≡ g r (get_or (grown L p b q r) c 0)
          go (inl e) = let k : c < length (L p ++ keep b q []) = rw (eq-eqb r p e) at h in rw (eq-eqb r p e, e) (own k (ltb c (length (L p))) refl b refl)
          go (inr e) = let k : c < length (L r) = rw (ne_eqb r p e) at h in rw (ne_eqb r p e) (had r c l k)

    -- .. is one of the tables if the row's part has room
    pub next-below : length (L p) < whole p → place < max_updates
    next-below h = omega (arith, parts.room p low)

    module _ (room : length (L p) < whole p) {next at : List ℕ} {beside : List ℤ} (t : Placed m order begins L next at beside) where
      -- whatever stands in the next place, the lists stay
      pub placed-written : (q : ℕ) (v : ℤ) → q < m.n → Placed m order begins L next (set at place q) (set beside place v)
      placed-written q v l = record {
        next_long = t.next_long;
        at_long = length-set at place q ∙ t.at_long;
        beside_long = length-set beside place v ∙ t.beside_long;
        at_low = set-each (λ k x. x < m.n) at place q (omega (arith, next-below room, t.at_long)) l (λ k e. t.at_low k);
        ends = t.ends;
        inside = t.inside;
        positions = holds-written 0 (λ r c. c) at t.inside room q t.positions;
        entries = holds-written (pos 0) (λ r c. entry m (get_or order r 0) (get_or order c 0)) beside t.inside room v t.entries;
      }

      module _ (few : m.n ≤ max_rows) (b : Bool) (q : ℕ) (is : b ≡ true → get_or at place 0 ≡ q) (has : b ≡ true → get_or beside place (pos 0) ≡ entry m (get_or order p 0) (get_or order q 0)) where
        ends : (r : ℕ) → r < m.n → (r ≡ p) ⊎ (r ≢ p) → get_or (set next p (place + bit b)) r 0 ≡ part r + length (grown L p b q r)
        ends r l (inl e) =
            rw (eq-eqb r p e, e, length-append (L p) (keep b q []), length-keep b q) (get_or-set_same next p (place + bit b) 0 (omega (arith, t.next_long)) ∙ omega arith)
        ends r l (inr e) = rw (ne_eqb r p e) (get_or-set_other next p r (place + bit b) 0 e ∙ t.ends r l)

        inside : (r : ℕ) → r < m.n → (r ≡ p) ⊎ (r ≢ p) → length (grown L p b q r) ≤ whole r
        inside r l (inl e) = rw (eq-eqb r p e, e, length-append (L p) (keep b q []), length-keep b q) (omega (arith, bit_le b))
        inside r l (inr e) = rw (ne_eqb r p e) (t.inside r l)

        -- the list of p takes up q, which stands there, if b holds
        pub placed_grown : Placed m order begins (grown L p b q) (set next p (place + bit b)) at beside
        placed_grown = record {
          next_long = length-set next p (place + bit b) ∙ t.next_long;
          at_long = t.at_long;
          beside_long = t.beside_long;
          at_low = t.at_low;
          ends = λ r l. ends r l (same_or r p);
          inside = λ r l. inside r l (same_or r p);
          positions = holds_grown 0 (λ r c. c) at b q is t.positions;
          entries = holds_grown (pos 0) (λ r c. entry m (get_or order r 0) (get_or order c 0)) beside b q has t.entries;
        }

-- nothing of the upper triangle stands where the parts begin
pub upper_none : (m : Matrix) (order : List ℕ) → 1 ≤ m.n → {begins at : List ℕ} {beside : List ℤ} → length begins ≡ max_rows → length at ≡ max_updates → ((k : ℕ) → get_or at k 0 ≡ 0)
    → length beside ≡ max_updates → Upper m order begins 0 begins at beside
upper_none m order some l a y b = record {
  next_long = l;
  at_long = a;
  beside_long = b;
  at_low = λ k. omega (arith, y k);
  ends = λ p h. omega (arith, ap length (none p));
  inside = λ p h. omega (arith, ap length (none p));
  positions = λ p c h k. absurd (omega (arith, ap length (none p)));
  entries = λ p c h k. absurd (omega (arith, ap length (none p)));
}
  where
    none : (p : ℕ) → upper_to m order p 0 ≡ []
    none p = upper_before m order p 0 (omega arith)

-- only the lists count
pub placed_same : (m : Matrix) (order begins : List ℕ) (L L' : ℕ → List ℕ) {next at : List ℕ} {beside : List ℤ} → ((p : ℕ) → p < m.n → L p ≡ L' p)
    → Placed m order begins L next at beside → Placed m order begins L' next at beside
placed_same m order begins L L' {next} {at} {beside} e t = record {
  next_long = t.next_long;
  at_long = t.at_long;
  beside_long = t.beside_long;
  at_low = t.at_low;
  ends = λ p l. omega (arith, t.ends p l, ap length (e p l));
  inside = λ p l. omega (arith, t.inside p l, ap length (e p l));
  positions = λ p c l. subst (λ (xs : List ℕ). c < length xs → get_or at (get_or begins p 0 + c) 0 ≡ get_or xs c 0) (e p l) (t.positions p c l);
  entries = λ p c l. subst (λ (xs : List ℕ). c < length xs → get_or beside (get_or begins p 0 + c) (pos 0) ≡ entry m (get_or order p 0) (get_or order (get_or xs c 0) 0)) (e p l) (t.entries p c l);
}
