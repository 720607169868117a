-- A worker's updates, counted row by row: how many there are before a position, and which row an update belongs to.
use mathlib.Core.Path.{◌≡◌, refl, sym, ap, ◌∙◌, subst}
use mathlib.Core.Logic.{◌≢◌}
use mathlib.Core.Bool.{Bool, true, false}
use mathlib.Core.List.{◌++◌}
use Prim.Native.Nat.{ℕ, zero, suc, ◌+◌, ◌-◌, ◌≤◌, ◌<◌}
use native.Mathlib.Omega.{arith}
use lib.ListN.{length, get_or, length-append, get_or-append}
use lib.Seq.{get_or-append-add}
use lib.Dec.{eqb, ltb, leb}
use borrow.Author.Tests.{eqb-true, eq-eqb, ne_eqb, leb-true, leb-false, ltb-true, ltb-false}
use Rattle.run.specs.Job.{Job}
use Rattle.run.specs.Updates.{row_updates, owner, when, up_to, no_update}

module _ (j : Job) where
  -- how many updates worker w has in the rows before position e
  abbrev pub cum : ℕ → ℕ → ℕ
  cum w e = length (up_to j w e)

  -- one row more
  pub cum_suc : (w e : ℕ) → cum w (suc e) ≡ cum w e + length (when (eqb (owner j e) w) (row_updates j e))
  unfolding up_to
  cum_suc w e = length-append (up_to j w e) (when (eqb (owner j e) w) (row_updates j e))

  -- .. of its own
  pub cum_own : (w e : ℕ) → owner j e ≡ w → cum w (suc e) ≡ cum w e + length (row_updates j e)
  unfolding when
  cum_own w e o = cum_suc w e ∙ rw (eq-eqb (owner j e) w o) refl

  -- .. of another worker
  pub cum_other : (w e : ℕ) → owner j e ≢ w → cum w (suc e) ≡ cum w e
  unfolding when
  cum_other w e d = let z : length (when (eqb (owner j e) w) (row_updates j e)) ≡ 0 = rw (ne_eqb (owner j e) w d) refl in omega (arith, cum_suc w e)

  -- the same or more up to a later position
  pub cum_mono : (w a b : ℕ) → a ≤ b → cum w a ≤ cum w b
  cum_mono w a zero h = let e : a ≡ 0 = omega arith in subst (λ (y : ℕ). cum w y ≤ cum w 0) (sym e) (omega arith)
  cum_mono w a (suc b) h = go (leb a b) refl (cum_mono w a b)
    where
      go : (t : Bool) → leb a b ≡ t → (a ≤ b → cum w a ≤ cum w b) → cum w a ≤ cum w (suc b)
      go true e ih = omega (arith, ih (leb-true a b e), cum_suc w b)
      go false e ih = let q : a ≡ suc b = omega (arith, leb-false a b e) in subst (λ (y : ℕ). cum w y ≤ cum w (suc b)) (sym q) (omega arith)

  -- the same if all rows between are other workers'
  pub cum_const : (w a b : ℕ) → a ≤ b → ((q : ℕ) → a ≤ q → q < b → owner j q ≢ w) → cum w b ≡ cum w a
  cum_const w a zero h f = let e : a ≡ 0 = omega arith in ap (cum w) (sym e)
  cum_const w a (suc b) h f = go (leb a b) refl (λ k. cum_const w a b k (λ q x y. f q x (omega arith)))
    where
      go : (t : Bool) → leb a b ≡ t → (a ≤ b → cum w b ≡ cum w a) → cum w (suc b) ≡ cum w a
      go true e ih = let l = leb-true a b e in cum_other w b (f b l (omega arith)) ∙ ih l
      go false e ih = let q : a ≡ suc b = omega (arith, leb-false a b e) in ap (cum w) (sym q)

  -- update number k of worker w's before position e, and its row
  pub record At (w e k : ℕ) : Type 0 where
    pub row : ℕ
    pub below : row < e
    pub mine : owner j row ≡ w
    pub low : cum w row ≤ k
    pub high : k < cum w (suc row)
    pub inside : k - cum w row < length (row_updates j row)
    pub is : get_or (up_to j w e) k no_update ≡ get_or (row_updates j row) (k - cum w row) no_update

  -- every update is found
  pub locate : (w e k : ℕ) → k < cum w e → At w e k
  unfolding up_to when
  locate w zero k l = absurd (omega arith)
  locate w (suc e) k l = go (ltb k (cum w e)) refl (locate w e k)
    where
      last : (b : Bool) → eqb (owner j e) w ≡ b → cum w e ≤ k → At w (suc e) k
      last true m c =
          let s = cum_own w e (eqb-true (owner j e) w m) in
          let i : ℕ = k - cum w e in
          let p : cum w e + i ≡ k = omega arith in
          record {
            row = e;
            below = omega arith;
            mine = eqb-true (owner j e) w m;
            low = c;
            high = l;
            inside = omega arith;
            is = rw m (ap (λ (y : ℕ). get_or (up_to j w e ++ row_updates j e) y no_update) (sym p) ∙ get_or-append-add (up_to j w e) (row_updates j e) i no_update);
          }
      last false m c = let s : cum w (suc e) ≡ cum w e + 0 = cum_suc w e ∙ rw m refl in absurd (omega arith)

      go : (b : Bool) → ltb k (cum w e) ≡ b → (k < cum w e → At w e k) → At w (suc e) k
      go true c ih =
          let x = ltb-true k (cum w e) c in
          let r = ih x in
          record {
            row = r.row;
            below = omega (arith, r.below);
            mine = r.mine;
            low = r.low;
            high = r.high;
            inside = r.inside;
            is = get_or-append (up_to j w e) (when (eqb (owner j e) w) (row_updates j e)) no_update k x ∙ r.is;
          }
      go false c ih = last (eqb (owner j e) w) refl (ltb-false k (cum w e) c)
