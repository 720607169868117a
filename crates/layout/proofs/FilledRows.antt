-- The tables of rows, filled row by row and leaf by leaf, and what they are in the end.
use mathlib.Core.Path.{◌≡◌, refl, sym, ap, ◌∙◌, subst}
use mathlib.Core.Logic.{◌⊎◌, inl, inr, ◌≢◌}
use mathlib.Core.Bool.{Bool, true, false}
use mathlib.Core.List.{List}
use Prim.Native.Nat.{ℕ, suc, ◌+◌, ◌*◌, ◌-◌, ◌≤◌, ◌<◌}
use native.Mathlib.Omega.{arith}
use native.Mathlib.Numerals.{add-one}
use lib.Dec.{ltb}
use lib.ListN.{length, get_or, set, replicate, length-set}
use lib.Seq.{get_or-set_same, get_or-set_other}
use borrow.Author.Tests.{ltb-true, ltb-false}
use Rattle.base.proofs.Booleans.{same_or, clash}
use Rattle.base.proofs.Lists.{set-each, get_d_zeros}
use Rattle.matrix.specs.Limits.{max_rows}
use Rattle.matrix.proofs.Matrix.{matrix_facts}
use Rattle.plan.specs.Sound.{max_workers, max_groups}
use Rattle.plan.specs.Code.Checks.{record_at, below_whole}
use Rattle.plan.specs.declared.fields.Group as code
use Rattle.run.specs.Job.{Job}
use Rattle.run.specs.Updates.{row_updates, up_to}
use Rattle.tables.specs.Code.Laid.{has_child, Leaf, LeafOf, end_of, max_updates, next_of, begin_of, Counted, Laid, Bounded}
use Rattle.layout.specs.Code.UpdateTable.{Sized, Planned, Stretch, Put, Filled, Walked, Blank, reached}
use Rattle.layout.proofs.UpdateRoom.{spans_apart, rising-of}
use Rattle.layout.proofs.LeafRows.{leaf-inside, all-reached, reached_group, of-leaf, stretch-of, Read, leaf_end, leaf_first}
use Rattle.layout.proofs.CountRows.{RowFits, row_fits, stretch_other, grown_at}

-- tables of zeros
pub blank-zeros : (n : ℕ) → 1 ≤ n → Blank n (replicate max_updates 0) (replicate max_rows 0) (replicate max_rows 0) (replicate max_groups 0)
blank-zeros n some = record {
  row_long = refl;
  begins_long = refl;
  leaves_long = refl;
  ends_long = refl;
  row_low = λ k. omega (arith, get_d_zeros max_updates k);
  leaf_low = λ q. omega (arith, get_d_zeros max_rows q);
}

-- ---- one row more

module _ {j : Job} {sizes : List ℕ} (t : Sized j sizes) {i w s e : ℕ} (h : Stretch j i w s e) {p : ℕ} (a : s ≤ p) (b : p < e) {row begins leaves : List ℕ} (f : Filled j p row begins leaves) where
  low : p < j.matrix.n
  low = omega (arith, h.inside)

  fits : RowFits t h p
  fits = row_fits t h p a b

  module _ {place end : ℕ} (is : place ≡ next_of j w p) {row' : List ℕ} (put : (end + 1 ≡ place + 2 * get_or sizes p 0) × Put p place end row row') where
    begins-here : place ≡ begin_of j p
    begins-here = is ∙ sym fits.begins

    ends-here : end ≡ begin_of j p + length (row_updates j p)
    ends-here = omega (arith, begins-here, put.0, fits.updates-are)

    rows : (q c : ℕ) → q < p + 1 → c < length (row_updates j q) → (q ≡ p) ⊎ (q ≢ p) → get_or row' (begin_of j q + c) 0 ≡ q
    rows q c l k (inl y) =
        let k' : c < length (row_updates j p) = rw y at k in
        rw y (put.1.here (begin_of j p + c) (omega (arith, begins-here)) (omega (arith, ends-here)))
    rows q c l k (inr d) = go (spans_apart j q p (omega arith) low d)
      where
        had : get_or row (begin_of j q + c) 0 ≡ q
        had = f.rows q c (omega (arith, d)) k

        go : (begin_of j q + length (row_updates j q) ≤ begin_of j p) ⊎ (begin_of j p + length (row_updates j p) ≤ begin_of j q) → get_or row' (begin_of j q + c) 0 ≡ q
        go (inl y) = put.1.before (begin_of j q + c) (omega (arith, begins-here)) ∙ had
        go (inr y) = put.1.after (begin_of j q + c) (omega (arith, ends-here)) ∙ had

    row_low : (k : ℕ) → (x : Bool) → ltb k place ≡ x → (y : Bool) → ltb k end ≡ y → get_or row' k 0 < j.matrix.n
    row_low k true x y z = omega (arith, put.1.before k (ltb-true k place x), f.row_low k)
    row_low k false x true z = omega (arith, put.1.here k (ltb-false k place x) (ltb-true k end z), low)
    row_low k false x false z = omega (arith, put.1.after k (ltb-false k end z), f.row_low k)

    pub filled_row : (end ≡ next_of j w (p + 1)) × Filled j (p + 1) row' (set begins p place) (set leaves p i)
    filled_row = (
      rw (add-one p) (omega (arith, put.0, is, fits.one_more)),
      record {
        row_long = put.1.long ∙ f.row_long;
        begins_long = length-set begins p place ∙ f.begins_long;
        leaves_long = length-set leaves p i ∙ f.leaves_long;
        begun = λ q l. begun q l (same_or q p);
        rows = λ q c l k. rows q c l k (same_or q p);
        leaf = λ q l. leaf q l (same_or q p);
        row_low = λ k. row_low k (ltb k place) refl (ltb k end) refl;
        leaf_low = set-each (λ q v. v < max_groups) leaves p i (omega (arith, f.leaves_long, fits.few)) h.record_low (λ q d. f.leaf_low q);
      },
    )
      where
        begun : (q : ℕ) → q < p + 1 → (q ≡ p) ⊎ (q ≢ p) → get_or (set begins p place) q 0 ≡ begin_of j q
        begun q l (inl y) = rw y (get_or-set_same begins p place 0 (omega (arith, f.begins_long, fits.few)) ∙ begins-here)
        begun q l (inr d) = get_or-set_other begins p q place 0 d ∙ f.begun q (omega (arith, d))

        leaf : (q : ℕ) → q < p + 1 → (q ≡ p) ⊎ (q ≢ p) → LeafOf j (get_or (set leaves p i) q 0) q
        leaf q l (inl y) = rw (y, get_or-set_same leaves p i 0 (omega (arith, f.leaves_long, fits.few))) (h.of p a b)
        leaf q l (inr d) = rw (get_or-set_other leaves p q i 0 d) (f.leaf q (omega (arith, d)))

-- ---- leaf by leaf

module _ {j : Job} {groups : List ℕ} {count : ℕ} {sizes : List ℕ} (g : Planned j groups count sizes) {first : List ℕ} (c : Counted j first) where
  -- no record has been walked
  pub walked_none : {row begins leaves ends : List ℕ} → Blank j.matrix.n row begins leaves ends → Walked j (reached count groups 0) 0 first row begins leaves ends
  unfolding up_to reached
  walked_none b = record {
    filled = record {
      row_long = b.row_long;
      begins_long = b.begins_long;
      leaves_long = b.leaves_long;
      begun = λ p l. absurd (omega arith);
      rows = λ p k l. absurd (omega arith);
      leaf = λ p l. absurd (omega arith);
      row_low = b.row_low;
      leaf_low = b.leaf_low;
    };
    next_long = c.long;
    nexts = λ w l. omega (arith, c.is w (omega arith));
    ends_long = b.ends_long;
    ended = λ k h l. absurd (omega arith);
  }

  module _ {i : ℕ} (l : i < count) {next row begins leaves ends : List ℕ} (t : Walked j (reached count groups i) i next row begins leaves ends) where
    -- a group with groups inside has no rows of its own
    pub walked_group : has_child i (below_whole count groups) ≡ true → Walked j (reached count groups (i + 1)) (i + 1) next row begins leaves ends
    walked_group h = subst (λ (e : ℕ). Walked j e (i + 1) next row begins leaves ends) (sym (ap (reached count groups) (add-one i) ∙ reached_group g i l h)) (record {
      filled = t.filled;
      next_long = t.next_long;
      nexts = t.nexts;
      ends_long = t.ends_long;
      ended = λ k x y. go k x y (same_or k i);
    })
      where
        go : (k : ℕ) → Leaf j k → k < i + 1 → (k ≡ i) ⊎ (k ≢ i) → get_or ends k 0 ≡ end_of j k
        go k x y (inl e) = absurd (clash h (of-leaf g i l (subst (Leaf j) e x)))
        go k x y (inr d) = t.ended k x (omega (arith, d))

    module _ (childless : has_child i (below_whole count groups) ≡ false) where
      abbrev w : ℕ
      w = (record_at groups i).first

      abbrev stop : ℕ
      stop = reached count groups (suc i)

      here : Stretch j i w (reached count groups i) stop
      here = stretch-of g i l childless

      -- a leaf
      pub walked-leaf : {end : ℕ} {row' begins' leaves' : List ℕ} → (end ≡ next_of j w stop) × Filled j stop row' begins' leaves'
          → Walked j (reached count groups (i + 1)) (i + 1) (set next w end) row' begins' leaves' (set ends i (2 * (end - get_or first w 0)))
      walked-leaf {end} {row'} {begins'} {leaves'} f = rw (add-one i) (record {
        filled = f.1;
        next_long = length-set next w end ∙ t.next_long;
        nexts = grown_at next (λ v. v) (λ v u y. y) end (λ v. next_of j v (reached count groups i)) (λ v. next_of j v stop) max_workers w (omega (arith, here.worker, t.next_long)) f.0
            (λ v d. omega (arith, stretch_other here v d)) t.nexts;
        ends_long = length-set ends i (2 * (end - get_or first w 0)) ∙ t.ends_long;
        ended = λ k x y. go k x y (same_or k i);
      })
        where
          is : Leaf j i → 2 * (end - get_or first w 0) ≡ end_of j i
          is x = rw (leaf_end g i l x, leaf_first g i l) (omega (arith, f.0, c.is w (omega (arith, here.worker))))

          go : (k : ℕ) → Leaf j k → k < suc i → (k ≡ i) ⊎ (k ≢ i) → get_or (set ends i (2 * (end - get_or first w 0))) k 0 ≡ end_of j k
          go k x y (inl e) = rw e (get_or-set_same ends i (2 * (end - get_or first w 0)) 0 (omega (arith, t.ends_long, here.record_low)) ∙ is (subst (Leaf j) e x))
          go k x y (inr d) = get_or-set_other ends i k (2 * (end - get_or first w 0)) 0 d ∙ t.ended k x (omega (arith, d))

      -- .. by the record that the code reads
      pub walked-read : {r : code.Group} → Read g i l childless r → {end : ℕ} {row' begins' leaves' : List ℕ}
          → (end ≡ next_of j r.first (r.start + r.length)) × Filled j (r.start + r.length) row' begins' leaves'
          → Walked j (reached count groups (i + 1)) (i + 1) (set next r.first end) row' begins' leaves' (set ends i (2 * (end - get_or first r.first 0)))
      walked-read q f = rw q.firsts (walked-leaf (rw (q.firsts, q.ends) at f))

  -- all records have been walked
  pub all_laid : {i : ℕ} {next row begins leaves ends : List ℕ} → i ≡ count → Walked j (reached count groups i) i next row begins leaves ends
      → Laid j first row begins leaves ends × Bounded j.matrix.n first row leaves
  all_laid {i} {next} {row} {begins} {leaves} {ends} e t =
      let f : Filled j j.matrix.n row begins leaves = subst (λ (p : ℕ). Filled j p row begins leaves) (ap (reached count groups) e ∙ all-reached g) t.filled in (
        record { counted = c; begins_long = f.begins_long; begun = f.begun; rows = f.rows; leaf = f.leaf; ended = λ k h. t.ended k h (omega (arith, e, leaf-inside g k h)) },
        record {
          rising = rising-of j g.sized.accepted c;
          rows_few = (matrix_facts j.matrix g.sized.accepted.matrix).few;
          row_low = f.row_low;
          leaf_low = f.leaf_low;
        },
      )
