-- The call: its refusals in turn, and the lists that it leaves.
use mathlib.Core.Path.{◌≡◌, refl, sym, ap, ap₂, ◌∙◌}
use Rattle.std.proofs.Common.{Result}
use mathlib.Core.Bool.{Bool, true, false, ◌||◌, ◌&&◌, cond, and-true}
use mathlib.Core.List.{List, [], ◌∷◌, map}
use Prim.Native.Nat.{ℕ, ◌+◌, ◌≤◌, ◌<◌}
use native.Mathlib.Omega.{arith}
use lib.Dec.{eqb, ltb, leb}
use lib.IntN.{ℤ}
use lib.ListN.{length}
use borrow.Author.Tests.{leb-true, leb-false, le-leb, ltb-true, lt-ltb, eq-eqb, ne_eqb}
use Rattle.base.proofs.Booleans.{and_left, and_right}
use Rattle.base.specs.Verdicts.{reply_of}
use Rattle.base.specs.Lists.{filter, all, concat, is_in, range, bit, distinct}
use Rattle.base.specs.Integers.{within}
use Rattle.base.specs.Refusals as why
use Rattle.base.specs.Replies.{Reply, refused, in_turn, lent}
use Rattle.base.specs.declared.Refusal.{Refusal}
use Rattle.base.proofs.Each.{each_all, all-each}
use Rattle.base.proofs.Lists.{all_append, all_map, of-all, filter_in, filter_passes, range_in}
use Rattle.base.proofs.Replies.{lent-refused}
use Rattle.matrix.specs.Limits.{max_rows, max_entries, max_value}
use Rattle.matrix.specs.Matrix.{Matrix, is_matrix, matrix_check, lower_entries}
use Rattle.matrix.specs.Tabulated.{columns_in, tabulated}
use Rattle.market.specs.Parse.{Triplet, matrix_text, triplet}
use Rattle.market.proofs.Accepted.{Inner}
use Rattle.market.proofs.Cells.{Low}
use Rattle.compress.specs.Code.Rows.{InRows, Placed}
use Rattle.joined.specs.Joined.{past_first, joined_rows, are_places, stored_in, stiffness, joined, in_limits, join_reply}
use Rattle.joined.specs.Code.Rows.{is_inside, Collected, Sewing}
use Rattle.joined.proofs.Entries.{stored-both, values-both}
use Rattle.joined.proofs.Gathering.{Gathered, places_test, gathered-count}
use Rattle.joined.proofs.Replied.{joined-read, joined-reply}

-- the reply and the three lists after the call
abbrev pub Answers : (a b : Matrix) (places starts₀ columns₀ : List ℕ) (values₀ : List ℤ) → Reply → (starts' columns' : List ℕ) (values' : List ℤ) → Type 0
Answers a b places starts₀ columns₀ values₀ r starts' columns' values' =
    let reply = join_reply a b places (length starts₀) (length columns₀) (length values₀) in
    (r ≡ reply) × ((starts' ≡ lent reply (joined a b places).starts starts₀) × ((columns' ≡ lent reply (joined a b places).columns columns₀) × (values' ≡ lent reply (joined a b places).values values₀)))

-- ---- what was collected is the net

pub collected : {n : ℕ} {stored : ℕ → ℕ → Bool} {value : ℕ → ℕ → ℤ} {es : List Triplet} → Collected n stored value es → Gathered n stored value es
collected {n} {stored} {value} {es} c = record {
  low = all-each Low (is_inside n) (λ t h. leb-true t.column t.row (and_left (leb t.column t.row) (ltb t.row n) h)) es c.inside;
  inner = all-each (Inner n) (is_inside n) (λ t h. let r = ltb-true t.row n (and_right (leb t.column t.row) (ltb t.row n) h) in (r, omega (arith, r, leb-true t.column t.row (and_left (leb t.column t.row) (ltb t.row n) h)))) es c.inside;
  cells = λ i j l k. c.cells i j k ∙ ap (λ (t : Bool). cond t (triplet i j (value i j) ∷ []) []) (low i j l);
}
  where
    low : (i j : ℕ) → j ≤ i → stored i j && leb j i ≡ stored i j
    low i j l = rw (le-leb j i l) (and-true (stored i j))

-- ---- the limits hold

pieces_all : {A : Type 0} (p : A → Bool) (f : ℕ → List A) (xs : List ℕ) → ((i : ℕ) → is_in xs i ≡ true → all p (f i) ≡ true) → all p (concat (map f xs)) ≡ true
pieces_all p f [] h = refl
pieces_all p f (x ∷ xs) h = all_append p (f x) (concat (map f xs)) ∙ rw (h x here, pieces_all p f xs (λ i m. h i (later i m)))
  where
    here : is_in (x ∷ xs) x ≡ true
    here = rw (eq-eqb x x refl)

    later : (i : ℕ) → is_in xs i ≡ true → is_in (x ∷ xs) i ≡ true
    later i m = go (eqb i x)
      where
        go : (t : Bool) → t || is_in xs i ≡ true
        go true = refl
        go false = m

module _ (a b : Matrix) (places : List ℕ) (n : ℕ) (w : Sewing a b places n) {es : List Triplet} (c : Collected n (stored_in a b places) (stiffness a b places) es) where
  -- every stored value, on either side of the diagonal
  small : (i j : ℕ) → i < n → j < n → stored_in a b places i j ≡ true → within max_value (stiffness a b places i j) ≡ true
  small i j li lj s = go (leb j i) refl
    where
      go : (t : Bool) → leb j i ≡ t → within max_value (stiffness a b places i j) ≡ true
      go true e = c.small i j (leb-true j i e) li s
      go false e =
          rw (values-both a b places w.first w.second w.placed i j)
          (c.small j i (omega (arith, leb-false j i e)) lj (stored-both a b places w.first w.second w.placed i j s))

  values-small : all (within max_value) (joined a b places).values ≡ true
  unfolding joined tabulated columns_in
  values-small =
      rw (← w.rows)
      (pieces_all (within max_value) (λ i. map (stiffness a b places i) (filter (stored_in a b places i) (range 0 n))) (range 0 n)
      (λ i mi. all_map (within max_value) (stiffness a b places i) (filter (stored_in a b places i) (range 0 n))
      ∙ of-all (λ j. within max_value (stiffness a b places i j)) (filter (stored_in a b places i) (range 0 n))
      (λ j mj. small i j (omega (arith, (range_in i 0 n mi).1)) (omega (arith, (range_in j 0 n (filter_in (stored_in a b places i) (range 0 n) j mj)).1)) (filter_passes (stored_in a b places i) (range 0 n) j mj))))

  counted : lower_entries (joined a b places) ≡ length es
  unfolding joined
  counted =
      rw (← w.rows)
      (sym (gathered-count n (stored_in a b places) (stiffness a b places) es (collected c).inner (λ i j li lj. rw (c.cells i j li) (one i j (stored_in a b places i j && leb j i)))))
    where
      one : (i j : ℕ) (t : Bool) → length (cond t (triplet i j (stiffness a b places i j) ∷ []) []) ≡ bit t
      one i j true = refl
      one i j false = refl

  joined-rows : (joined a b places).n ≡ joined_rows a places
  unfolding joined tabulated
  joined-rows = refl

  pub in-limits : length es ≤ max_entries → in_limits (joined a b places) ≡ true
  unfolding in_limits
  in-limits h = rw (counted, values-small, joined-rows, ← w.rows, le-leb n max_rows w.few, le-leb (length es) max_entries h)

  -- what the sort into full rows is handed
  pub in-rows : InRows n es
  in-rows = record { rows = w.few; inside = each_all (Inner n) (λ (t : Triplet). ltb t.row n && ltb t.column n) (λ t h. rw (lt-ltb t.row n h.0, lt-ltb t.column n h.1)) es (collected c).inner }

  module _ (h : length es ≤ max_entries) {starts₀ columns₀ : List ℕ} {values₀ : List ℤ} {r : Result ℕ Refusal} {starts' columns' : List ℕ} {values' : List ℤ} (p : Placed (matrix_text n es) starts₀ columns₀ values₀ r starts' columns' values') where
    pub placed_joins : Answers a b places starts₀ columns₀ values₀ (reply_of r) starts' columns' values'
    placed_joins =
        let g = rw w.rows at (collected c) in
        let q = rw w.rows at p in
        let fit = in-limits h in
        let same = joined-reply a b places w.first w.second w.placed fit g (length starts₀) (length columns₀) (length values₀) in
        let net = joined-read a b places w.first w.second w.placed fit g in (
          q.reply ∙ same,
          (
            q.starts ∙ ap₂ (λ (r : Reply) (m : Matrix). lent r m.starts starts₀) same net,
            (
              q.columns ∙ ap₂ (λ (r : Reply) (m : Matrix). lent r m.columns columns₀) same net,
              q.values ∙ ap₂ (λ (r : Reply) (m : Matrix). lent r m.values values₀) same net,
            ),
          ),
        )

-- ---- the refusals

-- with this number, the lists as they were
abbrev Refused : (a b : Matrix) (places starts₀ columns₀ : List ℕ) (values₀ : List ℤ) → ℕ → Type 0
Refused a b places starts₀ columns₀ values₀ q = Answers a b places starts₀ columns₀ values₀ (refused q 0) starts₀ columns₀ values₀

module _ (a b : Matrix) (places starts₀ columns₀ : List ℕ) (values₀ : List ℤ) where
  refused_joins : (q : ℕ) → join_reply a b places (length starts₀) (length columns₀) (length values₀) ≡ refused q 0 → Refused a b places starts₀ columns₀ values₀ q
  refused_joins q f = (
    sym f,
    (
      sym (lent-refused (joined a b places).starts starts₀ _ q 0 f),
      (sym (lent-refused (joined a b places).columns columns₀ _ q 0 f), sym (lent-refused (joined a b places).values values₀ _ q 0 f)),
    ),
  )

  pub first_unmade : is_matrix a ≡ false → Refused a b places starts₀ columns₀ values₀ why.not_matrix
  first_unmade h = refused_joins why.not_matrix (unfold join_reply matrix_check in_turn in rw h)

  module _ (oka : is_matrix a ≡ true) where
    pub second_unmade : is_matrix b ≡ false → Refused a b places starts₀ columns₀ values₀ why.not_matrix
    second_unmade h = refused_joins why.not_matrix (unfold join_reply matrix_check in_turn in rw (oka, h))

    module _ (okb : is_matrix b ≡ true) where
      pub misplaced : are_places a b places ≡ false → Refused a b places starts₀ columns₀ values₀ why.bad_places
      misplaced h = refused_joins why.bad_places (unfold join_reply matrix_check in_turn in rw (oka, okb, h))

      pub unlimited : are_places a b places ≡ true → in_limits (joined a b places) ≡ false → Refused a b places starts₀ columns₀ values₀ why.past_limits
      unlimited h e = refused_joins why.past_limits (unfold join_reply matrix_check in_turn in rw (oka, okb, h, e))

-- ---- the test of places

module _ (a b : Matrix) (places : List ℕ) where
  pub other_length : (length places ≡ b.n → ⊥) → are_places a b places ≡ false
  other_length d = places_test a b places ∙ rw (ne_eqb (length places) b.n d)

  pub tested_places : length places ≡ b.n → {n : ℕ} {t : Bool} → n ≡ joined_rows a places → t ≡ distinct places && all (λ p. ltb p n) places → are_places a b places ≡ t
  tested_places l e q = places_test a b places ∙ rw (eq-eqb (length places) b.n l, ← e) (sym q)

  pub rows_are : {count : ℕ} → count ≡ length (filter (leb a.n) places) → a.n + count ≡ joined_rows a places
  unfolding joined_rows past_first
  rows_are e = ap (λ (k : ℕ). a.n + k) e
