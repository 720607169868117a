-- Component after component: a root, then level after level. At the end the marks are the levels.
use mathlib.Core.Path.{◌≡◌, refl, sym, ap, ◌∙◌, subst}
use mathlib.Core.Logic.{◌⊎◌, inl, inr, ◌≢◌}
use mathlib.Core.Bool.{Bool, true, false, true≢false}
use mathlib.Core.List.{List, [], ◌∷◌}
use Prim.Native.Nat.{ℕ, ◌+◌, ◌≤◌, ◌<◌}
use native.Mathlib.Omega.{arith}
use lib.Dec.{eqb}
use lib.ListN.{length, get_or, take}
use borrow.Author.Count.{below_more}
use borrow.Author.Tests.{eqb-true, eqb-false, eq-eqb, ne_eqb}
use Rattle.base.specs.Lists.{filter, is_in, range}
use Rattle.base.specs.Code.Scores.{by_score}
use Rattle.base.proofs.Booleans.{or_cases}
use Rattle.base.proofs.Lists.{in_get, get_in, range_in, filter_in, filter-first, filter_none, length-filter-le, length-range}
use Rattle.base.proofs.Best.{by_score_in}
use Rattle.matrix.specs.Limits.{max_rows}
use Rattle.levels.specs.Levels.{degree, region, root}
use Rattle.search.specs.Code.Marks.{at_mark, unreached}
use Rattle.search.specs.Code.Search.{wave, visited, visited_all, After, Frontier, SoFar, Kept, Spread, Roots, Between, Levelled}
use Rattle.levels.proofs.Root.{root-some, root-first, root-same}
use Rattle.levels.proofs.Region.{region-own}
use Rattle.search.proofs.Turns.{is_in-at_mark, at_mark-none, so_far-step, next-root, so_far-start, so_far_end}
use Rattle.search.proofs.Frontiers.{kept_trans, kept-reached, kept-turn, turn_is, turn_finds, frontier-step}

-- ---- the rows to start from

-- T's rows by degree, then by number, as "the fewest joined freedoms in the whole matrix, the lowest number on a tie"
pub degree_roots : (adj : ℕ → List ℕ) (n : ℕ) (T own roots : List ℕ) → ((v : ℕ) → is_in T v ≡ true → degree adj v < n) → own ≡ filter (is_in T) (range 0 n) → is_in own ≡ is_in T
    → roots ≡ by_score (degree adj) 0 n own → (is_in roots ≡ is_in T) × Roots adj n roots roots
degree_roots adj n T own roots few e members r = (
  same,
  record {
    below = λ i l. below (get_or roots i 0) (in_get roots i l);
    first = λ marks.
        let p : ℕ → Bool = λ v. eqb (get_or marks v 0) 1 in
        root-same adj roots T same (filter p (range 0 n))
        ∙ root-first adj n T n few p
        ∙ ap (λ (xs : List ℕ). take 1 (filter p (by_score (degree adj) 0 n xs))) (sym e)
        ∙ ap (λ (xs : List ℕ). take 1 (filter p xs)) (sym r);
  },
)
  where
    same : is_in roots ≡ is_in T
    same = ap is_in r ∙ by_score_in (degree adj) n own (λ v h. few v (sym (ap (λ (p : ℕ → Bool). p v) members) ∙ h)) ∙ members

    below : (v : ℕ) → is_in roots v ≡ true → v < n
    below v h =
        let here : is_in (filter (is_in T) (range 0 n)) v ≡ true = ap (λ (xs : List ℕ). is_in xs v) (sym e) ∙ ap (λ (p : ℕ → Bool). p v) members ∙ sym (ap (λ (p : ℕ → Bool). p v) same) ∙ h in
        omega (arith, (range_in v 0 n (filter_in (is_in T) (range 0 n) v here)).1)

pub roots_below : {adj : ℕ → List ℕ} {n : ℕ} {T roots : List ℕ} → Roots adj n T roots → (v : ℕ) → is_in roots v ≡ true → v < n
roots_below {roots = roots} given v h = let (i, l, e) = get_in roots v h in omega (arith, given.below i l)

-- ---- one component

-- between two components no row is at the last level
gap : {n k : ℕ} {marks queue : List ℕ} → Frontier n k marks queue 0 0 → at_mark n marks (k + 2) ≡ []
gap {n} {k} {marks} f = at_mark-none n marks (k + 2) (λ v l. eqb-false (get_or marks v 0) (k + 2) (sym (f.front_is v l)))

module _ {adj : ℕ → List ℕ} {reach n : ℕ} {T roots : List ℕ} {k i : ℕ} {marks queue : List ℕ} (b : Between adj reach n T roots k i marks queue) where
  -- its row was reached before
  pub between_old : get_or marks (get_or roots i 0) 0 ≢ 1 → Between adj reach n T roots k (i + 1) marks queue
  between_old h = record { frontier = b.frontier; so_far = b.so_far; passed = below_more (λ j. get_or marks (get_or roots j 0) 0 ≢ 1) i b.passed h }

  -- its row is the root
  module _ (given : Roots adj n T roots) (here : i < length roots) (new : get_or marks (get_or roots i 0) 0 ≡ 1) {marks' queue' : List ℕ} {r : ℕ}
      (after : After n 1 marks' queue' r (visited 1 (k + 3) (wave marks (take 0 queue)) (get_or roots i 0))) where
    abbrev v : ℕ
    v = get_or roots i 0

    self : is_in (v ∷ []) v ≡ true
    self = rw (eq-eqb v v refl)

    below : (x : ℕ) → is_in (v ∷ []) x ≡ true → x < n
    below x h = go (or_cases (eqb x v) false h)
      where
        go : (eqb x v ≡ true) ⊎ (false ≡ true) → x < n
        go (inl e) = let q : x ≡ v = eqb-true x v e in omega (arith, given.below i here)
        go (inr e) = absurd (true≢false (sym e))

    all : After n 1 marks' queue' r (visited_all 1 (k + 3) (wave marks (take 0 queue)) (v ∷ []))
    unfolding visited_all
    all = after

    pub root-frontier : Frontier n (k + 1) marks' queue' 0 r
    root-frontier = frontier-step (v ∷ []) b.frontier below all (omega (arith, turn_finds (v ∷ []) b.frontier below all v new self))

    root_is : root adj T (at_mark n marks 1) ≡ v ∷ []
    root_is =
        given.first marks
        ∙ filter-first (λ v. eqb (get_or marks v 0) 1) roots i here (λ j l. ne_eqb (get_or marks (get_or roots j 0) 0) 1 (b.passed j l)) (eq-eqb (get_or marks v 0) 1 new)

    root_so_far : SoFar adj reach n T (k + 1) marks'
    root_so_far =
        let f = b.frontier in
        so_far-step adj reach n T k marks marks' (is_in (v ∷ [])) (turn_is (v ∷ []) f below all) f.fresh
        (omega (arith, root-frontier.enough))
        (λ x h. next-root adj T (at_mark n marks (k + 2)) (at_mark n marks 1) v (gap f) root_is x) b.so_far

    root-reached : get_or marks' v 0 ≢ 1
    root-reached e =
        let q : get_or marks' v 0 ≡ k + 3 = turn_is (v ∷ []) b.frontier below all v ∙ rw (eq-eqb (get_or marks v 0) 1 new, self) in
        omega arith

    pub between_new : {k' : ℕ} {marks'' queue'' : List ℕ} → Spread adj n (k + 1) k' marks' marks'' queue''
        → Between adj reach n T roots k' (i + 1) marks'' queue'' × Kept marks marks''
    between_new {k'} {marks''} {queue''} s = (
      record {
        frontier = s.frontier;
        so_far = s.so_far reach T root_so_far;
        passed = below_more (λ j. get_or marks'' (get_or roots j 0) 0 ≢ 1) i (λ j l. kept-reached marks marks'' (get_or roots j 0) kept (b.passed j l)) (kept-reached marks' marks'' v s.kept root-reached);
      },
      kept,
    )
      where
        kept : Kept marks marks''
        kept = kept_trans marks marks' marks'' (kept-turn (v ∷ []) b.frontier below all) s.kept

-- ---- all components

unreached-le : (n : ℕ) (marks : List ℕ) → unreached n marks ≤ n
unreached-le n marks = omega (arith, length-filter-le (λ v. eqb (get_or marks v 0) 1) (range 0 n), length-range 0 n)

pub between_start : (adj : ℕ → List ℕ) (reach n : ℕ) (T roots marks queue : List ℕ) → n ≤ max_rows → length marks ≡ max_rows → length queue ≡ max_rows
    → at_mark n marks 1 ≡ region adj reach n T → ((v : ℕ) → get_or marks v 0 ≤ 1) → Between adj reach n T roots 0 0 marks queue
between_start adj reach n T roots marks queue small ml ql e le = record {
  frontier = record {
    ready = record { small = small; marks_long = ml; queue_long = ql; room = omega (arith, unreached-le n marks) };
    low = omega arith;
    fresh = λ v l. omega (arith, le v);
    front = λ u h. absurd (true≢false (sym h));
    front_is = λ u l. sym (ne_eqb (get_or marks u 0) 2 (λ q. omega (arith, le u)));
    enough = omega (arith, unreached-le n marks);
  };
  so_far = so_far-start adj reach n T marks e (λ v l. le v);
  passed = λ j l. absurd (omega arith);
}

pub levelled : {adj : ℕ → List ℕ} {reach n : ℕ} {T roots : List ℕ} {k i : ℕ} {marks queue : List ℕ} (marks₀ : List ℕ) → Roots adj n T roots → length roots ≤ i
    → Between adj reach n T roots k i marks queue → Kept marks₀ marks → at_mark n marks₀ 1 ≡ region adj reach n T → ((v : ℕ) → is_in T v ≡ true → v < n) → Levelled adj reach n T k marks
levelled {adj} {reach} {n} {T} {roots} {k} {i} {marks} {queue} marks₀ given done b kept e below = record {
  levels_are = so_far_end adj reach n T k marks (omega (arith, f.enough)) f.fresh (gap f) none b.so_far;
  few = omega (arith, f.enough);
  fresh = f.fresh;
  reached = λ v h. go v h (kept v);
}
  where
    f : Frontier n k marks queue 0 0
    f = b.frontier

    none : root adj T (at_mark n marks 1) ≡ []
    none = given.first marks ∙ ap (take 1) (filter_none (λ v. eqb (get_or marks v 0) 1) roots (λ v h. out v (get_in roots v h)))
      where
        out : (v : ℕ) → (j : ℕ) × (j < length roots) × (get_or roots j 0 ≡ v) → eqb (get_or marks v 0) 1 ≡ false
        out v (j, l, q) = subst (λ (x : ℕ). eqb (get_or marks x 0) 1 ≡ false) q (ne_eqb (get_or marks (get_or roots j 0) 0) 1 (b.passed j (omega arith)))

    -- a row of T was not yet reached at first
    first : (v : ℕ) → is_in T v ≡ true → get_or marks₀ v 0 ≡ 1
    first v h = eqb-true (get_or marks₀ v 0) 1 (sym (is_in-at_mark n marks₀ 1 v (below v h)) ∙ ap (λ (xs : List ℕ). is_in xs v) e ∙ region-own adj reach n T v (below v h) h)

    go : (v : ℕ) → is_in T v ≡ true → (get_or marks v 0 ≡ get_or marks₀ v 0) ⊎ (3 ≤ get_or marks v 0) → 3 ≤ get_or marks v 0
    go v h (inr l) = l
    go v h (inl q) =
        let (r, c) = root-some adj T (at_mark n marks 1) v h (is_in-at_mark n marks 1 v (below v h) ∙ eq-eqb (get_or marks v 0) 1 (q ∙ first v h)) in
        absurd (true≢false (sym c ∙ ap (λ (xs : List ℕ). is_in xs r) none))
