-- A turn of the search is a level: the rows not yet reached that pass a test get the next mark, and the test is who is
-- next.
use mathlib.Core.Path.{◌≡◌, refl, sym, ap, ◌∙◌}
use mathlib.Core.Logic.{◌≢◌}
use mathlib.Core.Bool.{Bool, true, false, not, ◌&&◌, cond, true≢false}
use mathlib.Core.List.{List, [], ◌∷◌, ◌++◌, map, map-append, append_assoc}
use Prim.Native.Nat.{ℕ, zero, suc, ◌+◌, ◌*◌, ◌-◌, ◌≤◌, ◌<◌}
use native.Mathlib.Omega.{arith}
use native.Mathlib.Numerals.{add-one}
use lib.Dec.{eqb}
use lib.ListN.{get_or, replicate}
use borrow.Author.Tests.{eqb-true, eq-eqb, ne_eqb}
use Rattle.base.specs.Lists.{filter, any, is_in, range, concat}
use Rattle.base.proofs.Booleans.{both_ways}
use Rattle.base.proofs.Lists.{any_of, any-get, is_in-filter, is_in-range, is_in-concat-map, range_in, range_snoc, range-append, map-range-same, filter_ext, filter-filter, filter_none, filter-all, any_ext}
use Rattle.base.proofs.Graph.{Graph}
use Rattle.levels.specs.Levels.{region, root, is_next, levels_from, levels}
use Rattle.search.specs.Code.Marks.{at_mark}
use Rattle.search.specs.Code.Search.{SoFar}

-- ---- marks

-- a row has the mark
pub is_in-at_mark : (n : ℕ) (marks : List ℕ) (c v : ℕ) → v < n → is_in (at_mark n marks c) v ≡ eqb (get_or marks v 0) c
is_in-at_mark n marks c v l = is_in-filter (λ v. eqb (get_or marks v 0) c) (range 0 n) v ∙ rw (is_in-range 0 n v (omega arith) (omega arith))

-- no row has it
pub at_mark-none : (n : ℕ) (marks : List ℕ) (c : ℕ) → ((v : ℕ) → v < n → get_or marks v 0 ≢ c) → at_mark n marks c ≡ []
at_mark-none n marks c h =
    filter_none (λ v. eqb (get_or marks v 0) c) (range 0 n) (λ v i. ne_eqb (get_or marks v 0) c (h v (omega (arith, (range_in v 0 n i).1))))

-- a row's mark m, before and after it becomes k + 3 if it is 1 and the row passes: is it that, is it 1, is it an older
-- one
module _ (m k : ℕ) where
  is_new : (b : Bool) → m ≤ k + 2 → eqb (cond b (k + 3) m) (k + 3) ≡ b
  is_new true h = eq-eqb (k + 3) (k + 3) refl
  is_new false h = ne_eqb m (k + 3) (λ e. omega arith)

  is-left : (t a : Bool) → eqb m 1 ≡ t → eqb (cond (t && a) (k + 3) m) 1 ≡ t && not a
  is-left true true e = ne_eqb (k + 3) 1 (λ q. omega arith)
  is-left true false e = e
  is-left false a e = e

  is_old : (t a : Bool) (d : ℕ) → 2 ≤ d → d ≤ k + 2 → eqb m 1 ≡ t → eqb (cond (t && a) (k + 3) m) d ≡ eqb m d
  is_old true true d h j e =
      let o : m ≡ 1 = eqb-true m 1 e in
      ne_eqb (k + 3) d (λ q. omega arith) ∙ sym (ne_eqb m d (λ q. omega arith))
  is_old true false d h j e = refl
  is_old false a d h j e = refl

-- ---- one turn

module _ (adj : ℕ → List ℕ) (reach n : ℕ) (T : List ℕ) (k : ℕ) (old new : List ℕ) (p : ℕ → Bool)
    (turn : (v : ℕ) → get_or new v 0 ≡ cond (eqb (get_or old v 0) 1 && p v) (k + 3) (get_or old v 0))
    (fresh : (v : ℕ) → v < n → get_or old v 0 ≤ k + 2) where
  -- rows of one mark are rows of another test on the old marks
  rows_are : (d : ℕ) (q : ℕ → Bool) → ((v : ℕ) → v < n → eqb (cond (eqb (get_or old v 0) 1 && p v) (k + 3) (get_or old v 0)) d ≡ q v) → at_mark n new d ≡ filter q (range 0 n)
  rows_are d q h =
      filter_ext (λ v. eqb (get_or new v 0) d) q (range 0 n) (λ v i. ap (λ (m : ℕ). eqb m d) (turn v) ∙ h v (omega (arith, (range_in v 0 n i).1)))

  level_is : at_mark n new (k + 3) ≡ filter p (at_mark n old 1)
  level_is =
      rows_are (k + 3) (λ v. eqb (get_or old v 0) 1 && p v) (λ v l. is_new (get_or old v 0) k (eqb (get_or old v 0) 1 && p v) (fresh v l))
      ∙ sym (filter-filter (λ v. eqb (get_or old v 0) 1) p (range 0 n))

  left_is : at_mark n new 1 ≡ filter (λ v. not (p v)) (at_mark n old 1)
  left_is =
      rows_are 1 (λ v. eqb (get_or old v 0) 1 && not (p v)) (λ v l. is-left (get_or old v 0) k (eqb (get_or old v 0) 1) (p v) refl)
      ∙ sym (filter-filter (λ v. eqb (get_or old v 0) 1) (λ v. not (p v)) (range 0 n))

  old_are : (d : ℕ) → 2 ≤ d → d ≤ k + 2 → at_mark n new d ≡ at_mark n old d
  old_are d a b = rows_are d (λ v. eqb (get_or old v 0) d) (λ v l. is_old (get_or old v 0) k (eqb (get_or old v 0) 1) (p v) d a b refl)

  -- where the test is who is next of the rows not yet reached, the turn is a level
  pub so_far-step : k < 2 * n → ((v : ℕ) → is_in (at_mark n old 1) v ≡ true → is_next adj T (at_mark n old (k + 2)) (at_mark n old 1) v ≡ p v)
      → SoFar adj reach n T k old → SoFar adj reach n T (k + 1) new
  unfolding levels_from
  so_far-step l next s =
      s
      ∙ ap (λ (ls : List (List ℕ)). ls ++ levels_from adj (2 * n - k) T (at_mark n old (k + 2)) (at_mark n old 1))
      (map-range-same (at_mark n old) (at_mark n new) 3 k (λ d a b. sym (old_are d (omega arith) (omega arith))))
      ∙ ap (λ (ls : List (List ℕ)). map (at_mark n new) (range 3 k) ++ ls) (ap (λ (j : ℕ). levels_from adj j T (at_mark n old (k + 2)) (at_mark n old 1)) fuel ∙ one)
      ∙ sym (append_assoc (map (at_mark n new) (range 3 k)) (at_mark n new (k + 3) ∷ []) _)
      ∙ ap (λ (ls : List (List ℕ)). ls ++ levels_from adj (2 * n - (k + 1)) T (at_mark n new (k + 1 + 2)) (at_mark n new 1)) (sym front)
    where
      fuel : 2 * n - k ≡ suc (2 * n - (k + 1))
      fuel = omega arith

      three : k + 3 ≡ k + 1 + 2
      three = omega arith

      new_is : filter (is_next adj T (at_mark n old (k + 2)) (at_mark n old 1)) (at_mark n old 1) ≡ at_mark n new (k + 3)
      new_is = filter_ext (is_next adj T (at_mark n old (k + 2)) (at_mark n old 1)) p (at_mark n old 1) next ∙ sym level_is

      rest-is : filter (λ v. not (is_next adj T (at_mark n old (k + 2)) (at_mark n old 1) v)) (at_mark n old 1) ≡ at_mark n new 1
      rest-is =
          filter_ext (λ v. not (is_next adj T (at_mark n old (k + 2)) (at_mark n old 1) v)) (λ v. not (p v)) (at_mark n old 1) (λ v h. ap not (next v h))
          ∙ sym left_is

      one : levels_from adj (suc (2 * n - (k + 1))) T (at_mark n old (k + 2)) (at_mark n old 1)
          ≡ (at_mark n new (k + 3) ∷ []) ++ levels_from adj (2 * n - (k + 1)) T (at_mark n new (k + 1 + 2)) (at_mark n new 1)
      one = rw (new_is, rest-is, ← three) refl

      front : map (at_mark n new) (range 3 (k + 1)) ≡ map (at_mark n new) (range 3 k) ++ at_mark n new (k + 3) ∷ []
      front =
          let c : 3 + k ≡ k + 3 = omega arith in
          ap (λ (j : ℕ). map (at_mark n new) (range 3 j)) (add-one k)
          ∙ ap (map (at_mark n new)) (range_snoc 3 k)
          ∙ map-append (at_mark n new) (range 3 k) ((3 + k) ∷ [])
          ∙ ap (λ (d : ℕ). map (at_mark n new) (range 3 k) ++ at_mark n new d ∷ []) c

-- ---- who is next

-- in a graph, the rows adjacent to one of F are those that have one of F adjacent
pub adjacent_to : {adj : ℕ → List ℕ} {n : ℕ} → Graph adj n → (F : List ℕ) (v : ℕ) → is_in (concat (map adj F)) v ≡ any (is_in F) (adj v)
adjacent_to {adj} {n} graph F v = is_in-concat-map adj F v ∙ both_ways (any (λ u. is_in (adj u) v) F) (any (is_in F) (adj v)) to fro
  where
    to : any (λ u. is_in (adj u) v) F ≡ true → any (is_in F) (adj v) ≡ true
    to h = let (u, a, b) = any-get (λ u. is_in (adj u) v) F h in any_of (is_in F) (adj v) u (graph.both v u b) a

    fro : any (is_in F) (adj v) ≡ true → any (λ u. is_in (adj u) v) F ≡ true
    fro h = let (u, a, b) = any-get (is_in F) (adj v) h in any_of (λ u. is_in (adj u) v) F u b (graph.both u v a)

-- after a level with rows F, in any order: the rows adjacent to one of them
pub next_level : {adj : ℕ → List ℕ} {n : ℕ} → Graph adj n → (T : List ℕ) (marks : List ℕ) (c : ℕ) (rest F : List ℕ) (x : ℕ) → is_in F x ≡ true
    → ((u : ℕ) → is_in F u ≡ true → u < n) → ((u : ℕ) → u < n → is_in F u ≡ eqb (get_or marks u 0) c)
    → (v : ℕ) → is_next adj T (at_mark n marks c) rest v ≡ is_in (concat (map adj F)) v
unfolding is_next
next_level {adj} {n} graph T marks c rest F x h below is v =
    some (at_mark n marks c) (is_in-at_mark n marks c x (below x h) ∙ sym (is x (below x h)) ∙ h)
    ∙ any_ext (is_in (at_mark n marks c)) (is_in F) (adj v) (λ u i. is_in-at_mark n marks c u (graph.below u v i) ∙ sym (is u (graph.below u v i)))
    ∙ sym (adjacent_to graph F v)
  where
    some : (last : List ℕ) → is_in last x ≡ true → is_next adj T last rest v ≡ any (is_in last) (adj v)
    some [] e = absurd (true≢false (sym e))
    some (y ∷ ys) e = refl

-- after an empty level: the root
pub next-root : (adj : ℕ → List ℕ) (T last rest : List ℕ) (r : ℕ) → last ≡ [] → root adj T rest ≡ r ∷ [] → (v : ℕ) → is_next adj T last rest v ≡ is_in (r ∷ []) v
unfolding is_next
next-root adj T last rest r e h v = ap (λ (l : List ℕ). is_next adj T l rest v) e ∙ ap (λ (l : List ℕ). is_in l v) h

-- ---- the first turn, and the last

pub so_far-start : (adj : ℕ → List ℕ) (reach n : ℕ) (T marks : List ℕ) → at_mark n marks 1 ≡ region adj reach n T → ((v : ℕ) → v < n → get_or marks v 0 ≤ 1) → SoFar adj reach n T 0 marks
unfolding levels
so_far-start adj reach n T marks e small =
    let z : 2 * n - 0 ≡ 2 * n = omega arith in
    let none : at_mark n marks 2 ≡ [] = at_mark-none n marks 2 (λ v l q. omega (arith, small v l)) in
    ap (levels_from adj (2 * n) T []) (sym e)
    ∙ ap (λ (l : List ℕ). levels_from adj (2 * n) T l (at_mark n marks 1)) (sym none)
    ∙ ap (λ (j : ℕ). levels_from adj j T (at_mark n marks 2) (at_mark n marks 1)) (sym z)

-- without a root the levels to come are empty
no-root : (adj : ℕ → List ℕ) (T : List ℕ) (j : ℕ) (rest : List ℕ) → root adj T rest ≡ [] → levels_from adj j T [] rest ≡ replicate j []
unfolding levels_from is_next
no-root adj T zero rest h = refl
no-root adj T (suc j) rest h =
    let none : (v : ℕ) → is_next adj T [] rest v ≡ false = λ v. ap (λ (l : List ℕ). is_in l v) h in
    let a : filter (is_next adj T [] rest) rest ≡ [] = filter_none (is_next adj T [] rest) rest (λ v i. none v) in
    let b : filter (λ v. not (is_next adj T [] rest v)) rest ≡ rest = filter-all (λ v. not (is_next adj T [] rest v)) rest (λ v i. ap not (none v)) in
    ap (λ (l : List ℕ). l ∷ levels_from adj j T l (filter (λ v. not (is_next adj T [] rest v)) rest)) a
    ∙ ap (λ (l : List ℕ). [] ∷ levels_from adj j T [] l) b
    ∙ ap (λ (l : List (List ℕ)). [] ∷ l) (no-root adj T j rest h)

map-none : (f : ℕ → List ℕ) (a j : ℕ) → ((d : ℕ) → a ≤ d → f d ≡ []) → map f (range a j) ≡ replicate j []
map-none f a zero h = refl
map-none f a (suc j) h =
    let e : f a ≡ [] = h a (omega arith) in
    let ih : map f (range (suc a) j) ≡ replicate j [] = map-none f (suc a) j (λ d l. h d (omega arith)) in
    rw (e, ih)

pub so_far_end : (adj : ℕ → List ℕ) (reach n : ℕ) (T : List ℕ) (k : ℕ) (marks : List ℕ) → k ≤ 2 * n → ((v : ℕ) → v < n → get_or marks v 0 ≤ k + 2) → at_mark n marks (k + 2) ≡ []
    → root adj T (at_mark n marks 1) ≡ [] → SoFar adj reach n T k marks → levels adj reach n T ≡ map (at_mark n marks) (range 3 (2 * n))
so_far_end adj reach n T k marks le fresh none nil s =
    let sum : k + (2 * n - k) ≡ 2 * n = omega arith in
    s
    ∙ ap (λ (l : List ℕ). map (at_mark n marks) (range 3 k) ++ levels_from adj (2 * n - k) T l (at_mark n marks 1)) none
    ∙ ap (λ (ls : List (List ℕ)). map (at_mark n marks) (range 3 k) ++ ls) (no-root adj T (2 * n - k) (at_mark n marks 1) nil ∙ sym past)
    ∙ sym (map-append (at_mark n marks) (range 3 k) (range (3 + k) (2 * n - k)))
    ∙ ap (map (at_mark n marks)) (sym (range-append 3 k (2 * n - k)))
    ∙ ap (λ (j : ℕ). map (at_mark n marks) (range 3 j)) sum
  where
    past : map (at_mark n marks) (range (3 + k) (2 * n - k)) ≡ replicate (2 * n - k) []
    past = map-none (at_mark n marks) (3 + k) (2 * n - k) (λ d l. at_mark-none n marks d (λ v h e. omega (arith, fresh v h)))
