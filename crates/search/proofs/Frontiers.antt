-- Level after level inside a component: a turn takes the frontier to the next, and the levels stay right so far.
use mathlib.Core.Path.{◌≡◌, refl, sym, ap, ◌∙◌}
use mathlib.Core.Logic.{◌⊎◌, inl, inr, ◌≢◌}
use mathlib.Core.Bool.{Bool, true, false, ◌&&◌, cond, true≢false}
use mathlib.Core.List.{List, map}
use Prim.Native.Nat.{ℕ, ◌+◌, ◌*◌, ◌-◌, ◌≤◌, ◌<◌}
use native.Mathlib.Omega.{arith}
use lib.Dec.{eqb}
use lib.ListN.{length, get_or, take}
use lib.Seq.{slice, slice_empty}
use borrow.Author.Tests.{eqb-true, eq-eqb, ne_eqb}
use Rattle.base.specs.Lists.{is_in, concat}
use Rattle.base.proofs.Booleans.{and_right}
use Rattle.base.proofs.Lists.{any-get, is_in-concat-map, in_pos}
use Rattle.base.proofs.Graph.{Graph}
use Rattle.search.specs.Code.Marks.{unreached}
use Rattle.search.specs.Code.Search.{wave, visited_all, After, Front, Frontier, SoFar, Kept, Spread}
use Rattle.search.proofs.Waves.{Grown}
use Rattle.search.proofs.Visited.{after_grown, after_tail, after-found, in_slice}
use Rattle.search.proofs.Turns.{so_far-step, next_level}

-- ---- marks are kept

pub kept_refl : (marks : List ℕ) → Kept marks marks
kept_refl marks v = inl refl

pub kept_trans : (a b c : List ℕ) → Kept a b → Kept b c → Kept a c
kept_trans a b c p q v = go (p v) (q v)
  where
    go : (get_or b v 0 ≡ get_or a v 0) ⊎ (3 ≤ get_or b v 0) → (get_or c v 0 ≡ get_or b v 0) ⊎ (3 ≤ get_or c v 0) → (get_or c v 0 ≡ get_or a v 0) ⊎ (3 ≤ get_or c v 0)
    go s (inr t) = inr t
    go (inl s) (inl t) = inl (t ∙ s)
    go (inr s) (inl t) = inr (omega arith)

-- who is reached stays reached
pub kept-reached : (a b : List ℕ) (v : ℕ) → Kept a b → get_or a v 0 ≢ 1 → get_or b v 0 ≢ 1
kept-reached a b v p h e = go (p v)
  where
    go : (get_or b v 0 ≡ get_or a v 0) ⊎ (3 ≤ get_or b v 0) → ⊥
    go (inl s) = h (sym s ∙ e)
    go (inr s) = omega arith

-- ---- a turn

-- a row's mark m before the turn, b whether it changes
module _ (m k : ℕ) where
  is_front : (b : Bool) → m ≤ k + 2 → b ≡ eqb (cond b (k + 3) m) (k + 1 + 2)
  is_front true h = sym (eq-eqb (k + 3) (k + 1 + 2) (omega arith))
  is_front false h = sym (ne_eqb m (k + 1 + 2) (λ e. omega arith))

  is-fresh : (b : Bool) → m ≤ k + 2 → cond b (k + 3) m ≤ k + 1 + 2
  is-fresh true h = omega arith
  is-fresh false h = omega arith

  is-kept : (b : Bool) (x : ℕ) → x ≡ cond b (k + 3) m → (x ≡ m) ⊎ (3 ≤ x)
  is-kept true x e = inr (omega arith)
  is-kept false x e = inl e

module _ {n k : ℕ} {marks queue : List ℕ} {lo hi : ℕ} {marks' queue' : List ℕ} {r : ℕ} (vs : List ℕ)
    (f : Frontier n k marks queue lo hi) (below : (x : ℕ) → is_in vs x ≡ true → x < n)
    (after : After n 1 marks' queue' r (visited_all 1 (k + 3) (wave marks (take hi queue)) vs)) where
  ne : k + 3 ≢ 1
  ne e = omega arith

  abbrev grew : Grown n 1 (k + 3) (wave marks (take hi queue)) (wave marks' (take r queue')) vs
  grew = after_grown vs f.ready ne below after

  tail_is : r ≡ hi + length grew.found
  tail_is = after_tail vs f.ready ne below after

  found-is : (u : ℕ) → is_in (slice hi r queue') u ≡ eqb (get_or marks u 0) 1 && is_in vs u
  found-is u = ap (λ (xs : List ℕ). is_in xs u) (after-found vs f.ready ne below after) ∙ grew.found-is u

  -- each row's mark
  pub turn_is : (v : ℕ) → get_or marks' v 0 ≡ cond (eqb (get_or marks v 0) 1 && is_in vs v) (k + 3) (get_or marks v 0)
  turn_is = grew.marks-is

  -- a row not yet reached is found
  pub turn_finds : (v : ℕ) → get_or marks v 0 ≡ 1 → is_in vs v ≡ true → hi < r
  turn_finds v h i = omega (arith, tail_is, in_pos grew.found v (grew.found-is v ∙ rw (eq-eqb (get_or marks v 0) 1 h, i)))

  pub kept-turn : Kept marks marks'
  kept-turn v = is-kept (get_or marks v 0) k (eqb (get_or marks v 0) 1 && is_in vs v) (get_or marks' v 0) (grew.marks-is v)

  -- rows found are the next frontier; there was one before, or there is one now
  pub frontier-step : 1 ≤ (hi - lo) + (r - hi) → Frontier n (k + 1) marks' queue' hi r
  frontier-step some = record {
    ready = after.ready;
    low = omega (arith, tail_is);
    fresh = λ v l. rw (grew.marks-is v) (is-fresh (get_or marks v 0) k (eqb (get_or marks v 0) 1 && is_in vs v) (f.fresh v l));
    front = λ u h. below u (and_right (eqb (get_or marks u 0) 1) (is_in vs u) (sym (found-is u) ∙ h));
    front_is = λ u l.
        found-is u ∙ rw (grew.marks-is u) (is_front (get_or marks u 0) k (eqb (get_or marks u 0) 1 && is_in vs u) (f.fresh u l));
    enough = omega (arith, f.enough, grew.count, tail_is);
  }

  -- fewer rows are not yet reached, or the frontier is empty
  pub frontier_less : lo < hi → 2 * unreached n marks' + (1 - (1 - (r - hi))) < 2 * unreached n marks + (1 - (1 - (hi - lo)))
  frontier_less l = omega (arith, tail_is, grew.count)

-- the last level is empty
pub frontier-empty : {n k : ℕ} {marks queue : List ℕ} {lo hi : ℕ} → Frontier n k marks queue lo hi → hi ≤ lo → Frontier n k marks queue 0 0
frontier-empty {n} {k} {marks} {queue} {lo} {hi} f le =
    let e : lo ≡ hi = omega (arith, f.low) in
    let s = ap (λ (j : ℕ). slice j hi queue) e ∙ slice_empty hi queue in
    record {
      ready = record { small = f.ready.small; marks_long = f.ready.marks_long; queue_long = f.ready.queue_long; room = omega (arith, f.ready.room) };
      low = omega arith;
      fresh = f.fresh;
      front = λ u h. absurd (true≢false (sym h));
      front_is = λ u l. ap (λ (xs : List ℕ). is_in xs u) (sym s) ∙ f.front_is u l;
      enough = omega (arith, f.enough);
    }

-- ---- a component, level after level

-- the rows of the frontier are reached
pub frontier-front : {n k : ℕ} {marks queue : List ℕ} {lo hi : ℕ} → Frontier n k marks queue lo hi → Front n 1 marks (slice lo hi queue)
frontier-front {n} {k} {marks} f u h =
    let l = f.front u h in
    let q : get_or marks u 0 ≡ k + 2 = eqb-true (get_or marks u 0) (k + 2) (sym (f.front_is u l) ∙ h) in
    (l, λ e. omega arith)

-- from k levels to d, the last of them from lo to hi
pub record Spreading (adj : ℕ → List ℕ) (n k d : ℕ) (marks₀ marks queue : List ℕ) (lo hi : ℕ) : Type 0 where
  pub frontier : Frontier n d marks queue lo hi
  pub kept : Kept marks₀ marks
  pub so_far : (reach : ℕ) (T : List ℕ) → SoFar adj reach n T k marks₀ → SoFar adj reach n T d marks

pub spreading_start : {n k : ℕ} {marks queue : List ℕ} {lo hi : ℕ} (adj : ℕ → List ℕ) → Frontier n k marks queue lo hi → Spreading adj n k k marks marks queue lo hi
spreading_start {marks = marks} adj f = record { frontier = f; kept = kept_refl marks; so_far = λ reach T s. s }

module _ {adj : ℕ → List ℕ} {n k d : ℕ} {marks₀ marks queue : List ℕ} {lo hi : ℕ} {marks' queue' : List ℕ} {r : ℕ} (graph : Graph adj n)
    (s : Spreading adj n k d marks₀ marks queue lo hi) (l : lo < hi)
    (after : After n 1 marks' queue' r (visited_all 1 (d + 3) (wave marks (take hi queue)) (concat (map adj (slice lo hi queue))))) where
  abbrev vs : List ℕ
  vs = concat (map adj (slice lo hi queue))

  below : (x : ℕ) → is_in vs x ≡ true → x < n
  below x h =
      let (u, a, b) = any-get (λ u. is_in (adj u) x) (slice lo hi queue) (sym (is_in-concat-map adj (slice lo hi queue) x) ∙ h) in
      graph.below x u b

  pub spreading_step : Spreading adj n k (d + 1) marks₀ marks' queue' hi r
  spreading_step =
      let f = s.frontier in
      let F = slice lo hi queue in
      let here : is_in F (get_or queue lo 0) ≡ true = in_slice queue lo lo hi (omega arith) l (omega (arith, f.ready.small, f.ready.room, f.ready.queue_long)) in
      record {
        frontier = frontier-step vs f below after (omega arith);
        kept = kept_trans marks₀ marks marks' s.kept (kept-turn vs f below after);
        so_far = λ reach T t.
            so_far-step adj reach n T d marks marks' (is_in vs) (turn_is vs f below after) f.fresh (omega (arith, f.enough))
            (λ v i. next_level graph T marks (d + 2) _ F (get_or queue lo 0) here f.front f.front_is v) (s.so_far reach T t);
      }

  pub spreading_less : 2 * unreached n marks' + (1 - (1 - (r - hi))) < 2 * unreached n marks + (1 - (1 - (hi - lo)))
  spreading_less = frontier_less vs s.frontier below after l

pub spreading_end : {adj : ℕ → List ℕ} {n k d : ℕ} {marks₀ marks queue : List ℕ} {lo hi : ℕ} → Spreading adj n k d marks₀ marks queue lo hi → hi ≤ lo
    → Spread adj n k d marks₀ marks queue
spreading_end s le = record { frontier = frontier-empty s.frontier le; kept = s.kept; so_far = s.so_far }
