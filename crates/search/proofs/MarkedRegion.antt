-- A group's region, ring after ring: the rows adjacent to the last ring that are not yet marked are the next.
use mathlib.Core.Path.{◌≡◌, refl, sym, ap, ◌∙◌, subst}
use mathlib.Core.Logic.{◌⊎◌, inl, inr, ◌≢◌}
use mathlib.Core.Bool.{Bool, true, false, not, ◌&&◌, ◌||◌, cond, true≢false}
use mathlib.Core.List.{List, [], ◌∷◌, ◌++◌, map}
use Prim.Native.Nat.{ℕ, suc, ◌+◌, ◌-◌, ◌≤◌, ◌<◌}
use native.Mathlib.Omega.{arith}
use lib.Dec.{eqb}
use lib.ListN.{length, get_or, take, drop, length-append, length-drop}
use lib.Seq.{slice, take-append_seam}
use borrow.Author.Tests.{eqb-true, eq-eqb}
use Rattle.base.specs.Lists.{any, is_in, concat, range, bit}
use Rattle.base.specs.Near.{near}
use Rattle.base.proofs.Booleans.{both_ways, or_cases, or_true, and_right}
use Rattle.base.proofs.Graph.{Graph}
use Rattle.base.proofs.Lists.{get_in, any_of, any-get, any_ext, is_in-concat-map, filter_ext, length-split, length-range}
use Rattle.base.proofs.Near.{near-stay, near_step, near_cases, near_le, near-below}
use Rattle.matrix.specs.Limits.{max_rows}
use Rattle.levels.specs.Levels.{region}
use Rattle.search.specs.Code.Marks.{at_mark, how_many, unreached, Marked}
use Rattle.search.specs.Code.Search.{wave, visited_all, Ready, After, Front}
use Rattle.search.proofs.Turns.{adjacent_to}
use Rattle.search.proofs.Visited.{after_grown, after_tail, after-found}
use Rattle.search.proofs.Waves.{Grown, some_left}

bit-one : (b : Bool) → eqb (bit b) 1 ≡ b
bit-one true = refl
bit-one false = refl

-- who is in a list of rows is a row
pub all-below : {n : ℕ} (T : List ℕ) → ((i : ℕ) → i < length T → get_or T i 0 < n) → (v : ℕ) → is_in T v ≡ true → v < n
all-below T below v h = let (i, l, e) = get_in T v h in omega (arith, below i l)

-- rows with mark 1 and rows with mark 0 are all
pub two-marks : (n : ℕ) (marks : List ℕ) (p : ℕ → Bool) → ((v : ℕ) → get_or marks v 0 ≡ bit (p v)) → unreached n marks + how_many n marks 0 ≡ n
two-marks n marks p h =
    ap (λ (k : ℕ). unreached n marks + k) (ap length (filter_ext (λ v. eqb (get_or marks v 0) 0) (λ v. not (eqb (get_or marks v 0) 1)) (range 0 n) (λ v i. rw (h v) (other (p v)))))
    ∙ length-split (λ v. eqb (get_or marks v 0) 1) (range 0 n)
    ∙ length-range 0 n
  where
    other : (b : Bool) → eqb (bit b) 0 ≡ not (eqb (bit b) 1)
    other true = refl
    other false = refl

-- the rows within j joins of T are marked; the last ring stands in the queue from lo to hi, and whoever is adjacent to
-- another of them is marked
pub record Rings (adj : ℕ → List ℕ) (n : ℕ) (T : List ℕ) (j : ℕ) (marks queue : List ℕ) (lo hi : ℕ) : Type 0 where
  pub ready : Ready n 0 marks queue hi
  pub up : lo ≤ hi
  pub within : (v : ℕ) → get_or marks v 0 ≡ bit (near adj j T v)
  pub ring : (u : ℕ) → is_in (slice lo hi queue) u ≡ true → near adj j T u ≡ true
  pub inner : (u v : ℕ) → near adj j T u ≡ true → is_in (slice lo hi queue) u ≡ false → is_in (adj v) u ≡ true → near adj j T v ≡ true

-- among rows that pass a test already, none needs to be told from v
any-other : (p q : ℕ → Bool) (xs : List ℕ) (v : ℕ) → ((u : ℕ) → is_in xs u ≡ true → q u ≡ true) → any p xs || q v ≡ any (λ u. p u && not (eqb v u)) xs || q v
any-other p q [] v h = refl
any-other p q (x ∷ xs) v h = go (p x) (eqb v x) refl (any p xs) (any (λ u. p u && not (eqb v u)) xs) (q v) refl (any-other p q xs v (λ u i. h u (rw i (or_true (eqb u x)))))
  where
    go : (a e : Bool) → eqb v x ≡ e → (b d c : Bool) → q v ≡ c → b || c ≡ d || c → (a || b) || c ≡ ((a && not e) || d) || c
    go a true k b d true r ih = or_true (a || b) ∙ sym (or_true ((a && false) || d))
    go a true k b d false r ih = absurd (true≢false (sym (h x (rw (eq-eqb x x refl) refl)) ∙ ap q (sym (eqb-true v x k)) ∙ r))
    go true false k b d c r ih = refl
    go false false k b d c r ih = ih

module _ {adj : ℕ → List ℕ} {n : ℕ} (graph : Graph adj n) (T : List ℕ) (low : (v : ℕ) → is_in T v ≡ true → v < n) where
  -- at first the ring is T
  pub rings_start : (marks queue : List ℕ) → n ≤ max_rows → length marks ≡ max_rows → length queue ≡ max_rows
      → ((v : ℕ) → get_or marks v 0 ≡ bit (is_in T v)) → length T ≡ unreached n marks → Rings adj n T 0 marks (T ++ drop (length T) queue) 0 (length T)
  unfolding near
  rings_start marks queue small ml ql w few = record {
    ready = record { small = small; marks_long = ml; queue_long = omega (arith, length-append T (drop (length T) queue), length-drop (length T) queue, ql, two-marks n marks (is_in T) w); room = omega (arith, two-marks n marks (is_in T) w) };
    up = omega arith;
    within = w;
    ring = λ u h. subst (λ (xs : List ℕ). is_in xs u ≡ true) first h;
    inner = λ u v h o. absurd (true≢false (sym h ∙ ap (λ (xs : List ℕ). is_in xs u) (sym first) ∙ o));
  }
    where
      first : slice 0 (length T) (T ++ drop (length T) queue) ≡ T
      first = take-append_seam T (drop (length T) queue)

  -- the ring's rows are marked
  pub rings_front : {j : ℕ} {marks queue : List ℕ} {lo hi : ℕ} → Rings adj n T j marks queue lo hi → Front n 0 marks (slice lo hi queue)
  rings_front {j} {marks} r u h = (near-below adj graph j T low u (r.ring u h), λ e. omega (arith, r.within u, ap bit (r.ring u h)))

  module _ {j : ℕ} {marks queue : List ℕ} {lo hi : ℕ} (s : Rings adj n T j marks queue lo hi) where
    abbrev ring : List ℕ
    ring = slice lo hi queue

    abbrev vs : List ℕ
    vs = concat (map adj ring)

    -- one join more: who is adjacent to the ring, and who was marked
    one_more : (v : ℕ) → is_in vs v || near adj j T v ≡ near adj (suc j) T v
    one_more v = both_ways (is_in vs v || near adj j T v) (near adj (suc j) T v) (λ h. to (or_cases (is_in vs v) (near adj j T v) h)) (λ h. fro (near_cases adj j T v h))
      where
        to : (is_in vs v ≡ true) ⊎ (near adj j T v ≡ true) → near adj (suc j) T v ≡ true
        to (inl a) = let (u, b, c) = any-get (is_in ring) (adj v) (sym (adjacent_to graph ring v) ∙ a) in near_step adj j T u v b (s.ring u c)
        to (inr a) = near-stay adj j T v a

        fro : (near adj j T v ≡ true) ⊎ ((u : ℕ) × (is_in (adj v) u ≡ true) × (near adj j T u ≡ true)) → is_in vs v || near adj j T v ≡ true
        fro (inl a) = rw a (or_true (is_in vs v))
        fro (inr (u, c, a)) = go (is_in ring u) refl
          where
            go : (b : Bool) → is_in ring u ≡ b → is_in vs v || near adj j T v ≡ true
            go true e = rw (adjacent_to graph ring v ∙ any_of (is_in ring) (adj v) u c e) refl
            go false e = rw (s.inner u v a e c) (or_true (is_in vs v))

    -- the last ring: the columns of its rows are the rows adjacent to them, and themselves
    pub rings_last : (columns : ℕ → List ℕ) → ((u v : ℕ) → is_in (adj u) v ≡ is_in (columns u) v && not (eqb v u)) → {marks' : List ℕ} → Marked (concat (map columns ring)) marks marks'
        → (v : ℕ) → get_or marks' v 0 ≡ bit (near adj (suc j) T v)
    rings_last columns is m v = m.is v ∙ ap (cond (is_in (concat (map columns ring)) v) 1) (s.within v) ∙ either (is_in (concat (map columns ring)) v) (near adj j T v) ∙ ap bit (same ∙ one_more v)
      where
        either : (a b : Bool) → cond a 1 (bit b) ≡ bit (a || b)
        either true b = refl
        either false b = refl

        same : is_in (concat (map columns ring)) v || near adj j T v ≡ is_in vs v || near adj j T v
        same =
            ap (λ (b : Bool). b || near adj j T v) (is_in-concat-map columns ring v)
            ∙ any-other (λ u. is_in (columns u) v) (near adj j T) ring v s.ring
            ∙ ap (λ (b : Bool). b || near adj j T v) (any_ext (λ u. is_in (columns u) v && not (eqb v u)) (λ u. is_in (adj u) v) ring (λ u h. sym (is u v)) ∙ sym (is_in-concat-map adj ring v))

  module _ {j : ℕ} {marks queue : List ℕ} {lo hi : ℕ} {marks' queue' : List ℕ} {r : ℕ} (s : Rings adj n T j marks queue lo hi)
      (after : After n 0 marks' queue' r (visited_all 0 1 (wave marks (take hi queue)) (vs s))) where
    ne : ◌≢◌ {A = ℕ} 1 0
    ne e = omega arith

    below : (x : ℕ) → is_in (vs s) x ≡ true → x < n
    below x h = near-below adj graph (suc j) T low x (sym (one_more s x) ∙ rw h refl)

    abbrev grew : Grown n 0 1 (wave marks (take hi queue)) (wave marks' (take r queue')) (vs s)
    grew = after_grown (vs s) s.ready ne below after

    found-is : (u : ℕ) → is_in (slice hi r queue') u ≡ not (near adj j T u) && is_in (vs s) u
    found-is u =
        ap (λ (xs : List ℕ). is_in xs u) (after-found (vs s) s.ready ne below after)
        ∙ grew.found-is u
        ∙ ap (λ (b : Bool). b && is_in (vs s) u) (ap (λ (m : ℕ). eqb m 0) (s.within u) ∙ other (near adj j T u))
      where
        other : (b : Bool) → eqb (bit b) 0 ≡ not b
        other true = refl
        other false = refl

    pub rings_step : Rings adj n T (suc j) marks' queue' hi r
    rings_step = record {
      ready = after.ready;
      up = omega (arith, after_tail (vs s) s.ready ne below after);
      within = λ v. grew.marks-is v ∙ rw (s.within v) (either (near adj j T v) (is_in (vs s) v)) ∙ ap bit (one_more s v);
      ring = λ u h. sym (one_more s u) ∙ rw (and_right (not (near adj j T u)) (is_in (vs s) u) (sym (found-is u) ∙ h)) refl;
      inner = λ u v h o c. near_step adj j T u v c (old u (near adj j T u) (is_in (vs s) u) refl refl h o);
    }
      where
        either : (b x : Bool) → cond (eqb (bit b) 0 && x) 1 (bit b) ≡ bit (x || b)
        either true x = ap bit (sym (or_true x))
        either false true = refl
        either false false = refl

        -- who is marked and not in the new ring was marked
        old : (u : ℕ) (b x : Bool) → near adj j T u ≡ b → is_in (vs s) u ≡ x → near adj (suc j) T u ≡ true → is_in (slice hi r queue') u ≡ false → near adj j T u ≡ true
        old u true x e f h o = e
        old u false true e f h o = absurd (true≢false (rw (e, f) at (sym (found-is u) ∙ o)))
        old u false false e f h o = absurd (true≢false (sym h ∙ sym (one_more s u) ∙ rw (e, f) refl))

-- a group of all rows is its region
pub all-within : {adj : ℕ → List ℕ} {n : ℕ} → Graph adj n → (T : List ℕ) → ((v : ℕ) → is_in T v ≡ true → v < n) → (marks : List ℕ) → ((v : ℕ) → get_or marks v 0 ≡ bit (is_in T v)) → unreached n marks ≡ n
    → (j v : ℕ) → get_or marks v 0 ≡ bit (near adj j T v)
unfolding near
all-within {adj} {n} graph T low marks w full j v = w v ∙ ap bit (both_ways (is_in T v) (near adj j T v) (λ h. near_le adj 0 j T v (omega arith) h) (λ h. inside (near-below adj graph j T low v h) (is_in T v) refl))
  where
    inside : v < n → (b : Bool) → is_in T v ≡ b → is_in T v ≡ true
    inside l true e = e
    inside l false e = absurd (omega (arith, two-marks n marks (is_in T) w, full, some_left n 0 marks v l (w v ∙ ap bit e)))

-- at last the region is marked
module _ (adj : ℕ → List ℕ) (n : ℕ) (T : List ℕ) (j : ℕ) (marks : List ℕ) (within : (v : ℕ) → get_or marks v 0 ≡ bit (near adj j T v)) where
  pub region-is : (reach : ℕ) → j ≡ reach - 1 → at_mark n marks 1 ≡ region adj reach n T
  unfolding region
  region-is reach e =
      filter_ext (λ v. eqb (get_or marks v 0) 1) (near adj (reach - 1) T) (range 0 n)
      (λ v h. ap (λ (x : ℕ). eqb x 1) (within v) ∙ bit-one (near adj j T v) ∙ ap (λ (k : ℕ). near adj k T v) e)

  pub region-small : (v : ℕ) → get_or marks v 0 ≤ 1
  region-small v = subst (λ (x : ℕ). x ≤ 1) (sym (within v)) (small (near adj j T v))
    where
      small : (b : Bool) → bit b ≤ 1
      small true = omega arith
      small false = omega arith
