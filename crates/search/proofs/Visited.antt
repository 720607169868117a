-- Visits in two arrays, marks and queue, the queue filled up to tail: one visit, a list of visits, and a whole level
-- expanded row by row.
use mathlib.Core.Path.{◌≡◌, refl, sym, ap, ◌∙◌, subst}
use mathlib.Core.Logic.{◌≢◌}
use mathlib.Core.Bool.{Bool, true, false, not, ◌&&◌, cond}
use mathlib.Core.List.{List, [], ◌∷◌, ◌++◌, map}
use Prim.Native.Nat.{ℕ, suc, ◌+◌, ◌-◌, ◌≤◌, ◌<◌}
use native.Mathlib.Omega.{arith}
use native.Mathlib.Numerals.{add-one}
use lib.Dec.{eqb}
use lib.ListN.{length, get_or, take, drop, set, length-set, length-append}
use lib.Seq.{get_or-set_other, take-suc-set, length-take-le, take-take, take-append-le, drop_at, drop-cons, drop-length, slice, slice-cons, slice_empty, length-slice, get_or-take, get_or-drop}
use borrow.Author.Tests.{eqb-true}
use Rattle.base.specs.Lists.{filter, keep, is_in, concat}
use Rattle.base.proofs.Lists.{in_get}
use Rattle.matrix.specs.Matrix.{Matrix, columns_of, neighbours}
use Rattle.search.specs.Code.Search.{Wave, wave, visited, visited_all, Ready, After, Front}
use Rattle.search.proofs.Waves.{visited_all-append, visited_new, visited_old, one_less, some_left, Grown, grown}

-- ---- one visit

pub visit_old : {n c : ℕ} {marks queue : List ℕ} {tail : ℕ} (m v : ℕ) → Ready n c marks queue tail → get_or marks v 0 ≢ c
    → After n c marks queue tail (visited c m (wave marks (take tail queue)) v)
visit_old {n} {c} {marks} {queue} {tail} m v r h = record { is = sym (visited_old c m (wave marks (take tail queue)) v h); ready = r }

pub visit_new : {n c : ℕ} {marks queue : List ℕ} {tail : ℕ} (m v : ℕ) → Ready n c marks queue tail → v < n → m ≢ c → get_or marks v 0 ≡ c
    → After n c (set marks v m) (set queue tail v) (tail + 1) (visited c m (wave marks (take tail queue)) v)
visit_new {n} {c} {marks} {queue} {tail} m v r l ne h =
    let some = some_left n c marks v l h in
    let less = one_less n c marks v m l (omega (arith, r.small, r.marks_long)) h ne in
    record {
      is =
          ap (λ (j : ℕ). wave (set marks v m) (take j (set queue tail v))) (add-one tail)
          ∙ ap (wave (set marks v m)) (take-suc-set queue tail v (omega (arith, r.small, r.room, r.queue_long, some)))
          ∙ sym (visited_new c m (wave marks (take tail queue)) v h);
      ready = record {
        small = r.small;
        marks_long = length-set marks v m ∙ r.marks_long;
        queue_long = length-set queue tail v ∙ r.queue_long;
        room = omega (arith, r.room, less);
      };
    }

-- ---- what a list of visits leaves

module _ {n c m : ℕ} {marks queue : List ℕ} {tail : ℕ} {marks' queue' : List ℕ} {r : ℕ} (vs : List ℕ)
    (ready : Ready n c marks queue tail) (ne : m ≢ c) (below : (x : ℕ) → is_in vs x ≡ true → x < n)
    (after : After n c marks' queue' r (visited_all c m (wave marks (take tail queue)) vs)) where
  pub after_grown : Grown n c m (wave marks (take tail queue)) (wave marks' (take r queue')) vs
  after_grown =
      subst (λ (w : Wave). Grown n c m (wave marks (take tail queue)) w vs) (sym after.is)
      (grown c m ne n (wave marks (take tail queue)) vs below (omega (arith, ready.small, ready.marks_long)))

  -- the queue was filled up to tail
  filled : length (take tail queue) ≡ tail
  filled = length-take-le tail queue (omega (arith, ready.small, ready.room, ready.queue_long))

  pub after_tail : r ≡ tail + length after_grown.found
  after_tail =
      omega (
        arith,
        ap length after_grown.queue-is,
        length-append (take tail queue) after_grown.found,
        filled,
        length-take-le r queue' (omega (arith, after.ready.small, after.ready.room, after.ready.queue_long)),
      )

  -- what stood in the queue stands there still
  pub after-keeps : (hi : ℕ) → hi ≤ tail → take hi queue' ≡ take hi queue
  after-keeps hi le =
      sym (take-take hi r queue' (omega (arith, after_tail)))
      ∙ ap (take hi) after_grown.queue-is
      ∙ take-append-le hi (take tail queue) after_grown.found (omega (arith, filled))
      ∙ take-take hi tail queue le

  -- who was found stands after it
  pub after-found : slice tail r queue' ≡ after_grown.found
  after-found = ap (drop tail) after_grown.queue-is ∙ drop_at (take tail queue) after_grown.found tail filled

  -- who has mark c had it
  pub after_was : (v : ℕ) → get_or marks' v 0 ≡ c → get_or marks v 0 ≡ c
  after_was v h = go (eqb (get_or marks v 0) c && is_in vs v) (sym (after_grown.marks-is v) ∙ h)
    where
      go : (b : Bool) → cond b m (get_or marks v 0) ≡ c → get_or marks v 0 ≡ c
      go true e = absurd (ne e)
      go false e = e

-- ---- a list of visits, one by one

-- the rows from the place i on lead to the same wave
pub record Along (n c m : ℕ) (rows : List ℕ) (w : Wave) (marks queue : List ℕ) (tail i : ℕ) : Type 0 where
  pub ready : Ready n c marks queue tail
  pub le : i ≤ length rows
  pub left : visited_all c m (wave marks (take tail queue)) (drop i rows) ≡ visited_all c m w rows

pub along_step : {n c m : ℕ} {rows : List ℕ} {w : Wave} {marks queue : List ℕ} {tail i : ℕ} {marks' queue' : List ℕ} {r : ℕ}
    → Along n c m rows w marks queue tail i → i < length rows → After n c marks' queue' r (visited c m (wave marks (take tail queue)) (get_or rows i 0))
    → Along n c m rows w marks' queue' r (i + 1)
unfolding visited_all
along_step {n} {c} {m} {rows} {w} {marks} {queue} {tail} {i} a l af = record {
  ready = af.ready;
  le = omega arith;
  left = rw (add-one i, af.is) (ap (visited_all c m (wave marks (take tail queue))) (sym (drop-cons rows i 0 l)) ∙ a.left);
}

pub along_end : {n c m : ℕ} {rows : List ℕ} {w : Wave} {marks queue : List ℕ} {tail i : ℕ} → Along n c m rows w marks queue tail i → length rows ≤ i
    → After n c marks queue tail (visited_all c m w rows)
unfolding visited_all
along_end {n} {c} {m} {rows} {w} {marks} {queue} {tail} {i} a le =
    let e : i ≡ length rows = omega (arith, a.le) in
    record { is = ap (visited_all c m (wave marks (take tail queue))) (sym (ap (λ (j : ℕ). drop j rows) e ∙ drop-length rows)) ∙ a.left; ready = a.ready }

-- ---- a row: visiting the row itself changes nothing, since it has another mark

still : (c m : ℕ) (w : Wave) (x u : ℕ) → get_or w.marks u 0 ≢ c → get_or (visited c m w x).marks u 0 ≢ c
unfolding visited
still c m w x u h = go (eqb (get_or w.marks x 0) c) refl
  where
    go : (b : Bool) → eqb (get_or w.marks x 0) c ≡ b → get_or (cond b (wave (set w.marks x m) (w.queue ++ x ∷ [])) w).marks u 0 ≢ c
    go true e q =
        h (sym (get_or-set_other w.marks x u m 0 (λ s. h (subst (λ (y : ℕ). get_or w.marks y 0 ≡ c) (sym s) (eqb-true _ c e)))) ∙ q)
    go false e q = h q

skip_self : (c m : ℕ) (w : Wave) (xs : List ℕ) (u : ℕ) → get_or w.marks u 0 ≢ c → visited_all c m w (filter (λ x. not (eqb x u)) xs) ≡ visited_all c m w xs
unfolding visited_all
skip_self c m w [] u h = refl
skip_self c m w (x ∷ xs) u h = go (eqb x u) refl (skip_self c m w xs u h) (skip_self c m (visited c m w x) xs u (still c m w x u h))
  where
    go : (b : Bool) → eqb x u ≡ b → visited_all c m w (filter (λ x. not (eqb x u)) xs) ≡ visited_all c m w xs
        → visited_all c m (visited c m w x) (filter (λ x. not (eqb x u)) xs) ≡ visited_all c m (visited c m w x) xs
        → visited_all c m w (keep (not b) x (filter (λ x. not (eqb x u)) xs)) ≡ visited_all c m (visited c m w x) xs
    go true e a b = a ∙ ap (λ (y : Wave). visited_all c m y xs) (sym (visited_old c m w x (λ s. h (subst (λ (y : ℕ). get_or w.marks y 0 ≡ c) (eqb-true x u e) s))))
    go false e a b = b

-- visiting a row's columns is visiting the rows adjacent to it
pub visit_row : (p : Matrix) (c m : ℕ) (w : Wave) (u : ℕ) → get_or w.marks u 0 ≢ c → visited_all c m w (neighbours p u) ≡ visited_all c m w (columns_of p u)
unfolding neighbours
visit_row p c m w u h = skip_self c m w (columns_of p u) u h

-- ---- a level: the rows lo to hi of the queue, one after the other

-- the rows from the place i on lead to the same wave
pub record Across (adj : ℕ → List ℕ) (n c m : ℕ) (marks₀ queue₀ : List ℕ) (lo hi : ℕ) (marks queue : List ℕ) (tail i : ℕ) : Type 0 where
  pub ready : Ready n c marks queue tail
  pub low : lo ≤ i
  pub high : i ≤ hi
  pub after : hi ≤ tail
  pub same : take hi queue ≡ take hi queue₀
  pub was : (u : ℕ) → get_or marks u 0 ≡ c → get_or marks₀ u 0 ≡ c
  pub left : visited_all c m (wave marks (take tail queue)) (concat (map adj (slice i hi queue₀)))
      ≡ visited_all c m (wave marks₀ (take hi queue₀)) (concat (map adj (slice lo hi queue₀)))

pub across_start : {n c : ℕ} {marks queue : List ℕ} {hi : ℕ} (adj : ℕ → List ℕ) (m lo : ℕ) → lo ≤ hi → Ready n c marks queue hi → Across adj n c m marks queue lo hi marks queue hi lo
across_start adj m lo le r = record { ready = r; low = omega arith; high = le; after = omega arith; same = refl; was = λ u h. h; left = refl }

-- a place of a part
pub slice-get : (xs : List ℕ) (lo i hi : ℕ) → lo ≤ i → i < hi → get_or (slice lo hi xs) (i - lo) 0 ≡ get_or xs i 0
slice-get xs lo i hi a b =
    let z : lo + (i - lo) ≡ i = omega arith in
    get_or-drop lo (take hi xs) (i - lo) 0 ∙ ap (λ (j : ℕ). get_or (take hi xs) j 0) z ∙ get_or-take hi xs i 0 b

pub in_slice : (xs : List ℕ) (lo i hi : ℕ) → lo ≤ i → i < hi → hi ≤ length xs → is_in (slice lo hi xs) (get_or xs i 0) ≡ true
in_slice xs lo i hi a b le =
    subst (λ (y : ℕ). is_in (slice lo hi xs) y ≡ true) (slice-get xs lo i hi a b) (in_get (slice lo hi xs) (i - lo) (omega (arith, length-slice lo hi xs le)))

module _ {adj : ℕ → List ℕ} {n c m : ℕ} {marks₀ queue₀ : List ℕ} {lo hi : ℕ} {marks queue : List ℕ} {tail i : ℕ}
    (a : Across adj n c m marks₀ queue₀ lo hi marks queue tail i) where
  -- the row at i is the one that stood there at first
  across_row : i < hi → get_or queue i 0 ≡ get_or queue₀ i 0
  across_row l = sym (get_or-take hi queue i 0 l) ∙ ap (λ (xs : List ℕ). get_or xs i 0) a.same ∙ get_or-take hi queue₀ i 0 l

  -- it is a row, and has another mark
  pub across_in : i < hi → hi ≤ length queue₀ → Front n c marks₀ (slice lo hi queue₀) → (get_or queue i 0 < n) × (get_or marks (get_or queue i 0) 0 ≢ c)
  across_in l le f =
      let (b, q) = f (get_or queue₀ i 0) (in_slice queue₀ lo i hi a.low l le) in
      rw (across_row l) (b, λ h. q (a.was (get_or queue₀ i 0) h))

  pub across_step : {marks' queue' : List ℕ} {r : ℕ} → i < hi → hi ≤ length queue₀ → m ≢ c → ((x : ℕ) → is_in (adj (get_or queue i 0)) x ≡ true → x < n)
      → After n c marks' queue' r (visited_all c m (wave marks (take tail queue)) (adj (get_or queue i 0)))
      → Across adj n c m marks₀ queue₀ lo hi marks' queue' r (i + 1)
  across_step l le ne below af =
      let w = wave marks (take tail queue) in
      record {
        ready = af.ready;
        low = omega (arith, a.low);
        high = omega arith;
        after = omega (arith, a.after, after_tail (adj (get_or queue i 0)) a.ready ne below af);
        same = after-keeps (adj (get_or queue i 0)) a.ready ne below af hi a.after ∙ a.same;
        was = λ v h. a.was v (after_was (adj (get_or queue i 0)) a.ready ne below af v h);
        left =
            rw (add-one i, af.is)
            (sym (visited_all-append c m w (adj (get_or queue i 0)) (concat (map adj (slice (suc i) hi queue₀))))
            ∙ ap (λ (y : ℕ). visited_all c m w (adj y ++ concat (map adj (slice (suc i) hi queue₀)))) (across_row l)
            ∙ ap (λ (xs : List ℕ). visited_all c m w (concat (map adj xs))) (sym (slice-cons i hi queue₀ 0 l le))
            ∙ a.left);
      }

  pub across_end : hi ≤ i → After n c marks queue tail (visited_all c m (wave marks₀ (take hi queue₀)) (concat (map adj (slice lo hi queue₀))))
  unfolding visited_all
  across_end le =
      let e : i ≡ hi = omega (arith, a.high) in
      record {
        is =
            ap (λ (xs : List ℕ). visited_all c m (wave marks (take tail queue)) (concat (map adj xs))) (sym (ap (λ (j : ℕ). slice j hi queue₀) e ∙ slice_empty hi queue₀))
            ∙ a.left;
        ready = a.ready;
      }
