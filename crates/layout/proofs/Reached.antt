-- The records of a sound plan in their order: each starts where the leaves before it end, the last leaf ends at n, and
-- each has a first worker.
use mathlib.Core.Path.{◌≡◌, refl, sym, ap, ◌∙◌, subst}
use mathlib.Core.Logic.{◌⊎◌, inl, inr}
use mathlib.Core.Bool.{Bool, true, false, not, ◌&&◌, cond, true≢false}
use mathlib.Core.List.{List, [], ◌∷◌}
use Prim.Native.Nat.{ℕ, zero, suc, ◌+◌, ◌≤◌, ◌<◌}
use native.Mathlib.Omega.{arith}
use native.Mathlib.Numerals.{add-one}
use lib.Dec.{eqb, leb}
use lib.ListN.{length, get_or, drop}
use lib.Seq.{get_or-drop}
use borrow.Author.Tests.{eqb-true, eqb-false, eq-eqb, leb-true}
use Rattle.base.specs.Lists.{is_in, is_empty}
use Rattle.base.proofs.Booleans.{and_left, and_right, or_cases, conj_first, conj_at}
use Rattle.plan.specs.Groups.{Group, red, blue, width, records, of_fields}
use Rattle.plan.specs.Sound.{apart, max_workers, depth_first, children, tiled, like_apart, children_sound, sound}
use Rattle.plan.specs.Code.Checks.{record_at, below_whole, fitting, pending, complete, laid}
use Rattle.plan.proofs.Records.{ancestors, Step, step_of, Sounds}
use Rattle.plan.proofs.FlatRecords.{length-records, records_at, records-none}
use Rattle.plan.proofs.Nested.{children-ended, children-later, children_at, children-past}
use Rattle.plan.proofs.Laid.{tiled-laid, fits}
use Rattle.plan.proofs.Sound.{SoundFacts, sound_facts}
use Rattle.tables.specs.Code.Laid.{has_child}
use Rattle.layout.specs.Code.UpdateTable.{reached}

-- who has a child
pub has-child : (k : ℕ) (gs : List Group) → has_child k gs ≡ not (is_empty (children k gs))
unfolding children has_child
has-child k [] = refl
has-child k (g ∷ gs) = go (eqb g.parent k) refl (has-child k gs)
  where
    go : (b : Bool) → eqb g.parent k ≡ b → has_child k gs ≡ not (is_empty (children k gs)) → has_child k (g ∷ gs) ≡ not (is_empty (children k (g ∷ gs)))
    go true e ih = rw e refl
    go false e ih = rw e ih

-- ---- the workers of children

-- children from worker f on, w of whom are a red's whose blue is next, end with their parent's workers
laid-le : (g : Group) (s f w : ℕ) (ks : List Group) → laid g s f w ks ≡ true → f + w ≤ g.first + g.workers
unfolding laid complete
laid-le g s f w [] h =
    let bs : List Bool = eqb s (g.start + g.length) ∷ eqb f (g.first + g.workers) ∷ [] in
    let t = conj_at (eqb w 0) bs h in
    let a : w ≡ 0 = eqb-true w 0 (conj_first (eqb w 0) bs h) in
    let b : f ≡ g.first + g.workers = eqb-true f (g.first + g.workers) (t 1) in
    omega arith
laid-le g s f w (k ∷ ks) h = omega (arith, laid-le g (s + k.length) (f + w) (pending w k) ks (and_right (fitting s f w k) _ h))

-- a child's workers, of whom there is at least one, are its red's or pending
crew : (s f w : ℕ) (h : Group) → fitting s f w h ≡ true → (h.workers ≡ w + pending w h) × (1 ≤ h.workers)
unfolding fitting pending
crew s f w h e = go (eqb w 0) refl (conj_at (eqb h.start s) (eqb h.first f ∷ cond (eqb w 0) (eqb h.colour red && leb 1 h.workers) (eqb h.colour blue && eqb h.workers w) ∷ []) e 1)
  where
    go : (b : Bool) → eqb w 0 ≡ b → cond b (eqb h.colour red && leb 1 h.workers) (eqb h.colour blue && eqb h.workers w) ≡ true
        → (h.workers ≡ w + cond b h.workers 0) × (1 ≤ h.workers)
    go true z t = let y : w ≡ 0 = eqb-true w 0 z in (omega arith, leb-true 1 h.workers (and_right (eqb h.colour red) _ t))
    go false z t =
        let y : h.workers ≡ w = eqb-true h.workers w (and_right (eqb h.colour blue) _ t) in
        let x = eqb-false w 0 z in
        (omega arith, omega arith)

-- ---- the open groups before record i

module _ (count : ℕ) (ns : List ℕ) (n : ℕ) where
  abbrev left : ℕ → List Group
  left i = drop i (records count ns)

  -- the groups of a path, each with a smaller index than b, have children from record i on: the first group's start at
  -- s, those of each other group where the one before it ends, and the last ends at n
  abbrev Open : (i b : ℕ) (path : List ℕ) (s : ℕ) → Type 0
  Open i b [] s = s ≡ n
  Open i b (m ∷ path) s =
      (m < b) × (g : Group) × (f : ℕ) × (w : ℕ) × (g.first + g.workers ≤ max_workers) × (laid g s f w (children m (left i)) ≡ true) × Open i m path (g.start + g.length)

  open_below : (i b : ℕ) (path : List ℕ) (s v : ℕ) → Open i b path s → is_in path v ≡ true → v < b
  open_below i b [] s v o h = absurd (true≢false (sym h))
  open_below i b (m ∷ path) s v o h = go (or_cases (eqb v m) (is_in path v) h) (open_below i m path (o.1.start + o.1.length) v o.6)
    where
      go : (eqb v m ≡ true) ⊎ (is_in path v ≡ true) → (is_in path v ≡ true → v < m) → v < b
      go (inl e) ih = let q : v ≡ m = eqb-true v m e in omega (arith, o.0)
      go (inr e) ih = omega (arith, ih e, o.0)

  complete-ends : (g : Group) (s f w : ℕ) → laid g s f w [] ≡ true → s ≡ g.start + g.length
  unfolding laid complete
  complete-ends g s f w h = eqb-true s (g.start + g.length) (conj_at (eqb w 0) (eqb s (g.start + g.length) ∷ eqb f (g.first + g.workers) ∷ []) h 0)

  -- no record is left: all end at n
  open_none : (i b : ℕ) (path : List ℕ) (s : ℕ) → left i ≡ [] → Open i b path s → s ≡ n
  unfolding children
  open_none i b [] s e o = o
  open_none i b (m ∷ path) s e o =
      complete-ends o.1 s o.2 o.3 (subst (λ (gs : List Group). laid o.1 s o.2 o.3 (children m gs) ≡ true) e o.5) ∙ open_none i m path (o.1.start + o.1.length) e o.6

  -- ---- one record

  module _ (nested : depth_first (0 ∷ []) 1 (below_whole count ns) ≡ true) (i : ℕ) (l : i < count) where
    abbrev h : Group
    h = record_at ns i

    -- groups before its parent have no child in it
    open_past : (b : ℕ) (path : List ℕ) (s : ℕ) → b ≤ h.parent → Open i b path s → Open (suc i) b path s
    open_past b [] s a o = o
    open_past b (m ∷ path) s a o = (
      o.0,
      o.1,
      o.2,
      o.3,
      o.4,
      subst (λ (gs : List Group). laid o.1 s o.2 o.3 gs ≡ true) (rw add-one at (children-past count m i ns l (λ (e : h.parent ≡ m). omega (arith, o.0)))) o.5,
      open_past m path (o.1.start + o.1.length) (omega (arith, o.0)) o.6,
    )

    -- it starts at s, and what is open after it
    record Next (path : List ℕ) (s : ℕ) : Type 0 where
      start : h.start ≡ s
      first : h.first < max_workers
      last : h.first + h.workers ≤ max_workers
      opened : Open (suc i) i path (s + h.length)

    next : (b : ℕ) (path : List ℕ) (s : ℕ) → b ≤ i → Open i b path s → is_in path h.parent ≡ true → Next (ancestors path h) s
    unfolding laid
    next b [] s a o p = absurd (true≢false (sym p))
    next b (m ∷ path) s a o p = go (eqb h.parent m) refl (or_cases (eqb h.parent m) (is_in path h.parent) p) (next m path (o.1.start + o.1.length))
      where
        g : Group
        g = o.1

        f : ℕ
        f = o.2

        w : ℕ
        w = o.3

        ks : List Group
        ks = children m (left (suc i))

        go : (y : Bool) → eqb h.parent m ≡ y → (eqb h.parent m ≡ true) ⊎ (is_in path h.parent ≡ true)
            → (m ≤ i → Open i m path (g.start + g.length) → is_in path h.parent ≡ true → Next (ancestors path h) (g.start + g.length)) → Next (ancestors (m ∷ path) h) s
        go true e q ih =
            let z : h.parent ≡ m = eqb-true h.parent m e in
            let t : fitting s f w h && laid g (s + h.length) (f + w) (pending w h) ks ≡ true =
            subst (λ (gs : List Group). laid g s f w gs ≡ true) (rw add-one at (children_at count m i ns l z)) o.5 in
            let x = and_left (fitting s f w h) _ t in
            let rest = and_right (fitting s f w h) _ t in
            let c = crew s f w h x in
            let k = laid-le g (s + h.length) (f + w) (pending w h) ks rest in
            let y = fits s f w h x in
            rw e (record {
              start = y.start;
              first = omega (arith, o.4, y.first);
              last = omega (arith, o.4, y.first);
              opened = (omega (arith, o.0), g, f + w, pending w h, o.4, rest, open_past m path (g.start + g.length) (omega arith) o.6);
            })
        go false e (inl y) ih = absurd (true≢false (sym y ∙ e))
        go false e (inr y) ih =
            let k = open_below i m path (g.start + g.length) h.parent o.6 y in
            let z = complete-ends g s f w (subst (λ (gs : List Group). laid g s f w gs ≡ true) (children-ended count ns nested m i (omega (arith, o.0)) l k) o.5) in
            rw (e, z) (ih (omega (arith, o.0)) o.6 y)

    -- .. with its own children
    opens : (adj : ℕ → List ℕ) (order path : List ℕ) (s : ℕ) → children_sound (apart adj) order h (children i (left (suc i))) ≡ true → Next path s
        → Open (suc i) (suc i) (i ∷ path) (cond (has_child i (below_whole count ns)) s (s + h.length))
    unfolding children_sound laid complete
    opens adj order path s c x = rw (has-child i (below_whole count ns), rw add-one at (children-later count ns nested i)) (go (children i (left (suc i))) refl c)
      where
        e : s + h.length ≡ h.start + h.length
        e = ap (λ (y : ℕ). y + h.length) (sym x.start)

        done : laid h (s + h.length) (h.first + h.workers) 0 [] ≡ true
        done = rw (eq-eqb (s + h.length) (h.start + h.length) e) (eq-eqb (h.first + h.workers) (h.first + h.workers) refl)

        go : (ks : List Group) → children i (left (suc i)) ≡ ks → children_sound (apart adj) order h ks ≡ true → Open (suc i) (suc i) (i ∷ path) (cond (not (is_empty ks)) s (s + h.length))
        go [] q t = (omega arith, h, h.first + h.workers, 0, x.last, rw q done, subst (Open (suc i) i path) e x.opened)
        go (k ∷ ks) q t = (
          omega arith,
          h,
          h.first,
          0,
          x.last,
          rw q (subst (λ (y : ℕ). laid h y h.first 0 (k ∷ ks) ≡ true) x.start (sym (tiled-laid h h.start h.first (k ∷ ks)) ∙ and_left (tiled h h.start h.first (k ∷ ks)) (like_apart (apart adj) order (k ∷ ks)) t)),
          subst (Open (suc i) i path) e x.opened,
        )

-- ---- all records

-- the record at an index of the list
pub record_get : (count : ℕ) (ns : List ℕ) (i : ℕ) (d : Group) → i < count → get_or (records count ns) i d ≡ record_at ns i
record_get count ns i d l =
    let e : i ≡ i + 0 = omega arith in
    ap (λ (k : ℕ). get_or (records count ns) k d) e ∙ sym (get_or-drop i (records count ns) 0 d) ∙ ap (λ (gs : List Group). get_or gs 0 d) (records_at count i ns l)

sounds_at : (adj : ℕ → List ℕ) (order : List ℕ) (k : ℕ) (gs : List Group) → Sounds (apart adj) order k gs → (i : ℕ) (d : Group) → i < length gs
    → children_sound (apart adj) order (get_or gs i d) (children (k + i) (drop (suc i) gs)) ≡ true
sounds_at adj order k [] s i d l = absurd (omega arith)
sounds_at adj order k (g ∷ gs) s zero d l = let e : k ≡ k + 0 = omega arith in subst (λ (y : ℕ). children_sound (apart adj) order g (children y gs) ≡ true) e s.0
sounds_at adj order k (g ∷ gs) s (suc i) d l =
    let e : suc k + i ≡ k + suc i = omega arith in
    subst (λ (y : ℕ). children_sound (apart adj) order (get_or gs i d) (children y (drop (suc i) gs)) ≡ true) e (sounds_at adj order (suc k) gs s.1 i d (omega arith))

module _ (adj : ℕ → List ℕ) (n : ℕ) (order : List ℕ) (c : ℕ) (ns : List ℕ) (ok : sound (apart adj) n order (records (suc c) ns) ≡ true) where
  abbrev count : ℕ
  count = suc c

  facts : SoundFacts (apart adj) n order (of_fields ns) (records c (drop width ns))
  unfolding records
  facts = sound_facts (apart adj) n order (of_fields ns) (records c (drop width ns)) ok

  below : (i : ℕ) → i < count → children_sound (apart adj) order (record_at ns i) (children i (drop (suc i) (records count ns))) ≡ true
  unfolding records
  below i l =
      let e : 0 + i ≡ i = omega arith in
      let d : Group = of_fields [] in
      rw (e, record_get count ns i d l) at (sounds_at adj order 0 (records count ns) facts.under i d (omega (arith, length-records count ns)))

  nested : depth_first (0 ∷ []) 1 (below_whole count ns) ≡ true
  unfolding records
  nested = facts.in_order

  -- the path before record i, with the groups that are open there
  record Before (i : ℕ) : Type 0 where
    path : List ℕ
    opened : Open count ns n i i path (reached count ns i)
    rest : depth_first path i (drop i (records count ns)) ≡ true

  whole : (l : 0 < count) → Next count ns n nested 0 l [] 0
  unfolding record_at
  whole l = record { start = facts.start; first = omega (arith, facts.first); last = omega (arith, facts.first, facts.few); opened = omega (arith, facts.covers) }

  step : (i : ℕ) (l : i < count) (b : Before i) → Step b.path i (record_at ns i) (drop (suc i) (records count ns))
  step i l b = step_of b.path i (record_at ns i) (drop (suc i) (records count ns)) (subst (λ (gs : List Group). depth_first b.path i gs ≡ true) (records_at count i ns l) b.rest)

  next-at : (i : ℕ) (l : i < count) (b : Before i) → Next count ns n nested i l (ancestors b.path (record_at ns i)) (reached count ns i)
  next-at i l b = next count ns n nested i l i b.path (reached count ns i) (omega arith) b.opened (step i l b).parent_in

  before : (k : ℕ) → k < count → Before (suc k)
  unfolding reached
  before zero l = record { path = 0 ∷ []; opened = opens count ns n nested 0 l adj order [] 0 (below 0 l) (whole l); rest = nested }
  before (suc k) l =
      let b = before k (omega arith) in
      record {
        path = suc k ∷ ancestors b.path (record_at ns (suc k));
        opened = opens count ns n nested (suc k) l adj order (ancestors b.path (record_at ns (suc k))) (reached count ns (suc k)) (below (suc k) l) (next-at (suc k) l b);
        rest = (step (suc k) l b).rest;
      }

  -- record i starts where the leaves before it end, and has a first worker
  start-at : (i : ℕ) → i < count → ((record_at ns i).start ≡ reached count ns i) × ((record_at ns i).first < max_workers)
  unfolding reached
  start-at zero l = ((whole l).start, (whole l).first)
  start-at (suc k) l = let x = next-at (suc k) l (before k (omega arith)) in (x.start, x.first)

  -- the last leaf ends at n
  end-at : reached count ns count ≡ n
  end-at = let b = before c (omega arith) in open_none count ns n count count b.path (reached count ns count) (records-none count count ns (omega arith)) b.opened

module _ (adj : ℕ → List ℕ) (n : ℕ) (order : List ℕ) (count : ℕ) (ns : List ℕ) (ok : sound (apart adj) n order (records count ns) ≡ true) where
  -- record i starts where the leaves before it end, and has a first worker
  pub start-reached : (i : ℕ) → i < count → ((record_at ns i).start ≡ reached count ns i) × ((record_at ns i).first < max_workers)
  start-reached = go count ok
    where
      go : (k : ℕ) → sound (apart adj) n order (records k ns) ≡ true → (i : ℕ) → i < k → ((record_at ns i).start ≡ reached k ns i) × ((record_at ns i).first < max_workers)
      go zero h i l = absurd (omega arith)
      go (suc c) h i l = start-at adj n order c ns h i l

  -- the last leaf ends at n
  pub reached_end : reached count ns count ≡ n
  unfolding sound records
  reached_end = go count ok
    where
      go : (k : ℕ) → sound (apart adj) n order (records k ns) ≡ true → reached k ns k ≡ n
      go zero h = absurd (true≢false (sym h))
      go (suc c) h = end-at adj n order c ns h
