-- Every number of a sound plan has 32 bits: rows and stretches lie in n rows, workers in 16, parents in 512 records,
-- and no depth is above 4.
use mathlib.Core.Path.{◌≡◌, refl, sym}
use mathlib.Core.Bool.{Bool, true, false, true≢false}
use mathlib.Core.List.{List, [], ◌∷◌}
use Prim.Native.Nat.{ℕ, suc, ◌+◌, ◌≤◌, ◌<◌}
use native.Mathlib.Omega.{arith}
use lib.Dec.{eqb, leb}
use lib.ListN.{length}
use borrow.Author.Tests.{eqb-true, eqb-false, leb-true}
use Rattle.base.specs.Lists.{keep}
use Rattle.base.proofs.Booleans.{and_left, and_right, conj_at}
use Rattle.base.proofs.Each.{Each, each_map}
use Rattle.matrix.specs.Limits.{max_rows}
use Rattle.plan.specs.Groups.{Group, fields_of, flat}
use Rattle.plan.specs.Sound.{max_workers, max_depth, max_groups, depth_first, children, tiled, like_apart, children_sound, sound}
use Rattle.plan.proofs.Once.{Low, once}
use Rattle.plan.proofs.Pair.{pair_of, tiled-le}
use Rattle.plan.proofs.Records.{Down, Sounds, ancestors, step_of}
use Rattle.plan.proofs.Sound.{sound_facts}
use Rattle.words.proofs.Codes.{Holds}
use Rattle.meaning.proofs.EachIn.{each-concat}

-- a group in n rows, of the sixteen workers
record Inside (n : ℕ) (g : Group) : Type 0 where
  rows : g.start + g.length ≤ n
  crew : g.first + g.workers ≤ max_workers
  coloured : g.colour ≤ 2

-- the children from worker f on end where their parent's workers end
tiled-crew : (g : Group) (s f : ℕ) (ks : List Group) → tiled g s f ks ≡ true → f ≤ g.first + g.workers
unfolding tiled
tiled-crew g s f [] h = let e : f ≡ g.first + g.workers = eqb-true f (g.first + g.workers) (and_right (eqb s (g.start + g.length)) (eqb f (g.first + g.workers)) h) in omega arith
tiled-crew g s f (r ∷ []) h = absurd (true≢false (sym h))
tiled-crew g s f (r ∷ b ∷ ks) h = omega (arith, tiled-crew g (s + r.length + b.length) (f + r.workers) ks (pair_of g s f r b ks h).rest)

-- children lie where their parent lies
tiled-inside : (n : ℕ) (g : Group) → Inside n g → (s f : ℕ) (ks : List Group) → tiled g s f ks ≡ true → Each (Inside n) ks
unfolding tiled
tiled-inside n g i s f [] h = tt
tiled-inside n g i s f (r ∷ []) h = absurd (true≢false (sym h))
tiled-inside n g i s f (r ∷ b ∷ ks) h =
    let p = pair_of g s f r b ks h in
    let rows = tiled-le g (s + r.length + b.length) (f + r.workers) ks p.rest in
    let crew = tiled-crew g (s + r.length + b.length) (f + r.workers) ks p.rest in
    let red : Inside n r = record { rows = omega (arith, p.here, i.rows); crew = omega (arith, p.first_r, i.crew); coloured = omega (arith, p.is_red) } in
    let blue : Inside n b = record { rows = omega (arith, p.then, i.rows); crew = omega (arith, p.first_b, p.alike, i.crew); coloured = omega (arith, p.is_blue) } in
    (red, (blue, tiled-inside n g i (s + r.length + b.length) (f + r.workers) ks p.rest))

children-inside : (far : List ℕ → List ℕ → Bool) (order : List ℕ) (n : ℕ) (g : Group) → Inside n g → (ks : List Group) → children_sound far order g ks ≡ true → Each (Inside n) ks
unfolding children_sound
children-inside far order n g i [] h = tt
children-inside far order n g i (k ∷ ks) h =
    tiled-inside n g i g.start g.first (k ∷ ks) (and_left (tiled g g.start g.first (k ∷ ks)) (like_apart far order (k ∷ ks)) h)

-- those of the records whose parent stands before index i lie inside
abbrev Known : (n i : ℕ) → List Group → Type 0
Known n i gs = Each (λ g. g.parent < i → Inside n g) gs

known_more : (n i : ℕ) (gs : List Group) → Known n i gs → Each (Inside n) (children i gs) → Known n (suc i) gs
unfolding children
known_more n i [] k c = tt
known_more n i (g ∷ gs) k c = go (eqb g.parent i) refl c (known_more n i gs k.1)
  where
    go : (b : Bool) → eqb g.parent i ≡ b → Each (Inside n) (keep b g (children i gs)) → (Each (Inside n) (children i gs) → Known n (suc i) gs) → Known n (suc i) (g ∷ gs)
    go true e c ih = ((λ l. c.0), ih c.1)
    go false e c ih = ((λ l. k.0 (let d = eqb-false g.parent i e in omega arith)), ih c)

all-inside : (far : List ℕ → List ℕ → Bool) (order : List ℕ) (n i : ℕ) (gs : List Group) → Down i gs → Sounds far order i gs → Known n i gs → Each (Inside n) gs
all-inside far order n i [] d s k = tt
all-inside far order n i (g ∷ gs) d s k =
    let here = k.0 d.0 in
    (here, all-inside far order n (suc i) gs d.1 s.1 (known_more n i gs k.1 (children-inside far order n g here (children i gs) s.0)))

-- no record stands before index 0
known-none : (n : ℕ) (gs : List Group) → Known n 0 gs
known-none n [] = tt
known-none n (g ∷ gs) = ((λ l. absurd (omega arith)), known-none n gs)

-- parents stand among the records
parents-low : (i : ℕ) (gs : List Group) → Down i gs → Each (λ g. g.parent < i + length gs) gs
parents-low i [] d = tt
parents-low i (g ∷ gs) d =
    (omega (arith, d.0), each_map (λ h. h.parent < suc i + length gs) (λ h. h.parent < i + suc (length gs)) (λ h l. omega arith) gs (parents-low (suc i) gs d.1))

-- no record is deeper than 4
depths_low : (path : List ℕ) (i : ℕ) (gs : List Group) → depth_first path i gs ≡ true → Each (λ g. g.depth ≤ max_depth) gs
unfolding depth_first
depths_low path i [] h = tt
depths_low path i (g ∷ gs) h =
    let s = step_of path i g gs h in
    let up : List ℕ = ancestors path g in
    let bs : List Bool = leb (length up) max_depth ∷ eqb g.depth (length up) ∷ depth_first (i ∷ up) (i + 1) gs ∷ [] in
    let low = leb-true (length up) max_depth (conj_at (leb 1 (length up)) bs h 0) in
    (omega (arith, s.depth), depths_low (i ∷ up) (suc i) gs s.rest)

-- ---- all numbers

abbrev Fine : ℕ → Group → Type 0
Fine n g = Inside n g × ((g.parent < max_groups) × (g.depth ≤ max_depth))

fields-small : (n : ℕ) → n ≤ max_rows → (g : Group) → Fine n g → Each (Holds 4) (fields_of g)
unfolding fields_of
fields-small n few g (i, (p, d)) =
    (omega (arith, i.rows), (omega (arith, i.rows), (omega (arith, i.crew), (omega (arith, i.crew), (omega (arith, i.coloured), (omega arith, (omega arith, tt)))))))

both-each : (P Q : Group → Type 0) (gs : List Group) → Each P gs → Each Q gs → Each (λ g. P g × Q g) gs
both-each P Q [] a b = tt
both-each P Q (g ∷ gs) a b = ((a.0, b.0), both-each P Q gs a.1 b.1)

low_small : (n : ℕ) (xs : List ℕ) → n ≤ max_rows → Low n xs → Each (Holds 4) xs
low_small n [] few l = tt
low_small n (x ∷ xs) few l = (omega (arith, l.0), low_small n xs few l.1)

-- the numbers of an order and of records
pub record Small (order : List ℕ) (gs : List Group) : Type 0 where
  pub rows : Each (Holds 4) order
  pub numbers : Each (Holds 4) (flat gs)

-- those of a sound plan
pub sound-small : (far : List ℕ → List ℕ → Bool) (n : ℕ) (order : List ℕ) (gs : List Group) → n ≤ max_rows → sound far n order gs ≡ true → Small order gs
unfolding sound flat
sound-small far n order [] few h = absurd (true≢false (sym h))
sound-small far n order (g ∷ gs) few h =
    let f = sound_facts far n order g gs h in
    let top : Inside n g = record { rows = omega (arith, f.start, f.covers); crew = omega (arith, f.first, f.few); coloured = omega (arith, f.colour) } in
    let first = known_more n 0 gs (known-none n gs) (children-inside far order n g top (children 0 gs) f.under.0) in
    let below : Each (Inside n) gs = all-inside far order n 1 gs f.down f.under.1 first in
    let parents : Each (λ h. h.parent < max_groups) gs = each_map (λ h. h.parent < 1 + length gs) (λ h. h.parent < max_groups) (λ h l. omega (arith, f.short)) gs (parents-low 1 gs f.down) in
    let depths : Each (λ h. h.depth ≤ max_depth) gs = depths_low (0 ∷ []) 1 gs f.in_order in
    let places : Each (λ h. (h.parent < max_groups) × (h.depth ≤ max_depth)) gs = both-each (λ h. h.parent < max_groups) (λ h. h.depth ≤ max_depth) gs parents depths in
    let fine : Each (Fine n) (g ∷ gs)
    = ((top, (omega (arith, f.parent), omega (arith, f.depth))), both-each (Inside n) (λ h. (h.parent < max_groups) × (h.depth ≤ max_depth)) gs below places) in
    record { rows = low_small n order few (once n order f.once).low; numbers = each-concat (Holds 4) (Fine n) fields_of (fields-small n few) (g ∷ gs) fine }
