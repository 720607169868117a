-- The children of a group one by one: of each pair the red part, then the blue part.
use mathlib.Core.Path.{◌≡◌, refl, sym, ap, ◌∙◌, subst}
use mathlib.Core.List.{List, [], ◌∷◌, ◌++◌, append_assoc}
use Prim.Native.Nat.{ℕ, ◌+◌, ◌*◌, ◌-◌, ◌≤◌}
use native.Mathlib.Omega.{arith}
use lib.ListN.{length, take, drop, length-append, take-append-drop}
use mathlib.Core.Bool.{true}
use borrow.Author.Tests.{eq-eqb, le-leb}
use Rattle.base.specs.Lists.{concat}
use Rattle.base.proofs.Lists.{concat-append}
use Rattle.plan.specs.Groups.{Group, Plan, red, blue}
use Rattle.plan.specs.Sound.{tiled}
use Rattle.race.specs.Planner.{Pair, Planner, nothing, ◌then◌, plan_pairs, child_of}
use Rattle.race.proofs.Tiles.{Tiles, done, more}

-- a child's rows, colour and workers
pub record Part : Type 0 where
  pub rows : List ℕ
  pub colour : ℕ
  pub first : ℕ
  pub workers : ℕ

-- the parts of some pairs, whose workers begin at f
abbrev pub parts : (f : ℕ) → List Pair → List Part
parts f [] = []
parts f (c ∷ cs) =
    record { rows = c.reds; colour = red; first = f; workers = c.workers }
    ∷ record { rows = c.blues; colour = blue; first = f; workers = c.workers }
    ∷ parts (f + c.workers) cs

-- the rows of all parts
abbrev pub all_rows : List Part → List ℕ
all_rows [] = []
all_rows (x ∷ xs) = x.rows ++ all_rows xs

-- the record of a child of the group at index up
abbrev pub record_of : (up depth start : ℕ) → Part → Group
record_of up depth start x = child_of up depth start (length x.rows) x.first x.workers x.colour

-- .. and of all its children
abbrev pub records_of : (up depth start : ℕ) → List Part → List Group
records_of up depth start [] = []
records_of up depth start (x ∷ xs) = record_of up depth start x ∷ records_of up depth (start + length x.rows) xs

-- each part with all below it
abbrev pub plan_parts : (child : Planner) (up depth start index : ℕ) → List Part → Plan
plan_parts child up depth start index [] = nothing
plan_parts child up depth start index (x ∷ xs) =
    let a = child index (record_of up depth start x) x.rows in
    a then plan_parts child up depth (start + length x.rows) (index + length a.groups) xs

-- planning pairs is planning their parts
pub plan_pairs-parts : (child : Planner) (up depth start first index : ℕ) (cs : List Pair) → plan_pairs child up depth start first index cs ≡ plan_parts child up depth start index (parts first cs)
unfolding plan_pairs
plan_pairs-parts child up depth start first index [] = refl
plan_pairs-parts child up depth start first index (c ∷ cs) =
    let a = child index (child_of up depth start (length c.reds) first c.workers red) c.reds in
    let mid = start + length c.reds in
    let index₁ = index + length a.groups in
    let b = child index₁ (child_of up depth mid (length c.blues) first c.workers blue) c.blues in
    ap (λ (r : Plan). a then b then r) (plan_pairs-parts child up depth (mid + length c.blues) (first + c.workers) (index₁ + length b.groups) cs)

-- ---- what tiles gives

-- some first lists, and the others
halves : (m : ℕ) (ls : List (List ℕ)) → concat (take m ls) ++ concat (drop m ls) ≡ concat ls
halves m ls = sym (concat-append (take m ls) (drop m ls)) ∙ ap (λ (l : List (List ℕ)). concat l) (take-append-drop m ls)

-- the parts hold the levels' rows, in order
pub tiles-rows : {reach free : ℕ} {ls : List (List ℕ)} {cs : List Pair} (f : ℕ) → Tiles reach free ls cs → all_rows (parts f cs) ≡ concat ls
tiles-rows f done = refl
tiles-rows {ls = ls} f (more {cs = cs} c m w a b l pos le ts) =
    let mine = take c ls in
    ap (λ (r : List ℕ). concat (take m mine) ++ (concat (drop m mine) ++ r)) (tiles-rows (f + w) ts)
    ∙ sym (append_assoc (concat (take m mine)) (concat (drop m mine)) (concat (drop c ls)))
    ∙ ap (λ (r : List ℕ). r ++ concat (drop c ls)) (halves m mine)
    ∙ halves c ls

-- the records of the parts tile their parent
pub tiles-tiled : {reach free : ℕ} {ls : List (List ℕ)} {cs : List Pair} (g : Group) (up depth s f : ℕ) → Tiles reach free ls cs
    → s + length (all_rows (parts f cs)) ≡ g.start + g.length → f + free ≡ g.first + g.workers → tiled g s f (records_of up depth s (parts f cs)) ≡ true
unfolding tiled
tiles-tiled g up depth s f done e d = rw (eq-eqb s (g.start + g.length) (omega arith), eq-eqb f (g.first + g.workers) (omega arith)) refl
tiles-tiled {ls = ls} g up depth s f (more {cs = cs} c m w a b l pos le ts) e d =
    let reds = concat (take m (take c ls)) in
    let blues = concat (drop m (take c ls)) in
    let later = parts (f + w) cs in
    let ih = tiles-tiled g up depth (s + length reds + length blues) (f + w) ts
    (omega (arith, e, length-append reds (blues ++ all_rows later), length-append blues (all_rows later))) (omega arith) in
    rw (eq-eqb s s refl, eq-eqb (s + length reds) (s + length reds) refl, eq-eqb f f refl, le-leb 1 w pos, eq-eqb w w refl, ih) refl

-- ---- how many groups

-- with at most m groups for each worker below a part
abbrev pub groups_of : (m : ℕ) → List Part → ℕ
groups_of m [] = 0
groups_of m (x ∷ xs) = (1 + x.workers * m) + groups_of m xs

-- in a tiling that is at most 2 + 2 m for each worker
pub tiles-groups : {reach free : ℕ} {ls : List (List ℕ)} {cs : List Pair} (m f : ℕ) → Tiles reach free ls cs → groups_of m (parts f cs) ≤ free * (2 + 2 * m)
tiles-groups m f done = omega arith
tiles-groups {free = free} m f (more {cs = cs} c k w a b l pos le ts) = go (free - w) (groups_of m (parts (f + w) cs)) (omega arith) (tiles-groups m (f + w) ts)
  where
    go : (d q : ℕ) → d + w ≡ free → q ≤ d * (2 + 2 * m) → (1 + w * m) + ((1 + w * m) + q) ≤ free * (2 + 2 * m)
    go d q e h = subst (λ (x : ℕ). (1 + w * m) + ((1 + w * m) + q) ≤ x * (2 + 2 * m)) e (omega arith)
