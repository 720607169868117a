-- Like-coloured parts of a group keep apart: any relation that holds of rows whose levels are more than reach apart
-- holds between them.
use mathlib.Core.Path.{◌≡◌, sym}
use mathlib.Core.Bool.{true, true≢false}
use mathlib.Core.List.{List, [], ◌∷◌}
use Prim.Native.Nat.{ℕ, zero, suc, ◌+◌, ◌≤◌, ◌<◌}
use native.Mathlib.Omega.{arith}
use lib.ListN.{take, drop, get_or}
use lib.Seq.{get_or-drop}
use Rattle.base.specs.Lists.{concat, is_in}
use Rattle.base.proofs.Lists.{is_in-concat}
use Rattle.base.proofs.Each.{Each, Pairwise, each_map}
use Rattle.plan.specs.Groups.{red, blue}
use Rattle.race.specs.Planner.{Pair}
use Rattle.race.proofs.Tiles.{Tiles, done, more}
use Rattle.race.proofs.Parts.{Part, parts}

-- ---- places

-- v stands in the list at place i
abbrev In : List (List ℕ) → ℕ → ℕ → Type 0
In ls i v = is_in (get_or ls i []) v ≡ true

in_take : (m : ℕ) (ls : List (List ℕ)) (i v : ℕ) → In (take m ls) i v → (i < m) × In ls i v
in_take zero ls i v h = absurd (true≢false (sym h))
in_take (suc m) [] i v h = absurd (true≢false (sym h))
in_take (suc m) (l ∷ ls) zero v h = (omega arith, h)
in_take (suc m) (l ∷ ls) (suc i) v h = let q = in_take m ls i v h in (omega (arith, q.0), q.1)

in_drop : (m : ℕ) (ls : List (List ℕ)) (i v : ℕ) → In (drop m ls) i v → In ls (m + i) v
in_drop m ls i v h = rw (get_or-drop m ls i []) at h

-- the levels of a pair of c levels, m of them red
in_red : (c m : ℕ) (ls : List (List ℕ)) (v : ℕ) → is_in (concat (take m (take c ls))) v ≡ true → (i : ℕ) × (i < m) × In ls i v
in_red c m ls v h =
    let (i, q) = is_in-concat (take m (take c ls)) v h in
    let (lt, r) = in_take m (take c ls) i v q in
    (i, lt, (in_take c ls i v r).1)

in_blue : (c m : ℕ) (ls : List (List ℕ)) (v : ℕ) → is_in (concat (drop m (take c ls))) v ≡ true → (i : ℕ) × (m ≤ i) × (i < c) × In ls i v
in_blue c m ls v h =
    let (i, q) = is_in-concat (drop m (take c ls)) v h in
    let (lt, r) = in_take c ls (m + i) v (in_drop m (take c ls) i v q) in
    (m + i, omega arith, lt, r)

-- a part's rows stand in the levels ls, a blue part's from place reach on
abbrev Within : (reach : ℕ) → List (List ℕ) → Part → Type 0
Within reach ls x = (v : ℕ) → is_in x.rows v ≡ true → (j : ℕ) × In ls j v × (x.colour ≡ blue → reach ≤ j)

within-drop : (reach c : ℕ) (ls : List (List ℕ)) (x : Part) → Within reach (drop c ls) x → Within reach ls x
within-drop reach c ls x h v k = let (j, q, b) = h v k in (c + j, in_drop c ls j v q, λ e. omega (arith, b e))

tiles-within : {reach free : ℕ} {ls : List (List ℕ)} {cs : List Pair} (f : ℕ) → Tiles reach free ls cs → Each (Within reach ls) (parts f cs)
tiles-within f done = tt
tiles-within {reach} {ls = ls} f (more {cs = cs} c m w a b l pos le ts) =
    let reds : Within reach ls (record { rows = concat (take m (take c ls)); colour = red; first = f; workers = w }) = λ v h. let (i, lt, q) = in_red c m ls v h in (i, q, λ e. absurd (omega arith)) in
    let blues : Within reach ls (record { rows = concat (drop m (take c ls)); colour = blue; first = f; workers = w }) = λ v h. let (i, ge, lt, q) = in_blue c m ls v h in (i, q, λ e. omega arith) in
    (reds, (blues, each_map (Within reach (drop c ls)) (Within reach ls) (within-drop reach c ls) (parts (f + w) cs) (tiles-within (f + w) ts)))

-- ---- apart

module _ (A : ℕ → ℕ → Type 0) where
  -- rows of levels more than reach apart are so related
  abbrev pub Separated : (reach : ℕ) → List (List ℕ) → Type 0
  Separated reach ls = (i j u v : ℕ) → is_in (get_or ls i []) u ≡ true → is_in (get_or ls j []) v ≡ true → i + reach < j → A u v

  -- each row of xs is so related to each row of ys
  abbrev pub Across : List ℕ → List ℕ → Type 0
  Across xs ys = (u v : ℕ) → is_in xs u ≡ true → is_in ys v ≡ true → A u v

  -- two parts, if their colours are alike, are apart
  abbrev pub Like : Part → Part → Type 0
  Like x y = x.colour ≡ y.colour → Across x.rows y.rows

  -- the parts of a tiling
  pub tiles-apart : {reach free : ℕ} {ls : List (List ℕ)} {cs : List Pair} (f : ℕ) → Tiles reach free ls cs → Separated reach ls → Pairwise Like (parts f cs)
  tiles-apart f done sep = tt
  tiles-apart {reach} {ls = ls} f (more {cs = cs} c m w a b l pos le ts) sep =
      let later = tiles-within (f + w) ts in
      let reds : Part = record { rows = concat (take m (take c ls)); colour = red; first = f; workers = w } in
      let blues : Part = record { rows = concat (drop m (take c ls)); colour = blue; first = f; workers = w } in
      let red-later : Each (Like reds) (parts (f + w) cs) = each_map (Within reach (drop c ls)) (Like reds) (λ y h e u v hu hv.
      let (i, lt, p) = in_red c m ls u hu in
      let (j, q, far) = h v hv in
      sep i (c + j) u v p (in_drop c ls j v q) (omega arith)) (parts (f + w) cs) later in
      let blue-later : Each (Like blues) (parts (f + w) cs) = each_map (Within reach (drop c ls)) (Like blues) (λ y h e u v hu hv.
      let (i, ge, lt, p) = in_blue c m ls u hu in
      let (j, q, far) = h v hv in
      sep i (c + j) u v p (in_drop c ls j v q) (omega (arith, far (sym e)))) (parts (f + w) cs) later in
      let rest = tiles-apart (f + w) ts (λ i j u v hu hv far. sep (c + i) (c + j) u v (in_drop c ls i u hu) (in_drop c ls j v hv) (omega arith)) in
      (((λ e. absurd (omega arith)), red-later), (blue-later, rest))
