-- Records that stand depth first: the test's path after a group's records is the path before them, but for later
-- indices in front.
use mathlib.Core.Path.{◌≡◌, refl, sym, ap, ◌∙◌, subst}
use mathlib.Core.List.{List, [], ◌∷◌, ◌++◌, append_assoc}
use Prim.Native.Nat.{ℕ, suc, ◌+◌, ◌≤◌, ◌<◌}
use native.Mathlib.Omega.{arith}
use lib.Dec.{eqb}
use lib.ListN.{length, length-append}
use borrow.Author.Tests.{eq-eqb, ne_eqb, le-leb}
use Rattle.base.specs.Lists.{from_first}
use Rattle.base.proofs.Each.{Each}
use Rattle.plan.specs.Groups.{Group}
use Rattle.plan.specs.Sound.{max_depth, depth_first}

-- every index of es is above q
abbrev pub Above : ℕ → List ℕ → Type 0
Above q es = Each (λ e. q < e) es

above_snoc : (q r : ℕ) (es : List ℕ) → q < r → Above r es → Above q (es ++ (r ∷ []))
above_snoc q r [] lt h = (lt, tt)
above_snoc q r (e ∷ es) lt h = (omega (arith, h.0), above_snoc q r es lt h.1)

-- the path is cut back to the parent
find_up : (q : ℕ) (es anc : List ℕ) → Above q es → from_first (eqb q) (es ++ (q ∷ anc)) ≡ q ∷ anc
find_up q [] anc h = rw (eq-eqb q q refl) refl
find_up q (e ∷ es) anc h = rw (ne_eqb q e (λ x. omega (arith, h.0))) (find_up q es anc h.1)

-- a child of up, when the path is up's with some later indices in front
walk-one : (up index : ℕ) (es anc : List ℕ) (g : Group) (gs : List Group) → g.parent ≡ up → g.depth ≡ suc (length anc) → Above up es → suc (length anc) ≤ max_depth
    → depth_first (es ++ (up ∷ anc)) index (g ∷ gs) ≡ depth_first (index ∷ up ∷ anc) (index + 1) gs
unfolding depth_first
walk-one up index es anc g gs e d h b =
    let f : from_first (eqb g.parent) (es ++ (up ∷ anc)) ≡ up ∷ anc
    = subst (λ (q : ℕ). from_first (eqb q) (es ++ (up ∷ anc)) ≡ up ∷ anc) (sym e) (find_up up es anc h) in
    rw (f, le-leb 1 (suc (length anc)) (omega arith), le-leb (suc (length anc)) max_depth b, eq-eqb g.depth (suc (length anc)) d) refl

-- the records from index on, before tail, leave the path up's with some later indices in front
abbrev pub Walked : (up : ℕ) (es anc : List ℕ) (index : ℕ) (gs tail : List Group) → Type 0
Walked up es anc index gs tail =
    (out : List ℕ) × Above up out × (depth_first (es ++ (up ∷ anc)) index (gs ++ tail) ≡ depth_first (out ++ (up ∷ anc)) (index + length gs) tail)

-- no record
pub walk_none : (up : ℕ) (es anc : List ℕ) (index : ℕ) (tail : List Group) → Above up es → Walked up es anc index [] tail
walk_none up es anc index tail h = (es, h, ap (λ (k : ℕ). depth_first (es ++ (up ∷ anc)) k tail) (omega arith))

-- a child of up with all below it
pub walk-child : (up index : ℕ) (es anc : List ℕ) (g : Group) (below tail : List Group) → up < index → g.parent ≡ up → g.depth ≡ suc (length anc) → Above up es → suc (length anc) ≤ max_depth
    → Walked index [] (up ∷ anc) (index + 1) below tail → Walked up es anc index (g ∷ below) tail
walk-child up index es anc g below tail lt e d h b (out, ab, w) = (
  out ++ (index ∷ []),
  above_snoc up index out lt ab,
  walk-one up index es anc g (below ++ tail) e d h b
      ∙ w
      ∙ ap (λ (l : List ℕ). depth_first l (index + 1 + length below) tail) (sym (append_assoc out (index ∷ []) (up ∷ anc)))
      ∙ ap (λ (k : ℕ). depth_first ((out ++ (index ∷ [])) ++ (up ∷ anc)) k tail) (omega arith),
)

-- some records, and those after them
pub walk_then : (up : ℕ) (es anc : List ℕ) (index : ℕ) (gs hs tail : List Group) → Walked up es anc index gs (hs ++ tail)
    → ((out : List ℕ) → Above up out → Walked up out anc (index + length gs) hs tail) → Walked up es anc index (gs ++ hs) tail
walk_then up es anc index gs hs tail (mid, am, w) next =
    let (out, ao, v) = next mid am in (
      out,
      ao,
      ap (λ (l : List Group). depth_first (es ++ (up ∷ anc)) index l) (append_assoc gs hs tail)
          ∙ w ∙ v
          ∙ ap (λ (k : ℕ). depth_first (out ++ (up ∷ anc)) k tail) (omega (arith, length-append gs hs)),
    )
