-- The path of the last record in an array, and one turn of the depth-first test.
use mathlib.Core.Path.{◌≡◌, refl, sym, ap}
use mathlib.Core.Logic.{◌≢◌}
use mathlib.Core.Bool.{◌&&◌}
use mathlib.Core.List.{List, ◌∷◌}
use Prim.Native.Nat.{ℕ, zero, suc, ◌+◌, ◌-◌, ◌≤◌, ◌<◌}
use native.Mathlib.Omega.{arith}
use native.Mathlib.Numerals.{add-one}
use lib.Dec.{eqb, leb}
use lib.ListN.{length, get_or, drop, set}
use lib.Seq.{get_or-set_same, get_or-set_other}
use borrow.Author.Tests.{eq-eqb, ne_eqb}
use Rattle.base.specs.Lists.{from_first}
use Rattle.plan.specs.Groups.{Group, records}
use Rattle.plan.specs.Sound.{max_depth, depth_first}
use Rattle.plan.specs.Code.Checks.{record_at}
use Rattle.shape.specs.Code.Shape.{path_of}
use Rattle.plan.proofs.FlatRecords.{records_at}

pub length_path : (path : List ℕ) (t : ℕ) → length (path_of path t) ≡ t
unfolding path_of
length_path path zero = refl
length_path path (suc t) = ap suc (length_path path t)

-- ---- the parent on the path

module _ (path : List ℕ) (up p : ℕ) (some : 0 < up) where
  first : path_of path up ≡ get_or path (up - 1) 0 ∷ path_of path (up - 1)
  unfolding path_of
  first = let e : up ≡ suc (up - 1) = omega arith in ap (path_of path) e

  pub up-found : get_or path (up - 1) 0 ≡ p → path_of path up ≡ from_first (eqb p) (path_of path up)
  up-found e = rw (first, eq-eqb p (get_or path (up - 1) 0) (sym e))

  pub up-past : get_or path (up - 1) 0 ≢ p → from_first (eqb p) (path_of path up) ≡ from_first (eqb p) (path_of path (up - 1))
  up-past d = rw (first, ne_eqb p (get_or path (up - 1) 0) (λ (e : p ≡ get_or path (up - 1) 0). d (sym e)))

-- ---- one record more on the path

path_set : (path : List ℕ) (t v k : ℕ) → k ≤ t → path_of (set path t v) k ≡ path_of path k
unfolding path_of
path_set path t v zero l = refl
path_set path t v (suc k) l = rw (get_or-set_other path t k v 0 (λ (e : k ≡ t). omega arith), path_set path t v k (omega arith))

pub path_push : (path : List ℕ) (t v : ℕ) → t < length path → path_of (set path t v) (t + 1) ≡ v ∷ path_of path t
unfolding path_of
path_push path t v l = rw (add-one t, get_or-set_same path t v 0 l, path_set path t v t (omega arith))

-- ---- a turn

-- the tests of record i, and what is left after it
pub depth-turn : (count i t up : ℕ) (g : Group) (ns path : List ℕ) → i < count → g ≡ record_at ns i → path_of path up ≡ from_first (eqb g.parent) (path_of path t)
    → depth_first (path_of path t) i (drop i (records count ns)) ≡ leb 1 up && leb up max_depth && eqb g.depth up && depth_first (i ∷ path_of path up) (i + 1) (drop (i + 1) (records count ns))
unfolding depth_first
depth-turn count i t up g ns path l e u = rw (records_at count i ns l, ← e, ← u, length_path path up, add-one i)
