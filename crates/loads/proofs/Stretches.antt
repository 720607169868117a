-- Laws of levels that stand one after the other in a stretch of the order.
use mathlib.Core.Path.{◌≡◌, refl, sym, ap, ◌∙◌}
use mathlib.Core.List.{List, [], ◌∷◌, ◌++◌}
use Prim.Native.Nat.{ℕ, zero, suc, ◌+◌, ◌-◌, ◌≤◌, ◌<◌}
use native.Mathlib.Omega.{arith}
use lib.ListN.{length, take, drop, get_or, take-append-drop, length-append}
use lib.Seq.{take_at, drop_at, take-suc, drop-cons, ext_get_or}
use Rattle.base.specs.Lists.{concat}
use Rattle.base.proofs.Lists.{concat-append}
use Rattle.loads.specs.Code.Stretches.{levels_in, ends_of, Levelled}

-- how many rows the first k levels have
abbrev pub rows_in : (k : ℕ) → List (List ℕ) → ℕ
rows_in k ls = length (concat (take k ls))

pub length-ends : (done : ℕ) (ls : List (List ℕ)) → length (ends_of done ls) ≡ length ls
unfolding ends_of
length-ends done [] = refl
length-ends done (l ∷ ls) = ap suc (length-ends (done + length l) ls)

-- where level j ends
pub ends_at : (done : ℕ) (ls : List (List ℕ)) (j : ℕ) → j < length ls → get_or (ends_of done ls) j 0 ≡ done + rows_in (suc j) ls
unfolding ends_of
ends_at done [] j lt = absurd (omega arith)
ends_at done (l ∷ ls) zero lt = omega (arith, length-append l [])
ends_at done (l ∷ ls) (suc j) lt = omega (arith, ends_at (done + length l) ls j (omega arith), length-append l (concat (take (suc j) ls)))

-- the ends of the levels past k
pub ends-drop : (done k : ℕ) (ls : List (List ℕ)) → drop k (ends_of done ls) ≡ ends_of (done + rows_in k ls) (drop k ls)
unfolding ends_of
ends-drop done zero ls = let e : done + 0 ≡ done = omega arith in rw e
ends-drop done (suc k) [] = refl
ends-drop done (suc k) (l ∷ ls) =
    let e : done + length l + rows_in k ls ≡ done + length (l ++ concat (take k ls)) = omega (arith, length-append l (concat (take k ls))) in
    ends-drop (done + length l) k ls ∙ ap (λ (x : ℕ). ends_of x (drop k ls)) e

-- levels that end where ends says
pub ends_are : (ls : List (List ℕ)) (ends : List ℕ) → length ends ≡ length ls → ((j : ℕ) → j < length ls → get_or ends j 0 ≡ rows_in (suc j) ls) → ends ≡ ends_of 0 ls
ends_are ls ends long h =
    ext_get_or 0 ends (ends_of 0 ls) (long ∙ sym (length-ends 0 ls)) (λ j lt. h j (omega arith) ∙ sym (ends_at 0 ls j (omega arith) ∙ omega arith))

-- levels are found again in their rows
levels-back : (done : ℕ) (ls : List (List ℕ)) → levels_in done (ends_of done ls) (concat ls) ≡ ls
unfolding levels_in ends_of
levels-back done [] = refl
levels-back done (l ∷ ls) =
    let e : done + length l - done ≡ length l = omega arith in
    rw (e, take_at l (concat ls) (length l) refl, drop_at l (concat ls) (length l) refl, levels-back (done + length l) ls)

-- a stretch that is some levels holds these and no others
pub levels-in : {done : ℕ} {ends stretch : List ℕ} {ls : List (List ℕ)} → Levelled done ends stretch ls → levels_in done ends stretch ≡ ls
levels-in {done} {ends} {stretch} {ls} h = rw (h.ends_are, h.rows_are) (levels-back done ls)

module _ (ls : List (List ℕ)) (k : ℕ) where
  -- the first k levels, and the others
  pub rows_split : concat ls ≡ concat (take k ls) ++ concat (drop k ls)
  rows_split = ap concat (sym (take-append-drop k ls)) ∙ concat-append (take k ls) (drop k ls)

  pub rows-after : drop (rows_in k ls) (concat ls) ≡ concat (drop k ls)
  rows-after = rw rows_split (drop_at (concat (take k ls)) (concat (drop k ls)) (rows_in k ls) refl)

  pub rows-le : rows_in k ls ≤ length (concat ls)
  rows-le = omega (arith, ap length rows_split, length-append (concat (take k ls)) (concat (drop k ls)))

-- the rows of one level more
pub rows_next : (ls : List (List ℕ)) (k : ℕ) → k < length ls → rows_in (suc k) ls ≡ rows_in k ls + length (get_or ls k [])
rows_next ls k lt =
    ap (λ (x : List (List ℕ)). length (concat x)) (take-suc ls k [] lt)
    ∙ ap length (concat-append (take k ls) (get_or ls k [] ∷ []))
    ∙ length-append (concat (take k ls)) (get_or ls k [] ++ [])
    ∙ omega (arith, length-append (get_or ls k []) [])

-- one level's rows in the stretch
pub level_at : (ls : List (List ℕ)) (k : ℕ) → k < length ls → take (rows_in (suc k) ls - rows_in k ls) (drop (rows_in k ls) (concat ls)) ≡ get_or ls k []
level_at ls k lt =
    let size : rows_in (suc k) ls - rows_in k ls ≡ length (get_or ls k []) = omega (arith, rows_next ls k lt) in
    rw (size, rows-after ls k, drop-cons ls k [] lt) (take_at (get_or ls k []) (concat (drop (suc k) ls)) (length (get_or ls k [])) refl)
