-- How many rows are adjacent to a row, and to the rows of a group.
use mathlib.Core.Path.{◌≡◌, refl, sym, ap}
use mathlib.Core.Logic.{◌⊎◌, inl, inr, ◌≢◌}
use mathlib.Core.Bool.{Bool, true, not, cond}
use mathlib.Core.List.{List, [], ◌∷◌, map}
use Prim.Native.Nat.{ℕ, ◌*◌, ◌≤◌, ◌<◌}
use native.Mathlib.Omega.{arith}
use lib.Dec.{eqb}
use borrow.Author.Tests.{eqb-true, eq-eqb, ne_eqb}
use Rattle.base.specs.Lists.{is_in, sum, sum_below, bit}
use Rattle.base.specs.Code.Counts.{count}
use Rattle.base.proofs.Booleans.{or_true, or_cases, same_or}
use Rattle.base.proofs.Counts.{in_count, count-filter}
use Rattle.base.proofs.Sums.{sum-below_more}
use Rattle.matrix.specs.Matrix.{Matrix, columns_of, neighbours, is_matrix}
use Rattle.matrix.proofs.Matrix.{MatrixFacts, matrix_facts, neighbour_column, column-low}
use Rattle.matrix.proofs.Entries.{count-once}
use Rattle.levels.specs.Code.Group.{Proper}
use Rattle.levels.specs.Levels.{degree}
use Rattle.levels.proofs.Members.{proper-short}

-- a row of a matrix is adjacent to fewer rows than there are
pub degree-below : (m : Matrix) → is_matrix m ≡ true → (v : ℕ) → v < m.n → degree (neighbours m) v < m.n
unfolding neighbours
degree-below m ok v l = proper-short {T = v ∷ neighbours m v} (record { once = once; inside = inside })
  where
    facts : MatrixFacts m
    facts = matrix_facts m ok

    once : (x : ℕ) → count x (v ∷ neighbours m v) ≤ 1
    once x = go (same_or x v) (count-once (columns_of m v) x (facts.row v l).ascends) (count-filter x (λ j. not (eqb j v)) (columns_of m v))
      where
        go : (x ≡ v) ⊎ (x ≢ v) → count x (columns_of m v) ≤ 1 → count x (neighbours m v) ≡ bit (not (eqb x v)) * count x (columns_of m v) → count x (v ∷ neighbours m v) ≤ 1
        go (inl e) a b = omega (arith, rw (eq-eqb x v e) at b, ap bit (eq-eqb x v e))
        go (inr d) a b = omega (arith, rw (ne_eqb x v d) at b, ap bit (ne_eqb x v d))

    inside : (x : ℕ) → is_in (v ∷ neighbours m v) x ≡ true → x < m.n
    inside x h = go (or_cases (eqb x v) (is_in (neighbours m v) x) h)
      where
        go : (eqb x v ≡ true) ⊎ (is_in (neighbours m v) x ≡ true) → x < m.n
        go (inl e) = let q : x ≡ v = eqb-true x v e in omega arith
        go (inr k) = column-low m ok v x (neighbour_column m v x k)

-- ---- a sum over the rows of a group

sum_same : (f g : ℕ → ℕ) (T : List ℕ) → ((v : ℕ) → is_in T v ≡ true → f v ≡ g v) → sum (map f T) ≡ sum (map g T)
sum_same f g [] h = refl
sum_same f g (x ∷ xs) h = omega (arith, h x (rw (eq-eqb x x refl) refl), sum_same f g xs (λ v k. h v (rw k (or_true (eqb v x)))))

-- is at most the sum over all rows
pub sum-proper : (f : ℕ → ℕ) (n : ℕ) (T : List ℕ) → Proper n T → sum (map f T) ≤ sum_below f n
sum-proper f n [] pr = omega arith
sum-proper f n (v ∷ T) pr =
    omega (
      arith,
      sum_same f rest T (λ x k. sym (ap (λ (b : Bool). cond b 0 (f x)) (ne_eqb x v (λ e. out x k e)))),
      sum-proper rest n T (record { once = λ x. omega (arith, pr.once x); inside = λ x k. pr.inside x (rw k (or_true (eqb x v))) }),
      sum-below_more rest f (f v) n v (pr.inside v (rw (eq-eqb v v refl) refl)) (rw (eq-eqb v v refl) (omega arith)) (λ x d. sym (ap (λ (b : Bool). cond b 0 (f x)) (ne_eqb x v d))),
    )
  where
    -- f without v
    rest : ℕ → ℕ
    rest x = cond (eqb x v) 0 (f x)

    out : (x : ℕ) → is_in T x ≡ true → x ≡ v → ⊥
    out x k e = omega (arith, pr.once x, in_count x T k, ap bit (eq-eqb x v e))
