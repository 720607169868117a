-- The amount of a row from its stored values, the signs, and the room for a shift.
use mathlib.Core.Path.{◌≡◌, refl, sym, ap, ◌∙◌}
use mathlib.Core.Logic.{◌≢◌}
use mathlib.Core.Bool.{Bool, true, false, cond}
use mathlib.Core.List.{List, [], ◌∷◌}
use Prim.Native.Nat.{ℕ, zero, suc, ◌+◌, ◌-◌, ◌^◌, ◌≤◌, ◌<◌}
use native.Mathlib.Omega.{arith}
use lib.Dec.{eqb, leb}
use lib.IntN.{ℤ, pos, negsuc, neg_ℤ, nat_abs, ◌-ℤ◌, +ℤ_idl}
use lib.ListN.{length, get_or}
use lib.Signed.{lt_z}
use borrow.Author.Tests.{ltb-true, ltb-false, le-ltb, leb-true, le-leb, eqb-true, eq-eqb, ne_eqb}
use Rattle.base.specs.Lists.{all, is_in, sum_below, bit}
use Rattle.base.specs.Integers.{within}
use Rattle.base.proofs.Booleans.{or_true, both_ways}
use Rattle.base.proofs.Integers.{never}
use Rattle.base.proofs.Left.{all_same}
use Rattle.base.proofs.Sums.{sum-below-zero, sum-below-first, sum-below_more, sum-below-up}
use Rattle.matrix.specs.Limits.{max_displacement}
use Rattle.matrix.specs.Matrix.{Matrix, columns_of, values_of, lookup, entry, ascending, is_matrix}
use Rattle.matrix.specs.Code.Checks.{place_in}
use Rattle.matrix.proofs.Matrix.{lookup-none, matrix_facts, column-low}
use Rattle.matrix.proofs.Ascending.{ascending_tail, first-once, is_in-place, is_in-get, place-missing, place_more, lookup-get}
use Rattle.matrix.proofs.Checks.{matrix_tidy}
use Rattle.matrix.proofs.Symmetry.{row_lengths}
use Rattle.survey.specs.Survey.{max_error, has_room, with_sign}
use Rattle.survey.specs.Code.Rows.{sizes_to, Passed}
use Rattle.survey.proofs.SurveyError.{row_bound}

-- ---- the sum of sizes

-- each stored column is met once
stored_sizes : (cs : List ℕ) (vs : List ℤ) (n : ℕ) → ascending cs ≡ true → length cs ≡ length vs → ((j : ℕ) → is_in cs j ≡ true → j < n)
    → sum_below (λ k. nat_abs (get_or vs k (pos 0))) (length vs) ≡ sum_below (λ j. nat_abs (lookup j cs vs)) n
unfolding lookup
stored_sizes [] [] n h e b = sum-below-zero 0 ∙ sym (sum-below-zero n)
stored_sizes [] (v ∷ vs) n h e b = absurd (omega arith)
stored_sizes (c ∷ cs) [] n h e b = absurd (omega arith)
stored_sizes (c ∷ cs) (v ∷ vs) n h e b =
    let more = sum-below_more (λ j. nat_abs (lookup j cs vs)) (λ j. nat_abs (lookup j (c ∷ cs) (v ∷ vs))) (nat_abs v) n c (b c (rw (eq-eqb c c refl))) here other in
    omega (arith, sum-below-first (λ k. nat_abs (get_or (v ∷ vs) k (pos 0))) (length vs), more, stored_sizes cs vs n (ascending_tail c cs h) (omega arith) (λ j m. b j (rw m (or_true (eqb j c)))))
  where
    here : nat_abs (cond (eqb c c) v (lookup c cs vs)) ≡ nat_abs (lookup c cs vs) + nat_abs v
    here = rw (eq-eqb c c refl, lookup-none c cs vs (first-once c cs h)) (omega arith)

    other : (j : ℕ) → j ≢ c → nat_abs (cond (eqb j c) v (lookup j cs vs)) ≡ nat_abs (lookup j cs vs)
    other j d = rw (ne_eqb j c d)

-- one value more, and a sum on the way
pub sizes_next : (vs : List ℤ) (k : ℕ) → sizes_to vs (suc k) ≡ sizes_to vs k + nat_abs (get_or vs k (pos 0))
unfolding sizes_to sum_below
sizes_next vs k = refl

pub sizes_none : (vs : List ℤ) → sizes_to vs 0 ≡ 0
unfolding sizes_to sum_below
sizes_none vs = refl

pub sizes_up : (vs : List ℤ) (k : ℕ) → k ≤ length vs → sizes_to vs k ≤ sizes_to vs (length vs)
unfolding sizes_to
sizes_up vs k l = sum-below-up (λ i. nat_abs (get_or vs i (pos 0))) k (length vs) l

-- ---- a matrix's row

module _ (m : Matrix) (ok : is_matrix m ≡ true) (i : ℕ) (l : i < m.n) {vs : List ℤ} (f : vs ≡ values_of m i) where
  pub row_sizes : sizes_to vs (length vs) ≡ sum_below (λ j. nat_abs (entry m i j)) m.n
  unfolding sizes_to entry
  row_sizes =
      rw f (stored_sizes (columns_of m i) (values_of m i) m.n ((matrix_facts m ok).row i l).ascends (row_lengths m (matrix_tidy m ok).shape i l refl refl) (column-low m ok i))

  pub row_fits : sizes_to vs (length vs) < 2 ^ 63
  row_fits = omega (arith, row_sizes, row_bound m ok i)

-- ---- signs

pub sign_up : (t : ℕ) (v : ℤ) → lt_z (pos 0) v ≡ true → pos t ≡ with_sign t v
unfolding with_sign
sign_up t (pos zero) h = absurd (omega (arith, ltb-true 0 0 h))
sign_up t (pos (suc k)) h = refl
sign_up t (negsuc k) h = never h

pub sign_down : (t : ℕ) (v : ℤ) → lt_z v (pos 0) ≡ true → pos 0 -ℤ pos t ≡ with_sign t v
unfolding with_sign
sign_down t (pos k) h = absurd (omega (arith, ltb-true k 0 h))
sign_down t (negsuc k) h = +ℤ_idl (neg_ℤ (pos t))

pub sign_none : (t : ℕ) (v : ℤ) → lt_z (pos 0) v ≡ false → lt_z v (pos 0) ≡ false → pos 0 ≡ with_sign t v
unfolding with_sign
sign_none t (pos zero) h k = refl
sign_none t (pos (suc n)) h k = absurd (omega (arith, ltb-false 0 (suc n) h))
sign_none t (negsuc n) h k = never (sym k)

-- ---- columns passed

place-first : (cs : List ℕ) → place_in cs 0 ≡ 0
unfolding place_in
place-first [] = refl
place-first (c ∷ cs) = rw (le-ltb c 0 (omega arith)) (place-first cs)

pub passed_none : (cs : List ℕ) → ascending cs ≡ true → Passed cs 0 0
passed_none cs h = record { ascends = h; passed = sym (place-first cs); low = omega arith }

module _ {cs : List ℕ} {k j : ℕ} (p : Passed cs k j) where
  -- whether column j is there is seen at place k
  pub stands_none : length cs ≤ k → false ≡ is_in cs j
  stands_none l = sym (place-missing cs j k p.ascends p.passed (λ h. absurd (omega arith)))

  pub stands_at : k < length cs → eqb (get_or cs k 0) j ≡ is_in cs j
  stands_at l =
      both_ways (eqb (get_or cs k 0) j) (is_in cs j)
      (λ e. ap (is_in cs) (sym (eqb-true (get_or cs k 0) j e)) ∙ is_in-get cs k l)
      (λ m. eq-eqb (get_or cs k 0) j (ap (λ (q : ℕ). get_or cs q 0) p.passed ∙ (is_in-place cs j p.ascends m).1))

  -- where it is, so is its value
  pub place_low : is_in cs j ≡ true → k < length cs
  place_low m = rw p.passed (is_in-place cs j p.ascends m).0

  pub value-here : (vs : List ℤ) → is_in cs j ≡ true → get_or vs k (pos 0) ≡ lookup j cs vs
  value-here vs m =
      let at = is_in-place cs j p.ascends m in
      ap (λ (q : ℕ). get_or vs q (pos 0)) p.passed ∙ sym (lookup-get cs vs (place_in cs j) p.ascends at.0) ∙ ap (λ (c : ℕ). lookup c cs vs) at.1

  -- the column after it
  passed-next : (b : Bool) → is_in cs j ≡ b → Passed cs (k + bit b) (j + 1)
  passed-next b e = record { ascends = p.ascends; passed = sym (place_more cs j p.ascends ∙ rw (e, ← p.passed)); low = go b }
    where
      go : (b : Bool) → k + bit b ≤ j + 1
      go true = omega (arith, p.low)
      go false = omega (arith, p.low)

  pub passed-one : is_in cs j ≡ true → Passed cs (k + 1) (j + 1)
  passed-one e = passed-next true e

  pub passed-same : is_in cs j ≡ false → Passed cs k (j + 1)
  passed-same e = let z : k + 0 ≡ k = omega arith in rw z at (passed-next false e)

-- ---- room for a shift

pub room-is : (t : ℕ) (x : List ℤ) → t ≤ max_error → has_room t x ≡ all (within (max_displacement - t)) x
unfolding has_room within
room-is t x h = all_same (λ z. leb (nat_abs z + t) max_displacement) (λ z. leb (nat_abs z) (max_displacement - t)) x same
  where
    same : (z : ℤ) → leb (nat_abs z + t) max_displacement ≡ leb (nat_abs z) (max_displacement - t)
    same z =
        both_ways (leb (nat_abs z + t) max_displacement) (leb (nat_abs z) (max_displacement - t))
        (λ e. le-leb (nat_abs z) (max_displacement - t) (omega (arith, leb-true (nat_abs z + t) max_displacement e)))
        (λ e. le-leb (nat_abs z + t) max_displacement (omega (arith, leb-true (nat_abs z) (max_displacement - t) e)))
