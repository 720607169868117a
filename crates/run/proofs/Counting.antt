-- All workers' accesses together are two for each row and four for each adjacent pair.
use mathlib.Core.Path.{◌≡◌, refl, sym, ap, ◌∙◌}
use mathlib.Core.Bool.{Bool, true, false}
use mathlib.Core.List.{List, [], ◌∷◌}
use Prim.Native.Nat.{ℕ, zero, suc, ◌+◌, ◌*◌, ◌-◌, ◌<◌}
use native.Mathlib.Omega.{arith}
use lib.ListN.{length, get_or, length-append}
use Rattle.base.specs.Lists.{filter, keep, range, sum_below, bit}
use Rattle.base.proofs.Booleans.{clash}
use Rattle.base.proofs.Lists.{filter-append, range_snoc}
use Rattle.base.proofs.Sums.{sum-below-same, sum-below_more, sum-below-add, sum-below_twice, sum-below_ones}
use Rattle.matrix.specs.Matrix.{adjacent, adjacent_pairs, is_matrix}
use Rattle.matrix.proofs.Matrix.{alone, adjacent-both}
use Rattle.plan.proofs.Once.{Once}
use Rattle.run.specs.Job.{Job, row_at}
use Rattle.run.specs.Updates.{later, owner, up_to, updates, accesses}
use Rattle.run.specs.EveryRun.{whole_run}
use Rattle.run.proofs.RowUpdates.{row-length}
use Rattle.run.proofs.Work.{cum, cum_own, cum_other}
use Rattle.run.proofs.OrderSums.{sum-below-order}

-- ---- a table

-- the part below its diagonal
abbrev triangle : (ℕ → ℕ → ℕ) → ℕ → ℕ
triangle G n = sum_below (λ p. sum_below (G p) p) n

-- a table that is the same both ways, with nothing on its diagonal, is twice its triangle
square : (G : ℕ → ℕ → ℕ) (n : ℕ) → ((p q : ℕ) → G p q ≡ G q p) → ((p : ℕ) → G p p ≡ 0) → sum_below (λ p. sum_below (G p) n) n ≡ 2 * triangle G n
unfolding sum_below
square G zero s d = refl
square G (suc n) s d =
    omega (arith, sum-below-add (λ p. sum_below (G p) n) (λ p. G p n) n, square G n s d, sum-below-same (λ p. G p n) (G n) n (λ p l. s p n), d n)

-- the rows and columns of a table in another order
reorder : (J : ℕ → ℕ → ℕ) (n : ℕ) (xs : List ℕ) → Once n xs → sum_below (λ p. sum_below (λ q. J (get_or xs p 0) (get_or xs q 0)) n) n ≡ sum_below (λ i. sum_below (J i) n) n
reorder J n xs o =
    sum-below-same (λ p. sum_below (λ q. J (get_or xs p 0) (get_or xs q 0)) n) (λ p. sum_below (J (get_or xs p 0)) n) n (λ p l. sum-below-order (J (get_or xs p 0)) n xs o)
    ∙ sum-below-order (λ i. sum_below (J i) n) n xs o

-- ---- the updates of all workers

-- the workers' updates before position e are the rows'
by_rows : (j : Job) (W e : ℕ) → ((p : ℕ) → p < e → owner j p < W) → sum_below (λ w. cum j w e) W ≡ sum_below (λ p. 1 + 2 * length (later j p)) e
unfolding sum_below up_to
by_rows j W zero h = none W
  where
    none : (W : ℕ) → sum_below (λ w. cum j w 0) W ≡ 0
    none zero = refl
    none (suc W) = omega (arith, none W)
by_rows j W (suc e) h =
    sum-below_more (λ w. cum j w e) (λ w. cum j w (suc e)) (1 + 2 * length (later j e)) W (owner j e) (h e (omega arith))
    (cum_own j (owner j e) e refl ∙ ap (λ (k : ℕ). cum j (owner j e) e + k) (row-length j e))
    (λ v d. cum_other j v e (λ q. d (sym q)))
    ∙ ap (λ (k : ℕ). k + (1 + 2 * length (later j e))) (by_rows j W e (λ p l. h p (omega arith)))

module _ (j : Job) (ok : is_matrix j.matrix ≡ true) (o : Once j.matrix.n j.plan.order) where
  -- 1 for adjacent rows
  abbrev J : ℕ → ℕ → ℕ
  J i k = bit (adjacent j.matrix i k)

  J_same : (i k : ℕ) → J i k ≡ J k i
  unfolding adjacent
  J_same i k = go (adjacent j.matrix i k) refl (adjacent j.matrix k i) refl
    where
      go : (x : Bool) → adjacent j.matrix i k ≡ x → (y : Bool) → adjacent j.matrix k i ≡ y → bit x ≡ bit y
      go true e true f = refl
      go true e false f = absurd (clash (adjacent-both j.matrix ok i k e) f)
      go false e true f = absurd (clash (adjacent-both j.matrix ok k i f) e)
      go false e false f = refl

  J_none : (i : ℕ) → J i i ≡ 0
  unfolding adjacent
  J_none i = rw (alone j.matrix i) refl

  -- .. at two positions
  abbrev G : ℕ → ℕ → ℕ
  G p q = J (row_at j p) (row_at j q)

  -- how many rows before position e are later than p and adjacent to it
  later_to : ℕ → ℕ → ℕ
  later_to p e = length (filter (λ q. adjacent j.matrix (row_at j p) (row_at j q)) (range (suc p) (e - suc p)))

  later_more : (p e : ℕ) → p < e → later_to p (suc e) ≡ later_to p e + G p e
  unfolding later_to
  later_more p e l =
      let P : ℕ → Bool = λ q. adjacent j.matrix (row_at j p) (row_at j q) in
      let m : ℕ = e - suc p in
      let x : suc e - suc p ≡ suc m = omega arith in
      let y : suc p + m ≡ e = omega arith in
      ap (λ (k : ℕ). length (filter P (range (suc p) k))) x ∙ ap (λ (r : List ℕ). length (filter P r)) (range_snoc (suc p) m)
      ∙ ap length (filter-append P (range (suc p) m) ((suc p + m) ∷ [])) ∙ length-append (filter P (range (suc p) m)) (filter P ((suc p + m) ∷ []))
      ∙ ap (λ (k : ℕ). length (filter P (range (suc p) m)) + k) (last P (suc p + m) ∙ ap (λ (q : ℕ). bit (P q)) y)
    where
      last : (P : ℕ → Bool) (q : ℕ) → length (filter P (q ∷ [])) ≡ bit (P q)
      last P q = go (P q)
        where
          go : (b : Bool) → length (keep b q []) ≡ bit b
          go true = refl
          go false = refl

  later-none : (e : ℕ) → later_to e (suc e) ≡ 0
  unfolding later_to
  later-none e = (let x : suc e - suc e ≡ 0 = omega arith in ap (λ (k : ℕ). length (filter (λ q. adjacent j.matrix (row_at j e) (row_at j q)) (range (suc e) k))) x)

  -- each adjacent pair is counted at its earlier position
  by_position : (e : ℕ) → sum_below (λ p. later_to p e) e ≡ triangle G e
  unfolding sum_below
  by_position zero = refl
  by_position (suc e) =
      omega (
        arith,
        later-none e,
        sum-below-same (λ p. later_to p (suc e)) (λ p. later_to p e + G p e) e (λ p k. later_more p e k),
        sum-below-add (λ p. later_to p e) (λ p. G p e) e,
        by_position e,
        sum-below-same (λ p. G p e) (G e) e (λ p k. J_same (row_at j p) (row_at j e)),
      )

  all-pairs : sum_below (λ p. length (later j p)) j.matrix.n ≡ adjacent_pairs j.matrix
  unfolding adjacent_pairs later later_to row_at
  all-pairs =
      omega (
        arith,
        by_position j.matrix.n,
        square G j.matrix.n (λ p q. J_same (row_at j p) (row_at j q)) (λ p. J_none (row_at j p)),
        square J j.matrix.n J_same J_none,
        reorder J j.matrix.n j.plan.order o,
      )

  -- the accesses of all workers
  pub all-accesses : (W : ℕ) → ((p : ℕ) → p < j.matrix.n → owner j p < W) → sum_below (accesses j) W ≡ whole_run j
  unfolding accesses updates whole_run
  all-accesses W h =
      omega (
        arith,
        sum-below-same (accesses j) (λ w. 2 * cum j w j.matrix.n) W (λ w l. refl),
        sum-below_twice (λ w. cum j w j.matrix.n) W,
        by_rows j W j.matrix.n h,
        sum-below_ones (λ p. length (later j p)) j.matrix.n,
        all-pairs,
      )
