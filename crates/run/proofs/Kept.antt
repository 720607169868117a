-- A load keeps the invariant; a store keeps it too, and the sum that it puts has 64 bits.
use mathlib.Core.Path.{◌≡◌, refl, sym, ap, ◌∙◌, subst}
use mathlib.Core.Logic.{◌⊎◌, inl, inr, ◌≢◌}
use mathlib.Core.Bool.{Bool, true, false, cond}
use mathlib.Core.List.{List}
use Prim.Native.Nat.{ℕ, suc, ◌/◌, ◌%◌, ◌≤◌, ◌<◌}
use native.Mathlib.Omega.{arith}
use lib.ListN.{length, get_or, set, take, length-set}
use lib.Seq.{get_or-set_same, get_or-set_other}
use lib.IntN.{ℤ, pos, ◌+ℤ◌, +ℤ_idr}
use borrow.Author.Tests.{eq-eqb, ne_eqb}
use Rattle.base.specs.Integers.{sumℤ, fits64}
use Rattle.base.proofs.Booleans.{same_or}
use Rattle.base.proofs.Sums.{sum_same, sum_more}
use Rattle.plan.specs.Sound.{max_workers}
use Rattle.run.specs.Job.{Job, workers}
use Rattle.run.specs.Updates.{Update, count, updates, accesses, next, waits}
use Rattle.run.specs.Machine.{onward, load, total, store}
use Rattle.run.specs.State.{State}
use Rattle.run.proofs.Amounts.{landed, share, landed_next}
use Rattle.run.proofs.Facts.{Facts}
use Rattle.run.proofs.Invariant.{so_far, Inv}
use Rattle.run.proofs.Able.{Able}
use Rattle.run.proofs.Onward.{onward-length, onward-other, onward_at, onward_grows}

module _ (j : Job) (F : Facts j) (s : State) (I : Inv j s) (w : ℕ) (able : Able j s.made w) where
  abbrev m : ℕ
  m = count s.made w

  abbrev new : List ℕ
  new = onward s.made w

  counted : w < length s.made
  counted = omega (arith, F.few, I.made-length, able.in_plan)

  new_at : count new w ≡ suc m
  new_at = onward_at s.made w counted

  new_other : (v : ℕ) → v ≢ w → count new v ≡ count s.made v
  new_other = onward-other s.made w

  lengthed : length new ≡ max_workers
  lengthed = onward-length s.made w ∙ I.made-length

  -- counts stay within the accesses
  new_bounded : (v : ℕ) → count new v ≤ accesses j v
  new_bounded v = go (same_or v w)
    where
      go : (v ≡ w) ⊎ (v ≢ w) → count new v ≤ accesses j v
      go (inl e) = subst (λ (y : ℕ). count new y ≤ accesses j y) (sym e) (omega (arith, new_at, able.left))
      go (inr d) = omega (arith, new_other v d, I.bounded v)

  inside : (v : ℕ) → count s.made v % 2 ≡ 1 → count s.made v < accesses j v
  unfolding accesses
  inside v o = omega (arith, I.bounded v)

  next-same : (v : ℕ) → count s.made v / 2 ≡ count new v / 2 → next j new v ≡ next j s.made v
  unfolding next
  next-same v e = rw e refl

  -- a worker that is inside an update still does not wait
  still_free : (v : ℕ) → count s.made v / 2 ≡ count new v / 2 → waits j s.made v ≡ false → waits j new v ≡ false
  still_free v e h = F.lasting s.made new v (onward_grows s.made w counted) e h

  -- ---- the load
  module _ (even : m % 2 ≡ 0) where
    same_half : (v : ℕ) → count s.made v / 2 ≡ count new v / 2
    same_half v = go (same_or v w)
      where
        go : (v ≡ w) ⊎ (v ≢ w) → count s.made v / 2 ≡ count new v / 2
        go (inl e) = subst (λ (y : ℕ). count s.made y / 2 ≡ count new y / 2) (sym e) (omega (arith, new_at))
        go (inr d) = omega (arith, new_other v d)

    -- a load keeps the invariant
    pub inv_load : Inv j (load s w (next j s.made w))
    unfolding load onward
    inv_load = record {
      made-length = lengthed;
      held-length = length-set s.held w _ ∙ I.held-length;
      sums-length = I.sums-length;
      bounded = new_bounded;
      free = λ v o. still_free v (same_half v) (was_free v (same_or v w) o);
      holding = λ v l o. hold v l (same_or v w) o;
      right = λ t l. I.right t l ∙ sum_same (so_far j s.made t) (so_far j new t) (workers j) (λ v k. ap (λ (y : ℕ). landed t (take y (updates j v))) (same_half v));
    }
      where
        was_free : (v : ℕ) → (v ≡ w) ⊎ (v ≢ w) → count new v % 2 ≡ 1 → waits j s.made v ≡ false
        was_free v (inl e) o = subst (λ (y : ℕ). waits j s.made y ≡ false) (sym e) able.going
        was_free v (inr d) o = I.free v (omega (arith, new_other v d))

        hold : (v : ℕ) → v < workers j → (v ≡ w) ⊎ (v ≢ w) → count new v % 2 ≡ 1
            → get_or (set s.held w (get_or s.sums (next j s.made w).target (pos 0))) v (pos 0) ≡ get_or s.sums (next j new v).target (pos 0)
        hold v l (inl e) o =
            subst (λ (y : ℕ). get_or (set s.held w (get_or s.sums (next j s.made w).target (pos 0))) y (pos 0) ≡ get_or s.sums (next j new y).target (pos 0)) (sym e)
            (get_or-set_same s.held w _ (pos 0) (omega (arith, F.few, I.held-length, able.in_plan)) ∙ rw (next-same w (same_half w)) refl)
        hold v l (inr d) o =
            get_or-set_other s.held w v _ (pos 0) d ∙ I.holding v l (omega (arith, new_other v d)) ∙ rw (next-same v (same_half v)) refl

  -- ---- the store
  module _ (odd : m % 2 ≡ 1) where
    abbrev u : Update
    u = next j s.made w

    half_on : count new w / 2 ≡ suc (m / 2)
    half_on = omega (arith, new_at)

    in_list : m / 2 < length (updates j w)
    unfolding accesses
    in_list = omega (arith, able.left)

    -- the sum to store is the sum of the amounts after the store
    target-in : u.target < j.matrix.n
    unfolding next
    target-in = F.targets w (m / 2) in_list

    new_other_half : (v : ℕ) → v ≢ w → count s.made v / 2 ≡ count new v / 2
    new_other_half v d = omega (arith, new_other v d)

    mine : (t : ℕ) → so_far j new t w ≡ so_far j s.made t w +ℤ share (λ z. z) t u
    unfolding next
    mine t = ap (λ (y : ℕ). landed t (take y (updates j w))) half_on ∙ landed_next (λ z. z) t (updates j w) (m / 2) in_list

    added : (t : ℕ) → sumℤ (so_far j new t) (workers j) ≡ sumℤ (so_far j s.made t) (workers j) +ℤ share (λ z. z) t u
    added t = sum_more (so_far j s.made t) (so_far j new t) (share (λ z. z) t u) (workers j) w able.in_plan (mine t)
        (λ v d. ap (λ (y : ℕ). landed t (take y (updates j v))) (sym (new_other_half v d)))

    -- the sum to store is the sum of the amounts after the store
    pub stored : total s w u ≡ sumℤ (so_far j new u.target) (workers j)
    unfolding total
    stored = ap (λ (z : ℤ). z +ℤ u.amount) (I.holding w able.in_plan odd ∙ I.right u.target target-in)
        ∙ sym (added u.target ∙ ap (λ (b : Bool). sumℤ (so_far j s.made u.target) (workers j) +ℤ cond b u.amount (pos 0)) (eq-eqb u.target u.target refl))

    -- .. and has 64 bits
    pub store-fits : fits64 (total s w u) ≡ true
    store-fits = rw stored (F.fitting u.target (λ v. count new v / 2) target-in)

    -- a store keeps the invariant
    pub inv_store : Inv j (store s w u)
    unfolding store onward
    inv_store = record {
      made-length = lengthed;
      held-length = I.held-length;
      sums-length = length-set s.sums u.target _ ∙ I.sums-length;
      bounded = new_bounded;
      free = λ v o. free v (same_or v w) o;
      holding = λ v l o. hold v l (same_or v w) o;
      right = λ t l. right t l (same_or t u.target);
    }
      where
        now_even : (v : ℕ) → v ≡ w → count new v % 2 ≡ 1 → ⊥
        now_even v e o = let q : count new w % 2 ≡ 1 = subst (λ (y : ℕ). count new y % 2 ≡ 1) e o in omega (arith, new_at)

        free : (v : ℕ) → (v ≡ w) ⊎ (v ≢ w) → count new v % 2 ≡ 1 → waits j new v ≡ false
        free v (inl e) o = absurd (now_even v e o)
        free v (inr d) o = still_free v (new_other_half v d) (I.free v (omega (arith, new_other v d)))

        hold : (v : ℕ) → v < workers j → (v ≡ w) ⊎ (v ≢ w) → count new v % 2 ≡ 1
            → get_or s.held v (pos 0) ≡ get_or (set s.sums u.target (total s w u)) (next j new v).target (pos 0)
        hold v l (inl e) o = absurd (now_even v e o)
        hold v l (inr d) o =
            let p : count s.made v % 2 ≡ 1 = omega (arith, new_other v d) in
            let e = next-same v (new_other_half v d) in
            I.holding v l p ∙ sym (ap (λ (y : Update). get_or (set s.sums u.target (total s w u)) y.target (pos 0)) e
            ∙ get_or-set_other s.sums u.target (next j s.made v).target (total s w u) (pos 0)
            (F.exclusion s.made v w d (inside v p) able.left (I.free v p) able.going))

        right : (t : ℕ) → t < j.matrix.n → (t ≡ u.target) ⊎ (t ≢ u.target)
            → get_or (set s.sums u.target (total s w u)) t (pos 0) ≡ sumℤ (so_far j new t) (workers j)
        right t l (inl e) =
            subst (λ (y : ℕ). get_or (set s.sums u.target (total s w u)) y (pos 0) ≡ sumℤ (so_far j new y) (workers j)) (sym e)
            (get_or-set_same s.sums u.target (total s w u) (pos 0) (omega (arith, I.sums-length, target-in)) ∙ stored)
        right t l (inr d) =
            get_or-set_other s.sums u.target t (total s w u) (pos 0) d ∙ I.right t l
            ∙ sym (added t ∙ ap (λ (b : Bool). sumℤ (so_far j s.made t) (workers j) +ℤ cond b u.amount (pos 0)) (ne_eqb u.target t (λ q. d (sym q)))
            ∙ +ℤ_idr (sumℤ (so_far j s.made t) (workers j)))
