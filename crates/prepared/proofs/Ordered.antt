-- Two accesses to one sum are ordered by the gates: counts at which both workers come to them, and all others are done,
-- make one of the two wait, and it can only wait for the other.
use mathlib.Core.Path.{◌≡◌, refl, sym, ap, ◌∙◌, subst}
use mathlib.Core.Logic.{◌⊎◌, inl, inr, ◌≢◌}
use mathlib.Core.Bool.{Bool, true, false, cond}
use mathlib.Core.List.{List, map}
use Prim.Native.Nat.{ℕ, zero, suc, ◌/◌, ◌≤◌, ◌<◌}
use native.Mathlib.Omega.{arith}
use lib.Dec.{eqb, ltb}
use lib.ListN.{get_or}
use borrow.Author.Tests.{ltb-true, ltb-false, eq-eqb, ne_eqb}
use Rattle.base.specs.Lists.{range}
use Rattle.base.proofs.Booleans.{or_cases, or_left_false, or_right_false, same_or}
use Rattle.base.proofs.Lists.{map-range-zero}
use Rattle.plan.specs.Sound.{max_workers}
use Rattle.run.specs.Job.{Job, Accepted, workers}
use Rattle.run.specs.Updates.{count, updates, accesses, no_update, next, waits}
use Rattle.run.proofs.Able.{Able}
use Rattle.run.proofs.Accepted.{tree_of, facts}
use Rattle.run.proofs.Owners.{owned}
use Rattle.run.proofs.Progress.{someone}
use Rattle.run.proofs.Work.{locate}
use Rattle.prepared.specs.Gates.{gate, behind}
use Rattle.prepared.specs.RaceFree.{accessed, Before, Ordered}
use Rattle.prepared.proofs.Gates.{gate-waits}

-- ---- who is behind

module _ (made : List ℕ) (need : ℕ → ℕ) where
  -- somebody is
  pub behind_who : (k : ℕ) → behind made need k ≡ true → (u : ℕ) × (u < k) × (count made u < need u)
  unfolding behind
  behind_who zero h = absurd (let z : ◌≡◌ {A = ℕ} 0 1 = cc in omega arith)
  behind_who (suc k) h = go (or_cases (ltb (count made k) (need k)) (behind made need k) h) (behind_who k)
    where
      go : (ltb (count made k) (need k) ≡ true) ⊎ (behind made need k ≡ true) → (behind made need k ≡ true → (u : ℕ) × (u < k) × (count made u < need u)) → (u : ℕ) × (u < suc k) × (count made u < need u)
      go (inl e) ih = (k, omega arith, ltb-true (count made k) (need k) e)
      go (inr e) ih = let (u, l, b) = ih e in (u, omega arith, b)

  -- nobody is
  pub behind_nobody : (k : ℕ) → behind made need k ≡ false → (u : ℕ) → u < k → need u ≤ count made u
  unfolding behind
  behind_nobody zero h u l = absurd (omega arith)
  behind_nobody (suc k) h u l = go (same_or u k) (behind_nobody k (or_right_false (ltb (count made k) (need k)) (behind made need k) h) u)
    where
      go : (u ≡ k) ⊎ (u ≢ k) → (u < k → need u ≤ count made u) → need u ≤ count made u
      go (inl e) ih = subst (λ (y : ℕ). need y ≤ count made y) (sym e) (ltb-false (count made k) (need k) (or_left_false (ltb (count made k) (need k)) (behind made need k) h))
      go (inr d) ih = ih (omega arith)

module _ (j : Job) (ok : Accepted j) where
  -- who has an access is a worker of the plan
  pub in-plan : (v k : ℕ) → k < accesses j v → v < workers j
  unfolding accesses updates
  in-plan v k l =
      let a = locate j v j.matrix.n (k / 2) (omega arith) in
      omega (arith, owned j (tree_of j ok) a.row a.below, a.mine)

  in_state : (v k : ℕ) → k < accesses j v → v < max_workers
  in_state v k l = omega (arith, in-plan v k l, (facts j ok).few)

  -- ---- counts: v has made k accesses, w has made l, and the others all of theirs

  module _ (v k w l : ℕ) where
    abbrev count_of : ℕ → ℕ
    count_of u = cond (eqb u v) k (cond (eqb u w) l (accesses j u))

    abbrev counts : List ℕ
    counts = map count_of (range 0 max_workers)

    of-first : v < max_workers → count counts v ≡ k
    of-first m = map-range-zero count_of max_workers v 0 m ∙ rw (eq-eqb v v refl) refl

    of-second : w < max_workers → w ≢ v → count counts w ≡ l
    of-second m d = map-range-zero count_of max_workers w 0 m ∙ rw (ne_eqb w v d, eq-eqb w w refl) refl

    of_other : (u : ℕ) → u < max_workers → u ≢ v → u ≢ w → count counts u ≡ accesses j u
    of_other u m d e = map-range-zero count_of max_workers u 0 m ∙ rw (ne_eqb u v d, ne_eqb u w e) refl

  -- the row that a worker comes to after k accesses
  pub row-at : (made : List ℕ) (v k : ℕ) → count made v ≡ k → (next j made v).row ≡ (accessed j v k).row
  unfolding next
  row-at made v k e = ap (λ (c : ℕ). (get_or (updates j v) (c / 2) no_update).row) e

  target_at : (made : List ℕ) (v k : ℕ) → count made v ≡ k → (next j made v).target ≡ (accessed j v k).target
  unfolding next
  target_at made v k e = ap (λ (c : ℕ). (get_or (updates j v) (c / 2) no_update).target) e

  -- who does not wait has an open gate
  pub open_gate : (made : List ℕ) (v k : ℕ) → count made v ≡ k → waits j made v ≡ false → (u : ℕ) → u < max_workers → gate j (accessed j v k).row u ≤ count made u
  open_gate made v k e h =
      subst (λ (q : ℕ). (u : ℕ) → u < max_workers → gate j q u ≤ count made u) (row-at made v k e)
      (behind_nobody made (gate j (next j made v).row) max_workers (sym (gate-waits j ok made v) ∙ h))

  -- who waits has somebody behind its gate
  shut_gate : (made : List ℕ) (v k : ℕ) → count made v ≡ k → waits j made v ≡ true → (u : ℕ) × (u < max_workers) × (count made u < gate j (accessed j v k).row u)
  shut_gate made v k e h =
      subst (λ (q : ℕ). (u : ℕ) × (u < max_workers) × (count made u < gate j q u)) (row-at made v k e)
      (behind_who made (gate j (next j made v).row) max_workers (sym (gate-waits j ok made v) ∙ h))

  -- a worker that alone is left does not wait
  module _ (v k : ℕ) (l : k < accesses j v) where
    abbrev alone : List ℕ
    alone = counts v k v k

    alone_open : (u : ℕ) → u < max_workers → gate j (accessed j v k).row u ≤ count alone u
    alone_open = go (someone j alone (tree_of j ok) v (omega (arith, at))) (λ w. same_or w v)
      where
        at : count alone v ≡ k
        at = of-first v k v k (in_state v k l)

        go : (w : ℕ) × Able j alone w → ((w : ℕ) → (w ≡ v) ⊎ (w ≢ v)) → (u : ℕ) → u < max_workers → gate j (accessed j v k).row u ≤ count alone u
        go (w, a) which = by (which w)
          where
            by : (w ≡ v) ⊎ (w ≢ v) → (u : ℕ) → u < max_workers → gate j (accessed j v k).row u ≤ count alone u
            by (inl e) = open_gate alone v k at (subst (λ (y : ℕ). waits j alone y ≡ false) e a.going)
            by (inr d) = absurd (omega (arith, a.left, of_other v k v k w (omega (arith, a.in_plan, (facts j ok).few)) d d))

    -- so its gate asks of itself only what it has made
    own-gate : gate j (accessed j v k).row v ≤ k
    own-gate = omega (arith, alone_open v (in_state v k l), of-first v k v k (in_state v k l))

    -- .. and of the others only what they make
    other-gate : (u : ℕ) → u < max_workers → u ≢ v → gate j (accessed j v k).row u ≤ accesses j u
    other-gate u m d = omega (arith, alone_open u m, of_other v k v k u m d d)

  -- ---- two accesses

  -- where v has made k, w has made l and the others are done, v waits for w alone
  waits_for : (made : List ℕ) (v w k l : ℕ) → k < accesses j v → count made v ≡ k → count made w ≡ l → ((u : ℕ) → u < max_workers → u ≢ v → u ≢ w → count made u ≡ accesses j u)
      → waits j made v ≡ true → Before j w l v k
  waits_for made v w k l m a b c h = go (shut_gate made v k a h)
    where
      go : (u : ℕ) × (u < max_workers) × (count made u < gate j (accessed j v k).row u) → Before j w l v k
      go (u, n, s) = by (same_or u v) (same_or u w)
        where
          by : (u ≡ v) ⊎ (u ≢ v) → (u ≡ w) ⊎ (u ≢ w) → Before j w l v k
          by (inl e) z = absurd (omega (arith, subst (λ (y : ℕ). count made y < gate j (accessed j v k).row y) e s, a, own-gate v k m))
          by (inr d) (inl e) = omega (arith, subst (λ (y : ℕ). count made y < gate j (accessed j v k).row y) e s, b)
          by (inr d) (inr f) = absurd (omega (arith, s, c u n d f, other-gate v k m u n d))

  module _ (v w k l : ℕ) (d : v ≢ w) (m : k < accesses j v) (n : l < accesses j w) where
    abbrev both : List ℕ
    both = counts v k w l

    at_v : count both v ≡ k
    at_v = of-first v k w l (in_state v k m)

    at_w : count both w ≡ l
    at_w = of-second v k w l (in_state w l n) (λ e. d (sym e))

    at_others : (u : ℕ) → u < max_workers → u ≢ v → u ≢ w → count both u ≡ accesses j u
    at_others = of_other v k w l

    ordered : (accessed j v k).target ≡ (accessed j w l).target → Before j v k w l ⊎ Before j w l v k
    ordered e = go (waits j both v) refl (waits j both w) refl
      where
        go : (a : Bool) → waits j both v ≡ a → (b : Bool) → waits j both w ≡ b → Before j v k w l ⊎ Before j w l v k
        go true x b y = inr (waits_for both v w k l m at_v at_w at_others x)
        go false x true y = inl (waits_for both w v l k n at_w at_v (λ u p f g. at_others u p g f) y)
        go false x false y =
            absurd ((facts j ok).exclusion both v w d (omega (arith, at_v)) (omega (arith, at_w)) x y (target_at both v k at_v ∙ e ∙ sym (target_at both w l at_w)))

    -- one of the two workers does not wait
    not-both : Before j v k w l → Before j w l v k → ⊥
    not-both a b = go (someone j both (tree_of j ok) v (omega (arith, at_v)))
      where
        go : (x : ℕ) × Able j both x → ⊥
        go (x, t) = by (same_or x v) (same_or x w)
          where
            by : (x ≡ v) ⊎ (x ≢ v) → (x ≡ w) ⊎ (x ≢ w) → ⊥
            by (inl e) z = omega (arith, open_gate both v k at_v (subst (λ (y : ℕ). waits j both y ≡ false) e t.going) w (in_state w l n), at_w, b)
            by (inr f) (inl e) = omega (arith, open_gate both w l at_w (subst (λ (y : ℕ). waits j both y ≡ false) e t.going) v (in_state v k m), at_v, a)
            by (inr f) (inr g) = omega (arith, t.left, at_others x (omega (arith, t.in_plan, (facts j ok).few)) f g)

  one_way : (v w k l : ℕ) → k < accesses j v → l < accesses j w → Before j v k w l → Before j w l v k → ⊥
  one_way v w k l m n a b = go (same_or v w)
    where
      go : (v ≡ w) ⊎ (v ≢ w) → ⊥
      go (inl e) =
          let n' : l < accesses j v = subst (λ (y : ℕ). l < accesses j y) (sym e) n in
          let a' : Before j v k v l = subst (λ (y : ℕ). Before j v k y l) (sym e) a in
          let b' : Before j v l v k = subst (λ (y : ℕ). Before j y l v k) (sym e) b in
          omega (arith, own-gate v l n', own-gate v k m)
      go (inr d) = not-both v w k l d m n a b

  pub order-of : Ordered j
  order-of = record {
    gates = gate-waits j ok;
    conflicts = λ v w k l d m n. ordered v w k l d m n;
    one_way = one_way;
    own = λ w k l n b. omega (arith, own-gate w l n);
  }
