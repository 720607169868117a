-- The model's tests of its counts, and the machine's of the same counts, where none is past its worker's accesses.
use mathlib.Core.Path.{◌≡◌, refl, sym, ap, ◌∙◌}
use mathlib.Core.Logic.{◌⊎◌, inl, inr, ◌≢◌}
use mathlib.Core.Bool.{Bool, true, false, cond}
use mathlib.Core.List.{List, [], ◌∷◌, ◌++◌, map}
use Prim.Native.Nat.{ℕ, zero, suc, ◌+◌, ◌^◌, ◌≤◌, ◌<◌}
use native.Mathlib.Omega.{arith}
use lib.ListN.{length}
use lib.Dec.{eqb, ltb, leb}
use borrow.Author.Tests.{ltb-true, eqb-true, eq-eqb, ne_eqb, le-leb, lt-leb}
use Rattle.base.specs.Lists.{filter, keep, all, sum, range}
use Rattle.base.specs.Refusals as why
use Rattle.base.proofs.Booleans.{same_or, same_test}
use Rattle.base.proofs.Lists.{range_snoc, filter-append, all-range, range_all}
use Rattle.run.specs.Job.{Job, workers}
use Rattle.run.specs.Updates.{count, accesses, waits}
use Rattle.run.specs.Machine.{reason, refusal, ready_below, ready, bits, over}
use Rattle.run.specs.Model.{ending, able, is_finished}
use Rattle.run.proofs.Finished.{over-made, made-over}

-- a pick that is taken names a worker of the plan
pub ending_in : (j : Job) (made : List ℕ) (w : ℕ) → ending j made w ≡ 0 → w < workers j
unfolding ending
ending_in j made w e = go (ltb w (workers j)) refl e
  where
    go : (b : Bool) → ltb w (workers j) ≡ b → cond b (cond (eqb (count made w) (accesses j w)) why.all_done (cond (waits j made w) why.must_wait 0)) why.no_worker ≡ 0 → w < workers j
    go true l e = ltb-true w (workers j) l
    go false l e = absurd (omega arith)

-- ---- lists of workers, weighed

weigh_append : (g : ℕ → ℕ) (xs ys : List ℕ) → sum (map g (xs ++ ys)) ≡ sum (map g xs) + sum (map g ys)
weigh_append g [] ys = omega arith
weigh_append g (x ∷ xs) ys = omega (arith, weigh_append g xs ys)

weigh_bits : (ws : List ℕ) → sum (map (◌^◌ 2) ws) ≡ bits ws
unfolding bits
weigh_bits [] = refl
weigh_bits (w ∷ ws) = ap (◌+◌ (2 ^ w)) (weigh_bits ws)

weigh_length : (ws : List ℕ) → sum (map (λ w. 1) ws) ≡ length ws
weigh_length [] = refl
weigh_length (w ∷ ws) = omega (arith, weigh_length ws)

-- ---- counts of which none is past its worker's accesses

-- such a count is all of them just where it is not below
same_end : (a c : ℕ) → c ≤ a → eqb c a ≡ leb a c
same_end a c l = go (same_or c a)
  where
    go : (c ≡ a) ⊎ (c ≢ a) → eqb c a ≡ leb a c
    go (inl e) = rw (eq-eqb c a e, le-leb a c (omega arith)) refl
    go (inr d) = rw (ne_eqb c a d, lt-leb a c (omega arith)) refl

module _ (j : Job) (made : List ℕ) (bounded : (w : ℕ) → count made w ≤ accesses j w) where
  -- a pick
  pub ending-is : (w : ℕ) → ending j made w ≡ refusal j made w
  unfolding ending refusal reason
  ending-is w = rw (same_end (accesses j w) (count made w) (bounded w)) (go (ltb w (workers j)) (leb (accesses j w) (count made w)) (waits j made w))
    where
      go : (a b c : Bool) → cond a (cond b why.all_done (cond c why.must_wait 0)) why.no_worker ≡ reason a b c
      go false b c = refl
      go true true c = refl
      go true false true = refl
      go true false false = refl

  abbrev passes : ℕ → Bool
  passes w = eqb (ending j made w) 0

  -- the workers whose pick would be taken, below k
  weigh_ready : (g : ℕ → ℕ) (k : ℕ) → sum (map g (filter passes (range 0 k))) ≡ sum (map g (ready_below j made k))
  unfolding ready_below
  weigh_ready g zero = refl
  weigh_ready g (suc k) =
      ap (λ (ws : List ℕ). sum (map g (filter passes ws))) (range_snoc 0 k ∙ (let e : 0 + k ≡ k = omega arith in ap (λ (y : ℕ). range 0 k ++ (y ∷ [])) e)) ∙ ap (λ (ws : List ℕ). sum (map g ws)) (filter-append passes (range 0 k) (k ∷ []))
      ∙ weigh_append g (filter passes (range 0 k)) (keep (passes k) k []) ∙ rw (ending-is k, weigh_ready g k) (go (eqb (refusal j made k) 0))
    where
      go : (b : Bool) → sum (map g (ready_below j made k)) + sum (map g (keep b k [])) ≡ sum (map g (cond b (k ∷ ready_below j made k) (ready_below j made k)))
      go true = omega arith
      go false = omega arith

  -- their bits and their count
  pub able-bits : sum (map (◌^◌ 2) (able j made)) ≡ bits (ready j made)
  unfolding able ready
  able-bits = weigh_ready (◌^◌ 2) (workers j) ∙ weigh_bits (ready_below j made (workers j))

  pub able-count : length (able j made) ≡ length (ready j made)
  unfolding able ready
  able-count = sym (weigh_length (filter passes (range 0 (workers j)))) ∙ weigh_ready (λ w. 1) (workers j) ∙ weigh_length (ready_below j made (workers j))

  -- whether the run is finished
  pub finished-is : is_finished j made ≡ over j made
  unfolding is_finished
  finished-is =
      same_test (all (λ w. eqb (count made w) (accesses j w)) (range 0 (workers j))) (over j made)
      (λ h. made-over j made (λ w l. let e = eqb-true (count made w) (accesses j w) (all-range (λ w. eqb (count made w) (accesses j w)) (workers j) w h l) in omega arith))
      (λ o. range_all (λ w. eqb (count made w) (accesses j w)) (workers j) (λ w l. eq-eqb (count made w) (accesses j w) (omega (arith, bounded w, over-made j made o w l))))
