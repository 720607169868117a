-- An accepted job has the facts that a run asks of it.
use mathlib.Core.Path.{◌≡◌, refl}
use mathlib.Core.Logic.{◌⊎◌, inl, inr, ◌≢◌}
use Prim.Native.Nat.{ℕ, ◌<◌, ◌^◌}
use native.Mathlib.Omega.{arith}
use Rattle.base.specs.Lists.{sum_below}
use Rattle.base.proofs.Booleans.{same_or}
use Rattle.base.proofs.Positions.{position_at}
use Rattle.matrix.specs.Matrix.{entry, displacement}
use Rattle.matrix.specs.Product.{force_at}
use Rattle.matrix.proofs.Matrix.{matrix_facts, graph, small-entry, small-displacement}
use Rattle.plan.specs.Sound.{max_workers, is_sound}
use Rattle.plan.proofs.Once.{Once, once, low_at, injective}
use Rattle.run.specs.Job.{Job, Accepted, row_at, workers}
use Rattle.run.specs.Updates.{updates, owner, accesses}
use Rattle.base.specs.Lists.{position_of}
use Rattle.run.specs.EveryRun.{whole_run}
use Rattle.run.specs.Plain.{Plain}
use Rattle.run.proofs.Facts.{Facts}
use Rattle.run.proofs.Forest.{WholePlan, whole_of}
use Rattle.run.proofs.Owners.{owned}
use Rattle.run.proofs.Next.{target_below, up-to, lasts}
use Rattle.run.proofs.Exclusion.{exclusion}
use Rattle.run.proofs.Total.{total}
use Rattle.run.proofs.Bound.{magnitude, fitting}
use Rattle.run.proofs.Counting.{all-accesses}
use Rattle.run.proofs.LeafOrder.{leaf_order}
use Rattle.run.proofs.Plain.{row_order, run_by, no_sooner, no_later}
use Rattle.run.proofs.Small.{small}

module _ (j : Job) (ok : Accepted j) where
  -- its plan is a tree as a sound plan's
  pub tree_of : WholePlan j
  unfolding is_sound
  tree_of = whole_of _ j.matrix.n j.plan.order j.plan.groups ok.plan

  -- its order has each row once
  pub order-of : Once j.matrix.n j.plan.order
  order-of = once j.matrix.n j.plan.order tree_of.once

  -- every row has an owner in the plan
  owners : (p : ℕ) → p < j.matrix.n → owner j p < workers j
  owners = owned j tree_of

  -- what the plan and the matrix give of a run
  pub facts : Facts j
  unfolding workers force_at row_at
  facts = record {
    few = omega (arith, tree_of.crew, tree_of.few);
    targets = target_below j;
    exclusion = λ made v w. exclusion j tree_of order-of.long (graph j.matrix ok.matrix) made v w;
    lasting = λ made new w g. lasts j made new g w;
    fitting = λ t k l. fitting (workers j) j.matrix.n t (updates j) (entry j.matrix (row_at j t)) (displacement j.displacements) (matrix_facts j.matrix ok.matrix).few
        (small-entry j.matrix ok.matrix (row_at j t)) (small-displacement j.matrix.n j.displacements ok.displacements)
        (total magnitude refl j ok.matrix order-of (workers j) t owners l) k;
    whole = λ t l. total (λ z. z) refl j ok.matrix order-of (workers j) t owners l;
    placed = λ i l. let p = position_at j.plan.order i (order-of.member i l) in (omega (arith, p.0, order-of.long), p.1);
  }

  -- the row at a plan position, and its position
  pub row_below : (p : ℕ) → p < j.matrix.n → row_at j p < j.matrix.n
  unfolding row_at
  row_below p l = low_at j.matrix.n j.plan.order p order-of.low (omega (arith, order-of.long))

  pub position_row : (p : ℕ) → p < j.matrix.n → position_of j.plan.order (row_at j p) ≡ p
  unfolding row_at
  position_row p l = go (facts.placed (row_at j p) (row_below p l)) (same_or (position_of j.plan.order (row_at j p)) p)
    where
      q : ℕ
      q = position_of j.plan.order (row_at j p)

      go : (q < j.matrix.n) × (row_at j q ≡ row_at j p) → (q ≡ p) ⊎ (q ≢ p) → q ≡ p
      go h (inl e) = e
      go h (inr d) = absurd (injective j.matrix.n j.plan.order order-of q p h.0 l d h.1)

  -- all accesses of its workers are a whole run's
  pub accesses-of : sum_below (accesses j) (workers j) ≡ whole_run j
  accesses-of = all-accesses j ok.matrix order-of (workers j) owners

  -- the accesses of each of a state's sixteen workers fit 32 bits
  pub accesses-small : (w : ℕ) → w < max_workers → accesses j w < 2 ^ 32
  accesses-small = small j max_workers (matrix_facts j.matrix ok.matrix).few (all-accesses j ok.matrix order-of max_workers (λ p l. omega (arith, owners p l, facts.few)))

  -- its updates are in document 01's order, and its counts fit 32 bits
  pub plain : Plain j
  plain = record {
    leaf_order = λ w. leaf_order j w tree_of;
    run_by = run_by j tree_of ok.plan;
    up-to = up-to j;
    row_order = row_order j;
    no_sooner = no_sooner j tree_of ok.plan;
    no_later = no_later j tree_of ok.plan;
    small = λ w l. accesses-small w (omega (arith, facts.few));
  }
