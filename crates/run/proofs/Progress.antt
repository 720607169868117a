-- Until a run is finished some worker can move, and the ready set is not empty.
use mathlib.Core.Path.{◌≡◌, refl, sym, ap, ◌∙◌, subst}
use mathlib.Core.Bool.{Bool, true, false, ◌&&◌, true≢false}
use mathlib.Core.List.{List}
use Prim.Native.Nat.{ℕ, zero, suc, ◌+◌, ◌≤◌, ◌<◌}
use native.Mathlib.Omega.{arith}
use lib.ListN.{length}
use lib.Dec.{leb}
use borrow.Author.Tests.{leb-false}
use Rattle.base.proofs.Lists.{in_pos}
use Rattle.matrix.specs.Matrix.{neighbours}
use Rattle.plan.specs.Groups.{Group}
use Rattle.run.specs.Job.{Job, workers}
use Rattle.run.specs.Tree.{Tree, none, node, owner_in, unfinished, blocked}
use Rattle.run.specs.Updates.{count, accesses, updates, up_to, finished, waits}
use Rattle.run.specs.Machine.{ready, all_made, over}
use Rattle.run.proofs.Able.{Able}
use Rattle.run.proofs.ReadySet.{ready_in}
use Rattle.run.proofs.Holds.{holds_in}
use Rattle.run.proofs.Blocked.{free-here}
use Rattle.run.proofs.SoundTree.{Tiled}
use Rattle.run.proofs.Exclude.{live_unfinished}
use Rattle.run.proofs.Forest.{WholePlan}
use Rattle.run.proofs.Work.{cum_mono}
use Rattle.run.proofs.Owners.{held, own}
use Rattle.run.proofs.Next.{next-at, next_row, next-from, next-before, live}
use Rattle.run.proofs.Leaves.{Past}
use Rattle.run.proofs.Seek.{FoundIn, Ready, dive, seek}

module _ (j : Job) (made : List ℕ) (W : WholePlan j) where
  abbrev fin : Group → Bool
  fin = finished j made

  abbrev top : Group
  top = W.top

  -- a worker with an access left has an unfinished leaf
  opened : (v : ℕ) → count made v < accesses j v → unfinished fin (node top W.below none) ≡ true
  unfolding unfinished owner_in
  opened v h = go W.below W.under.tiles (sym (own j W q low) ∙ (next-at j made v h).mine)
    where
      q : ℕ
      q = (next-at j made v h).row

      low : q < j.matrix.n
      low = (next-at j made v h).below

      go : (B : Tree) → Tiled (neighbours j.matrix) j.plan.order top B → owner_in top.first q B ≡ v → unfinished fin (node top B none) ≡ true
      go none i o = rw (live j made v h top (held j W q low) o) refl
      go (node k kb kn) i o =
          rw (live_unfinished (neighbours j.matrix) j.plan.order fin (node k kb kn) top.first top.start (top.start + top.length) q v i.0
          (holds_in top q (held j W q low)).0 (holds_in top q (held j W q low)).1 o (live j made v h)) refl

  -- so some worker can go on
  found : (v : ℕ) → count made v < accesses j v → FoundIn j made top W.below
  unfolding up_to
  found v h =
      dive j made top W.below W.under.tiles W.under.pairs W.some ready-all (opened v h)
      (λ m t p w. seek j made W.below W.below m top.first top.start (top.start + top.length) top.first (top.first + top.workers) t p
      (λ q x y. sym (own j W q (omega (arith, W.start, W.length)))) ready-all w)
    where
      ready-all : Ready j made top.first (top.first + top.workers) top.start
      ready-all w x y = subst (Past j made w) (sym W.start) (omega arith)

  -- .. and may move
  pub someone : (v : ℕ) → count made v < accesses j v → (w : ℕ) × Able j made w
  unfolding workers accesses updates waits blocked
  someone v h = (w, record { in_plan = in-plan; left = left; going = going })
    where
      k : FoundIn j made top W.below
      k = found v h

      w : ℕ
      w = k.worker

      in-plan : w < workers j
      in-plan = rw W.crew (omega (arith, k.to_l, W.first))

      left : count made w < accesses j w
      left = omega (arith, k.high, cum_mono j w k.b j.matrix.n (omega (arith, k.to_e, W.start, W.length)))

      q : ℕ
      q = (next-at j made w left).row

      going : waits j made w ≡ false
      going =
          rw (next_row j made w left, W.is)
          (free-here fin top W.below none (node top W.below none) q (λ e. absurd (omega (arith, W.colour))) (k.free q (next-from j made w left k.a k.low) (next-before j made w left k.b k.high)) refl)

  -- ---- the ready set

  undone : (k : ℕ) → all_made j made k ≡ false → (v : ℕ) × (count made v < accesses j v)
  unfolding all_made
  undone zero h = absurd (true≢false h)
  undone (suc k) h = go (leb (accesses j k) (count made k)) refl (undone k)
    where
      go : (b : Bool) → leb (accesses j k) (count made k) ≡ b → (all_made j made k ≡ false → (v : ℕ) × (count made v < accesses j v)) → (v : ℕ) × (count made v < accesses j v)
      go true e ih = ih (sym (ap (λ (b : Bool). b && all_made j made k) e) ∙ h)
      go false e ih = (k, leb-false (accesses j k) (count made k) e)

  -- until the run is finished some worker may move
  pub some-able : over j made ≡ false → (w : ℕ) × Able j made w
  unfolding over
  some-able h = let (v, l) = undone (workers j) h in someone v l

  -- .. and the ready set is not empty
  pub progress : over j made ≡ false → 1 ≤ length (ready j made)
  progress h = let (w, a) = some-able h in in_pos (ready j made) w (ready_in j made w a)
