-- Two workers of a sound plan that may both move are at different sums.
use mathlib.Core.Path.{◌≡◌, sym, ap, ◌∙◌, subst}
use mathlib.Core.Logic.{◌≢◌}
use mathlib.Core.Bool.{false}
use mathlib.Core.List.{List}
use Prim.Native.Nat.{ℕ, ◌+◌, ◌<◌}
use native.Mathlib.Omega.{arith}
use lib.ListN.{length}
use Rattle.base.proofs.Graph.{Graph}
use Rattle.matrix.specs.Matrix.{neighbours}
use Rattle.run.specs.Job.{Job}
use Rattle.run.specs.Tree.{Tree, none, node, owner_in, blocked}
use Rattle.run.specs.Updates.{owner, accesses, count, finished, next, waits}
use Rattle.run.proofs.Holds.{holds_in}
use Rattle.run.proofs.Blocked.{not-blocked-below}
use Rattle.run.proofs.SoundTree.{Tiled}
use Rattle.run.proofs.Apart.{Touch, Clear}
use Rattle.run.proofs.Exclude.{Active, clear}
use Rattle.run.proofs.Forest.{WholePlan}
use Rattle.run.proofs.Owners.{held, own}
use Rattle.run.proofs.Next.{next-at, next_row, next_touch, live}

module _ (j : Job) (W : WholePlan j) (long : length j.plan.order ≡ j.matrix.n) (G : Graph (neighbours j.matrix) j.matrix.n) (made : List ℕ) where
  -- position q, run by w, is active among the siblings below the whole
  abbrev Working : Tree → ℕ → ℕ → Type 0
  Working T q w = Active (neighbours j.matrix) j.plan.order (finished j made) T T W.top.first W.top.start (W.top.start + W.top.length) q w

  working : (w : ℕ) (l : count made w < accesses j w) → waits j made w ≡ false → Working W.below (next-at j made w l).row w
  unfolding waits
  working w l h = record {
    low = (holds_in W.top q (held j W q low)).0;
    high = (holds_in W.top q (held j W q low)).1;
    inside = omega (arith, low, long);
    owned = sym (own j W q low) ∙ (next-at j made w l).mine;
    live = live j made w l;
    free = not-blocked-below (finished j made) W.top W.below none (node W.top W.below none) q
        (subst (λ (T : Tree). blocked (finished j made) q T T ≡ false) W.is (rw (next_row j made w l) at h)) (held j W q low);
  }
    where
      q : ℕ
      q = (next-at j made w l).row

      low : q < j.matrix.n
      low = (next-at j made w l).below

  rows-clear : (p q v w : ℕ) → v ≢ w → Working W.below p v → Working W.below q w → Clear (neighbours j.matrix) j.plan.order p q
  unfolding owner_in
  rows-clear p q v w d = go W.below W.under.tiles
    where
      go : (B : Tree) → Tiled (neighbours j.matrix) j.plan.order W.top B → Working B p v → Working B q w → Clear (neighbours j.matrix) j.plan.order p q
      go none t a b = absurd (d (sym a.owned ∙ b.owned))
      go (node h hb hn) t a b =
          clear (neighbours j.matrix) j.plan.order (finished j made) G (node h hb hn) (node h hb hn) W.top.first W.top.start (W.top.start + W.top.length)
          p q v w t.0 t.1 (λ z. z) d a b

  -- so their next sums differ
  pub exclusion : (v w : ℕ) → v ≢ w → count made v < accesses j v → count made w < accesses j w → waits j made v ≡ false → waits j made w ≡ false
      → (next j made v).target ≢ (next j made w).target
  exclusion v w d lv lw nv nw e =
      let p : ℕ = (next-at j made v lv).row in
      let q : ℕ = (next-at j made w lw).row in
      let same : p ≡ q = rows-clear p q v w d (working v lv nv) (working w lw nw) (next j made v).target (next_touch j made v lv)
      (subst (Touch (neighbours j.matrix) j.plan.order q) (sym e) (next_touch j made w lw)) in
      d (sym (next-at j made v lv).mine ∙ ap (owner j) same ∙ (next-at j made w lw).mine)
