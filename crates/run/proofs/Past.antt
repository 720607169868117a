-- Who is past the start of siblings whose leaves are all finished is past their end.
use mathlib.Core.Path.{◌≡◌, sym, ◌∙◌, subst}
use mathlib.Core.Logic.{◌⊎◌, inl, inr, ◌≢◌}
use mathlib.Core.Bool.{false, not}
use mathlib.Core.List.{List}
use Prim.Native.Nat.{ℕ, ◌+◌, ◌≤◌, ◌<◌}
use native.Mathlib.Omega.{arith}
use lib.ListN.{length}
use borrow.Author.Tests.{not-false}
use Rattle.base.proofs.Booleans.{or_left_false, or_right_false, same_or}
use Rattle.matrix.specs.Matrix.{neighbours}
use Rattle.plan.specs.Groups.{Group}
use Rattle.run.specs.Job.{Job}
use Rattle.run.specs.Tree.{Tree, none, node, owner_in, unfinished}
use Rattle.run.specs.Updates.{owner, finished, next}
use Rattle.run.proofs.Holds.{in_holds, past-holds, owner_here, owner-next}
use Rattle.run.proofs.SoundTree.{Tiles, tiles-le}
use Rattle.run.proofs.Leaves.{Past, finished-past}
use Rattle.run.proofs.Work.{cum_const}

module _ (j : Job) where
  -- the owners found among these siblings are the plan's
  abbrev pub Agree : ℕ → Tree → ℕ → ℕ → Type 0
  Agree leader T s e = (q : ℕ) → s ≤ q → q < e → owner_in leader q T ≡ owner j q

  -- .. below a group
  pub agree_below : (g : Group) (B next : Tree) (leader s e : ℕ) → g.start ≡ s → s + g.length ≤ e → Agree leader (node g B next) s e → Agree g.first B g.start (g.start + g.length)
  agree_below g B next leader s e h l a q x y = sym (owner_here g B next leader q (in_holds g q x y)) ∙ a q (omega arith) (omega arith)

  -- .. and of its later siblings
  pub agree_next : (g : Group) (B next : Tree) (leader s e : ℕ) → g.start ≡ s → Agree leader (node g B next) s e → Agree leader next (s + g.length) e
  agree_next g B next leader s e h a q x y = sym (owner-next g B next leader q (past-holds g q (omega arith))) ∙ a q (omega arith) y

  -- who is past the start of siblings whose leaves are all finished is past their end
  pub past_all : (made : List ℕ) (T : Tree) (leader s e w : ℕ) → Tiles (neighbours j.matrix) j.plan.order T s e → Agree leader T s e
      → unfinished (finished j made) T ≡ false → Past j made w s → Past j made w e
  unfolding unfinished owner_in
  past_all made none leader s e w t a u h = subst (Past j made w) t h
  past_all made (node g none next) leader s e w t a u h =
      past_all made next leader (s + g.length) e w t.3 (agree_next g none next leader s e t.0 a) (or_right_false (not (finished j made g)) (unfinished (finished j made) next) u) (go (same_or g.first w))
    where
      done : Past j made g.first (g.start + g.length)
      done = finished-past j made g (not-false _ (or_left_false (not (finished j made g)) (unfinished (finished j made) next) u))

      leaf : (q : ℕ) → s ≤ q → q < s + g.length → g.first ≡ owner j q
      leaf q x y = agree_below g none next leader s e t.0 (tiles-le (neighbours j.matrix) j.plan.order next (s + g.length) e t.3) a q (omega (arith, t.0)) (omega (arith, t.0))

      go : (g.first ≡ w) ⊎ (g.first ≢ w) → Past j made w (s + g.length)
      go (inl f) = subst (λ (y : ℕ). Past j made w (y + g.length)) t.0 (subst (λ (y : ℕ). Past j made y (g.start + g.length)) f done)
      go (inr d) = omega (arith, cum_const j w s (s + g.length) (omega arith) (λ q x y z. d (leaf q x y ∙ z)))
  past_all made (node g (node k kb kn) next) leader s e w t a u h =
      past_all made next leader (s + g.length) e w t.3 (agree_next g (node k kb kn) next leader s e t.0 a) (or_right_false (unfinished (finished j made) (node k kb kn)) (unfinished (finished j made) next) u)
      (subst (λ (y : ℕ). Past j made w (y + g.length)) t.0
      (past_all made (node k kb kn) g.first g.start (g.start + g.length) w t.2.0
      (agree_below g (node k kb kn) next leader s e t.0 (tiles-le (neighbours j.matrix) j.plan.order next (s + g.length) e t.3) a)
      (or_left_false (unfinished (finished j made) (node k kb kn)) (unfinished (finished j made) next) u) (subst (Past j made w) (sym t.0) h)))
