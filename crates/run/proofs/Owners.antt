-- Every row of a sound plan has an owner, one of the workers of the groups that hold it.
use mathlib.Core.Path.{◌≡◌, refl, ap, ◌∙◌}
use mathlib.Core.Bool.{Bool, true, false}
use mathlib.Core.List.{List}
use Prim.Native.Nat.{ℕ, ◌+◌, ◌≤◌, ◌<◌}
use native.Mathlib.Omega.{arith}
use Rattle.matrix.specs.Matrix.{neighbours}
use Rattle.plan.specs.Groups.{Group}
use Rattle.run.specs.Job.{Job, workers}
use Rattle.run.specs.Tree.{Tree, none, node, holds, owner_in}
use Rattle.run.specs.Updates.{owner}
use Rattle.run.proofs.Holds.{holds_in, in_holds, holds-past, owner_here, owner-next}
use Rattle.run.proofs.SoundTree.{Tiles, Tiled, Pairs, Paired, pairs-le}
use Rattle.run.proofs.Forest.{WholePlan}

abbrev Within : ℕ → ℕ → ℕ → Type 0
Within f l w = (f ≤ w) × (w < l)

module _ (adj : ℕ → List ℕ) (order : List ℕ) where
  -- the owner of a position that g holds is one of g's workers, if it is so for g's children
  inside : (g : Group) (B : Tree) (q : ℕ) → 1 ≤ g.workers → Tiled adj order g B → Paired g B
      → (Tiles adj order B g.start (g.start + g.length) → Pairs B g.first (g.first + g.workers) → Within g.first (g.first + g.workers) (owner_in g.first q B))
      → Within g.first (g.first + g.workers) (owner_in g.first q B)
  unfolding owner_in
  inside g none q h t p ih = (omega arith, omega arith)
  inside g (node k kb kn) q h t p ih = ih t.0 p

  -- siblings with the workers from f to l
  pub owner-range : (T : Tree) (leader s e f l q : ℕ) → Tiles adj order T s e → Pairs T f l → s ≤ q → q < e → Within f l (owner_in leader q T)
  owner-range none leader s e f l q t p a b = absurd (omega arith)
  owner-range (node r rb none) leader s e f l q t p a b = absurd p
  owner-range (node r rb (node c cb ks)) leader s e f l q t p a b =
      red (holds r q) refl
      (λ h. inside r rb q p.1.2 t.2 p.2 (λ tb pb. owner-range rb r.first r.start (r.start + r.length) r.first (r.first + r.workers) q tb pb (holds_in r q h).0 (holds_in r q h).1))
      (λ h. inside c cb q (omega (arith, p.1.2, p.1.3)) t.3.2 p.3 (λ tb pb. owner-range cb c.first c.start (c.start + c.length) c.first (c.first + c.workers) q tb pb (holds_in c q h).0 (holds_in c q h).1))
      (λ k. owner-range ks leader (s + r.length + c.length) e (f + r.workers) l q t.3.3 p.4 k b)
    where
      m : f + r.workers ≤ l
      m = pairs-le ks (f + r.workers) l p.4

      blue : (y : Bool) → holds c q ≡ y → s + r.length ≤ q → (holds c q ≡ true → Within c.first (c.first + c.workers) (owner_in c.first q cb))
          → (s + r.length + c.length ≤ q → Within (f + r.workers) l (owner_in leader q ks)) → Within f l (owner_in leader q (node c cb ks))
      blue true h k i o = rw (owner_here c cb ks leader q h) (let x = i h in (omega (arith, p.1.1), omega (arith, p.1.1, p.1.3, m)))
      blue false h k i o = rw (owner-next c cb ks leader q h) (let x = o (omega (arith, holds-past c q (omega (arith, t.3.0)) h, t.3.0)) in (omega arith, omega arith))

      red : (y : Bool) → holds r q ≡ y → (holds r q ≡ true → Within r.first (r.first + r.workers) (owner_in r.first q rb))
          → (holds c q ≡ true → Within c.first (c.first + c.workers) (owner_in c.first q cb))
          → (s + r.length + c.length ≤ q → Within (f + r.workers) l (owner_in leader q ks)) → Within f l (owner_in leader q (node r rb (node c cb ks)))
      red true h i i' o = rw (owner_here r rb (node c cb ks) leader q h) (let x = i h in (omega (arith, p.1.0), omega (arith, p.1.0, m)))
      red false h i i' o = rw (owner-next r rb (node c cb ks) leader q h) (blue (holds c q) refl (omega (arith, holds-past r q (omega (arith, t.0)) h, t.0)) i' o)

module _ (j : Job) (W : WholePlan j) where
  -- the whole holds every position
  pub held : (q : ℕ) → q < j.matrix.n → holds W.top q ≡ true
  held q l = in_holds W.top q (omega (arith, W.start)) (omega (arith, W.start, W.length))

  -- so a row's owner is found below the whole
  pub own : (q : ℕ) → q < j.matrix.n → owner j q ≡ owner_in W.top.first q W.below
  unfolding owner
  own q l = ap (owner_in 0 q) W.is ∙ owner_here W.top W.below none 0 q (held q l)

  -- it is a worker of the plan
  pub owned : (q : ℕ) → q < j.matrix.n → owner j q < workers j
  unfolding workers
  owned q l = rw (own q l, W.crew) (omega (arith, W.first, range))
    where
      in_top : (W.top.start ≤ q) × (q < W.top.start + W.top.length)
      in_top = holds_in W.top q (held q l)

      range : Within W.top.first (W.top.first + W.top.workers) (owner_in W.top.first q W.below)
      range = inside (neighbours j.matrix) j.plan.order W.top W.below q W.some W.under.tiles W.under.pairs
          (λ t p. owner-range (neighbours j.matrix) j.plan.order W.below W.top.first W.top.start (W.top.start + W.top.length) W.top.first (W.top.first + W.top.workers) q t p in_top.0 in_top.1)
