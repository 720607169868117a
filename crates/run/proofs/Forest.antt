-- A sound list of records makes a sound tree.
use mathlib.Core.Path.{◌≡◌, refl, sym, ap, subst}
use mathlib.Core.Logic.{inl, inr}
use mathlib.Core.Bool.{Bool, true, false, true≢false}
use mathlib.Core.List.{List, [], ◌∷◌}
use Prim.Native.Nat.{ℕ, suc, ◌+◌, ◌≤◌}
use lib.ListN.{length}
use lib.Dec.{eqb}
use borrow.Author.Tests.{eqb-true}
use Rattle.base.specs.Lists.{filter, keep}
use Rattle.base.proofs.Booleans.{and_left, and_right}
use Rattle.matrix.specs.Matrix.{neighbours}
use Rattle.plan.specs.Groups.{Group, whole}
use Rattle.plan.specs.Sound.{apart, max_workers, each_once, children, tiled, like_apart, children_sound, sound}
use Rattle.plan.proofs.Records.{Sounds}
use Rattle.plan.proofs.Sound.{sound_facts}
use Rattle.plan.proofs.Pair.{pair_of}
use Rattle.run.specs.Job.{Job, workers_of}
use Rattle.run.specs.Tree.{Tree, none, node, forest, tree}
use Rattle.run.proofs.SoundTree.{tops, Tiles, Tiled, Pairs, Paired}

-- the first siblings of a forest are the children of its group
tops_children : (up i : ℕ) (gs : List Group) → tops (forest up i gs) ≡ children up gs
unfolding tops forest children
tops_children up i [] = refl
tops_children up i (g ∷ gs) = go (eqb g.parent up) refl (tops_children up (suc i) gs)
  where
    p : Group → Bool
    p h = eqb h.parent up

    go : (b : Bool) → eqb g.parent up ≡ b → tops (forest up (suc i) gs) ≡ filter p gs → tops (forest up i (g ∷ gs)) ≡ keep (eqb g.parent up) g (filter p gs)
    go true e ih = rw (e, forest) (ap (λ (l : List Group). g ∷ l) ih)
    go false e ih = rw (e, forest) ih

module _ (adj : ℕ → List ℕ) (order : List ℕ) where
  -- every group's children are as a sound plan's
  abbrev AllSound : Tree → Type 0
  AllSound none = Unit {0}
  AllSound (node g below next) = (children_sound (apart adj) order g (tops below) ≡ true) × AllSound below × AllSound next

  -- a sound list of records makes such a tree
  grown : (gs : List Group) (i up : ℕ) → Sounds (apart adj) order i gs → AllSound (forest up i gs)
  unfolding forest
  grown [] i up s = tt
  grown (g ∷ gs) i up s = go (eqb g.parent up) refl (grown gs (suc i) i s.1) (grown gs (suc i) up s.1)
    where
      go : (b : Bool) → eqb g.parent up ≡ b → AllSound (forest i (suc i) gs) → AllSound (forest up (suc i) gs) → AllSound (forest up i (g ∷ gs))
      go true e x y = rw (e, forest) (subst (λ (l : List Group). children_sound (apart adj) order g l ≡ true) (sym (tops_children i (suc i) gs)) s.0, x, y)
      go false e x y = rw (e, forest) y

  -- siblings that tile the rest of g from position s and worker f on
  record Laid (g : Group) (s f : ℕ) (T : Tree) : Type 0 where
    tiles : Tiles adj order T s (g.start + g.length)
    pairs : Pairs T f (g.first + g.workers)

  -- what lies below g
  pub record Under (g : Group) (B : Tree) : Type 0 where
    pub tiles : Tiled adj order g B
    pub pairs : Paired g B

  under : (g : Group) (B : Tree) → children_sound (apart adj) order g (tops B) ≡ true → (tiled g g.start g.first (tops B) ≡ true → Laid g g.start g.first B) → Under g B
  unfolding tops children_sound
  under g none h f = record { tiles = tt; pairs = tt }
  under g (node k kb kn) h f =
      let l = f (and_left (tiled g g.start g.first (k ∷ tops kn)) (like_apart (apart adj) order (k ∷ tops kn)) h) in
      record { tiles = (l.tiles, and_right (tiled g g.start g.first (k ∷ tops kn)) (like_apart (apart adj) order (k ∷ tops kn)) h); pairs = l.pairs }

  -- the tree of a sound plan, two siblings at a time
  laid : (g : Group) (T : Tree) (s f : ℕ) → AllSound T → tiled g s f (tops T) ≡ true → Laid g s f T
  unfolding tops tiled
  laid g none s f a h = record {
    tiles = eqb-true s (g.start + g.length) (and_left (eqb s (g.start + g.length)) (eqb f (g.first + g.workers)) h);
    pairs = eqb-true f (g.first + g.workers) (and_right (eqb s (g.start + g.length)) (eqb f (g.first + g.workers)) h);
  }
  laid g (node r rb none) s f a h = absurd (true≢false (sym h))
  laid g (node r rb (node b bb ks)) s f a h =
      let p = pair_of g s f r b (tops ks) h in
      let ur = under r rb a.0 (λ t. laid r rb r.start r.first a.1 t) in
      let ub = under b bb a.2.0 (λ t. laid b bb b.start b.first a.2.1 t) in
      let k = laid g ks (s + r.length + b.length) (f + r.workers) a.2.2 p.rest in
      record {
        tiles = (p.here, inl p.is_red, ur.tiles, (p.then, inr p.is_blue, ub.tiles, k.tiles));
        pairs = ((p.is_red, p.is_blue), (p.first_r, p.first_b, p.some, p.alike), ur.pairs, ub.pairs, k.pairs);
      }

-- a sound plan: its whole, and what lies below
pub record Whole (adj : ℕ → List ℕ) (n : ℕ) (order : List ℕ) (groups : List Group) : Type 0 where
  pub top : Group
  pub below : Tree
  pub is : tree groups ≡ node top below none
  pub start : top.start ≡ 0
  pub length : top.length ≡ n
  pub first : top.first ≡ 0
  pub colour : top.colour ≡ whole
  pub some : 1 ≤ top.workers
  pub few : top.workers ≤ max_workers
  pub once : each_once n order ≡ true
  pub crew : workers_of groups ≡ top.workers
  pub under : Under adj order top below

-- what the tests of `sound` say
pub whole_of : (adj : ℕ → List ℕ) (n : ℕ) (order : List ℕ) (groups : List Group) → sound (apart adj) n order groups ≡ true → Whole adj n order groups
unfolding sound tree workers_of
whole_of adj n order [] h = absurd (true≢false (sym h))
whole_of adj n order (g ∷ gs) h =
    let f = sound_facts (apart adj) n order g gs h in
    let mine : children_sound (apart adj) order g (tops (forest 0 1 gs)) ≡ true = subst (λ (l : List Group). children_sound (apart adj) order g l ≡ true) (sym (tops_children 0 1 gs)) f.under.0 in
    record {
      top = g;
      below = forest 0 1 gs;
      is = refl;
      start = f.start;
      length = f.covers;
      first = f.first;
      colour = f.colour;
      some = f.some;
      few = f.few;
      once = f.once;
      crew = refl;
      under = under adj order g (forest 0 1 gs) mine (λ t. laid adj order g (forest 0 1 gs) g.start g.first (grown adj order gs 1 0 f.under.1) t);
    }

-- the plan of a job is such
abbrev pub WholePlan : Job → Type 0
WholePlan j = Whole (neighbours j.matrix) j.matrix.n j.plan.order j.plan.groups
