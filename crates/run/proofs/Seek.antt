-- Siblings with an unfinished leaf have a worker that can go on: in an open red group if there is one, else in an open
-- blue one.
use mathlib.Core.Path.{◌≡◌, refl, sym, ap, ◌∙◌, subst}
use mathlib.Core.Logic.{◌≢◌}
use mathlib.Core.Bool.{Bool, true, false, not, ◌||◌, true≢false}
use mathlib.Core.List.{List}
use Prim.Native.Nat.{ℕ, ◌+◌, ◌*◌, ◌≤◌, ◌<◌}
use native.Mathlib.Omega.{arith}
use borrow.Author.Tests.{not-true}
use Rattle.base.proofs.Booleans.{or_false, or_left_false, or_right_false}
use Rattle.matrix.specs.Matrix.{neighbours}
use Rattle.plan.specs.Groups.{Group}
use Rattle.run.specs.Job.{Job}
use Rattle.run.specs.Tree.{Tree, none, node, holds, owner_in, unfinished, red_open, blocked}
use Rattle.run.specs.Updates.{count, owner, finished}
use Rattle.run.proofs.Holds.{in_holds, holds-past, past-holds, before-holds, owner_here, owner-next}
use Rattle.run.proofs.Open.{unfinished-split}
use Rattle.run.proofs.Blocked.{free-next, free-here}
use Rattle.run.proofs.SoundTree.{Tiles, Tiled, tiles-le, Pairs, Paired, pairs-le}
use Rattle.run.proofs.Work.{cum, cum_const}
use Rattle.run.proofs.Owners.{owner-range}
use Rattle.run.proofs.Leaves.{Past, unfinished-left}
use Rattle.run.proofs.Past.{Agree, agree_below, agree_next, past_all}

module _ (j : Job) (made : List ℕ) where
  abbrev adj : ℕ → List ℕ
  adj = neighbours j.matrix

  abbrev ord : List ℕ
  ord = j.plan.order

  abbrev fin : Group → Bool
  fin = finished j made

  -- a worker from f to l that is past a and not past b, where no position from a to b is blocked
  pub record Found (all T : Tree) (s e f l : ℕ) : Type 0 where
    pub worker : ℕ
    pub a : ℕ
    pub b : ℕ
    pub from_s : s ≤ a
    pub to_e : b ≤ e
    pub from_f : f ≤ worker
    pub to_l : worker < l
    pub low : Past j made worker a
    pub high : count made worker < 2 * cum j worker b
    pub free : (q : ℕ) → a ≤ q → q < b → blocked fin q all T ≡ false

  -- .. seen from siblings around
  widen : {all' T' : Tree} {s' e' f' l' : ℕ} (all T : Tree) (s e f l : ℕ) → s ≤ s' → e' ≤ e → f ≤ f' → l' ≤ l
      → ((q : ℕ) → s' ≤ q → q < e' → blocked fin q all' T' ≡ false → blocked fin q all T ≡ false) → Found all' T' s' e' f' l' → Found all T s e f l
  widen all T s e f l hs he hf hl h k = record {
    worker = k.worker;
    a = k.a;
    b = k.b;
    from_s = omega (arith, k.from_s);
    to_e = omega (arith, k.to_e);
    from_f = omega (arith, k.from_f);
    to_l = omega (arith, k.to_l);
    low = k.low;
    high = k.high;
    free = λ q x y. h q (omega (arith, k.from_s)) (omega (arith, k.to_e)) (k.free q x y);
  }

  -- a worker of g, among g's children
  abbrev pub FoundIn : Group → Tree → Type 0
  FoundIn g B = Found B B g.start (g.start + g.length) g.first (g.first + g.workers)

  -- the workers from f to l are past position s
  abbrev pub Ready : ℕ → ℕ → ℕ → Type 0
  Ready f l s = (w : ℕ) → f ≤ w → w < l → Past j made w s

  -- what is looked for: an open red group; or, where no red sibling is open, an open group
  abbrev pub Want : Bool → Tree → Tree → Type 0
  Want true all T = red_open fin T ≡ true
  Want false all T = (red_open fin all ≡ false) × (red_open fin T ≡ false) × (unfinished fin T ≡ true)

  -- one open group whose workers are past its start: it is a leaf, or its children are looked through
  pub dive : (g : Group) (B : Tree) → Tiled adj ord g B → Paired g B → 1 ≤ g.workers → Ready g.first (g.first + g.workers) g.start → unfinished fin (node g B none) ≡ true
      → ((mode : Bool) → Tiles adj ord B g.start (g.start + g.length) → Pairs B g.first (g.first + g.workers) → Want mode B B → FoundIn g B) → FoundIn g B
  unfolding unfinished blocked
  dive g none t p n r u ih = record {
    worker = g.first;
    a = g.start;
    b = g.start + g.length;
    from_s = omega arith;
    to_e = omega arith;
    from_f = omega arith;
    to_l = omega arith;
    low = r g.first (omega arith) (omega arith);
    high = unfinished-left j made g (not-true _ (sym (or_false (not (fin g))) ∙ u));
    free = λ q x y. refl;
  }
  dive g (node k kb kn) t p n r u ih = go (red_open fin (node k kb kn)) refl
    where
      go : (b : Bool) → red_open fin (node k kb kn) ≡ b → FoundIn g (node k kb kn)
      go true e = ih true t.0 p e
      go false e = ih false t.0 p (e, e, sym (or_false (unfinished fin (node k kb kn))) ∙ u)

  -- siblings do not block a position before them
  before-free : (all T : Tree) (s e q : ℕ) → Tiles adj ord T s e → q < s → blocked fin q all T ≡ false
  unfolding blocked
  before-free all none s e q t l = refl
  before-free all (node g B next) s e q t l = free-next fin g B next all q (before-holds g q (omega (arith, t.0))) (before-free all next (s + g.length) e q t.3 (omega arith))

  -- the owner of a pair's position does not depend on the later pairs
  own_pair : (r b : Group) (rb bb ks : Tree) (leader s q : ℕ) → r.start ≡ s → b.start ≡ s + r.length → s ≤ q → q < s + r.length + b.length
      → owner_in leader q (node r rb (node b bb none)) ≡ owner_in leader q (node r rb (node b bb ks))
  own_pair r b rb bb ks leader s q x y l m = go (holds r q) refl
    where
      go : (t : Bool) → holds r q ≡ t → owner_in leader q (node r rb (node b bb none)) ≡ owner_in leader q (node r rb (node b bb ks))
      go true h = owner_here r rb (node b bb none) leader q h ∙ sym (owner_here r rb (node b bb ks) leader q h)
      go false h =
          let k = holds-past r q (omega arith) h in
          let i = in_holds b q (omega arith) (omega arith) in
          owner-next r rb (node b bb none) leader q h ∙ owner_here b bb none leader q i ∙ sym (owner-next r rb (node b bb ks) leader q h ∙ owner_here b bb ks leader q i)

  -- siblings from position s and worker f on, whose workers are past s
  pub seek : (T all : Tree) (mode : Bool) (leader s e f l : ℕ) → Tiles adj ord T s e → Pairs T f l → Agree j leader T s e → Ready f l s → Want mode all T → Found all T s e f l
  unfolding red_open unfinished
  seek none all true leader s e f l t p g y want = absurd (true≢false (sym want))
  seek none all false leader s e f l t p g y want = absurd (true≢false (sym want.2))
  seek (node r rb none) all mode leader s e f l t p g y want = absurd p
  seek (node r rb (node b bb ks)) all mode leader s e f l t p g y want =
      go mode want
      (λ u. dive r rb t.2 p.2 p.1.2 ready_r u
      (λ m tr pr w. seek rb rb m r.first r.start (r.start + r.length) r.first (r.first + r.workers) tr pr (agree_below j r rb (node b bb ks) leader s e t.0 le_r g) ready_r w))
      (λ u v. dive b bb t.3.2 p.3 (omega (arith, p.1.2, p.1.3)) (ready_b v) u
      (λ m tb pb w. seek bb bb m b.first b.start (b.start + b.length) b.first (b.first + b.workers) tb pb (agree_below j b bb ks leader (s + r.length) e t.3.0 le_b agree_b) (ready_b v) w))
      (λ m w. seek ks all m leader (s + r.length + b.length) e (f + r.workers) l t.3.3 p.4 (agree_next j b bb ks leader (s + r.length) e t.3.0 agree_b) ready_ks w)
    where
      le_b : s + r.length + b.length ≤ e
      le_b = tiles-le adj ord ks (s + r.length + b.length) e t.3.3

      le_r : s + r.length ≤ e
      le_r = omega (arith, le_b)

      le_l : f + r.workers ≤ l
      le_l = pairs-le ks (f + r.workers) l p.4

      agree_b : Agree j leader (node b bb ks) (s + r.length) e
      agree_b = agree_next j r rb (node b bb ks) leader s e t.0 g

      ready_r : Ready r.first (r.first + r.workers) r.start
      ready_r w x z = subst (Past j made w) (sym t.0) (y w (omega (arith, p.1.0)) (omega (arith, p.1.0, le_l)))

      agree_r : Agree j leader (node r rb none) s (s + r.length)
      agree_r q x z =
          let h = in_holds r q (omega (arith, t.0)) (omega (arith, t.0)) in
          owner_here r rb none leader q h ∙ sym (owner_here r rb (node b bb ks) leader q h) ∙ g q x (omega (arith, le_r))

      -- the red group is finished: its workers are past it
      ready_b : unfinished fin (node r rb none) ≡ false → Ready b.first (b.first + b.workers) b.start
      ready_b v w x z =
          subst (Past j made w) (sym t.3.0)
          (past_all j made (node r rb none) leader s (s + r.length) w (t.0, t.1, t.2, refl) agree_r v (y w (omega (arith, p.1.1)) (omega (arith, p.1.1, p.1.3, le_l))))

      other : (w : ℕ) → f + r.workers ≤ w → (q : ℕ) → s ≤ q → q < s + r.length + b.length → owner j q ≢ w
      other w x q lo hi c =
          let o = owner-range adj ord (node r rb (node b bb none)) leader s (s + r.length + b.length) f (f + r.workers) q
          (t.0, t.1, t.2, (t.3.0, t.3.1, t.3.2, refl)) (p.0, p.1, p.2, p.3, refl) lo hi in
          let i : owner_in leader q (node r rb (node b bb none)) ≡ w = own_pair r b rb bb ks leader s q t.0 t.3.0 lo hi ∙ g q lo (omega (arith, le_b)) ∙ c in
          omega (arith, o.1)

      -- the later pairs' workers have no rows in this pair
      ready_ks : Ready (f + r.workers) l (s + r.length + b.length)
      ready_ks w x z = omega (arith, y w (omega arith) z, cum_const j w s (s + r.length + b.length) (omega arith) (other w x))

      in_r : FoundIn r rb → Found all (node r rb (node b bb ks)) s e f l
      in_r = widen all (node r rb (node b bb ks)) s e f l (omega (arith, t.0)) (omega (arith, t.0, le_r)) (omega (arith, p.1.0)) (omega (arith, p.1.0, le_l))
          (λ q x z h. free-here fin r rb (node b bb ks) all q (λ d. absurd (omega (arith, p.0.0))) h (before-free all (node b bb ks) (s + r.length) e q t.3 (omega (arith, t.0))))

      in_b : red_open fin all ≡ false → FoundIn b bb → Found all (node r rb (node b bb ks)) s e f l
      in_b c = widen all (node r rb (node b bb ks)) s e f l (omega (arith, t.3.0)) (omega (arith, t.3.0, le_b)) (omega (arith, p.1.1)) (omega (arith, p.1.1, p.1.3, le_l))
          (λ q x z h. free-next fin r rb (node b bb ks) all q (past-holds r q (omega (arith, t.0, t.3.0)))
          (free-here fin b bb ks all q (λ d. c) h (before-free all ks (s + r.length + b.length) e q t.3.3 (omega (arith, t.3.0)))))

      in_ks : Found all ks (s + r.length + b.length) e (f + r.workers) l → Found all (node r rb (node b bb ks)) s e f l
      in_ks = widen all (node r rb (node b bb ks)) s e f l (omega arith) (omega arith) (omega arith) (omega arith)
          (λ q x z h. free-next fin r rb (node b bb ks) all q (past-holds r q (omega (arith, t.0))) (free-next fin b bb ks all q (past-holds b q (omega (arith, t.3.0))) h))

      red-of : red_open fin (node r rb (node b bb ks)) ≡ unfinished fin (node r rb none) || red_open fin ks
      red-of = rw (p.0.0, p.0.1) refl

      go : (m : Bool) → Want m all (node r rb (node b bb ks)) → (unfinished fin (node r rb none) ≡ true → FoundIn r rb)
          → (unfinished fin (node b bb none) ≡ true → unfinished fin (node r rb none) ≡ false → FoundIn b bb)
          → ((m : Bool) → Want m all ks → Found all ks (s + r.length + b.length) e (f + r.workers) l)
          → Found all (node r rb (node b bb ks)) s e f l
      go true w fr fb fk = by (unfinished fin (node r rb none)) refl
        where
          by : (x : Bool) → unfinished fin (node r rb none) ≡ x → Found all (node r rb (node b bb ks)) s e f l
          by true u = in_r (fr u)
          by false u = in_ks (fk true (sym (red-of ∙ ap (λ (z : Bool). z || red_open fin ks) u) ∙ w))
      go false w fr fb fk = by (unfinished fin (node b bb none)) refl
        where
          closed : unfinished fin (node r rb none) ≡ false
          closed = or_left_false (unfinished fin (node r rb none)) (red_open fin ks) (sym red-of ∙ w.1)

          opened : unfinished fin (node b bb none) || unfinished fin ks ≡ true
          opened = sym (unfinished-split fin b bb ks) ∙ sym (unfinished-split fin r rb (node b bb ks) ∙ ap (λ (z : Bool). z || unfinished fin (node b bb ks)) closed) ∙ w.2

          by : (x : Bool) → unfinished fin (node b bb none) ≡ x → Found all (node r rb (node b bb ks)) s e f l
          by true u = in_b w.0 (fb u closed)
          by false u = in_ks (fk false (w.0, or_right_false (unfinished fin (node r rb none)) (red_open fin ks) (sym red-of ∙ w.1), sym (ap (λ (z : Bool). z || unfinished fin ks) u) ∙ opened))
