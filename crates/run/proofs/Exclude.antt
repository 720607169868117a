-- Two workers that may both move work on rows that have no sum in common: by induction on the tree, at the group where
-- their leaves part.
use mathlib.Core.Path.{◌≡◌, refl, sym, ap, ◌∙◌}
use mathlib.Core.Logic.{inl, inr, ◌≢◌}
use mathlib.Core.Bool.{Bool, true, false, not, ◌&&◌, ◌||◌}
use mathlib.Core.List.{List}
use Prim.Native.Nat.{ℕ, ◌+◌, ◌≤◌, ◌<◌}
use native.Mathlib.Omega.{arith}
use lib.ListN.{length}
use lib.Dec.{eqb}
use borrow.Author.Tests.{eq-eqb, not-true, not-false}
use Rattle.base.specs.Lists.{any}
use Rattle.base.proofs.Booleans.{and_left, and_right, or_true, or_left_false, or_right_false, clash}
use Rattle.base.proofs.Graph.{Graph}
use Rattle.plan.specs.Groups.{Group, red, blue}
use Rattle.plan.specs.Sound.{apart, stretch_of, like_apart}
use Rattle.run.specs.Tree.{Tree, none, node, holds, owner_in, unfinished, red_open, blocked}
use Rattle.run.proofs.Holds.{holds_in, holds-past, owner_here, owner-next}
use Rattle.run.proofs.Open.{red-here, red-next}
use Rattle.run.proofs.Blocked.{not-blocked-blue, not-blocked-below, not-blocked-next}
use Rattle.run.proofs.SoundTree.{tops, Coloured, Tiles, Tiled}
use Rattle.run.proofs.Apart.{Clear, clear_sym, apart-clear}

module _ (adj : ℕ → List ℕ) (order : List ℕ) (fin : Group → Bool) where
  -- a leaf of w that holds q is not finished
  abbrev pub Live : ℕ → ℕ → Type 0
  Live q w = (g : Group) → holds g q ≡ true → g.first ≡ w → fin g ≡ false

  -- siblings that tile s to e have an unfinished leaf if a position of theirs is live
  pub live_unfinished : (T : Tree) (leader s e q w : ℕ) → Tiles adj order T s e → s ≤ q → q < e → owner_in leader q T ≡ w → Live q w → unfinished fin T ≡ true
  unfolding unfinished owner_in
  live_unfinished none leader s e q w t a b o n = absurd (omega arith)
  live_unfinished (node g none next) leader s e q w t a b o n = go (holds g q) refl (λ c p. live_unfinished next leader (s + g.length) e q w t.3 c b p n)
    where
      go : (x : Bool) → holds g q ≡ x → (s + g.length ≤ q → owner_in leader q next ≡ w → unfinished fin next ≡ true) → not (fin g) || unfinished fin next ≡ true
      go true h ih = rw (n g h (sym (owner_here g none next leader q h) ∙ o)) refl
      go false h ih = rw (ih (omega (arith, holds-past g q (omega arith) h)) (sym (owner-next g none next leader q h) ∙ o)) (or_true (not (fin g)))
  live_unfinished (node g (node k kb kn) next) leader s e q w t a b o n =
      go (holds g q) refl (λ h p. live_unfinished (node k kb kn) g.first g.start (g.start + g.length) q w t.2.0 (holds_in g q h).0 (holds_in g q h).1 p n)
      (λ c p. live_unfinished next leader (s + g.length) e q w t.3 c b p n)
    where
      go : (x : Bool) → holds g q ≡ x → (holds g q ≡ true → owner_in g.first q (node k kb kn) ≡ w → unfinished fin (node k kb kn) ≡ true)
          → (s + g.length ≤ q → owner_in leader q next ≡ w → unfinished fin next ≡ true) → unfinished fin (node k kb kn) || unfinished fin next ≡ true
      go true h deep ih = rw (deep h (sym (owner_here g (node k kb kn) next leader q h) ∙ o)) refl
      go false h deep ih = rw (ih (omega (arith, holds-past g q (omega arith) h)) (sym (owner-next g (node k kb kn) next leader q h) ∙ o)) (or_true (unfinished fin (node k kb kn)))

  -- position q of the siblings T, which tile s to e: run by w, live, and not blocked by the siblings in all
  pub record Active (T all : Tree) (leader s e q w : ℕ) : Type 0 where
    pub low : s ≤ q
    pub high : q < e
    pub inside : q < length order
    pub owned : owner_in leader q T ≡ w
    pub live : Live q w
    pub free : blocked fin q all T ≡ false

  module _ {g : Group} {below next all : Tree} {leader s e q w : ℕ} (a : Active (node g below next) all leader s e q w) where
    -- seen from below the group that holds it
    active_below : holds g q ≡ true → Active below below g.first g.start (g.start + g.length) q w
    active_below h = record {
      low = (holds_in g q h).0;
      high = (holds_in g q h).1;
      inside = a.inside;
      owned = sym (owner_here g below next leader q h) ∙ a.owned;
      live = a.live;
      free = not-blocked-below fin g below next all q a.free h;
    }

    -- seen from the later siblings, if the first does not hold it
    active_next : g.start ≡ s → holds g q ≡ false → Active next all leader (s + g.length) e q w
    active_next b h = record {
      low = omega (arith, holds-past g q (omega (arith, a.low)) h);
      high = a.high;
      inside = a.inside;
      owned = sym (owner-next g below next leader q h) ∙ a.owned;
      live = a.live;
      free = not-blocked-next fin g below next all q a.free;
    }

    -- a red group that holds it is open
    active_red : Tiled adj order g below → holds g q ≡ true → g.colour ≡ red → red_open fin (node g below next) ≡ true
    active_red t h c =
        let own : owner_in leader q (node g below none) ≡ w = owner_here g below none leader q h ∙ sym (owner_here g below next leader q h) ∙ a.owned in
        let u = live_unfinished (node g below none) leader g.start (g.start + g.length) q w (refl, inl c, t, refl) (holds_in g q h).0 (holds_in g q h).1 own a.live in
        red-here fin g below next c u

    -- a blue group that holds it has no open red sibling
    active_blue : holds g q ≡ true → g.colour ≡ blue → red_open fin all ≡ false
    active_blue h c = not-blocked-blue fin g below next all q a.free h c

  module _ {n : ℕ} (G : Graph adj n) where
    -- p in the group g, q in a later sibling: of one colour they are apart, of two the red one's group is open and the
    -- blue one waits
    cross : (g : Group) (p : ℕ) → holds g p ≡ true → p < length order → Coloured g
        → (all : Tree) → (g.colour ≡ red → red_open fin all ≡ true) → (g.colour ≡ blue → red_open fin all ≡ false)
        → (T : Tree) (leader s e q w : ℕ) → Tiles adj order T s e
        → any (λ h. eqb g.colour h.colour && not (apart adj (stretch_of order g) (stretch_of order h))) (tops T) ≡ false
        → (red_open fin T ≡ true → red_open fin all ≡ true) → Active T all leader s e q w → Clear adj order p q
    unfolding tops
    cross g p hp lp cg all red blue none leader s e q w t k up a = absurd (omega (arith, a.low, a.high))
    cross g p hp lp cg all red blue (node h below next) leader s e q w t k up a =
        go (holds h q) refl
        (λ b. cross g p hp lp cg all red blue next leader (s + h.length) e q w t.3 (or_right_false (like h) (any like (tops next)) k)
        (λ z. up (red-next fin h below next z)) b)
      where
        like : Group → Bool
        like h = eqb g.colour h.colour && not (apart adj (stretch_of order g) (stretch_of order h))

        alike : holds h q ≡ true → g.colour ≡ h.colour → Clear adj order p q
        alike hq c =
            let e : apart adj (stretch_of order g) (stretch_of order h) ≡ true =
            not-false _ (sym (ap (λ (b : Bool). b && not (apart adj (stretch_of order g) (stretch_of order h))) (eq-eqb g.colour h.colour c)) ∙ or_left_false (like h) (any like (tops next)) k) in
            apart-clear adj order G g h p q e hp lp hq a.inside

        held : holds h q ≡ true → Coloured g → Coloured h → Clear adj order p q
        held hq (inl x) (inl y) = alike hq (x ∙ sym y)
        held hq (inl x) (inr y) = absurd (clash (red x) (active_blue a hq y))
        held hq (inr x) (inl y) = absurd (clash (up (active_red a t.2 hq y)) (blue x))
        held hq (inr x) (inr y) = alike hq (x ∙ sym y)

        go : (x : Bool) → holds h q ≡ x → (Active next all leader (s + h.length) e q w → Clear adj order p q) → Clear adj order p q
        go true hq ih = held hq cg t.1
        go false hq ih = ih (active_next a t.0 hq)

    -- two active positions of different workers
    pub clear : (T all : Tree) (leader s e p q v w : ℕ) → Tiles adj order T s e → like_apart (apart adj) order (tops T) ≡ true
        → (red_open fin T ≡ true → red_open fin all ≡ true) → v ≢ w
        → Active T all leader s e p v → Active T all leader s e q w → Clear adj order p q
    unfolding tops like_apart
    clear none all leader s e p q v w t k up d a b = absurd (omega (arith, a.low, a.high))
    clear (node g below next) all leader s e p q v w t k up d a b =
        go (holds g p) refl (holds g q) refl
        (λ tb kb x y. clear below below g.first g.start (g.start + g.length) p q v w tb kb (λ z. z) d x y)
        (λ x y. clear next all leader (s + g.length) e p q v w t.3 apart_next up_next d x y)
      where
        like : Group → Bool
        like h = eqb g.colour h.colour && not (apart adj (stretch_of order g) (stretch_of order h))

        apart-here : any like (tops next) ≡ false
        apart-here = not-true _ (and_left (not (any like (tops next))) (like_apart (apart adj) order (tops next)) k)

        apart_next : like_apart (apart adj) order (tops next) ≡ true
        apart_next = and_right (not (any like (tops next))) (like_apart (apart adj) order (tops next)) k

        up_next : red_open fin next ≡ true → red_open fin all ≡ true
        up_next z = up (red-next fin g below next z)

        -- p in this group, q in a later one
        here : (p q v w : ℕ) → Active (node g below next) all leader s e p v → holds g p ≡ true → Active (node g below next) all leader s e q w → holds g q ≡ false → Clear adj order p q
        here p q v w a hp b hq =
            cross g p hp a.inside t.1 all (λ z. up (active_red a t.2 hp z)) (active_blue a hp) next leader (s + g.length) e q w t.3 apart-here up_next (active_next b t.0 hq)

        inner : (B : Tree) → Tiled adj order g B → Active B B g.first g.start (g.start + g.length) p v → Active B B g.first g.start (g.start + g.length) q w
            → (Tiles adj order B g.start (g.start + g.length) → like_apart (apart adj) order (tops B) ≡ true → Clear adj order p q) → Clear adj order p q
        inner none i x y ih = absurd (d (sym x.owned ∙ leaf ∙ y.owned))
          where
            leaf : owner_in g.first p none ≡ owner_in g.first q none
            leaf = unfold owner_in in refl
        inner (node h hb hn) i x y ih = ih i.0 i.1

        go : (x : Bool) → holds g p ≡ x → (y : Bool) → holds g q ≡ y
            → (Tiles adj order below g.start (g.start + g.length) → like_apart (apart adj) order (tops below) ≡ true
            → Active below below g.first g.start (g.start + g.length) p v → Active below below g.first g.start (g.start + g.length) q w → Clear adj order p q)
            → (Active next all leader (s + g.length) e p v → Active next all leader (s + g.length) e q w → Clear adj order p q) → Clear adj order p q
        go true hp true hq deep later = let x = active_below a hp in let y = active_below b hq in inner below t.2 x y (λ tb kb. deep tb kb x y)
        go true hp false hq deep later = here p q v w a hp b hq
        go false hp true hq deep later = clear_sym adj order q p (here q p w v b hq a hp)
        go false hp false hq deep later = later (active_next a t.0 hp) (active_next b t.0 hq)
