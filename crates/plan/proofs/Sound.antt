-- What the tests of `sound` say of a plan.
use mathlib.Core.Path.{◌≡◌, refl}
use mathlib.Core.Bool.{Bool, true}
use mathlib.Core.List.{List, [], ◌∷◌}
use Prim.Native.Nat.{ℕ, ◌+◌, ◌≤◌}
use lib.ListN.{length, get_or}
use lib.Dec.{eqb, leb}
use borrow.Author.Tests.{eqb-true, leb-true}
use Rattle.base.proofs.Booleans.{and_left, and_right, conj_first, conj_at}
use Rattle.base.proofs.Integers.{never}
use Rattle.plan.specs.Groups.{Group, whole}
use Rattle.plan.specs.Sound.{max_workers, max_groups, each_once, depth_first, children, children_sound, all_sound, sound}
use Rattle.plan.proofs.Once.{once}
use Rattle.plan.proofs.Records.{Down, before-one, down, Sounds, sounds}

-- the whole g, and the records gs after it
pub record SoundFacts (far : List ℕ → List ℕ → Bool) (n : ℕ) (order : List ℕ) (g : Group) (gs : List Group) : Type 0 where
  pub once : each_once n order ≡ true
  pub start : g.start ≡ 0
  pub covers : g.length ≡ n
  pub first : g.first ≡ 0
  pub colour : g.colour ≡ whole
  pub parent : g.parent ≡ 0
  pub depth : g.depth ≡ 0
  pub some : 1 ≤ g.workers
  pub few : g.workers ≤ max_workers
  pub short : length (g ∷ gs) ≤ max_groups
  pub in_order : depth_first (0 ∷ []) 1 gs ≡ true
  pub down : Down 1 gs
  pub under : Sounds far order 0 (g ∷ gs)

-- the tests, as facts
pub sound_facts : (far : List ℕ → List ℕ → Bool) (n : ℕ) (order : List ℕ) (g : Group) (gs : List Group) → sound far n order (g ∷ gs) ≡ true → SoundFacts far n order g gs
unfolding sound all_sound
sound_facts far n order g gs h = record {
  once = conj_first (each_once n order) bs h;
  start = eqb-true g.start 0 (at 0);
  covers = eqb-true g.length n (at 1);
  first = eqb-true g.first 0 (at 2);
  colour = eqb-true g.colour whole (at 3);
  parent = eqb-true g.parent 0 (at 4);
  depth = eqb-true g.depth 0 (at 5);
  some = leb-true 1 g.workers (at 6);
  few = leb-true g.workers max_workers (at 7);
  short = leb-true (length (g ∷ gs)) max_groups (at 8);
  in_order = at 9;
  down = below;
  under = (
    and_left (children_sound far order g (children 0 gs)) (all_sound far order gs (0 + 1) gs) (at 10),
    sounds far order gs 1 gs below (λ k l. refl) (and_right (children_sound far order g (children 0 gs)) (all_sound far order gs (0 + 1) gs) (at 10)),
  );
}
  where
    bs : List Bool
    bs = eqb g.start 0 ∷ eqb g.length n ∷ eqb g.first 0 ∷ eqb g.colour whole ∷ eqb g.parent 0 ∷ eqb g.depth 0 ∷ leb 1 g.workers ∷ leb g.workers max_workers
        ∷ leb (length (g ∷ gs)) max_groups ∷ depth_first (0 ∷ []) 1 gs ∷ all_sound far order gs 0 (g ∷ gs) ∷ []

    at : (k : ℕ) → get_or bs k true ≡ true
    at = conj_at (each_once n order) bs h

    below : Down 1 gs
    below = down (0 ∷ []) 1 gs before-one (at 9)

-- a sound plan's order has all rows
pub sound-long : (far : List ℕ → List ℕ → Bool) (n : ℕ) (order : List ℕ) (gs : List Group) → sound far n order gs ≡ true → length order ≡ n
unfolding sound
sound-long far n order [] h = never h
sound-long far n order (g ∷ gs) h = (once n order (sound_facts far n order g gs h).once).long
