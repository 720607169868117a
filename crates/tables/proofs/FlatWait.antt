-- The wait of a plan is what is found on the way down from the whole.
use mathlib.Core.Path.{◌≡◌, refl, ap, ◌∙◌}
use mathlib.Core.Bool.{Bool, true, false, ◌||◌}
use mathlib.Core.List.{List, ◌∷◌}
use Prim.Native.Nat.{ℕ, ◌<◌}
use native.Mathlib.Omega.{arith}
use borrow.Author.Tests.{ne_eqb}
use Rattle.base.proofs.Booleans.{or_false}
use Rattle.plan.specs.Groups.{Group, blue}
use Rattle.plan.specs.Sound.{apart, sound}
use Rattle.plan.proofs.Sound.{SoundFacts, sound_facts}
use Rattle.run.specs.Tree.{forest, tree, blocked}
use Rattle.run.proofs.Holds.{in_holds}
use Rattle.tables.proofs.FlatOpen.{open_reds, red-flat}
use Rattle.tables.proofs.WayDown.{blocked_from, blocked-from}

module _ (adj : ℕ → List ℕ) (n : ℕ) (order : List ℕ) (g : Group) (gs : List Group) (ok : sound (apart adj) n order (g ∷ gs) ≡ true) (fin : Group → Bool) (q : ℕ) (low : q < n) where
  facts : SoundFacts (apart adj) n order g gs
  facts = sound_facts (apart adj) n order g gs ok

  abbrev opened : ℕ → Bool
  opened up = open_reds fin up 1 gs

  -- the wait is what is found on the way down from the whole
  pub wait_down : blocked fin q (tree (g ∷ gs)) (tree (g ∷ gs)) ≡ blocked_from q opened 0 1 gs
  unfolding tree blocked
  wait_down =
      rw (in_holds g q (omega (arith, facts.start)) (omega (arith, facts.start, facts.covers)), ne_eqb g.colour blue (λ e. omega (arith, facts.colour)))
      (ap (λ (b : Bool). b || false) (blocked-from q fin opened 0 1 gs (forest 0 1 gs) facts.down (λ k x. refl) (red-flat fin 0 1 gs)) ∙ or_false (blocked_from q opened 0 1 gs))
