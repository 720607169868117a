-- The positions that a group holds, and whose they are.
use mathlib.Core.Path.{◌≡◌, refl, sym, ap, ◌∙◌}
use mathlib.Core.Bool.{Bool, true, false, ◌&&◌}
use Prim.Native.Nat.{ℕ, ◌+◌, ◌≤◌, ◌<◌}
use lib.ListN.{length}
use lib.Dec.{ltb, leb}
use borrow.Author.Tests.{ltb-true, ltb-false, lt-ltb, le-ltb, leb-true, le-leb, lt-leb}
use Rattle.base.proofs.Booleans.{and_false, and_left, and_right}
use Rattle.plan.specs.Groups.{Group}
use Rattle.run.specs.Tree.{Tree, node, holds, owner_in}

-- what it is for a group to hold a position
pub holds_in : (g : Group) (q : ℕ) → holds g q ≡ true → (g.start ≤ q) × (q < g.start + g.length)
unfolding holds
holds_in g q h = (leb-true g.start q (and_left (leb g.start q) (ltb q (g.start + g.length)) h), ltb-true q (g.start + g.length) (and_right (leb g.start q) (ltb q (g.start + g.length)) h))

-- .. and the other way
pub in_holds : (g : Group) (q : ℕ) → g.start ≤ q → q < g.start + g.length → holds g q ≡ true
unfolding holds
in_holds g q a b = rw (le-leb g.start q a) (lt-ltb q (g.start + g.length) b)

-- a position from the start on that is not held lies past the end
pub holds-past : (g : Group) (q : ℕ) → g.start ≤ q → holds g q ≡ false → g.start + g.length ≤ q
unfolding holds
holds-past g q a h = ltb-false q (g.start + g.length) (sym (ap (λ (b : Bool). b && ltb q (g.start + g.length)) (le-leb g.start q a)) ∙ h)

-- a position past the end is not held
pub past-holds : (g : Group) (q : ℕ) → g.start + g.length ≤ q → holds g q ≡ false
unfolding holds
past-holds g q h = rw (le-ltb q (g.start + g.length) h) (and_false (leb g.start q))

-- a position before the start is not held
pub before-holds : (g : Group) (q : ℕ) → q < g.start → holds g q ≡ false
unfolding holds
before-holds g q h = rw (lt-leb g.start q h) refl

-- the owner of a position that the first sibling holds
pub owner_here : (g : Group) (below next : Tree) (leader q : ℕ) → holds g q ≡ true → owner_in leader q (node g below next) ≡ owner_in g.first q below
unfolding owner_in
owner_here g below next leader q h = rw (h, owner_in)

-- .. and of one that it does not hold
pub owner-next : (g : Group) (below next : Tree) (leader q : ℕ) → holds g q ≡ false → owner_in leader q (node g below next) ≡ owner_in leader q next
unfolding owner_in
owner-next g below next leader q h = rw (h, owner_in)
