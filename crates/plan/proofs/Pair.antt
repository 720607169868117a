-- What `tiled` says of the first two children, and of where children end.
use mathlib.Core.Path.{◌≡◌, sym}
use mathlib.Core.Bool.{Bool, true, true≢false}
use mathlib.Core.List.{List, [], ◌∷◌}
use Prim.Native.Nat.{ℕ, ◌+◌, ◌≤◌}
use native.Mathlib.Omega.{arith}
use lib.ListN.{get_or}
use lib.Dec.{eqb, leb}
use borrow.Author.Tests.{eqb-true, leb-true}
use Rattle.base.proofs.Booleans.{and_left, conj_first, conj_at}
use Rattle.plan.specs.Groups.{Group, red, blue}
use Rattle.plan.specs.Sound.{tiled}

-- r and b are the first two children of g from position s and worker f on
pub record Pair (g : Group) (s f : ℕ) (r b : Group) (ks : List Group) : Type 0 where
  pub is_red : r.colour ≡ red
  pub is_blue : b.colour ≡ blue
  pub here : r.start ≡ s
  pub then : b.start ≡ s + r.length
  pub first_r : r.first ≡ f
  pub first_b : b.first ≡ f
  pub some : 1 ≤ r.workers
  pub alike : b.workers ≡ r.workers
  pub rest : tiled g (s + r.length + b.length) (f + r.workers) ks ≡ true

-- the tests of `tiled`, as facts
pub pair_of : (g : Group) (s f : ℕ) (r b : Group) (ks : List Group) → tiled g s f (r ∷ b ∷ ks) ≡ true → Pair g s f r b ks
unfolding tiled
pair_of g s f r b ks h =
    let bs : List Bool = eqb b.colour blue ∷ eqb r.start s ∷ eqb b.start (s + r.length) ∷ eqb r.first f ∷ eqb b.first f ∷ leb 1 r.workers ∷ eqb b.workers r.workers
    ∷ tiled g (s + r.length + b.length) (f + r.workers) ks ∷ [] in
    let t : (k : ℕ) → get_or bs k true ≡ true = conj_at (eqb r.colour red) bs h in
    record {
      is_red = eqb-true r.colour red (conj_first (eqb r.colour red) bs h);
      is_blue = eqb-true b.colour blue (t 0);
      here = eqb-true r.start s (t 1);
      then = eqb-true b.start (s + r.length) (t 2);
      first_r = eqb-true r.first f (t 3);
      first_b = eqb-true b.first f (t 4);
      some = leb-true 1 r.workers (t 5);
      alike = eqb-true b.workers r.workers (t 6);
      rest = t 7;
    }

-- the children from position s on end where their parent ends
pub tiled-le : (g : Group) (s f : ℕ) (ks : List Group) → tiled g s f ks ≡ true → s ≤ g.start + g.length
unfolding tiled
tiled-le g s f [] h = let e : s ≡ g.start + g.length = eqb-true s (g.start + g.length) (and_left (eqb s (g.start + g.length)) (eqb f (g.first + g.workers)) h) in omega arith
tiled-le g s f (r ∷ []) h = absurd (true≢false (sym h))
tiled-le g s f (r ∷ b ∷ ks) h = omega (arith, tiled-le g (s + r.length + b.length) (f + r.workers) ks (pair_of g s f r b ks h).rest)
