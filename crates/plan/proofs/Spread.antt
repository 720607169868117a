-- Children that tile their parent have stretches one after the other, so their rows are disjoint.
use mathlib.Core.Path.{◌≡◌, sym, ◌∙◌}
use mathlib.Core.Logic.{◌⊎◌}
use mathlib.Core.Bool.{true}
use mathlib.Core.List.{List, [], ◌∷◌}
use Prim.Native.Nat.{ℕ, ◌+◌, ◌≤◌, ◌<◌}
use native.Mathlib.Omega.{arith}
use lib.ListN.{length, get_or, take, drop, length-take, length-drop}
use lib.Seq.{get_or-take, get_or-drop}
use Rattle.base.specs.Lists.{is_in}
use Rattle.base.proofs.Booleans.{and_left, and_right}
use Rattle.base.proofs.Each.{Each, Pairwise, each_map}
use Rattle.base.proofs.Lists.{get_in}
use Rattle.plan.specs.Groups.{Group, red, blue}
use Rattle.plan.specs.Sound.{stretch_of}
use Rattle.plan.specs.Code.Checks.{fitting, pending, laid, tiles}
use Rattle.plan.proofs.Laid.{fits, tiled-laid}
use Rattle.plan.proofs.Once.{Once, injective}

-- y stands after x
abbrev pub After : Group → Group → Type 0
After x y = x.start + x.length ≤ y.start

-- the children from position s on: each one after those before it, red or blue
pub record Spread (s : ℕ) (ks : List Group) : Type 0 where
  pub from_on : Each (λ k. s ≤ k.start) ks
  pub in-turn : Pairwise After ks
  pub colours : Each (λ k. (k.colour ≡ red) ⊎ (k.colour ≡ blue)) ks

laid_spread : (g : Group) (s f w : ℕ) (ks : List Group) → laid g s f w ks ≡ true → Spread s ks
unfolding laid
laid_spread g s f w [] h = record { from_on = tt; in-turn = tt; colours = tt }
laid_spread g s f w (k ∷ ks) h =
    let rest = laid g (s + k.length) (f + w) (pending w k) ks in
    let first = fits s f w k (and_left (fitting s f w k) rest h) in
    let r = laid_spread g (s + k.length) (f + w) (pending w k) ks (and_right (fitting s f w k) rest h) in
    record {
      from_on = (omega (arith, first.start), each_map (λ x. s + k.length ≤ x.start) (λ x. s ≤ x.start) (λ x l. omega arith) ks r.from_on);
      in-turn = (each_map (λ x. s + k.length ≤ x.start) (After k) (λ x l. omega (arith, first.start)) ks r.from_on, r.in-turn);
      colours = (first.colour, r.colours);
    }

pub tiles_spread : (g : Group) (ks : List Group) → tiles g ks ≡ true → Spread g.start ks
unfolding tiles
tiles_spread g [] h = record { from_on = tt; in-turn = tt; colours = tt }
tiles_spread g (k ∷ ks) h = laid_spread g g.start g.first 0 (k ∷ ks) (sym (tiled-laid g g.start g.first (k ∷ ks)) ∙ h)

-- the place in the order of a row of a group
place : (order : List ℕ) (g : Group) (v : ℕ) → is_in (stretch_of order g) v ≡ true
    → (p : ℕ) × (g.start ≤ p) × (p < g.start + g.length) × (p < length order) × (get_or order p 0 ≡ v)
unfolding stretch_of
place order g v h =
    let (i, l, e) = get_in (take g.length (drop g.start order)) v h in
    let long = length-take g.length (drop g.start order) in
    let short : i < g.length = omega arith in
    (g.start + i, omega arith, omega arith, omega (arith, length-drop g.start order), sym (get_or-take g.length (drop g.start order) i 0 short ∙ get_or-drop g.start order i 0) ∙ e)

-- stretches one after the other have no row in common
pub after_disjoint : (n : ℕ) (order : List ℕ) → Once n order → (x y : Group) → After x y → (v : ℕ) → is_in (stretch_of order x) v ≡ true → is_in (stretch_of order y) v ≡ true → ⊥
after_disjoint n order once x y after v a b =
    let (p, p₁, p₂, p₃, p₄) = place order x v a in
    let (q, q₁, q₂, q₃, q₄) = place order y v b in
    injective n order once p q (omega (arith, once.long)) (omega (arith, once.long)) (λ (e : p ≡ q). omega arith) (p₄ ∙ sym q₄)
