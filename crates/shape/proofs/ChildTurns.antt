-- Going through the children of a group record by record: `tiles` at the start, after a child, and at the end.
use mathlib.Core.Path.{◌≡◌, refl, sym, ap, ◌∙◌}
use mathlib.Core.Bool.{true, false, ◌&&◌, true≢false}
use mathlib.Core.List.{List, ◌∷◌}
use Prim.Native.Nat.{ℕ, ◌+◌, ◌≤◌, ◌<◌}
use native.Mathlib.Omega.{arith}
use lib.ListN.{drop}
use Rattle.plan.specs.Groups.{Group, records}
use Rattle.plan.specs.Sound.{children, tiled}
use Rattle.plan.specs.Code.Checks.{record_at, below_whole, stands_depth_first, fitting, pending, complete, laid, tiles}
use Rattle.std.proofs.Common.{Option, Some, None}
use Rattle.std.specs.Prelude.{is_some}
use Rattle.shape.specs.Code.Shape.{index_of, NextChild}
use Rattle.plan.proofs.Nested.{children-later, children_at, children-over}
use Rattle.plan.proofs.Laid.{tiled-laid}

module _ (count k : ℕ) (ns : List ℕ) where
  -- the children from the first one on
  pub from_first_lem : (r : Option ℕ) → stands_depth_first count ns ≡ true → NextChild count ns k (k + 1) r → children k (below_whole count ns) ≡ children k (drop (index_of count r) (records count ns))
  from_first_lem r d next = children-later count ns d k ∙ next.same

  pub leaf-tiles : (r : Option ℕ) (g : Group) → stands_depth_first count ns ≡ true → NextChild count ns k (k + 1) r → is_some r ≡ false → tiles g (children k (below_whole count ns)) ≡ true
  unfolding tiles
  leaf-tiles None g d next e = ap (tiles g) (from_first_lem None d next ∙ children-over count k count ns (omega arith))
  leaf-tiles (Some c) g d next e = absurd (true≢false e)

  pub first-tiles : (r : Option ℕ) (s f : ℕ) (g : Group) → stands_depth_first count ns ≡ true → NextChild count ns k (k + 1) r → is_some r ≡ true → s ≡ g.start → f ≡ g.first
      → tiles g (children k (below_whole count ns)) ≡ laid g s f 0 (children k (drop (index_of count r) (records count ns)))
  unfolding tiles
  first-tiles None s f g d next e a b = absurd (true≢false (sym e))
  first-tiles (Some i) s f g d next _ a b =
      let h = next.child i refl in
      ap (tiles g) (from_first_lem (Some i) d next) ∙ some (children_at count k i ns h.0 h.1) ∙ rw (a, b) (tiled-laid g g.start g.first (children k (drop i (records count ns))))
    where
      some : {h : Group} {hs : List Group} → children k (drop i (records count ns)) ≡ h ∷ hs → tiles g (children k (drop i (records count ns))) ≡ tiled g g.start g.first (children k (drop i (records count ns)))
      some e = rw e

  pub next-tiles : (i s f w : ℕ) (g h : Group) → i < count → (record_at ns i).parent ≡ k → h ≡ record_at ns i
      → laid g s f w (children k (drop i (records count ns))) ≡ fitting s f w h && laid g (s + h.length) (f + w) (pending w h) (children k (drop (i + 1) (records count ns)))
  unfolding laid
  next-tiles i s f w g h l e read =
      ap (laid g s f w) (children_at count k i ns l e ∙ ap (λ (x : Group). x ∷ children k (drop (i + 1) (records count ns))) (sym read))

  pub last-tiles : (i s f w : ℕ) (g : Group) → count ≤ i → laid g s f w (children k (drop i (records count ns))) ≡ complete s f w g
  unfolding laid
  last-tiles i s f w g l = ap (laid g s f w) (children-over count k i ns l)
