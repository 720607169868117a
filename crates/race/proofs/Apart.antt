-- Parts that keep apart pass the test of soundness.
use mathlib.Core.Path.{◌≡◌, refl}
use mathlib.Core.Bool.{Bool, true, false, not, ◌&&◌}
use mathlib.Core.List.{List, [], ◌∷◌}
use Prim.Native.Nat.{ℕ, ◌+◌}
use lib.Dec.{eqb}
use lib.ListN.{length, take, drop}
use borrow.Author.Tests.{eqb-true}
use Rattle.base.specs.Lists.{any}
use Rattle.base.specs.Near.{near}
use Rattle.base.proofs.Lists.{any-get}
use Rattle.base.proofs.Each.{Each, Pairwise}
use Rattle.base.proofs.Near.{near-one}
use Rattle.levels.proofs.Own.{Beyond}
use Rattle.plan.specs.Sound.{beyond, stretch_of, like_apart}
use Rattle.race.proofs.Parts.{Part, record_of, records_of}
use Rattle.race.proofs.Colours.{Across, Like}
use Rattle.race.proofs.Placed.{Sub, Covers}

module _ (adj : ℕ → List ℕ) (reach : ℕ) where
  -- rows that no path of reach joins or fewer links, each from each
  beyond_test : (xs ys : List ℕ) → Across (Beyond adj reach) xs ys → beyond adj reach xs ys ≡ true
  unfolding beyond
  beyond_test xs ys h = go (any (near adj reach xs) ys) refl
    where
      go : (b : Bool) → any (near adj reach xs) ys ≡ b → not b ≡ true
      go true e =
          let (v, hv, k) = any-get (near adj reach xs) ys e in
          let (u, hu, l) = near-one adj reach xs v k in
          absurd (h u v hu hv l)
      go false e = refl

  module _ (O : List ℕ) (up depth : ℕ) where
    -- no later part of the same colour is near x
    none-near : (x : Part) (s : ℕ) → Sub (take (length x.rows) (drop s O)) x.rows → (t : ℕ) (ys : List Part) → Covers O t ys → Each (Like (Beyond adj reach) x) ys
        → any (λ h. eqb x.colour h.colour && not (beyond adj reach (stretch_of O (record_of up depth s x)) (stretch_of O h))) (records_of up depth t ys) ≡ false
    unfolding stretch_of
    none-near x s sub t [] c l = refl
    none-near x s sub t (y ∷ ys) c l = rw (go (eqb x.colour y.colour) refl) (none-near x s sub (t + length y.rows) ys c.1 l.1)
      where
        go : (b : Bool) → eqb x.colour y.colour ≡ b → b && not (beyond adj reach (take (length x.rows) (drop s O)) (take (length y.rows) (drop t O))) ≡ false
        go true e =
            rw (beyond_test (take (length x.rows) (drop s O)) (take (length y.rows) (drop t O))
            (λ u v hu hv. l.0 (eqb-true x.colour y.colour e) u v (sub u hu) (c.0 v hv))) refl
        go false e = refl

    -- like-coloured parts that are apart, each where its record says
    pub like-apart : (s : ℕ) (xs : List Part) → Covers O s xs → Pairwise (Like (Beyond adj reach)) xs → like_apart (beyond adj reach) O (records_of up depth s xs) ≡ true
    unfolding like_apart
    like-apart s [] c l = refl
    like-apart s (x ∷ xs) c l = rw (none-near x s c.0 (s + length x.rows) xs c.1 l.0) (like-apart (s + length x.rows) xs c.1 l.1)
