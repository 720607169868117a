-- Two calls that make the same checks: they are refused alike, and go on alike.
use mathlib.Core.Path.{◌≡◌, refl}
use mathlib.Core.Bool.{Bool, true, false, cond}
use mathlib.Core.List.{List, [], ◌∷◌}
use Prim.Native.Nat.{ℕ}
use Rattle.base.specs.Replies.{Reply, accepted, refused, Check, in_turn}

module _ {ℓ} {A : Type ℓ} (refuse : (number place : ℕ) → A) (a : A) (r : Reply) where
  -- the reply of the one is a refusal: the answer of the other is, too
  pub turn-refused : (cs : List Check) (q p : ℕ) → (r ≡ refused q p → a ≡ refuse q p) → in_turn refused cs r ≡ refused q p → in_turn refuse cs a ≡ refuse q p
  unfolding in_turn
  turn-refused [] q p h e = h e
  turn-refused (c ∷ cs) q p h e = go c.holds (turn-refused cs q p h) e
    where
      go : (b : Bool) → (in_turn refused cs r ≡ refused q p → in_turn refuse cs a ≡ refuse q p) → cond b (in_turn refused cs r) (refused c.number c.place) ≡ refused q p
          → cond b (in_turn refuse cs a) (refuse c.number c.place) ≡ refuse q p
      go true h e = h e
      go false h e =
          let qe : c.number ≡ q = cc in
          let pe : c.place ≡ p = cc in
          rw (qe, pe)

  -- the one is accepted: the other makes its answer
  pub turn-accepted : (cs : List Check) (k : ℕ) → in_turn refused cs r ≡ accepted k → (r ≡ accepted k) × (in_turn refuse cs a ≡ a)
  unfolding in_turn
  turn-accepted [] k e = (e, refl)
  turn-accepted (c ∷ cs) k e = go c.holds (turn-accepted cs k) e
    where
      go : (b : Bool) → (in_turn refused cs r ≡ accepted k → (r ≡ accepted k) × (in_turn refuse cs a ≡ a)) → cond b (in_turn refused cs r) (refused c.number c.place) ≡ accepted k
          → (r ≡ accepted k) × (cond b (in_turn refuse cs a) (refuse c.number c.place) ≡ a)
      go true h e = h e
      go false h e = (cc, cc)
