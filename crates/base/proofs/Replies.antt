-- Laws of replies: checks in turn, and lent lists after a call.
use mathlib.Core.Path.{◌≡◌, refl}
use mathlib.Core.Bool.{Bool, true, false, cond}
use mathlib.Core.List.{List, [], ◌∷◌, ◌++◌}
use Prim.Native.Nat.{ℕ}
use native.Mathlib.Omega.{arith}
use lib.ListN.{length, drop}
use Rattle.base.specs.Lists.{all}
use Rattle.base.specs.Replies.{Reply, accepted, refused, Check, in_turn, lent}
use Rattle.base.proofs.Booleans.{and_left, and_right}
use Rattle.base.proofs.Each.{Each}

module _ {ℓ} {A : Type ℓ} (refuse : (number place : ℕ) → A) (c : Check) (cs : List Check) (a : A) where
  -- the first check holds, or fails
  pub in_turn-pass : c.holds ≡ true → in_turn refuse (c ∷ cs) a ≡ in_turn refuse cs a
  unfolding in_turn
  in_turn-pass h = rw h

  pub in_turn_fail : c.holds ≡ false → in_turn refuse (c ∷ cs) a ≡ refuse c.number c.place
  unfolding in_turn
  in_turn_fail h = rw h

-- checks that all hold refuse nothing
pub in_turn-all {ℓ} : {A : Type ℓ} (refuse : (number place : ℕ) → A) (cs : List Check) (a : A) → all (λ c. c.holds) cs ≡ true → in_turn refuse cs a ≡ a
unfolding in_turn
in_turn-all refuse [] a h = refl
in_turn-all refuse (c ∷ cs) a h = rw (and_left c.holds (all (λ c. c.holds) cs) h) (in_turn-all refuse cs a (and_right c.holds (all (λ c. c.holds) cs) h))

-- what is made of the answer is made of the refusals
pub in_turn-map : {A B : Type 0} (f : A → B) (refuse : (number place : ℕ) → A) (cs : List Check) (a : A) → f (in_turn refuse cs a) ≡ in_turn (λ number place. f (refuse number place)) cs (f a)
unfolding in_turn
in_turn-map f refuse [] a = refl
in_turn-map f refuse (c ∷ cs) a = go c.holds (in_turn-map f refuse cs a)
  where
    go : (t : Bool) → f (in_turn refuse cs a) ≡ in_turn (λ number place. f (refuse number place)) cs (f a)
        → f (cond t (in_turn refuse cs a) (refuse c.number c.place)) ≡ cond t (in_turn (λ number place. f (refuse number place)) cs (f a)) (f (refuse c.number c.place))
    go true e = e
    go false e = refl

-- a call leaves one thing or the other
pub in_turn-either : {A : Type 0} (P : A → Type 0) (a b : A) (cs : List Check) → P a → P b → P (in_turn (λ number place. a) cs b)
unfolding in_turn
in_turn-either P a b [] x y = y
in_turn-either P a b (c ∷ cs) x y = go c.holds (in_turn-either P a b cs x y)
  where
    go : (t : Bool) → P (in_turn (λ number place. a) cs b) → P (cond t (in_turn (λ number place. a) cs b) a)
    go true z = z
    go false z = x

-- the reply of a call that makes one check
abbrev pub checked : Check → Reply
checked c = in_turn refused (c ∷ []) (accepted 0)

module _ (c : Check) where
  pub checked_accepted : (k : ℕ) → accepted k ≡ checked c → c.holds ≡ true
  unfolding in_turn
  checked_accepted k e = go c.holds e
    where
      go : (b : Bool) → accepted k ≡ cond b (accepted 0) (refused c.number c.place) → b ≡ true
      go true e = refl
      go false e = cc

  pub checked_refused : (q p : ℕ) → refused q p ≡ checked c → c.holds ≡ false
  unfolding in_turn
  checked_refused q p e = go c.holds e
    where
      go : (b : Bool) → refused q p ≡ cond b (accepted 0) (refused c.number c.place) → b ≡ false
      go true e = cc
      go false e = refl

module _ {ℓ} {A : Type ℓ} (answer old : List A) where
  pub lent-refused : (r : Reply) (q p : ℕ) → r ≡ refused q p → lent r answer old ≡ old
  unfolding lent
  lent-refused r q p e = rw e

  pub lent-accepted : (r : Reply) (k : ℕ) → r ≡ accepted k → lent r answer old ≡ answer ++ drop (length answer) old
  unfolding lent
  lent-accepted r k e = rw e

-- ---- two calls that differ in what comes after a check, or in their answer

module _ {ℓ} {A : Type ℓ} (refuse : (number place : ℕ) → A) where
  -- what comes after a check matters only where the check holds
  pub in_turn-same : (c : Check) (cs ds : List Check) (a b : A) → (c.holds ≡ true → in_turn refuse cs a ≡ in_turn refuse ds b) → in_turn refuse (c ∷ cs) a ≡ in_turn refuse (c ∷ ds) b
  unfolding in_turn
  in_turn-same c cs ds a b h = go c.holds h
    where
      go : (t : Bool) → (t ≡ true → in_turn refuse cs a ≡ in_turn refuse ds b) → cond t (in_turn refuse cs a) (refuse c.number c.place) ≡ cond t (in_turn refuse ds b) (refuse c.number c.place)
      go true h = h refl
      go false h = refl

-- an accepted call's checks all hold
pub accepted-all : (cs : List Check) (r : Reply) (k : ℕ) → in_turn refused cs r ≡ accepted k → Each (λ (c : Check). c.holds ≡ true) cs
unfolding in_turn
accepted-all [] r k e = tt
accepted-all (c ∷ cs) r k e = go c.holds refl (accepted-all cs r k) e
  where
    go : (t : Bool) → c.holds ≡ t → (in_turn refused cs r ≡ accepted k → Each (λ (c : Check). c.holds ≡ true) cs) → cond t (in_turn refused cs r) (refused c.number c.place) ≡ accepted k → Each (λ (c : Check). c.holds ≡ true) (c ∷ cs)
    go true f h e = (f, h e)
    go false f h e = (let z : ◌≡◌ {A = ℕ} 0 1 = cc in absurd (omega arith))

-- an accepted reply has the count of the call
pub accepted-count : (cs : List Check) (n k : ℕ) → in_turn refused cs (accepted n) ≡ accepted k → n ≡ k
unfolding in_turn
accepted-count [] n k e = cc
accepted-count (c ∷ cs) n k e = go c.holds e (accepted-count cs n k)
  where
    go : (b : Bool) → cond b (in_turn refused cs (accepted n)) (refused c.number c.place) ≡ accepted k → (in_turn refused cs (accepted n) ≡ accepted k → n ≡ k) → n ≡ k
    go true e ih = ih e
    go false e ih = cc

-- an empty answer changes nothing
pub lent_none {ℓ} : {A : Type ℓ} (r : Reply) (old : List A) → lent r [] old ≡ old
unfolding lent
lent_none (accepted k) old = refl
lent_none (refused q p) old = refl

-- the answer matters only where the call is accepted
pub lent_same {ℓ} : {A : Type ℓ} (r : Reply) (a b old : List A) → ((k : ℕ) → r ≡ accepted k → a ≡ b) → lent r a old ≡ lent r b old
unfolding lent
lent_same (accepted k) a b old h = rw (h k refl)
lent_same (refused q p) a b old h = refl
