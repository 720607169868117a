-- What a call replies, and what it leaves in a lent list.
use Rattle.std.specs.Prelude.{Bool, cond, List, [], ◌∷◌, ◌++◌, ℕ, leb, length, drop}
use Rattle.base.specs.Refusals as why

-- "Each is a number and a place (0 unless named); an accepted call has number 0": accepted, with the call's count, or
-- refused
pub data Reply : Type 0 where
  accepted : (count : ℕ) → Reply
  refused : (number place : ℕ) → Reply

-- a condition that a call checks, and its refusal where it does not hold
pub record Check : Type 0 where
  pub holds : Bool
  pub number : ℕ
  pub place : ℕ

abbrev pub check : (number : ℕ) → Bool → Check
check number holds = record { holds = holds; number = number; place = 0 }

module _ {ℓ} {A : Type ℓ} where
  -- "Elsewhere 5, 6, 7, 8, 11, 9 as they apply": the first check that fails refuses, else the answer is as given
  unfoldable pub in_turn : (refuse : (number place : ℕ) → A) → List Check → A → A
  in_turn refuse [] a = a
  in_turn refuse (c ∷ cs) a = cond c.holds (in_turn refuse cs a) (refuse c.number c.place)

-- "9: a lent list is too short (length needed ..)"; room is the list's length
abbrev pub room_for : (needed room : ℕ) → Check
room_for needed room = record { holds = leb needed room; number = why.too_short; place = needed }

module _ {ℓ} {A : Type ℓ} where
  -- A lent list after a call: "Places past the answer are unchanged", and on a refusal the whole list is
  unfoldable pub lent : Reply → (answer old : List A) → List A
  lent (accepted k) answer old = answer ++ drop (length answer) old
  lent (refused q p) answer old = old
