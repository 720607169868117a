-- A sequence of calls, each "handed both as the last one left them": state and sums. Of any kind of state, call and
-- answer.
use Rattle.std.specs.Prelude.{List, [], ◌∷◌}

module _ {S C A : Type 0} (answer : S → C → A) (after : S → C → S) where
  unfoldable pub answers_from : S → List C → List A
  answers_from s [] = []
  answers_from s (c ∷ cs) = answer s c ∷ answers_from (after s c) cs

module _ {S C : Type 0} (after : S → C → S) where
  unfoldable pub state_after : S → List C → S
  state_after s [] = s
  state_after s (c ∷ cs) = state_after (after s c) cs
