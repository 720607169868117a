-- How often a number stands in a list, for contracts and proofs about orders.
use Rattle.std.specs.Prelude.{List, [], ◌∷◌, ℕ, ◌+◌, eqb}
use Rattle.base.specs.Lists.{bit}

-- how often v stands in the list
abbrev pub count : ℕ → List ℕ → ℕ
count v [] = 0
count v (x ∷ xs) = bit (eqb v x) + count v xs
