-- The lists of both crews' runs.
use Rattle.std.specs.Prelude.{Bool, List, ℕ, ℤ}
use Rattle.crews.specs.Crews.{Two}
use Rattle.turns.specs.declared.Crews.{Crews}
use Rattle.turns.specs.declared.both.BothBlocked.{BothBlocked}
use Rattle.turns.specs.declared.both.BothHands.{BothHands}

-- the counts
abbrev pub counts_in : Crews → Two (List ℕ)
counts_in r = record { of0 = r.of0.made; of1 = r.of1.made }

-- the blocked groups, and up to where they stay so
abbrev pub blocks_in : BothBlocked → Two (List Bool)
blocks_in b = record { of0 = b.of0.blocks; of1 = b.of1.blocks }

abbrev pub stops_in : BothBlocked → Two (List ℕ)
stops_in b = record { of0 = b.of0.stops; of1 = b.of1.stops }

-- the updates at hand
abbrev pub targets_in : BothHands → Two (List ℕ)
targets_in h = record { of0 = h.of0.targets; of1 = h.of1.targets }

abbrev pub adds_in : BothHands → Two (List ℤ)
adds_in h = record { of0 = h.of0.adds; of1 = h.of1.adds }
