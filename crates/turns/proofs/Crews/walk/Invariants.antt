-- `turns::Crews::walk` meets its contract: k picks are taken.
use mathlib.Core.Path.{◌≡◌}
use lib.ListN.{length}
use Rattle.turns.specs.Records.{states_of}
use Rattle.turns.specs.Code.Lists.{blocks_in, stops_in, targets_in, adds_in}
use Rattle.turns.proofs.SharedLoop.{Sharing, tables_in}
use Rattle.turns.proofs.Crews.walk.Given as goal

abbrev pub invariant-loop-k : goal.invariant-loop-k
invariant-loop-k l =
    (length l.sums0 ≡ length l.initial.sums0) × (length l.sums1 ≡ length l.initial.sums1)
    × Sharing (tables_in l.work0 l.work1) (states_of l.initial.crews l.initial.sums0 l.initial.sums1) l.schedule l.k (states_of l.crews l.sums0 l.sums1)
    (blocks_in l.blocked) (stops_in l.blocked) (targets_in l.hands) (adds_in l.hands)
