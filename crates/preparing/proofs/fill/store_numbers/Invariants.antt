-- `store_numbers` meets its contract: k numbers are stored.
use lib.ListN.{length, get_or}
use Rattle.preparing.proofs.Fills.{Filling, four_of, four_long}
use Rattle.preparing.proofs.fill.store_numbers.Given as goal

abbrev pub invariant-loop-k : goal.invariant-loop-k
invariant-loop-k l =
    Filling (four_of (λ i. get_or l.numbers i 0)) 4 (four_long (λ i. get_or l.numbers i 0)) l.initial.out l.from (length l.numbers) l.out l.k
