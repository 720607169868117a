-- Marks that say which rows are in a list: none at first, and the test that every row is marked.
use mathlib.Core.Path.{◌≡◌, sym, ◌∙◌}
use mathlib.Core.Bool.{Bool, true, false}
use mathlib.Core.List.{List, []}
use Prim.Native.Nat.{ℕ, ◌≤◌, ◌<◌}
use native.Mathlib.Omega.{arith}
use lib.ListN.{length, get_or, take, replicate, length-replicate, get_or-replicate}
use lib.Seq.{length-take-le, get_or-take}
use Rattle.std.specs.Prelude.{IsTrue, ◌↔◌}
use borrow.Author.Tests.{eq-eqb}
use Rattle.base.specs.Lists.{all, is_in, range}
use Rattle.base.proofs.Booleans.{both_ways}
use Rattle.base.proofs.Lists.{all-range, range_all}
use Rattle.matrix.specs.Limits.{max_rows}
use Rattle.plan.specs.Sound.{each_once}
use Rattle.shape.specs.Code.Shape.{Seen}

-- no row is marked at first
pub seen_none : (n k : ℕ) → k ≡ max_rows → n ≤ k → Seen n [] (replicate k false)
seen_none n k e l = record { long = length-replicate k false ∙ e; is = λ v h. get_or-replicate k v false false (omega arith) }

-- every row is marked: then the order, which is long enough, has each once
module _ (n : ℕ) (order : List ℕ) (marks : List Bool) (long : n ≤ length order) (few : n ≤ length marks) (seen : Seen n (take n order) marks) where
  row : (v : ℕ) → v < n → get_or (take n marks) v false ≡ is_in (take n order) v
  row v l = get_or-take n marks v false l ∙ seen.is v l

  pub seen_once : (r : Bool) → IsTrue r ↔ ((k : ℕ) → k < length (take n marks) → get_or (take n marks) k false ≡ true) → r ≡ each_once n (take n order)
  unfolding each_once
  seen_once r is =
      let size : length (take n marks) ≡ n = length-take-le n marks few in
      rw (eq-eqb (length (take n order)) n (length-take-le n order long))
      (both_ways r (all (is_in (take n order)) (range 0 n))
      (λ e. range_all (is_in (take n order)) n (λ v l. sym (row v l) ∙ is.0 e v (omega arith)))
      (λ e. is.1 (λ k l. let here : k < n = omega arith in row k here ∙ all-range (is_in (take n order)) n k e here)))
