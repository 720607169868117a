use mathlib.Core.Path.{◌≡◌, ap, sym, ◌∙◌, subst}
use mathlib.Core.List.{List, map}
use Prim.Native.Nat.{ℕ, ◌+◌, ◌-◌}
use native.Mathlib.Omega.{arith}
use lib.ListN.{take, get_or}
use lib.Seq.{slice, length-slice, take_all}
use Rattle.base.specs.Lists.{concat}
use Rattle.matrix.specs.Matrix.{columns_of}
use Rattle.levels.specs.Code.Graph.{pattern_of}
use Rattle.levels.proofs.Rows.{row_below}
use Rattle.search.specs.Code.Marks.{Marked}
use Rattle.search.proofs.Marks.{marked-lists}
use Rattle.search.proofs.Visited.{slice-get, in_slice}
use Rattle.search.proofs.visiting.Visits.mark_ring.Goals as goal

-- the ring's row at i, in the queue as it was
pub columns_of-requires : goal.columns_of-requires
columns_of-requires c =
    let l = c.loop-i in
    rw l.invariant.1 (c.requires.2 (get_or c.args.self.now.queue l.i 0) (in_slice c.args.self.now.queue c.args.lo l.i c.args.hi (omega arith) (omega arith) (omega (arith, c.requires.1, c.args.graph.now.rows.small))))

pub mark-requires : goal.mark-requires
mark-requires c =
    rw c.columns_of.ensures (λ i k. omega (arith, row_below c.args.graph.now.rows (get_or c.loop-i.self.queue c.loop-i.i 0) i k, c.args.graph.now.rows.small))

pub loop-i-preserved : goal.loop-i-preserved
loop-i-preserved c =
    let a = c.args in
    let l = c.loop-i in
    let q : List ℕ = a.self.now.queue in
    let ring : List ℕ = slice a.lo a.hi q in
    let f : ℕ → List ℕ = columns_of (pattern_of a.graph.now) in
    let next : l.i - a.lo + 1 ≡ l.i + 1 - a.lo = omega (arith, l.auto.i) in
    let row : c.columns_of.result.now ≡ f (get_or ring (l.i - a.lo) 0) = c.columns_of.ensures ∙ ap (λ (xs : List ℕ). f (get_or xs l.i 0)) l.invariant.1 ∙ ap f (sym (slice-get q a.lo l.i a.hi l.auto.i (omega arith))) in (
      subst (λ (k : ℕ). Marked (concat (map f (take k ring))) a.self.now.marks c.mark.new.marks) next
          (marked-lists f ring (l.i - a.lo) (omega (arith, length-slice a.lo a.hi q (omega (arith, a.graph.now.rows.small)))) l.invariant.0 (rw row at c.mark.ensures)),
      l.invariant.1,
    )

pub returns : goal.returns
returns c =
    let a = c.args in
    let ring : List ℕ = slice a.lo a.hi a.self.now.queue in
    let f : ℕ → List ℕ = columns_of (pattern_of a.graph.now) in
    subst (λ (xs : List ℕ). Marked (concat (map f xs)) a.self.now.marks c.loop-i.self.marks)
    (take_all (c.loop-i.i - a.lo) ring (omega (arith, length-slice a.lo a.hi a.self.now.queue (omega (arith, a.graph.now.rows.small))))) c.loop-i.invariant.0
