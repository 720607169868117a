use mathlib.Core.Path.{ap, ◌∙◌}
use mathlib.Core.Bool.{Bool, not}
use mathlib.Core.List.{List}
use Prim.Native.Nat.{ℕ}
use native.Mathlib.Omega.{arith}
use lib.Dec.{eqb}
use lib.ListN.{length, get_or}
use lib.Seq.{take_all}
use borrow.Author.Tests.{eq-eqb, ne_eqb}
use Rattle.base.specs.Lists.{filter, bit}
use Rattle.search.proofs.Degrees.{filter-next, filter-part}
use Rattle.search.proofs.degree.others.Goals as goal
use Rattle.search.proofs.degree.others.Goals.{then-j-v, else-j-v}

pub overflow_add-k : goal.overflow_add-k
overflow_add-k c =
    omega (arith, c.requires, c.loop-j.invariant, filter-part (λ j. not (eqb j c.args.v)) c.args.row.now c.loop-j.j-index)

pub loop-j-preserved : goal.loop-j-preserved
loop-j-preserved c =
    let a = c.args in
    let l = c.loop-j in
    let next = filter-next (λ j. not (eqb j a.v)) a.row.now l.j-index (omega arith) in
    let column = get_or a.row.now l.j-index 0 in
    elim c.if-j-v.branch [
      | then-j-v w ↦ omega (arith, w.k-is, l.invariant, next, ap (λ (b : Bool). bit (not b)) (ne_eqb column a.v w.if-j-v.true))
      | else-j-v w ↦ omega (arith, w.k-is, l.invariant, next, ap (λ (b : Bool). bit (not b)) (eq-eqb column a.v w.if-j-v.false))
    ]

pub returns : goal.returns
returns c =
    let a = c.args in
    let l = c.loop-j in
    l.invariant ∙ ap (λ (xs : List ℕ). length (filter (λ j. not (eqb j a.v)) xs)) (take_all l.j-index a.row.now (omega arith))
