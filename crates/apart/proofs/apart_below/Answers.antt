use mathlib.Core.Path.{refl, sym}
use mathlib.Core.Bool.{true≢false}
use Prim.Native.Nat.{◌+◌}
use native.Mathlib.Omega.{arith}
use Rattle.plan.specs.Groups.{group_of}
use Rattle.apart.proofs.Compare.{comparing_first, comparing_stops, comparing_next, comparing_last, comparing_marks}
use Rattle.apart.proofs.apart_below.Goals as goal

pub loop-next-init : goal.loop-next-init
loop-next-init c = let a = c.args in comparing_first a.subject.now a.parent a.colour a.low a.marks.now c.next_child-next.result c.requires.1 c.next_child-next.ensures

pub record-requires : goal.record-requires
record-requires c = omega (arith, c.args.subject.now.shaped.groups_long, (c.loop-next.invariant.child c.in-Some.i c.in-Some.is).0)

pub returns-then-not-compare_like : goal.returns-then-not-compare_like
returns-then-not-compare_like c =
    let a = c.args in
    let i = c.in-Some.i in
    let before = rw c.in-Some.is at c.loop-next.invariant in
    record {
      is = sym (comparing_stops a.subject.now a.parent a.colour a.low c.loop-next.marks c.compare_like.new.marks i (a.low + i) (group_of c.record.result) before c.record.ensures refl c.if-not-compare_like.ensures);
      marked = λ e. absurd (true≢false (sym e));
    }

pub loop-next-preserved : goal.loop-next-preserved
loop-next-preserved c =
    let a = c.args in
    let i = c.in-Some.i in
    let before = rw c.in-Some.is at c.loop-next.invariant in
    comparing_next a.subject.now a.parent a.colour a.low c.loop-next.marks c.compare_like.new.marks i (a.low + i) (group_of c.record.result) before c.record.ensures refl
    c.next_child-next-in-Some.result c.if-not-compare_like.ensures c.next_child-next-in-Some.ensures

pub returns : goal.returns
returns c =
    let a = c.args in
    let L = c.loop-next in
    record {
      is = sym (comparing_last a.subject.now a.parent a.colour a.low L.marks (rw c.in_default.is at L.invariant));
      marked = λ _. comparing_marks a.subject.now a.parent a.colour a.low L.marks L.next L.invariant;
    }
