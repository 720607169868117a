use native.Mathlib.Omega.{arith}
use Prim.Native.Nat.{◌-◌}
use lib.ListN.{get_or}
use Rattle.loads.specs.Code.Stretches.{levels_in}
use Rattle.loads.proofs.Weights.{load_split, weighed-part}
use Rattle.loads.proofs.LevelLoads.{loading_start, loading_next, loading_end, level_start, level_end, sum_level}
use Rattle.loads.proofs.level_loads.Goals as goal

pub loop-k-init : goal.loop-k-init
loop-k-init c =
    let a = c.args in
    loading_start a.keys.now a.ends.now a.stretch.now (levels_in 0 a.ends.now a.stretch.now) c.requires.1 c.requires.2 a.loads.now (omega arith)

pub overflow_cast-to : goal.overflow_cast-to
overflow_cast-to c = omega (arith, c.type_inv.ends c.loop-k.k)

pub slice_bounds-load-count : goal.slice_bounds-load-count
slice_bounds-load-count c =
    let a = c.args in
    let l = c.loop-k in
    level_start a.keys.now a.ends.now a.stretch.now (levels_in 0 a.ends.now a.stretch.now) c.requires.1 c.requires.2 l.loads l.sum l.from l.k l.invariant (omega arith)

pub load-q-requires : goal.load-q-requires
load-q-requires c =
    let a = c.args in
    let l = c.loop-k in
    weighed-part a.keys.now a.stretch.now l.from (get_or a.ends.now l.k 0 - l.from) c.requires.0

pub bounds-loads-k : goal.bounds-loads-k
bounds-loads-k c = omega (arith, c.loop-k.invariant.long, c.requires.2)

pub overflow_add-sum : goal.overflow_add-sum
overflow_add-sum c =
    let a = c.args in
    let l = c.loop-k in
    omega (
      arith,
      sum_level a.keys.now a.ends.now a.stretch.now (levels_in 0 a.ends.now a.stretch.now) c.requires.1 c.requires.2 l.loads l.sum l.from l.k l.invariant (omega arith) c.load-q.result c.load-q.ensures,
      load_split a.keys.now (get_or a.ends.now l.k 0) a.stretch.now,
      c.requires.0.few,
    )

pub loop-k-preserved : goal.loop-k-preserved
loop-k-preserved c =
    let a = c.args in
    let l = c.loop-k in
    loading_next a.keys.now a.ends.now a.stretch.now (levels_in 0 a.ends.now a.stretch.now) c.requires.1 c.requires.2 l.loads l.sum l.from l.k l.invariant (omega arith) c.load-q.result c.load-q.ensures

pub returns : goal.returns
returns c =
    let a = c.args in
    let l = c.loop-k in
    loading_end a.keys.now a.ends.now a.stretch.now (levels_in 0 a.ends.now a.stretch.now) c.requires.1 c.requires.2 l.loads l.sum l.from l.k l.invariant (omega arith)

pub slice_bounds-load-start : goal.slice_bounds-load-start
slice_bounds-load-start c =
    let a = c.args in
    let l = c.loop-k in
    level_start a.keys.now a.ends.now a.stretch.now (levels_in 0 a.ends.now a.stretch.now) c.requires.1 c.requires.2 l.loads l.sum l.from l.k l.invariant (omega arith)

pub slice_bounds-load-end : goal.slice_bounds-load-end
slice_bounds-load-end c =
    let a = c.args in
    let l = c.loop-k in
    level_end a.keys.now a.ends.now a.stretch.now (levels_in 0 a.ends.now a.stretch.now) c.requires.1 c.requires.2 l.loads l.sum l.from l.k l.invariant (omega arith)
