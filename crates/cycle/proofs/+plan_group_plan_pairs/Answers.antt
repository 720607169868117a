-- The answers of the two planners: c.requires is the task that each is given, and that there is room for the rows in two lists.
use mathlib.Core.Path.{refl, sym, ap}
use native.Mathlib.Omega.{arith}
use lib.ListN.{length, length-drop}
use lib.Seq.{length-take-le}
use Rattle.sort.specs.Code.Sort.{max_levels}
use Rattle.base.proofs.Lists.{get_d_zeros}
use Rattle.levels.proofs.Members.{proper-short}
use Rattle.cycle.proofs.GroupTasks.{record_room, held-stages, held-workers, held-levels, ends_in, ends-length, levelled_in, ends-few, weighed, loads_in, pairs_task, split-holds}
use Rattle.cycle.proofs.PairTasks.{next_asked, parts_in, levels_in_ends, pair_fits, red_task, blue_task, in-one, in-two, last-held, rest_task, next-held, part_to_end}
use Rattle.cycle.proofs.+plan_group_plan_pairs.Goals as goal

pub plan_group-put-requires : goal.plan_group-put-requires
plan_group-put-requires t c = record_room c.requires.0

pub plan_group-returns-then-stages-eq0 : goal.plan_group-returns-then-stages-eq0
plan_group-returns-then-stages-eq0 t c = held-stages c.requires.0 c.put.ensures c.if-stages-eq0.true

pub plan_group-returns-then-group-lt2 : goal.plan_group-returns-then-group-lt2
plan_group-returns-then-group-lt2 t c = held-workers c.requires.0 c.put.ensures c.if-group-lt2.true

pub plan_group-level_sort-m-requires : goal.plan_group-level_sort-m-requires
plan_group-level_sort-m-requires t c =
    let short = proper-short c.requires.0.proper in
    (c.requires.0.proper, record { long = refl; zero = get_d_zeros max_levels }, c.args.setting.now.policy.some, omega (arith, short, c.requires.1), omega (arith, short, c.requires.2))

pub plan_group-returns-then-m-reach : goal.plan_group-returns-then-m-reach
plan_group-returns-then-m-reach t c = held-levels c.requires.0 c.put.ensures c.level_sort-m.ensures c.if-m-reach.true

pub plan_group-slice_bounds-ends-end : goal.plan_group-slice_bounds-ends-end
plan_group-slice_bounds-ends-end t c = ends_in c.requires.0 c.level_sort-m.ensures

pub plan_group-slice_bounds-level_loads-end : goal.plan_group-slice_bounds-level_loads-end
plan_group-slice_bounds-level_loads-end t c = sym (ends-length c.requires.0 c.level_sort-m.ensures)

pub plan_group-level_loads-load-requires : goal.plan_group-level_loads-load-requires
plan_group-level_loads-load-requires t c =
    let e = c.level_sort-m.ensures in
    let l = c.if-m-reach.false in
    (weighed c.requires.0 e l, levelled_in c.requires.0 e l, ends-few c.requires.0 e l)

pub plan_group-slice_bounds-ends-end-2 : goal.plan_group-slice_bounds-ends-end-2
plan_group-slice_bounds-ends-end-2 t c = ends_in c.requires.0 c.level_sort-m.ensures

pub plan_group-slice_bounds-levels-end : goal.plan_group-slice_bounds-levels-end
plan_group-slice_bounds-levels-end t c = sym (ends-length c.requires.0 c.level_sort-m.ensures)

pub plan_group-slice_bounds-loads-end : goal.plan_group-slice_bounds-loads-end
plan_group-slice_bounds-loads-end t c = loads_in c.requires.0 c.level_sort-m.ensures c.if-m-reach.false c.level_loads-load.ensures

pub plan_group-slice_bounds-levels-end-2 : goal.plan_group-slice_bounds-levels-end-2
plan_group-slice_bounds-levels-end-2 t c =
    sym (length-take-le _ _ (loads_in c.requires.0 c.level_sort-m.ensures c.if-m-reach.false c.level_loads-load.ensures))

pub plan_group-invariant_of-rest : goal.plan_group-invariant_of-rest
plan_group-invariant_of-rest t c = record {
  scale = (pairs_task c.requires.0 c.level_sort-m.ensures c.if-m-reach.false c.level_loads-load.ensures c.if-stages-eq0.false c.if-group-lt2.false c.put.auto.numbers).scale;
}

pub plan_group-plan_pairs-requires : goal.plan_group-plan_pairs-requires
plan_group-plan_pairs-requires t c =
    let e = c.level_sort-m.ensures in (
      omega (arith, c.decreases, c.if-stages-eq0.false, ends-few c.requires.0 e c.if-m-reach.false),
      (
        pairs_task c.requires.0 e c.if-m-reach.false c.level_loads-load.ensures c.if-stages-eq0.false c.if-group-lt2.false c.put.auto.numbers,
        omega (arith, c.requires.1, c.level_sort-m.auto.own),
        omega (arith, c.requires.2, c.level_sort-m.auto.roots),
      ),
    )

pub plan_group-returns : goal.plan_group-returns
plan_group-returns t c =
    split-holds c.requires.0 c.level_sort-m.ensures c.if-m-reach.false c.level_loads-load.ensures c.if-stages-eq0.false c.if-group-lt2.false c.put.auto.numbers c.put.ensures c.plan_pairs.ensures

pub plan_pairs-next_pair-pair-requires : goal.plan_pairs-next_pair-pair-requires
plan_pairs-next_pair-pair-requires t c = next_asked c.requires.0

pub plan_pairs-invariant_of-taken : goal.plan_pairs-invariant_of-taken
plan_pairs-invariant_of-taken t c = record { fits = pair_fits c.requires.0 c.next_pair-pair.ensures }

pub plan_pairs-slice_bounds-plan_group-end : goal.plan_pairs-slice_bounds-plan_group-end
plan_pairs-slice_bounds-plan_group-end t c = omega (arith, parts_in c.requires.0 c.next_pair-pair.ensures)

pub plan_pairs-slice_bounds-plan_group-end-2 : goal.plan_pairs-slice_bounds-plan_group-end-2
plan_pairs-slice_bounds-plan_group-end-2 t c =
    sym (length-take-le c.next_pair-pair.result.reds c.args.order.now (omega (arith, parts_in c.requires.0 c.next_pair-pair.ensures)))

pub plan_pairs-plan_group-i-requires : goal.plan_pairs-plan_group-i-requires
plan_pairs-plan_group-i-requires t c =
    (omega (arith, c.decreases), (rw c.red.ensures (red_task c.requires.0 c.next_pair-pair.ensures), c.requires.1, c.requires.2))

pub plan_pairs-slice_bounds-plan_group-count : goal.plan_pairs-slice_bounds-plan_group-count
plan_pairs-slice_bounds-plan_group-count t c = omega (arith, parts_in c.requires.0 c.next_pair-pair.ensures)

pub plan_pairs-slice_bounds-plan_group-start : goal.plan_pairs-slice_bounds-plan_group-start
plan_pairs-slice_bounds-plan_group-start t c = omega (arith, parts_in c.requires.0 c.next_pair-pair.ensures)

pub plan_pairs-slice_bounds-plan_group-end-3 : goal.plan_pairs-slice_bounds-plan_group-end-3
plan_pairs-slice_bounds-plan_group-end-3 t c =
    let r = c.plan_group-i in
    in-one c.requires.0 c.next_pair-pair.ensures c.red.ensures r.ensures r.auto.order r.auto.records

pub plan_pairs-plan_group-j-requires : goal.plan_pairs-plan_group-j-requires
plan_pairs-plan_group-j-requires t c =
    let r = c.plan_group-i in (
      omega (arith, c.decreases),
      (
        rw c.blue.ensures (blue_task c.requires.0 c.next_pair-pair.ensures c.red.ensures r.ensures r.auto.order r.auto.records),
        omega (arith, c.requires.1, r.auto.own),
        omega (arith, c.requires.2, r.auto.roots),
      ),
    )

pub plan_pairs-returns-then-k-levels : goal.plan_pairs-returns-then-k-levels
plan_pairs-returns-then-k-levels t c =
    let r = c.plan_group-i in
    let b = c.plan_group-j in
    last-held c.requires.0 c.next_pair-pair.ensures c.red.ensures r.ensures r.auto.order r.auto.records c.blue.ensures b.ensures b.auto.order b.auto.records c.if-k-levels.true

pub plan_pairs-slice_bounds-plan_pairs-count : goal.plan_pairs-slice_bounds-plan_pairs-count
plan_pairs-slice_bounds-plan_pairs-count t c =
    let r = c.plan_group-i in
    let b = c.plan_group-j in
    in-two c.requires.0 c.next_pair-pair.ensures c.red.ensures r.ensures r.auto.order r.auto.records c.blue.ensures b.ensures b.auto.order b.auto.records

pub plan_pairs-slice_bounds-plan_pairs-start : goal.plan_pairs-slice_bounds-plan_pairs-start
plan_pairs-slice_bounds-plan_pairs-start t c =
    let r = c.plan_group-i in
    let b = c.plan_group-j in
    in-two c.requires.0 c.next_pair-pair.ensures c.red.ensures r.ensures r.auto.order r.auto.records c.blue.ensures b.ensures b.auto.order b.auto.records

pub plan_pairs-offset_bounds-levels-k : goal.plan_pairs-offset_bounds-levels-k
plan_pairs-offset_bounds-levels-k t c = record { fits = omega (arith, levels_in_ends c.requires.0 c.next_pair-pair.ensures) }

pub plan_pairs-slice_bounds-later-count : goal.plan_pairs-slice_bounds-later-count
plan_pairs-slice_bounds-later-count t c = omega (arith, levels_in_ends c.requires.0 c.next_pair-pair.ensures)

pub plan_pairs-slice_bounds-later-start : goal.plan_pairs-slice_bounds-later-start
plan_pairs-slice_bounds-later-start t c = omega (arith, levels_in_ends c.requires.0 c.next_pair-pair.ensures)

pub plan_pairs-offset_bounds-levels-k-2 : goal.plan_pairs-offset_bounds-levels-k-2
plan_pairs-offset_bounds-levels-k-2 t c = record { fits = omega (arith, levels_in_ends c.requires.0 c.next_pair-pair.ensures) }

pub plan_pairs-slice_bounds-later-count-2 : goal.plan_pairs-slice_bounds-later-count-2
plan_pairs-slice_bounds-later-count-2 t c = omega (arith, levels_in_ends c.requires.0 c.next_pair-pair.ensures)

pub plan_pairs-slice_bounds-later-start-2 : goal.plan_pairs-slice_bounds-later-start-2
plan_pairs-slice_bounds-later-start-2 t c = omega (arith, levels_in_ends c.requires.0 c.next_pair-pair.ensures)

pub plan_pairs-plan_pairs-requires : goal.plan_pairs-plan_pairs-requires
plan_pairs-plan_pairs-requires t c =
    let k = c.next_pair-pair.result.levels in
    let ends = c.args.levels.now.ends.now in
    let r = c.plan_group-i in
    let b = c.plan_group-j in (
      omega (arith, c.decreases, c.args.setting.now.policy.some, levels_in_ends c.requires.0 c.next_pair-pair.ensures, ap length (part_to_end ends k), length-drop k ends),
      (
        rw c.after.ensures
            (rest_task c.requires.0 c.next_pair-pair.ensures c.red.ensures r.ensures r.auto.order r.auto.records c.blue.ensures b.ensures b.auto.order b.auto.records c.if-k-levels.false),
        omega (arith, c.requires.1, r.auto.own, b.auto.own),
        omega (arith, c.requires.2, r.auto.roots, b.auto.roots),
      ),
    )

pub plan_pairs-returns : goal.plan_pairs-returns
plan_pairs-returns t c =
    let r = c.plan_group-i in
    let b = c.plan_group-j in
    next-held c.requires.0 c.next_pair-pair.ensures c.red.ensures r.ensures r.auto.order r.auto.records c.blue.ensures b.ensures b.auto.order b.auto.records c.if-k-levels.false
    (rw c.after.ensures at c.plan_pairs.ensures)
