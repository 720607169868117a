-- `store_job`: the upper triangle and its sizes, the counts, the size, then the parts one after the other.
use mathlib.Core.Path.{◌≡◌, refl}
use Prim.Native.Nat.{◌/◌}
use native.Mathlib.Omega.{arith}
use lib.ListN.{length, get_or}
use Rattle.base.proofs.Lists.{get_d_zeros}
use Rattle.plan.specs.Groups.{plan_of, width}
use Rattle.plan.specs.Sound.{max_workers}
use Rattle.run.specs.Job.{job_of}
use Rattle.tables.specs.Code.Laid.{max_updates, first_of, Counted}
use Rattle.layout.specs.Code.UpdateTable.{Planned}
use Rattle.layout.proofs.GivenRows.{lent_of, few-rows, planned-of}
use Rattle.layout.proofs.UpdateRoom.{first-room, rising-of}
use Rattle.steps.specs.Code.Updates.{Triangle}
use Rattle.steps.proofs.GivenTables.{triangle-of}
use Rattle.machine.proofs.PlannedTables.{planned_record, read-crew}
use Rattle.calls.specs.Code.Held.{job_in}
use Rattle.calls.proofs.Prepared.{given-many, given_displaced, given-order}
use Rattle.prepared.specs.Format.{prepared_bytes}
use Rattle.preparing.proofs.Written.{prepared-long, all-written, prepare_short, prepare_done}
use borrow.Author.Rules.{rules}
use Rattle.preparing.proofs.store_job.Goals as goal
use Rattle.preparing.proofs.store_job.Goals.{After-upper, After-first_updates-first, After-size_of-size}

planned : (c : After-upper) → let p = c.args.job.now.plan in Planned (job_in c.args.job.now) p.groups.now (length p.groups.now / width) c.upper.new.sizes
planned c = planned-of c.requires c.upper.ensures.0

counted : (c : After-first_updates-first) → Counted (job_in c.args.job.now) c.first_updates-first.result
counted c = c.first_updates-first.ensures _ (planned-of c.requires c.upper.ensures.0)

all-counted : (c : After-first_updates-first) → get_or c.first_updates-first.result 16 0 ≡ first_of (job_in c.args.job.now) max_workers
all-counted c = (counted c).is max_workers (omega arith)

size_is : (c : After-size_of-size) → c.size_of-size.result ≡ length (prepared_bytes (job_in c.args.job.now))
unfolding job_of
size_is c =
    let n = (c.first_updates-first.ensures _ (planned-of c.requires c.upper.ensures.0)).is max_workers (omega arith) in
    omega (arith, c.size_of-size.ensures.0, n, prepared-long (job_in c.args.job.now) c.requires.accepted)

pub invariant_of-ordered : goal.invariant_of-ordered
invariant_of-ordered c = record { lent = lent_of c.requires }

pub upper-requires : goal.upper-requires
upper-requires c = (search rules, (refl, get_d_zeros max_updates))

pub first_updates-first-requires : goal.first_updates-first-requires
first_updates-first-requires c = (_, planned (goal.at.first_updates-first-requires c).After-upper)

pub size_of-size-requires : goal.size_of-size-requires
size_of-size-requires c =
    let n = all-counted (goal.at.size_of-size-requires c).After-first_updates-first in
    (few-rows c.requires, omega (arith, n, first-room (job_in c.args.job.now) c.requires.accepted max_workers (omega arith)))

pub returns-then-out-size : goal.returns-then-out-size
unfolding job_of
returns-then-out-size c = prepare_short (job_in c.args.job.now) _ (size_is (goal.at.returns-then-out-size c).After-size_of-size) c.if-out-size.true

pub displace-requires : goal.displace-requires
displace-requires c = given_displaced c.requires

pub get-whole-requires : goal.get-whole-requires
get-whole-requires c = planned_record (planned (goal.at.get-whole-requires c).After-upper)

pub overflow_cast-rows : goal.overflow_cast-rows
overflow_cast-rows c = let h = few-rows c.requires in search rules

pub store_head-requires : goal.store_head-requires
store_head-requires c =
    (rising-of _ c.requires.accepted (counted (goal.at.store_head-requires c).After-first_updates-first), omega (arith, c.if-out-size.false, c.size_of-size.ensures.0))

pub store_tables-requires : goal.store_tables-requires
unfolding job_of
store_tables-requires c =
    let b = goal.at.store_tables-requires c in
    let g = c.requires in
    let triangle : Triangle (job_in c.args.job.now) c.upper.new.triangle.parts c.displace.new.displaced c.upper.new.triangle.at c.upper.new.triangle.beside = triangle-of _ _ (rw (given-many g) at c.displace.ensures) c.upper.ensures.1 in
    (_, planned b.After-upper, counted b.After-first_updates-first, triangle, refl, omega (arith, c.if-out-size.false, c.size_of-size.ensures.0, all-counted b.After-first_updates-first, c.store_head.auto.out))

pub store_places-requires : goal.store_places-requires
store_places-requires c =
    let g = c.requires in
    let o = given-order g in
    (omega (arith, c.if-out-size.false, c.size_of-size.ensures.0, c.store_tables.auto.out, c.store_head.auto.out), o.0, few-rows g, o.1)

pub returns : goal.returns
unfolding job_of plan_of
returns c =
    let b = goal.at.returns c in
    let g = c.requires in
    let p = planned b.After-upper in
    let k = counted b.After-first_updates-first in
    let triangle : Triangle (job_in c.args.job.now) c.upper.new.triangle.parts c.displace.new.displaced c.upper.new.triangle.at c.upper.new.triangle.beside = triangle-of _ _ (rw (given-many g) at c.displace.ensures) c.upper.ensures.1 in
    let size = size_is b.After-size_of-size in
    prepare_done (job_in c.args.job.now) _ size c.if-out-size.false
    (all-written (job_in c.args.job.now) c.requires.accepted _ _ _ _ _ (omega (arith, size, c.if-out-size.false)) (omega (arith, c.size_of-size.ensures.0, all-counted b.After-first_updates-first))
    (c.store_head.ensures (job_in c.args.job.now) k refl (read-crew p c.get-whole.result c.get-whole.ensures))
    (c.store_tables.ensures (job_in c.args.job.now) p k triangle refl) c.store_places.ensures)
