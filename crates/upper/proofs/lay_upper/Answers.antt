-- `lay_upper` meets its contract: the parts begin, every position joins, and where parts end becomes their sizes.
use mathlib.Core.Path.{◌≡◌, sym, ◌∙◌}
use native.Mathlib.Omega.{arith}
use Rattle.matrix.proofs.Matrix.{matrix_facts}
use Rattle.upper.proofs.PlacedRows.{upper_none}
use Rattle.upper.proofs.PartRows.{parts-ended, part_sizes_are}
use borrow.Author.Rules.{rules}
use Rattle.upper.proofs.lay_upper.Goals as goal
use Rattle.upper.proofs.lay_upper.Goals.{After-join_all}

-- the parts are where the next places began
begun : {g : _} (c : After-join_all g) → c.join_all.new.triangle.parts ≡ c.copy_parts.new.sizes
begun c = c.join_all.ensures.2 ∙ sym c.copy_parts.ensures

pub positions-requires : goal.positions-requires
positions-requires g c =
    let o = c.args.ordered.now.lent in
    (o.long, (matrix_facts _ o.ordered.matrix).few, o.ordered.once)

pub join_all-requires : goal.join_all-requires
join_all-requires g c =
    let begun = c.begin_parts.ensures in
    rw c.copy_parts.ensures
    (search rules, (c.positions.ensures, begun, upper_none _ _ (matrix_facts _ c.args.ordered.now.lent.ordered.matrix).some begun.long (omega (arith, c.requires.0)) c.requires.1 (omega (arith, c.requires.0))))

pub part_sizes-requires : goal.part_sizes-requires
part_sizes-requires g c =
    let b = goal.at.part_sizes-requires g c in
    ((matrix_facts _ c.args.ordered.now.lent.ordered.matrix).few, rw (begun b.After-join_all) (parts-ended c.join_all.ensures.1))

pub returns : goal.returns
returns g c =
    let b = goal.at.returns g c in
    let e = c.join_all.ensures in
    (c.positions.ensures, part_sizes_are e.1 c.part_sizes.array_long (rw (begun b.After-join_all) at c.part_sizes.ensures), rw (begun b.After-join_all) (record { parts = e.0; next = _; placed = e.1 }))
