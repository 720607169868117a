-- Groups as structs, and as records of a flat list.
use Rattle.plan.specs.Groups as defined
use Rattle.plan.specs.declared.fields.Group.{Group}

-- the struct of a group; `group_of` is the way back
abbrev pub of_group : defined.Group → Group
of_group g = record { start = g.start; length = g.length; first = g.first; workers = g.workers; colour = g.colour; parent = g.parent; depth = g.depth }
