-- A plan: an order of the rows, and the records of its groups.
use Rattle.std.specs.Prelude.{List, [], ◌∷◌, map, ℕ, zero, suc, take, drop, get_or}
use Rattle.base.specs.Lists.{concat}
use Rattle.plan.specs.declared.fields.Group as code

-- "a list of records ..: start, length, first worker, worker count, colour (0 whole, 1 red, 2 blue), parent's index (0
-- for the whole)"; "Each record gets a seventh field, its depth: 0 for the whole, otherwise its parent's plus 1."
pub record Group : Type 0 where
  pub start : ℕ
  pub length : ℕ
  pub first : ℕ
  pub workers : ℕ
  pub colour : ℕ
  pub parent : ℕ
  pub depth : ℕ

-- the group that a struct stands for
abbrev pub group_of : code.Group → Group
group_of g = record { start = g.start; length = g.length; first = g.first; workers = g.workers; colour = g.colour; parent = g.parent; depth = g.depth }

abbrev pub whole : ℕ
whole = 0

abbrev pub red : ℕ
red = 1

abbrev pub blue : ℕ
blue = 2

-- "its order", original row numbers by plan position, and its groups, "depth first (a group, then each child in order
-- with all below it)"
pub record Plan : Type 0 where
  pub order : List ℕ
  pub groups : List Group

-- how many numbers a record has in a flat list, and which is where
abbrev pub width : ℕ
width = 7

unfoldable pub fields_of : Group → List ℕ
fields_of g = g.start ∷ g.length ∷ g.first ∷ g.workers ∷ g.colour ∷ g.parent ∷ g.depth ∷ []

unfoldable pub of_fields : List ℕ → Group
of_fields ns = record { start = get_or ns 0 0; length = get_or ns 1 0; first = get_or ns 2 0; workers = get_or ns 3 0; colour = get_or ns 4 0; parent = get_or ns 5 0; depth = get_or ns 6 0 }

-- the records as one flat list
unfoldable pub flat : List Group → List ℕ
flat gs = concat (map fields_of gs)

-- the first `count` records of a flat list
unfoldable pub records : (count : ℕ) → List ℕ → List Group
records zero ns = []
records (suc k) ns = of_fields ns ∷ records k (drop width ns)

-- The plan in lent lists: "places past .. n plan positions and those groups are not read"
unfoldable pub plan_of : (n : ℕ) (order groups : List ℕ) (count : ℕ) → Plan
plan_of n order groups count = record { order = take n order; groups = records count groups }
