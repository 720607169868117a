-- Plan files (document 02, Q-2 and Q-3): one layout, the file of a plan, and the plan in a file.
use Rattle.std.specs.Prelude.{Bool, ◌&&◌, List, [], ◌∷◌, ◌++◌, ℕ, ◌+◌, ◌*◌, ◌/◌, ◌^◌, eqb, leb, ltb, length, get_or, drop}
use Rattle.base.specs.Lists.{all, begins}
use Rattle.matrix.specs.Limits.{max_rows}
use Rattle.plan.specs.Groups.{Plan, width, flat, plan_of}
use Rattle.plan.specs.Sound.{max_groups}
use Rattle.words.specs.LittleEndian.{unsigned, unsigned_bytes}

-- ---- the layout

-- "Every number is 32 bits, low byte first": the bytes of a number
abbrev pub number_size : ℕ
number_size = 4

-- "its kind (1 order, ..)", and for the groups "a body of kind 3 in place of 2, and kind 2 now breaks the layout"
abbrev pub order_kind : ℕ
order_kind = 1

abbrev pub groups_kind : ℕ
groups_kind = 3

-- how many numbers stand in the table of contents
abbrev pub table_length : ℕ
table_length = 7

-- "a table of contents: the number of bodies, which is 2, then for each body its kind .., offset from the file's start
-- and length in bytes. The bodies follow in that order with no gap"
unfoldable pub contents : (n count : ℕ) → List ℕ
contents n count =
    2
    ∷ order_kind
    ∷ number_size * table_length
    ∷ number_size * n
    ∷ groups_kind
    ∷ number_size * (table_length + n)
    ∷ number_size * (width * count)
    ∷ []

-- ".. and nothing after them": the bytes of a file
unfoldable pub file_size : (n count : ℕ) → ℕ
file_size n count = number_size * (table_length + n + width * count)

-- "1 to 4,096 freedoms and 1 to 512 groups"
unfoldable pub is_sized : (n count : ℕ) → Bool
is_sized n count = leb 1 n && leb n max_rows && leb 1 count && leb count max_groups

-- ---- from a plan to its file

-- "Each plan of 1 to 4,096 freedoms and 1 to 512 groups", its numbers of 32 bits: what a file can carry
unfoldable pub is_carried : Plan → Bool
is_carried p = is_sized (length p.order) (length p.groups) && all (λ v. ltb v (2 ^ 32)) (p.order ++ flat p.groups)

-- the table of contents, then the bodies
unfoldable pub file_of : Plan → List ℕ
file_of p = unsigned_bytes number_size (contents (length p.order) (length p.groups) ++ (p.order ++ flat p.groups))

-- ---- from a file to its plan

-- how many freedoms and groups it has, by the two lengths in its table
unfoldable pub freedoms_in : List ℕ → ℕ
freedoms_in file = get_or (unsigned number_size file) 3 0 / number_size

unfoldable pub groups_in : List ℕ → ℕ
groups_in file = get_or (unsigned number_size file) 6 0 / (number_size * width)

-- the file keeps "this layout" and "these counts": it has the table, and the length, of a plan of these counts
unfoldable pub is_file : List ℕ → Bool
is_file file =
    is_sized (freedoms_in file) (groups_in file)
    && eqb (length file) (file_size (freedoms_in file) (groups_in file))
    && begins (unsigned number_size file) (contents (freedoms_in file) (groups_in file))

-- the plan whose bodies follow the table
unfoldable pub plan_from : List ℕ → Plan
plan_from file =
    plan_of
    (freedoms_in file)
    (drop table_length (unsigned number_size file))
    (drop (table_length + freedoms_in file) (unsigned number_size file))
    (groups_in file)
