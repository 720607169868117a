-- What `netplan` writes for what it reads, byte for byte.
use Rattle.std.specs.Prelude.{cond, List, [], ◌∷◌, ◌++◌, map, ℕ, suc, eqb, ltb, length, drop, get_or}
use Rattle.base.specs.Lists.{concat}
use Rattle.base.specs.Ascii.{ascii}
use Rattle.base.specs.Refusals as why
use Rattle.matrix.specs.Matrix.{Matrix}
use Rattle.market.specs.Bytes.{is_end, is_space, blank, line_feed}
use Rattle.market.specs.Fields.{Scan, got, none, numeral}
use Rattle.market.specs.Parse.{Parsed, matrix_text, rejected, parse}
use Rattle.market.specs.FullRows.{of_triplets}
use Rattle.market.specs.Text.{natural}
use Rattle.plan.specs.Groups.{Group, Plan, fields_of}
use Rattle.race.specs.Planner.{are_parameters, plan}

-- "24,576 bytes together at most"
abbrev pub max_input : ℕ
max_input = 24576

-- "The first line ends at the first line feed, or with the input": the line without it, and what follows
unfoldable pub first_line : List ℕ → List ℕ
first_line [] = []
first_line (b ∷ bs) = let more = b ∷ first_line bs in cond (is_end b) [] more

unfoldable pub rest_of : List ℕ → List ℕ
rest_of input = drop (suc (length (first_line input))) input

-- workers and p of the first line, or "a first line that isn't two numbers with one space between"
pub data Parameters : Type 0 where
  parameters : (w p : ℕ) → Parameters
  missing : Parameters

-- a number that takes the whole text
unfoldable pub last : ℕ → Scan → ℕ → Parameters
last w (got p k) size = cond (eqb k size) (parameters w p) missing
last w none size = missing

-- one space, and the last number
unfoldable pub second : Scan → List ℕ → Parameters
second (got w k) xs = let rest = drop (suc k) xs in cond (is_space (get_or (drop k xs) 0 0)) (last w (numeral rest) (length rest)) missing
second none xs = missing

unfoldable pub parameters_of : List ℕ → Parameters
parameters_of line = second (numeral line) line

-- numbers, each after a space
unfoldable pub spaced : List ℕ → List ℕ
spaced ns = concat (map (λ n. blank ∷ natural n) ns)

-- "refused", number, place, with single spaces
unfoldable pub refused_line : (number place : ℕ) → List ℕ
refused_line number place = ascii "refused" ++ spaced (number ∷ place ∷ []) ++ line_feed ∷ []

-- "`order` giving original numbers by plan position"
unfoldable pub order_line : List ℕ → List ℕ
order_line order = ascii "order" ++ spaced order ++ line_feed ∷ []

unfoldable pub title_line : List ℕ
title_line = ascii "group start length first workers colour parent depth\n"

-- "each later line a record's .. fields after its index", and "a last column headed `depth`"
unfoldable pub group_lines : ℕ → List Group → List ℕ
group_lines i [] = []
group_lines i (g ∷ gs) = natural i ++ spaced (fields_of g) ++ line_feed ∷ group_lines (suc i) gs

unfoldable pub plan_listing : Plan → List ℕ
plan_listing p = order_line p.order ++ title_line ++ group_lines 0 p.groups

-- "`netplan` keeps 2"
abbrev pub net_distance : ℕ
net_distance = 2

unfoldable pub planned : Matrix → Parameters → List ℕ
planned m (parameters w p) = cond (are_parameters w p net_distance) (plan_listing (plan m w p net_distance)) (refused_line why.bad_parameter 0)
planned m missing = refused_line why.bad_parameter 0

-- "then the matrix text is judged, its lines counted from 1; then a first line that isn't two numbers .. gives 7"
unfoldable pub judged : Parsed → Parameters → List ℕ
judged (rejected number place) ps = refused_line number place
judged (matrix_text n es) ps = planned (of_triplets n es) ps

-- "Longer input gives 2 at 0"
unfoldable pub listing : List ℕ → List ℕ
listing input = cond (ltb max_input (length input)) (refused_line why.bad_form 0) (judged (parse (rest_of input)) (parameters_of (first_line input)))
