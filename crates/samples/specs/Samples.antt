-- Document 01's samples: one table, a row a sample, and one fact: no row fails.
use Rattle.std.specs.Prelude.{◌≡◌, refl, Bool, true, false, ◌&&◌, List, [], ◌∷◌, ◌++◌, map, ℕ, suc, ◌-◌, ℤ, pos, negsuc, length, take, drop, replicate}
use Prim.Native.String.{String}
use Rattle.base.specs.Lists.{best, concat, range, sum, sum_below, bit}
use Rattle.base.specs.Ascii.{ascii}
use Rattle.base.specs.Near.{near}
use Rattle.base.specs.Integers.{sumℤ, within, same, fits64}
use Rattle.base.specs.Replies.{Reply, accepted, refused, in_turn}
use Rattle.matrix.specs.Matrix.{Matrix, part_of, columns_of, values_of, lookup, entry, neighbours, adjacent, adjacent_pairs, ascending, mirrored, is_row, lower_entries, is_matrix, matrix_check, displacement, are_displacements}
use Rattle.matrix.specs.Product.{force_at, product}
use Rattle.market.specs.Bytes.{class_of, header}
use Rattle.market.specs.Fields.{digits, is_number, value_of, numeral, spaces, field, value, value_field, fields}
use Rattle.market.specs.Parse.{Triplet, Parsed, matrix_text, rejected, entries, size_line, comments, parse}
use Rattle.market.specs.FullRows.{full, cell, row_of, rows_of, starts_from, row_starts, columns, values, of_triplets, read_matrix}
use Rattle.market.specs.Text.{decimal, text_of, column_of, lower, written}
use Rattle.plan.specs.Groups.{Plan, width, fields_of, flat}
use Rattle.plan.specs.Sound.{each_once, depth_first, children, tiled, apart, beyond, stretch_of, like_apart, children_sound, all_sound, sound, is_sound, is_sound_at, is_distance}
use Rattle.levels.specs.Levels.{region, root, is_next, levels_from, levels, own_levels}
use Rattle.extents.specs.Extents.{Extent, ends_from, nearest, off, serves, extent_of, extent_from, extent, cut_at, cut}
use Rattle.race.specs.Loads.{weight, load_of}
use Rattle.race.specs.Planner.{nothing, ◌then◌, leaf, pairs, plan_pairs, splits, split, plan_group, plan_rows, plan, are_parameters, plan_reply}
use Rattle.run.specs.Job.{Job, row_at, workers_of, workers}
use Rattle.run.specs.Tree.{forest, tree, leaves, holds, owner_in, unfinished, red_open, blocked}
use Rattle.run.specs.Updates.{Update, entry_at, displacement_at, later, with_each, row_updates, owner, when, up_to, updates, accesses, finished, no_update, next, waits}
use Rattle.run.specs.Machine.{reason, refusal, onward, load as load_sum, total, store, access, move, step_if, step, one_more, steps, ready_below, ready, bits, all_made, over, original, counts_fine, is_state}
use Rattle.base.specs.Lists.{position_of}
use Rattle.run.specs.State.{fresh}
use Rattle.run.specs.Calls.{place_of, picked_of, ready_of, forces_of, answer_of, after_of, state_check, answer, after}
use Rattle.run.specs.Answers.{Call, picks, ready_set, force_list, preview, Answer, picked, is_ready, forces, denied, previewed, bits_told, count_told, shown}
use Rattle.run.specs.Sequence.{answers_from}
use Rattle.run.specs.Model.{no_counts, added, ending, one_noted, note, able, is_finished, model_answer, model_after, model_answers, model_counts}
use Rattle.run.specs.EveryRun.{taken_of, taken_in, run_answers, whole_run}
use Rattle.listing.specs.Listing.{first_line, rest_of, last, second, parameters_of, spaced, refused_line, order_line, title_line, group_lines, plan_listing, planned, judged, listing}

-- ---- every answer as a list of numbers, so that one test compares them all

abbrev numbers : List ℕ → List ℤ
numbers ns = map pos ns

abbrev of_reply : Reply → List ℤ
of_reply (accepted k) = pos 0 ∷ pos k ∷ []
of_reply (refused q p) = pos q ∷ pos p ∷ []

abbrev of_triplet : Triplet → List ℤ
of_triplet e = pos e.row ∷ pos e.column ∷ e.value ∷ []

abbrev of_parsed : Parsed → List ℤ
of_parsed (matrix_text n es) = pos 0 ∷ pos n ∷ concat (map of_triplet es)
of_parsed (rejected q p) = pos q ∷ pos p ∷ []

abbrev of_matrix : Matrix → List ℤ
of_matrix m = numbers (m.starts ++ m.columns) ++ m.values

abbrev of_plan : Plan → List ℤ
of_plan p = numbers (p.order ++ flat p.groups)

-- each level's length, then its rows
abbrev of_levels : List (List ℕ) → List ℤ
of_levels ls = concat (map (λ l. pos (length l) ∷ numbers l) ls)

abbrev of_extent : Extent → List ℤ
of_extent e = pos e.levels ∷ pos e.workers ∷ []

abbrev of_answer : Answer → List ℤ
of_answer (picked taken number place) = pos 1 ∷ pos taken ∷ pos number ∷ pos place ∷ []
of_answer (is_ready bits count) = pos 2 ∷ pos bits ∷ pos count ∷ []
of_answer (forces zs) = pos 3 ∷ zs
of_answer (denied number place) = pos 4 ∷ pos number ∷ pos place ∷ []
of_answer (previewed taken number place bits count) = pos 5 ∷ pos taken ∷ pos number ∷ pos place ∷ pos bits ∷ pos count ∷ []

abbrev of_answers : List Answer → List ℤ
of_answers as' = concat (map of_answer as')

abbrev of_update : Update → List ℤ
of_update u = pos u.row ∷ pos u.target ∷ u.amount ∷ []

abbrev of_test : Bool → List ℤ
of_test b = pos (bit b) ∷ []

infix 10 ◌is◌
abbrev ◌is◌ : (found expected : List ℤ) → Bool
[] is [] = true
[] is (y ∷ ys) = false
(x ∷ xs) is [] = false
(x ∷ xs) is (y ∷ ys) = same x y && (xs is ys)

-- ---- the nets of the samples

-- line 1 and these lines
abbrev text : String → List ℕ
text lines = header ++ ascii lines

abbrev matrix_in : String → Matrix
matrix_in lines = read_matrix (parse (text lines))

-- "eight freedoms in a chain (diagonal 2, neighbours −1)"
abbrev chain_text : String
chain_text = "8 8 15\n1 1 2\n2 1 -1\n2 2 2\n3 2 -1\n3 3 2\n4 3 -1\n4 4 2\n5 4 -1\n5 5 2\n6 5 -1\n6 6 2\n7 6 -1\n7 7 2\n8 7 -1\n8 8 2\n"

abbrev chain : Matrix
chain = matrix_in chain_text

abbrev job : Matrix → List ℤ → (w p : ℕ) → Job
job m x w p = record { matrix = m; displacements = x; plan = plan m w p 2 }

abbrev chain_job : Job
chain_job = job chain (replicate 8 (pos 1)) 2 60

-- "n = 1, value 5, movement −3"
abbrev lone : Job
lone = job (matrix_in "1 1 1\n1 1 5\n") (negsuc 2 ∷ []) 1 60

abbrev unjoined : Matrix
unjoined = matrix_in "8 8 0\n"

abbrev two : Matrix
two = matrix_in "2 2 1\n2 1 7\n"

-- a stored zero joins
abbrev zero_join : Matrix
zero_join = matrix_in "2 2 1\n2 1 0\n"

-- rows 0, 2 and 3, adjacent only to 1
abbrev star : Matrix
star = matrix_in "4 4 3\n2 1 1\n3 2 1\n4 2 1\n"

-- a chain numbered from its middle: 3 1 0 2 4
abbrev folded : Matrix
folded = matrix_in "5 5 4\n2 1 1\n3 1 1\n4 2 1\n5 3 1\n"

-- rows 2, 5 and 6, adjacent to row 3, and four by themselves; with lines that begin with `%` and several spaces
abbrev nested_text : String
nested_text = "% rows 2, 5 and 6 are adjacent to row 3\n%\n8  8   4\n4 3 5\n6   4  7\n7 4    -2\n4 4 3\n"

-- four workers, and groups in groups; movements 1, 2, .. 8
abbrev nested : Job
nested = job (matrix_in nested_text) (numbers (range 1 8)) 4 90

-- "level loads 1, 2, .. 16, 15, .. 1"
abbrev hill : List ℕ
hill = range 1 16 ++ map (λ k. 16 - k) (range 1 15)

abbrev groups8 : List ℤ
groups8 = numbers (
    0 ∷ 8 ∷ 0 ∷ 2 ∷ 0 ∷ 0 ∷ 0
    ∷ 0 ∷ 2 ∷ 0 ∷ 1 ∷ 1 ∷ 0 ∷ 1
    ∷ 2 ∷ 2 ∷ 0 ∷ 1 ∷ 2 ∷ 0 ∷ 1
    ∷ 4 ∷ 2 ∷ 1 ∷ 1 ∷ 1 ∷ 0 ∷ 1
    ∷ 6 ∷ 2 ∷ 1 ∷ 1 ∷ 2 ∷ 0 ∷ 1 ∷ [])

abbrev chain_listing : List ℕ
chain_listing = ascii "order 0 1 2 3 4 5 6 7\ngroup start length first workers colour parent depth\n0 0 8 0 2 0 0 0\n1 0 2 0 1 1 0 1\n2 2 2 0 1 2 0 1\n3 4 2 1 1 1 0 1\n4 6 2 1 1 2 0 1\n"

-- a whole run of the chain, with each refusal that it can meet
abbrev chain_calls : List Call
chain_calls =
    ready_set ∷ preview (replicate 13 0) ∷ picks (replicate 13 0) ∷ ready_set ∷ force_list 8 ∷ picks (2 ∷ []) ∷ picks (replicate 20 1)
    ∷ picks (replicate 12 0) ∷ ready_set ∷ picks (1 ∷ []) ∷ force_list 7 ∷ force_list 8 ∷ []

abbrev chain_answers : List Answer
chain_answers =
    is_ready 3 2 ∷ previewed 12 13 12 2 1 ∷ picked 12 13 12 ∷ is_ready 2 1 ∷ denied 15 0 ∷ picked 0 10 0 ∷ picked 20 0 0
    ∷ picked 12 0 0 ∷ is_ready 0 0 ∷ picked 0 12 0 ∷ denied 9 8
    ∷ forces (numbers (1 ∷ 0 ∷ 0 ∷ 0 ∷ 0 ∷ 0 ∷ 0 ∷ 1 ∷ [])) ∷ []

abbrev nested_groups : List ℤ
nested_groups = numbers (
    0 ∷ 8 ∷ 0 ∷ 4 ∷ 0 ∷ 0 ∷ 0
    ∷ 0 ∷ 5 ∷ 0 ∷ 4 ∷ 1 ∷ 0 ∷ 1
    ∷ 0 ∷ 1 ∷ 0 ∷ 2 ∷ 1 ∷ 1 ∷ 2
    ∷ 1 ∷ 2 ∷ 0 ∷ 2 ∷ 2 ∷ 1 ∷ 2
    ∷ 3 ∷ 1 ∷ 2 ∷ 2 ∷ 1 ∷ 1 ∷ 2
    ∷ 4 ∷ 1 ∷ 2 ∷ 2 ∷ 2 ∷ 1 ∷ 2
    ∷ 5 ∷ 3 ∷ 0 ∷ 4 ∷ 2 ∷ 0 ∷ 1 ∷ [])

-- worker 0 waits for the red sibling of its blue group, which is worker 2's; then for a leaf in the red sibling of the
-- group around
abbrev nested_calls : List Call
nested_calls =
    ready_set ∷ picks (replicate 3 0) ∷ ready_set ∷ picks (replicate 2 2 ++ replicate 5 0) ∷ ready_set ∷ picks (replicate 6 2 ++ 1 ∷ [])
    ∷ ready_set ∷ picks (replicate 14 0) ∷ ready_set ∷ force_list 8 ∷ []

abbrev nested_answers : List Answer
nested_answers =
    is_ready 5 2 ∷ picked 2 13 2 ∷ is_ready 4 1 ∷ picked 6 13 6 ∷ is_ready 4 1 ∷ picked 6 12 6
    ∷ is_ready 1 1 ∷ picked 14 0 0 ∷ is_ready 0 0 ∷ forces (pos 0 ∷ pos 0 ∷ pos 20 ∷ pos 55 ∷ pos 0 ∷ pos 28 ∷ negsuc 7 ∷ pos 0 ∷ []) ∷ []

abbrev parameter_reply : (w k p : ℕ) → List ℤ
parameter_reply w k p = of_reply (plan_reply two w p k 2 width)

abbrev samples : List Bool
samples =
    -- P: the chain's plan, and as `netplan` prints it
    (of_plan chain_job.plan is numbers (range 0 8) ++ groups8)
    ∷ (numbers (listing (ascii "2 60\n" ++ text chain_text)) is numbers chain_listing)
    -- P: "its moves are 24 for worker 0, 20 for worker 1"
    ∷ (numbers (map (accesses chain_job) (range 0 3)) is numbers (24 ∷ 20 ∷ 0 ∷ []))
    -- P: "fresh, one list of 13 picks of worker 0: 12 are taken, then 13 at 12"
    ∷ (of_answer (answer chain_job (fresh 8) (picks (replicate 13 0))) is of_answer (picked 12 13 12))
    -- P: "all movements 1: forces 1, 0, 0, 0, 0, 0, 0, 1"
    ∷ (product chain (replicate 8 (pos 1)) is numbers (1 ∷ 0 ∷ 0 ∷ 0 ∷ 0 ∷ 0 ∷ 0 ∷ 1 ∷ []))
    -- P: "n = 1, value 5, movement −3: force −15, two moves, one leaf"
    ∷ (product lone.matrix lone.displacements is negsuc 14 ∷ [])
    ∷ (numbers (accesses lone 0 ∷ length (leaves (tree lone.plan.groups)) ∷ []) is numbers (2 ∷ 1 ∷ []))
    ∷ (of_answers (run_answers lone (picks (0 ∷ 0 ∷ []) ∷ force_list 1 ∷ [])) is of_answers (picked 2 0 0 ∷ forces (negsuc 14 ∷ []) ∷ []))
    -- P: "eight unjoined freedoms at `2 60`: levels 0, 2, .. 14; same groups as the chain"
    ∷ (of_levels (own_levels (neighbours unjoined) 2 8 (range 0 8)) is numbers (1 ∷ 0 ∷ 0 ∷ 1 ∷ 1 ∷ 0 ∷ 1 ∷ 2 ∷ 0 ∷ 1 ∷ 3 ∷ 0 ∷ 1 ∷ 4 ∷ 0 ∷ 1 ∷ 5 ∷ 0 ∷ 1 ∷ 6 ∷ 0 ∷ 1 ∷ 7 ∷ []))
    ∷ (of_plan (plan unjoined 2 60 2) is numbers (range 0 8) ++ groups8)
    -- P: "two joined freedoms, 16 workers: one leaf"
    ∷ (of_plan (plan two 16 60 2) is numbers (0 ∷ 1 ∷ 0 ∷ 2 ∷ 0 ∷ 16 ∷ 0 ∷ 0 ∷ 0 ∷ []))
    -- P: "level loads 1, 2, .. 16, 15, .. 1, w = 8, p = 60: first pair is levels 0 to 6 (28 of 256), cut before level 5
    -- (15 against 13)"
    ∷ (of_extent (extent 8 (sum hill) (record { reach = 2; p = 60 }) 8 hill) is numbers (7 ∷ 1 ∷ []))
    ∷ (numbers (sum (take 7 hill) ∷ sum hill ∷ []) is numbers (28 ∷ 256 ∷ []))
    ∷ (numbers (cut 2 (take 7 hill) ∷ []) is numbers (5 ∷ []))
    ∷ (numbers (sum (take 5 hill) ∷ sum (drop 5 (take 7 hill)) ∷ []) is numbers (15 ∷ 13 ∷ []))
    -- P: "a = 1.5 gives b = 2". P: "a = 0.6 at p = 60 doesn't serve"
    ∷ (numbers (nearest 3 1 2 ∷ []) is numbers (2 ∷ []))
    ∷ (of_test (serves 3 1 5 60) is of_test false)
    -- P: "value `-0` gives 2; `0` is read and joins"
    ∷ (of_parsed (parse (text "2 2 1\n2 1 -0\n")) is numbers (2 ∷ 3 ∷ []))
    ∷ (of_parsed (parse (text "2 2 1\n2 1 0\n")) is numbers (0 ∷ 2 ∷ 1 ∷ 0 ∷ 0 ∷ []))
    ∷ (of_test (adjacent zero_join 0 1 && is_matrix zero_join) is of_test true)
    ∷ (numbers (adjacent_pairs zero_join ∷ []) is numbers (1 ∷ []))
    -- "n 4,096 passes, 4,097 gives 3; p 50 and 99 pass, 49 and 100 give 7; an empty text gives 1 at place 1"
    ∷ (of_parsed (parse (text "4096 4096 0\n")) is numbers (0 ∷ 4096 ∷ []))
    ∷ (of_parsed (parse (text "4097 4097 0\n")) is numbers (3 ∷ 2 ∷ []))
    ∷ (concat (map (parameter_reply 2 2) (49 ∷ 50 ∷ 99 ∷ 100 ∷ [])) is numbers (7 ∷ 0 ∷ 0 ∷ 1 ∷ 0 ∷ 1 ∷ 7 ∷ 0 ∷ []))
    ∷ (of_parsed (parse []) is numbers (1 ∷ 1 ∷ []))
    -- "freedoms 0, 2 and 3 of T, joined only to outsider 1, have levels 0, 2 and 2"
    ∷ (of_levels (own_levels (neighbours star) 2 4 (0 ∷ 2 ∷ 3 ∷ [])) is numbers (1 ∷ 0 ∷ 0 ∷ 2 ∷ 2 ∷ 3 ∷ []))
    -- "the unreached freedom of the group with the fewest joined freedoms in the whole matrix, the lowest number on a
    -- tie": an end of the chain 3 1 0 2 4; of rows 1 and 3 of the star, row 3
    ∷ (of_levels (own_levels (neighbours folded) 2 5 (range 0 5)) is numbers (1 ∷ 3 ∷ 1 ∷ 1 ∷ 1 ∷ 0 ∷ 1 ∷ 2 ∷ 1 ∷ 4 ∷ []))
    ∷ (of_levels (own_levels (neighbours star) 2 4 (1 ∷ 3 ∷ [])) is numbers (1 ∷ 3 ∷ 1 ∷ 1 ∷ []))
    -- a whole run of the chain: the machine's answers and the model's; 2 picks for each row and 4 for each adjacent
    -- pair
    ∷ (of_answers (run_answers chain_job chain_calls) is of_answers chain_answers)
    ∷ (of_answers (model_answers chain_job no_counts chain_calls) is of_answers chain_answers)
    ∷ (numbers (taken_in chain_answers ∷ []) is numbers (whole_run chain_job ∷ []))
    -- the chain is taken: a matrix, displacements, a sound plan
    ∷ (of_test (is_matrix chain && are_displacements 8 chain_job.displacements && is_sound chain chain_job.plan) is of_test true)
    -- "The planner takes k from 1 to 4"; two joined freedoms at 1 are three groups, for which room for one is short, at
    -- 4 one leaf
    ∷ (concat (map (λ k. parameter_reply 16 k 60) (range 0 6)) is numbers (7 ∷ 0 ∷ 9 ∷ 3 ∷ 0 ∷ 1 ∷ 0 ∷ 1 ∷ 0 ∷ 1 ∷ 7 ∷ 0 ∷ []))
    -- "The planner's plans at k are sound at k": the chain's at 1 to 4
    ∷ (concat (map (λ k. of_test (is_sound_at k chain (plan chain 2 60 k))) (range 1 4)) is numbers (1 ∷ 1 ∷ 1 ∷ 1 ∷ []))
    -- the chain's plan at 2 is not sound at 3: rows 1 and 4, three joins apart, are red
    ∷ (concat (map (λ k. of_test (is_sound_at k chain chain_job.plan)) (range 1 4)) is numbers (1 ∷ 1 ∷ 0 ∷ 0 ∷ []))
    -- "any lines that begin with `%`", "Fields are parted by one or more spaces", "in any order"
    ∷ (of_parsed (parse (text nested_text)) is pos 0 ∷ pos 8 ∷ pos 3 ∷ pos 2 ∷ pos 5 ∷ pos 5 ∷ pos 3 ∷ pos 7 ∷ pos 6 ∷ pos 3 ∷ negsuc 1 ∷ pos 3 ∷ pos 3 ∷ pos 3 ∷ [])
    -- a plan of depth 2
    ∷ (of_plan nested.plan is numbers (0 ∷ 1 ∷ 4 ∷ 7 ∷ 2 ∷ 3 ∷ 5 ∷ 6 ∷ []) ++ nested_groups)
    -- "its own sum, adding diagonal × own movement; then for each joined row later in plan order, by ascending plan
    -- position, .. its own sum, .. then .. the other's": row 3, at position 5
    ∷ (concat (map of_update (row_updates nested 5)) is numbers (5 ∷ 5 ∷ 12 ∷ 5 ∷ 5 ∷ 42 ∷ 5 ∷ 6 ∷ 28 ∷ []) ++ pos 5 ∷ pos 5 ∷ negsuc 13 ∷ pos 5 ∷ pos 7 ∷ negsuc 7 ∷ [])
    -- a whole run of that plan, with its ready sets
    ∷ (of_answers (run_answers nested nested_calls) is of_answers nested_answers)
    ∷ (of_answers (model_answers nested no_counts nested_calls) is of_answers nested_answers)
    -- "Reading its text returns the matrix"
    ∷ (of_matrix (read_matrix (parse (written chain))) is of_matrix chain)
    ∷ []

-- ---- what the rows compute with, room by room: to unfold one of these is to unfold all that its line names

base : Unit {0}
unfolding sum_below sumℤ within same fits64 in_turn
base = tt

matrices : Unit {0}
unfolding part_of columns_of values_of lookup entry neighbours adjacent adjacent_pairs ascending mirrored is_row lower_entries is_matrix matrix_check displacement are_displacements force_at product
matrices = tt

lines : Unit {0}
unfolding class_of header digits is_number value_of numeral spaces field value value_field fields entries size_line comments parse
lines = tt

texts : Unit {0}
unfolding full cell row_of rows_of starts_from row_starts columns values of_triplets read_matrix decimal text_of column_of lower written
texts = tt

plans : Unit {0}
unfolding fields_of flat each_once depth_first children tiled near apart beyond stretch_of like_apart children_sound all_sound sound is_sound is_sound_at is_distance
plans = tt

planners : Unit {0}
unfolding region root is_next levels_from levels own_levels weight load_of ends_from best nearest off serves extent_of extent_from extent cut_at cut nothing ◌then◌ leaf pairs plan_pairs splits split plan_group plan_rows plan are_parameters plan_reply
planners = tt

updating : Unit {0}
unfolding row_at forest tree leaves holds owner_in unfinished red_open blocked entry_at displacement_at later with_each row_updates owner when up_to updates accesses finished no_update next waits
updating = tt

machines : Unit {0}
unfolding fresh workers_of workers reason refusal onward load_sum total store access move step_if step one_more steps ready_below ready bits all_made over position_of original counts_fine is_state
machines = tt

calls : Unit {0}
unfolding bits_told count_told shown place_of picked_of ready_of forces_of answer_of after_of state_check answer after no_counts one_noted note model_answer model_after model_answers model_counts taken_of taken_in whole_run answers_from added ending able is_finished run_answers
calls = tt

listings : Unit {0}
unfolding first_line rest_of last second parameters_of spaced refused_line order_line title_line group_lines plan_listing planned judged listing
listings = tt

-- the places of the tests that fail
abbrev failing : ℕ → List Bool → List ℕ
failing k [] = []
failing k (true ∷ bs) = failing (suc k) bs
failing k (false ∷ bs) = k ∷ failing (suc k) bs

all_hold : failing 0 samples ≡ []
unfolding base matrices lines texts plans planners updating machines calls listings
all_hold = refl
