-- The number of each refusal, here and nowhere else (document 01, "From the input" and "From the state"; document 02 at
-- its requests; 26 of prepared jobs).
use Rattle.std.specs.Prelude.{ℕ}

-- "line 1, its line feed included, differs"
abbrev pub bad_header : ℕ
bad_header = 1

-- "text too long .. or a line breaks the form, is missing or too many"
abbrev pub bad_form : ℕ
bad_form = 2

-- "rows differ from columns, or n or the entry count is outside its limits"
abbrev pub bad_size : ℕ
bad_size = 3

-- "entry above the diagonal, outside n, row and column of an earlier line again, or value too large"
abbrev pub bad_entry : ℕ
bad_entry = 4

-- "lent rows are no matrix as above"
abbrev pub not_matrix : ℕ
not_matrix = 5

-- "movement list has not n numbers (0), or one is too large (its index)"
abbrev pub bad_displacement : ℕ
bad_displacement = 6

-- "workers or p outside limits"
abbrev pub bad_parameter : ℕ
bad_parameter = 7

-- "plan not sound for this matrix"
abbrev pub unsound : ℕ
unsound = 8

-- "a lent list is too short (length needed ..)"
abbrev pub too_short : ℕ
too_short = 9

-- "pick names no worker of the plan (pick index)"
abbrev pub no_worker : ℕ
no_worker = 10

-- "list of sums not n long, or a worker's count past its moves"
abbrev pub not_state : ℕ
not_state = 11

-- "worker has made all its moves (pick index)"
abbrev pub all_done : ℕ
all_done = 12

-- "worker waits (pick index)"
abbrev pub must_wait : ℕ
must_wait = 13

-- "the sum to store passes 64 bits (pick index)"
abbrev pub overflow : ℕ
overflow = 14

-- "force list wanted before every move is made"
abbrev pub too_early : ℕ
too_early = 15

-- Q-2: "file breaks this layout or these counts, or a plan to be written does"
abbrev pub bad_layout : ℕ
bad_layout = 16

-- Q-6: "t outside its limits or no such freedom"
abbrev pub bad_survey : ℕ
bad_survey = 17

-- Q-9: "pick names no crew"
abbrev pub no_crew : ℕ
no_crew = 18

-- Q-9: "worker is inside the other crew's row"
abbrev pub elsewhere : ℕ
elsewhere = 19

-- Q-10: "the list lent is not n long or isn't the product of what came with it"
abbrev pub not_forces : ℕ
not_forces = 20

-- Q-10: "no such entry or freedom"
abbrev pub no_entry : ℕ
no_entry = 21

-- Q-10: "new movement or value beyond its limit"
abbrev pub bad_change : ℕ
bad_change = 22

-- Q-11: "the list has not one place for each freedom of the second net, or a place repeats or leaves a gap"
abbrev pub bad_places : ℕ
bad_places = 23

-- Q-11: "the joined matrix breaks a limit of document 01"
abbrev pub past_limits : ℕ
past_limits = 24

-- Q-12: "address above 5"
abbrev pub no_register : ℕ
no_register = 25

-- "not a prepared list (mark, workers or length)"
abbrev pub not_prepared : ℕ
not_prepared = 26
