-- A prepared list: the tables of a job in one list of bytes, and no pointer. Numbers have four bytes and no sign, the
-- low byte first, but for amounts: eight bytes in two's complement.
--
--     0                    the mark, the rows n, the workers of the plan, the number of updates u
--     16                   for each of sixteen workers how many accesses it makes
--     80                   .. and the number of its first update among all
--     144                  u updates, worker by worker: amount, position of its sum, position of the row that makes it
--     144 + 16 u           for each position sixteen numbers: the accesses that each worker must have made before it
--     144 + 16 u + 64 n    for each row its position
use Rattle.std.specs.Prelude.{Bool, ◌&&◌, List, ◌∷◌, ◌++◌, map, ℕ, ◌+◌, ◌*◌, eqb, leb, length, get_or, take, drop}
use Rattle.base.specs.Lists.{concat, range, position_of, sum_below}
use Rattle.plan.specs.Sound.{max_workers}
use Rattle.run.specs.Job.{Job, workers}
use Rattle.run.specs.Updates.{Update, updates, accesses, no_update}
use Rattle.words.specs.LittleEndian.{number, bytes_of, signed_number, signed_bytes_of, whole_blocks, unsigned, unsigned_bytes}
use Rattle.prepared.specs.Gates.{gate}
use Rattle.prepared.specs.Tables.{Tables}

-- what stands in a prepared list
pub record Lists : Type 0 where
  pub rows : ℕ
  pub crew : ℕ
  pub most : List ℕ
  pub first : List ℕ
  pub updates : List Update
  pub gates : List ℕ
  pub places : List ℕ

-- .. as tables: outside a list there is 0, or no update
unfoldable pub tables_of : Lists → Tables
tables_of L = record {
  rows = L.rows;
  crew = L.crew;
  most = λ w. get_or L.most w 0;
  update = λ w k. get_or L.updates (get_or L.first w 0 + k) no_update;
  need = λ w k v. get_or L.gates ((get_or L.updates (get_or L.first w 0 + k) no_update).row * max_workers + v) 0;
  place = λ i. get_or L.places i 0;
}

-- ---- in bytes

-- "MZKP"
abbrev pub mark : ℕ
mark = 1347115597

abbrev pub head_bytes : ℕ
head_bytes = 144

abbrev pub update_bytes : ℕ
update_bytes = 16

-- the bytes of a position's sixteen numbers, and of these with the row's position
abbrev pub gate_bytes : ℕ
gate_bytes = 64

abbrev pub row_bytes : ℕ
row_bytes = 68

unfoldable pub bytes_of_update : Update → List ℕ
bytes_of_update u = signed_bytes_of 8 u.amount ++ (bytes_of 4 u.target ++ bytes_of 4 u.row)

unfoldable pub update_in : List ℕ → Update
update_in bs = record { row = number (take 4 (drop 12 bs)); target = number (take 4 (drop 8 bs)); amount = signed_number 8 (take 8 bs) }

unfoldable pub head_of : Lists → List ℕ
head_of L = mark ∷ L.rows ∷ L.crew ∷ length L.updates ∷ (L.most ++ L.first)

unfoldable pub bytes_of_lists : Lists → List ℕ
bytes_of_lists L = unsigned_bytes 4 (head_of L) ++ (concat (map bytes_of_update L.updates) ++ (unsigned_bytes 4 L.gates ++ unsigned_bytes 4 L.places))

-- ---- what calls read, of any bytes

unfoldable pub head_in : List ℕ → List ℕ
head_in b = unsigned 4 (take head_bytes b)

abbrev pub rows_in : List ℕ → ℕ
rows_in b = get_or (head_in b) 1 0

abbrev pub count_in : List ℕ → ℕ
count_in b = get_or (head_in b) 3 0

-- where the gates begin
abbrev pub gates_from : (count : ℕ) → ℕ
gates_from count = head_bytes + count * update_bytes

unfoldable pub lists_in : List ℕ → Lists
lists_in b = record {
  rows = rows_in b;
  crew = get_or (head_in b) 2 0;
  most = take max_workers (drop 4 (head_in b));
  first = take max_workers (drop 20 (head_in b));
  updates = map update_in (whole_blocks update_bytes (take (count_in b * update_bytes) (drop head_bytes b)));
  gates = unsigned 4 (take (rows_in b * gate_bytes) (drop (gates_from (count_in b)) b));
  places = unsigned 4 (take (rows_in b * 4) (drop (gates_from (count_in b) + rows_in b * gate_bytes) b));
}

-- not "26: not a prepared list": shorter than a head, another mark, more than sixteen workers, or shorter than its head
-- says
unfoldable pub is_prepared : List ℕ → Bool
is_prepared b =
    leb head_bytes (length b) && eqb (get_or (head_in b) 0 0) mark && leb (get_or (head_in b) 2 0) max_workers
    && leb (gates_from (count_in b) + rows_in b * row_bytes) (length b)

-- ---- the prepared list of a job

unfoldable pub lists_of : Job → Lists
lists_of j = record {
  rows = j.matrix.n;
  crew = workers j;
  most = map (accesses j) (range 0 max_workers);
  first = map (sum_below (λ w. length (updates j w))) (range 0 max_workers);
  updates = concat (map (updates j) (range 0 max_workers));
  gates = concat (map (λ q. map (gate j q) (range 0 max_workers)) (range 0 j.matrix.n));
  places = map (position_of j.plan.order) (range 0 j.matrix.n);
}

unfoldable pub prepared_bytes : Job → List ℕ
prepared_bytes j = bytes_of_lists (lists_of j)
