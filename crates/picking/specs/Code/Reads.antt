-- What is read and written at places of a prepared list and of sums, any whatever: nothing outside.
use Rattle.std.specs.Prelude.{◌≡◌, Bool, true, false, cond, List, ℕ, ◌+◌, ◌*◌, ◌/◌, ◌^◌, ◌≤◌, ◌<◌, ltb, ℤ, pos, length}
use Rattle.std.proofs.lemmas.List.Edits.{sets}
use Rattle.plan.specs.Sound.{max_workers}
use Rattle.run.specs.Updates.{Update, count, no_update}
use Rattle.words.specs.LittleEndian.{to_signed, of_signed, bytes_of}
use Rattle.words.specs.Code.Places.{four_at, eight_at}
use Rattle.prepared.specs.Gates.{behind}
use Rattle.prepared.specs.Format.{gates_from, row_bytes, count_in, lists_in, is_prepared}
use Rattle.picking.specs.declared.places.Entry.{Entry}

-- sum t of so many, loaded: 0 if there is none
unfoldable pub loaded_at : (sums : List ℕ) (rows t : ℕ) → ℤ
loaded_at sums rows t = cond (ltb t rows) (to_signed 8 (eight_at sums (t * 8))) (pos 0)

-- .. stored: nowhere if there is none
unfoldable pub stored_at : (sums : List ℕ) (rows t : ℕ) → ℤ → List ℕ
stored_at sums rows t z = cond (ltb t rows) (sets sums (t * 8) (bytes_of 8 (of_signed 8 z))) sums

-- how many accesses worker v must have made before a row, whose gates begin at a place
abbrev pub gate_at : (list : List ℕ) (at : ℕ) → ℕ → ℕ
gate_at list at v = four_at list (at + v * 4)

-- an update as the code has it
unfoldable pub update_of : Entry → Update
update_of e = record { row = e.row; target = e.target; amount = e.amount }

-- update number k of so many
unfoldable pub update_at : (list : List ℕ) (count k : ℕ) → Update
update_at list count k =
    cond (ltb k count) (record { row = four_at list (144 + k * 16 + 12); target = four_at list (144 + k * 16 + 8); amount = to_signed 8 (eight_at list (144 + k * 16)) }) no_update

-- the number of worker w's next update among all
abbrev pub number_next : (list made : List ℕ) → ℕ → ℕ
number_next list made w = four_at list (80 + w * 4) + count made w / 2

-- some worker has made fewer accesses than the gate of a row asks for; a row past the last one has no gate
unfoldable pub shut_at : (list : List ℕ) (gates rows row : ℕ) (made : List ℕ) → Bool
shut_at list gates rows row made = cond (ltb row rows) (behind made (gate_at list (gates + row * 64)) 16) false

-- what the code has of a prepared list's head
pub record Head (list : List ℕ) (rows crew count : ℕ) : Type 0 where
  pub prepared : is_prepared list ≡ true
  pub rows_are : rows ≡ (lists_in list).rows
  pub rows_low : rows < 2 ^ 32
  pub crew_is : crew ≡ (lists_in list).crew
  pub few : crew ≤ max_workers
  pub count_is : count ≡ count_in list
  pub inside : gates_from count + rows * row_bytes ≤ length list
