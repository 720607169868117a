-- The parts of a file in bytes: the table and two bodies that are copied.
use mathlib.Core.Path.{◌≡◌, sym, ap, ◌∙◌}
use mathlib.Core.Bool.{true, ◌&&◌}
use mathlib.Core.List.{List, [], ◌∷◌, ◌++◌, append_assoc}
use Prim.Native.Nat.{ℕ, ◌+◌, ◌*◌, ◌/◌, ◌≤◌}
use native.Mathlib.Omega.{arith}
use lib.Dec.{leb}
use lib.ListN.{length, take, drop, length-append, length-drop}
use lib.Seq.{sets, take_all, length-take-le}
use borrow.Author.Tests.{leb-true}
use Rattle.base.specs.Refusals as why
use Rattle.base.specs.Replies.{accepted, check, room_for}
use Rattle.base.proofs.Booleans.{and_left, and_right}
use Rattle.base.proofs.Each.{Each}
use Rattle.base.proofs.Replies.{accepted-all}
use Rattle.plan.specs.Groups.{width, flat, records, plan_of}
use Rattle.plan.proofs.FlatRecords.{length-records, flat-records}
use Rattle.words.specs.LittleEndian.{number, unsigned, unsigned_bytes, stored}
use Rattle.words.proofs.Blocks.{length_decoded}
use Rattle.words.proofs.Bytes.{IsByte, bytes_append, length_bytes, bytes_part}
use Rattle.words.proofs.Copies.{sets-append, sets-front}
use Rattle.planfile.specs.File.{contents, file_size, is_sized, file_of, freedoms_in, groups_in, is_file, plan_from}
use Rattle.planfile.specs.Calls.{lent_plan, write_plan_reply, read_plan_reply}
use Rattle.planfile.specs.Code.Room.{Writable}
use Rattle.planfile.proofs.Sized.{length-contents}
use Rattle.planfile.proofs.Files.{file_long, flat-last}

-- ---- what an accepted call says of its lists

pub write-accepted : (n : ℕ) (order groups : List ℕ) (count room k : ℕ) → write_plan_reply n order groups count room ≡ accepted k → Writable n order groups count room
unfolding write_plan_reply
write-accepted n order groups count room k e =
    let long = leb n (length order / 4) in
    let full = leb (width * count) (length groups / 4) in
    let h = accepted-all (check why.bad_layout (is_sized n count) ∷ check why.unsound (long && full) ∷ room_for (file_size n count) room ∷ []) (accepted (file_size n count)) k e in
    record {
      sized = h.0;
      rows = leb-true n (length order / 4) (and_left long full h.1.0);
      fields = leb-true (width * count) (length groups / 4) (and_right long full h.1.0);
      fits = leb-true (file_size n count) room h.1.1.0;
    }

-- the file is one, and there is room for its plan
pub record Readable (file order groups : List ℕ) : Type 0 where
  pub made : is_file file ≡ true
  pub rows : freedoms_in file ≤ length order / 4
  pub fields : width * groups_in file ≤ length groups / 4

pub read-accepted : (file order groups : List ℕ) (k : ℕ) → read_plan_reply file order groups ≡ accepted k → Readable file order groups
unfolding read_plan_reply
read-accepted file order groups k e =
    let both : ℕ = freedoms_in file + 65536 * groups_in file in
    let h = accepted-all (check why.bad_layout (is_file file) ∷ room_for (freedoms_in file) (length order / 4) ∷ room_for (groups_in file) (length groups / 4 / width) ∷ []) (accepted both) k e in
    record {
      made = h.0;
      rows = leb-true (freedoms_in file) (length order / 4) h.1.0;
      fields = omega (arith, leb-true (groups_in file) (length groups / 4 / width) h.1.1.0);
    }

-- ---- writing

-- the table, stored in front, and two copies are the file
module _ (n : ℕ) (order groups : List ℕ) (count : ℕ) (file : List ℕ) (w : Writable n order groups count (length file)) where
  abbrev head : List ℕ
  head = unsigned_bytes 4 (contents n count)

  abbrev first : List ℕ
  first = take (4 * n) (drop 0 order)

  abbrev second : List ℕ
  second = take (4 * (width * count)) (drop 0 groups)

  pub room : 4 * (7 + n + width * count) ≤ length file
  unfolding file_size
  room = w.fits

  head_size : length head ≡ 28
  head_size = length_bytes (contents n count) ∙ ap (λ (k : ℕ). 4 * k) (length-contents n count)

  first-size : length first ≡ 4 * n
  first-size = length-take-le (4 * n) order (omega (arith, w.rows))

  second-size : length second ≡ 4 * (width * count)
  second-size = length-take-le (4 * (width * count)) groups (omega (arith, w.fields))

  module _ (order_bytes : Each IsByte order) (groups_bytes : Each IsByte groups) where
    whole : file_of (lent_plan n order groups count) ≡ (head ++ first) ++ second
    unfolding file_of plan_of
    whole =
        let rows : List ℕ = take n (unsigned 4 order) in
        let fields : List ℕ = take (width * count) (unsigned 4 groups) in
        let rows_long : length rows ≡ n = length-take-le n (unsigned 4 order) (rw (length_decoded number 4 order) w.rows) in
        let all : flat (records count (unsigned 4 groups)) ≡ fields = flat-records count (unsigned 4 groups) (rw (length_decoded number 4 groups) w.fields) in
        rw (
          rows_long,
          length-records count (unsigned 4 groups),
          all,
          bytes_append (contents n count) (rows ++ fields),
          bytes_append rows fields,
          bytes_part 0 n order (omega (arith, w.rows)) order_bytes,
          bytes_part 0 (width * count) groups (omega (arith, w.fields)) groups_bytes,
        )
        (sym (append_assoc head first second))

    pub filled : {table new : List ℕ} → table ≡ contents n count → new ≡ stored (unsigned_bytes 4 (take (length file / 4) table)) file
        → sets (sets new 28 first) (4 * (7 + n)) second ≡ stored (file_of (lent_plan n order groups count)) file
    filled t e =
        let table-all : take (length file / 4) (contents n count) ≡ contents n count = take_all (length file / 4) (contents n count) (omega (arith, room, length-contents n count)) in
        let begun : stored head file ≡ sets file 0 head = sym (sets-front head file (omega (arith, head_size, room))) in
        let middle : 0 + length (head ++ first) ≡ 4 * (7 + n) = rw (length-append head first, head_size, first-size) (omega arith) in
        let one : sets (sets file 0 head) 28 first ≡ sets file 0 (head ++ first) = sym (rw head_size at (sets-append file 0 head first)) in
        let two : sets (sets file 0 (head ++ first)) (4 * (7 + n)) second ≡ sets file 0 ((head ++ first) ++ second) = sym (rw middle at (sets-append file 0 (head ++ first) second)) in
        let size : length ((head ++ first) ++ second) ≡ 4 * (7 + n + width * count) = rw (length-append (head ++ first) second, second-size) (omega (arith, middle)) in
        rw (e, t, table-all, begun, one, two, whole) (sets-front ((head ++ first) ++ second) file (omega (arith, size, room)))

-- ---- reading

module _ {file order groups : List ℕ} (r : Readable file order groups) where
  pub whole_file : length file ≡ 4 * (7 + freedoms_in file + width * groups_in file)
  whole_file = file_long file r.made

  module _ (bytes : Each IsByte file) where
    pub order_copied : sets order 0 (take (4 * freedoms_in file) (drop 28 file)) ≡ stored (unsigned_bytes 4 (plan_from file).order) order
    unfolding plan_from plan_of
    order_copied =
        let n : ℕ = freedoms_in file in
        let part : List ℕ = take (4 * n) (drop 28 file) in
        let size : length part ≡ 4 * n = length-take-le (4 * n) (drop 28 file) (rw (length-drop 28 file) (omega (arith, whole_file))) in
        rw (bytes_part 7 n file (omega (arith, whole_file)) bytes) (sets-front part order (omega (arith, size, r.rows)))

    pub groups_copied : sets groups 0 (take (4 * (width * groups_in file)) (drop (4 * (7 + freedoms_in file)) file)) ≡ stored (unsigned_bytes 4 (flat (plan_from file).groups)) groups
    unfolding plan_from plan_of
    groups_copied =
        let k : ℕ = width * groups_in file in
        let at : ℕ = 7 + freedoms_in file in
        let part : List ℕ = take (4 * k) (drop (4 * at) file) in
        let size : length part ≡ 4 * k = length-take-le (4 * k) (drop (4 * at) file) (rw (length-drop (4 * at) file) (omega (arith, whole_file))) in
        let numbers : List ℕ = drop at (unsigned 4 file) in
        let all : take k numbers ≡ numbers = take_all k numbers (rw (length-drop at (unsigned 4 file), length_decoded number 4 file) (omega (arith, whole_file))) in
        let is : unsigned_bytes 4 numbers ≡ part = ap (unsigned_bytes 4) (sym all) ∙ bytes_part at k file (omega (arith, whole_file)) bytes in
        rw (flat-last file r.made, is) (sets-front part groups (omega (arith, size, r.fields)))
