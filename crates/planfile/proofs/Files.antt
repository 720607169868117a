-- From a plan to its file, and from a file to its plan.
use mathlib.Core.Path.{◌≡◌, refl, sym, ap, ◌∙◌}
use mathlib.Core.Bool.{Bool, true}
use mathlib.Core.List.{List, [], ◌∷◌, ◌++◌, append-nil}
use Prim.Native.Nat.{ℕ, ◌+◌, ◌*◌, ◌/◌, ◌^◌, ◌≤◌, ◌<◌}
use native.Mathlib.Omega.{arith}
use lib.Dec.{eqb, ltb}
use lib.ListN.{length, get_or, take, drop, length-append, length-drop, take-append-drop}
use lib.Seq.{drop_at, drop-drop, take_all, length-take-le}
use borrow.Author.Tests.{eqb-true, eq-eqb, le-leb, ltb-true, lt-ltb}
use Rattle.base.specs.Lists.{begins}
use Rattle.base.specs.Replies.{accepted, in_turn}
use Rattle.base.proofs.Booleans.{and_left, and_right, conj_first, conj_at}
use Rattle.base.proofs.Begins.{begins-append, begins-split}
use Rattle.base.proofs.Each.{Each, each_append, each_take, each-drop, all-each, each_all}
use Rattle.plan.specs.Groups.{Plan, width, flat, records, plan_of}
use Rattle.plan.proofs.FlatRecords.{length-records, length-flat, flat-records, plan-flat}
use Rattle.words.specs.LittleEndian.{number, unsigned, unsigned_bytes}
use Rattle.words.proofs.Blocks.{length_decoded}
use Rattle.words.proofs.Bytes.{IsByte, length_bytes, bytes_part, numbers-small}
use Rattle.words.proofs.Codes.{unsigned_back}
use Rattle.planfile.specs.File.{contents, file_size, is_sized, is_carried, file_of, freedoms_in, groups_in, is_file, plan_from}
use Rattle.planfile.specs.Calls.{read_plan_reply}
use Rattle.planfile.proofs.Sized.{Sized, sized, length-contents, contents-small}

-- a number of 32 bits
abbrev pub Small : ℕ → Type 0
Small v = v < 2 ^ 32

-- ---- from a plan

module _ (p : Plan) (ok : is_carried p ≡ true) where
  abbrev n : ℕ
  n = length p.order

  abbrev count : ℕ
  count = length p.groups

  abbrev body : List ℕ
  body = p.order ++ flat p.groups

  size_ok : is_sized n count ≡ true
  unfolding is_carried
  size_ok = and_left (is_sized n count) _ ok

  small : Each Small body
  unfolding is_carried
  small = all-each Small (λ v. ltb v (2 ^ 32)) (λ v h. ltb-true v (2 ^ 32) h) body (and_right (is_sized n count) _ ok)

  -- the file's numbers
  numbers-are : unsigned 4 (file_of p) ≡ contents n count ++ body
  unfolding file_of
  numbers-are = unsigned_back 4 (omega arith) (contents n count ++ body) (each_append Small (contents n count) body (contents-small n count size_ok) small)

  freedoms_back : freedoms_in (file_of p) ≡ n
  unfolding freedoms_in contents
  freedoms_back = let told : get_or (contents n count ++ body) 3 0 ≡ 4 * n = refl in rw (numbers-are, told) (omega arith)

  groups-back : groups_in (file_of p) ≡ count
  unfolding groups_in contents
  groups-back = let told : get_or (contents n count ++ body) 6 0 ≡ 4 * (width * count) = refl in rw (numbers-are, told) (omega arith)

  pub file-size : length (file_of p) ≡ file_size n count
  unfolding file_of file_size
  file-size =
      rw (length_bytes (contents n count ++ body), length-append (contents n count) body, length-contents n count, length-append p.order (flat p.groups), length-flat p.groups) (omega arith)

  pub file_made : is_file (file_of p) ≡ true
  unfolding is_file
  file_made =
      rw (freedoms_back, groups-back, size_ok, eq-eqb (length (file_of p)) (file_size n count) file-size, numbers-are) (begins-append (contents n count) body)

  pub plan-back : plan_from (file_of p) ≡ p
  unfolding plan_from
  plan-back =
      let first : drop 7 (contents n count ++ body) ≡ body = drop_at (contents n count) body 7 (length-contents n count) in
      let second : drop (7 + n) (contents n count ++ body) ≡ flat p.groups =
      sym (drop-drop n 7 (contents n count ++ body)) ∙ ap (drop n) first ∙ drop_at p.order (flat p.groups) n refl in
      rw (freedoms_back, groups-back, numbers-are, first, second) (rw (append-nil (flat p.groups)) at (plan-flat p n (flat p.groups) [] refl))

  pub file_read : (order groups : List ℕ) → n ≤ length order / 4 → width * count ≤ length groups / 4 → read_plan_reply (file_of p) order groups ≡ accepted (n + 65536 * count)
  unfolding read_plan_reply in_turn
  file_read order groups g h = rw (file_made, freedoms_back, groups-back, le-leb n (length order / 4) g, le-leb count (length groups / 4 / width) (omega arith))

-- ---- from a file

module _ (file : List ℕ) (ok : is_file file ≡ true) where
  abbrev rows : ℕ
  rows = freedoms_in file

  abbrev many : ℕ
  many = groups_in file

  abbrev numbers : List ℕ
  numbers = unsigned 4 file

  abbrev rest : List ℕ
  rest = drop 7 numbers

  abbrev last : List ℕ
  last = drop (7 + rows) numbers

  tests : List Bool
  tests = eqb (length file) (file_size rows many) ∷ begins numbers (contents rows many) ∷ []

  sized_ok : is_sized rows many ≡ true
  unfolding is_file tests
  sized_ok = conj_first (is_sized rows many) tests ok

  pub file_sized : Sized rows many
  file_sized = sized rows many sized_ok

  pub file_long : length file ≡ 4 * (7 + rows + width * many)
  unfolding is_file tests file_size
  file_long = eqb-true (length file) (file_size rows many) (conj_at (is_sized rows many) tests ok 0)

  table-split : numbers ≡ contents rows many ++ rest
  unfolding is_file tests
  table-split = rw (length-contents rows many) at (begins-split numbers (contents rows many) (conj_at (is_sized rows many) tests ok 1))

  numbers-long : length numbers ≡ 7 + rows + width * many
  numbers-long = length_decoded number 4 file ∙ omega (arith, file_long)

  order_long : length (take rows rest) ≡ rows
  order_long = length-take-le rows rest (rw (length-drop 7 numbers) (omega (arith, numbers-long)))

  last-long : length last ≡ width * many
  last-long = length-drop (7 + rows) numbers ∙ omega (arith, numbers-long)

  pub flat-last : flat (records many last) ≡ last
  flat-last = flat-records many last (omega (arith, last-long)) ∙ take_all (width * many) last (omega (arith, last-long))

  numbers-back : contents rows many ++ (take rows rest ++ last) ≡ numbers
  numbers-back =
      let last-at : last ≡ drop rows rest = sym (drop-drop rows 7 numbers) in
      rw (last-at, take-append-drop rows rest) (sym table-split)

  module _ (bytes : Each IsByte file) where
    pub file_back : file_of (plan_from file) ≡ file
    unfolding file_of plan_from plan_of
    file_back =
        let k : ℕ = 7 + rows + width * many in
        let all : unsigned_bytes 4 (take k (drop 0 numbers)) ≡ take (4 * k) (drop (4 * 0) file) = bytes_part 0 k file (omega (arith, file_long)) bytes in
        rw (order_long, length-records many last, flat-last, numbers-back)
        (ap (unsigned_bytes 4) (sym (take_all k numbers (omega (arith, numbers-long)))) ∙ all ∙ take_all (4 * k) file (omega (arith, file_long)))

    pub plan-carried : is_carried (plan_from file) ≡ true
    unfolding is_carried plan_from plan_of
    plan-carried =
        let fits : Each Small numbers = numbers-small file bytes in
        rw (order_long, length-records many last, sized_ok, flat-last)
        (each_all Small (λ v. ltb v (2 ^ 32)) (λ v h. lt-ltb v (2 ^ 32) h) (take rows rest ++ last)
        (each_append Small (take rows rest) last (each_take Small rows rest (each-drop Small 7 numbers fits)) (each-drop Small (7 + rows) numbers fits)))
