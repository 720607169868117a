-- What the calls leave in bytes stands for what they made.
use mathlib.Core.Path.{◌≡◌, refl, sym, ap, ◌∙◌, fun_ext}
use mathlib.Core.Bool.{Bool, true, false, ◌&&◌, cond}
use mathlib.Core.List.{List, [], ◌∷◌, ◌++◌, append-nil}
use Prim.Native.Nat.{ℕ, suc, ◌+◌, ◌-◌, ◌*◌, ◌/◌, ◌≤◌, ◌<◌}
use native.Mathlib.Numerals.{add-one}
use native.Mathlib.Omega.{arith}
use lib.Dec.{eqb, ltb, leb}
use lib.IntN.{ℤ, pos, negsuc, nat_abs}
use lib.ListN.{length, get_or, set, take, drop, length-append, length-map, length-set, length-drop}
use lib.Seq.{take_at, take-take, get_or-take, drop-append_seam, length-take-le}
use borrow.Author.Tests.{ltb-true, le-leb, leb-true}
use Rattle.base.specs.Lists.{all, bit}
use Rattle.base.specs.Integers.{within}
use Rattle.base.specs.Replies.{Reply, accepted, Check, room_for, in_turn, lent}
use Rattle.base.proofs.Booleans.{and_left, and_right}
use Rattle.base.proofs.Each.{Each}
use Rattle.base.proofs.Lists.{range_all}
use Rattle.base.proofs.Replies.{accepted-all, accepted-count, lent-accepted}
use Rattle.matrix.specs.Limits.{max_rows, max_entries, max_value, max_displacement}
use Rattle.matrix.specs.Matrix.{Matrix, part_of, columns_of, values_of, entry, lower_entries, is_matrix, matrix_check, are_displacements, matrix_of}
use Rattle.matrix.specs.Product.{force_at, product}
use Rattle.matrix.specs.SmallForces.{largest_force}
use Rattle.matrix.proofs.Matrix.{matrix_facts}
use Rattle.matrix.proofs.Checks.{Shape, shape, shape-made, matrix_tidy}
use Rattle.matrix.proofs.Rows.{row_in, values-tiled}
use Rattle.matrix.proofs.Alike.{alike, followed_rows}
use Rattle.matrix.proofs.Product.{length-product}
use Rattle.matrix.proofs.SmallForces.{small-forces}
use Rattle.market.specs.Parse.{Triplet, Parsed, matrix_text, rejected, parse}
use Rattle.market.specs.FullRows.{full, rows_of, row_starts, columns, values, of_triplets, read_matrix, read_reply}
use Rattle.market.specs.AcceptedText.{left_in}
use Rattle.matrix.specs.SameRows.{SameRows}
use Rattle.market.specs.Text.{written, write_reply}
use Rattle.market.specs.WriteThenRead.{size, exactly}
use Rattle.market.proofs.Accepted.{Accepted, parse-accepted}
use Rattle.market.proofs.AcceptedText.{accepted-text}
use Rattle.market.proofs.FullCount.{length-rows}
use Rattle.market.proofs.FullRows.{length-row-starts}
use Rattle.market.proofs.WriteThenRead.{write_then_read}
use Rattle.plan.specs.Groups.{flat}
use Rattle.plan.specs.Sound.{is_sound_at, is_plan, check_reply}
use Rattle.plan.proofs.FlatRecords.{length-flat}
use Rattle.race.specs.Planner.{plan, are_parameters, plan_reply}
use Rattle.race.specs.PlannedSound.{order_left, groups_left, PlanLeft}
use Rattle.race.proofs.PlannedSound.{planned-sound}
use Rattle.race.proofs.Rooms.{Planned, planned}
use Rattle.words.specs.LittleEndian.{signed_number, signed_bytes_of, unsigned, signed, unsigned_bytes, signed_bytes}
use Rattle.words.proofs.Blocks.{length_decoded, length_encoded}
use Rattle.words.proofs.Digits.{length-signed_bytes_of}
use Rattle.words.proofs.Codes.{Holds, HoldsSigned, unsigned-append, signed-append}
use Rattle.lent.specs.Word.{word, Answered}
use Rattle.survey.specs.Survey.{has_room, amount, amounts_of, with_sign, farthest, written_shift}
use Rattle.survey.proofs.Shifts.{sign_small, farthest-long}
use Rattle.survey.proofs.SurveyError.{survey-error}
use Rattle.upkeep.specs.Upkeep.{KeptForces, Change, new_displacement, new_value, with_value, matrix_after, displacements_after, changed, change_reply, after_reply, after_change, after_changes}
use Rattle.upkeep.specs.KeptCurrent.{Current}
use Rattle.upkeep.proofs.KeptCurrent.{kept-current}
use Rattle.joined.specs.Joined.{joined_rows, stored_in, stiffness, joined, in_limits, join_reply}
use Rattle.joined.proofs.Entries.{joined-matrix}
use Rattle.texts.specs.Lent.{read_in}
use Rattle.office.specs.Lent.{plan_in, PlanAnswered}
use Rattle.lent.specs.Bytes.{matrix_in}
use Rattle.desk.specs.Lent.{survey_in, SurveyAnswered}
use Rattle.desk.proofs.Surveys.{Surveyed, survey-made, amounts-long}
use Rattle.site.specs.Lent.{kept_bytes, value_count, MovementAnswered, EntryAnswered}
use Rattle.shop.specs.Lent.{join_in, JoinAnswered}
use Rattle.meaning.specs.ByteLists.{Reading, matrix_read, RoomFor, ByteLists}
use Rattle.meaning.proofs.EachIn.{each-made}
use Rattle.meaning.proofs.SmallMatrix.{small-value, starts-small, columns-small, values-small}
use Rattle.meaning.proofs.SmallNet.{net_starts-small, net_columns-small}
use Rattle.meaning.proofs.SmallPlan.{Small, sound-small}

-- a list that is lent to itself
lent_again : {A : Type 0} (k : ℕ) (xs rest : List A) → lent (accepted k) xs (xs ++ rest) ≡ xs ++ rest
unfolding lent
lent_again k xs rest = ap (λ (l : List _). xs ++ l) (drop-append_seam xs rest)

-- the numbers that an accepted call left in bytes, and past them what these stand for
module _ {r : Reply} {k : ℕ} (ok : r ≡ accepted k) where
  unsigned-left : (vs : List ℕ) → Each (Holds 4) vs → (old : List ℕ) {new : List ℕ} → new ≡ lent r (unsigned_bytes 4 vs) old → unsigned 4 new ≡ vs ++ unsigned 4 (drop (length (unsigned_bytes 4 vs)) old)
  unsigned-left vs h old e = ap (unsigned 4) (e ∙ lent-accepted (unsigned_bytes 4 vs) old r k ok) ∙ unsigned-append 4 (omega arith) vs h (drop (length (unsigned_bytes 4 vs)) old)

  signed-left : (width : ℕ) → 0 < width → (zs : List ℤ) → Each (HoldsSigned width) zs → (old : List ℕ) {new : List ℕ} → new ≡ lent r (signed_bytes width zs) old → signed width new ≡ zs ++ signed width (drop (length (signed_bytes width zs)) old)
  signed-left width some zs h old e =
      ap (signed width) (e ∙ lent-accepted (signed_bytes width zs) old r k ok) ∙ signed-append width some zs h (drop (length (signed_bytes width zs)) old)

-- ---- reading

module _ (text : List ℕ) (n : ℕ) (es : List Triplet) (t : parse text ≡ matrix_text n es) where
  accepted_es : Accepted n es
  accepted_es = parse-accepted text n es t

  -- lists that begin with the text's are lists that its call leaves
  module _ (a b : List ℕ) (c : List ℤ) where
    abbrev ss : List ℕ
    ss = row_starts n es ++ a

    abbrev cs : List ℕ
    cs = columns n es ++ b

    abbrev vs : List ℤ
    vs = values n es ++ c

    room : read_reply (parse text) (length ss) (length cs) (length vs) ≡ accepted n
    unfolding read_reply in_turn columns values
    room =
        let size : length (rows_of n es) ≡ length (full es) = length-rows n es accepted_es.inner in
        rw (
          t,
          le-leb (n + 1) (length ss) (omega (arith, length-append (row_starts n es) a, length-row-starts n es)),
          le-leb (length (full es)) (length cs) (omega (arith, length-append (columns n es) b, length-map (rows_of n es) (λ (e : Triplet). e.column))),
          le-leb (length (full es)) (length vs) (omega (arith, length-append (values n es) c, length-map (rows_of n es) (λ (e : Triplet). e.value))),
        )

    left_is : left_in n (parse text) ss cs vs ≡ matrix_of n ss cs vs
    unfolding left_in read_matrix of_triplets
    left_is = rw (room, t, lent_again n (row_starts n es) a, lent_again n (columns n es) b, lent_again n (values n es) c)

    same_rows : SameRows (matrix_of n ss cs vs) (read_matrix (parse text))
    unfolding read_matrix
    same_rows = rw (t, ← left_is) (accepted-text.left text n n es ss cs vs t room)

module _ (text : List ℕ) (r : Reading text) (k : ℕ) (ok : read_in text r.starts r.columns r.values ≡ accepted k) where
  -- an accepted text, and what its call left
  text_left : (n : ℕ) (es : List Triplet) → parse text ≡ matrix_text n es → n ≡ k → SameRows (matrix_read k r) (read_matrix (parse text))
  unfolding matrix_read
  text_left n es t e =
      let a = accepted_es text n es t in
      let is : read_matrix (parse text) ≡ of_triplets n es = unfold read_matrix in ap read_matrix t in
      let reply = read_in text r.starts r.columns r.values in
      let starts = unsigned-left ok (row_starts n es) (starts-small a) r.starts (r.answered.starts_left ∙ ap (λ (m : Matrix). lent reply (unsigned_bytes 4 m.starts) r.starts) is ∙ unfold of_triplets in refl) in
      let columns = unsigned-left ok (columns n es) (columns-small a) r.columns (r.answered.columns_left ∙ ap (λ (m : Matrix). lent reply (unsigned_bytes 4 m.columns) r.columns) is ∙ unfold of_triplets in refl) in
      let values = signed-left ok 4 (omega arith) (values n es) (values-small a) r.values (r.answered.values_left ∙ ap (λ (m : Matrix). lent reply (signed_bytes 4 m.values) r.values) is ∙ unfold of_triplets in refl) in
      rw (← e, starts, columns, values) (same_rows text n es t _ _ _)

  matrix-count : (n : ℕ) (es : List Triplet) (a b c : ℕ) → read_reply (matrix_text n es) a b c ≡ accepted k → n ≡ k
  unfolding read_reply in_turn
  matrix-count n es a b c e =
      let checks : List Check = room_for (n + 1) a ∷ room_for (length (full es)) b ∷ room_for (length (full es)) c ∷ [] in
      let all = accepted-all checks (accepted n) k e in
      let told : accepted n ≡ accepted k = rw (all.0, all.1.0, all.1.1.0) at e in
      cc

  reads : SameRows (matrix_read k r) (read_matrix (parse text))
  reads = go (parse text) refl ok
    where
      go : (t : Parsed) → parse text ≡ t → read_reply t (length r.starts / 4) (length r.columns / 4) (length r.values / 4) ≡ accepted k → SameRows (matrix_read k r) (read_matrix (parse text))
      go (matrix_text n es) t e = text_left n es t (matrix-count n es _ _ _ e)
      go (rejected q p) t e = unfold read_reply in absurd (let z : ◌≡◌ {A = ℕ} 0 1 = cc in omega arith)

-- ---- writing, then reading

module _ (m : Matrix) (ok : is_matrix m ≡ true) where
  -- without what stands past them its lists have the same rows
  part-exactly : {A : Type 0} (xs : List A) (i : ℕ) → part_of (exactly m) (take (size m) xs) i ≡ part_of m xs i
  unfolding part_of exactly size
  part-exactly xs i = go (ltb i m.n) refl
    where
      go : (b : Bool) → ltb i m.n ≡ b → part_of (exactly m) (take (size m) xs) i ≡ part_of m xs i
      go true e =
          let l = ltb-true i m.n e in
          let end : get_or m.starts (suc i) 0 ≤ get_or m.starts m.n 0 = rw (add-one i) at (row_in m (matrix_tidy m ok).shape i l (get_or m.starts m.n 0) (omega arith)).ends in
          rw (
            e,
            get_or-take (suc m.n) m.starts i 0 (omega arith),
            get_or-take (suc m.n) m.starts (suc i) 0 (omega arith),
            take-take (get_or m.starts (suc i) 0) (get_or m.starts m.n 0) xs end,
          )
      go false e = rw e

  rows-of : {other : Matrix} → SameRows other (exactly m) → SameRows other m
  unfolding columns_of values_of exactly
  rows-of s = record { matrix = s.matrix; columns = λ i. s.columns i ∙ part-exactly m.columns i; values = λ i. s.values i ∙ part-exactly m.values i }

  reads-back : (text : List ℕ) → text ≡ written m → (r : Reading text) → RoomFor m r → (r.returned ≡ m.n) × SameRows (matrix_read m.n r) m
  unfolding word
  reads-back text e r room =
      let same = write_then_read.every m ok in
      let taken : read_in text r.starts r.columns r.values ≡ accepted m.n = rw e (same.reads _ _ _ room.starts room.columns room.values) in
      let back : read_matrix (parse text) ≡ exactly m = rw e same.same in
      (r.answered.returns ∙ ap word taken, rows-of (rw back at (reads text r m.n taken)))

  written_read : (old : List ℕ) (returned : ℕ) (new : List ℕ) → length (written m) ≤ length old → Answered (write_reply m (length old)) (written m) old returned new
      → (r : Reading (take returned new)) → RoomFor m r → (r.returned ≡ m.n) × SameRows (matrix_read m.n r) m
  unfolding word
  written_read old returned new room a =
      let w = (write_then_read.every m ok).writes old room in
      let count : returned ≡ length (written m) = a.returns ∙ ap word w.0 in
      reads-back (take returned new) (rw (count, a.leaves) w.1)

-- ---- planning

module _ (m : Matrix) (w p k : ℕ) (order groups : List ℕ) (returned : ℕ) (new_order new_groups : List ℕ) (a : PlanAnswered m w p k order groups returned new_order new_groups) (group_count : ℕ)
    (ok : plan_in m w p k order groups ≡ accepted group_count) where
  parameters : are_parameters w p k ≡ true
  unfolding plan_reply
  parameters = (accepted-all _ _ group_count ok).1.0

  made : Planned m w p k (length order / 4) (length groups / 4) group_count
  made = planned m w p k (length order / 4) (length groups / 4) group_count ok

  small : Small (plan m w p k).order (plan m w p k).groups
  unfolding is_sound_at
  small = sound-small _ m.n (plan m w p k).order (plan m w p k).groups (matrix_facts m made.matrix).few (planned-sound.sound m w p k made.matrix parameters)

  -- the lists that the bytes stand for
  abbrev rows : List ℕ
  rows = unsigned 4 (drop (length (unsigned_bytes 4 (plan m w p k).order)) order)

  abbrev numbers : List ℕ
  numbers = unsigned 4 (drop (length (unsigned_bytes 4 (flat (plan m w p k).groups))) groups)

  -- they begin with the plan
  left-lists : PlanLeft m w p k ((plan m w p k).order ++ rows) (flat (plan m w p k).groups ++ numbers)
  left-lists = planned-sound.left m w p k _ _ made.matrix parameters (record {
    rows = omega (arith, length-append (plan m w p k).order rows, made.order-size);
    records = omega (arith, length-append (flat (plan m w p k).groups) numbers, length-flat (plan m w p k).groups);
  })

  planned-left : (check_reply m (unsigned 4 new_order) (unsigned 4 new_groups) group_count k ≡ accepted 0) × (2 ≤ k → is_plan m (unsigned 4 new_order) (unsigned 4 new_groups) group_count ≡ true)
  unfolding order_left groups_left
  planned-left =
      let size = length (plan m w p k).groups in
      let count : group_count ≡ size = omega (arith, made.groups-size, length-flat (plan m w p k).groups) in
      let order-again = lent_again size (plan m w p k).order rows in
      let groups-again = lent_again size (flat (plan m w p k).groups) numbers in
      let passes = rw (left-lists.accepts, order-again, groups-again) at left-lists.passes in
      let order_is = unsigned-left ok (plan m w p k).order small.rows order a.order-left in
      let groups_are = unsigned-left ok (flat (plan m w p k).groups) small.numbers groups a.groups-left in
      (rw (order_is, groups_are, count) passes, λ enough. rw (order_is, groups_are, count) (rw (left-lists.accepts, order-again, groups-again) at (left-lists.runs enough)))

-- ---- surveying

module _ (m : Matrix) (x : List ℤ) (t i : ℕ) (sums moves : List ℕ) (returned : ℕ) (new_sums new_moves : List ℕ) (a : SurveyAnswered m x t i sums moves returned new_sums new_moves) (k : ℕ)
    (ok : survey_in m x t i sums moves ≡ accepted k) where
  surveyed_call : Surveyed m x t i (length sums / 8) (length moves / 4) k
  surveyed_call = survey-made m x t i (length sums / 8) (length moves / 4) k ok

  amounts-small : Each (HoldsSigned 8) (amounts_of m t)
  unfolding amounts_of
  amounts-small = each-made (HoldsSigned 8) (λ i. pos (amount m t i)) (λ i. omega (arith, survey-error.fits m t surveyed_call.matrix surveyed_call.error i)) 0 m.n

  shift_small : Each (HoldsSigned 4) (farthest m t i)
  unfolding farthest
  shift_small = each-made (HoldsSigned 4) (λ j. with_sign t (entry m i j)) (λ j. small-value (with_sign t (entry m i j)) (omega (arith, sign_small t (entry m i j), surveyed_call.error))) 0 m.n

  shift_left : k ≡ 1 → new_moves ≡ lent (survey_in m x t i sums moves) (signed_bytes 4 (farthest m t i)) moves
  unfolding written_shift
  shift_left e = go (has_room t x) surveyed_call.count a.shift_left
    where
      go : (b : Bool) → bit b ≡ k → new_moves ≡ lent (survey_in m x t i sums moves) (signed_bytes 4 (cond b (farthest m t i) [])) moves → new_moves ≡ lent (survey_in m x t i sums moves) (signed_bytes 4 (farthest m t i)) moves
      go true c f = f
      go false c f = absurd (omega arith)

  surveyed-left : (take m.n (signed 8 new_sums) ≡ amounts_of m t) × (k ≡ 1 → take m.n (signed 4 new_moves) ≡ farthest m t i)
  surveyed-left = (
    rw (signed-left ok 8 (omega arith) (amounts_of m t) amounts-small sums a.amounts_left) (take_at (amounts_of m t) _ m.n (amounts-long m x t i)),
    λ e. rw (signed-left ok 4 (omega arith) (farthest m t i) shift_small moves (shift_left e)) (take_at (farthest m t i) _ m.n (farthest-long m t i)),
  )

-- ---- a kept force list

none : {A : Type 0} (xs : List A) → length xs ≡ 0 → xs ≡ []
none [] e = refl
none (x ∷ xs) e = absurd (omega arith)

-- numbers that fill their bytes, a stray part apart
filled-left : {r : Reply} {k : ℕ} → r ≡ accepted k → (width : ℕ) → 0 < width → (zs : List ℤ) → Each (HoldsSigned width) zs → (old : List ℕ) → (length old - length zs * width) / width ≡ 0
    → {new : List ℕ} → new ≡ lent r (signed_bytes width zs) old → signed width new ≡ zs
filled-left ok width some zs h old e f =
    let tail = drop (length (signed_bytes width zs)) old in
    let size : length (signed_bytes width zs) ≡ length zs * width = length_encoded (signed_bytes_of width) width (length-signed_bytes_of width) zs in
    let short : length (signed width tail) ≡ 0 = length_decoded (signed_number width) width tail ∙ rw (length-drop (length (signed_bytes width zs)) old, size) e in
    signed-left ok width some zs h old f ∙ ap (λ (l : List ℤ). zs ++ l) (none (signed width tail) short) ∙ append-nil zs

each_within : (limit : ℕ) → limit ≤ max_value → (zs : List ℤ) → all (within limit) zs ≡ true → Each (HoldsSigned 4) zs
unfolding within
each_within limit l [] h = tt
each_within limit l (z ∷ zs) h =
    (small-value z (omega (arith, l, leb-true (nat_abs z) limit (and_left (within limit z) (all (within limit) zs) h))), each_within limit l zs (and_right (within limit z) (all (within limit) zs) h))

small_force : (z : ℤ) → within largest_force z ≡ true → HoldsSigned 8 z
unfolding within
small_force (pos v) h = omega (arith, leb-true v 4096000000000000000 h)
small_force (negsuc v) h = omega (arith, leb-true (suc v) 4096000000000000000 h)

module _ (k : KeptForces) (c : Change) (n : ℕ) (ok : change_reply k c ≡ accepted n) where
  was : Current k
  was = kept-current.before k c n ok

  is : Current (changed k c)
  unfolding after_changes after_change after_reply
  is = rw ok at (kept-current.sequence k was (c ∷ []))

  rows_same : (changed k c).matrix.n ≡ k.matrix.n
  unfolding changed matrix_after with_value
  rows_same = go c
    where
      go : (c : Change) → (matrix_after k.matrix c).n ≡ k.matrix.n
      go (new_displacement i v) = refl
      go (new_value i j v) = refl

  forces-back : (forces : List ℕ) → k.forces ≡ signed 8 forces → {new_forces : List ℕ} → new_forces ≡ lent (change_reply k c) (signed_bytes 8 (changed k c).forces) forces → signed 8 new_forces ≡ (changed k c).forces
  unfolding product
  forces-back forces e f =
      let m = (changed k c).matrix in
      let x = (changed k c).displacements in
      let small : Each (HoldsSigned 8) (changed k c).forces = rw is.forces (each-made (HoldsSigned 8) (force_at m x) (λ i. small_force (force_at m x i) (small-forces.small m x is.matrix is.moved i)) 0 m.n) in
      let many : length (changed k c).forces ≡ length forces / 8 = ap length is.forces ∙ length-product m x ∙ rows_same ∙ sym (length-product k.matrix k.displacements) ∙ ap length (sym was.forces ∙ e) ∙ length_decoded (signed_number 8) 8 forces in
      filled-left ok 8 (omega arith) (changed k c).forces small forces (omega arith) f

moved-left : (m : Matrix) (i : ℕ) (v : ℤ) (movements forces : List ℕ) (returned : ℕ) (new_movements new_forces : List ℕ) → MovementAnswered m (new_displacement i v) movements forces returned new_movements new_forces
    → (n : ℕ) → change_reply (kept_bytes m movements forces) (new_displacement i v) ≡ accepted n → kept_bytes m new_movements new_forces ≡ changed (kept_bytes m movements forces) (new_displacement i v)
unfolding are_displacements changed matrix_after displacements_after
moved-left m i v movements forces returned new_movements new_forces a n ok =
    let k = kept_bytes m movements forces in
    let c = new_displacement i v in
    let x : List ℤ = set (signed 4 movements) i v in
    let moves : are_displacements m.n x ≡ true = (is k c n ok).moved in
    let many : length x ≡ length movements / 4 = length-set (signed 4 movements) i v ∙ length_decoded (signed_number 4) 4 movements in
    let small = each_within max_displacement (omega arith) x (and_right (eqb (length x) m.n) (all (within max_displacement) x) moves) in
    rw (filled-left ok 4 (omega arith) x small movements (omega arith) a.movements_left, forces-back k c n ok forces refl a.forces_left)

module _ (n : ℕ) (starts columns values : List ℕ) (i j : ℕ) (v : ℤ) (movements forces : List ℕ) (returned : ℕ) (new_values new_forces : List ℕ)
    (a : EntryAnswered (matrix_in n starts columns values) (new_value i j v) values movements forces returned new_values new_forces) (count : ℕ)
    (ok : change_reply (kept_bytes (matrix_in n starts columns values) movements forces) (new_value i j v) ≡ accepted count) where
  abbrev kept : KeptForces
  kept = kept_bytes (matrix_in n starts columns values) movements forces

  -- the matrix as changed, and as it stands in bytes
  abbrev new : Matrix
  new = (changed kept (new_value i j v)).matrix

  abbrev left : Matrix
  left = matrix_in n starts columns new_values

  current : Current (changed kept (new_value i j v))
  current = is kept (new_value i j v) count ok

  list_same : left ≡ record { n = new.n; starts = new.starts; columns = new.columns; values = signed 4 new_values }
  unfolding changed matrix_after with_value
  list_same = refl

  ends : value_count (matrix_in n starts columns values) ≡ size new
  unfolding changed matrix_after with_value size
  ends = refl

  whole : Shape new
  whole = shape new (matrix_tidy new current.matrix).shape

  -- the values of the rows are those of the changed matrix
  values-long : length (take (size new) new.values) ≡ size new
  unfolding size
  values-long = length-take-le (size new) new.values whole.values-long

  begins-same : signed 4 new_values ≡ take (size new) new.values ++ signed 4 (drop (length (signed_bytes 4 (take (size new) new.values))) values)
  unfolding size
  begins-same =
      let small = each_within max_value (omega arith) (take (size new) new.values) (values-tiled new (matrix_tidy new current.matrix).shape (within max_value) new.n (omega arith) ∙ range_all (λ k. all (within max_value) (values_of new k)) new.n (λ k l. ((matrix_facts new current.matrix).row k l).small)) in
      signed-left ok 4 (omega arith) (take (size new) new.values) small values (a.values_left ∙ ap (λ (e : ℕ). lent (change_reply kept (new_value i j v)) (signed_bytes 4 (take e new.values)) values) ends)

  values_same : (r : ℕ) → part_of new (signed 4 new_values) r ≡ part_of new new.values r
  values_same r =
      sym (part-exactly new current.matrix (signed 4 new_values) r)
      ∙ ap (λ (l : List ℤ). part_of (exactly new) l r) (ap (take (size new)) begins-same ∙ take_at (take (size new) new.values) _ (size new) values-long)
      ∙ part-exactly new current.matrix new.values r

  long-enough : size new ≤ length (signed 4 new_values)
  long-enough = rw (begins-same, length-append) (omega (arith, values-long))

  altered-left : SameRows left new × (signed 8 new_forces ≡ (changed kept (new_value i j v)).forces)
  unfolding columns_of values_of part_of changed matrix_after with_value size
  altered-left = (
    record {
      matrix = alike new new.starts new.columns (signed 4 new_values) refl (fun_ext values_same) (shape-made left (record {
        some = whole.some;
        few = whole.few;
        starts-long = whole.starts-long;
        starts_first = whole.starts_first;
        columns-long = whole.columns-long;
        values-long = long-enough;
        rising = whole.rising;
      })) (matrix_tidy new current.matrix).shape ∙ current.matrix;
      columns = λ r. refl;
      values = values_same;
    },
    forces-back kept (new_value i j v) count ok forces refl a.forces_left,
  )

-- ---- two nets sewn together

module _ (a b : Matrix) (places starts columns values : List ℕ) (returned : ℕ) (new_starts new_columns new_values : List ℕ) (g : JoinAnswered a b places starts columns values returned new_starts new_columns new_values) (n : ℕ)
    (ok : join_in a b places starts columns values ≡ accepted n) where
  abbrev net : Matrix
  net = joined a b places

  fit : in_limits net ≡ true
  unfolding join_reply
  fit = (accepted-all _ _ n ok).1.1.1.0

  net_matrix : is_matrix net ≡ true
  unfolding join_reply matrix_check
  net_matrix = let held = accepted-all _ _ n ok in joined-matrix a b places held.0 held.1.0 held.1.1.0 fit

  told : net.n ≡ n
  unfolding join_reply
  told = accepted-count _ net.n n ok

  net_values-small : Each (HoldsSigned 4) net.values
  unfolding in_limits
  net_values-small =
      let both = and_left (leb net.n max_rows && all (within max_value) net.values) (leb (lower_entries net) max_entries) fit in
      each_within max_value (omega arith) net.values (and_right (leb net.n max_rows) (all (within max_value) net.values) both)

  joined-left : SameRows (matrix_in n new_starts new_columns new_values) net
  unfolding joined
  joined-left =
      let rows = joined_rows a places in
      let ss = unsigned-left ok net.starts (net_starts-small rows (stored_in a b places) (stiffness a b places) net_matrix) starts g.starts_left in
      let cs = unsigned-left ok net.columns (net_columns-small rows (stored_in a b places) (stiffness a b places) net_matrix) columns g.columns_left in
      let vs = signed-left ok 4 (omega arith) net.values net_values-small values g.values_left in
      rw (← told, ss, cs, vs) (followed_rows net net_matrix _ _ _)

-- the theorem
pub byte-lists : ByteLists
byte-lists = record { read = reads; written_read = written_read; planned = planned-left; surveyed = surveyed-left; moved = moved-left; altered = altered-left; joined = joined-left }
