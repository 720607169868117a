-- The reader's call: the rooms of the lent lists cut to what a matrix can need, and the matrix stored in them.
use mathlib.Core.Path.{◌≡◌, refl, sym, ap, ◌∙◌}
use mathlib.Core.List.{List, [], ◌∷◌, ◌++◌, append-nil, append_assoc}
use Prim.Native.Nat.{ℕ, ◌+◌, ◌/◌, ◌≤◌, min}
use native.Mathlib.Nat.{min_comm}
use native.Mathlib.Omega.{arith}
use lib.IntN.{ℤ, pos}
use lib.Dec.{leb}
use lib.ListN.{length, get_or, take, drop, replicate, length-map, length-replicate}
use lib.Seq.{length-take-le}
use borrow.Author.Tests.{leb-true, le-leb}
use Rattle.base.specs.Replies.{Reply, accepted, refused, Check, room_for, in_turn, lent}
use Rattle.base.proofs.Booleans.{both_ways, leb-min}
use Rattle.base.proofs.Replies.{accepted-all, lent-accepted, lent-refused}
use Rattle.matrix.proofs.Entries.{few-entries}
use Rattle.market.specs.Parse.{Triplet, Parsed, matrix_text, rejected, parse}
use Rattle.market.specs.FullRows.{full, rows_of, row_starts, columns, values, of_triplets, read_matrix, read_reply}
use Rattle.market.proofs.Accepted.{parse-accepted}
use Rattle.market.proofs.AcceptedText.{accepted-text}
use Rattle.market.proofs.FullCount.{length-rows}
use Rattle.market.proofs.FullRows.{length-row-starts, rows_end}
use Rattle.words.specs.LittleEndian.{bytes_of, signed_bytes_of, unsigned_bytes, signed_bytes, stored}
use Rattle.matrix.specs.Code.Room.{max_starts, max_cells}
use Rattle.lent.specs.Word.{word}
use Rattle.texts.specs.Lent.{read_in, ReadAnswered}
use Rattle.texts.specs.Code.Room.{Ample}
use Rattle.lent.proofs.Answers.{Begins, begins, begins_at, begins-stored}

-- the matrix of an accepted text
module _ (text : List ℕ) (n : ℕ) (es : List Triplet) (e : parse text ≡ matrix_text n es) where
  full-few : length (full es) ≤ max_cells
  unfolding of_triplets
  full-few =
      let end : get_or (row_starts n es) n 0 ≡ length (rows_of n es) = rw (append-nil (row_starts n es)) at (rows_end n es []) in
      omega (arith, end, length-rows n es (parse-accepted text n es e).inner, few-entries (of_triplets n es) (accepted-text.matrix text n es e))

-- a room that is cut to no less than was lent or a matrix can need is as good
room-same : (f b y : ℕ) → f ≤ max_cells → min b max_cells ≤ y → leb f (min b y) ≡ leb f b
room-same f b y h g = both_ways (leb f (min b y)) (leb f b) (λ t. le-leb f b (omega (arith, leb-true f (min b y) t))) (λ t. le-leb f (min b y) (omega (arith, leb-true f b t)))

-- so the reply is the same
module _ (text : List ℕ) (a b c x y z : ℕ) (hx : max_starts ≤ x) (hy : min b max_cells ≤ y) (hz : min c max_cells ≤ z) where
  room_cut : (n : ℕ) (es : List Triplet) → parse text ≡ matrix_text n es → read_reply (matrix_text n es) (min a x) (min b y) (min c z) ≡ read_reply (matrix_text n es) a b c
  unfolding read_reply
  room_cut n es e =
      let few = full-few text n es e in
      rw (
        min_comm a x,
        leb-min (n + 1) x a (omega (arith, (parse-accepted text n es e).rows)),
        room-same (length (full es)) b y few hy,
        room-same (length (full es)) c z few hz,
      )

  pub rooms_cut : read_reply (parse text) (min a x) (min b y) (min c z) ≡ read_reply (parse text) a b c
  unfolding read_reply
  rooms_cut = go (parse text) refl
    where
      go : (t : Parsed) → parse text ≡ t → read_reply t (min a x) (min b y) (min c z) ≡ read_reply t a b c
      go (matrix_text n es) e = room_cut n es e
      go (rejected q p) e = refl

-- the lists of an accepted call, of k rows: how long they are, how many entries
-- the last row start tells, and that there is room
pub record Read (t : Parsed) (a b c k : ℕ) : Type 0 where
  pub few : k + 1 ≤ max_starts
  pub cells-few : length (read_matrix t).columns ≤ max_cells
  pub starts-size : length (read_matrix t).starts ≡ k + 1
  pub values-size : length (read_matrix t).values ≡ length (read_matrix t).columns
  pub last : (rest : List ℕ) → get_or ((read_matrix t).starts ++ rest) k 0 ≡ length (read_matrix t).columns
  pub starts-room : k + 1 ≤ a
  pub columns-room : length (read_matrix t).columns ≤ b
  pub values-room : length (read_matrix t).columns ≤ c

module _ (text : List ℕ) (a b c k : ℕ) where
  matrix-read : (n : ℕ) (es : List Triplet) → parse text ≡ matrix_text n es → read_reply (matrix_text n es) a b c ≡ accepted k → Read (matrix_text n es) a b c k
  unfolding read_reply read_matrix of_triplets columns values in_turn
  matrix-read n es t e =
      let checks : List Check = room_for (n + 1) a ∷ room_for (length (full es)) b ∷ room_for (length (full es)) c ∷ [] in
      let all = accepted-all checks (accepted n) k e in
      let told : accepted n ≡ accepted k = rw (all.0, all.1.0, all.1.1.0) at e in
      let same : n ≡ k = cc in
      let size : length (rows_of n es) ≡ length (full es) = length-rows n es (parse-accepted text n es t).inner in
      let cs : length (columns n es) ≡ length (rows_of n es) = length-map (rows_of n es) _ in
      let vs : length (values n es) ≡ length (rows_of n es) = length-map (rows_of n es) _ in
      rw (← same) (record {
        few = omega (arith, (parse-accepted text n es t).rows);
        cells-few = omega (arith, full-few text n es t);
        starts-size = length-row-starts n es;
        values-size = vs ∙ sym cs;
        last = λ rest. rows_end n es rest ∙ sym cs;
        starts-room = leb-true (n + 1) a all.0;
        columns-room = omega (arith, leb-true (length (full es)) b all.1.0);
        values-room = omega (arith, leb-true (length (full es)) c all.1.1.0);
      })

  pub read_made : read_reply (parse text) a b c ≡ accepted k → Read (parse text) a b c k
  unfolding read_reply
  read_made e = go (parse text) refl e
    where
      go : (t : Parsed) → parse text ≡ t → read_reply t a b c ≡ accepted k → Read t a b c k
      go (matrix_text n es) t e = matrix-read n es t e
      go (rejected q p) t e = (let z : ◌≡◌ {A = ℕ} 0 1 = cc in absurd (omega arith))

-- the arrays of a call, before it
abbrev pub no_starts : List ℕ
no_starts = replicate max_starts 0

abbrev pub no_columns : ℕ → List ℕ
no_columns cells = replicate cells 0

abbrev pub no_values : ℕ → List ℤ
no_values cells = replicate cells (pos 0)

-- the reply of a call to which the first i, j and k numbers of such arrays are lent on
pub same-reply : (text : List ℕ) (cells : ℕ) (start_bytes column_bytes value_bytes : List ℕ) {i j k : ℕ} → Ample cells column_bytes × Ample cells value_bytes
    → i ≡ min (length start_bytes / 4) max_starts → j ≡ min (length column_bytes / 4) cells → k ≡ min (length value_bytes / 4) cells
    → read_reply (parse text) (length (take i no_starts)) (length (take j (no_columns cells))) (length (take k (no_values cells))) ≡ read_in text start_bytes column_bytes value_bytes
same-reply text cells start_bytes column_bytes value_bytes {i} {j} {k} enough ei ej ek =
    let starts = length-replicate {A = ℕ} max_starts 0 in
    let columns = length-replicate {A = ℕ} cells 0 in
    let values = length-replicate {A = ℤ} cells (pos 0) in
    rw (length-take-le i no_starts (omega arith), length-take-le j (no_columns cells) (omega arith), length-take-le k (no_values cells) (omega arith), ei, ej, ek)
    (rooms_cut text (length start_bytes / 4) (length column_bytes / 4) (length value_bytes / 4) max_starts cells cells (omega arith) enough.0.1 enough.1.1)

-- three arrays begin with the matrix of n rows that an accepted call gives
pub record Held (text start_bytes column_bytes value_bytes : List ℕ) (n : ℕ) (starts columns : List ℕ) (values : List ℤ) : Type 0 where
  pub reply : accepted n ≡ read_in text start_bytes column_bytes value_bytes
  pub few : n + 1 ≤ max_starts
  pub cells-few : get_or starts n 0 ≤ max_cells
  pub starts_begin : Begins starts (read_matrix (parse text)).starts (n + 1)
  pub columns_begin : Begins columns (read_matrix (parse text)).columns (get_or starts n 0)
  pub values_begin : Begins values (read_matrix (parse text)).values (get_or starts n 0)
  pub starts-room : n + 1 ≤ length start_bytes / 4
  pub columns-room : get_or starts n 0 ≤ length column_bytes / 4
  pub values-room : get_or starts n 0 ≤ length value_bytes / 4

module _ {text start_bytes column_bytes value_bytes : List ℕ} {r : Reply} (same : r ≡ read_in text start_bytes column_bytes value_bytes) where
  -- a refused call leaves the lent lists
  pub read-refused : {q p w : ℕ} → refused q p ≡ r → w ≡ word (refused q p) → ReadAnswered text start_bytes column_bytes value_bytes w start_bytes column_bytes value_bytes
  read-refused {q} {p} e f =
      let reply = sym (e ∙ same) in
      record {
        returns = f ∙ ap word (sym reply);
        starts_left = sym (lent-refused _ start_bytes _ q p reply);
        columns_left = sym (lent-refused _ column_bytes _ q p reply);
        values_left = sym (lent-refused _ value_bytes _ q p reply);
      }

  -- an accepted one holds the matrix in the arrays; `more` is what is in them past the part that is lent on
  pub read_held : {n : ℕ} → accepted n ≡ r → {ss cs : List ℕ} {vs : List ℤ} (old_starts old_columns : List ℕ) (old_values : List ℤ)
      → ss ≡ lent r (read_matrix (parse text)).starts old_starts → cs ≡ lent r (read_matrix (parse text)).columns old_columns → vs ≡ lent r (read_matrix (parse text)).values old_values
      → (more_starts more_columns : List ℕ) (more_values : List ℤ) → Held text start_bytes column_bytes value_bytes n (ss ++ more_starts) (cs ++ more_columns) (vs ++ more_values)
  read_held {n} e {ss} old_starts old_columns old_values es ec ev more_starts more_columns more_values =
      let made = read_made text (length start_bytes / 4) (length column_bytes / 4) (length value_bytes / 4) n (sym (e ∙ same)) in
      let last : get_or (ss ++ more_starts) n 0 ≡ length (read_matrix (parse text)).columns =
      rw (es, lent-accepted (read_matrix (parse text)).starts old_starts r n (sym e), append_assoc) (made.last _) in
      record {
        reply = e ∙ same;
        few = made.few;
        cells-few = rw last made.cells-few;
        starts_begin = begins (sym e) _ _ es more_starts made.starts-size;
        columns_begin = begins (sym e) _ _ ec more_columns (sym last);
        values_begin = begins (sym e) _ _ ev more_values (made.values-size ∙ sym last);
        starts-room = made.starts-room;
        columns-room = rw last made.columns-room;
        values-room = rw last made.values-room;
      }

-- the same for the arrays of a call, of which the first i, j and k numbers are lent on
pub read_into : {text start_bytes column_bytes value_bytes : List ℕ} (cells : ℕ) {i j k : ℕ} → Ample cells column_bytes × Ample cells value_bytes
    → i ≡ min (length start_bytes / 4) max_starts → j ≡ min (length column_bytes / 4) cells → k ≡ min (length value_bytes / 4) cells
    → {n : ℕ} → accepted n ≡ read_reply (parse text) (length (take i no_starts)) (length (take j (no_columns cells))) (length (take k (no_values cells)))
    → {ss cs : List ℕ} {vs : List ℤ} → ss ≡ lent (read_reply (parse text) (length (take i no_starts)) (length (take j (no_columns cells))) (length (take k (no_values cells)))) (read_matrix (parse text)).starts (take i no_starts)
    → cs ≡ lent (read_reply (parse text) (length (take i no_starts)) (length (take j (no_columns cells))) (length (take k (no_values cells)))) (read_matrix (parse text)).columns (take j (no_columns cells))
    → vs ≡ lent (read_reply (parse text) (length (take i no_starts)) (length (take j (no_columns cells))) (length (take k (no_values cells)))) (read_matrix (parse text)).values (take k (no_values cells))
    → Held text start_bytes column_bytes value_bytes n (ss ++ drop i no_starts) (cs ++ drop j (no_columns cells)) (vs ++ drop k (no_values cells))
read_into {text} {start_bytes} {column_bytes} {value_bytes} cells {i} {j} {k} enough ei ej ek e es ec ev =
    read_held (same-reply text cells start_bytes column_bytes value_bytes enough ei ej ek) e (take i no_starts) (take j (no_columns cells)) (take k (no_values cells)) es ec ev (drop i no_starts) (drop j (no_columns cells)) (drop k (no_values cells))

-- .. and stores it
pub read-stored : {text start_bytes column_bytes value_bytes : List ℕ} {n : ℕ} {starts columns : List ℕ} {values : List ℤ} → Held text start_bytes column_bytes value_bytes n starts columns values
    → {entries w : ℕ} {new_starts new_columns new_values : List ℕ} → entries ≡ get_or starts n 0 → w ≡ word (accepted n)
    → new_starts ≡ stored (unsigned_bytes 4 (take (length start_bytes / 4) (take (n + 1) starts))) start_bytes
    → new_columns ≡ stored (unsigned_bytes 4 (take (length column_bytes / 4) (take entries columns))) column_bytes
    → new_values ≡ stored (signed_bytes 4 (take (length value_bytes / 4) (take entries values))) value_bytes
    → ReadAnswered text start_bytes column_bytes value_bytes w new_starts new_columns new_values
read-stored {start_bytes = start_bytes} {column_bytes = column_bytes} {value_bytes = value_bytes} h l f gs gc gv = record {
  returns = f ∙ ap word h.reply;
  starts_left = begins-stored h.starts_begin (bytes_of 4) 4 start_bytes (sym h.reply) h.starts-room gs;
  columns_left = begins-stored (begins_at h.columns_begin l) (bytes_of 4) 4 column_bytes (sym h.reply) (rw l h.columns-room) gc;
  values_left = begins-stored (begins_at h.values_begin l) (signed_bytes_of 4) 4 value_bytes (sym h.reply) (rw l h.values-room) gv;
}
