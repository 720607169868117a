-- The joining's call on lists that are cut, and on lists that are made beside the lent ones.
use mathlib.Core.Path.{◌≡◌, refl, sym, ap, ◌∙◌}
use mathlib.Core.Bool.{Bool, true, false, ◌||◌}
use mathlib.Core.List.{List, [], ◌∷◌, ◌++◌, append_assoc}
use Prim.Native.Nat.{ℕ, suc, ◌+◌, ◌/◌, ◌≤◌, min}
use native.Mathlib.Nat.{min_comm}
use native.Mathlib.Omega.{arith}
use lib.Dec.{leb}
use lib.IntN.{ℤ, ◌+ℤ◌}
use lib.ListN.{length, get_or, take, drop, length-take, get_or-append}
use lib.Seq.{take_all, length-take-le}
use borrow.Author.Tests.{leb-true, leb-false, ne_eqb}
use Rattle.base.specs.Lists.{is_in, position_of}
use Rattle.base.specs.Refusals as why
use Rattle.base.specs.Replies.{Reply, accepted, refused, Check, check, room_for, lent}
use Rattle.base.proofs.Booleans.{leb-min}
use Rattle.base.proofs.Replies.{in_turn-same, accepted-all, accepted-count, lent-refused, lent-accepted}
use Rattle.matrix.specs.Limits.{max_rows}
use Rattle.matrix.specs.Matrix.{Matrix, columns_of, entry, is_matrix, matrix_check}
use Rattle.matrix.specs.Tabulated.{tabulated}
use Rattle.matrix.proofs.Matrix.{matrix_facts}
use Rattle.matrix.specs.Code.Room.{max_starts, max_cells, Reaches}
use Rattle.matrix.proofs.Cut.{cut, cut-matrix, cut-columns, cut-entry}
use Rattle.words.proofs.Blocks.{length_decoded}
use Rattle.words.specs.LittleEndian.{number, unsigned, bytes_of, signed_bytes_of, unsigned_bytes, signed_bytes, stored}
use Rattle.lent.specs.Word.{word}
use Rattle.lent.specs.declared.nets.NetBytes.{NetBytes}
use Rattle.lent.specs.Code.Nets.{net_of, first_cells}
use Rattle.lent.proofs.Answers.{answered-same, Begins, begins, begins_at, begins-stored}
use Rattle.joined.specs.Joined.{past_first, joined_rows, are_places, stored_in, stiffness, joined, in_limits, join_reply}
use Rattle.joined.proofs.Entries.{joined-matrix}
use Rattle.joined.proofs.Sizes.{net_rows, net_starts, net_last, net_values, net_few, net_sum}
use Rattle.joined.proofs.Places.{long}
use Rattle.shop.specs.Lent.{join_in, JoinAnswered}
use Rattle.shop.specs.Code.Reach.{Ample}

-- ---- rooms

module _ (a b : Matrix) (places : List ℕ) where
  abbrev net : Matrix
  net = joined a b places

  abbrev Roomy : ℕ → Type 0
  Roomy room = Ample (length a.columns) (length b.columns) room

  rooms_cut : (s c v x y z : ℕ) → max_starts ≤ x → Roomy y → Roomy z → join_reply a b places (min s x) (min c y) (min v z) ≡ join_reply a b places s c v
  unfolding join_reply matrix_check
  rooms_cut s c v x y z hx hy hz =
      in_turn-same refused (matrix_check a) _ _ _ _
      (λ ha. in_turn-same refused (matrix_check b) _ _ _ _
      (λ hb. in_turn-same refused (check why.bad_places (are_places a b places)) _ _ _ _
      (λ hp. in_turn-same refused (check why.past_limits (in_limits net)) _ _ _ _
      (λ hf. let ok = joined-matrix a b places ha hb hp hf in let few = net_few a b places ok in let sum = net_sum a b places ha hb hp in rw (
        min_comm s x,
        min_comm c y,
        min_comm v z,
        leb-min (suc net.n) x s (omega (arith, (matrix_facts net ok).few)),
        leb-min (length net.columns) y c (omega arith),
        leb-min (length net.values) z v (omega (arith, net_values a b places)),
      )))))

  -- the reply of a call to which the first i, j and k numbers of three lists are lent on
  pub same-reply : (starts columns : List ℕ) (values : List ℤ) (start_bytes column_bytes value_bytes : List ℕ) {i j k : ℕ} → length starts ≡ max_starts → Roomy (length columns) → Roomy (length values)
      → i ≡ min (length start_bytes / 4) max_starts → j ≡ min (length column_bytes / 4) (length columns) → k ≡ min (length value_bytes / 4) (length values)
      → join_reply a b places (length (take i starts)) (length (take j columns)) (length (take k values)) ≡ join_in a b places start_bytes column_bytes value_bytes
  same-reply starts columns values start_bytes column_bytes value_bytes {i} {j} {k} hs hc hv ei ej ek =
      rw (length-take-le i starts (omega arith), length-take-le j columns (omega arith), length-take-le k values (omega arith), ei, ej, ek)
      (rooms_cut (length start_bytes / 4) (length column_bytes / 4) (length value_bytes / 4) max_starts (length columns) (length values) (omega arith) hc hv)

-- ---- cut lists

-- a joined net by columns and entries
abbrev sewn : (rows : ℕ) (places : List ℕ) (ca cb : ℕ → List ℕ) (ea eb : ℕ → ℕ → ℤ) → Matrix
sewn rows places ca cb ea eb = tabulated rows (λ i j. is_in (ca i) j || is_in (cb (position_of places i)) (position_of places j)) (λ i j. ea i j +ℤ eb (position_of places i) (position_of places j))

net_cut : (a b : Matrix) (places : List ℕ) → is_matrix a ≡ true → is_matrix b ≡ true → joined (cut a) (cut b) places ≡ joined a b places
unfolding joined joined_rows past_first stored_in stiffness
net_cut a b places ha hb =
    let rows = joined_rows a places in
    ap (λ (f : ℕ → List ℕ). sewn rows places f (columns_of (cut b)) (entry (cut a)) (entry (cut b))) (cut-columns a ha)
    ∙ ap (λ (f : ℕ → List ℕ). sewn rows places (columns_of a) f (entry (cut a)) (entry (cut b))) (cut-columns b hb)
    ∙ ap (λ (f : ℕ → ℕ → ℤ). sewn rows places (columns_of a) (columns_of b) f (entry (cut b))) (cut-entry a ha)
    ∙ ap (λ (f : ℕ → ℕ → ℤ). sewn rows places (columns_of a) (columns_of b) (entry a) f) (cut-entry b hb)

places-cut : (a b : Matrix) (places : List ℕ) → b.n ≤ max_rows → are_places a b (take max_starts places) ≡ are_places a b places
unfolding are_places
places-cut a b places few = go (leb (length places) max_starts) refl
  where
    go : (t : Bool) → leb (length places) max_starts ≡ t → are_places a b (take max_starts places) ≡ are_places a b places
    go true e = ap (are_places a b) (take_all max_starts places (leb-true (length places) max_starts e))
    go false e =
        let more = leb-false (length places) max_starts e in
        let size : length (take max_starts places) ≡ max_starts = length-take-le max_starts places (omega arith) in
        rw (size, ne_eqb max_starts b.n (λ q. omega arith), ne_eqb (length places) b.n (λ q. omega arith))

places-kept : (a b : Matrix) (places : List ℕ) → is_matrix b ≡ true → are_places a b places ≡ true → take max_starts places ≡ places
places-kept a b places hb hp = take_all max_starts places (omega (arith, long a b places hp, (matrix_facts b hb).few))

-- the list of places cut
list-reply : (a b : Matrix) (places : List ℕ) (s c v : ℕ) → join_reply a b (take max_starts places) s c v ≡ join_reply a b places s c v
unfolding join_reply matrix_check
list-reply a b places s c v =
    in_turn-same refused (matrix_check a) _ _ _ _
    (λ ha. in_turn-same refused (matrix_check b) _ _ _ _
    (λ hb. rw (places-cut a b places (matrix_facts b hb).few) (in_turn-same refused (check why.bad_places (are_places a b places)) _ _ _ _ (λ hp. rw (places-kept a b places hb hp)))))

-- .. and the nets
same-places : (a b : Matrix) (places : List ℕ) → are_places (cut a) (cut b) places ≡ are_places a b places
unfolding are_places past_first
same-places a b places = refl

nets_reply : (a b : Matrix) (places : List ℕ) (s c v : ℕ) → join_reply (cut a) (cut b) places s c v ≡ join_reply a b places s c v
unfolding join_reply matrix_check
nets_reply a b places s c v =
    rw (cut-matrix a, cut-matrix b, same-places a b places)
    (in_turn-same refused (matrix_check a) _ _ _ _ (λ ha. in_turn-same refused (matrix_check b) _ _ _ _ (λ hb. rw (net_cut a b places ha hb))))

-- what an accepted call has checked
pub record Made (a b : Matrix) (places : List ℕ) (s c v k : ℕ) : Type 0 where
  pub first : is_matrix a ≡ true
  pub second : is_matrix b ≡ true
  pub placed : are_places a b places ≡ true
  pub count : joined_rows a places ≡ k
  pub few : k ≤ max_rows
  pub starts-room : k + 1 ≤ s
  pub columns-room : length (joined a b places).columns ≤ c
  pub values-room : length (joined a b places).values ≤ v

join-made : (a b : Matrix) (places : List ℕ) (s c v k : ℕ) → join_reply a b places s c v ≡ accepted k → Made a b places s c v k
unfolding join_reply matrix_check
join-made a b places s c v k e =
    let m = joined a b places in
    let checks : List Check = matrix_check a ∷ matrix_check b ∷ check why.bad_places (are_places a b places) ∷ check why.past_limits (in_limits m) ∷ room_for (suc m.n) s ∷ room_for (length m.columns) c ∷ room_for (length m.values) v ∷ [] in
    let held = accepted-all checks (accepted m.n) k e in
    let told : m.n ≡ k = accepted-count checks m.n k e in
    record {
      first = held.0;
      second = held.1.0;
      placed = held.1.1.0;
      count = sym (net_rows a b places) ∙ told;
      few = omega (arith, told, (matrix_facts m (joined-matrix a b places held.0 held.1.0 held.1.1.0 held.1.1.1.0)).few);
      starts-room = omega (arith, told, leb-true (suc m.n) s held.1.1.1.1.0);
      columns-room = leb-true (length m.columns) c held.1.1.1.1.1.0;
      values-room = leb-true (length m.values) v held.1.1.1.1.1.1.0;
    }

-- one list of places or pair of nets for another
join-same : {a b a' b' : Matrix} {places places' ss cs vs : List ℕ} {w : ℕ} {ss' cs' vs' : List ℕ} → join_in a b places ss cs vs ≡ join_in a' b' places' ss cs vs
    → ((k : ℕ) → join_in a' b' places' ss cs vs ≡ accepted k → joined a b places ≡ joined a' b' places') → JoinAnswered a b places ss cs vs w ss' cs' vs' → JoinAnswered a' b' places' ss cs vs w ss' cs' vs'
join-same same net g = record {
  returns = g.returns ∙ ap word same;
  starts_left = (answered-same same (λ k e. ap (λ (m : Matrix). unsigned_bytes 4 m.starts) (net k e)) (record { returns = g.returns; leaves = g.starts_left })).leaves;
  columns_left = (answered-same same (λ k e. ap (λ (m : Matrix). unsigned_bytes 4 m.columns) (net k e)) (record { returns = g.returns; leaves = g.columns_left })).leaves;
  values_left = (answered-same same (λ k e. ap (λ (m : Matrix). signed_bytes 4 m.values) (net k e)) (record { returns = g.returns; leaves = g.values_left })).leaves;
}

pub places_decoded : (a b : Matrix) (P : List ℕ) {p ss cs vs : List ℕ} {w : ℕ} {ss' cs' vs' : List ℕ} → p ≡ take max_starts P → JoinAnswered a b p ss cs vs w ss' cs' vs' → JoinAnswered a b P ss cs vs w ss' cs' vs'
places_decoded a b P {p} {ss} {cs} {vs} e g =
    join-same (list-reply a b P _ _ _) (λ k q. let m = join-made a b P _ _ _ k q in ap (joined a b) (places-kept a b P m.second m.placed)) (rw e at g)

pub nets_decoded : (a b : Matrix) (P : List ℕ) {c d : Matrix} {ss cs vs : List ℕ} {w : ℕ} {ss' cs' vs' : List ℕ} → c ≡ cut a → d ≡ cut b → JoinAnswered c d P ss cs vs w ss' cs' vs' → JoinAnswered a b P ss cs vs w ss' cs' vs'
nets_decoded a b P e f g = join-same (nets_reply a b P _ _ _) (λ k q. let m = join-made a b P _ _ _ k q in net_cut a b P m.first m.second) (rw (e, f) at g)

-- no more columns than the arrays that a net is decoded into have cells
pub cells-few : (bytes : NetBytes) (cells : ℕ) {m : Matrix} → Reaches cells (length bytes.columns.now / 4) → m ≡ first_cells (net_of bytes) → length m.columns ≤ cells
cells-few bytes cells {m} fit e =
    let size : length m.columns ≡ length (take max_cells (unsigned 4 bytes.columns.now)) = ap (λ (q : Matrix). length q.columns) e in
    omega (arith, size, length-take max_cells (unsigned 4 bytes.columns.now), length_decoded number 4 bytes.columns.now)

-- ---- lists made beside the lent ones

pub record Held (a b : Matrix) (places start_bytes column_bytes value_bytes : List ℕ) (n : ℕ) (starts columns : List ℕ) (values : List ℤ) : Type 0 where
  pub reply : accepted n ≡ join_in a b places start_bytes column_bytes value_bytes
  pub few : n ≤ max_rows
  pub starts_begin : Begins starts (joined a b places).starts (n + 1)
  pub columns_begin : Begins columns (joined a b places).columns (get_or starts n 0)
  pub values_begin : Begins values (joined a b places).values (get_or starts n 0)
  pub starts-room : n + 1 ≤ length start_bytes / 4
  pub columns-room : get_or starts n 0 ≤ length column_bytes / 4
  pub values-room : get_or starts n 0 ≤ length value_bytes / 4

module _ {a b : Matrix} {places start_bytes column_bytes value_bytes : List ℕ} {r : Reply} (same : r ≡ join_in a b places start_bytes column_bytes value_bytes) where
  pub join-refused : {q p w : ℕ} → refused q p ≡ r → w ≡ word (refused q p) → JoinAnswered a b places start_bytes column_bytes value_bytes w start_bytes column_bytes value_bytes
  join-refused {q} {p} e f =
      let reply = sym (e ∙ same) in
      record {
        returns = f ∙ ap word (sym reply);
        starts_left = sym (lent-refused _ start_bytes _ q p reply);
        columns_left = sym (lent-refused _ column_bytes _ q p reply);
        values_left = sym (lent-refused _ value_bytes _ q p reply);
      }

  pub join-held : {n : ℕ} → accepted n ≡ r → {ss cs : List ℕ} {vs : List ℤ} (old_starts old_columns : List ℕ) (old_values : List ℤ)
      → ss ≡ lent r (joined a b places).starts old_starts → cs ≡ lent r (joined a b places).columns old_columns → vs ≡ lent r (joined a b places).values old_values
      → (more_starts more_columns : List ℕ) (more_values : List ℤ) → Held a b places start_bytes column_bytes value_bytes n (ss ++ more_starts) (cs ++ more_columns) (vs ++ more_values)
  join-held {n} e {ss} old_starts old_columns old_values es ec ev more_starts more_columns more_values =
      let made = join-made a b places (length start_bytes / 4) (length column_bytes / 4) (length value_bytes / 4) n (sym (e ∙ same)) in
      let size : length (joined a b places).starts ≡ n + 1 = omega (arith, net_starts a b places, made.count) in
      let last : get_or (ss ++ more_starts) n 0 ≡ length (joined a b places).columns =
      rw (es, lent-accepted (joined a b places).starts old_starts r n (sym e), append_assoc)
      (get_or-append (joined a b places).starts _ 0 n (omega (arith, size)) ∙ ap (λ (k : ℕ). get_or (joined a b places).starts k 0) (sym made.count) ∙ net_last a b places) in
      record {
        reply = e ∙ same;
        few = made.few;
        starts_begin = begins (sym e) _ _ es more_starts size;
        columns_begin = begins (sym e) _ _ ec more_columns (sym last);
        values_begin = begins (sym e) _ _ ev more_values (net_values a b places ∙ sym last);
        starts-room = made.starts-room;
        columns-room = rw last made.columns-room;
        values-room = rw last (omega (arith, made.values-room, net_values a b places));
      }

-- the same for the arrays of a call, of which the first i, j and k numbers are lent on
pub join-into : (starts columns : List ℕ) (values : List ℤ) {a b : Matrix} {places start_bytes column_bytes value_bytes : List ℕ} {i j k : ℕ} → length starts ≡ max_starts
    → Ample (length a.columns) (length b.columns) (length columns) × Ample (length a.columns) (length b.columns) (length values)
    → i ≡ min (length start_bytes / 4) max_starts → j ≡ min (length column_bytes / 4) (length columns) → k ≡ min (length value_bytes / 4) (length values)
    → {n : ℕ} → accepted n ≡ join_reply a b places (length (take i starts)) (length (take j columns)) (length (take k values))
    → {ss cs : List ℕ} {vs : List ℤ} → ss ≡ lent (join_reply a b places (length (take i starts)) (length (take j columns)) (length (take k values))) (joined a b places).starts (take i starts)
    → cs ≡ lent (join_reply a b places (length (take i starts)) (length (take j columns)) (length (take k values))) (joined a b places).columns (take j columns)
    → vs ≡ lent (join_reply a b places (length (take i starts)) (length (take j columns)) (length (take k values))) (joined a b places).values (take k values)
    → Held a b places start_bytes column_bytes value_bytes n (ss ++ drop i starts) (cs ++ drop j columns) (vs ++ drop k values)
join-into starts columns values {a} {b} {places} {start_bytes} {column_bytes} {value_bytes} {i} {j} {k} long enough ei ej ek e es ec ev =
    join-held (same-reply a b places starts columns values start_bytes column_bytes value_bytes long enough.0 enough.1 ei ej ek) e (take i starts) (take j columns) (take k values) es ec ev (drop i starts) (drop j columns) (drop k values)

pub join-stored : {a b : Matrix} {places start_bytes column_bytes value_bytes : List ℕ} {n : ℕ} {starts columns : List ℕ} {values : List ℤ} → Held a b places start_bytes column_bytes value_bytes n starts columns values
    → {entries w : ℕ} {new_starts new_columns new_values : List ℕ} → entries ≡ get_or starts n 0 → w ≡ word (accepted n)
    → new_starts ≡ stored (unsigned_bytes 4 (take (length start_bytes / 4) (take (n + 1) starts))) start_bytes
    → new_columns ≡ stored (unsigned_bytes 4 (take (length column_bytes / 4) (take entries columns))) column_bytes
    → new_values ≡ stored (signed_bytes 4 (take (length value_bytes / 4) (take entries values))) value_bytes
    → JoinAnswered a b places start_bytes column_bytes value_bytes w new_starts new_columns new_values
join-stored {start_bytes = start_bytes} {column_bytes = column_bytes} {value_bytes = value_bytes} h l f gs gc gv = record {
  returns = f ∙ ap word h.reply;
  starts_left = begins-stored h.starts_begin (bytes_of 4) 4 start_bytes (sym h.reply) h.starts-room gs;
  columns_left = begins-stored (begins_at h.columns_begin l) (bytes_of 4) 4 column_bytes (sym h.reply) (rw l h.columns-room) gc;
  values_left = begins-stored (begins_at h.values_begin l) (signed_bytes_of 4) 4 value_bytes (sym h.reply) (rw l h.values-room) gv;
}
