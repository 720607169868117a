-- The matrix text and the first line's numbers, as the code has them, and what is written for them.
use mathlib.Core.Path.{◌≡◌, refl, sym, ap, ◌∙◌, fun_ext}
use mathlib.Core.Bool.{Bool, true, false, not, cond}
use mathlib.Core.List.{List, [], ◌∷◌, ◌++◌}
use Prim.Native.Nat.{ℕ, ◌+◌, ◌-◌, ◌*◌, ◌≤◌, ◌<◌}
use native.Mathlib.Numerals.{add-one}
use native.Mathlib.Omega.{arith}
use lib.Dec.{ltb, eqb}
use lib.IntN.{ℤ}
use lib.ListN.{length, take, drop, length-drop, drop_of_length-le}
use lib.Seq.{take_all}
use borrow.Author.Tests.{ltb-false, lt-ltb, le-ltb, le-leb}
use Rattle.base.specs.Lists.{filter}
use Rattle.base.specs.Replies.{Reply, accepted, refused, in_turn, lent}
use Rattle.base.proofs.Booleans.{is_false}
use Rattle.matrix.specs.Matrix.{Matrix, is_matrix, neighbours, matrix_of}
use Rattle.matrix.specs.Code.Room.{max_starts, max_cells}
use Rattle.market.specs.Parse.{Triplet, triplet, Parsed, matrix_text, rejected, parse}
use Rattle.market.specs.FullRows.{full, of_triplets, read_matrix, read_reply}
use Rattle.market.specs.AcceptedText.{left_in}
use Rattle.matrix.specs.SameRows.{SameRows}
use Rattle.market.proofs.Accepted.{parse-accepted}
use Rattle.market.proofs.AcceptedText.{accepted-text}
use Rattle.race.specs.Planner.{plan, are_parameters}
use Rattle.race.proofs.PlannedSound.{limits}
use Rattle.std.proofs.Common.{Some, None}
use Rattle.listing.specs.Listing.{net_distance, max_input, first_line, rest_of, Parameters, parameters, missing, parameters_of, refused_line, planned, judged, listing}
use Rattle.listing.specs.Code.FirstLine.{in_word, given}
use Rattle.listing.proofs.FirstLine.{first_taken}

-- at most two entries for each stored one
full-few : (es : List Triplet) → length (full es) ≤ 2 * length es
unfolding full
full-few [] = omega arith
full-few (e ∷ es) = go (eqb e.row e.column) (full-few es)
  where
    go : (t : Bool) → length (full es) ≤ 2 * length es → length ((e ∷ cond t [] (triplet e.column e.row e.value ∷ [])) ++ full es) ≤ 2 * length (e ∷ es)
    go true h = omega arith
    go false h = omega arith

-- rows that are the same have the same plan
planned-same : {m other : Matrix} → m.n ≡ other.n → SameRows m other → (ps : Parameters) → planned m ps ≡ planned other ps
unfolding planned plan neighbours
planned-same {m} {other} e s (parameters w p) =
    let nb : neighbours m ≡ neighbours other = fun_ext (λ i. ap (filter (λ j. not (eqb j i))) (s.columns i)) in
    rw (nb, e)
planned-same e s missing = refl

-- a number past 32 bits is past every limit
large : (w p : ℕ) → (are_parameters w p net_distance ≡ true → ⊥) → (m : Matrix) → planned m (parameters w p) ≡ planned m missing
unfolding planned
large w p h m = rw (is_false h)

pub planned-given : (m : Matrix) (ps : Parameters) (a b : ℕ) → Some (a, b) ≡ given ps → planned m ps ≡ planned m (parameters a b)
planned-given m missing a b e = absurd (cc)
planned-given m (parameters w p) a b e = go (ltb w 4294967296) refl (ltb p 4294967296) refl
  where
    both : ◌≡◌ {A = ℕ × ℕ} (a, b) (in_word w, in_word p)
    both = cc

    w_is : a ≡ in_word w
    w_is = ap (λ (q : ℕ × ℕ). q.0) both

    p-is : b ≡ in_word p
    p-is = ap (λ (q : ℕ × ℕ). q.1) both

    go : (s : Bool) → ltb w 4294967296 ≡ s → (t : Bool) → ltb p 4294967296 ≡ t → planned m (parameters w p) ≡ planned m (parameters a b)
    go true hs true ht = rw (w_is, p-is, hs, ht)
    go true hs false ht =
        let b-is : b ≡ 4294967295 = p-is ∙ rw ht in
        large w p (λ h. omega (arith, (limits w p net_distance h).share, ltb-false p 4294967296 ht)) m ∙ sym (large a b (λ h. omega (arith, (limits a b net_distance h).share)) m)
    go false hs t ht =
        let a-is : a ≡ 4294967295 = w_is ∙ rw hs in
        large w p (λ h. omega (arith, (limits w p net_distance h).workers, ltb-false w 4294967296 hs)) m ∙ sym (large a b (λ h. omega (arith, (limits a b net_distance h).workers)) m)

pub planned-missing : (m : Matrix) (ps : Parameters) → None ≡ given ps → planned m ps ≡ refused_line 7 0
unfolding planned
planned-missing m missing e = refl
planned-missing m (parameters w p) e = absurd (cc)

-- m is the matrix of the text, as far as it is planned
pub record Held (text : List ℕ) (m : Matrix) : Type 0 where
  pub matrix : is_matrix m ≡ true
  pub planned-is : (ps : Parameters) → judged (parse text) ps ≡ planned m ps

module _ (text : List ℕ) (ss cs : List ℕ) (vs : List ℤ) (rows : length ss ≡ max_starts) (columns : length cs ≡ max_cells) (values : length vs ≡ max_cells) where
  abbrev reply : Reply
  reply = read_reply (parse text) (length ss) (length cs) (length vs)

  -- the lists have room for every text that is accepted
  reads : (n : ℕ) (es : List Triplet) → parse text ≡ matrix_text n es → reply ≡ accepted n
  unfolding read_reply in_turn
  reads n es e =
      let a = parse-accepted text n es e in
      let f : length (full es) ≤ max_cells = omega (arith, a.count, full-few es) in
      rw (e, rows, columns, values, le-leb (n + 1) max_starts (omega (arith, a.rows)), le-leb (length (full es)) max_cells f)

  pub judged-refused : (q k : ℕ) → refused q k ≡ reply → (ps : Parameters) → judged (parse text) ps ≡ refused_line q k
  unfolding judged read_reply
  judged-refused q k r ps = go (parse text) refl r
    where
      go : (t : Parsed) → parse text ≡ t → refused q k ≡ read_reply t (length ss) (length cs) (length vs) → judged t ps ≡ refused_line q k
      go (rejected q' k') e r' = cc
      go (matrix_text n es) e r' = let z = r ∙ reads n es e in let y : ◌≡◌ {A = ℕ} 0 1 = cc in absurd (omega arith)

  pub judged-accepted : (k : ℕ) → accepted k ≡ reply → {starts' columns' : List ℕ} {values' : List ℤ} → starts' ≡ lent reply (read_matrix (parse text)).starts ss → columns' ≡ lent reply (read_matrix (parse text)).columns cs
      → values' ≡ lent reply (read_matrix (parse text)).values vs → Held text (matrix_of k starts' columns' values')
  unfolding judged read_reply left_in of_triplets
  judged-accepted k r hs hc hv = rw (hs, hc, hv) (go (parse text) refl)
    where
      go : (t : Parsed) → parse text ≡ t → Held text (left_in k (parse text) ss cs vs)
      go (rejected q p) e =
          let z : accepted k ≡ refused q p = r ∙ ap (λ (t : Parsed). read_reply t (length ss) (length cs) (length vs)) e in
          let y : ◌≡◌ {A = ℕ} 0 1 = cc in
          absurd (omega arith)
      go (matrix_text n es) e =
          let same = accepted-text.left text n k es ss cs vs e (sym r) in
          let count : k ≡ n = let z = r ∙ reads n es e in cc in
          record { matrix = same.matrix; planned-is = λ ps. ap (λ (t : Parsed). judged t ps) e ∙ sym (planned-same count same ps) }

-- ---- the whole listing

-- too long
pub listing-long : (input : List ℕ) → max_input < length input → listing input ≡ refused_line 2 0
unfolding listing
listing-long input h = rw (lt-ltb max_input (length input) h)

-- all that follows a place
pub rest-taken : (xs : List ℕ) (i : ℕ) → take (length xs - i) (drop i xs) ≡ drop i xs
rest-taken xs i = take_all (length xs - i) (drop i xs) (rw length-drop (omega arith))

-- the first line and the text after it
pub listing-short : (input : List ℕ) → length input ≤ max_input → (end : ℕ) → end ≡ length (first_line input) → listing input ≡ judged (parse (drop (end + 1) input)) (parameters_of (take end input))
unfolding listing rest_of
listing-short input h end e = rw (le-ltb max_input (length input) h, add-one, e, first_taken)

-- the first line alone
pub listing-alone : (input : List ℕ) → length input ≤ max_input → (end : ℕ) → end ≡ length (first_line input) → length input ≤ end → listing input ≡ judged (parse []) (parameters_of input)
listing-alone input h end e l = listing-short input h end e ∙ rw (drop_of_length-le input {i = end + 1} (omega arith), take_all end input l)
