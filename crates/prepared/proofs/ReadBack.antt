-- What is written into a prepared list is read back from it, whatever stands past it.
use mathlib.Core.Path.{◌≡◌, refl, sym, ap, ◌∙◌}
use mathlib.Core.Bool.{true}
use mathlib.Core.List.{List, ◌++◌, map, append_assoc}
use Prim.Native.Nat.{ℕ, ◌+◌, ◌*◌, ◌≤◌}
use native.Mathlib.Omega.{arith}
use lib.ListN.{length, get_or, take, drop, length-append}
use lib.Seq.{take_all, take_at, drop_at, drop-drop}
use borrow.Author.Tests.{le-leb, eq-eqb}
use Rattle.base.proofs.Each.{Each}
use Rattle.plan.specs.Sound.{max_workers}
use Rattle.run.specs.Updates.{Update}
use Rattle.words.specs.LittleEndian.{number, bytes_of, signed_number, signed_bytes_of, whole_blocks, unsigned, unsigned_bytes}
use Rattle.words.proofs.Digits.{length-bytes_of, length-signed_bytes_of}
use Rattle.words.proofs.Blocks.{encoded, length_encoded}
use Rattle.words.proofs.RoundTrip.{Code, decoded_encoded}
use Rattle.words.proofs.Codes.{Holds, unsigned_code, HoldsSigned, signed_code, unsigned_back}
use Rattle.prepared.specs.Format.{Lists, mark, head_bytes, update_bytes, gate_bytes, row_bytes, bytes_of_update, update_in, head_of, bytes_of_lists, head_in, rows_in, count_in, gates_from, lists_in, is_prepared}

-- an update that sixteen bytes hold
pub record HoldsUpdate (u : Update) : Type 0 where
  pub amount : HoldsSigned 8 u.amount
  pub target : Holds 4 u.target
  pub row : Holds 4 u.row

module _ (u : Update) where
  abbrev A : List ℕ
  A = signed_bytes_of 8 u.amount

  abbrev T : List ℕ
  T = bytes_of 4 u.target

  abbrev R : List ℕ
  R = bytes_of 4 u.row

  a_long : length A ≡ 8
  a_long = length-signed_bytes_of 8 u.amount

  t_long : length T ≡ 4
  t_long = length-bytes_of 4 u.target

  r_long : length R ≡ 4
  r_long = length-bytes_of 4 u.row

  update-long : length (bytes_of_update u) ≡ update_bytes
  unfolding bytes_of_update
  update-long = length-append A (T ++ R) ∙ omega (arith, length-append T R, a_long, t_long, r_long)

  past : drop 8 (A ++ (T ++ R)) ≡ T ++ R
  past = drop_at A (T ++ R) 8 a_long

  last : drop 12 (A ++ (T ++ R)) ≡ R
  last = sym (drop-drop 4 8 (A ++ (T ++ R))) ∙ ap (drop 4) past ∙ drop_at T R 4 t_long

  update-back : HoldsUpdate u → update_in (bytes_of_update u) ≡ u
  unfolding bytes_of_update update_in
  update-back h =
      let x : signed_number 8 (take 8 (A ++ (T ++ R))) ≡ u.amount = ap (signed_number 8) (take_at A (T ++ R) 8 a_long) ∙ (signed_code 8 (omega arith)).back u.amount h.amount in
      let y : number (take 4 (drop 8 (A ++ (T ++ R)))) ≡ u.target = ap (λ (l : List ℕ). number (take 4 l)) past ∙ ap number (take_at T R 4 t_long) ∙ (unsigned_code 4 (omega arith)).back u.target h.target in
      let z : number (take 4 (drop 12 (A ++ (T ++ R)))) ≡ u.row = ap (λ (l : List ℕ). number (take 4 l)) last ∙ ap number (take_all 4 R (omega (arith, r_long))) ∙ (unsigned_code 4 (omega arith)).back u.row h.row in
      λ i. record { row = z i; target = y i; amount = x i }

pub update_code : Code bytes_of_update update_in update_bytes HoldsUpdate
update_code = record { some = omega arith; size = update-long; back = update-back }

-- lists that a prepared list holds
pub record Fits (L : Lists) : Type 0 where
  pub few : L.crew ≤ max_workers
  pub most-long : length L.most ≡ max_workers
  pub first-long : length L.first ≡ max_workers
  pub gates-long : length L.gates ≡ L.rows * max_workers
  pub places-long : length L.places ≡ L.rows
  pub head_fits : Each (Holds 4) (head_of L)
  pub updates_fit : Each HoldsUpdate L.updates
  pub gates_fit : Each (Holds 4) L.gates
  pub places_fit : Each (Holds 4) L.places

module _ (L : Lists) (fits : Fits L) where
  abbrev H : List ℕ
  H = unsigned_bytes 4 (head_of L)

  abbrev E : List ℕ
  E = encoded bytes_of_update L.updates

  abbrev G : List ℕ
  G = unsigned_bytes 4 L.gates

  abbrev P : List ℕ
  P = unsigned_bytes 4 L.places

  pub head_long : length H ≡ head_bytes
  unfolding head_of
  head_long = length_encoded (bytes_of 4) 4 (length-bytes_of 4) (head_of L) ∙ omega (arith, length-append L.most L.first, fits.most-long, fits.first-long)

  e_long : length E ≡ length L.updates * update_bytes
  e_long = length_encoded bytes_of_update update_bytes update_code.size L.updates

  pub gates-long : length G ≡ L.rows * gate_bytes
  gates-long = length_encoded (bytes_of 4) 4 (length-bytes_of 4) L.gates ∙ omega (arith, fits.gates-long)

  p-long : length P ≡ L.rows * 4
  p-long = length_encoded (bytes_of 4) 4 (length-bytes_of 4) L.places ∙ omega (arith, fits.places-long)

  -- how many bytes they have
  pub lists-long : length (bytes_of_lists L) ≡ gates_from (length L.updates) + L.rows * row_bytes
  unfolding bytes_of_lists
  lists-long = length-append H (E ++ (G ++ P)) ∙ omega (arith, length-append E (G ++ P), length-append G P, head_long, e_long, gates-long, p-long)

  module _ (rest : List ℕ) where
    abbrev b : List ℕ
    b = bytes_of_lists L ++ rest

    whole : b ≡ H ++ (E ++ (G ++ (P ++ rest)))
    unfolding bytes_of_lists
    whole = append_assoc H (E ++ (G ++ P)) rest ∙ ap (λ (l : List ℕ). H ++ l) (append_assoc E (G ++ P) rest ∙ ap (λ (l : List ℕ). E ++ l) (append_assoc G P rest))

    head_is : head_in b ≡ head_of L
    unfolding head_in
    head_is = ap (λ (l : List ℕ). unsigned 4 (take head_bytes l)) whole ∙ ap (unsigned 4) (take_at H (E ++ (G ++ (P ++ rest))) head_bytes head_long) ∙ unsigned_back 4 (omega arith) (head_of L) fits.head_fits

    rows_is : rows_in b ≡ L.rows
    unfolding head_of
    rows_is = ap (λ (l : List ℕ). get_or l 1 0) head_is

    count_is : count_in b ≡ length L.updates
    unfolding head_of
    count_is = ap (λ (l : List ℕ). get_or l 3 0) head_is

    past_head : drop head_bytes b ≡ E ++ (G ++ (P ++ rest))
    past_head = ap (drop head_bytes) whole ∙ drop_at H (E ++ (G ++ (P ++ rest))) head_bytes head_long

    past-updates : drop (gates_from (length L.updates)) b ≡ G ++ (P ++ rest)
    past-updates = sym (drop-drop (length L.updates * update_bytes) head_bytes b) ∙ ap (drop (length L.updates * update_bytes)) past_head ∙ drop_at E (G ++ (P ++ rest)) (length L.updates * update_bytes) e_long

    past-gates : drop (gates_from (length L.updates) + L.rows * gate_bytes) b ≡ P ++ rest
    past-gates = sym (drop-drop (L.rows * gate_bytes) (gates_from (length L.updates)) b) ∙ ap (drop (L.rows * gate_bytes)) past-updates ∙ drop_at G (P ++ rest) (L.rows * gate_bytes) gates-long

    updates-is : map update_in (whole_blocks update_bytes (take (count_in b * update_bytes) (drop head_bytes b))) ≡ L.updates
    updates-is =
        ap (λ (c : ℕ). map update_in (whole_blocks update_bytes (take (c * update_bytes) (drop head_bytes b)))) count_is
        ∙ ap (λ (l : List ℕ). map update_in (whole_blocks update_bytes (take (length L.updates * update_bytes) l))) past_head
        ∙ ap (λ (l : List ℕ). map update_in (whole_blocks update_bytes l)) (take_at E (G ++ (P ++ rest)) (length L.updates * update_bytes) e_long)
        ∙ decoded_encoded bytes_of_update update_in update_bytes HoldsUpdate update_code L.updates fits.updates_fit

    gates-is : unsigned 4 (take (rows_in b * gate_bytes) (drop (gates_from (count_in b)) b)) ≡ L.gates
    gates-is =
        ap (λ (c : ℕ). unsigned 4 (take (rows_in b * gate_bytes) (drop (gates_from c) b))) count_is
        ∙ ap (λ (r : ℕ). unsigned 4 (take (r * gate_bytes) (drop (gates_from (length L.updates)) b))) rows_is
        ∙ ap (λ (l : List ℕ). unsigned 4 (take (L.rows * gate_bytes) l)) past-updates
        ∙ ap (unsigned 4) (take_at G (P ++ rest) (L.rows * gate_bytes) gates-long)
        ∙ unsigned_back 4 (omega arith) L.gates fits.gates_fit

    places_is : unsigned 4 (take (rows_in b * 4) (drop (gates_from (count_in b) + rows_in b * gate_bytes) b)) ≡ L.places
    places_is =
        ap (λ (c : ℕ). unsigned 4 (take (rows_in b * 4) (drop (gates_from c + rows_in b * gate_bytes) b))) count_is
        ∙ ap (λ (r : ℕ). unsigned 4 (take (r * 4) (drop (gates_from (length L.updates) + r * gate_bytes) b))) rows_is
        ∙ ap (λ (l : List ℕ). unsigned 4 (take (L.rows * 4) l)) past-gates
        ∙ ap (unsigned 4) (take_at P rest (L.rows * 4) p-long)
        ∙ unsigned_back 4 (omega arith) L.places fits.places_fit

    crew_is : get_or (head_in b) 2 0 ≡ L.crew
    unfolding head_of
    crew_is = ap (λ (l : List ℕ). get_or l 2 0) head_is

    mark_is : get_or (head_in b) 0 0 ≡ mark
    unfolding head_of
    mark_is = ap (λ (l : List ℕ). get_or l 0 0) head_is

    most_is : take max_workers (drop 4 (head_in b)) ≡ L.most
    unfolding head_of
    most_is = ap (λ (l : List ℕ). take max_workers (drop 4 l)) head_is ∙ take_at L.most L.first max_workers fits.most-long

    first_is : take max_workers (drop 20 (head_in b)) ≡ L.first
    unfolding head_of
    first_is =
        ap (λ (l : List ℕ). take max_workers (drop 20 l)) head_is ∙ ap (take max_workers) (drop_at L.most L.first max_workers fits.most-long)
        ∙ take_all max_workers L.first (omega (arith, fits.first-long))

    -- the lists are read back
    pub read_back : lists_in b ≡ L
    unfolding lists_in
    read_back = λ i. record { rows = rows_is i; crew = crew_is i; most = most_is i; first = first_is i; updates = updates-is i; gates = gates-is i; places = places_is i }

    long : length b ≡ gates_from (length L.updates) + L.rows * row_bytes + length rest
    long = length-append (bytes_of_lists L) rest ∙ ap (λ (n : ℕ). n + length rest) lists-long

    -- and the list is a prepared one
    pub prepared : is_prepared b ≡ true
    unfolding is_prepared
    prepared =
        rw (
          le-leb head_bytes (length b) (omega (arith, long)),
          eq-eqb (get_or (head_in b) 0 0) mark mark_is,
          le-leb (get_or (head_in b) 2 0) max_workers (omega (arith, crew_is, fits.few)),
          le-leb (gates_from (count_in b) + rows_in b * row_bytes) (length b) (omega (arith, count_is, rows_is, long)),
        ) refl
