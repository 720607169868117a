-- Where the tables of a prepared list stand in its bytes, for every list that is one: what the code reads there is what
-- the definition says.
use mathlib.Core.Path.{◌≡◌, refl, sym, ap, ◌∙◌}
use mathlib.Core.Bool.{Bool, true}
use mathlib.Core.List.{List, [], ◌∷◌}
use Prim.Native.Nat.{ℕ, ◌+◌, ◌*◌, ◌≤◌, ◌<◌}
use native.Mathlib.Omega.{arith}
use lib.Dec.{eqb, leb}
use lib.ListN.{length, get_or, take, drop, length-drop, get_or-eq_default}
use lib.Seq.{get_or-take, get_or-drop, length-take-le}
use borrow.Author.Tests.{leb-true}
use Rattle.base.proofs.Booleans.{conj_first, conj_at}
use Rattle.plan.specs.Sound.{max_workers}
use Rattle.run.specs.Updates.{Update, no_update}
use Rattle.words.specs.LittleEndian.{number, to_signed, unsigned}
use Rattle.words.specs.Code.Places.{four_at, eight_at}
use Rattle.words.proofs.Digits.{four-at, eight-at}
use Rattle.words.proofs.Blocks.{decoded_at, length_decoded}
use Rattle.prepared.specs.Format.{mark, head_bytes, update_bytes, gate_bytes, row_bytes, update_in, head_in, rows_in, count_in, gates_from, lists_in, is_prepared}

-- ---- numbers in a part of a list

module _ (b : List ℕ) (from size : ℕ) where
  byte_in : (i : ℕ) → i < size → get_or (take size (drop from b)) i 0 ≡ get_or b (from + i) 0
  byte_in i l = get_or-take size (drop from b) i 0 l ∙ get_or-drop from b i 0

  four_in : (at : ℕ) → at + 4 ≤ size → four_at (take size (drop from b)) at ≡ four_at b (from + at)
  four_in at l =
      let a : from + (at + 1) ≡ from + at + 1 = omega arith in
      let c : from + (at + 2) ≡ from + at + 2 = omega arith in
      let d : from + (at + 3) ≡ from + at + 3 = omega arith in
      rw (byte_in at (omega arith), byte_in (at + 1) (omega arith), byte_in (at + 2) (omega arith), byte_in (at + 3) (omega arith), a, c, d) refl

  eight_in : (at : ℕ) → at + 8 ≤ size → eight_at (take size (drop from b)) at ≡ eight_at b (from + at)
  eight_in at l =
      let a : from + (at + 4) ≡ from + at + 4 = omega arith in
      ap (λ (x : ℕ). x + four_at (take size (drop from b)) (at + 4) * 4294967296) (four_in at (omega arith))
      ∙ ap (λ (x : ℕ). four_at b (from + at) + x * 4294967296) (four_in (at + 4) (omega arith) ∙ ap (four_at b) a)

  module _ (fits : from + size ≤ length b) where
    part-long : length (take size (drop from b)) ≡ size
    part-long = length-take-le size (drop from b) (omega (arith, length-drop from b))

    -- number k of a part
    pub part_at : (k : ℕ) → k * 4 + 4 ≤ size → get_or (unsigned 4 (take size (drop from b))) k 0 ≡ four_at b (from + k * 4)
    unfolding number
    part_at k l =
        decoded_at number 4 (take size (drop from b)) k (omega (arith, part-long)) ∙ sym (four-at (take size (drop from b)) (k * 4) (omega (arith, part-long))) ∙ four_in (k * 4) l

-- ---- the tables

-- a number of the head
pub head_at : (b : List ℕ) → head_bytes ≤ length b → (k : ℕ) → k < 36 → get_or (head_in b) k 0 ≡ four_at b (k * 4)
unfolding head_in
head_at b long k l = part_at b 0 head_bytes (omega arith) k (omega arith) ∙ ap (four_at b) (omega arith)

module _ (b : List ℕ) (ok : is_prepared b ≡ true) where
  abbrev tests : List Bool
  tests = eqb (get_or (head_in b) 0 0) mark ∷ leb (get_or (head_in b) 2 0) max_workers ∷ leb (gates_from (count_in b) + rows_in b * row_bytes) (length b) ∷ []

  pub long : head_bytes ≤ length b
  unfolding is_prepared
  long = leb-true head_bytes (length b) (conj_first (leb head_bytes (length b)) tests ok)

  pub few : get_or (head_in b) 2 0 ≤ max_workers
  unfolding is_prepared
  few = leb-true (get_or (head_in b) 2 0) max_workers (conj_at (leb head_bytes (length b)) tests ok 1)

  pub all-long : gates_from (count_in b) + rows_in b * row_bytes ≤ length b
  unfolding is_prepared
  all-long = leb-true (gates_from (count_in b) + rows_in b * row_bytes) (length b) (conj_at (leb head_bytes (length b)) tests ok 2)

  pub rows_at : (lists_in b).rows ≡ four_at b 4
  unfolding lists_in
  rows_at = head_at b long 1 (omega arith)

  pub crew_at : (lists_in b).crew ≡ four_at b 8
  unfolding lists_in
  crew_at = head_at b long 2 (omega arith)

  pub most-at : (w : ℕ) → w < max_workers → get_or (lists_in b).most w 0 ≡ four_at b (16 + w * 4)
  unfolding lists_in
  most-at w l = get_or-take max_workers (drop 4 (head_in b)) w 0 l ∙ get_or-drop 4 (head_in b) w 0 ∙ head_at b long (4 + w) (omega arith) ∙ ap (four_at b) (omega arith)

  pub first_at : (w : ℕ) → w < max_workers → get_or (lists_in b).first w 0 ≡ four_at b (80 + w * 4)
  unfolding lists_in
  first_at w l = get_or-take max_workers (drop 20 (head_in b)) w 0 l ∙ get_or-drop 20 (head_in b) w 0 ∙ head_at b long (20 + w) (omega arith) ∙ ap (four_at b) (omega arith)

  pub gate-at : (q v : ℕ) → q < (lists_in b).rows → v < max_workers → get_or (lists_in b).gates (q * max_workers + v) 0 ≡ four_at b (gates_from (count_in b) + q * gate_bytes + v * 4)
  unfolding lists_in
  gate-at q v l m = part_at b (gates_from (count_in b)) (rows_in b * gate_bytes) (omega (arith, all-long)) (q * max_workers + v) (omega arith) ∙ ap (four_at b) (omega arith)

  pub place_at : (i : ℕ) → i < (lists_in b).rows → get_or (lists_in b).places i 0 ≡ four_at b (gates_from (count_in b) + rows_in b * gate_bytes + i * 4)
  unfolding lists_in
  place_at i l = part_at b (gates_from (count_in b) + rows_in b * gate_bytes) (rows_in b * 4) (omega (arith, all-long)) i (omega arith)

  -- update number k of all
  abbrev pub update_read : ℕ → Update
  update_read k = record {
    row = four_at b (head_bytes + (k * update_bytes + 12));
    target = four_at b (head_bytes + (k * update_bytes + 8));
    amount = to_signed 8 (eight_at b (head_bytes + (k * update_bytes + 0)));
  }

  module _ (k : ℕ) (l : k < count_in b) where
    abbrev part : List ℕ
    part = take (count_in b * update_bytes) (drop head_bytes b)

    abbrev block : List ℕ
    block = take update_bytes (drop (k * update_bytes) part)

    all-part : length part ≡ count_in b * update_bytes
    all-part = part-long b head_bytes (count_in b * update_bytes) (omega (arith, all-long))

    all_block : length block ≡ update_bytes
    all_block = part-long part (k * update_bytes) update_bytes (omega (arith, all-part))

    four_block : (at : ℕ) → at + 4 ≤ update_bytes → number (take 4 (drop at block)) ≡ four_at b (head_bytes + (k * update_bytes + at))
    four_block at m =
        sym (four-at block at (omega (arith, all_block))) ∙ four_in part (k * update_bytes) update_bytes at m ∙ four_in b head_bytes (count_in b * update_bytes) (k * update_bytes + at) (omega arith)

    eight_block : number (take 8 (drop 0 block)) ≡ eight_at b (head_bytes + (k * update_bytes + 0))
    eight_block =
        sym (eight-at block 0 (omega (arith, all_block))) ∙ eight_in part (k * update_bytes) update_bytes 0 (omega arith) ∙ eight_in b head_bytes (count_in b * update_bytes) (k * update_bytes + 0) (omega arith)

    block_is : update_in block ≡ update_read k
    unfolding update_in
    block_is = λ i. record { row = four_block 12 (omega arith) i; target = four_block 8 (omega arith) i; amount = to_signed 8 (eight_block i) }

    nothing : update_in [] ≡ no_update
    unfolding update_in no_update number to_signed
    nothing = refl

    pub update-at : get_or (lists_in b).updates k no_update ≡ update_read k
    unfolding lists_in
    update-at =
        ap (λ (u : Update). get_or (lists_in b).updates k u) (sym nothing) ∙ decoded_at update_in update_bytes part k (omega (arith, all-part)) ∙ block_is

  -- there are no others
  pub update-past : (k : ℕ) → count_in b ≤ k → get_or (lists_in b).updates k no_update ≡ no_update
  unfolding lists_in
  update-past k l =
      get_or-eq_default (lists_in b).updates no_update
      (omega (arith, length_decoded update_in update_bytes (take (count_in b * update_bytes) (drop head_bytes b)), part-long b head_bytes (count_in b * update_bytes) (omega (arith, all-long))))

  -- a row past the last one has no gate
  pub gate-past : (q v : ℕ) → (lists_in b).rows ≤ q → get_or (lists_in b).gates (q * max_workers + v) 0 ≡ 0
  unfolding lists_in
  gate-past q v l =
      get_or-eq_default (lists_in b).gates 0
      (omega (arith, length_decoded number 4 (take (rows_in b * gate_bytes) (drop (gates_from (count_in b)) b)), part-long b (gates_from (count_in b)) (rows_in b * gate_bytes) (omega (arith, all-long))))
