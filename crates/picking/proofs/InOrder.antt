-- The sums in original order, by the places of a prepared list.
use mathlib.Core.Path.{◌≡◌, sym, ap, ◌∙◌}
use mathlib.Core.List.{List}
use Prim.Native.Nat.{ℕ, ◌+◌, ◌*◌, ◌/◌, ◌<◌}
use lib.IntN.{pos}
use lib.ListN.{length, get_or, length-map}
use Rattle.base.specs.Lists.{range}
use Rattle.base.proofs.Lists.{length-range, map-range-zero}
use Rattle.words.specs.LittleEndian.{signed}
use Rattle.words.specs.Code.Places.{four_at}
use Rattle.prepared.specs.Format.{gate_bytes, gates_from, count_in, lists_in, tables_of}
use Rattle.prepared.specs.Tables.{original_by}
use Rattle.prepared.proofs.Places as at
use Rattle.picking.specs.Code.Reads.{loaded_at, Head}
use Rattle.picking.specs.Code.Picks.{tables_in}
use Rattle.picking.proofs.Turns.{loaded_signed}

module _ {list : List ℕ} {rows crew n : ℕ} (h : Head list rows crew n) (sums : List ℕ) where
  -- a force for each row
  pub forces-long : length (original_by (tables_in list) (signed 8 sums)) ≡ rows
  unfolding original_by tables_of
  forces-long = length-map (range 0 (tables_in list).rows) (λ i. get_or (signed 8 sums) ((tables_in list).place i) (pos 0)) ∙ length-range 0 (lists_in list).rows ∙ sym h.rows_are

  -- the force of row i is the sum that its place is read for
  pub force-at : rows ≡ length sums / 8 → (i : ℕ) → i < rows → loaded_at sums rows (four_at list (gates_from n + rows * gate_bytes + i * 4)) ≡ get_or (original_by (tables_in list) (signed 8 sums)) i (pos 0)
  unfolding original_by tables_of lists_in
  force-at all i l =
      let low : i < (lists_in list).rows = rw (← h.rows_are) l in
      let place = ap (λ (c : ℕ). four_at list (gates_from c + rows * gate_bytes + i * 4)) h.count_is ∙ ap (λ (r : ℕ). four_at list (gates_from (count_in list) + r * gate_bytes + i * 4)) h.rows_are ∙ sym (at.place_at list h.prepared i low) in
      loaded_signed sums rows (four_at list (gates_from n + rows * gate_bytes + i * 4)) all
      ∙ ap (λ (p : ℕ). get_or (signed 8 sums) p (pos 0)) place
      ∙ sym (map-range-zero (λ i. get_or (signed 8 sums) ((tables_in list).place i) (pos 0)) (lists_in list).rows i (pos 0) low)
