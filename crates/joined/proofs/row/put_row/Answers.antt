-- `put_row`: the second net's row held, the first net's seen, then the entries of both.
use mathlib.Core.Path.{◌≡◌, refl, ap, ◌∙◌}
use mathlib.Core.Bool.{Bool, not, ◌&&◌}
use mathlib.Core.List.{List}
use Prim.Native.Nat.{ℕ, ◌+◌}
use lib.Dec.{leb}
use lib.IntN.{ℤ, pos, ◌+ℤ◌}
use lib.ListN.{length, get_or}
use Rattle.joined.specs.Code.Rows.{from_first, from_second, row_entries, marked, held_at, Held, Seen}
use Rattle.joined.proofs.Emitting.{added_same, broken_stop, broken_same, told_then, told_same}
use Rattle.joined.proofs.Cells.{cells_same}
use Rattle.base.specs.Lists.{is_in, position_of}
use Rattle.matrix.specs.Matrix.{lookup}
use Rattle.joined.proofs.Marked.{held-before, seen_before}
use Rattle.joined.proofs.row.put_row.Goals as goal

-- the entries by the tables, and by the rows
first-same : (i turn : ℕ) (cs : List ℕ) (vs : List ℤ) {second : ℕ → ℤ} {marks : List ℕ} {held : List ℤ} → Held turn second marks held → from_first i cs vs (held_at turn marks held) (length cs) ≡ from_first i cs vs second (length cs)
first-same i turn cs vs {second} {marks} {held} h =
    cells_same i (λ c. leb c i) (λ c. leb c i) (λ k. get_or cs k 0) (λ k. get_or vs k (pos 0) +ℤ held_at turn marks held (get_or cs k 0)) (λ k. get_or vs k (pos 0) +ℤ second (get_or cs k 0)) (length cs)
    (λ l m. refl) (λ l m. ap (λ (z : ℤ). get_or vs l (pos 0) +ℤ z) (h.is (get_or cs l 0)))

second-same : (i turn : ℕ) (places ds : List ℕ) (ws : List ℤ) {first : ℕ → Bool} {seen : List ℕ} → Seen turn first seen → from_second i places ds ws (marked turn seen) (length ds) ≡ from_second i places ds ws first (length ds)
second-same i turn places ds ws {first} {seen} h =
    cells_same i (λ c. leb c i && not (marked turn seen c)) (λ c. leb c i && not (first c)) (λ k. get_or places (get_or ds k 0) 0) (λ k. get_or ws k (pos 0)) (λ k. get_or ws k (pos 0)) (length ds)
    (λ l m. ap (λ (b : Bool). leb (get_or places (get_or ds l 0) 0) i && not b) (h.is (get_or places (get_or ds l 0) 0))) (λ l m. refl)

pub see-requires : goal.see-requires
see-requires c = rw (c.hold.ensures.turn, c.hold.ensures.seen) c.requires.2

pub returns-in_err-put_first : goal.returns-in_err-put_first
unfolding row_entries
returns-in_err-put_first c =
    let a = c.args in
    let t = c.see.new.self in
    let turn : t.turn ≡ a.i + 1 = c.see.ensures.turn ∙ c.hold.ensures.turn in
    let held : Held (a.i + 1) (λ j. lookup (position_of a.second.now.places.now j) a.second.now.columns.now a.second.now.values.now) t.marks t.held = rw (c.see.ensures.marks, c.see.ensures.held) c.hold.ensures.held in
    let there : Held t.turn (λ j. lookup (position_of a.second.now.places.now j) a.second.now.columns.now a.second.now.values.now) t.marks t.held = rw turn held in
    let same = first-same a.i t.turn a.first.now.columns.now a.first.now.values.now there in
    record {
      told = rw c.from_residual.ensures (broken_stop _ _ (broken_same same _ c.in_err-put_first.ensures) _);
      marks = held-before held;
      seen = seen_before (rw c.hold.ensures.turn at c.see.ensures.seen);
    }

pub returns : goal.returns
unfolding row_entries
returns c =
    let a = c.args in
    let t = c.see.new.self in
    let turn : t.turn ≡ a.i + 1 = c.see.ensures.turn ∙ c.hold.ensures.turn in
    let held : Held (a.i + 1) (λ j. lookup (position_of a.second.now.places.now j) a.second.now.columns.now a.second.now.values.now) t.marks t.held = rw (c.see.ensures.marks, c.see.ensures.held) c.hold.ensures.held in
    let there : Held t.turn (λ j. lookup (position_of a.second.now.places.now j) a.second.now.columns.now a.second.now.values.now) t.marks t.held = rw turn held in
    let same = first-same a.i t.turn a.first.now.columns.now a.first.now.values.now there in
    let seen : Seen (a.i + 1) (is_in a.first.now.columns.now) t.seen = rw c.hold.ensures.turn at c.see.ensures.seen in
    let here : Seen t.turn (is_in a.first.now.columns.now) t.seen = rw turn seen in
    let then = second-same a.i t.turn a.second.now.places.now a.second.now.columns.now a.second.now.values.now here in
    record {
      told = told_then (added_same same c.in_ok-put_first.ensures) _ _ _ (told_same then _ _ _ c.put_second.ensures);
      marks = held-before held;
      seen = seen_before seen;
    }
