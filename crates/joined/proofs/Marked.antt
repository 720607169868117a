-- Tables with one number for each row of the joined net, filled for one turn.
use mathlib.Core.Path.{◌≡◌, refl, sym, ap, ◌∙◌}
use mathlib.Core.Logic.{⊎_elim, ◌≢◌}
use mathlib.Core.Bool.{Bool, cond}
use mathlib.Core.List.{List}
use Prim.Native.Nat.{ℕ, ◌+◌, ◌<◌}
use native.Mathlib.Numerals.{add-one}
use native.Mathlib.Omega.{arith}
use lib.Dec.{eqb}
use lib.IntN.{ℤ, pos}
use lib.ListN.{length, get_or, take, set}
use lib.Seq.{take-length, get_or-set_same, get_or-set_other}
use borrow.Author.Tests.{eq-eqb, ne_eqb}
use Rattle.base.specs.Lists.{is_in, position_of}
use Rattle.base.proofs.Booleans.{same_or}
use Rattle.base.proofs.Positions.{position_at, position_in}
use Rattle.base.proofs.Distinct.{position_get}
use Rattle.matrix.specs.Limits.{max_rows}
use Rattle.matrix.specs.Matrix.{lookup}
use Rattle.matrix.proofs.Ascending.{lookup-next}
use Rattle.joined.specs.Code.Rows.{held_at, Before, Held, Seen, SecondRow}

-- ---- the second net's row

module _ (turn : ℕ) (places ds : List ℕ) (ws : List ℤ) where
  abbrev up_to : ℕ → ℕ → ℤ
  up_to k c = lookup (position_of places c) (take k ds) (take k ws)

  module _ {marks : List ℕ} {held : List ℤ} where
    pub held_none : Before turn marks → Held turn (up_to 0) marks held
    unfolding lookup
    held_none b = record { late = λ c. omega (arith, b c); is = λ c. rw (ne_eqb (get_or marks c 0) turn (λ e. omega (arith, b c))) }

    module _ (long : length marks ≡ max_rows) (beside : length held ≡ max_rows) (row : SecondRow places ds ws) (k : ℕ) (l : k < length ds) (h : Held turn (up_to k) marks held) where
      abbrev place : ℕ
      place = get_or places (get_or ds k 0) 0

      pub held_next : Held turn (up_to (k + 1)) (set marks place turn) (set held place (get_or ws k (pos 0)))
      held_next = record {
        late = λ c. ⊎_elim (λ e. rw e (rw (get_or-set_same marks place turn 0 fits) (omega arith))) (λ d. rw (get_or-set_other marks place c turn 0 d) (h.late c)) (same_or c place);
        is = λ c. ⊎_elim (here c) (there c) (same_or c place);
      }
        where
          fits : place < length marks
          fits = omega (arith, row.low k l, long)

          more : (c : ℕ) → up_to (k + 1) c ≡ cond (eqb (position_of places c) (get_or ds k 0)) (get_or ws k (pos 0)) (up_to k c)
          more c = rw (add-one k) (lookup-next ds ws k (position_of places c) row.ascends row.beside l)

          here : (c : ℕ) → c ≡ place → held_at turn (set marks place turn) (set held place (get_or ws k (pos 0))) c ≡ up_to (k + 1) c
          here c e =
              let from : position_of places place ≡ get_or ds k 0 = position_get places (get_or ds k 0) row.apart (row.inside k l) in
              rw e (rw (get_or-set_same marks place turn 0 fits, eq-eqb turn turn refl, get_or-set_same held place (get_or ws k (pos 0)) (pos 0) (omega (arith, row.low k l, beside))) (sym (more place ∙ rw (eq-eqb (position_of places place) (get_or ds k 0) from))))

          there : (c : ℕ) → c ≢ place → held_at turn (set marks place turn) (set held place (get_or ws k (pos 0))) c ≡ up_to (k + 1) c
          there c d =
              rw (get_or-set_other marks place c turn 0 d, get_or-set_other held place c (get_or ws k (pos 0)) (pos 0) d)
              (h.is c ∙ sym (more c ∙ rw (ne_eqb (position_of places c) (get_or ds k 0) other)))
            where
              other : position_of places c ≢ get_or ds k 0
              other e =
                  let there : position_of places c < length places = omega (arith, e, row.inside k l) in
                  d (sym (position_at places c (position_in places c there)).1 ∙ ap (λ (j : ℕ). get_or places j 0) e)

    pub held_all : length ds ≡ length ws → {k : ℕ} → Held turn (up_to k) marks held → k ≡ length ds → Held turn (λ c. lookup (position_of places c) ds ws) marks held
    held_all b {k} h e =
        let c : take k ds ≡ ds = rw e (take-length ds) in
        let v : take k ws ≡ ws = rw (e, b) (take-length ws) in
        record { late = h.late; is = λ j. h.is j ∙ rw (c, v) }

pub held-before : {turn : ℕ} {second : ℕ → ℤ} {marks : List ℕ} {held : List ℤ} → Held turn second marks held → Before (turn + 1) marks
held-before h c = omega (arith, h.late c)

-- ---- the first net's row

module _ (turn : ℕ) (cs : List ℕ) {seen : List ℕ} where
  pub seen_none : Before turn seen → Seen turn (is_in (take 0 cs)) seen
  seen_none b = record { late = λ c. omega (arith, b c); is = λ c. ne_eqb (get_or seen c 0) turn (λ e. omega (arith, b c)) }

pub seen_before : {turn : ℕ} {first : ℕ → Bool} {seen : List ℕ} → Seen turn first seen → Before (turn + 1) seen
seen_before h c = omega (arith, h.late c)
