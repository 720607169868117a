-- What the head of a list says, read at its places.
use mathlib.Core.Path.{◌≡◌, refl, sym, ◌∙◌}
use mathlib.Core.Logic.{◌≢◌}
use mathlib.Core.Bool.{Bool, true, false, ◌&&◌}
use mathlib.Core.List.{List}
use Prim.Native.Nat.{ℕ, zero, suc, ◌+◌, ◌*◌, ◌^◌, ◌≤◌, ◌<◌}
use native.Mathlib.Omega.{arith}
use lib.Dec.{eqb, leb}
use lib.ListN.{length, get_or}
use borrow.Author.Tests.{le-leb, lt-leb, eq-eqb, ne_eqb}
use Rattle.plan.specs.Sound.{max_workers}
use Rattle.run.specs.Updates.{count}
use Rattle.words.specs.Code.Places.{four_at}
use Rattle.machine.specs.Code.Tests.{all_below}
use Rattle.prepared.specs.Format.{mark, head_bytes, row_bytes, head_in, rows_in, count_in, gates_from, lists_in, is_prepared}
use Rattle.prepared.specs.Tables.{Tables, counts_fine_by, all_made_by}
use Rattle.prepared.proofs.Places as at
use Rattle.picking.specs.Code.Reads.{Head}

module _ (b : List ℕ) where
  -- ---- whether it is a prepared one

  pub short_list : length b < head_bytes → false ≡ is_prepared b
  unfolding is_prepared
  short_list l = rw (lt-leb head_bytes (length b) l) refl

  module _ (long : head_bytes ≤ length b) where
    abbrev size : ℕ
    size = gates_from (four_at b 12) + four_at b 4 * row_bytes

    prepared-is : is_prepared b ≡ eqb (four_at b 0) mark && leb (four_at b 8) max_workers && leb size (length b)
    unfolding is_prepared
    prepared-is =
        rw (le-leb head_bytes (length b) long, at.head_at b long 0 (omega arith), at.head_at b long 1 (omega arith), at.head_at b long 2 (omega arith), at.head_at b long 3 (omega arith)) refl

    pub other-mark : four_at b 0 ≢ mark → false ≡ is_prepared b
    other-mark d = rw (prepared-is, ne_eqb (four_at b 0) mark d) refl

    module _ (same : four_at b 0 ≡ mark) where
      pub too_many : max_workers < four_at b 8 → false ≡ is_prepared b
      too_many l = rw (prepared-is, eq-eqb (four_at b 0) mark same, lt-leb (four_at b 8) max_workers l) refl

      pub long-enough : four_at b 8 ≤ max_workers → leb size (length b) ≡ is_prepared b
      long-enough l = rw (prepared-is, eq-eqb (four_at b 0) mark same, le-leb (four_at b 8) max_workers l) refl

  -- ---- what it says then

  pub head_of : is_prepared b ≡ true → {rows crew n : ℕ} → rows ≡ four_at b 4 → rows < 2 ^ 32 → crew ≡ four_at b 8 → n ≡ four_at b 12 → Head b rows crew n
  unfolding lists_in
  head_of ok {rows} {crew} {n} r low c u =
      let rows_are : rows ≡ rows_in b = r ∙ sym (at.head_at b (at.long b ok) 1 (omega arith)) in
      let crew_is : crew ≡ get_or (head_in b) 2 0 = c ∙ sym (at.head_at b (at.long b ok) 2 (omega arith)) in
      let count_is : n ≡ count_in b = u ∙ sym (at.head_at b (at.long b ok) 3 (omega arith)) in
      record { prepared = ok; rows_are = rows_are; rows_low = low; crew_is = crew_is; few = omega (arith, at.few b ok); count_is = count_is; inside = rw (rows_are, count_is) (at.all-long b ok) }

-- ---- the counts of all workers

module _ (T : Tables) (made : List ℕ) where
  -- worker w has made no more than its accesses, or all of them
  abbrev pub is_fine : ℕ → Bool
  is_fine w = leb (count made w) (T.most w)

  abbrev pub made_all : ℕ → Bool
  made_all w = leb (T.most w) (count made w)

  pub fine-below : (k : ℕ) → all_below is_fine k ≡ counts_fine_by T made k
  unfolding all_below counts_fine_by
  fine-below zero = refl
  fine-below (suc k) = rw (fine-below k)

  pub made-below : (k : ℕ) → all_below made_all k ≡ all_made_by T made k
  unfolding all_below all_made_by
  made-below zero = refl
  made-below (suc k) = rw (made-below k)
