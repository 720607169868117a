-- The loop that stores the numbers of a text.
use Rattle.std.proofs.Common.{◌≡◌, ℕ, ◌+◌, ◌*◌, ◌<◌, ◌≤◌, List, [], ◌∷◌, ◌++◌, length, get_or, take, drop, ℤ, pos, refl, sym, ap, ◌∙◌, append_assoc, arith, length-append, take_all}
use lib.Seq.{sets, get_or-append_seam}
use Rattle.words.specs.LittleEndian.{bytes_of, signed_bytes_of, signed_bytes, stored}
use Rattle.words.proofs.Digits.{length-signed_bytes_of}
use Rattle.words.proofs.Blocks.{Storing, store-none, store_more}
use Rattle.std.proofs.Common.{Result, Ok, Err, IsOk}
use Rattle.base.specs.declared.Kind.{Kind}
use Rattle.numbers.specs.Code.Lines.{line_at}
use Rattle.numbers.specs.Lines.{number_on, numbers, faulty, listed}
use Rattle.numbers.specs.Calls.{numbers_in}
use Rattle.numbers.proofs.NumberLists.{text-only}
use Rattle.numbers.proofs.read.Told.{IsNumber}
use Rattle.numbers.proofs.read.Judging.{Judging, judging_start, judging_next, judging_more, judging_fault, judging_done}

-- the numbers of the text
abbrev pub all : List ℕ → List ℤ
all s = numbers_in (listed s)

pub record Filling (s old now : List ℕ) (k at : ℕ) : Type 0 where
  pub lines : Judging s k at
  pub bytes : Storing (signed_bytes_of 8) 8 (length-signed_bytes_of 8) (numbers_in (listed s)) old (length (numbers_in (listed s))) now k

-- numbers are read from a text that has no others
module _ (s : List ℕ) (good : listed s ≡ numbers (numbers_in (listed s))) where
  -- those so far, and the next
  next-number : {k at : ℕ} (j : Judging s k at) {bits next : ℕ} (n : IsNumber at bits next (number_on (drop at s))) → (k < length (all s)) × (get_or (all s) k (pos 0) ≡ n.value)
  next-number {k} {at} j {bits} {next} n =
      let r = text-only (length (drop next s)) (j.done ++ n.value ∷ []) (drop next s) (all s) (omega arith) (sym (judging_next s j n) ∙ good) in
      let e : all s ≡ j.done ++ n.value ∷ r.list = r.after ∙ append_assoc j.done (n.value ∷ []) r.list in
      (omega (arith, j.many, ap length e, length-append j.done (n.value ∷ r.list)), ap (λ (i : ℕ). get_or (all s) i (pos 0)) (sym j.many) ∙ ap (λ (zs : List ℤ). get_or zs (length j.done) (pos 0)) e ∙ get_or-append_seam j.done n.value r.list (pos 0))

  -- there is a number
  never : {X : Type 0} {q p : ℕ} → listed s ≡ faulty q p → X
  never e = absurd (cc)

  pub always_number : {k at : ℕ} → Judging s k at → at < length s → (r : Result (ℕ × ℕ) Kind) → r ≡ line_at at (number_on (drop at s)) → IsOk r
  always_number j h (Ok x) e = refl
  always_number j h (Err q) e = never (judging_fault s j h q e)

  module _ (old : List ℕ) where
    pub filling_start : Filling s old old 0 0
    filling_start = record { lines = judging_start s; bytes = store-none (signed_bytes_of 8) 8 (length-signed_bytes_of 8) (all s) old (length (all s)) }

    module _ (room : length (all s) * 8 ≤ length old) {now : List ℕ} {k at : ℕ} (f : Filling s old now k at) {bits next : ℕ} (n : IsNumber at bits next (number_on (drop at s))) where
      pub filling_room : k * 8 + 8 ≤ length now
      filling_room = omega (arith, room, f.bytes.long, (next-number f.lines n).0)

      pub filling_more : {later : List ℕ} → later ≡ sets now (k * 8) (bytes_of 8 bits) → Filling s old later (k + 1) next
      filling_more {later} e =
          let x = next-number f.lines n in
          record {
            lines = judging_more s f.lines n;
            bytes = store_more (signed_bytes_of 8) 8 (length-signed_bytes_of 8) (all s) old (length (all s)) now later k (pos 0) (omega arith) x.0 (omega (arith, room, x.0)) (e ∙ rw (n.code, ← x.1)) f.bytes;
          }

    -- no line is left
    pub filling_done : {now : List ℕ} {k at : ℕ} → length s ≤ at → Filling s old now k at → now ≡ stored (signed_bytes 8 (all s)) old
    filling_done {now} {k} h f =
        let d = judging_done s f.lines h in
        let e : all s ≡ f.lines.done = cc in
        let full : take k (all s) ≡ all s = take_all k (all s) (omega (arith, ap length e, f.lines.many)) in
        f.bytes.is ∙ rw full
