-- The loop over the lines of a text: the numbers so far, and what is left.
use Rattle.std.proofs.Common.{◌≡◌, Err, ℕ, suc, ◌+◌, ◌<◌, ◌≤◌, ◌⊎◌, List, [], ◌∷◌, ◌++◌, length, get_or, drop, ℤ, refl, ap, ◌∙◌, inl, inr, arith, length-append, length-drop, drop_of_length-le, drop-drop}
use Rattle.market.specs.Fields.{is, no}
use Rattle.scan.proofs.Left.{left-cons}
use Rattle.numbers.specs.Lines.{lines_in, number_on, numbers, faulty, listed_from, listed}
use Rattle.numbers.proofs.Split.{Plain, Negative, number_spelled, listed-number, listed-broken, listed-done}
use Rattle.numbers.proofs.line.Numbers.{end_inside}
use Rattle.numbers.specs.Calls.{numbers_in}
use Rattle.base.specs.Refusals as why
use Rattle.base.specs.Verdicts.{number_of}
use Rattle.base.specs.declared.Kind.{Kind}
use Rattle.base.specs.declared.Kind.TheVariants as kind
use Rattle.numbers.specs.Code.Lines.{line_at}
use Rattle.numbers.proofs.read.Told.{IsNumber, IsPast, fault-told}

-- a number's line ends in the text
number-inside : (xs : List ℕ) (z : ℤ) (k : ℕ) → number_on xs ≡ is z k → k < length xs
number-inside xs z k e = go (number_spelled xs z k e)
  where
    go : Plain xs z k ⊎ Negative xs z k → k < length xs
    go (inl p) = end_inside xs k p.has.end
    go (inr n) = omega (arith, end_inside n.rest n.length_rest n.has.end, n.size, ap length n.starts)

pub record Judging (s : List ℕ) (count at : ℕ) : Type 0 where
  pub done : List ℤ
  pub many : length done ≡ count
  pub few : count ≤ at
  pub inside : at ≤ length s
  pub rest : listed s ≡ listed_from done (lines_in (drop at s))

module _ (s : List ℕ) where
  pub judging_start : Judging s 0 0
  unfolding listed
  judging_start = record { done = []; many = refl; few = omega arith; inside = omega arith; rest = refl }

  module _ {count at : ℕ} (j : Judging s count at) where
    -- a number
    pub judging_next : {bits next : ℕ} (n : IsNumber at bits next (number_on (drop at s))) → listed s ≡ listed_from (j.done ++ n.value ∷ []) (lines_in (drop next s))
    judging_next {bits} {next} n =
        let d : at + suc n.size ≡ next = omega (arith, n.after) in
        j.rest ∙ listed-number j.done (drop at s) n.value n.size n.of ∙ rw (n.fits, drop-drop (suc n.size) at s, d)

    pub judging_more : {bits next : ℕ} → IsNumber at bits next (number_on (drop at s)) → Judging s (count + 1) next
    judging_more {bits} {next} n =
        let i = number-inside (drop at s) n.value n.size n.of in
        record {
          done = j.done ++ n.value ∷ [];
          many = length-append j.done (n.value ∷ []) ∙ rw j.many;
          few = omega (arith, j.few, n.after);
          inside = omega (arith, i, length-drop at s, n.after);
          rest = judging_next n;
        }

    pub judging_past : IsPast (number_on (drop at s)) → listed s ≡ faulty why.bad_entry (count + 1)
    judging_past n = j.rest ∙ listed-number j.done (drop at s) n.value n.size n.of ∙ rw n.past (ap (faulty why.bad_entry) (omega (arith, j.many)))

    pub judging_broken : at < length s → number_on (drop at s) ≡ no → listed s ≡ faulty why.bad_form (count + 1)
    judging_broken h e =
        let c = left-cons s at h in
        j.rest ∙ rw c (listed-broken j.done (get_or s at 0) (drop (at + 1) s) (rw c at e) ∙ ap (faulty why.bad_form) (omega (arith, j.many)))

    -- a line that is refused
    pub judging_fault : at < length s → (q : Kind) → Err q ≡ line_at at (number_on (drop at s)) → listed s ≡ faulty (number_of q) (count + 1)
    judging_fault h q e = go (fault-told at q (number_on (drop at s)) e)
      where
        go : (IsPast (number_on (drop at s)) × (q ≡ kind.BadEntry)) ⊎ ((number_on (drop at s) ≡ no) × (q ≡ kind.BadForm)) → listed s ≡ faulty (number_of q) (count + 1)
        go (inl p) = rw p.1 (judging_past p.0)
        go (inr b) = rw b.1 (judging_broken h b.0)

    pub judging_done : length s ≤ at → listed s ≡ numbers j.done
    judging_done h = j.rest ∙ rw (drop_of_length-le s h) (listed-done j.done)

    pub judging_judges : length s ≤ at → (listed s ≡ numbers (numbers_in (listed s))) × (length (numbers_in (listed s)) ≡ count)
    unfolding numbers_in
    judging_judges h = rw (judging_done h) (refl, j.many)
