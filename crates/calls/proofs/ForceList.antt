-- What a force-list call answers of a job's sums, and leaves in the lent list.
use mathlib.Core.Path.{◌≡◌, refl, ap, ◌∙◌}
use mathlib.Core.Bool.{Bool, true, false}
use mathlib.Core.List.{List, ◌++◌}
use Prim.Native.Nat.{ℕ, ◌≤◌, ◌<◌}
use lib.IntN.{ℤ, pos}
use lib.ListN.{length, get_or, take, drop}
use lib.Seq.{take_at}
use borrow.Author.Tests.{le-leb, lt-leb}
use Rattle.base.specs.Refusals as why
use Rattle.base.proofs.Fill.{length-made}
use Rattle.plan.specs.Sound.{each_once}
use Rattle.plan.proofs.Once.{Once, once}
use Rattle.run.specs.Job.{Job}
use Rattle.run.specs.Machine.{original}
use Rattle.base.specs.Lists.{position_of}
use Rattle.run.specs.Answers as calls
use Rattle.run.specs.Calls.{forces_of, forces_lent}
use Rattle.calls.specs.Code.Listed.{Listed}
use Rattle.calls.specs.Code.Scatter.{Scattered}
use Rattle.calls.proofs.Scattering.{scattered_original}

original-long : (j : Job) (sums : List ℤ) → length (original j sums) ≡ j.matrix.n
unfolding original
original-long j sums = length-made (λ i. get_or sums (position_of j.plan.order i) (pos 0)) sums j.matrix.n

module _ (j : Job) {n : ℕ} (rows : j.matrix.n ≡ n) {is_over : Bool} (sums old : List ℤ) where
  -- the run is not over
  pub listed-early : is_over ≡ false → Listed j is_over sums old (calls.denied why.too_early 0) old
  unfolding forces_of forces_lent
  listed-early e = record { answers = rw e; forces = refl }

  module _ (over : is_over ≡ true) where
    -- the list is too short
    pub listed-short : length old < n → Listed j is_over sums old (calls.denied why.too_short n) old
    unfolding forces_of forces_lent
    listed-short l = record { answers = rw (over, rows, lt-leb n (length old) l); forces = refl }

    -- the sums stand in the places of their rows
    pub listed : (order : List ℕ) → j.plan.order ≡ take n order → each_once n (take n order) ≡ true → n ≤ length old → {new : List ℤ} → Scattered n n (take n order) sums old new
        → Listed j is_over sums old (calls.forces (take n new)) new
    unfolding forces_of forces_lent
    listed order is each l {new} s =
        let o : Once j.matrix.n j.plan.order = rw (rows, is) (once n (take n order) each) in
        let all : new ≡ original j sums ++ drop n old = rw (← rows) (scattered_original j o sums old new (rw rows l) (rw (rows, is) s)) in
        let long : length (original j sums) ≡ n = original-long j sums ∙ rows in
        let front : take n new ≡ original j sums = rw all (take_at (original j sums) (drop n old) n long) in
        record {
          answers = rw (over, le-leb j.matrix.n (length old) (rw rows l)) (ap calls.forces front);
          forces = all ∙ rw (front, long);
        }
