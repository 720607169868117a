-- The sums put into the places of their rows, position by position: at the end they are in original order.
use mathlib.Core.Path.{◌≡◌, refl, sym, ap, ◌∙◌}
use mathlib.Core.Logic.{◌⊎◌, inl, inr, ◌≢◌}
use mathlib.Core.Bool.{Bool, true, false}
use mathlib.Core.List.{List, ◌++◌}
use Prim.Native.Nat.{ℕ, ◌+◌, ◌-◌, ◌≤◌, ◌<◌}
use native.Mathlib.Omega.{arith}
use lib.ListN.{length, get_or, set, drop, length-set, length-append, length-drop, get_or-append}
use lib.Seq.{get_or-set_same, get_or-set_other, get_or-append-add, get_or-drop, ext_get_or}
use lib.IntN.{ℤ, pos}
use lib.Dec.{ltb}
use borrow.Author.Tests.{ltb-true, ltb-false}
use Rattle.base.proofs.Booleans.{same_or}
use Rattle.base.proofs.Lists.{map-range-zero}
use Rattle.base.proofs.Fill.{length-made}
use Rattle.base.proofs.Positions.{position_at}
use Rattle.plan.proofs.Once.{Once, low_at, injective}
use Rattle.run.specs.Job.{Job}
use Rattle.run.specs.Machine.{original}
use Rattle.base.specs.Lists.{position_of}
use Rattle.calls.specs.Code.Scatter.{Scattered}

module _ (n : ℕ) (order : List ℕ) (once : Once n order) (sums old : List ℤ) (room : n ≤ length old) where
  pub scattered_none : Scattered 0 n order sums old old
  scattered_none = record { long = refl; is = λ p l. absurd (omega arith); rest = λ v l. refl }

  module _ (k : ℕ) (l : k < n) (new : List ℤ) (s : Scattered k n order sums old new) where
    -- the row at a position has its place
    pub place-below : get_or order k 0 < length new
    place-below = omega (arith, low_at n order k once.low (omega (arith, once.long)), s.long)

    -- one position more
    pub scattered_next : Scattered (k + 1) n order sums old (set new (get_or order k 0) (get_or sums k (pos 0)))
    scattered_next = record {
      long = length-set new (get_or order k 0) (get_or sums k (pos 0)) ∙ s.long;
      is = λ p h. go p h (same_or p k);
      rest = λ v h. get_or-set_other new (get_or order k 0) v (get_or sums k (pos 0)) (pos 0) (λ e. omega (arith, low_at n order k once.low (omega (arith, once.long)))) ∙ s.rest v h;
    }
      where
        go : (p : ℕ) → p < k + 1 → (p ≡ k) ⊎ (p ≢ k) → get_or (set new (get_or order k 0) (get_or sums k (pos 0))) (get_or order p 0) (pos 0) ≡ get_or sums p (pos 0)
        go p h (inl e) = rw e (get_or-set_same new (get_or order k 0) (get_or sums k (pos 0)) (pos 0) place-below)
        go p h (inr d) = get_or-set_other new (get_or order k 0) (get_or order p 0) (get_or sums k (pos 0)) (pos 0) (injective n order once p k (omega arith) l d) ∙ s.is p (omega arith)

-- all positions: the force list
pub scattered_original : (j : Job) → Once j.matrix.n j.plan.order → (sums old new : List ℤ) → j.matrix.n ≤ length old
    → Scattered j.matrix.n j.matrix.n j.plan.order sums old new → new ≡ original j sums ++ drop j.matrix.n old
unfolding original
scattered_original j once sums old new room s = ext_get_or (pos 0) new (original j sums ++ drop j.matrix.n old) (s.long ∙ sym long) (λ v l. go v (ltb v j.matrix.n) refl)
  where
    made : length (original j sums) ≡ j.matrix.n
    made = length-made (λ i. get_or sums (position_of j.plan.order i) (pos 0)) old j.matrix.n

    long : length (original j sums ++ drop j.matrix.n old) ≡ length old
    long = simp (length-append, length-drop, made) (omega arith)

    row : (v : ℕ) → v < j.matrix.n → get_or new v (pos 0) ≡ get_or (original j sums ++ drop j.matrix.n old) v (pos 0)
    row v l =
        let p = position_at j.plan.order v (once.member v l) in
        ap (λ (y : ℕ). get_or new y (pos 0)) (sym p.1) ∙ s.is (position_of j.plan.order v) (omega (arith, p.0, once.long))
        ∙ sym (map-range-zero (λ i. get_or sums (position_of j.plan.order i) (pos 0)) j.matrix.n v (pos 0) l)
        ∙ sym (get_or-append (original j sums) (drop j.matrix.n old) (pos 0) v (omega (arith, made)))

    past : (v : ℕ) → j.matrix.n ≤ v → get_or new v (pos 0) ≡ get_or (original j sums ++ drop j.matrix.n old) v (pos 0)
    past v l =
        let e : length (original j sums) + (v - j.matrix.n) ≡ v = omega (arith, made) in
        let f : j.matrix.n + (v - j.matrix.n) ≡ v = omega arith in
        s.rest v l ∙ sym (ap (λ (y : ℕ). get_or (original j sums ++ drop j.matrix.n old) y (pos 0)) (sym e)
        ∙ get_or-append-add (original j sums) (drop j.matrix.n old) (v - j.matrix.n) (pos 0)
        ∙ get_or-drop j.matrix.n old (v - j.matrix.n) (pos 0) ∙ ap (λ (y : ℕ). get_or old y (pos 0)) f)

    go : (v : ℕ) (b : Bool) → ltb v j.matrix.n ≡ b → get_or new v (pos 0) ≡ get_or (original j sums ++ drop j.matrix.n old) v (pos 0)
    go v true e = row v (ltb-true v j.matrix.n e)
    go v false e = past v (ltb-false v j.matrix.n e)
