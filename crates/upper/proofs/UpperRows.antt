-- The positions of a row's part of the upper triangle: one more, and how many they are.
use mathlib.Core.Path.{◌≡◌, refl, ap, ◌∙◌}
use mathlib.Core.Bool.{Bool, true, false, ◌&&◌, ◌||◌, and-true}
use mathlib.Core.List.{List, [], ◌∷◌, ◌++◌}
use Prim.Native.Nat.{ℕ, zero, suc, ◌+◌, ◌-◌, ◌≤◌, ◌<◌}
use native.Mathlib.Omega.{arith}
use lib.Dec.{eqb, ltb}
use lib.ListN.{length, get_or, length-append}
use borrow.Author.Tests.{ltb-true, ltb-false, lt-ltb, le-ltb, eq-eqb, ne_eqb, eqb-true, eqb-false}
use Rattle.base.specs.Lists.{filter, keep, range, sum_below, bit}
use Rattle.base.proofs.Booleans.{and_false}
use Rattle.base.proofs.Lists.{filter-append, filter_ext, length-filter-le, length-range, range_snoc, range_in}
use Rattle.matrix.specs.Matrix.{Matrix, adjacent}
use Rattle.run.specs.Job.{Job, row_at}
use Rattle.run.specs.Updates.{later}
use Rattle.upper.specs.Code.Upper.{upper_to, upper_of}

pub length-keep : (b : Bool) (q : ℕ) → length (keep b q []) ≡ bit b
length-keep true q = refl
length-keep false q = refl

-- ---- one position more

module _ (m : Matrix) (order : List ℕ) (p : ℕ) where
  -- position r has an entry in the part of the row at p, if it does not stand before it
  abbrev pub near : ℕ → Bool
  near r = eqb r p || adjacent m (get_or order p 0) (get_or order r 0)

  -- there is none before p
  pub upper_before : (q : ℕ) → q ≤ p → upper_to m order p q ≡ []
  unfolding upper_to
  upper_before q l = let e : q - p ≡ 0 = omega arith in rw e refl

  -- position q, if it has one
  pub upper_next : (q : ℕ) → p ≤ q → upper_to m order p (suc q) ≡ upper_to m order p q ++ keep (near q) q []
  unfolding upper_to
  upper_next q l =
      let k : ℕ = q - p in
      let x : suc q - p ≡ suc k = omega arith in
      let y : p + k ≡ q = omega arith in
      ap (λ (n : ℕ). filter near (range p n)) x ∙ ap (filter near) (range_snoc p k ∙ ap (λ (r : ℕ). range p k ++ r ∷ []) y) ∙ filter-append near (range p k) (q ∷ [])

-- in the end: the row itself, and the later rows of its updates
pub upper_whole : (j : Job) (p : ℕ) → p < j.matrix.n → upper_to j.matrix j.plan.order p j.matrix.n ≡ p ∷ later j p
unfolding upper_to later row_at
upper_whole j p l =
    let e : j.matrix.n - p ≡ suc (j.matrix.n - suc p) = omega arith in
    rw (e, eq-eqb p p refl)
    (ap (◌∷◌ p) (filter_ext _ _ (range (suc p) (j.matrix.n - suc p)) (λ r h. rw (ne_eqb r p (λ y. omega (arith, (range_in r (suc p) (j.matrix.n - suc p) h).0))) refl)))

-- ---- how many there are

module _ (m : Matrix) (order : List ℕ) (p : ℕ) where
  -- no fewer up to a later position
  pub upper_rises : (q k : ℕ) → length (upper_to m order p q) ≤ length (upper_to m order p (q + k))
  upper_rises q zero = let e : q + 0 ≡ q = omega arith in rw e (omega arith)
  upper_rises q (suc k) = let e : q + suc k ≡ suc (q + k) = omega arith in rw e (go (ltb (q + k) p) refl (upper_rises q k))
    where
      go : (b : Bool) → ltb (q + k) p ≡ b → length (upper_to m order p q) ≤ length (upper_to m order p (q + k)) → length (upper_to m order p q) ≤ length (upper_to m order p (suc (q + k)))
      go true e ih = omega (arith, ap length (upper_before m order p q (omega (arith, ltb-true (q + k) p e))))
      go false e ih = rw (upper_next m order p (q + k) (ltb-false (q + k) p e)) (omega (arith, length-append (upper_to m order p (q + k)) (keep (near m order p (q + k)) (q + k) [])))

  pub upper_part : (q : ℕ) → q ≤ m.n → length (upper_to m order p q) ≤ length (upper_of m order p)
  upper_part q l = let e : q + (m.n - q) ≡ m.n = omega arith in rw e at (upper_rises q (m.n - q))

  -- at most one for each position from p on
  pub upper_few : (q : ℕ) → length (upper_to m order p q) ≤ q
  unfolding upper_to
  upper_few q = omega (arith, length-filter-le (near m order p) (range p (q - p)), length-range p (q - p))

  -- the row itself is one
  pub upper_own : upper_to m order p (suc p) ≡ p ∷ []
  upper_own = upper_next m order p p (omega arith) ∙ rw (upper_before m order p p (omega arith), eq-eqb p p refl) refl

  pub upper_some : p < m.n → 1 ≤ length (upper_of m order p)
  upper_some l = omega (arith, upper_part (suc p) l, ap length upper_own)

  -- position r stands after p, and its row is adjacent to the row at p
  abbrev pub beyond : ℕ → Bool
  beyond r = adjacent m (get_or order p 0) (get_or order r 0) && ltb p r

  -- the row itself, and the later adjacent ones
  pub upper_sum : (q : ℕ) → length (upper_to m order p q) ≡ bit (ltb p q) + sum_below (λ r. bit (beyond r)) q
  unfolding sum_below
  upper_sum zero = omega (arith, ap length (upper_before m order p 0 (omega arith)), ap bit (le-ltb p 0 (omega arith)))
  upper_sum (suc q) = go (ltb q p) refl (eqb q p) refl (upper_sum q)
    where
      sum : ℕ
      sum = sum_below (λ r. bit (beyond r)) q

      go : (a : Bool) → ltb q p ≡ a → (b : Bool) → eqb q p ≡ b → length (upper_to m order p q) ≡ bit (ltb p q) + sum → length (upper_to m order p (suc q)) ≡ bit (ltb p (suc q)) + (sum + bit (beyond q))
      go true e b f ih =
          let l = ltb-true q p e in
          rw (upper_before m order p (suc q) l, le-ltb p (suc q) l, le-ltb p q (omega arith), and_false (adjacent m (get_or order p 0) (get_or order q 0)))
          (omega (arith, ih, ap length (upper_before m order p q (omega arith)), ap bit (le-ltb p q (omega arith))))
      go false e true f ih =
          let l : q ≡ p = eqb-true q p f in
          rw (l, upper_own, lt-ltb p (suc p) (omega arith), le-ltb p p (omega arith), and_false (adjacent m (get_or order p 0) (get_or order p 0)))
          (omega (arith, rw (l, le-ltb p p (omega arith), upper_before m order p p (omega arith)) at ih))
      go false e false f ih =
          let l : p < q = omega (arith, ltb-false q p e, eqb-false q p f) in
          rw (
            upper_next m order p q (omega arith),
            length-append (upper_to m order p q) (keep (near m order p q) q []),
            length-keep (near m order p q) q,
            f,
            lt-ltb p (suc q) (omega arith),
            lt-ltb p q l,
            and-true (adjacent m (get_or order p 0) (get_or order q 0)),
          )
          (omega (arith, ih, ap bit (lt-ltb p q l)))
