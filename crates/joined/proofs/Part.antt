-- Entries gathered one by one: those of some cells on and below the diagonal, each once, with its value.
use mathlib.Core.Path.{◌≡◌, refl, ap, ◌∙◌}
use mathlib.Core.Bool.{Bool, true, false, ◌||◌, ◌&&◌, cond}
use mathlib.Core.List.{List, [], ◌∷◌, ◌++◌}
use Prim.Native.Nat.{ℕ, ◌≤◌}
use native.Mathlib.Omega.{arith}
use lib.Dec.{leb}
use lib.IntN.{ℤ}
use lib.ListN.{length}
use Rattle.base.specs.Lists.{filter, bit}
use Rattle.base.proofs.Each.{Each, each_append}
use Rattle.base.proofs.Lists.{filter-append}
use Rattle.matrix.specs.Matrix.{lower_entries}
use Rattle.matrix.specs.Tabulated.{tabulated}
use Rattle.market.specs.Parse.{Triplet, triplet, is_at}
use Rattle.market.proofs.Accepted.{Inner}
use Rattle.market.proofs.Cells.{Low}
use Rattle.joined.proofs.Gathering.{gathered-few}

module _ (n : ℕ) (value : ℕ → ℕ → ℤ) where
  -- the cells that pass a test
  pub record Part (some : ℕ → ℕ → Bool) (es : List Triplet) : Type 0 where
    pub low : Each Low es
    pub inner : Each (Inner n) es
    pub cells : (r c : ℕ) → filter (is_at r c) es ≡ cond (some r c) (triplet r c (value r c) ∷ []) []

  -- none
  pub part_none : Part (λ r c. false) []
  part_none = record { low = tt; inner = tt; cells = λ r c. refl }

  -- the same cells by another test
  pub part_same : {some other : ℕ → ℕ → Bool} {es : List Triplet} → ((r c : ℕ) → some r c ≡ other r c) → Part some es → Part other es
  part_same h p = record { low = p.low; inner = p.inner; cells = λ r c. p.cells r c ∙ ap (λ (b : Bool). cond b (triplet r c (value r c) ∷ []) []) (h r c) }

  -- other cells more
  pub part-append : {some other : ℕ → ℕ → Bool} {es ts : List Triplet} → Part some es → Part other ts → ((r c : ℕ) → some r c ≡ true → other r c ≡ false) → Part (λ r c. some r c || other r c) (es ++ ts)
  part-append {some} {other} {es} {ts} p q apart = record {
    low = each_append Low es ts p.low q.low;
    inner = each_append (Inner n) es ts p.inner q.inner;
    cells = λ r c. filter-append (is_at r c) es ts ∙ rw (p.cells r c, q.cells r c) (go r c (some r c) refl);
  }
    where
      go : (r c : ℕ) (b : Bool) → some r c ≡ b → cond b (triplet r c (value r c) ∷ []) [] ++ cond (other r c) (triplet r c (value r c) ∷ []) [] ≡ cond (b || other r c) (triplet r c (value r c) ∷ []) []
      go r c true e = rw (apart r c e)
      go r c false e = refl

  module _ {some : ℕ → ℕ → Bool} (stored : ℕ → ℕ → Bool) {es : List Triplet} (p : Part some es) where
    -- only such cells: no more than the net has
    pub part-few : ((r c : ℕ) → some r c ≡ true → stored r c && leb c r ≡ true) → length es ≤ lower_entries (tabulated n stored value)
    part-few h = gathered-few n stored value es p.inner (λ r c. rw (p.cells r c) (go r c (some r c) refl))
      where
        go : (r c : ℕ) (b : Bool) → some r c ≡ b → length (cond b (triplet r c (value r c) ∷ []) []) ≤ bit (stored r c && leb c r)
        go r c true e = rw (h r c e) (omega arith)
        go r c false e = omega arith
