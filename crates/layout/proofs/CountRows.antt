-- How many updates each worker has, row by row and leaf by leaf, and the sums of these numbers.
use mathlib.Core.Path.{◌≡◌, refl, sym, ap, ◌∙◌}
use mathlib.Core.Logic.{◌⊎◌, inl, inr, ◌≢◌}
use mathlib.Core.List.{List}
use Prim.Native.Nat.{ℕ, suc, ◌+◌, ◌*◌, ◌≤◌, ◌<◌}
use native.Mathlib.Omega.{arith}
use native.Mathlib.Numerals.{add-one}
use lib.ListN.{length, get_or, set, length-set}
use lib.Seq.{get_or-set_same, get_or-set_other}
use Rattle.base.specs.Lists.{sum_below}
use Rattle.base.proofs.Booleans.{same_or}
use Rattle.base.proofs.Sums.{sum-below-same, sum-below-up}
use Rattle.matrix.specs.Limits.{max_rows}
use Rattle.matrix.proofs.Matrix.{matrix_facts}
use Rattle.plan.specs.Sound.{max_workers}
use Rattle.run.specs.Job.{Job, Accepted}
use Rattle.run.specs.Updates.{row_updates, up_to, updates}
use Rattle.run.proofs.Work.{cum_own, cum_const}
use Rattle.run.proofs.RowUpdates.{row-length}
use Rattle.tables.specs.Code.Laid.{max_updates, first_of, next_of, begin_of, Counted}
use Rattle.layout.specs.Code.UpdateTable.{Sized, Stretch, Numbers}
use Rattle.layout.proofs.UpdateRoom.{room, first-room}

module _ {j : Job} {sizes : List ℕ} (t : Sized j sizes) {i w s e : ℕ} (h : Stretch j i w s e) where
  -- what the code needs of a row of a leaf
  pub record RowFits (p : ℕ) : Type 0 where
    pub few : p < max_rows
    pub some : 1 ≤ get_or sizes p 0
    pub room_for : next_of j w p + 2 * get_or sizes p 0 ≤ max_updates + 1
    pub one_more : length (up_to j w (suc p)) + 1 ≡ length (up_to j w p) + 2 * get_or sizes p 0
    pub begins : begin_of j p ≡ next_of j w p
    pub updates-are : length (row_updates j p) + 1 ≡ 2 * get_or sizes p 0

  pub row_fits : (p : ℕ) → s ≤ p → p < e → RowFits p
  row_fits p a b = record {
    few = omega (arith, low, (matrix_facts j.matrix t.accepted.matrix).few);
    some = omega (arith, t.is p low);
    room_for = omega (arith, more, room j t.accepted w (suc p) h.worker low);
    one_more = more;
    begins = ap (λ (v : ℕ). next_of j v p) (h.mine p a b);
    updates-are = omega (arith, row-length j p, t.is p low);
  }
    where
      low : p < j.matrix.n
      low = omega (arith, h.inside)

      more : length (up_to j w (suc p)) + 1 ≡ length (up_to j w p) + 2 * get_or sizes p 0
      more = omega (arith, cum_own j w p (h.mine p a b), row-length j p, t.is p low)

-- another worker's updates are those before the leaf
pub stretch_other : {j : Job} {i w s e : ℕ} → Stretch j i w s e → (v : ℕ) → v ≢ w → length (up_to j v e) ≡ length (up_to j v s)
stretch_other {j} {i} {w} {s} {e} h v d = cum_const j v s e h.rises (λ q a b y. d (sym y ∙ h.mine q a b))

-- numbers f v, kept at place ix v each: those of w grow, and then they are g v
pub grown_at : (xs : List ℕ) (ix : ℕ → ℕ) → ((v w : ℕ) → ix v ≡ ix w → v ≡ w) → (a : ℕ) (f g : ℕ → ℕ) (m w : ℕ) → ix w < length xs → a ≡ g w → ((v : ℕ) → v ≢ w → g v ≡ f v)
    → ((v : ℕ) → v < m → get_or xs (ix v) 0 ≡ f v) → (v : ℕ) → v < m → get_or (set xs (ix w) a) (ix v) 0 ≡ g v
grown_at xs ix same a f g m w long is other had v l = go (same_or v w)
  where
    go : (v ≡ w) ⊎ (v ≢ w) → get_or (set xs (ix w) a) (ix v) 0 ≡ g v
    go (inl q) = rw q (get_or-set_same xs (ix w) a 0 long ∙ is)
    go (inr d) = get_or-set_other xs (ix w) (ix v) a 0 (λ y. d (same v w y)) ∙ had v l ∙ sym (other v d)

-- ---- leaf by leaf

pub numbers-none : (j : Job) {first : List ℕ} → length first ≡ suc max_workers → ((w : ℕ) → get_or first w 0 ≡ 0) → Numbers j 0 first
unfolding up_to
numbers-none j l z = record { long = l; none = z 0; is = λ w h. z (w + 1) }

pub numbers-leaf : {j : Job} {i w s e : ℕ} → Stretch j i w s e → {first : List ℕ} → Numbers j s first → (r : ℕ) → length (up_to j w s) + r ≡ length (up_to j w e)
    → Numbers j e (set first (w + 1) (get_or first (w + 1) 0 + r))
numbers-leaf {j} {i} {w} {s} {e} h {first} t r more = record {
  long = length-set first (w + 1) (get_or first (w + 1) 0 + r) ∙ t.long;
  none = get_or-set_other first (w + 1) 0 (get_or first (w + 1) 0 + r) 0 (λ (y : 0 ≡ w + 1). omega arith) ∙ t.none;
  is = grown_at first (λ v. v + 1) (λ v u y. omega arith) (get_or first (w + 1) 0 + r) (λ v. length (up_to j v s)) (λ v. length (up_to j v e)) max_workers w
      (omega (arith, t.long, h.worker)) (omega (arith, t.is w h.worker)) (stretch_other h) t.is;
}

-- ---- the sums

-- numbers up to place k are sums, those after it as they were
pub record Summed (old : List ℕ) (k : ℕ) (first : List ℕ) : Type 0 where
  pub long : length first ≡ suc max_workers
  pub sums : (w : ℕ) → w ≤ k → get_or first w 0 ≡ sum_below (λ v. get_or old (v + 1) 0) w
  pub rest : (w : ℕ) → k < w → get_or first w 0 ≡ get_or old w 0

module _ (old : List ℕ) where
  abbrev number : ℕ → ℕ
  number v = get_or old (v + 1) 0

  pub summed_none : length old ≡ suc max_workers → get_or old 0 0 ≡ 0 → Summed old 0 old
  unfolding sum_below
  summed_none l z = record { long = l; sums = λ w h. (let e : w ≡ 0 = omega arith in rw e z); rest = λ w h. refl }

  module _ {k : ℕ} (l : k < max_workers) {first : List ℕ} (t : Summed old k first) where
    -- the next sum
    pub next-sum : get_or first (k + 1) 0 + get_or first k 0 ≡ sum_below number (k + 1)
    unfolding sum_below
    next-sum =
        let e : sum_below number (k + 1) ≡ sum_below number k + get_or old (k + 1) 0 = ap (sum_below number) (add-one k) in
        omega (arith, t.rest (k + 1) (omega arith), t.sums k (omega arith))

    pub next-few : sum_below number max_workers ≤ max_updates → get_or first (k + 1) 0 + get_or first k 0 ≤ max_updates
    next-few h = omega (arith, next-sum, sum-below-up number (k + 1) max_workers (omega arith))

    pub summed_next : Summed old (k + 1) (set first (k + 1) (get_or first (k + 1) 0 + get_or first k 0))
    summed_next = record {
      long = length-set first (k + 1) (get_or first (k + 1) 0 + get_or first k 0) ∙ t.long;
      sums = λ w h. go w h (same_or w (k + 1));
      rest = λ w h. get_or-set_other first (k + 1) w (get_or first (k + 1) 0 + get_or first k 0) 0 (λ (y : w ≡ k + 1). omega arith) ∙ t.rest w (omega arith);
    }
      where
        go : (w : ℕ) → w ≤ k + 1 → (w ≡ k + 1) ⊎ (w ≢ k + 1) → get_or (set first (k + 1) (get_or first (k + 1) 0 + get_or first k 0)) w 0 ≡ sum_below number w
        go w h (inl e) = rw e (get_or-set_same first (k + 1) (get_or first (k + 1) 0 + get_or first k 0) 0 (omega (arith, t.long)) ∙ next-sum)
        go w h (inr d) = get_or-set_other first (k + 1) w (get_or first (k + 1) 0 + get_or first k 0) 0 d ∙ t.sums w (omega (arith, d))

-- the sums of all numbers are where the workers' updates begin
module _ {j : Job} {numbers : List ℕ} (t : Numbers j j.matrix.n numbers) where
  numbers-first : (w : ℕ) → w ≤ max_workers → sum_below (λ v. get_or numbers (v + 1) 0) w ≡ first_of j w
  unfolding updates
  numbers-first w l = sum-below-same (λ v. get_or numbers (v + 1) 0) (λ v. length (updates j v)) w (λ v h. t.is v (omega arith))

  pub numbers-few : Accepted j → sum_below (λ v. get_or numbers (v + 1) 0) max_workers ≤ max_updates
  numbers-few ok = omega (arith, numbers-first max_workers (omega arith), first-room j ok max_workers (omega arith))

  pub counted_of : {first : List ℕ} → (length first ≡ suc max_workers) × ((w : ℕ) → w ≤ max_workers → get_or first w 0 ≡ sum_below (λ v. get_or numbers (v + 1) 0) w) → Counted j first
  counted_of h = record { long = h.0; is = λ w l. h.1 w l ∙ numbers-first w l }
