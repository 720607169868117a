-- The numbers of a head, one more.
use mathlib.Core.Path.{◌≡◌, sym, ap, ◌∙◌}
use mathlib.Core.Logic.{◌⊎◌, inl, inr, ◌≢◌}
use mathlib.Core.List.{List, map}
use Prim.Native.Nat.{ℕ, ◌+◌, ◌*◌, ◌≤◌, ◌<◌}
use native.Mathlib.Omega.{arith}
use lib.ListN.{length, get_or, set, take, length-set, length-map}
use lib.Seq.{get_or-set_same, get_or-set_other, get_or-take, length-take-le, ext_get_or}
use Rattle.base.specs.Lists.{range, position_of}
use Rattle.base.proofs.Booleans.{same_or}
use Rattle.base.proofs.Lists.{length-range, map-range-zero}
use Rattle.base.proofs.Positions.{position_at}
use Rattle.matrix.specs.Limits.{max_rows}
use Rattle.plan.specs.Sound.{max_workers}
use Rattle.plan.proofs.Once.{Once}
use Rattle.tables.specs.Code.Laid.{updates_in}
use Rattle.prepared.specs.Format.{mark}
use Rattle.upper.specs.Code.Upper.{Positions}
use Rattle.preparing.specs.Code.Rows.{HeadTo}

-- ---- positions

-- where each row stands, by an order that has each row once
pub positions-all : (n : ℕ) (order : List ℕ) → Once n order → n ≤ max_rows → (new : List ℕ) → Positions n order new → take n new ≡ map (position_of order) (range 0 n)
positions-all n order once few new s =
    let long : length (take n new) ≡ n = length-take-le n new (omega (arith, s.long)) in
    ext_get_or 0 (take n new) (map (position_of order) (range 0 n)) (long ∙ sym (length-map (range 0 n) (position_of order) ∙ length-range 0 n)) (λ i l. at i (omega (arith, long)))
  where
    at : (i : ℕ) → i < n → get_or (take n new) i 0 ≡ get_or (map (position_of order) (range 0 n)) i 0
    at i l =
        let p = position_at order i (once.member i l) in
        get_or-take n new i 0 l ∙ ap (λ (y : ℕ). get_or new y 0) (sym p.1) ∙ s.is (position_of order i) (omega (arith, p.0, once.long)) ∙ sym (map-range-zero (position_of order) n i 0 l)

-- ---- the head

module _ (n workers : ℕ) (first : List ℕ) where
  -- the first four numbers
  pub head_none : (head : List ℕ) → length head ≡ 36 → HeadTo 0 n workers first (set (set (set (set head 0 mark) 1 n) 2 workers) 3 (get_or first max_workers 0))
  head_none head e =
      let a : List ℕ = set head 0 mark in
      let b : List ℕ = set a 1 n in
      let c : List ℕ = set b 2 workers in
      let f : ℕ = get_or first max_workers 0 in
      let al : length a ≡ 36 = length-set head 0 mark ∙ e in
      let bl : length b ≡ 36 = length-set a 1 n ∙ al in
      let cl : length c ≡ 36 = length-set b 2 workers ∙ bl in
      record {
        long = length-set c 3 f ∙ cl;
        mark_is = get_or-set_other c 3 0 f 0 (λ q. omega arith) ∙ get_or-set_other b 2 0 workers 0 (λ q. omega arith) ∙ get_or-set_other a 1 0 n 0 (λ q. omega arith) ∙ get_or-set_same head 0 mark 0 (omega arith);
        rows_are = get_or-set_other c 3 1 f 0 (λ q. omega arith) ∙ get_or-set_other b 2 1 workers 0 (λ q. omega arith) ∙ get_or-set_same a 1 n 0 (omega arith);
        crew_is = get_or-set_other c 3 2 f 0 (λ q. omega arith) ∙ get_or-set_same b 2 workers 0 (omega arith);
        count_is = get_or-set_same c 3 f 0 (omega arith);
        most_is = λ w l. absurd (omega arith);
        first_is = λ w l. absurd (omega arith);
      }

  -- the two of one worker more
  pub head_next : (k x : ℕ) (head : List ℕ) → k < max_workers → x ≡ 2 * updates_in first k → HeadTo k n workers first head → HeadTo (k + 1) n workers first (set (set head (4 + k) x) (20 + k) (get_or first k 0))
  head_next k x head l e h = record {
    long = length-set a (20 + k) f ∙ al;
    mark_is = same 0 (omega arith) ∙ h.mark_is;
    rows_are = same 1 (omega arith) ∙ h.rows_are;
    crew_is = same 2 (omega arith) ∙ h.crew_is;
    count_is = same 3 (omega arith) ∙ h.count_is;
    most_is = λ w m. most w m (same_or w k);
    first_is = λ w m. firsts w m (same_or w k);
  }
    where
      f : ℕ
      f = get_or first k 0

      a : List ℕ
      a = set head (4 + k) x

      al : length a ≡ 36
      al = length-set head (4 + k) x ∙ h.long

      same : (i : ℕ) → i < 4 → get_or (set a (20 + k) f) i 0 ≡ get_or head i 0
      same i m = get_or-set_other a (20 + k) i f 0 (λ q. omega arith) ∙ get_or-set_other head (4 + k) i x 0 (λ q. omega arith)

      most : (w : ℕ) → w < k + 1 → (w ≡ k) ⊎ (w ≢ k) → get_or (set a (20 + k) f) (4 + w) 0 ≡ 2 * updates_in first w
      most w m (inl q) = get_or-set_other a (20 + k) (4 + w) f 0 (λ q. omega arith) ∙ ap (λ (y : ℕ). get_or a (4 + y) 0) q ∙ get_or-set_same head (4 + k) x 0 (omega (arith, h.long)) ∙ e ∙ ap (λ (y : ℕ). 2 * updates_in first y) (sym q)
      most w m (inr d) = get_or-set_other a (20 + k) (4 + w) f 0 (λ q. omega arith) ∙ get_or-set_other head (4 + k) (4 + w) x 0 (λ q. d (omega arith)) ∙ h.most_is w (omega arith)

      firsts : (w : ℕ) → w < k + 1 → (w ≡ k) ⊎ (w ≢ k) → get_or (set a (20 + k) f) (20 + w) 0 ≡ get_or first w 0
      firsts w m (inl q) = ap (λ (y : ℕ). get_or (set a (20 + k) f) (20 + y) 0) q ∙ get_or-set_same a (20 + k) f 0 (omega (arith, al)) ∙ ap (λ (y : ℕ). get_or first y 0) (sym q)
      firsts w m (inr d) = get_or-set_other a (20 + k) (20 + w) f 0 (λ q. d (omega arith)) ∙ get_or-set_other head (4 + k) (20 + w) x 0 (λ q. omega arith) ∙ h.first_is w (omega arith)
