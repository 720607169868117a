-- One prepared list serves all movements.
use mathlib.Core.Path.{◌≡◌, refl, sym, ap, ◌∙◌, fun_ext}
use mathlib.Core.Logic.{◌⊎◌, inl, inr, ◌≢◌}
use mathlib.Core.Bool.{Bool, true, false}
use mathlib.Core.List.{List, [], ◌∷◌, ◌++◌, map, append_assoc, append-nil}
use Prim.Native.Nat.{ℕ, zero, suc, ◌+◌, ◌*◌, ◌≤◌, ◌<◌}
use native.Mathlib.Omega.{arith}
use lib.Dec.{eqb}
use lib.ListN.{length, replicate, length-replicate, get_or-replicate}
use lib.IntN.{ℤ, pos, ◌*ℤ◌, *ℤ-one, one}
use borrow.Author.Tests.{eq-eqb, ne_eqb}
use Rattle.base.specs.Lists.{concat, range, all, is_in, sum_below, position_of}
use Rattle.base.specs.Integers.{within}
use Rattle.base.proofs.Booleans.{or_true}
use Rattle.matrix.specs.Matrix.{displacement, are_displacements}
use Rattle.plan.specs.Groups.{Group}
use Rattle.plan.specs.Sound.{max_workers}
use Rattle.run.specs.Job.{Job, Accepted, workers, row_at}
use Rattle.run.specs.Tree.{tree}
use Rattle.run.specs.Updates.{Update, entry_at, displacement_at, later, with_each, row_updates, owner, when, up_to, updates, accesses}
use Rattle.run.specs.Machine.{all_made, over, original, counts_fine, is_state}
use Rattle.run.specs.State.{State}
use Rattle.run.specs.Answers.{force_list}
use Rattle.run.specs.Calls.{state_check, answer_of, answer}
use Rattle.run.proofs.Accepted.{row_below}
use Rattle.run.proofs.RowUpdates.{row-length, later-in}
use Rattle.run.proofs.Work.{cum_suc}
use Rattle.prepared.specs.Gates.{gate_in, end_in, gate}
use Rattle.prepared.specs.Format.{lists_of}
use Rattle.prepared.specs.Movements.{unit, next_target, source_of, times, with_updates, OtherMovement, OtherMovements}

-- ---- the job with movements 1

all_one : (n : ℕ) → all (within 1000000) (replicate n (pos 1)) ≡ true
unfolding within
all_one zero = refl
all_one (suc n) = all_one n

module _ (j : Job) (ok : Accepted j) where
  abbrev u : Job
  u = unit j

  accepted : Accepted u
  unfolding unit are_displacements
  accepted = record {
    matrix = ok.matrix;
    displacements = rw (eq-eqb (length (replicate j.matrix.n (pos 1))) j.matrix.n (length-replicate j.matrix.n (pos 1))) (all_one j.matrix.n);
    plan = ok.plan;
  }

  one_at : (p : ℕ) → p < j.matrix.n → displacement_at u p ≡ pos 1
  unfolding displacement_at displacement unit row_at
  one_at p l = get_or-replicate j.matrix.n (row_at j p) (pos 1) (pos 0) (row_below j ok p l)

  -- an amount of that job, times a movement
  amount : (p r q : ℕ) (y : ℤ) → q < j.matrix.n → (entry_at u p r *ℤ displacement_at u q) *ℤ y ≡ entry_at j p r *ℤ y
  unfolding entry_at unit row_at one
  amount p r q y l = ap (λ (z : ℤ). (entry_at j p r *ℤ z) *ℤ y) (one_at q l) ∙ ap (λ (z : ℤ). z *ℤ y) (*ℤ-one (entry_at j p r))

  later_same : (p : ℕ) → later u p ≡ later j p
  unfolding later unit row_at
  later_same p = refl

  owner-same : (p : ℕ) → owner u p ≡ owner j p
  unfolding owner unit
  owner-same p = refl

  -- ---- the updates of a row

  abbrev x : ℕ → ℤ
  x = displacement_at j

  -- with each of some later rows, and what comes after
  each-times : (p : ℕ) → p < j.matrix.n → (qs : List ℕ) (rest : List Update) → ((q : ℕ) → is_in qs q ≡ true → (p < q) × (q < j.matrix.n))
      → times x p (with_each u p qs ++ rest) ≡ with_each j p qs ++ times x p rest
  unfolding times with_each source_of next_target
  each-times p l [] rest h = refl
  each-times p l (q ∷ qs) rest h =
      let b = h q (rw (eq-eqb q q refl) refl) in
      let d : q ≢ p = λ e. omega arith in
      rw (eq-eqb p p refl, ne_eqb q p d, amount p q q (x q) b.1, amount p q p (x p) l)
      (ap (λ (us : List Update). record { row = p; target = p; amount = entry_at j p q *ℤ x q } ∷ record { row = p; target = q; amount = entry_at j p q *ℤ x p } ∷ us)
      (each-times p l qs rest (λ r m. h r (rw m (or_true (eqb r q))))))

  row-times : (p last : ℕ) → p < j.matrix.n → p ≢ last → (rest : List Update) → times x last (row_updates u p ++ rest) ≡ row_updates j p ++ times x p rest
  unfolding times row_updates source_of
  row-times p last l d rest =
      rw (ne_eqb p last d, amount p p p (x p) l, later_same p)
      (ap (λ (us : List Update). record { row = p; target = p; amount = entry_at j p p *ℤ x p } ∷ us)
      (each-times p l (later j p) rest (λ q m. let b = later-in j p q m in (b.0, b.1))))

  -- ---- the updates of a worker, from position s on

  module _ (k : Job) (w : ℕ) where
    from : (s m : ℕ) → List Update
    from s zero = []
    from s (suc m) = when (eqb (owner k s) w) (row_updates k s) ++ from (suc s) m

    up_from : (s m : ℕ) → up_to k w s ++ from s m ≡ up_to k w (s + m)
    unfolding from up_to
    up_from s zero = append-nil (up_to k w s) ∙ (let e : s ≡ s + 0 = omega arith in ap (up_to k w) e)
    up_from s (suc m) =
        sym (append_assoc (up_to k w s) (when (eqb (owner k s) w) (row_updates k s)) (from (suc s) m)) ∙ up_from (suc s) m ∙ (let e : suc s + m ≡ s + suc m = omega arith in ap (up_to k w) e)

    all_from : updates k w ≡ from 0 k.matrix.n
    unfolding updates up_to
    all_from = sym (up_from 0 k.matrix.n ∙ (let e : 0 + k.matrix.n ≡ k.matrix.n = omega arith in ap (up_to k w) e))

  from-times : (w s m last : ℕ) → s + m ≡ j.matrix.n → (last < s) ⊎ (j.matrix.n ≤ last) → times x last (from u w s m) ≡ from j w s m
  unfolding from times when
  from-times w s zero last e h = refl
  from-times w s (suc m) last e h = rw (owner-same s) (go (eqb (owner j s) w) (from-times w (suc s) m))
    where
      apart : s ≢ last
      apart = not_last h
        where
          not_last : (last < s) ⊎ (j.matrix.n ≤ last) → s ≢ last
          not_last (inl y) z = omega arith
          not_last (inr y) z = omega arith

      on : (last < suc s) ⊎ (j.matrix.n ≤ last)
      on = further h
        where
          further : (last < s) ⊎ (j.matrix.n ≤ last) → (last < suc s) ⊎ (j.matrix.n ≤ last)
          further (inl y) = inl (omega arith)
          further (inr y) = inr y

      go : (b : Bool) → ((l : ℕ) → suc s + m ≡ j.matrix.n → (l < suc s) ⊎ (j.matrix.n ≤ l) → times x l (from u w (suc s) m) ≡ from j w (suc s) m)
          → times x last (when b (row_updates u s) ++ from u w (suc s) m) ≡ when b (row_updates j s) ++ from j w (suc s) m
      go true ih = row-times s last (omega arith) apart (from u w (suc s) m) ∙ ap (λ (us : List Update). row_updates j s ++ us) (ih s (omega arith) (inl (omega arith)))
      go false ih = ih last (omega arith) on

  ones_from : (w : ℕ) → updates u w ≡ from u w 0 j.matrix.n
  unfolding unit
  ones_from w = all_from u w

  multiplied : (w : ℕ) → updates j w ≡ times x j.matrix.n (updates u w)
  multiplied w = all_from j w ∙ sym (from-times w 0 j.matrix.n j.matrix.n (omega arith) (inr (omega arith))) ∙ ap (times x j.matrix.n) (sym (ones_from w))

  -- ---- what does not depend on movements

  length-when : (b : Bool) (us vs : List Update) → length us ≡ length vs → length (when b us) ≡ length (when b vs)
  unfolding when
  length-when true us vs e = e
  length-when false us vs e = refl

  long_same : (w e : ℕ) → length (up_to u w e) ≡ length (up_to j w e)
  unfolding up_to
  long_same w zero = refl
  long_same w (suc e) =
      cum_suc u w e ∙ rw (long_same w e, owner-same e)
      (ap (λ (n : ℕ). length (up_to j w e) + n) (length-when (eqb (owner j e) w) (row_updates u e) (row_updates j e) (row-length u e ∙ rw (later_same e) (sym (row-length j e)))))
      ∙ sym (cum_suc j w e)

  all-long : (w : ℕ) → length (updates u w) ≡ length (updates j w)
  unfolding updates unit
  all-long w = long_same w j.matrix.n

  accesses-same : (w : ℕ) → accesses u w ≡ accesses j w
  unfolding accesses
  accesses-same w = ap (λ (n : ℕ). 2 * n) (all-long w)

  ends_same : end_in u ≡ end_in j
  unfolding end_in
  ends_same = fun_ext (λ g. ap (λ (n : ℕ). 2 * n) (long_same g.first (g.start + g.length)))

  gate_same : gate u ≡ gate j
  unfolding gate unit
  gate_same = fun_ext (λ q. fun_ext (λ v. ap (λ (end : Group → ℕ). gate_in end v q (tree j.plan.groups) (tree j.plan.groups)) ends_same))

  abbrev long_of : Job → ℕ → ℕ
  long_of k w = length (updates k w)

  abbrev works_of : ℕ → List Update
  works_of w = times x j.matrix.n (updates u w)

  lists : lists_of j ≡ with_updates (lists_of u) (concat (map works_of (range 0 max_workers)))
  unfolding lists_of with_updates unit workers
  lists = λ i. record {
    rows = j.matrix.n;
    crew = workers j;
    most = map (sym most-are i) (range 0 max_workers);
    first = map (sum_below (sym longs i)) (range 0 max_workers);
    updates = concat (map (works i) (range 0 max_workers));
    gates = concat (map (λ q. map (sym gate_same i q) (range 0 max_workers)) (range 0 j.matrix.n));
    places = map (position_of j.plan.order) (range 0 j.matrix.n);
  }
    where
      most-are : accesses u ≡ accesses j
      most-are = fun_ext accesses-same

      longs : long_of u ≡ long_of j
      longs = fun_ext all-long

      works : updates j ≡ works_of
      works = fun_ext multiplied

  -- ---- the force list

  made-same : (made : List ℕ) (k : ℕ) → all_made u made k ≡ all_made j made k
  unfolding all_made
  made-same made zero = refl
  made-same made (suc k) = rw (accesses-same k, made-same made k) refl

  fine-same : (made : List ℕ) (k : ℕ) → counts_fine u made k ≡ counts_fine j made k
  unfolding counts_fine
  fine-same made zero = refl
  fine-same made (suc k) = rw (accesses-same k, fine-same made k) refl

  forced : (s : State) (room : ℕ) → answer u s (force_list room) ≡ answer j s (force_list room)
  unfolding answer answer_of state_check is_state over original unit workers
  forced s room = rw (made-same s.made (workers j), fine-same s.made max_workers) refl

  other_movement : OtherMovement j
  other_movement = record { accepted = accepted; multiplied = multiplied; lists = lists; forced = forced }

-- the theorem
pub other-movements : OtherMovements
other-movements = record { every = other_movement }
