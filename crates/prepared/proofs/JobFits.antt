-- The lists of an accepted job fit a prepared list.
use mathlib.Core.Path.{◌≡◌, refl, ◌∙◌}
use mathlib.Core.Bool.{Bool, true, false, cond}
use mathlib.Core.List.{List, [], ◌∷◌, map}
use Prim.Native.Nat.{ℕ, zero, suc, ◌+◌, ◌*◌, ◌-◌, ◌^◌, ◌≤◌, ◌<◌, max}
use native.Mathlib.Omega.{arith}
use lib.Dec.{eqb}
use lib.IntN.{ℤ, pos, negsuc, nat_abs, ◌*ℤ◌}
use lib.ListN.{length-map}
use Rattle.base.specs.Lists.{concat, range, filter, keep, position_of}
use Rattle.base.proofs.Each.{Each, each_append}
use Rattle.base.proofs.Integers.{abs-mul-le}
use Rattle.base.proofs.Lists.{length-range}
use Rattle.matrix.specs.Limits.{max_rows, max_value, max_displacement}
use Rattle.matrix.specs.Matrix.{adjacent, neighbours}
use Rattle.matrix.proofs.Matrix.{matrix_facts, small-entry, small-displacement}
use Rattle.plan.specs.Groups.{Group, red, blue}
use Rattle.plan.specs.Sound.{max_workers, apart, like_apart}
use Rattle.run.specs.Job.{Job, Accepted, row_at}
use Rattle.run.specs.Tree.{Tree, none, node, tree, holds}
use Rattle.run.specs.Updates.{entry_at, displacement_at, later, with_each, row_updates, owner, when, up_to, updates, accesses}
use Rattle.tables.specs.Code.Laid.{first_of}
use Rattle.run.proofs.SoundTree.{tops, Inner, Tiles, Tiled, tiles-le}
use Rattle.run.proofs.Forest.{WholePlan}
use Rattle.run.proofs.Work.{cum, cum_mono}
use Rattle.base.proofs.Pieces.{length_pieces}
use Rattle.layout.proofs.UpdateRoom.{first-room}
use Rattle.run.proofs.Accepted.{facts, tree_of, accesses-small}
use Rattle.words.proofs.Codes.{Holds, HoldsSigned}
use Rattle.prepared.specs.Gates.{last_end, red_end, gate_in, end_in, gate}
use Rattle.prepared.specs.Format.{head_of, lists_of}
use Rattle.prepared.proofs.Gates.{Led, led_plan}
use Rattle.prepared.proofs.TablesOf.{length-even}
use Rattle.prepared.proofs.ReadBack.{HoldsUpdate, Fits}

-- ---- lists

each-map-range : {A : Type 0} (P : A → Type 0) (f : ℕ → A) (k m : ℕ) → ((i : ℕ) → k ≤ i → i < k + m → P (f i)) → Each P (map f (range k m))
each-map-range P f k zero h = tt
each-map-range P f k (suc m) h = (h k (omega arith) (omega arith), each-map-range P f (suc k) m (λ i a b. h i (omega arith) (omega arith)))

each-concat-range : {A : Type 0} (P : A → Type 0) (f : ℕ → List A) (k m : ℕ) → ((i : ℕ) → k ≤ i → i < k + m → Each P (f i)) → Each P (concat (map f (range k m)))
each-concat-range P f k zero h = tt
each-concat-range P f k (suc m) h = each_append P (f k) (concat (map f (range (suc k) m))) (h k (omega arith) (omega arith)) (each-concat-range P f (suc k) m (λ i a b. h i (omega arith) (omega arith)))

each-filter-range : (p : ℕ → Bool) (n k m : ℕ) → k + m ≤ n → Each (λ q. q < n) (filter p (range k m))
each-filter-range p n k zero h = tt
each-filter-range p n k (suc m) h = go (p k) (each-filter-range p n (suc k) m (omega arith))
  where
    go : (b : Bool) → Each (λ q. q < n) (filter p (range (suc k) m)) → Each (λ q. q < n) (keep b k (filter p (range (suc k) m)))
    go true ih = (omega arith, ih)
    go false ih = ih

-- ---- updates

module _ (j : Job) (ok : Accepted j) where
  few-rows : j.matrix.n ≤ max_rows
  few-rows = (matrix_facts j.matrix ok.matrix).few

  product-fits : (p q r : ℕ) → HoldsSigned 8 (entry_at j p q *ℤ displacement_at j r)
  unfolding entry_at displacement_at
  product-fits p q r = go (entry_at j p q *ℤ displacement_at j r)
      (abs-mul-le (entry_at j p q) (displacement_at j r) (small-entry j.matrix ok.matrix (row_at j p) (row_at j q)) (small-displacement j.matrix.n j.displacements ok.displacements (row_at j r)))
    where
      go : (z : ℤ) → nat_abs z ≤ max_value * max_displacement → HoldsSigned 8 z
      go (pos v) h = omega arith
      go (negsuc v) h = omega arith

  fits_with : (p : ℕ) → p < j.matrix.n → (qs : List ℕ) → Each (λ q. q < j.matrix.n) qs → Each HoldsUpdate (with_each j p qs)
  unfolding with_each
  fits_with p l [] h = tt
  fits_with p l (q ∷ qs) h =
      let a = few-rows in
      let b = h.0 in (
        record { amount = product-fits p q q; target = omega arith; row = omega arith },
        (record { amount = product-fits p q p; target = omega arith; row = omega arith }, fits_with p l qs h.1),
      )

  fits-row : (p : ℕ) → p < j.matrix.n → Each HoldsUpdate (row_updates j p)
  unfolding row_updates later
  fits-row p l =
      let a = few-rows in (
        record { amount = product-fits p p p; target = omega arith; row = omega arith },
        fits_with p l (later j p) (each-filter-range (λ q. adjacent j.matrix (row_at j p) (row_at j q)) j.matrix.n (suc p) (j.matrix.n - suc p) (omega arith)),
      )

  fits-when : (b : Bool) (p : ℕ) → p < j.matrix.n → Each HoldsUpdate (when b (row_updates j p))
  unfolding when
  fits-when true p l = fits-row p l
  fits-when false p l = tt

  fits_to : (w e : ℕ) → e ≤ j.matrix.n → Each HoldsUpdate (up_to j w e)
  unfolding up_to
  fits_to w zero l = tt
  fits_to w (suc e) l = each_append HoldsUpdate (up_to j w e) (when (eqb (owner j e) w) (row_updates j e)) (fits_to w e (omega arith)) (fits-when (eqb (owner j e) w) e (omega arith))

  fits_all : Each HoldsUpdate (concat (map (updates j) (range 0 max_workers)))
  unfolding updates
  fits_all = each-concat-range HoldsUpdate (updates j) 0 max_workers (λ w a b. fits_to w j.matrix.n (omega arith))

  -- they are few
  first_small : (w : ℕ) → w ≤ max_workers → first_of j w < 2 ^ 32
  first_small w l = omega (arith, first-room j ok w l)

-- ---- gates

-- every group ends at or before n
abbrev Short : ℕ → Tree → Type 0
Short n none = Unit {0}
Short n (node g below next) = (g.start + g.length ≤ n) × Short n below × Short n next

-- every group's end is at most top
abbrev Low : (end : Group → ℕ) (top : ℕ) → Tree → Type 0
Low end top none = Unit {0}
Low end top (node g below next) = (end g ≤ top) × Low end top below × Low end top next

module _ (adj : ℕ → List ℕ) (order : List ℕ) (n : ℕ) where
  short-tiles : (T : Tree) (s e : ℕ) → Tiles adj order T s e → e ≤ n → Short n T
  short-tiles none s e t h = tt
  short-tiles (node g below next) s e t h =
      let m = tiles-le adj order next (s + g.length) e t.3 in
      (omega arith, inside below (short-tiles below) t.2, short-tiles next (s + g.length) e t.3 h)
    where
      inside : (B : Tree) → ((s e : ℕ) → Tiles adj order B s e → e ≤ n → Short n B) → Inner B (Tiles adj order B g.start (g.start + g.length) × (like_apart (apart adj) order (tops B) ≡ true)) → Short n B
      inside none ih p = tt
      inside (node k kb kn) ih p = ih g.start (g.start + g.length) p.0 (omega (arith, tiles-le adj order next (s + g.length) e t.3))

module _ (end : Group → ℕ) (top v : ℕ) where
  if_low : (b : Bool) (x : ℕ) → x ≤ top → cond b x 0 ≤ top
  if_low true x h = h
  if_low false x h = omega arith

  last-low : (T : Tree) → Low end top T → last_end end v T ≤ top
  unfolding last_end
  last-low none l = omega arith
  last-low (node g none next) l = omega (arith, if_low (eqb g.first v) (end g) l.0, last-low next l.2)
  last-low (node g (node h hb hn) next) l = omega (arith, last-low (node h hb hn) l.1, last-low next l.2)

  red-low : (T : Tree) → Low end top T → red_end end v T ≤ top
  unfolding red_end
  red-low none l = omega arith
  red-low (node g below next) l = omega (arith, if_low (eqb g.colour red) (last_end end v (node g below none)) (last-low (node g below none) (l.0, l.1, tt)), red-low next l.2)

  gate-low : (q : ℕ) (all : Tree) → Low end top all → (T : Tree) → Low end top T → gate_in end v q all T ≤ top
  unfolding gate_in
  gate-low q all a none l = omega arith
  gate-low q all a (node g below next) l =
      let x = if_low (eqb g.colour blue) (red_end end v all) (red-low all a) in
      let y = gate-low q below l.1 below l.1 in
      let z = if_low (holds g q) (max (cond (eqb g.colour blue) (red_end end v all) 0) (gate_in end v q below below)) (omega arith) in
      omega (arith, gate-low q all a next l.2)

module _ (j : Job) (ok : Accepted j) where
  low-tree : (T : Tree) → Led max_workers T → Short j.matrix.n T → Low (end_in j) (2 ^ 32 - 1) T
  unfolding end_in
  low-tree none l s = tt
  low-tree (node g below next) l s =
      (here, low-tree below l.1 s.1, low-tree next l.2 s.2)
    where
      here : 2 * cum j g.first (g.start + g.length) ≤ 2 ^ 32 - 1
      here = omega (arith, cum_mono j g.first (g.start + g.length) j.matrix.n s.0, all)
        where
          all : 2 * cum j g.first j.matrix.n < 2 ^ 32
          all = unfold accesses updates in (accesses-small j ok g.first l.0)

  short-plan : Short j.matrix.n (tree j.plan.groups)
  short-plan = rw W.is (omega (arith, W.start, W.length), go W.below W.under.tiles, tt)
    where
      W : WholePlan j
      W = tree_of j ok

      go : (B : Tree) → Tiled (neighbours j.matrix) j.plan.order W.top B → Short j.matrix.n B
      go none p = tt
      go (node g below next) p = short-tiles (neighbours j.matrix) j.plan.order j.matrix.n (node g below next) W.top.start (W.top.start + W.top.length) p.0 (omega (arith, W.start, W.length))

  gate-small : (q v : ℕ) → gate j q v < 2 ^ 32
  unfolding gate
  gate-small q v =
      let T : Tree = tree j.plan.groups in
      let low = low-tree T (led_plan j (tree_of j ok)) short-plan in
      omega (arith, gate-low (end_in j) (2 ^ 32 - 1) v q T low T low)

  pub job-fits : Fits (lists_of j)
  unfolding lists_of head_of
  job-fits = record {
    few = (facts j ok).few;
    most-long = refl;
    first-long = refl;
    gates-long = length-even (λ q. map (gate j q) (range 0 max_workers)) max_workers (λ q. refl) 0 j.matrix.n;
    places-long = length-map (range 0 j.matrix.n) (position_of j.plan.order) ∙ length-range 0 j.matrix.n;
    head_fits = (
      omega arith,
      (
        omega (arith, few-rows j ok),
        (
          omega (arith, (facts j ok).few),
          (
            rw (length_pieces (updates j) max_workers) (first_small j ok max_workers (omega arith)),
            each_append (Holds 4) (map (accesses j) (range 0 max_workers)) (map (first_of j) (range 0 max_workers))
                (each-map-range (Holds 4) (accesses j) 0 max_workers (λ w a b. accesses-small j ok w (omega arith)))
                (each-map-range (Holds 4) (first_of j) 0 max_workers (λ w a b. first_small j ok w (omega arith))),
          ),
        ),
      ),
    );
    updates_fit = fits_all j ok;
    gates_fit = each-concat-range (Holds 4) (λ q. map (gate j q) (range 0 max_workers)) 0 j.matrix.n (λ q a b. each-map-range (Holds 4) (gate j q) 0 max_workers (λ v c d. gate-small q v));
    places_fit = each-map-range (Holds 4) (position_of j.plan.order) 0 j.matrix.n (λ i a b. omega (arith, ((facts j ok).placed i (omega arith)).0, few-rows j ok));
  }
