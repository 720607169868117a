-- Going through the children of a colour record by record: what the marks say, and what is left to compare.
use mathlib.Core.Path.{◌≡◌, refl, sym, ap, ◌∙◌, subst}
use mathlib.Core.Bool.{Bool, true, false, ◌&&◌, cond}
use mathlib.Core.List.{List, [], ◌∷◌}
use Prim.Native.Nat.{ℕ, ◌+◌, ◌-◌, ◌/◌, ◌≤◌, ◌<◌}
use native.Mathlib.Omega.{arith}
use lib.ListN.{get_or, take, drop}
use Rattle.std.proofs.Common.{Option, Some, None}
use Rattle.base.specs.Lists.{all, is_in}
use Rattle.base.proofs.Each.{each-of-get}
use Rattle.matrix.specs.Matrix.{Matrix, neighbours}
use Rattle.plan.specs.Groups.{Group, records}
use Rattle.plan.specs.Sound.{max_groups, children, beyond, stretch_of, like_apart}
use Rattle.plan.specs.Code.Checks.{record_at, below_whole, of_colour}
use Rattle.shape.specs.Code.Shape.{index_of, NextChild}
use Rattle.apart.specs.Code.Marks.{around, around_like, Most, Below, Fresh, Compared, UpTo}
use Rattle.matrix.specs.Held.{held}
use Rattle.apart.specs.declared.net.Subject.{Subject}
use Rattle.apart.specs.declared.marks.Marks.{Marks}
use Rattle.plan.proofs.Nested.{children_at, children-over}
use Rattle.shape.proofs.ChildTurns.{from_first_lem}
use Rattle.apart.proofs.RowsOf.{graph_of}
use Rattle.apart.proofs.Overlap.{overlap}
use Rattle.apart.proofs.LikeApart.{clear, clash_above, clear_none, left_apart, Overlaps, colour-stops, colour-next}

module _ (subject : Subject) (parent colour low : ℕ) where
  abbrev m : Matrix
  m = held subject.net.m

  abbrev n : ℕ
  n = m.n

  abbrev order : List ℕ
  order = subject.plan.order.now

  abbrev groups : List ℕ
  groups = subject.plan.groups.now

  abbrev count : ℕ
  count = subject.plan.count

  abbrev k : ℕ
  k = subject.k

  abbrev far : List ℕ → List ℕ → Bool
  far = beyond (neighbours m) k

  -- what is tested of a group, and what it stamps
  abbrev tested : Group → List ℕ
  tested g = around m (k / 2) (stretch_of (take n order) g)

  abbrev stamped : Group → List ℕ
  stamped g = around m (k - k / 2) (stretch_of (take n order) g)

  -- .. of a record, if it has the colour
  abbrev like : (j : ℕ) → Group → List ℕ
  like j g = around_like m (take n order) j colour g

  -- the children from index i on
  abbrev from : ℕ → List Group
  from i = children parent (drop i (records count groups))

  abbrev pub answer : Bool
  answer = like_apart far (take n order) (of_colour colour (children parent (below_whole count groups)))

  -- what is left to compare of some children
  abbrev left : (marks : List ℕ) → List Group → Bool
  left marks ks = left_apart far (take n order) tested low marks (of_colour colour ks)

  -- the children before the next one are compared
  pub record Comparing (s : Marks) (next : Option ℕ) : Type 0 where
    pub past : parent < index_of count next
    pub within : index_of count next ≤ count
    pub child : (c : ℕ) → next ≡ Some c → (c < count) × ((record_at groups c).parent ≡ parent)
    pub fresh : Fresh (low + index_of count next) s
    pub same : answer ≡ left s.given (from (index_of count next))

  pub comparing_first : (s : Marks) (r : Option ℕ) → UpTo low s → NextChild count groups parent (parent + 1) r → Comparing s r
  comparing_first s r u next = record {
    past = omega (arith, next.from_on);
    within = next.within;
    child = next.child;
    fresh = (record { long = u.0.long; below = λ v. omega (arith, u.0.most v, next.from_on) }, record { long = u.1.long; below = λ v. omega (arith, u.1.most v, next.from_on) });
    same = ap (λ (ks : List Group). like_apart far (take n order) (of_colour colour ks)) (from_first_lem count parent groups r subject.shaped.nested next)
        ∙ ap (λ (b : Bool). b && like_apart far (take n order) (of_colour colour (from (index_of count r)))) (sym (all_true (of_colour colour (from (index_of count r)))));
  }
    where
      all_true : (hs : List Group) → all (λ g. clear low s.given (tested g)) hs ≡ true
      all_true [] = refl
      all_true (h ∷ hs) = rw (clear_none low s.given (tested h) u.0.most) (all_true hs)

  module _ (s s' : Marks) (i mine : ℕ) (g : Group) (c : Comparing s (Some i)) (read : g ≡ record_at groups i) (e : mine ≡ low + i) where
    -- the child at i, and those after it
    next-is : from i ≡ g ∷ from (i + 1)
    next-is = let here = c.child i refl in children_at count parent i groups here.0 here.1 ∙ ap (λ (h : Group). h ∷ from (i + 1)) (sym read)

    -- the call's answer on the child at i
    abbrev Answers : Bool → Type 0
    Answers r = Compared low mine (like (k / 2) g) (like (k - k / 2) g) s s' r

    free : (r : Bool) → Answers r → clear low s.given (like (k / 2) g) ≡ r
    free r t = sym (t.free ∙ clash_above low mine s.given (like (k / 2) g) (λ v. omega (arith, c.fresh.0.below v)))

    pub comparing_stops : Answers false → answer ≡ false
    unfolding around_like
    comparing_stops t =
        c.same ∙ ap (left s.given) next-is
        ∙ colour-stops far (take n order) stamped tested low mine (omega (arith, c.past)) colour g (from (i + 1)) s.given (free false t)

    pub comparing_next : (r : Option ℕ) → Answers true → NextChild count groups parent (i + 1) r → Comparing s' r
    unfolding around_like
    comparing_next r t next =
        let m' = t.marked refl in
        let d = t.done refl in
        let rest = from (index_of count r) in
        record {
          past = omega (arith, c.past, next.from_on);
          within = next.within;
          child = next.child;
          fresh = (
            record {
              long = m'.long ∙ c.fresh.0.long;
              below = λ v. subst (λ (x : ℕ). x < low + index_of count r) (sym (m'.is v)) (small (is_in (like (k - k / 2) g) v) (get_or s.given v 0) (c.fresh.0.below v) next.from_on);
            },
            record { long = d.long; below = λ v. omega (arith, d.most v, next.from_on) },
          );
          same = c.same ∙ ap (left s.given) (next-is ∙ ap (λ (ks : List Group). g ∷ ks) next.same)
              ∙ colour-next far (take n order) stamped tested low mine (omega (arith, c.past)) colour g rest s.given s'.given
              (each-of-get (Overlaps far (take n order) stamped tested g) rest g (λ j. overlap m (graph_of m subject.net.graph) k (stretch_of (take n order) g) (stretch_of (take n order) (get_or rest j g))))
              (free true t) m';
        }
      where
        small : (b : Bool) (x : ℕ) → x < low + i → i + 1 ≤ index_of count r → cond b mine x < low + index_of count r
        small true x l a = omega arith
        small false x l a = omega arith

  pub comparing_last : (s : Marks) → Comparing s None → answer ≡ true
  unfolding like_apart
  comparing_last s c = c.same ∙ ap (left s.given) (children-over count parent count groups (omega arith))

  pub comparing_marks : (s : Marks) (next : Option ℕ) → Comparing s next → UpTo (low + max_groups) s
  comparing_marks s next c = (up s.given c.fresh.0, up s.done c.fresh.1)
    where
      up : (xs : List ℕ) → Below (low + index_of count next) xs → Most (low + max_groups) xs
      up xs f = record { long = f.long; most = λ v. omega (arith, f.below v, c.within, subject.shaped.few) }
