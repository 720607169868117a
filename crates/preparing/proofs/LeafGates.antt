-- The gate that the passes have for a leaf is the gate of every position that it holds. Two numbers are equal if the
-- same numbers are below them, and that one is below a gate is a wait.
use mathlib.Core.Path.{◌≡◌, refl, sym, ap, ◌∙◌, subst}
use mathlib.Core.Bool.{Bool, true, false, ◌&&◌, ◌||◌, cond}
use mathlib.Core.List.{List, []}
use Prim.Native.Nat.{ℕ, ◌+◌, ◌<◌, max}
use native.Mathlib.Omega.{arith}
use lib.Dec.{eqb, ltb}
use lib.ListN.{length, get_or, drop, length-drop}
use lib.Seq.{get_or-drop}
use borrow.Author.Tests.{ltb-false, le-ltb}
use Rattle.base.proofs.Booleans.{clash}
use Rattle.plan.specs.Groups.{Group, red, blue, of_fields, records}
use Rattle.plan.specs.Sound.{max_groups}
use Rattle.plan.specs.Code.Checks.{record_at, below_whole}
use Rattle.plan.proofs.FlatRecords.{length-records}
use Rattle.run.specs.Job.{Job, Accepted}
use Rattle.run.specs.Tree.{Tree, none, node, tree, holds, unfinished, red_open, blocked}
use Rattle.tables.specs.Code.Laid.{group_at, Leaf, Laid}
use Rattle.tables.proofs.FlatOpen.{open_reds, red-flat}
use Rattle.tables.proofs.LeafWait.{Forward}
use Rattle.tables.proofs.LeafOwner.{leaf-blocked}
use Rattle.layout.proofs.Reached.{record_get}
use Rattle.waits.specs.Code.Waits.{Recorded}
use Rattle.waits.proofs.Passes.{forward_from}
use Rattle.machine.proofs.BlockedLeaves.{leaf-of, group_at_lem}
use Rattle.prepared.specs.Gates.{last_end, red_end, gate_in, end_in, gate}
use Rattle.prepared.proofs.Gates.{past-either, not-leb}
use Rattle.preparing.specs.Code.Gates.{own_end, Ends, over, Gates}
use Rattle.preparing.proofs.Passes.{above_if}

-- numbers that are above the same numbers
same_number : (a b : ℕ) → ((t : ℕ) → ltb t a ≡ ltb t b) → a ≡ b
same_number a b h = go (ltb a b) refl (ltb b a) refl
  where
    go : (x : Bool) → ltb a b ≡ x → (y : Bool) → ltb b a ≡ y → a ≡ b
    go true e y f = absurd (clash (h a ∙ e) (le-ltb a a (omega arith)))
    go false e true f = absurd (clash (sym (h b) ∙ f) (le-ltb b b (omega arith)))
    go false e false f = omega (arith, ltb-false a b e, ltb-false b a f)

-- ---- in the tree

module _ (end : Group → ℕ) (v t : ℕ) where
  above_last : (T : Tree) → ltb t (last_end end v T) ≡ unfinished (over end v t) T
  unfolding last_end unfinished
  above_last none = le-ltb t 0 (omega arith)
  above_last (node g none next) = past-either t (own_end g.first v (end g)) (last_end end v next) ∙ rw (← not-leb (own_end g.first v (end g)) t, above_last next) refl
  above_last (node g (node h hb hn) next) = past-either t (last_end end v (node h hb hn)) (last_end end v next) ∙ rw (above_last (node h hb hn), above_last next) refl

  above_red : (T : Tree) → ltb t (red_end end v T) ≡ red_open (over end v t) T
  unfolding red_end red_open
  above_red none = le-ltb t 0 (omega arith)
  above_red (node g below next) =
      past-either t (cond (eqb g.colour red) (last_end end v (node g below none)) 0) (red_end end v next)
      ∙ ap (λ (b : Bool). b || ltb t (red_end end v next)) (above_if t (eqb g.colour red) (last_end end v (node g below none)))
      ∙ rw (above_last (node g below none), above_red next) refl

  above_gate : (q : ℕ) (all T : Tree) → ltb t (gate_in end v q all T) ≡ blocked (over end v t) q all T
  unfolding gate_in blocked
  above_gate q all none = le-ltb t 0 (omega arith)
  above_gate q all (node g below next) =
      past-either t (cond (holds g q) (max (cond (eqb g.colour blue) (red_end end v all) 0) (gate_in end v q below below)) 0) (gate_in end v q all next)
      ∙ ap (λ (b : Bool). b || ltb t (gate_in end v q all next))
      (above_if t (holds g q) (max (cond (eqb g.colour blue) (red_end end v all) 0) (gate_in end v q below below))
      ∙ ap (λ (b : Bool). holds g q && b) (past-either t (cond (eqb g.colour blue) (red_end end v all) 0) (gate_in end v q below below)
      ∙ ap (λ (b : Bool). b || ltb t (gate_in end v q below below)) (above_if t (eqb g.colour blue) (red_end end v all))))
      ∙ rw (above_red all, above_gate q below below, above_gate q all next) refl

-- ---- in the flat records of a job

module _ (j : Job) (ok : Accepted j) (count : ℕ) (groups : List ℕ) (is : j.plan.groups ≡ records count groups)
    {first row begins leaves ends : List ℕ} (laid : Laid j first row begins leaves ends) (v : ℕ) (gates : List ℕ) (G : Gates count groups ends v gates) (R : Recorded count groups) where
  -- the table has the ends of its leaves
  ends_are : Ends count groups ends (end_in j)
  unfolding end_in
  ends_are i l h = subst (λ (g : Group). end_in j g ≡ get_or ends i 0) (group_at_lem j ok count groups is i l) (sym (laid.ended i (leaf-of j ok count groups is i l h)))

  module _ (t : ℕ) where
    fin : Group → Bool
    fin = over (end_in j) v t

    opened : ℕ → Bool
    opened up = open_reds fin up 1 (below_whole count groups)

    is_shut : ℕ → Bool
    is_shut i = ltb t (get_or gates i 0)

    red-open : (up : ℕ) → up < max_groups → ltb t (get_or G.reds up 0) ≡ opened up
    unfolding opened fin
    red-open up l = G.ended.is (end_in j) ends_are t up l ∙ red-flat (over (end_in j) v t) up 1 (below_whole count groups)

    start : is_shut 0 ≡ false
    unfolding is_shut
    start = ap (ltb t) G.gated.root ∙ le-ltb t 0 (omega arith)

    pass : Forward opened is_shut 1 (below_whole count groups)
    unfolding is_shut
    pass = forward_from opened is_shut (of_fields []) 1 (below_whole count groups) one
      where
        Entry : ℕ → Group → Type 0
        Entry k g = ltb t (get_or gates (1 + k) 0) ≡ ltb t (get_or gates g.parent 0) || (eqb g.colour blue && opened g.parent)

        one : (k : ℕ) → k < length (below_whole count groups) → Entry k (get_or (below_whole count groups) k (of_fields []))
        one k l =
            let low : 1 + k < count = omega (arith, length-drop 1 (records count groups), length-records count groups) in
            let g : Group = record_at groups (1 + k) in
            subst (Entry k) (sym (get_or-drop 1 (records count groups) k (of_fields []) ∙ record_get count groups (1 + k) (of_fields []) low))
            (ap (ltb t) (G.gated.is (1 + k) (omega arith) low) ∙ past-either t (get_or gates g.parent 0) (cond (eqb g.colour blue) (get_or G.reds g.parent 0) 0)
            ∙ ap (λ (b : Bool). ltb t (get_or gates g.parent 0) || b) (above_if t (eqb g.colour blue) (get_or G.reds g.parent 0)
            ∙ ap (λ (b : Bool). eqb g.colour blue && b) (red-open g.parent (omega (arith, R.parents (1 + k) (omega arith) low, R.few)))))

    shut_is : (i q : ℕ) → Leaf j i → q < j.matrix.n → holds (group_at j i) q ≡ true → ltb t (get_or gates i 0) ≡ ltb t (gate j q v)
    unfolding gate opened fin is_shut
    shut_is i q l low h =
        sym (leaf-blocked j ok.plan (of_fields []) fin q i l low h is_shut start
        (subst (λ (gs : List Group). Forward (λ up. open_reds fin up 1 (drop 1 gs)) is_shut 1 (drop 1 gs)) (sym is) pass))
        ∙ sym (above_gate (end_in j) v t q (tree j.plan.groups) (tree j.plan.groups))

  pub leaf-gate : (i q : ℕ) → Leaf j i → q < j.matrix.n → holds (group_at j i) q ≡ true → get_or gates i 0 ≡ gate j q v
  leaf-gate i q l low h = same_number (get_or gates i 0) (gate j q v) (λ t. shut_is t i q l low h)
