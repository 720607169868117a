-- One turn of each pass over the flat records by which the gates of a worker are found.
use mathlib.Core.Path.{◌≡◌, refl, sym, ap, ◌∙◌, subst}
use mathlib.Core.Logic.{◌⊎◌, inl, inr, ◌≢◌}
use mathlib.Core.Bool.{Bool, true, false, not, ◌&&◌, ◌||◌, cond}
use mathlib.Core.List.{List, [], ◌∷◌}
use Prim.Native.Nat.{ℕ, suc, ◌+◌, ◌-◌, ◌≤◌, ◌<◌, max}
use native.Mathlib.Omega.{arith}
use lib.Dec.{eqb, ltb}
use lib.ListN.{length, get_or, set, drop, replicate, length-set, length-replicate}
use lib.Seq.{get_or-set_same, get_or-set_other}
use borrow.Author.Tests.{eq-eqb, ne_eqb, le-ltb}
use Rattle.base.specs.Lists.{bit}
use Rattle.base.proofs.Booleans.{same_or}
use Rattle.base.proofs.Lists.{get_d_zeros}
use Rattle.plan.specs.Groups.{Group, red, records}
use Rattle.plan.specs.Sound.{max_groups}
use Rattle.plan.specs.Code.Checks.{record_at, below_whole}
use Rattle.plan.proofs.FlatRecords.{records_at, records-none}
use Rattle.tables.specs.Code.Laid.{has_child}
use Rattle.tables.proofs.FlatOpen.{open_children, open_at, open_reds, red-flat}
use Rattle.waits.specs.Code.Waits.{Recorded}
use Rattle.waits.proofs.Passes.{child-start, open_start, red-start, child-turn, open_turn, red-turn}
use Rattle.prepared.proofs.Gates.{past-either, not-leb}
use Rattle.preparing.specs.Code.Gates.{own_end, last_if, red_last, gate_if, Ends, over, RedEnds, Gated}

-- a number that counts only under a test
pub above_if : (t : ℕ) (b : Bool) (x : ℕ) → ltb t (cond b x 0) ≡ b && ltb t x
above_if t true x = refl
above_if t false x = le-ltb t 0 (omega arith)

-- ---- backwards

module _ (count : ℕ) (groups ends : List ℕ) (v : ℕ) where
  abbrev gs : List Group
  gs = records count groups

  -- what the tables have for the group at index up, of the records from index i on
  pub record Found (end : Group → ℕ) (t i : ℕ) (parents lasts reds : List ℕ) (up : ℕ) : Type 0 where
    pub is_parent : get_or parents up 0 ≡ bit (has_child up (drop i gs))
    pub last : ltb t (get_or lasts up 0) ≡ open_children (over end v t) up i (drop i gs)
    pub last_red : ltb t (get_or reds up 0) ≡ open_reds (over end v t) up i (drop i gs)

  pub record Backward (i : ℕ) (parents lasts reds : List ℕ) : Type 0 where
    pub parents-long : length parents ≡ max_groups
    pub lasts_long : length lasts ≡ max_groups
    pub reds-long : length reds ≡ max_groups
    pub found : (end : Group → ℕ) → Ends count groups ends end → (t up : ℕ) → up < max_groups → Found end t i parents lasts reds up

  -- no record is treated
  pub backward_none : Backward count (replicate max_groups 0) (replicate max_groups 0) (replicate max_groups 0)
  backward_none = record {
    parents-long = length-replicate {A = ℕ} max_groups 0;
    lasts_long = length-replicate {A = ℕ} max_groups 0;
    reds-long = length-replicate {A = ℕ} max_groups 0;
    found = λ end e t up l. (record {
      is_parent = get_d_zeros max_groups up ∙ sym (ap (λ (hs : List Group). bit (has_child up hs)) none ∙ ap bit (child-start (over end v t) up count));
      last = nothing t up ∙ sym (ap (open_children (over end v t) up count) none ∙ open_start (over end v t) up count);
      last_red = nothing t up ∙ sym (ap (open_reds (over end v t) up count) none ∙ red-start (over end v t) up count);
    });
  }
    where
      none : drop count gs ≡ []
      none = records-none count count groups (omega arith)

      nothing : (t up : ℕ) → ltb t (get_or (replicate max_groups 0) up 0) ≡ false
      nothing t up = le-ltb t (get_or (replicate max_groups 0) up 0) (omega (arith, get_d_zeros max_groups up))

  -- the record g before index i
  module _ (R : Recorded count groups) (i : ℕ) (some : 1 < i) (within : i ≤ count) (g : Group) (is : g ≡ record_at groups (i - 1)) where
    abbrev k : ℕ
    k = i - 1

    abbrev rest : List Group
    rest = drop (suc k) gs

    split : drop k gs ≡ g ∷ rest
    split = records_at count k groups (omega arith) ∙ ap (λ (h : Group). h ∷ rest) (sym is)

    -- its last end, by the numbers that the tables have
    last-is : (end : Group → ℕ) → Ends count groups ends end → (t : ℕ) (parents lasts reds : List ℕ) → Found end t (suc k) parents lasts reds k
        → ltb t (last_if (get_or parents k 0) (get_or lasts k 0) (own_end g.first v (get_or ends k 0))) ≡ open_at (over end v t) k g rest
    last-is end e t parents lasts reds f = rw f.is_parent (go (has_child k rest) refl)
      where
        go : (b : Bool) → has_child k rest ≡ b
            → ltb t (cond (eqb (bit b) 0) (own_end g.first v (get_or ends k 0)) (get_or lasts k 0)) ≡ cond b (open_children (over end v t) k (suc k) rest) (not (over end v t g))
        go true h = f.last
        go false h =
            ap (λ (x : ℕ). ltb t (own_end g.first v x)) (sym (subst (λ (y : Group). end y ≡ get_or ends k 0) (sym is) (e k (omega arith) h))) ∙ sym (not-leb (own_end g.first v (end g)) t)

    -- the tables of its parent take it up
    pub backward_next : (parents lasts reds : List ℕ) (o r x y : ℕ) → o ≡ last_if (get_or parents k 0) (get_or lasts k 0) (own_end g.first v (get_or ends k 0)) → r ≡ red_last g.colour o
        → x ≡ max o (get_or lasts g.parent 0) → y ≡ max r (get_or reds g.parent 0)
        → Backward i parents lasts reds → Backward k (set parents g.parent 1) (set lasts g.parent x) (set reds g.parent y)
    backward_next parents lasts reds o r x y eo er ex ey b = record {
      parents-long = length-set parents g.parent 1 ∙ b.parents-long;
      lasts_long = length-set lasts g.parent x ∙ b.lasts_long;
      reds-long = length-set reds g.parent y ∙ b.reds-long;
      found = λ end e t up l. at end e t up l (same_or up g.parent);
    }
      where
        before : (end : Group → ℕ) → Ends count groups ends end → (t up : ℕ) → up < max_groups → Found end t (suc k) parents lasts reds up
        before end e t up l = let s : i ≡ suc k = omega arith in subst (λ (y : ℕ). Found end t y parents lasts reds up) s (b.found end e t up l)

        here : (end : Group → ℕ) → Ends count groups ends end → (t : ℕ) → ltb t o ≡ open_at (over end v t) k g rest
        here end e t = ap (ltb t) eo ∙ last-is end e t parents lasts reds (before end e t k (omega (arith, R.few)))

        at : (end : Group → ℕ) → Ends count groups ends end → (t up : ℕ) → up < max_groups → (up ≡ g.parent) ⊎ (up ≢ g.parent)
            → Found end t k (set parents g.parent 1) (set lasts g.parent x) (set reds g.parent y) up
        at end e t up l (inl q) =
            let f = before end e t up l in
            let fin : Group → Bool = over end v t in
            let s : eqb g.parent up ≡ true = eq-eqb g.parent up (sym q) in
            let O : Bool = open_at fin k g rest in
            let lx : ltb t x ≡ O || open_children fin up (suc k) rest =
            ap (ltb t) ex ∙ past-either t o (get_or lasts g.parent 0) ∙ rw (here end e t) (ap (λ (z : ℕ). O || ltb t (get_or lasts z 0)) (sym q) ∙ ap (λ (z : Bool). O || z) f.last) in
            let ly : ltb t y ≡ (eqb g.colour red && O) || open_reds fin up (suc k) rest =
            ap (ltb t) ey ∙ past-either t r (get_or reds g.parent 0)
            ∙ ap (λ (z : Bool). z || ltb t (get_or reds g.parent 0)) (ap (ltb t) er ∙ above_if t (eqb g.colour red) o ∙ ap (λ (z : Bool). eqb g.colour red && z) (here end e t))
            ∙ ap (λ (z : ℕ). (eqb g.colour red && O) || ltb t (get_or reds z 0)) (sym q) ∙ ap (λ (z : Bool). (eqb g.colour red && O) || z) f.last_red in record {
              is_parent = subst (λ (y : ℕ). get_or (set parents y 1) up 0 ≡ 1) q (get_or-set_same parents up 1 0 (omega (arith, b.parents-long)))
                  ∙ sym (ap (λ (hs : List Group). bit (has_child up hs)) split ∙ ap bit (child-turn fin up k g rest) ∙ rw s);
              last = ap (ltb t) (subst (λ (z : ℕ). get_or (set lasts z x) up 0 ≡ x) q (get_or-set_same lasts up x 0 (omega (arith, b.lasts_long)))) ∙ lx ∙ sym (ap (open_children fin up k) split ∙ open_turn fin up k g rest ∙ rw s);
              last_red = ap (ltb t) (subst (λ (z : ℕ). get_or (set reds z y) up 0 ≡ y) q (get_or-set_same reds up y 0 (omega (arith, b.reds-long)))) ∙ ly ∙ sym (ap (open_reds fin up k) split ∙ red-turn fin up k g rest ∙ rw s);
            }
        at end e t up l (inr d) =
            let f = before end e t up l in
            let fin : Group → Bool = over end v t in
            let s : eqb g.parent up ≡ false = ne_eqb g.parent up (λ q. d (sym q)) in record {
              is_parent = get_or-set_other parents g.parent up 1 0 d ∙ f.is_parent ∙ sym (ap (λ (hs : List Group). bit (has_child up hs)) split ∙ ap bit (child-turn fin up k g rest) ∙ rw s);
              last = ap (ltb t) (get_or-set_other lasts g.parent up x 0 d) ∙ f.last ∙ sym (ap (open_children fin up k) split ∙ open_turn fin up k g rest ∙ rw s);
              last_red = ap (ltb t) (get_or-set_other reds g.parent up y 0 d) ∙ f.last_red ∙ sym (ap (open_reds fin up k) split ∙ red-turn fin up k g rest ∙ rw s);
            }

  -- all are
  pub backward_all : (i : ℕ) → i ≡ 1 → (parents lasts reds : List ℕ) → Backward i parents lasts reds → RedEnds count groups ends v reds
  backward_all i e parents lasts reds b = record {
    long = b.reds-long;
    is = λ end f t up l. subst (λ (k : ℕ). ltb t (get_or reds up 0) ≡ open_reds (over end v t) up k (drop k gs)) e (b.found end f t up l).last_red ∙ sym (red-flat (over end v t) up 1 (below_whole count groups));
  }

-- ---- forwards

-- only the whole is treated
pub gated-none : (groups reds : List ℕ) → Gated 1 groups reds (replicate max_groups 0)
gated-none groups reds = record { long = length-replicate {A = ℕ} max_groups 0; root = get_d_zeros max_groups 0; is = λ i a b. absurd (omega arith) }

-- one record more: its gate is made of its parent's, which stands before it
module _ (count : ℕ) (groups : List ℕ) (R : Recorded count groups) (i : ℕ) (g : Group) (is : g ≡ record_at groups i) (some : 1 ≤ i) (within : i < count) where
  pub gated-next : (reds gates : List ℕ) (x : ℕ) → x ≡ gate_if (get_or gates g.parent 0) g.colour (get_or reds g.parent 0) → Gated i groups reds gates → Gated (i + 1) groups reds (set gates i x)
  gated-next reds gates x e p = record {
    long = length-set gates i x ∙ p.long;
    root = same 0 (λ q. omega arith) ∙ p.root;
    is = λ k a b. at k a b (same_or k i);
  }
    where
      new : List ℕ
      new = set gates i x

      same : (k : ℕ) → k ≢ i → get_or new k 0 ≡ get_or gates k 0
      same k d = get_or-set_other gates i k x 0 d

      parent : (k : ℕ) → 1 ≤ k → k < i + 1 → get_or new (record_at groups k).parent 0 ≡ get_or gates (record_at groups k).parent 0
      parent k a b = same (record_at groups k).parent (λ q. omega (arith, R.parents k a (omega arith)))

      value : ℕ → ℕ → ℕ
      value k above = gate_if above (record_at groups k).colour (get_or reds (record_at groups k).parent 0)

      here : x ≡ value i (get_or gates (record_at groups i).parent 0)
      here = subst (λ (h : Group). x ≡ gate_if (get_or gates h.parent 0) h.colour (get_or reds h.parent 0)) is e

      at : (k : ℕ) → 1 ≤ k → k < i + 1 → (k ≡ i) ⊎ (k ≢ i) → get_or new k 0 ≡ value k (get_or new (record_at groups k).parent 0)
      at k a b (inl q) =
          ap (λ (y : ℕ). get_or new y 0) q ∙ get_or-set_same gates i x 0 (omega (arith, p.long, R.few)) ∙ here
          ∙ subst (λ (y : ℕ). value i (get_or gates (record_at groups i).parent 0) ≡ value y (get_or gates (record_at groups y).parent 0)) (sym q) refl ∙ ap (value k) (sym (parent k a b))
      at k a b (inr d) = same k d ∙ p.is k a (omega arith) ∙ ap (value k) (sym (parent k a b))
