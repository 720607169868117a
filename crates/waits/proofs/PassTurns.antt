-- One turn of each pass over the flat records by which the code finds who waits.
use mathlib.Core.Path.{◌≡◌, refl, sym, ap, ◌∙◌, subst}
use mathlib.Core.Logic.{◌⊎◌, inl, inr, ◌≢◌}
use mathlib.Core.Bool.{Bool, true, false, not, ◌&&◌, ◌||◌, cond}
use mathlib.Core.List.{List, [], ◌∷◌}
use Prim.Native.Nat.{ℕ, zero, suc, ◌+◌, ◌-◌, ◌≤◌, ◌<◌}
use native.Mathlib.Omega.{arith}
use lib.Dec.{eqb, ltb, leb}
use lib.ListN.{length, get_or, set, drop, replicate, length-set, length-replicate}
use lib.Seq.{get_or-set_same, get_or-set_other}
use borrow.Author.Tests.{eq-eqb, ne_eqb, ltb-true, ltb-false, leb-true, leb-false, lt-ltb, le-ltb}
use Rattle.base.proofs.Booleans.{same_or}
use Rattle.plan.specs.Groups.{Group, records}
use Rattle.plan.specs.Sound.{max_workers, max_groups}
use Rattle.plan.specs.Code.Checks.{record_at, below_whole}
use Rattle.plan.proofs.FlatRecords.{records_at, records-none}
use Rattle.tables.specs.Code.Laid.{has_child}
use Rattle.waits.specs.Code.Waits.{Recorded, Ended, open_if, open_red, blocked_if, next_end, OpenReds, Passed, Ahead}
use Rattle.tables.proofs.FlatOpen.{open_children, open_at, open_reds, red-flat}
use Rattle.waits.proofs.Passes.{child-start, open_start, red-start, child-turn, open_turn, red-turn}

-- ---- one record

not-reached : (end made : ℕ) → not (leb end made) ≡ ltb made end
not-reached end made = go (leb end made) refl
  where
    go : (t : Bool) → leb end made ≡ t → not t ≡ ltb made end
    go true e = sym (le-ltb made end (leb-true end made e))
    go false e = sym (lt-ltb made end (leb-false end made e))

-- ---- backwards

-- nobody is marked
unmarked : (n k : ℕ) → get_or (replicate n false) k false ≡ false
unmarked zero k = refl
unmarked (suc n) zero = refl
unmarked (suc n) (suc k) = unmarked n k

-- one is: the others stay as they are
module _ (xs : List Bool) (p k : ℕ) (l : p < length xs) where
  marked : get_or (set xs p true) k false ≡ eqb p k || get_or xs k false
  marked = go (same_or k p)
    where
      go : (k ≡ p) ⊎ (k ≢ p) → get_or (set xs p true) k false ≡ eqb p k || get_or xs k false
      go (inl e) = rw (e, eq-eqb p p refl) (get_or-set_same xs p true false l)
      go (inr d) = rw (ne_eqb p k (λ q. d (sym q))) (get_or-set_other xs p k true false d)

  -- .. if v
  marked-if : (v : Bool) → get_or (set xs p (get_or xs p false || v)) k false ≡ (eqb p k && v) || get_or xs k false
  marked-if v = go (same_or k p)
    where
      turned : (a b : Bool) → a || b ≡ b || a
      turned true true = refl
      turned true false = refl
      turned false true = refl
      turned false false = refl

      go : (k ≡ p) ⊎ (k ≢ p) → get_or (set xs p (get_or xs p false || v)) k false ≡ (eqb p k && v) || get_or xs k false
      go (inl e) = rw (e, eq-eqb p p refl) (get_or-set_same xs p (get_or xs p false || v) false l ∙ turned (get_or xs p false) v)
      go (inr d) = rw (ne_eqb p k (λ q. d (sym q))) (get_or-set_other xs p k (get_or xs p false || v) false d)

module _ (count : ℕ) (groups ends made : List ℕ) where
  abbrev gs : List Group
  gs = records count groups

  -- what the tables have for the group at index up, of the records from index i on
  pub record Found (fin : Group → Bool) (i : ℕ) (parents opens reds : List Bool) (up : ℕ) : Type 0 where
    pub is_parent : get_or parents up false ≡ has_child up (drop i gs)
    pub is_open : get_or opens up false ≡ open_children fin up i (drop i gs)
    pub has_red : get_or reds up false ≡ open_reds fin up i (drop i gs)

  pub record Backward (i : ℕ) (parents opens reds : List Bool) : Type 0 where
    pub parents-long : length parents ≡ max_groups
    pub opens_long : length opens ≡ max_groups
    pub reds-long : length reds ≡ max_groups
    pub found : (fin : Group → Bool) → Ended count groups ends made fin → (up : ℕ) → up < max_groups → Found fin i parents opens reds up

  -- no record is treated
  pub backward_none : Backward count (replicate max_groups false) (replicate max_groups false) (replicate max_groups false)
  backward_none = record {
    parents-long = length-replicate {A = Bool} max_groups false;
    opens_long = length-replicate {A = Bool} max_groups false;
    reds-long = length-replicate {A = Bool} max_groups false;
    found = λ fin e up l. (record {
      is_parent = unmarked max_groups up ∙ sym (ap (has_child up) none ∙ child-start fin up count);
      is_open = unmarked max_groups up ∙ sym (ap (open_children fin up count) none ∙ open_start fin up count);
      has_red = unmarked max_groups up ∙ sym (ap (open_reds fin up count) none ∙ red-start fin up count);
    });
  }
    where
      none : drop count gs ≡ []
      none = records-none count count groups (omega arith)

  -- the record g before index i
  module _ (R : Recorded count groups) (i : ℕ) (some : 1 < i) (within : i ≤ count) (g : Group) (is : g ≡ record_at groups (i - 1)) where
    abbrev k : ℕ
    k = i - 1

    abbrev rest : List Group
    rest = drop (suc k) gs

    split : drop k gs ≡ g ∷ rest
    split = records_at count k groups (omega arith) ∙ ap (λ (h : Group). h ∷ rest) (sym is)

    -- it is open or not, by what the tables have
    opened : (fin : Group → Bool) → Ended count groups ends made fin → (parents opens reds : List Bool) → Found fin (suc k) parents opens reds k
        → open_if (get_or parents k false) (get_or opens k false) (get_or made g.first 0) (get_or ends k 0) ≡ open_at fin k g rest
    opened fin e parents opens reds f = rw (f.is_parent, f.is_open) (go (has_child k rest) refl)
      where
        go : (b : Bool) → has_child k rest ≡ b
            → cond b (open_children fin k (suc k) rest) (ltb (get_or made g.first 0) (get_or ends k 0)) ≡ cond b (open_children fin k (suc k) rest) (not (fin g))
        go true h = refl
        go false h = sym (ap not (subst (λ (y : Group). fin y ≡ leb (get_or ends k 0) (get_or made y.first 0)) (sym is) (e k (omega arith) h)) ∙ not-reached (get_or ends k 0) (get_or made g.first 0))

    -- the tables of its parent take it up
    pub backward_next : (parents opens reds : List Bool) (o r : Bool) → o ≡ open_if (get_or parents k false) (get_or opens k false) (get_or made g.first 0) (get_or ends k 0) → r ≡ open_red g.colour o
        → Backward i parents opens reds
        → Backward k (set parents g.parent true) (set opens g.parent (get_or opens g.parent false || o)) (set reds g.parent (get_or reds g.parent false || r))
    backward_next parents opens reds o r eo er b = record {
      parents-long = length-set parents g.parent true ∙ b.parents-long;
      opens_long = length-set opens g.parent (get_or opens g.parent false || o) ∙ b.opens_long;
      reds-long = length-set reds g.parent (get_or reds g.parent false || r) ∙ b.reds-long;
      found = λ fin e up l.
          let f = before fin e up l in
          let here : o ≡ open_at fin k g rest = eo ∙ opened fin e parents opens reds (before fin e k (omega (arith, R.few))) in record {
            is_parent = marked parents g.parent up (omega (arith, low, b.parents-long)) ∙ rw f.is_parent (sym (ap (has_child up) split ∙ child-turn fin up k g rest));
            is_open = marked-if opens g.parent up (omega (arith, low, b.opens_long)) o ∙ rw (f.is_open, here) (sym (ap (open_children fin up k) split ∙ open_turn fin up k g rest));
            has_red = marked-if reds g.parent up (omega (arith, low, b.reds-long)) r ∙ rw (f.has_red, er, here) (sym (ap (open_reds fin up k) split ∙ red-turn fin up k g rest));
          };
    }
      where
        low : g.parent < max_groups
        low = omega (arith, ap (λ (h : Group). h.parent) is, R.parents k (omega arith) (omega arith), R.few)

        before : (fin : Group → Bool) → Ended count groups ends made fin → (up : ℕ) → up < max_groups → Found fin (suc k) parents opens reds up
        before fin e up l = let s : i ≡ suc k = omega arith in subst (λ (y : ℕ). Found fin y parents opens reds up) s (b.found fin e up l)

  -- all are
  pub backward_all : (i : ℕ) → i ≡ 1 → (parents opens reds : List Bool) → Backward i parents opens reds → OpenReds count groups ends made reds
  backward_all i e parents opens reds b = record {
    long = b.reds-long;
    is = λ fin f up l. subst (λ (k : ℕ). get_or reds up false ≡ open_reds fin up k (drop k gs)) e (b.found fin f up l).has_red ∙ sym (red-flat fin up 1 (below_whole count groups));
  }

-- ---- forwards

-- only the whole is treated
pub passed_none : (groups : List ℕ) (reds : List Bool) → Passed 1 groups reds (replicate max_groups false)
passed_none groups reds = record { long = length-replicate {A = Bool} max_groups false; root = unmarked max_groups 0; is = λ i a b. absurd (omega arith) }

-- no record is
pub ahead_none : (groups ends made : List ℕ) (v : ℕ) → Ahead 0 groups ends made (replicate max_workers v)
ahead_none groups ends made v = record { long = length-replicate max_workers v; is = λ i l. absurd (omega arith) }

module _ (count : ℕ) (groups : List ℕ) (R : Recorded count groups) (i : ℕ) (g : Group) (is : g ≡ record_at groups i) where
  abbrev own : Group
  own = record_at groups i

  -- one record more: its entry is made of its parent's, which stands before it
  pub passed-next : 1 ≤ i → i < count → (reds blocks : List Bool) (v : Bool) → v ≡ blocked_if (get_or blocks g.parent false) g.colour (get_or reds g.parent false)
      → Passed i groups reds blocks → Passed (i + 1) groups reds (set blocks i v)
  passed-next some within reds blocks v e p = record {
    long = length-set blocks i v ∙ p.long;
    root = same 0 (λ q. omega arith) ∙ p.root;
    is = λ k a b. at k a b (same_or k i);
  }
    where
      new : List Bool
      new = set blocks i v

      same : (k : ℕ) → k ≢ i → get_or new k false ≡ get_or blocks k false
      same k d = get_or-set_other blocks i k v false d

      parent : (k : ℕ) → 1 ≤ k → k < i + 1 → get_or new (record_at groups k).parent false ≡ get_or blocks (record_at groups k).parent false
      parent k a b = same (record_at groups k).parent (λ q. omega (arith, R.parents k a (omega arith)))

      value : ℕ → Bool → Bool
      value k above = blocked_if above (record_at groups k).colour (get_or reds (record_at groups k).parent false)

      here : v ≡ value i (get_or blocks own.parent false)
      here = subst (λ (h : Group). v ≡ blocked_if (get_or blocks h.parent false) h.colour (get_or reds h.parent false)) is e

      at : (k : ℕ) → 1 ≤ k → k < i + 1 → (k ≡ i) ⊎ (k ≢ i) → get_or new k false ≡ value k (get_or new (record_at groups k).parent false)
      at k a b (inl q) = (at_i ∙ here ∙ subst (λ (y : ℕ). value i (get_or blocks own.parent false) ≡ value y (get_or blocks (record_at groups y).parent false)) (sym q) refl) ∙ ap (value k) (sym (parent k a b))
        where
          at_i : get_or new k false ≡ v
          at_i = ap (λ (y : ℕ). get_or new y false) q ∙ get_or-set_same blocks i v false (omega (arith, p.long, R.few))
      at k a b (inr d) = same k d ∙ p.is k a (omega arith) ∙ ap (value k) (sym (parent k a b))

  -- .. its worker's stop comes before its end, if the count does
  pub ahead-next : i < count → (ends made stops : List ℕ) (v : ℕ) → v ≡ next_end (get_or made g.first 0) (get_or ends i 0) (get_or stops g.first 0)
      → Ahead i groups ends made stops → Ahead (i + 1) groups ends made (set stops g.first v)
  ahead-next within ends made stops v e₀ a = subst (λ (h : Group). Ahead (i + 1) groups ends made (set stops h.first v)) (sym is) (record {
    long = length-set stops own.first v ∙ a.long;
    is = λ k l. at k (same_or k i) l;
  })
    where
      e : v ≡ next_end (get_or made own.first 0) (get_or ends i 0) (get_or stops own.first 0)
      e = subst (λ (h : Group). v ≡ next_end (get_or made h.first 0) (get_or ends i 0) (get_or stops h.first 0)) is e₀

      new : List ℕ
      new = set stops own.first v

      here : get_or new own.first 0 ≡ v
      here = get_or-set_same stops own.first v 0 (omega (arith, a.long, R.firsts i within))

      -- the new stop is at most the old one, and at most an end past the count
      facts : (v ≤ get_or stops own.first 0) × ((get_or ends i 0 ≤ get_or made own.first 0) ⊎ (v ≤ get_or ends i 0))
      facts = subst (λ (y : ℕ). (y ≤ stop) × ((end ≤ m) ⊎ (y ≤ end))) (sym e) (go (ltb m end) refl (ltb end stop) refl)
        where
          m : ℕ
          m = get_or made own.first 0

          end : ℕ
          end = get_or ends i 0

          stop : ℕ
          stop = get_or stops own.first 0

          go : (b : Bool) → ltb m end ≡ b → (c : Bool) → ltb end stop ≡ c → (cond (b && c) end stop ≤ stop) × ((end ≤ m) ⊎ (cond (b && c) end stop ≤ end))
          go true p true q = (omega (arith, ltb-true end stop q), inr (omega arith))
          go true p false q = (omega arith, inr (ltb-false end stop q))
          go false p c q = (omega arith, inl (ltb-false m end p))

      less : (w : ℕ) → get_or new w 0 ≤ get_or stops w 0
      less w = by (same_or w own.first)
        where
          by : (w ≡ own.first) ⊎ (w ≢ own.first) → get_or new w 0 ≤ get_or stops w 0
          by (inl q) = subst (λ (y : ℕ). get_or new y 0 ≤ get_or stops y 0) (sym q) (omega (arith, here, facts.0))
          by (inr d) = omega (arith, get_or-set_other stops own.first w v 0 d)

      at : (k : ℕ) → (k ≡ i) ⊎ (k ≢ i) → k < i + 1 → (get_or ends k 0 ≤ get_or made (record_at groups k).first 0) ⊎ (get_or new (record_at groups k).first 0 ≤ get_or ends k 0)
      at k (inl q) l = subst (λ (y : ℕ). (get_or ends y 0 ≤ get_or made (record_at groups y).first 0) ⊎ (get_or new (record_at groups y).first 0 ≤ get_or ends y 0)) (sym q) (by facts.1)
        where
          by : (get_or ends i 0 ≤ get_or made own.first 0) ⊎ (v ≤ get_or ends i 0) → (get_or ends i 0 ≤ get_or made own.first 0) ⊎ (get_or new own.first 0 ≤ get_or ends i 0)
          by (inl x) = inl x
          by (inr x) = inr (omega (arith, here))
      at k (inr d) l = by (a.is k (omega arith))
        where
          by : (get_or ends k 0 ≤ get_or made (record_at groups k).first 0) ⊎ (get_or stops (record_at groups k).first 0 ≤ get_or ends k 0) → (get_or ends k 0 ≤ get_or made (record_at groups k).first 0) ⊎ (get_or new (record_at groups k).first 0 ≤ get_or ends k 0)
          by (inl x) = inl x
          by (inr x) = inr (omega (arith, less (record_at groups k).first))
