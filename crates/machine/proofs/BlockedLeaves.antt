-- What the passes over the flat records say of a job with these groups: which of its leaves are blocked.
use mathlib.Core.Path.{◌≡◌, refl, sym, ap, ◌∙◌, subst}
use mathlib.Core.Bool.{Bool, true, false, not, ◌&&◌, ◌||◌, true≢false}
use mathlib.Core.List.{List, []}
use Prim.Native.Nat.{ℕ, zero, suc, ◌+◌, ◌-◌, ◌*◌, ◌≤◌, ◌<◌}
use native.Mathlib.Omega.{arith}
use native.Mathlib.Numerals.{add-one}
use lib.Dec.{eqb, leb}
use lib.ListN.{length, get_or, drop, length-drop}
use lib.Seq.{get_or-drop}
use Rattle.base.specs.Lists.{is_empty}
use Rattle.matrix.specs.Matrix.{neighbours}
use Rattle.plan.specs.Groups.{Group, blue, width, of_fields, records}
use Rattle.plan.specs.Sound.{apart, max_groups, is_sound, sound}
use Rattle.plan.specs.Code.Checks.{record_at, below_whole, stands_depth_first}
use Rattle.plan.proofs.FlatRecords.{length-records}
use Rattle.plan.proofs.Nested.{children-later}
use Rattle.plan.proofs.Sound.{SoundFacts, sound_facts}
use Rattle.run.specs.Job.{Job, Accepted, workers_of, workers}
use Rattle.run.specs.Updates.{finished, up_to}
use Rattle.tables.specs.Code.Laid.{has_child, group_at, Leaf, Laid, Waits}
use Rattle.waits.specs.Code.Waits.{Recorded, Ended, Blocks}
use Rattle.tables.proofs.FlatOpen.{open_reds, red-flat}
use Rattle.tables.proofs.LeafWait.{Forward}
use Rattle.tables.proofs.LeafOwner.{leaf-blocked}
use Rattle.waits.proofs.Passes.{forward_from}
use Rattle.layout.proofs.Reached.{record_get, has-child, start-reached}
use Rattle.layout.proofs.NextRecord.{parent-before}

-- ---- what the code needs of a sound plan's records

recorded : (adj : ℕ → List ℕ) (n : ℕ) (order : List ℕ) (count : ℕ) (groups : List ℕ) → sound (apart adj) n order (records count groups) ≡ true → width * count ≤ length groups → Recorded count groups
unfolding records sound
recorded adj n order zero groups ok l = absurd (true≢false (sym ok))
recorded adj n order (suc c) groups ok l = record {
  long = l;
  some = omega arith;
  few = omega (arith, facts.short, length-records c (drop width groups));
  parents = λ i a b. at i a b;
  firsts = λ i b. (start-reached adj n order (suc c) groups ok i b).1;
}
  where
    facts : SoundFacts (apart adj) n order (of_fields groups) (records c (drop width groups))
    facts = sound_facts (apart adj) n order (of_fields groups) (records c (drop width groups)) ok

    at : (i : ℕ) → 1 ≤ i → i < suc c → (record_at groups i).parent < i
    at i a b =
        let e : i - 1 + 1 ≡ i = omega arith in
        subst (λ (k : ℕ). (record_at groups k).parent < k) e (parent-before (suc c) groups facts.in_order (i - 1) (omega arith))

-- the first of some groups is the whole, with all workers
first-crew : (count : ℕ) (groups : List ℕ) → 1 ≤ count → (record_at groups 0).workers ≡ workers_of (records count groups)
unfolding workers_of records record_at
first-crew zero groups l = absurd (omega arith)
first-crew (suc k) groups l = refl

pub whole-crew : (j : Job) (count : ℕ) (groups : List ℕ) → 1 ≤ count → j.plan.groups ≡ records count groups → (record_at groups 0).workers ≡ workers j
unfolding workers
whole-crew j count groups l is = first-crew count groups l ∙ ap workers_of (sym is)

-- ---- a job with these groups

module _ (j : Job) (ok : Accepted j) (count : ℕ) (groups : List ℕ) (is : j.plan.groups ≡ records count groups) where
  ok_records : sound (apart (neighbours j.matrix)) j.matrix.n j.plan.order (records count groups) ≡ true
  unfolding is_sound
  ok_records = subst (λ (gs : List Group). sound (apart (neighbours j.matrix)) j.matrix.n j.plan.order gs ≡ true) is ok.plan

  pub recorded_of : width * count ≤ length groups → Recorded count groups
  recorded_of l = recorded (neighbours j.matrix) j.matrix.n j.plan.order count groups ok_records l

  nested : stands_depth_first count groups ≡ true
  unfolding records sound
  nested = go count ok_records
    where
      go : (c : ℕ) → sound (apart (neighbours j.matrix)) j.matrix.n j.plan.order (records c groups) ≡ true → stands_depth_first c groups ≡ true
      go zero h = absurd (true≢false (sym h))
      go (suc c) h = (sound_facts (apart (neighbours j.matrix)) j.matrix.n j.plan.order (of_fields groups) (records c (drop width groups)) h).in_order

  pub group_at_lem : (i : ℕ) → i < count → group_at j i ≡ record_at groups i
  group_at_lem i l = ap (λ (gs : List Group). get_or gs i (of_fields [])) is ∙ record_get count groups i (of_fields []) l

  -- a record with no child after it is a leaf
  pub leaf-of : (i : ℕ) → i < count → has_child i (drop (suc i) (records count groups)) ≡ false → Leaf j i
  leaf-of i l h = record {
    inside = omega (arith, ap (λ (gs : List Group). length gs) is, length-records count groups);
    childless = ap (λ (gs : List Group). has_child i (drop 1 gs)) is ∙ has-child i (below_whole count groups) ∙ ap (λ (gs : List Group). not (is_empty gs)) (children-later count groups nested i)
        ∙ sym (has-child i (drop (i + 1) (records count groups))) ∙ ap (λ (k : ℕ). has_child i (drop k (records count groups))) (add-one i) ∙ h;
  }

  module _ {first row begins leaves ends : List ℕ} (laid : Laid j first row begins leaves ends) (made : List ℕ) where
    -- its leaves are finished when the counts reach the ends in the table
    pub ended_of : Ended count groups ends made (finished j made)
    unfolding finished
    ended_of i l h = subst (λ (g : Group). leb (2 * length (up_to j g.first (g.start + g.length))) (get_or made g.first 0) ≡ leb (get_or ends i 0) (get_or made g.first 0)) (group_at_lem i l)
        (ap (λ (e : ℕ). leb e (get_or made (group_at j i).first 0)) (sym (laid.ended i (leaf-of i l h))))

    module _ (blocks : List Bool) (b : Blocks count groups ends made blocks) where
      fin : Group → Bool
      fin = finished j made

      opened : ℕ → Bool
      opened up = open_reds fin up 1 (below_whole count groups)

      is_blocked : ℕ → Bool
      is_blocked i = get_or blocks i false

      red-open : (up : ℕ) → up < max_groups → get_or b.reds up false ≡ opened up
      unfolding opened fin
      red-open up l = b.opened.is fin ended_of up l ∙ red-flat fin up 1 (below_whole count groups)

      start : is_blocked 0 ≡ false
      unfolding is_blocked
      start = b.passed.root

      pass : Recorded count groups → Forward opened is_blocked 1 (below_whole count groups)
      unfolding is_blocked
      pass R = forward_from opened is_blocked (of_fields []) 1 (below_whole count groups) one
        where
          Entry : ℕ → Group → Type 0
          Entry k g = get_or blocks (1 + k) false ≡ get_or blocks g.parent false || (eqb g.colour blue && opened g.parent)

          one : (k : ℕ) → k < length (below_whole count groups) → Entry k (get_or (below_whole count groups) k (of_fields []))
          one k l =
              let low : 1 + k < count = omega (arith, length-drop 1 (records count groups), length-records count groups) in
              let g : Group = record_at groups (1 + k) in
              subst (Entry k) (sym (get_or-drop 1 (records count groups) k (of_fields []) ∙ record_get count groups (1 + k) (of_fields []) low))
              (b.passed.is (1 + k) (omega arith) low
              ∙ ap (λ (t : Bool). get_or blocks g.parent false || (eqb g.colour blue && t)) (red-open g.parent (omega (arith, R.parents (1 + k) (omega arith) low, R.few))))

      -- the entry of a leaf says whether its rows are blocked
      pub waits-of : Recorded count groups → Waits j made blocks
      unfolding fin opened is_blocked
      waits-of R = record {
        long = b.passed.long;
        is = λ i q l low h. sym (leaf-blocked j ok.plan (of_fields []) fin q i l low h is_blocked start
            (subst (λ (gs : List Group). Forward (λ up. open_reds fin up 1 (drop 1 gs)) is_blocked 1 (drop 1 gs)) (sym is) (pass R)));
      }
