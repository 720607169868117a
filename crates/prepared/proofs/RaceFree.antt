-- Whatever workers do without a lock, if each looks at its gate before a row, is a run of the machine.
use mathlib.Core.Path.{◌≡◌, refl, sym, ap, ◌∙◌, subst}
use mathlib.Core.Logic.{◌⊎◌, inl, inr, ◌≢◌}
use mathlib.Core.Bool.{Bool, true, false}
use mathlib.Core.List.{List, [], ◌∷◌}
use Prim.Native.Nat.{ℕ, zero, suc, ◌*◌, ◌/◌, ◌≤◌, ◌<◌}
use native.Mathlib.Omega.{arith}
use lib.ListN.{length, get_or, take, set, length-append, length-set}
use lib.Dec.{leb}
use lib.IntN.{pos, +ℤ_idr}
use borrow.Author.Tests.{ne_eqb, leb-true, leb-false}
use Rattle.base.proofs.Sums.{sum_same}
use lib.Seq.{get_or-set_same, get_or-set_other}
use Rattle.base.specs.Replies.{in_turn}
use Rattle.base.proofs.Booleans.{same_or}
use Rattle.plan.specs.Sound.{max_workers}
use Rattle.run.specs.Job.{Job, Accepted, workers}
use Rattle.run.specs.Updates.{Update, count, updates, accesses, no_update, next, waits}
use Rattle.run.specs.Machine.{moved, Stepped, one_more, steps, over}
use Rattle.run.specs.State.{State, fresh}
use Rattle.run.specs.Calls.{place_of, picked_of, state_check, answer_of, after_of, answer, after}
use Rattle.run.specs.Sequence.{answers_from, state_after}
use Rattle.run.specs.OneAccess.{Access, OneAccess, stay, and_then}
use Rattle.run.specs.EveryRun.{run_state, run_answers}
use Rattle.run.proofs.Amounts.{landed, landed_next}
use Rattle.run.proofs.Invariant.{so_far, Inv, inv_fresh, zero-count}
use Rattle.run.proofs.Onward.{onward_at, onward-other, onward_grows}
use Rattle.run.proofs.OneAccess.{both-length, one_way}
use Rattle.run.proofs.Schedule.{steps_on}
use Rattle.run.proofs.Stays.{most}
use Rattle.run.proofs.Taken.{Step, taken}
use Rattle.run.proofs.Able.{Able, able-refusal}
use Rattle.run.proofs.Next.{lasts_row}
use Rattle.run.proofs.Finished.{forces-product}
use Rattle.run.proofs.Progress.{some-able}
use Rattle.run.proofs.AsModel.{fine}
use Rattle.run.proofs.Accepted.{facts, tree_of}
use Rattle.prepared.specs.Gates.{gate, behind}
use Rattle.prepared.specs.RaceFree.{accessed, Before, Memory, clear, Inside, Free, showing, Unlocked, rests, makes, shows, UnlockedRun, SameLoads, RaceFree}
use Rattle.prepared.proofs.Gates.{gate-waits, stays_open}
use Rattle.prepared.proofs.Ordered.{in-plan, row-at, open_gate, order-of}

at_most : {a b c : ℕ} → a ≤ b → b ≤ c → a ≤ c
at_most x y = omega arith

-- who makes an access had one left
left-of : (j : Job) (s : State) (w : ℕ) (t : State) → OneAccess j s w t → count s.made w < accesses j w
unfolding accesses
left-of j s w t a =
    omega (arith, a.next, both-length (updates j w), ap (λ (as' : List Access). length as') a.all, length-append a.before (a.this ∷ a.left))

module _ (j : Job) (ok : Accepted j) where
  -- what holds of every memory that workers come to
  record Kept (m : Memory) : Type 0 where
    inv : Inv j m.state
    shown-length : length m.shown ≡ max_workers
    -- nobody shows more than it has made
    true_counts : (v : ℕ) → count m.shown v ≤ count m.state.made v
    -- who is inside a row does not wait
    inside : (w : ℕ) → Inside j m.state.made w → waits j m.state.made w ≡ false
    -- the gate of every access made is open
    passed : (v k u : ℕ) → k < count m.state.made v → u < max_workers → gate j (accessed j v k).row u ≤ count m.state.made u

  kept-clear : Kept (clear j.matrix.n)
  unfolding clear fresh
  kept-clear = record {
    inv = unfold fresh in inv_fresh j;
    shown-length = refl;
    true_counts = λ v. omega arith;
    inside = λ w i. absurd (omega (arith, zero-count w, i.1));
    passed = λ v k u l n. absurd (omega (arith, zero-count v));
  }

  -- who is free does not wait
  free_goes : (m : Memory) → Kept m → (w : ℕ) → Free j m w → waits j m.state.made w ≡ false
  free_goes m K w (inl i) = K.inside w i
  free_goes m K w (inr h) = gate-waits j ok m.state.made w ∙ stays_open m.shown m.state.made (gate j (next j m.state.made w).row) max_workers (λ v l. K.true_counts v) h

  able-free : (m : Memory) → Kept m → (w : ℕ) → count m.state.made w < accesses j w → Free j m w → Able j m.state.made w
  able-free m K w l f = record { in_plan = in-plan j ok w (count m.state.made w) l; left = l; going = free_goes m K w f }

  -- the machine's step of a worker that is free
  steps-free : (m : Memory) → Kept m → (w : ℕ) → count m.state.made w < accesses j w → Free j m w → Step j m.state w
  steps-free m K w l f = taken j (facts j ok) m.state K.inv w (able-refusal j m.state.made w (able-free m K w l f))

  -- an access keeps it all
  kept_on : (m : Memory) → Kept m → (w : ℕ) → Free j m w → (s : Step j m.state w) → Kept (record { state = s.state; shown = m.shown })
  kept_on m K w free s = record {
    inv = s.inv;
    shown-length = K.shown-length;
    true_counts = λ v. omega (arith, K.true_counts v, grows v);
    inside = λ v i. go v i (same_or v w);
    passed = λ v k u l n. past v k u l n (same_or v w) (same_or k (count made w));
  }
    where
      made : List ℕ
      made = m.state.made

      new : List ℕ
      new = s.state.made

      room : w < length made
      room = s.one.counts

      grows : (v : ℕ) → count made v ≤ count new v
      grows v = subst (λ (l : List ℕ). count made v ≤ count l v) (sym s.made) (onward_grows made w room v)

      at : count new w ≡ suc (count made w)
      at = ap (λ (l : List ℕ). count l w) s.made ∙ onward_at made w room

      other : (v : ℕ) → v ≢ w → count new v ≡ count made v
      other v d = ap (λ (l : List ℕ). count l v) s.made ∙ onward-other made w v d

      -- made before, or made now
      past : (v k u : ℕ) → k < count new v → u < max_workers → (v ≡ w) ⊎ (v ≢ w) → (k ≡ count made w) ⊎ (k ≢ count made w) → gate j (accessed j v k).row u ≤ count new u
      past v k u l n (inl e) (inl f) =
          omega (arith, subst (λ (y : ℕ). gate j (accessed j y k).row u ≤ count made u) (sym e) (open_gate j ok made w k (sym f) (free_goes m K w free) u n), grows u)
      past v k u l n (inl e) (inr d) = omega (arith, K.passed v k u (omega (arith, at, subst (λ (y : ℕ). k < count new y) e l, subst (λ (y : ℕ). count made w ≡ count made y) (sym e) refl)) n, grows u)
      past v k u l n (inr d) z = omega (arith, K.passed v k u (omega (arith, other v d)) n, grows u)

      go : (v : ℕ) → Inside j new v → (v ≡ w) ⊎ (v ≢ w) → waits j new v ≡ false
      go v i (inl e) = subst (λ (y : ℕ). waits j new y ≡ false) (sym e) (lasts_row j made new grows w same (free_goes m K w free))
        where
          i' : Inside j new w
          i' = subst (Inside j new) e i

          last : i'.0 ≡ count made w
          last = omega (arith, at, i'.1)

          same : (next j made w).row ≡ (next j new w).row
          same = row-at j ok made w i'.0 (sym last) ∙ i'.2 ∙ sym (row-at j ok new w (suc i'.0) i'.1)
      go v i (inr d) = lasts_row j made new grows v (row-at j ok made v (count new v) (sym (other v d)) ∙ sym (row-at j ok new v (count new v) refl)) (K.inside v (i.0, sym (other v d) ∙ i.1, i.2))

  -- so does a count that is shown
  kept-shown : (m : Memory) → Kept m → (w : ℕ) → Kept (showing m w)
  unfolding showing
  kept-shown m K w = record {
    inv = K.inv;
    shown-length = length-set m.shown w _ ∙ K.shown-length;
    true_counts = λ v. go v (same_or v w);
    inside = K.inside;
    passed = K.passed;
  }
    where
      own : count (showing m w).shown w ≤ count m.state.made w
      own = at_most (most m.shown w _) (omega arith)

      go : (v : ℕ) → (v ≡ w) ⊎ (v ≢ w) → count (showing m w).shown v ≤ count m.state.made v
      go v (inl e) = subst (λ (y : ℕ). count (showing m w).shown y ≤ count m.state.made y) (sym e) own
      go v (inr d) = subst (λ (y : ℕ). y ≤ count m.state.made v) (sym (get_or-set_other m.shown w v _ 0 d)) (K.true_counts v)

  -- ---- a course of accesses

  abbrev Follows : State → List ℕ → State → Type 0
  Follows s ws e = steps j s ws ≡ record { state = e; taken = length ws; number = 0 }

  course : (m : Memory) (ws : List ℕ) (e : Memory) → Kept m → Unlocked j m ws e → Follows m.state ws e.state × Kept e
  unfolding steps one_more showing
  course m [] e K rests = (refl, K)
  course m (w ∷ ws) e K (makes {t = t} f a u) =
      let s : Step j m.state w = steps-free m K w (left-of j m.state w t a) f in
      let same : s.state ≡ t = one_way j (w ∷ []) m.state s.state t (and_then s.one stay) (and_then a stay) in
      let (h, k) = course (record { state = t; shown = m.shown }) ws e (subst (λ (x : State). Kept (record { state = x; shown = m.shown })) same (kept_on m K w f s)) u in
      (steps_on j m.state w ws t (s.is ∙ ap moved same) ∙ ap one_more h, k)
  course m ws e K (shows w u) = course (showing m w) ws e (kept-shown m K w) u

  -- ---- going on

  -- the counts after the workers below k have shown theirs
  shown_by : (made shown : List ℕ) → ℕ → List ℕ
  shown_by made shown zero = shown
  shown_by made shown (suc k) = set (shown_by made shown k) k (count made k)

  shown-long : (made shown : List ℕ) (k : ℕ) → length (shown_by made shown k) ≡ length shown
  unfolding shown_by
  shown-long made shown zero = refl
  shown-long made shown (suc k) = length-set (shown_by made shown k) k (count made k) ∙ shown-long made shown k

  all_shown : (made shown : List ℕ) (k v : ℕ) → k ≤ length shown → v < k → count (shown_by made shown k) v ≡ count made v
  unfolding shown_by
  all_shown made shown zero v l m = absurd (omega arith)
  all_shown made shown (suc k) v l m = go (same_or v k) (all_shown made shown k v (omega arith))
    where
      go : (v ≡ k) ⊎ (v ≢ k) → (v < k → count (shown_by made shown k) v ≡ count made v) → count (set (shown_by made shown k) k (count made k)) v ≡ count made v
      go (inl e) ih = subst (λ (y : ℕ). count (set (shown_by made shown k) k (count made k)) y ≡ count made y) (sym e) (get_or-set_same (shown_by made shown k) k (count made k) 0 (omega (arith, shown-long made shown k)))
      go (inr d) ih = get_or-set_other (shown_by made shown k) k v (count made k) 0 d ∙ ih (omega arith)

  -- .. which they may do before all else
  show_first : (m : Memory) (k : ℕ) {ws : List ℕ} {e : Memory} → Unlocked j (record { state = m.state; shown = shown_by m.state.made m.shown k }) ws e → Unlocked j m ws e
  unfolding shown_by showing
  show_first m zero u = u
  show_first m (suc k) u = show_first m k (shows k u)

  onwards : (m : Memory) → Kept m → over j m.state.made ≡ false → (w : ℕ) × (e : Memory) × Unlocked j m (w ∷ []) e
  onwards m K o = (a.0, record { state = s.state; shown = all }, show_first m max_workers (makes (inr opened) s.one rests))
    where
      made : List ℕ
      made = m.state.made

      all : List ℕ
      all = shown_by made m.shown max_workers

      a : (w : ℕ) × Able j made w
      a = some-able j made (tree_of j ok) o

      s : Step j m.state a.0
      s = taken j (facts j ok) m.state K.inv a.0 (able-refusal j made a.0 a.1)

      opened : behind all (gate j (next j made a.0).row) max_workers ≡ false
      opened = stays_open made all (gate j (next j made a.0).row) max_workers (λ v l. omega (arith, all_shown made m.shown max_workers v (omega (arith, K.shown-length)) l)) (sym (gate-waits j ok made a.0) ∙ a.1.going)

  -- ---- what a load finds

  -- updates of other sums change nothing
  skipped : (t : ℕ) (us : List Update) (a b : ℕ) → a ≤ b → b ≤ length us → ((i : ℕ) → a ≤ i → i < b → (get_or us i no_update).target ≢ t) → landed t (take b us) ≡ landed t (take a us)
  skipped t us a zero h l d = let e : a ≡ 0 = omega arith in ap (λ (k : ℕ). landed t (take k us)) (sym e)
  skipped t us a (suc b) h l d = go (same_or a (suc b)) (skipped t us a b)
    where
      go : (a ≡ suc b) ⊎ (a ≢ suc b) → (a ≤ b → b ≤ length us → ((i : ℕ) → a ≤ i → i < b → (get_or us i no_update).target ≢ t) → landed t (take b us) ≡ landed t (take a us))
          → landed t (take (suc b) us) ≡ landed t (take a us)
      go (inl e) ih = ap (λ (k : ℕ). landed t (take k us)) (sym e)
      go (inr n) ih =
          landed_next (λ z. z) t us b (omega arith) ∙ rw (ne_eqb (get_or us b no_update).target t (d b (omega arith) (omega arith))) (+ℤ_idr (landed t (take b us)))
          ∙ ih (omega arith) (omega arith) (λ i x y. d i x (omega arith))

  module _ (w l : ℕ) (more : l < accesses j w) where
    t : ℕ
    t = (accessed j w l).target

    -- worker v has made fewer accesses in m than in e: none of those between is to the sum
    between : (m e : Memory) → Kept m → Kept e → waits j m.state.made w ≡ false → count m.state.made w ≡ l → count e.state.made w ≡ l
        → (v : ℕ) → v ≢ w → count m.state.made v ≤ count e.state.made v → so_far j e.state.made t v ≡ so_far j m.state.made t v
    unfolding t accesses
    between m e K L go at at' v d h =
        skipped t (updates j v) (count m.state.made v / 2) (count e.state.made v / 2) (omega arith) (omega (arith, L.inv.bounded v)) other
      where
        clash : (i : ℕ) → count m.state.made v / 2 ≤ i → i < count e.state.made v / 2 → Before j v (suc (2 * i)) w l ⊎ Before j w l v (suc (2 * i)) → ⊥
        clash i x y (inl b) = omega (arith, open_gate j ok m.state.made w l at go v (omega (arith, in-plan j ok v (suc (2 * i)) (omega (arith, L.inv.bounded v)), (facts j ok).few)))
        clash i x y (inr b) = omega (arith, L.passed v (suc (2 * i)) w (omega arith) (omega (arith, in-plan j ok w l more, (facts j ok).few)))

        other : (i : ℕ) → count m.state.made v / 2 ≤ i → i < count e.state.made v / 2 → (get_or (updates j v) i no_update).target ≢ t
        other i x y same =
            let half : suc (2 * i) / 2 ≡ i = omega arith in
            clash i x y ((order-of j ok).conflicts v w (suc (2 * i)) l d (omega (arith, L.inv.bounded v)) more (ap (λ (k : ℕ). (get_or (updates j v) k no_update).target) half ∙ same))

    finds : (m e : Memory) → Kept m → Kept e → waits j m.state.made w ≡ false → waits j e.state.made w ≡ false → count m.state.made w ≡ l → count e.state.made w ≡ l
        → t < j.matrix.n → get_or m.state.sums t (pos 0) ≡ get_or e.state.sums t (pos 0)
    finds m e K L go go' at at' low =
        K.inv.right t low ∙ sum_same (so_far j m.state.made t) (so_far j e.state.made t) (workers j) (λ v n. each v (same_or v w) (leb (count m.state.made v) (count e.state.made v)) refl) ∙ sym (L.inv.right t low)
      where
        each : (v : ℕ) → (v ≡ w) ⊎ (v ≢ w) → (b : Bool) → leb (count m.state.made v) (count e.state.made v) ≡ b → so_far j m.state.made t v ≡ so_far j e.state.made t v
        each v (inl q) b f = ap (λ (c : ℕ). landed t (take (c / 2) (updates j v))) (subst (λ (y : ℕ). count m.state.made y ≡ count e.state.made y) (sym q) (at ∙ sym at'))
        each v (inr d) true f = sym (between m e K L go at at' v d (leb-true (count m.state.made v) (count e.state.made v) f))
        each v (inr d) false f = between e m L K go' at' at v d (omega (arith, leb-false (count m.state.made v) (count e.state.made v) f))

  module _ (ws : List ℕ) (m : Memory) (u : Unlocked j (clear j.matrix.n) ws m) where
    followed : Follows (fresh j.matrix.n) ws m.state
    unfolding clear
    followed = (course (clear j.matrix.n) ws m kept-clear u).0

    kept : Kept m
    kept = (course (clear j.matrix.n) ws m kept-clear u).1

    unlocked : UnlockedRun j ws m
    unfolding run_state run_answers state_after answers_from after after_of answer answer_of state_check in_turn picked_of place_of
    unlocked = record {
      same = rw (fine j (facts j ok) (fresh j.matrix.n) (inv_fresh j)) (sym (ap (λ (k : Stepped). k.state) followed));
      taken = rw (fine j (facts j ok) (fresh j.matrix.n) (inv_fresh j), followed) refl;
      whole = forces-product j (facts j ok) m.state kept.inv;
      can_make = λ w l f. let s = steps-free m kept w l f in (s.state, s.one);
      goes_on = onwards m kept;
    }

  same_loads : (vs ws : List ℕ) (m e : Memory) → Unlocked j (clear j.matrix.n) vs m → Unlocked j (clear j.matrix.n) ws e → SameLoads j m e
  unfolding next t accesses
  same_loads vs ws m e x y = record {
    found = λ w same more f g.
        finds w (count m.state.made w) more m e (kept vs m x) (kept ws e y) (free_goes m (kept vs m x) w f) (free_goes e (kept ws e y) w g) refl (sym same)
        ((facts j ok).targets w (count m.state.made w / 2) (omega arith));
  }

-- the theorem
pub race_free : RaceFree
race_free = record { ordered = order-of; unlocked = unlocked; same_loads = same_loads }
