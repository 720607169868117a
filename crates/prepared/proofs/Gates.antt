-- The wait by one number for each worker is document 01's wait.
use mathlib.Core.Path.{◌≡◌, refl, sym, ap, ◌∙◌}
use mathlib.Core.Logic.{◌⊎◌, inl, inr}
use mathlib.Core.Bool.{Bool, true, false, not, ◌&&◌, ◌||◌, cond}
use mathlib.Core.List.{List}
use Prim.Native.Nat.{ℕ, zero, suc, ◌+◌, ◌≤◌, ◌<◌, max}
use native.Mathlib.Omega.{arith}
use lib.Dec.{eqb, leb, ltb}
use borrow.Author.Tests.{ltb-true, ltb-false, leb-true, leb-false, lt-ltb, le-ltb, eq-eqb, ne_eqb}
use Rattle.base.proofs.Booleans.{or_false, or_left_false, or_right_false, same_or}
use Rattle.plan.specs.Groups.{Group, red, blue}
use Rattle.plan.specs.Sound.{max_workers}
use Rattle.run.specs.Job.{Job, Accepted}
use Rattle.run.specs.Tree.{Tree, none, node, tree, holds, unfinished, red_open, blocked}
use Rattle.run.specs.Updates.{count, finished, next, waits}
use Rattle.run.proofs.SoundTree.{Inner, Pairs, pairs-le}
use Rattle.run.proofs.Forest.{WholePlan}
use Rattle.run.proofs.Accepted.{tree_of}
use Rattle.prepared.specs.Gates.{last_end, red_end, gate_in, end_in, gate, behind}

-- ---- numbers

pub past-either : (c a b : ℕ) → ltb c (max a b) ≡ ltb c a || ltb c b
past-either c a b = go (ltb c a) refl (ltb c b) refl
  where
    go : (t : Bool) → ltb c a ≡ t → (u : Bool) → ltb c b ≡ u → ltb c (max a b) ≡ ltb c a || ltb c b
    go true e u f = rw e (lt-ltb c (max a b) (omega (arith, ltb-true c a e)))
    go false e true f = rw (e, f) (lt-ltb c (max a b) (omega (arith, ltb-true c b f)))
    go false e false f = rw (e, f) (le-ltb c (max a b) (omega (arith, ltb-false c a e, ltb-false c b f)))

pub not-leb : (a b : ℕ) → not (leb a b) ≡ ltb b a
not-leb a b = go (leb a b) refl
  where
    go : (t : Bool) → leb a b ≡ t → not (leb a b) ≡ ltb b a
    go true e = rw e (sym (le-ltb b a (leb-true a b e)))
    go false e = rw e (sym (lt-ltb b a (leb-false a b e)))

or_swap : (a b c d : Bool) → (a || b) || (c || d) ≡ (a || c) || (b || d)
or_swap true b c d = refl
or_swap false true true d = refl
or_swap false true false d = refl
or_swap false false c d = refl

-- ---- who is behind

module _ (made : List ℕ) where
  -- the larger of two numbers for each worker
  pub behind-either : (a b : ℕ → ℕ) (k : ℕ) → behind made (λ v. max (a v) (b v)) k ≡ behind made a k || behind made b k
  unfolding behind
  behind-either a b zero = refl
  behind-either a b (suc v) =
      ap (λ (x : Bool). x || behind made (λ v. max (a v) (b v)) v) (past-either (count made v) (a v) (b v))
      ∙ ap (λ (x : Bool). (ltb (count made v) (a v) || ltb (count made v) (b v)) || x) (behind-either a b v)
      ∙ or_swap (ltb (count made v) (a v)) (ltb (count made v) (b v)) (behind made a v) (behind made b v)

  -- nobody is behind 0
  pub behind-none : (k : ℕ) → behind made (λ v. 0) k ≡ false
  unfolding behind
  behind-none zero = refl
  behind-none (suc v) = rw (le-ltb (count made v) 0 (omega arith)) (behind-none v)

  -- numbers that count only under a test
  pub behind_if : (t : Bool) (a : ℕ → ℕ) (k : ℕ) → behind made (λ v. cond t (a v) 0) k ≡ t && behind made a k
  behind_if true a k = refl
  behind_if false a k = behind-none k

  -- a number for one worker
  pub behind-one : (f e k : ℕ) → f < k → behind made (λ v. cond (eqb f v) e 0) k ≡ ltb (count made f) e
  unfolding behind
  behind-one f e zero l = absurd (omega arith)
  behind-one f e (suc v) l = go (same_or f v) (behind-one f e v)
    where
      before : (m : ℕ) → m ≤ f → behind made (λ v. cond (eqb f v) e 0) m ≡ false
      before zero h = refl
      before (suc m) h = rw (ne_eqb f m (λ q. omega arith), le-ltb (count made m) 0 (omega arith)) (before m (omega arith))

      go : (f ≡ v) ⊎ ((f ≡ v) → ⊥) → (f < v → behind made (λ v. cond (eqb f v) e 0) v ≡ ltb (count made f) e) → behind made (λ v. cond (eqb f v) e 0) (suc v) ≡ ltb (count made f) e
      go (inl q) ih = rw (eq-eqb f v q, before v (omega arith)) (or_false (ltb (count made v) e) ∙ ap (λ (x : ℕ). ltb (count made x) e) (sym q))
      go (inr q) ih = rw (ne_eqb f v q, le-ltb (count made v) 0 (omega arith)) (ih (omega arith))

-- ---- the trees of a plan

-- every group is led by a worker below k
abbrev pub Led : ℕ → Tree → Type 0
Led k none = Unit {0}
Led k (node g below next) = (g.first < k) × Led k below × Led k next

module _ (k : ℕ) where
  -- .. of pairs of groups whose workers are
  led_pairs : (T : Tree) (f l : ℕ) → Pairs T f l → l ≤ k → Led k T
  led_pairs none f l p h = tt
  led_pairs (node r rb none) f l p h = absurd p
  led_pairs (node r rb (node b bb ks)) f l p h =
      let m = pairs-le ks (f + r.workers) l p.4 in (
        omega arith,
        inside rb (led_pairs rb) r.first (r.first + r.workers) (omega arith) p.2,
        (omega arith, inside bb (led_pairs bb) b.first (b.first + b.workers) (omega arith) p.3, led_pairs ks (f + r.workers) l p.4 h),
      )
    where
      inside : (B : Tree) → ((f l : ℕ) → Pairs B f l → l ≤ k → Led k B) → (f l : ℕ) → l ≤ k → Inner B (Pairs B f l) → Led k B
      inside none ih f l h p = tt
      inside (node g below next) ih f l h p = ih f l p h

-- the groups of a sound plan are led by the workers of a state
pub led_plan : (j : Job) → WholePlan j → Led max_workers (tree j.plan.groups)
led_plan j W = rw W.is (omega (arith, W.first, W.some, W.few), go W.below W.under.pairs, tt)
  where
    go : (B : Tree) → Inner B (Pairs B W.top.first (W.top.first + W.top.workers)) → Led max_workers B
    go none p = tt
    go (node g below next) p = led_pairs max_workers (node g below next) W.top.first (W.top.first + W.top.workers) p (omega (arith, W.first, W.few))

-- ---- the wait

module _ (made : List ℕ) (end : Group → ℕ) (k : ℕ) where
  abbrev fin : Group → Bool
  fin g = leb (end g) (count made g.first)

  one-leaf : (g : Group) → g.first < k → behind made (λ v. cond (eqb g.first v) (end g) 0) k ≡ not (fin g)
  one-leaf g l = behind-one made g.first (end g) k l ∙ sym (not-leb (end g) (count made g.first))

  open_behind : (T : Tree) → Led k T → behind made (λ v. last_end end v T) k ≡ unfinished fin T
  unfolding last_end unfinished
  open_behind none l = behind-none made k
  open_behind (node g none next) l =
      behind-either made (λ v. cond (eqb g.first v) (end g) 0) (λ v. last_end end v next) k ∙ rw (one-leaf g l.0, open_behind next l.2) refl
  open_behind (node g (node h hb hn) next) l =
      behind-either made (λ v. last_end end v (node h hb hn)) (λ v. last_end end v next) k ∙ rw (open_behind (node h hb hn) l.1, open_behind next l.2) refl

  red-behind : (T : Tree) → Led k T → behind made (λ v. red_end end v T) k ≡ red_open fin T
  unfolding red_end red_open
  red-behind none l = behind-none made k
  red-behind (node g below next) l =
      behind-either made (λ v. cond (eqb g.colour red) (last_end end v (node g below none)) 0) (λ v. red_end end v next) k
      ∙ ap (λ (b : Bool). b || behind made (λ v. red_end end v next) k) (behind_if made (eqb g.colour red) (λ v. last_end end v (node g below none)) k)
      ∙ rw (open_behind (node g below none) (l.0, l.1, tt), red-behind next l.2) refl

  pub blocked-behind : (q : ℕ) (all : Tree) → Led k all → (T : Tree) → Led k T → behind made (λ v. gate_in end v q all T) k ≡ blocked fin q all T
  unfolding gate_in blocked
  blocked-behind q all a none l = behind-none made k
  blocked-behind q all a (node g below next) l =
      behind-either made (λ v. cond (holds g q) (max (cond (eqb g.colour blue) (red_end end v all) 0) (gate_in end v q below below)) 0) (λ v. gate_in end v q all next) k
      ∙ ap (λ (b : Bool). b || behind made (λ v. gate_in end v q all next) k)
      (behind_if made (holds g q) (λ v. max (cond (eqb g.colour blue) (red_end end v all) 0) (gate_in end v q below below)) k
      ∙ ap (λ (b : Bool). holds g q && b) (behind-either made (λ v. cond (eqb g.colour blue) (red_end end v all) 0) (λ v. gate_in end v q below below) k
      ∙ ap (λ (b : Bool). b || behind made (λ v. gate_in end v q below below) k) (behind_if made (eqb g.colour blue) (λ v. red_end end v all) k)))
      ∙ rw (red-behind all a, blocked-behind q below l.1 below l.1, blocked-behind q all a next l.2) refl

-- "A worker waits if the leaf of its next move lies in, or is, a blue group one of whose red siblings has an unfinished
-- leaf": some worker is behind its number at that move's row
pub gate-waits : (j : Job) → Accepted j → (made : List ℕ) (w : ℕ) → waits j made w ≡ behind made (gate j (next j made w).row) max_workers
unfolding waits gate end_in finished
gate-waits j ok made w =
    let T : Tree = tree j.plan.groups in
    let led = led_plan j (tree_of j ok) in
    sym (blocked-behind made (end_in j) max_workers (next j made w).row T led T led)

-- ---- as counts grow

-- who looks at the same numbers
pub behind-same : (made : List ℕ) (a b : ℕ → ℕ) (k : ℕ) → ((v : ℕ) → v < k → a v ≡ b v) → behind made a k ≡ behind made b k
unfolding behind
behind-same made a b zero h = refl
behind-same made a b (suc v) h = rw (h v (omega arith), behind-same made a b v (λ u l. h u (omega arith))) refl

-- a gate that is open stays open while counts grow: it need not be tested again
pub stays_open : (made new : List ℕ) (need : ℕ → ℕ) (k : ℕ) → ((v : ℕ) → v < k → count made v ≤ count new v) → behind made need k ≡ false → behind new need k ≡ false
unfolding behind
stays_open made new need zero g h = refl
stays_open made new need (suc v) g h =
    let here : need v ≤ count made v = ltb-false (count made v) (need v) (or_left_false (ltb (count made v) (need v)) (behind made need v) h) in
    rw (le-ltb (count new v) (need v) (omega (arith, g v (omega arith))))
    (stays_open made new need v (λ u l. g u (omega arith)) (or_right_false (ltb (count made v) (need v)) (behind made need v) h))
