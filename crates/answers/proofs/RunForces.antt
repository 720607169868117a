-- Forces, which are made beside the lent list.
use mathlib.Core.Path.{◌≡◌, refl, sym, ap, ◌∙◌}
use mathlib.Core.Bool.{Bool, true, false, cond}
use mathlib.Core.List.{List, [], ◌∷◌, ◌++◌}
use Prim.Native.Nat.{ℕ, ◌/◌, ◌≤◌, min}
use native.Mathlib.Omega.{arith}
use lib.Dec.{leb}
use lib.IntN.{ℤ, pos}
use lib.ListN.{length, take, drop, get_or, replicate, length-append, length-take, length-drop}
use lib.Seq.{take-append-le, length-take-le}
use borrow.Author.Tests.{leb-true}
use Rattle.base.specs.declared.Refusal.{Refusal}
use Rattle.base.specs.Replies.{Check, in_turn}
use Rattle.base.proofs.Fill.{length-made}
use Rattle.matrix.specs.Limits.{max_rows}
use Rattle.matrix.specs.Matrix.{Matrix}
use Rattle.run.specs.Job.{job_of}
use Rattle.run.specs.Machine.{over, original}
use Rattle.base.specs.Lists.{position_of}
use Rattle.run.specs.State.{State}
use Rattle.run.specs.Calls.{picked_of, passed_of, ready_of, forces_of, answer_of, state_check, answer, job_checks, answer_lent}
use Rattle.run.specs.Answers.{Answer, forces, denied, shown}
use Rattle.calls.specs.Performed.{as_call, as_answer, Performed}
use Rattle.calls.specs.declared.Call as asked
use Rattle.calls.specs.declared.Call.TheVariants.{Picks, ReadySet, ForceList, Preview, Rounds}
use Rattle.calls.specs.declared.Response.{Response}
use Rattle.calls.specs.declared.Response.TheVariants.{Picked, Ready, Forces, Previewed}
use Rattle.std.proofs.Common.{Result, Ok, Err}
use Rattle.answers.specs.Code.Ran.{ForcesFit}

-- forces are n, and there is room for them
abbrev Given : (n room : ℕ) → Answer → Type 0
Given n room a = (zs : List ℤ) → a ≡ forces zs → (length zs ≡ n) × (n ≤ room)

-- checks that refuse give no others
given-turn : (n room : ℕ) (cs : List Check) (a : Answer) → Given n room a → Given n room (in_turn denied cs a)
unfolding in_turn
given-turn n room [] a g = g
given-turn n room (c ∷ cs) a g = go c.holds (given-turn n room cs a g)
  where
    go : (b : Bool) → Given n room (in_turn denied cs a) → Given n room (cond b (in_turn denied cs a) (denied c.number c.place))
    go true h = h
    go false h = λ zs e. absurd (let z : ◌≡◌ {A = ℕ} 0 1 = cc in omega arith)

given : (m : Matrix) (x : List ℤ) (order groups : List ℕ) (count : ℕ) (s : State) (call : asked.Call) (ws : List ℕ) (room : ℕ) → Given m.n room (answer_lent m x order groups count s (as_call call ws room))
unfolding answer_lent answer answer_of picked_of passed_of ready_of job_of forces_of original shown
given m x order groups count s call ws room =
    let j = job_of m x order groups count in
    given-turn m.n room (job_checks m x order groups count) _ (given-turn m.n room (state_check j s) _ (of call))
  where
    go : (a b : Bool) → leb m.n room ≡ b → Given m.n room (forces_of a b m.n (original (job_of m x order groups count) s.sums))
    go false b e zs f = absurd (let z : ◌≡◌ {A = ℕ} 0 1 = cc in omega arith)
    go true false e zs f = absurd (let z : ◌≡◌ {A = ℕ} 0 1 = cc in omega arith)
    go true true e zs f =
        let made = original (job_of m x order groups count) s.sums in
        let same : made ≡ zs = cc in
        (ap length (sym same) ∙ length-made (λ i. get_or s.sums (position_of (job_of m x order groups count).plan.order i) (pos 0)) [] m.n, leb-true m.n room e)

    of : (c : asked.Call) → Given m.n room (answer_of (job_of m x order groups count) s (as_call c ws room))
    of Picks zs f = absurd (let z : ◌≡◌ {A = ℕ} 0 1 = cc in omega arith)
    of ReadySet zs f = absurd (let z : ◌≡◌ {A = ℕ} 0 1 = cc in omega arith)
    of Preview zs f = absurd (let z : ◌≡◌ {A = ℕ} 0 1 = cc in omega arith)
    of Rounds zs f = absurd (let z : ◌≡◌ {A = ℕ} 0 1 = cc in omega arith)
    of ForceList zs f = go (over (job_of m x order groups count) s.made) (leb m.n room) refl zs f

-- a call that has the first part of an array for its forces
module _ {m : Matrix} {x : List ℤ} {order groups : List ℕ} {count : ℕ} {s : State} (call : asked.Call) (ws : List ℕ) (size : ℕ) {old : List ℤ} (answer : Result Response Refusal) {t : State} {part : List ℤ}
    (h : Performed m x order groups count s (as_call call ws size) old (as_answer answer (take m.n part)) t part) where
  enough : answer ≡ Ok Forces → (m.n ≤ length part) × (m.n ≤ size)
  enough f =
      let g = given m x order groups count s call ws size (take m.n part) (sym h.answers ∙ ap (λ (r : Result Response Refusal). as_answer r (take m.n part)) f) in
      (omega (arith, g.0, length-take m.n part), g.1)

  -- what is asked before they are stored
  pub forces_fit : (rest : List ℤ) (bytes : List ℕ) → size ≤ length bytes / 8 → ForcesFit m.n answer (part ++ rest) bytes
  forces_fit rest bytes r f = let e = enough f in (omega (arith, e.0, length-append part rest), omega (arith, e.1))

  -- they are the array's first
  pub performed_made : (rest : List ℤ) → Performed m x order groups count s (as_call call ws size) old (as_answer answer (take m.n (part ++ rest))) t part
  performed_made rest = record { answers = go answer refl ∙ h.answers; leaves = h.leaves; forces = h.forces }
    where
      go : (r : Result Response Refusal) → answer ≡ r → as_answer r (take m.n (part ++ rest)) ≡ as_answer r (take m.n part)
      go (Ok Forces) f = ap forces (take-append-le m.n part rest (enough f).0)
      go (Ok (Picked k x)) f = refl
      go (Ok (Ready b k)) f = refl
      go (Ok (Previewed t x b k)) f = refl
      go (Err x) f = refl

-- ---- the array

-- as many zeros as the longest matrix has rows; the first k of them are lent on
abbrev pub zeros : List ℤ
zeros = replicate max_rows (pos 0)

zeros-long : length zeros ≡ max_rows
zeros-long = refl

module _ (k room : ℕ) (e : k ≡ min room max_rows) where
  pub lent_on : length (take k zeros) ≡ k
  lent_on = let l = zeros-long in length-take-le k zeros (omega arith)

  -- the array after the call
  pub array_long : (part : List ℤ) → length part ≡ length (take k zeros) → length (part ++ drop k zeros) ≡ max_rows
  array_long part l = omega (arith, zeros-long, lent_on, length-append part (drop k zeros), length-drop k zeros)
