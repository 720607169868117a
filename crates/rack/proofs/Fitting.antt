-- What picks and rounds tell of a job fits their word.
use mathlib.Core.Path.{◌≡◌, refl, sym, ap, ap₂, ◌∙◌}
use mathlib.Core.Bool.{Bool, true, false, cond}
use mathlib.Core.List.{List}
use Prim.Native.Nat.{ℕ, zero, suc, ◌+◌, ◌*◌, ◌%◌, ◌^◌, ◌<◌}
use native.Mathlib.Omega.{arith}
use lib.Dec.{eqb}
use lib.IntN.{ℤ}
use lib.ListN.{length, take}
use lib.Seq.{length-take-le}
use borrow.Author.Tests.{eqb-true}
use Rattle.base.specs.Refusals as why
use Rattle.base.specs.Replies.{in_turn}
use Rattle.matrix.specs.Matrix.{Matrix}
use Rattle.plan.specs.Sound.{max_workers}
use Rattle.run.specs.Answers.{Call, Answer, picked, is_ready, forces, denied, previewed}
use Rattle.run.specs.Calls.{job_checks, answer_lent}
use Rattle.words.specs.LittleEndian.{number}
use Rattle.words.proofs.Blocks.{length_decoded}
use Rattle.answers.specs.Runs.{count_bytes, state_bytes, state_in, answer_in, round_word}
use Rattle.answers.specs.Code.Ran.{Plain}
use Rattle.answers.proofs.RunCalls.{always_refused}
use Rattle.answers.proofs.RunPicks.{picked_low, picked-few}
use Rattle.rack.specs.Kept.{fitting}

-- moves, and but for rounds the place of an ending
pub record Fits (c : Call) (t p : ℕ) : Type 0 where
  pub moves : t < 2 ^ 24
  pub place : Plain c → p < 2 ^ 32

abbrev pub Told : Call → Answer → Type 0
Told c a = (t q p : ℕ) → a ≡ picked t q p → Fits c t p

module _ (m : Matrix) (x : List ℤ) (order groups : List ℕ) (count : ℕ) (state sums : List ℕ) (c : Call) where
  pub told-fits : Told c (answer_in m x order groups count state sums c)
  unfolding answer_in
  told-fits t q p e = go (eqb (length state) state_bytes) refl e
    where
      go : (b : Bool) → eqb (length state) state_bytes ≡ b
          → cond b (answer_lent m x order groups count (state_in state sums) c) (in_turn denied (job_checks m x order groups count) (denied why.not_state 0)) ≡ picked t q p → Fits c t p
      go true w f =
          let whole = eqb-true (length state) state_bytes w in
          let sixteen : length (state_in state sums).made ≡ max_workers = rw (length_decoded number 4 (take count_bytes state), length-take-le count_bytes state (omega (arith, whole))) in
          record {
            moves = (picked-few m x order groups count (state_in state sums) c (sym f) sixteen).0;
            place = λ plain. picked_low m x order groups count (state_in state sums) c (sym f) sixteen plain;
          }
      go false w f =
          let r = always_refused (job_checks m x order groups count) why.not_state 0 in
          let same : denied r.0 r.1 ≡ picked t q p = sym r.2 ∙ f in
          absurd (let z : ◌≡◌ {A = ℕ} 0 1 = cc in omega arith)

module _ (c : Call) where
  pub fitting-same : Plain c → (a : Answer) → Told c a → fitting a ≡ a
  unfolding fitting
  fitting-same plain (picked t q p) h =
      let f = h t q p refl in
      let moves : t % 2 ^ 24 ≡ t = omega (arith, f.moves) in
      let place : p % 2 ^ 32 ≡ p = omega (arith, f.place plain) in
      ap₂ (λ (k i : ℕ). picked k q i) moves place
  fitting-same plain (is_ready bits n) h = refl
  fitting-same plain (forces zs) h = refl
  fitting-same plain (denied q p) h = refl
  fitting-same plain (previewed t q p b n) h = refl

  pub round_same : (a : Answer) → Told c a → round_word (fitting a) ≡ round_word a
  unfolding fitting round_word
  round_same (picked t zero p) h =
      let moves : t % 2 ^ 24 ≡ t = omega (arith, (h t 0 p refl).moves) in
      ap (λ (k : ℕ). k + k * 2 ^ 40) moves
  round_same (picked t (suc q) p) h =
      let moves : t % 2 ^ 24 ≡ t = omega (arith, (h t (suc q) p refl).moves) in
      let place : p % 2 ^ 32 % 2 ^ 32 ≡ p % 2 ^ 32 = omega arith in
      ap₂ (λ (k i : ℕ). i + suc q * 2 ^ 32 + k * 2 ^ 40) moves place
  round_same (is_ready bits n) h = refl
  round_same (forces zs) h = refl
  round_same (denied q p) h = refl
  round_same (previewed t q p b n) h = refl
