-- Laws of a schedule on any machine.
use mathlib.Core.Path.{◌≡◌, refl, sym, ap, ◌∙◌}
use mathlib.Core.Bool.{Bool, true, false}
use mathlib.Core.List.{List, [], ◌∷◌}
use Prim.Native.Nat.{ℕ, suc, ◌+◌, ◌<◌}
use native.Mathlib.Omega.{arith}
use lib.ListN.{length, get_or, drop}
use lib.Seq.{drop-cons, drop-length}
use Rattle.run.specs.Machine.{Outcome, moved, halted}
use Rattle.run.specs.Schedule.{Passed, one_taken, one_skipped, pass}

module _ {S : Type 0} (skips : ℕ → Bool) (step : S → ℕ → Outcome S) where
  -- what the first pick makes of it
  module _ (s : S) (w : ℕ) (ws : List ℕ) where
    -- it is taken
    pub pass_on : (t : S) → step s w ≡ moved t → pass skips step s (w ∷ ws) ≡ one_taken (pass skips step t ws)
    unfolding pass
    pass_on t e = rw (e, pass)

    -- it is skipped
    pub pass_skip : (k : ℕ) → step s w ≡ halted k → skips k ≡ true → pass skips step s (w ∷ ws) ≡ one_skipped (pass skips step s ws)
    unfolding pass
    pass_skip k e h = rw (e, h, pass)

    -- it ends the call
    pub pass_end : (k : ℕ) → step s w ≡ halted k → skips k ≡ false → pass skips step s (w ∷ ws) ≡ record { state = s; taken = 0; met = 0; number = k }
    unfolding pass
    pass_end k e h = rw (e, h, pass)

  -- what every step keeps, a schedule keeps
  pub pass-keeps : (P : S → Type 0) → ((s : S) (w : ℕ) (t : S) → step s w ≡ moved t → P s → P t) → (s : S) (ws : List ℕ) → P s → P (pass skips step s ws).state
  unfolding pass one_taken one_skipped
  pass-keeps P keeps s [] p = p
  pass-keeps P keeps s (w ∷ ws) p = go (step s w) refl (λ t. pass-keeps P keeps t ws)
    where
      go : (o : Outcome S) → step s w ≡ o → ((t : S) → P t → P (pass skips step t ws).state) → P (pass skips step s (w ∷ ws)).state
      go (moved t) e ih = rw (pass_on s w ws t e) (ih t (keeps s w t e p))
      go (halted k) e ih = by (skips k) refl
        where
          by : (b : Bool) → skips k ≡ b → P (pass skips step s (w ∷ ws)).state
          by true h = rw (pass_skip s w ws k e h) (ih s p)
          by false h = rw (pass_end s w ws k e h) p

  -- ---- pick by pick: what is left decides, after k picks of ws, n of them taken, from s₀ to s

  module _ (s₀ : S) (ws : List ℕ) where
    pub record Left (k n : ℕ) (s : S) : Type 0 where
      pub state : (pass skips step s₀ ws).state ≡ (pass skips step s (drop k ws)).state
      pub taken : (pass skips step s₀ ws).taken ≡ n + (pass skips step s (drop k ws)).taken
      pub met : (pass skips step s₀ ws).met ≡ k + (pass skips step s (drop k ws)).met
      pub number : (pass skips step s₀ ws).number ≡ (pass skips step s (drop k ws)).number

    -- at first
    pub left-start : Left 0 0 s₀
    left-start = record { state = refl; taken = omega arith; met = omega arith; number = refl }

    module _ (k n : ℕ) (s : S) (left : Left k n s) where
      ends : (q : ℕ) → pass skips step s (drop k ws) ≡ record { state = s; taken = 0; met = 0; number = q } → record { state = s; taken = n; met = k; number = q } ≡ pass skips step s₀ ws
      ends q e = λ i. record { state = sym state i; taken = sym taken i; met = sym met i; number = sym number i }
        where
          state : (pass skips step s₀ ws).state ≡ s
          state = left.state ∙ ap (λ (r : Passed S). r.state) e

          taken : (pass skips step s₀ ws).taken ≡ n
          taken = left.taken ∙ ap (λ (r : Passed S). n + r.taken) e ∙ omega arith

          met : (pass skips step s₀ ws).met ≡ k
          met = left.met ∙ ap (λ (r : Passed S). k + r.met) e ∙ omega arith

          number : (pass skips step s₀ ws).number ≡ q
          number = left.number ∙ ap (λ (r : Passed S). r.number) e

      -- all picks are met
      pub left-none : k ≡ length ws → record { state = s; taken = n; met = k; number = 0 } ≡ pass skips step s₀ ws
      unfolding pass
      left-none e = ends 0 (ap (pass skips step s) (ap (λ (y : ℕ). drop y ws) e ∙ drop-length ws))

      module _ (l : k < length ws) where
        -- the next one is taken
        pub left_step : (t : S) → step s (get_or ws k 0) ≡ moved t → Left (suc k) (suc n) t
        unfolding one_taken
        left_step t e =
            let one : pass skips step s (drop k ws) ≡ one_taken (pass skips step t (drop (suc k) ws)) = ap (pass skips step s) (drop-cons ws k 0 l) ∙ pass_on s (get_or ws k 0) (drop (suc k) ws) t e in
            record {
              state = left.state ∙ ap (λ (r : Passed S). r.state) one;
              taken = left.taken ∙ ap (λ (r : Passed S). n + r.taken) one ∙ omega arith;
              met = left.met ∙ ap (λ (r : Passed S). k + r.met) one ∙ omega arith;
              number = left.number ∙ ap (λ (r : Passed S). r.number) one;
            }

        -- .. or skipped
        pub left_skip : (q : ℕ) → step s (get_or ws k 0) ≡ halted q → skips q ≡ true → Left (suc k) n s
        unfolding one_skipped
        left_skip q e h =
            let one : pass skips step s (drop k ws) ≡ one_skipped (pass skips step s (drop (suc k) ws)) = ap (pass skips step s) (drop-cons ws k 0 l) ∙ pass_skip s (get_or ws k 0) (drop (suc k) ws) q e h in
            record {
              state = left.state ∙ ap (λ (r : Passed S). r.state) one;
              taken = left.taken ∙ ap (λ (r : Passed S). n + r.taken) one;
              met = left.met ∙ ap (λ (r : Passed S). k + r.met) one ∙ omega arith;
              number = left.number ∙ ap (λ (r : Passed S). r.number) one;
            }

        -- .. or ends the call
        pub left_halt : (q : ℕ) → step s (get_or ws k 0) ≡ halted q → skips q ≡ false → record { state = s; taken = n; met = k; number = q } ≡ pass skips step s₀ ws
        left_halt q e h = ends q (ap (pass skips step s) (drop-cons ws k 0 l) ∙ pass_end s (get_or ws k 0) (drop (suc k) ws) q e h)
