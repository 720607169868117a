-- Two machines that answer each call alike answer a sequence of calls alike.
use mathlib.Core.Path.{◌≡◌, refl}
use mathlib.Core.List.{List, [], ◌∷◌}
use Rattle.run.specs.Sequence.{answers_from, state_after}

-- `held` says how the second keeps a state of the first; Met is kept by every call
module _ {S T C A : Type 0} (answer : S → C → A) (after : S → C → S) (answer' : T → C → A) (after' : T → C → T) (held : S → T) (Met : S → Type 0)
    (answered : (s : S) → Met s → (c : C) → answer' (held s) c ≡ answer s c) (left : (s : S) → Met s → (c : C) → after' (held s) c ≡ held (after s c))
    (kept : (s : S) → Met s → (c : C) → Met (after s c)) where
  pub all_answered : (s : S) → Met s → (cs : List C) → answers_from answer' after' (held s) cs ≡ answers_from answer after s cs
  unfolding answers_from
  all_answered s k [] = refl
  all_answered s k (c ∷ cs) = rw (answered s k c, left s k c, all_answered (after s c) (kept s k c) cs)

  pub all_left : (s : S) → Met s → (cs : List C) → state_after after' (held s) cs ≡ held (state_after after s cs)
  unfolding state_after
  all_left s k [] = refl
  all_left s k (c ∷ cs) = rw (left s k c) (all_left (after s c) (kept s k c) cs)

  pub all-met : (s : S) → Met s → (cs : List C) → Met (state_after after s cs)
  unfolding state_after
  all-met s k [] = k
  all-met s k (c ∷ cs) = all-met (after s c) (kept s k c) cs
