-- `picks`: in small tables if the schedule is short, or in those of every matrix.
use mathlib.Core.Path.{◌≡◌, refl, ◌∙◌}
use mathlib.Core.Logic.{◌≢◌}
use native.Mathlib.Omega.{arith}
use Rattle.std.proofs.Common.{Option, Some, None, IsSome, MatchOption}
use Rattle.base.proofs.Lists.{get_d_zeros}
use Rattle.matrix.specs.Limits.{max_rows}
use Rattle.matrix.proofs.Checks.{shape, matrix_tidy}
use Rattle.run.specs.Job.{job_of}
use Rattle.tables.specs.Code.Laid.{max_updates}
use borrow.Author.Rules.{rules}
use Rattle.calls.proofs.picks.picks.Goals as goal
use Rattle.calls.proofs.picks.picks.Goals.{Joined-is_short, then-is_short+in_default, else-is_short}

-- nothing was taken in the small tables
same : (c : Joined-is_short) → (c.if-is_short.state ≡ c.args.state.now) × (c.if-is_short.sums ≡ c.args.sums.now)
same c = elim c.if-is_short.branch [
  | then-is_short+in_default w ↦ (let h = rw w.in_default.is at w.laid_picks.ensures in (w.state-is ∙ h.0, w.sums-is ∙ h.1))
  | else-is_short w ↦ (w.state-is, w.sums-is)
]

-- there is room in the others
fits : {A : Type 0} (P Q : Type 0) (R : A → Type 0) (r : Option A) → MatchOption r (P × Q × (max_updates ≢ max_updates)) R → IsSome r
fits P Q R (Some x) h = search rules
fits P Q R None h = absurd (h.2 refl)

pub is_short-requires : goal.is_short-requires
unfolding job_of
is_short-requires c = let g = c.requires.0 in (shape _ (matrix_tidy _ g.accepted.matrix).shape).starts-long

pub laid_picks-requires : goal.laid_picks-requires
laid_picks-requires c =
    (search rules, (c.requires.0, c.requires.1, get_d_zeros max_rows, get_d_zeros max_rows, λ l. c.is_short.ensures c.if-is_short.true))

pub laid_picks-requires-2 : goal.laid_picks-requires-2
laid_picks-requires-2 c =
    let s = same (goal.at.laid_picks-requires-2 c).Joined-is_short in
    (search rules, (c.requires.0, rw s.1 c.requires.1, get_d_zeros max_rows, get_d_zeros max_updates, λ l. absurd (omega arith)))

pub unwrap-requires : goal.unwrap-requires
unwrap-requires c = fits _ _ _ c.laid_picks-2.result c.laid_picks-2.ensures

pub returns : goal.returns
returns c zs =
    let s = same (goal.at.returns c).Joined-is_short in
    rw (s.0, s.1) at ((rw c.unwrap.ensures at c.laid_picks-2.ensures) zs)
