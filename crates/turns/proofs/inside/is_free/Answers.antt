-- `is_free` meets its contract.
use mathlib.Core.Path.{sym, ap, ◌∙◌}
use Prim.Native.Nat.{ℕ}
use lib.Dec.{eqb}
use borrow.Author.Tests.{ne_eqb}
use Rattle.steps.proofs.TableSteps.{told_none}
use Rattle.turns.proofs.CrewTurns.{always_away, never_away}
use Rattle.turns.proofs.inside.is_free.Goals as goal

pub is_inside-requires : goal.is_inside-requires
is_inside-requires c = (c.requires.0, (_, _, c.requires.1))

pub returns-then-is_inside : goal.returns-then-is_inside
returns-then-is_inside c = rw (sym c.is_inside.ensures ∙ c.if-is_inside.true) (sym (ne_eqb _ 0 (always_away _)))

pub returns : goal.returns
returns c =
    rw (sym c.is_inside.ensures ∙ c.if-is_inside.false, never_away _) (c.is_ok.ensures.value ∙ told_none _ ∙ ap (λ (k : ℕ). eqb k 0) c.refusal.ensures)
