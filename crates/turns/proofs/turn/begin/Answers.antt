-- `turn::begin` meets its contract.
use mathlib.Core.Path.{◌≡◌, refl, sym, ap, ◌∙◌}
use Prim.Native.Nat.{ℕ, ◌*◌}
use native.Mathlib.Omega.{arith}
use lib.ListN.{get_or}
use Rattle.std.proofs.Common.{Err}
use Rattle.tables.specs.Code.Laid.{updates_in}
use Rattle.steps.specs.Code.Steps.{told}
use Rattle.steps.proofs.TableSteps.{not_told, reason-none}
use Rattle.steps.proofs.UpdatesAtHand.{put_at_hand, put_known, target-low}
use Rattle.crews.specs.Crews.{unless_away}
use Rattle.turns.specs.Code.Inside.{cause_in, inside_in}
use Rattle.turns.proofs.CrewTurns.{never_away, counts_first, away_alone}
use Rattle.turns.proofs.turn.begin.Goals as goal

-- its update is at hand
pub returns-then-hands-w-lt-NONE : goal.returns-then-hands-w-lt-NONE
returns-then-hands-w-lt-NONE c =
    let l = c.if-hands-w-lt-NONE.true in
    let h = c.requires.1 in
    record { told = sym (h.is c.args.w c.requires.0 l).free; known = λ q. l; hand = h }

pub returns-in_err-standstill : goal.returns-in_err-standstill
returns-in_err-standstill c =
    let a = c.args in
    let up : c.from_residual.result ≡ Err c.in_err-standstill.field-0.0 = grind arith in
    let number : told c.from_residual.result ≡ told c.standstill.result = rw (up, c.in_err-standstill.was) refl in
    let some = λ (q : told c.from_residual.result ≡ 0). not_told _ (rw up at q) in
    record {
      told = counts_first _ (inside_in a.work.now.course a.other.now a.w) some ∙ ap (λ (k : ℕ). unless_away k (inside_in a.work.now.course a.other.now a.w)) (number ∙ c.standstill.ensures);
      known = λ z. absurd (some z);
      hand = c.requires.1;
    }

pub is_inside-requires : goal.is_inside-requires
is_inside-requires c = let k = c.args.work.now.placed in (c.requires.0, (_, _, record { bounded = k.bounded; begun = k.begun }))

pub returns-then-is_inside : goal.returns-then-is_inside
returns-then-is_inside c =
    record {
      told = rw (sym c.in_ok-standstill.ensures, sym c.is_inside.ensures ∙ c.if-is_inside.true) (sym away_alone);
      known = λ z. absurd (omega arith);
      hand = c.requires.1;
    }

pub look_up-requires : goal.look_up-requires
look_up-requires c =
    let a = c.args in
    (c.requires.0, (reason-none a.w 16 (get_or a.made.now a.w 0) (2 * updates_in a.work.now.course.tables.first.now a.w) _ (sym c.in_ok-standstill.ensures)).1)

pub returns : goal.returns
returns c =
    let a = c.args in
    let k = a.work.now in
    let t = k.course.tables in
    let low = target-low 16 t.first.now t.row.now t.begins.now k.entries.parts.now t.leaves.now a.blocks.now k.displaced.now k.entries.at.now k.entries.beside.now k.placed a.made.now a.w in
    let free : cause_in k.course a.blocks.now a.other.now a.made.now a.w ≡ 0 = rw (sym c.is_inside.ensures ∙ c.if-is_inside.false) (never_away _ ∙ sym c.in_ok-standstill.ensures) in
    rw (c.look_up.ensures.targets, c.look_up.ensures.adds)
    (record {
      told = sym free;
      known = λ q. put_known a.w c.requires.0 c.requires.1 (omega (arith, low, k.placed.bounded.rows_few));
      hand = put_at_hand a.w c.requires.0 c.requires.1 free;
    })
