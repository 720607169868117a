-- `survey_of` meets its contract, by the reply.
use mathlib.Core.Path.{◌≡◌, ap, ◌∙◌}
use Prim.Native.Nat.{ℕ}
use native.Mathlib.Omega.{arith}
use Rattle.std.specs.Prelude.{Result}
use borrow.Author.Tests.{eq-eqb, ne_eqb}
use Rattle.base.specs.Verdicts.{reply_of}
use Rattle.base.specs.declared.Refusal.{Refusal}
use Rattle.matrix.specs.Held.{held}
use Rattle.lent.specs.Word.{word}
use Rattle.desk.proofs.Surveys.{size_of, same-reply, survey-refused, survey-holds, survey-stored}
use Rattle.desk.proofs.reach.survey_of.Goals as goal
use Rattle.desk.proofs.reach.survey_of.Goals.{then-written-eq0, else-written-eq0}

pub returns-in_default : goal.returns-in_default
returns-in_default c =
    let a = c.args in
    survey-refused (same-reply (held a.roof.now.net) a.roof.now.displacements.now a.asked.t a.asked.row a.sums.now a.moves.now a.amounts.now a.shift.now (c.told-sums, c.told-moves) c.min-amounts_room.ensures c.min-shift_room.ensures)
    c.in_default.ensures.reply (c.word_of.ensures ∙ ap (λ (r : Result ℕ Refusal). word (reply_of r)) c.in_default.is)

pub shared_ref_as_front-store : goal.shared_ref_as_front-store
shared_ref_as_front-store c =
    let h = survey-holds c.args.sums.now c.args.moves.now (c.told-sums, c.told-moves) c.min-amounts_room.ensures c.min-shift_room.ensures c.in-Ok.ensures.reply c.survey-answer.ensures.lent_amounts c.survey-answer.ensures.lent_shift in
    omega (arith, h.few)

pub shared_ref_as_front-store-2 : goal.shared_ref_as_front-store-2
shared_ref_as_front-store-2 c =
    let h = survey-holds c.args.sums.now c.args.moves.now (c.told-sums, c.told-moves) c.min-amounts_room.ensures c.min-shift_room.ensures c.in-Ok.ensures.reply c.survey-answer.ensures.lent_amounts c.survey-answer.ensures.lent_shift in
    let sized : c.if-written-eq0.size ≡ size_of c.in-Ok.written c.args.roof.now.net.n = elim c.if-written-eq0.branch [
      | then-written-eq0 w ↦ rw (eq-eqb c.in-Ok.written 0 w.if-written-eq0.true) w.size-is
      | else-written-eq0 w ↦ rw (ne_eqb c.in-Ok.written 0 w.if-written-eq0.false) w.size-is
    ] in
    omega (arith, h.shift-few, sized)

pub returns : goal.returns
returns c =
    let h = survey-holds c.args.sums.now c.args.moves.now (c.told-sums, c.told-moves) c.min-amounts_room.ensures c.min-shift_room.ensures c.in-Ok.ensures.reply c.survey-answer.ensures.lent_amounts c.survey-answer.ensures.lent_shift in
    let sized : c.if-written-eq0.size ≡ size_of c.in-Ok.written c.args.roof.now.net.n = elim c.if-written-eq0.branch [
      | then-written-eq0 w ↦ rw (eq-eqb c.in-Ok.written 0 w.if-written-eq0.true) w.size-is
      | else-written-eq0 w ↦ rw (ne_eqb c.in-Ok.written 0 w.if-written-eq0.false) w.size-is
    ] in
    survey-stored h sized c.word_of-2.ensures c.store.ensures c.store-2.ensures
