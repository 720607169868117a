-- `read_line` meets its contract.
use mathlib.Core.Bool.{not}
use Rattle.std.proofs.Common.{◌≡◌, ℕ, ◌+◌, ◌<◌, Bool, true, false, eqb, length, get_or, drop, sym, ap, ◌∙◌, arith, w64, Fits, eq-eqb, ne_eqb}
use mir.Val.{bool_byte}
use Rattle.base.proofs.Booleans.{fails, holds}
use Rattle.market.specs.Bytes.{is_sign, is_end}
use Rattle.market.specs.Fields.{digits}
use Rattle.numbers.specs.Lines.{is_spelled}
use Rattle.numbers.proofs.line.Numbers.{sign_inside, end_inside, line-none, line_unended, line-negative, line_plain}
use Rattle.numbers.proofs.line.read_line.Goals as goal

pub overflow_add-first : goal.overflow_add-first
overflow_add-first c = go (eqb c.class_at-signed.result 2) (ap (λ (x : ℕ). eqb x 2) (sym c.class_at-signed.ensures))
  where
    go : (t : Bool) → is_sign (get_or c.args.text.now c.args.at 0) ≡ t → Fits w64 (c.args.at + bool_byte t)
    go true e = omega (arith, sign_inside c.args.text.now c.args.at e)
    go false e = omega arith

pub returns-then-not-is_whole : goal.returns-then-not-is_whole
returns-then-not-is_whole c =
    let signed : is_sign (get_or c.args.text.now c.args.at 0) ≡ eqb c.class_at-signed.result 2 = ap (λ (x : ℕ). eqb x 2) (sym c.class_at-signed.ensures) in
    line-none _ _ signed c.read_digits-found.ensures.0 c.read_digits-found.ensures.1 (fails c.is_whole.ensures (ap not c.if-not-is_whole.true))

pub returns-then-class_at-ne-LINE_END : goal.returns-then-class_at-ne-LINE_END
returns-then-class_at-ne-LINE_END c =
    let signed : is_sign (get_or c.args.text.now c.args.at 0) ≡ eqb c.class_at-signed.result 2 = ap (λ (x : ℕ). eqb x 2) (sym c.class_at-signed.ensures) in
    line_unended _ _ signed c.read_digits-found.ensures.0 c.read_digits-found.ensures.1 (holds c.is_whole.ensures (ap not c.if-not-is_whole.false)) (ne_eqb _ 4 (λ e. c.if-class_at-ne-LINE_END.true (c.class_at.ensures ∙ e)))

pub overflow_add-next : goal.overflow_add-next
overflow_add-next c =
    let end : is_end (get_or c.args.text.now c.read_digits-found.result.next 0) ≡ true = eq-eqb _ 4 (sym c.class_at.ensures ∙ c.if-class_at-ne-LINE_END.false) in
    let ended : c.read_digits-found.result.next < length c.args.text.now = end_inside c.args.text.now c.read_digits-found.result.next end in
    omega (arith, ended)

pub returns-then-signed : goal.returns-then-signed
returns-then-signed c =
    let signed : is_sign (get_or c.args.text.now c.args.at 0) ≡ eqb c.class_at-signed.result 2 = ap (λ (x : ℕ). eqb x 2) (sym c.class_at-signed.ensures) in
    let whole : is_spelled (digits (drop (c.args.at + bool_byte (eqb c.class_at-signed.result 2)) c.args.text.now)) ≡ true = holds c.is_whole.ensures (ap not c.if-not-is_whole.false) in
    let end : is_end (get_or c.args.text.now c.read_digits-found.result.next 0) ≡ true = eq-eqb _ 4 (sym c.class_at.ensures ∙ c.if-class_at-ne-LINE_END.false) in
    c.negated.ensures ∙ line-negative _ _ signed c.read_digits-found.ensures.0 c.read_digits-found.ensures.1 whole end (eq-eqb _ 2 c.if-signed.true)

pub overflow_add-next-2 : goal.overflow_add-next-2
overflow_add-next-2 c =
    let end : is_end (get_or c.args.text.now c.read_digits-found.result.next 0) ≡ true = eq-eqb _ 4 (sym c.class_at.ensures ∙ c.if-class_at-ne-LINE_END.false) in
    let ended : c.read_digits-found.result.next < length c.args.text.now = end_inside c.args.text.now c.read_digits-found.result.next end in
    omega (arith, ended)

pub returns : goal.returns
returns c =
    let signed : is_sign (get_or c.args.text.now c.args.at 0) ≡ eqb c.class_at-signed.result 2 = ap (λ (x : ℕ). eqb x 2) (sym c.class_at-signed.ensures) in
    let whole : is_spelled (digits (drop (c.args.at + bool_byte (eqb c.class_at-signed.result 2)) c.args.text.now)) ≡ true = holds c.is_whole.ensures (ap not c.if-not-is_whole.false) in
    let end : is_end (get_or c.args.text.now c.read_digits-found.result.next 0) ≡ true = eq-eqb _ 4 (sym c.class_at.ensures ∙ c.if-class_at-ne-LINE_END.false) in
    c.plain.ensures ∙ line_plain _ _ signed c.read_digits-found.ensures.0 c.read_digits-found.ensures.1 whole end (ne_eqb _ 2 c.if-signed.false)
