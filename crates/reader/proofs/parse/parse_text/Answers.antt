-- `parse_text` meets its contract.
use mathlib.Core.Path.{◌≡◌, sym, ◌∙◌}
use mathlib.Core.Bool.{true}
use native.Mathlib.Omega.{arith}
use Rattle.base.specs.Lists.{begins}
use Rattle.market.specs.Bytes.{header}
use Rattle.reader.proofs.parse.Sizes.{too_long, no_header, header-there, then_size}
use Rattle.reader.proofs.parse.parse_text.Goals as goal

pub returns-then-s-gt-MAX_TEXT : goal.returns-then-s-gt-MAX_TEXT
returns-then-s-gt-MAX_TEXT c = too_long c.args.s.now c.if-s-gt-MAX_TEXT.true

pub returns-then-not-has_header : goal.returns-then-not-has_header
returns-then-not-has_header c =
    no_header c.args.s.now c.if-s-gt-MAX_TEXT.false (sym c.has_header.ensures ∙ c.if-not-has_header.true)

pub skip_comments-start-requires : goal.skip_comments-start-requires
skip_comments-start-requires c =
    let there : begins c.args.s.now header ≡ true = sym c.has_header.ensures ∙ c.if-not-has_header.false in
    (omega arith, header-there c.args.s.now there, c.if-s-gt-MAX_TEXT.false)

pub returns : goal.returns
returns c =
    let there : begins c.args.s.now header ≡ true = sym c.has_header.ensures ∙ c.if-not-has_header.false in
    then_size c.args.s.now c.if-s-gt-MAX_TEXT.false there c.skip_comments-start.result.line c.skip_comments-start.result.pos c.skip_comments-start.ensures.rest ∙ c.parse_size.ensures
