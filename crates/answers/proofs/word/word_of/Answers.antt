-- `word_of` meets its contract, case by case.
use mathlib.Core.Path.{◌≡◌, refl}
use mathlib.Core.List.{[]}
use Rattle.std.proofs.Common.{Ok}
use Rattle.calls.specs.Performed.{as_answer}
use Rattle.calls.specs.declared.Response.TheVariants.{Picked, Previewed}
use Rattle.answers.proofs.word.word_of.Goals as goal

pub word_of_end-requires : goal.word_of_end-requires
word_of_end-requires c =
    let e : as_answer c.args.answer [] ≡ as_answer (Ok (Picked c.in-Picked.taken c.in-Picked.stop)) [] = rw (c.in-Ok.is, c.in-Picked.is) refl in
    c.requires.0 _ _ _ e

pub word_of_end-requires-in-Previewed : goal.word_of_end-requires-in-Previewed
word_of_end-requires-in-Previewed c =
    let p = c.in-Previewed in
    let e : as_answer c.args.answer [] ≡ as_answer (Ok (Previewed p.taken p.stop p.field-2 p.field-3)) [] = rw (c.in-Ok.is, c.in-Previewed.is) refl in
    (c.requires.1 _ _ _ _ _ e).place_low
