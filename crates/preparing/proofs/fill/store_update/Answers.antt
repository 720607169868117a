-- `store_update` meets its contract: its three parts one after the other.
use mathlib.Core.Path.{ap, ◌∙◌}
use mathlib.Core.List.{List}
use Prim.Native.Nat.{ℕ, ◌+◌}
use lib.IntN.{ℤ}
use lib.Seq.{sets}
use mir.Syntax.{w64}
use mir.Val.{SFits}
use mir.Facts.{to_z-of_z}
use Rattle.words.specs.LittleEndian.{bytes_of, signed_bytes_of}
use Rattle.words.proofs.Digits.{length-bytes_of, length-signed_bytes_of}
use Rattle.prepared.specs.Format.{bytes_of_update}
use Rattle.preparing.proofs.Fills.{update-written}
use borrow.Author.Rules.{rules}
use Rattle.preparing.proofs.fill.store_update.Goals as goal

pub returns : goal.returns
unfolding bytes_of_update
returns c =
    let amount-fits : SFits w64 c.args.amount = search rules in
    let a = c.args in
    let A : List ℕ = signed_bytes_of 8 a.amount in
    let first = c.write.ensures ∙ ap (λ (z : ℤ). sets a.out.now a.at (signed_bytes_of 8 z)) (to_z-of_z amount-fits) in
    c.write-3.ensures ∙ ap (λ (l : List ℕ). sets l (a.at + 12) (bytes_of 4 a.row)) (c.write-2.ensures ∙ ap (λ (l : List ℕ). sets l (a.at + 8) (bytes_of 4 a.target)) first)
    ∙ update-written a.out.now A (bytes_of 4 a.target) (bytes_of 4 a.row) a.at (length-signed_bytes_of 8 a.amount) (length-bytes_of 4 a.target)
