use mathlib.Core.Path.{◌≡◌, ap, ◌∙◌}
use mathlib.Core.List.{map}
use Prim.Native.Nat.{ℕ, ◌+◌, ◌*◌, ◌-◌}
use native.Mathlib.Omega.{arith}
use lib.ListN.{get_or}
use lib.Seq.{sets}
use mir.Syntax.{w64}
use mir.Val.{SFits, to_z, of_z}
use mir.Facts.{to_z-of_z}
use Rattle.base.specs.Lists.{concat, range}
use Rattle.run.specs.Updates.{Update}
use Rattle.steps.specs.Code.Updates.{update_in}
use Rattle.prepared.specs.Format.{bytes_of_update}
use Rattle.preparing.specs.Code.Filled.{update_number}
use Rattle.preparing.proofs.Fills.{fill_none, fill_more, update_of, update-long, update_pieces}
use borrow.Author.Rules.{rules}
use Rattle.preparing.proofs.fill.store_updates.Goals as goal

pub loop-k-init : goal.loop-k-init
loop-k-init c =
    let a = c.args in
    let f : ℕ → Update = update_number a.tables.now.row.now a.tables.now.begins.now a.entries.now.parts.now a.displaced.now a.entries.now.at.now a.entries.now.beside.now in
    fill_none (update_of f) 16 (update-long f) a.out.now a.from a.count

pub loop-k-preserved : goal.loop-k-preserved
loop-k-preserved c =
    let row_is : c.from-p.result ≡ get_or c.args.tables.now.row.now c.loop-k.k 0 = search rules in
    let amount-fits : SFits w64 c.amount_of-amount.result = search rules in
    let a = c.args in
    let k = c.loop-k.k in
    let f : ℕ → Update = update_number a.tables.now.row.now a.tables.now.begins.now a.entries.now.parts.now a.displaced.now a.entries.now.at.now a.entries.now.beside.now in
    let read : record { row = c.from-p.result; target = c.target_of-target.result; amount = to_z w64 (of_z w64 c.amount_of-amount.result) } ≡ update_in a.entries.now.parts.now a.displaced.now a.entries.now.at.now a.entries.now.beside.now c.from-p.result (k - get_or a.tables.now.begins.now c.from-p.result 0) =
    λ i. record { row = c.from-p.result; target = c.target_of-target.ensures i; amount = (to_z-of_z amount-fits ∙ c.amount_of-amount.ensures) i } in
    let same = read
    ∙ ap (λ (q : ℕ). update_in a.entries.now.parts.now a.displaced.now a.entries.now.at.now a.entries.now.beside.now q (k - get_or a.tables.now.begins.now q 0)) row_is in
    fill_more (update_of f) 16 (update-long f) a.out.now a.from a.count c.loop-k.out _ k c.loop-k-test.true
    (c.store_update.ensures ∙ ap (λ (u : Update). sets c.loop-k.out (a.from + k * 16) (bytes_of_update u)) same) c.loop-k.invariant

pub returns : goal.returns
returns c =
    let a = c.args in
    let f : ℕ → Update = update_number a.tables.now.row.now a.tables.now.begins.now a.entries.now.parts.now a.displaced.now a.entries.now.at.now a.entries.now.beside.now in
    let e : c.loop-k.k ≡ a.count = omega (arith, c.loop-k-test.false, c.loop-k.invariant.far) in
    c.loop-k.invariant.is ∙ ap (λ (k : ℕ). sets a.out.now a.from (concat (map (update_of f) (range 0 k)))) e ∙ ap (sets a.out.now a.from) (update_pieces f a.count)
