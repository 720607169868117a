use mathlib.Core.Path.{◌≡◌, ap, ◌∙◌}
use mathlib.Core.List.{map}
use Prim.Native.Nat.{ℕ, ◌+◌, ◌*◌, ◌%◌}
use native.Mathlib.Omega.{arith}
use lib.ListN.{get_or}
use lib.Seq.{sets}
use Rattle.base.specs.Lists.{concat, range}
use Rattle.words.specs.LittleEndian.{bytes_of}
use Rattle.preparing.specs.Code.Filled.{gate_number}
use Rattle.preparing.proofs.Fills.{fill_none, fill_more, four_of, four_long, four_pieces}
use Rattle.preparing.proofs.fill.store_gates.Goals as goal

pub loop-k-init : goal.loop-k-init
loop-k-init c =
    let a = c.args in
    let f : ℕ → ℕ = gate_number a.leaves.now a.table.now in
    fill_none (four_of f) 4 (four_long f) a.out.now a.from (a.n * 16)

pub loop-k-preserved : goal.loop-k-preserved
loop-k-preserved c =
    let a = c.args in
    let f : ℕ → ℕ = gate_number a.leaves.now a.table.now in
    fill_more (four_of f) 4 (four_long f) a.out.now a.from (a.n * 16) c.loop-k.out _ c.loop-k.k c.loop-k-test.true
    (c.write.ensures ∙ ap (λ (i : ℕ). sets c.loop-k.out (a.from + c.loop-k.k * 4) (bytes_of 4 (get_or a.table.now (i * 16 + c.loop-k.k % 16) 0))) c.from-i.ensures) c.loop-k.invariant

pub returns : goal.returns
returns c =
    let a = c.args in
    let f : ℕ → ℕ = gate_number a.leaves.now a.table.now in
    let e : c.loop-k.k ≡ a.n * 16 = omega arith in
    c.loop-k.invariant.is ∙ ap (λ (k : ℕ). sets a.out.now a.from (concat (map (four_of f) (range 0 k)))) e ∙ ap (sets a.out.now a.from) (four_pieces f (a.n * 16))
