use mathlib.Core.Path.{◌≡◌, ap, ◌∙◌}
use mathlib.Core.List.{map}
use Prim.Native.Nat.{ℕ}
use native.Mathlib.Omega.{arith}
use lib.ListN.{length, get_or}
use lib.Seq.{sets}
use Rattle.base.specs.Lists.{concat, range}
use Rattle.words.specs.LittleEndian.{unsigned_bytes}
use Rattle.preparing.proofs.Fills.{fill_none, fill_more, four_of, four_long, four_pieces, listed}
use Rattle.preparing.proofs.fill.store_numbers.Goals as goal

pub loop-k-init : goal.loop-k-init
loop-k-init c =
    let a = c.args in
    fill_none (four_of (λ i. get_or a.numbers.now i 0)) 4 (four_long (λ i. get_or a.numbers.now i 0)) a.out.now a.from (length a.numbers.now)

pub loop-k-preserved : goal.loop-k-preserved
loop-k-preserved c =
    let a = c.args in
    let f : ℕ → ℕ = λ i. get_or a.numbers.now i 0 in
    fill_more (four_of f) 4 (four_long f) a.out.now a.from (length a.numbers.now) c.loop-k.out _ c.loop-k.k c.loop-k-test.true c.write.ensures c.loop-k.invariant

pub returns : goal.returns
returns c =
    let a = c.args in
    let f : ℕ → ℕ = λ i. get_or a.numbers.now i 0 in
    let e : c.loop-k.k ≡ length a.numbers.now = omega (arith, c.loop-k-test.false, c.loop-k.invariant.far) in
    c.loop-k.invariant.is ∙ ap (λ (k : ℕ). sets a.out.now a.from (concat (map (four_of f) (range 0 k)))) e
    ∙ ap (sets a.out.now a.from) (four_pieces f (length a.numbers.now) ∙ ap (unsigned_bytes 4) (listed a.numbers.now))
