use mathlib.Core.Path.{◌≡◌, refl, sym, ◌∙◌}
use mathlib.Core.Bool.{true}
use Prim.Native.Nat.{ℕ}
use native.Mathlib.Omega.{arith}
use lib.IntN.{pos}
use lib.ListN.{get_or, length-set}
use mir.Syntax.{w32}
use mir.Val.{SFits}
use borrow.Author.Rules.{rules}
use mir.Facts.{to_z-of_z}
use Rattle.base.proofs.Integers.{never}
use Rattle.matrix.specs.Matrix.{Matrix}
use Rattle.matrix.specs.Held.{held}
use Rattle.matrix.proofs.Rows.{columns-in}
use Rattle.symmetric.proofs.Cursors.{turns-first, is_lower, meets, Turn, turn-now, turn_misses, turn-next, turns_end}
use Rattle.symmetric.proofs.passes.Shaped.meet_row.Goals as goal

pub bounds-m-i : goal.bounds-m-i
bounds-m-i c =
    let given : Matrix = held c.args.self.now.m in
    (columns-in given c.args.self.now.shape c.args.i c.requires.0).starts-long

pub bounds-m-i-2 : goal.bounds-m-i-2
bounds-m-i-2 c =
    let given : Matrix = held c.args.self.now.m in
    omega (arith, (columns-in given c.args.self.now.shape c.args.i c.requires.0).starts-long)

pub loop-j-init : goal.loop-j-init
loop-j-init c =
    let given : Matrix = held c.args.self.now.m in
    (turns-first given c.args.self.now.shape c.requires.0 c.requires.1, refl)

pub is_below-requires : goal.is_below-requires
is_below-requires c =
    let given : Matrix = held c.args.self.now.m in
    (columns-in given c.args.self.now.shape c.args.i c.requires.0).ends

pub bounds-m-p : goal.bounds-m-p
bounds-m-p c = (turn-now c.args.self.now.shape c.requires.0 c.loop-j.invariant.0 c.is_below.ensures c.loop-j-test.true).in_columns

pub bounds-m-p-in-loop-j : goal.bounds-m-p-in-loop-j
bounds-m-p-in-loop-j c = (turn-now c.args.self.now.shape c.requires.0 c.loop-j.invariant.0 c.is_below.ensures c.loop-j-test.true).in_values

pub is_at-requires : goal.is_at-requires
is_at-requires c =
    let t : Turn (held c.args.self.now.m) c.loop-j.p c.loop-j.cursors = turn-now c.args.self.now.shape c.requires.0 c.loop-j.invariant.0 c.is_below.ensures c.loop-j-test.true in (t.ends-columns, t.ends-values)

pub returns-then-not-is_at : goal.returns-then-not-is_at
returns-then-not-is_at c =
    let given : Matrix = held c.args.self.now.m in
    let low : is_lower given c.args.i c.loop-j.p ≡ true = sym c.is_below.ensures ∙ c.loop-j-test.true in
    let column : ℕ = get_or c.args.self.now.m.columns.now c.loop-j.p 0 in
    let tested : meets given c.args.i column (get_or c.loop-j.cursors column 0) (get_or c.args.self.now.m.values.now c.loop-j.p (pos 0)) ≡ c.is_at.result = let f : SFits w32 (get_or c.args.self.now.m.values.now c.loop-j.p (pos 0)) = search rules in
    sym (simp (to_z-of_z f) at c.is_at.ensures) in
    record {
      yes = λ e. never e;
      missed = λ _. turn_misses given c.args.self.now.shape c.requires.0 c.loop-j.invariant.0 low (tested ∙ c.if-not-is_at.true);
    }

pub loop-j-preserved : goal.loop-j-preserved
loop-j-preserved c =
    let given : Matrix = held c.args.self.now.m in
    let low : is_lower given c.args.i c.loop-j.p ≡ true = sym c.is_below.ensures ∙ c.loop-j-test.true in
    let column : ℕ = get_or c.args.self.now.m.columns.now c.loop-j.p 0 in
    let tested : meets given c.args.i column (get_or c.loop-j.cursors column 0) (get_or c.args.self.now.m.values.now c.loop-j.p (pos 0)) ≡ c.is_at.result = let f : SFits w32 (get_or c.args.self.now.m.values.now c.loop-j.p (pos 0)) = search rules in
    sym (simp (to_z-of_z f) at c.is_at.ensures) in (
      turn-next given c.args.self.now.shape c.requires.0 c.loop-j.invariant.0 low (tested ∙ c.if-not-is_at.false) c.if-j-least.false,
      length-set c.loop-j.cursors _ _ ∙ c.loop-j.invariant.1,
    )

pub past-requires : goal.past-requires
past-requires c =
    let given : Matrix = held c.args.self.now.m in
    (columns-in given c.args.self.now.shape c.args.i c.requires.0).ends

pub returns : goal.returns
returns c =
    let given : Matrix = held c.args.self.now.m in
    record {
      yes = λ _. turns_end given c.args.self.now.shape c.requires.0 c.loop-j.invariant.0 (sym c.is_below.ensures ∙ c.loop-j-test.false) c.past.result c.past.ensures;
      missed = λ e. never (sym e);
    }

pub overflow_cast-i : goal.overflow_cast-i
overflow_cast-i c =
    let t : Turn (held c.args.self.now.m) c.loop-j.p c.loop-j.cursors = turn-now c.args.self.now.shape c.requires.0 c.loop-j.invariant.0 c.is_below.ensures c.loop-j-test.true in omega (arith, c.requires.0)
