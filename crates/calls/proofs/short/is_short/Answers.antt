-- `short::is_short`: the picks are few.
use native.Mathlib.Omega.{arith}
use lib.ListN.{get_or}
use mir.Syntax.{w32}
use mir.Val.{Fits}
use borrow.Author.Rules.{rules}
use Rattle.calls.proofs.short.is_short.Goals as goal

pub returns : goal.returns
returns c y =
    let m = c.args.m.now in
    let small : Fits w32 (get_or m.starts.now m.n 0) = search rules in
    omega (arith, small)
