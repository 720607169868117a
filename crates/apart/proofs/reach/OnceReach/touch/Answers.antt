-- `Once::touch`: one row, unless it has touched its rows before.
use native.Mathlib.Omega.{arith}
use Rattle.apart.proofs.Touching.{touched-before, opened_more}
use Rattle.apart.proofs.reach.OnceReach.touch.Goals as goal

pub offset_bounds-marks-u : goal.offset_bounds-marks-u
offset_bounds-marks-u c = record { fits = omega (arith, c.requires.1, c.args.net.now.graph.few) }

pub bounds-marks-u : goal.bounds-marks-u
bounds-marks-u c = omega (arith, c.requires.1, c.args.net.now.graph.few)

pub returns-then-marks-u : goal.returns-then-marks-u
returns-then-marks-u c = record { touched = touched-before _ _ c.args.u c.requires.0 c.if-marks-u.true; after = λ _. c.requires.0 }

pub offset_bounds-marks-u-2 : goal.offset_bounds-marks-u-2
offset_bounds-marks-u-2 c = record { fits = omega (arith, c.requires.1, c.args.net.now.graph.few) }

pub bounds-marks-u-2 : goal.bounds-marks-u-2
bounds-marks-u-2 c = omega (arith, c.requires.1, c.args.net.now.graph.few)

pub returns : goal.returns
returns c = opened_more _ _ _ _ c.args.u _ (omega (arith, c.requires.1, c.args.net.now.graph.few, c.requires.0.long)) c.requires.0 c.touch_row.ensures
