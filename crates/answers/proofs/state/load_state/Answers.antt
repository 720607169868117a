-- `load_state` meets its contract: both parts of 192 bytes are loaded whole.
use mathlib.Core.Path.{◌≡◌, sym, ap, ◌∙◌}
use Prim.Native.Nat.{◌-◌}
use native.Mathlib.Omega.{arith}
use lib.ListN.{length, take, drop, length-drop}
use lib.Seq.{take_all, length-take-le}
use Rattle.words.specs.LittleEndian.{number, signed, signed_number}
use Rattle.lent.proofs.Loads.{loaded_whole}
use Rattle.answers.proofs.state.load_state.Goals as goal

pub slice_bounds-load-end : goal.slice_bounds-load-end
slice_bounds-load-end c = sym (length-take-le 64 c.args.bytes.now (omega (arith, c.if-bytes-ne-STATE_BYTES.false)))

pub returns : goal.returns
returns c whole =
    let bytes = c.args.bytes.now in
    let counts : length (take 64 bytes) ≡ 64 = length-take-le 64 bytes (omega (arith, whole)) in
    let held : take (length bytes - 64) (drop 64 bytes) ≡ drop 64 bytes = take_all (length bytes - 64) (drop 64 bytes) (rw length-drop (omega arith)) in
    let numbers : length (take (length bytes - 64) (drop 64 bytes)) ≡ 128 = rw (held, length-drop) (omega (arith, whole)) in
    record {
      made = loaded_whole number 4 (take 64 bytes) _ c.load.ensures.0 c.load.ensures.1 (rw counts);
      held = loaded_whole (signed_number 8) 8 (take (length bytes - 64) (drop 64 bytes)) _ c.load-2.ensures.0 c.load-2.ensures.1 (rw numbers) ∙ ap (signed 8) held;
    }
