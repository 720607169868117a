-- `store` meets its contract: ten stores.
use Rattle.std.proofs.Common.{rules, ◌∙◌}
use Rattle.barrier.proofs.Bits.{byte-bit}
use Rattle.board.proofs.Stored.{unit-stored}
use Rattle.board.proofs.kept.store.Goals as goal

pub returns : goal.returns
returns c =
    let a = c.args in
    c.write.ensures
    ∙ rw (c.low.ensures, c.high.ensures, c.low-2.ensures, c.high-2.ensures, c.from.ensures, c.from-2.ensures, byte-bit a.unit.status, byte-bit a.unit.enable)
    (unit-stored a.unit a.bytes.now (search rules))
