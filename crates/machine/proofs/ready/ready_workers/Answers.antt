-- `ready::ready_workers`: the blocked groups, then one bit a worker.
use mathlib.Core.Path.{◌∙◌}
use Rattle.machine.proofs.BlockedLeaves.{whole-crew, waits-of}
use Rattle.machine.proofs.ready.ready_workers.Goals as goal

pub returns : goal.returns
returns c j begins ok is laid =
    c.ready_bits.ensures j begins _ (c.requires.0 ∙ whole-crew j _ _ c.requires.1.some is) laid (waits-of j ok _ _ is laid _ _ (rw (c.records.ensures.0, c.records.ensures.1) at c.find_blocked.ensures) c.requires.1)
