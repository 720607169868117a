-- `lay_tables`: the tables are laid, and lent.
use Rattle.layout.proofs.lay_tables.Goals as goal

pub returns : goal.returns
returns c j g k b = let t = c.lay.ensures j g k b in (g, t.0, t.1)
