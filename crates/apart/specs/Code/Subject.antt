-- What the contracts say of what is checked.
use Rattle.std.specs.Prelude.{Bool, List, ℕ, take}
use Rattle.matrix.specs.Matrix.{neighbours}
use Rattle.matrix.specs.Held.{held}
use Rattle.plan.specs.Sound.{beyond}
use Rattle.apart.specs.declared.net.Subject.{Subject}

-- the plan's rows, in its order
abbrev pub rows_of : Subject → List ℕ
rows_of s = take s.net.m.n s.plan.order.now

-- whether two lists of rows keep the distance
abbrev pub far_of : Subject → List ℕ → List ℕ → Bool
far_of s = beyond (neighbours (held s.net.m)) s.k
