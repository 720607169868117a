-- What a row waits for, as one number for each worker: the accesses that this worker must have made before. Document
-- 01's wait says it by leaves and groups; that both are the same is proved (proofs/Gates.antt).
use Rattle.std.specs.Prelude.{Bool, false, ◌||◌, cond, List, ℕ, zero, suc, ◌+◌, ◌*◌, max, eqb, ltb, length}
use Rattle.plan.specs.Groups.{Group, red, blue}
use Rattle.run.specs.Job.{Job}
use Rattle.run.specs.Tree.{Tree, none, node, tree, holds}
use Rattle.run.specs.Updates.{count, up_to}

-- the last end of a leaf of worker v in the tree; 0 if there is none
unfoldable pub last_end : (end : Group → ℕ) (v : ℕ) → Tree → ℕ
last_end end v none = 0
last_end end v (node g none next) = max (cond (eqb g.first v) (end g) 0) (last_end end v next)
last_end end v (node g (node h hb hn) next) = max (last_end end v (node h hb hn)) (last_end end v next)

-- .. in the red groups of these siblings
unfoldable pub red_end : (end : Group → ℕ) (v : ℕ) → Tree → ℕ
red_end end v none = 0
red_end end v (node g below next) = max (cond (eqb g.colour red) (last_end end v (node g below none)) 0) (red_end end v next)

-- .. in the red siblings of the blue groups that position q lies in; all: the siblings of the groups looked at
unfoldable pub gate_in : (end : Group → ℕ) (v q : ℕ) (all : Tree) → Tree → ℕ
gate_in end v q all none = 0
gate_in end v q all (node g below next) =
    max (cond (holds g q) (max (cond (eqb g.colour blue) (red_end end v all) 0) (gate_in end v q below below)) 0) (gate_in end v q all next)

-- the access of its worker that ends a leaf
unfoldable pub end_in : Job → Group → ℕ
end_in j g = 2 * length (up_to j g.first (g.start + g.length))

-- how many accesses worker v must have made before the row at plan position q is worked
unfoldable pub gate : Job → (q v : ℕ) → ℕ
gate j q v = gate_in (end_in j) v q (tree j.plan.groups) (tree j.plan.groups)

-- some worker below k has made fewer accesses than its number
unfoldable pub behind : (made : List ℕ) (need : ℕ → ℕ) → ℕ → Bool
behind made need zero = false
behind made need (suc v) = ltb (count made v) (need v) || behind made need v
