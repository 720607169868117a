use mathlib.Core.Path.{◌≡◌, refl, ◌∙◌}
use mathlib.Core.List.{List, [], ◌∷◌}
use Prim.Native.Nat.{ℕ}
use lib.Dec.{eqb}
use lib.ListN.{length, take}
use lib.Pointwise.{pointwise}
use Rattle.base.specs.Lists.{begins}
use Rattle.base.proofs.Booleans.{eqb_sym}
use Rattle.market.specs.Bytes.{header}
use Rattle.reader.proofs.opening.has_header.Goals as goal

-- the library's test is the text's
begins-is : (xs ys : List ℕ) → pointwise eqb ys (take (length ys) xs) ≡ begins xs ys
begins-is xs [] = refl
begins-is [] (y ∷ ys) = refl
begins-is (x ∷ xs) (y ∷ ys) = rw (eqb_sym y x, begins-is xs ys)

pub returns : goal.returns
unfolding header
returns c = c.starts_with.ensures.value ∙ begins-is c.args.s.now header
