-- The entries of a row from the diagonal on, one after the other, and their lines.
use mathlib.Core.Path.{◌≡◌, ap, ◌∙◌}
use mathlib.Core.Bool.{Bool, true, false, cond}
use mathlib.Core.List.{List, [], ◌∷◌, ◌++◌, map, map-append, append-nil}
use Prim.Native.Nat.{ℕ, suc, ◌+◌, ◌*◌, ◌≤◌, ◌<◌}
use native.Mathlib.Numerals.{add-one}
use native.Mathlib.Omega.{arith}
use lib.Dec.{ltb}
use lib.IntN.{ℤ, pos}
use lib.ListN.{length, get_or, drop, length-append, drop_of_length-le}
use lib.Seq.{drop-cons}
use borrow.Author.Tests.{lt-ltb, le-ltb}
use Rattle.base.specs.Lists.{concat}
use Rattle.base.proofs.Lists.{concat-append}
use Rattle.market.specs.Parse.{Triplet, triplet}
use Rattle.market.specs.Text.{line_of, entry_line}
use Rattle.writer.specs.Code.Puts.{if_lower, from_diagonal, lines_of}
use Rattle.writer.proofs.puts.Digits.{natural-few, integer-few, length-line}

-- ---- lines

pub lines-append : (xs ys : List Triplet) → lines_of (xs ++ ys) ≡ lines_of xs ++ lines_of ys
lines-append xs ys = ap concat (map-append entry_line xs ys) ∙ concat-append (map entry_line xs) (map entry_line ys)

-- a line has at most 34 bytes
pub lines-few : (es : List Triplet) → length (lines_of es) ≤ 34 * length es
lines-few [] = omega arith
lines-few (e ∷ es) =
    let r = suc e.row in
    let c = suc e.column in
    rw length-append (omega (arith, lines-few es, length-line r c e.value, natural-few r, natural-few c, integer-few e.value))

-- ---- one entry

pub before_diagonal : (j c : ℕ) (v : ℤ) → c < j → if_lower j c v ≡ []
unfolding if_lower
before_diagonal j c v h = rw (lt-ltb c j h)

pub from-diagonal : (j c : ℕ) (v : ℤ) → j ≤ c → if_lower j c v ≡ triplet c j v ∷ []
unfolding if_lower
from-diagonal j c v h = rw (le-ltb c j h)

-- its line
pub line-from_diagonal : (j c : ℕ) (v : ℤ) → j ≤ c → lines_of (if_lower j c v) ≡ line_of (c + 1) (j + 1) v
line-from_diagonal j c v h = rw (from-diagonal j c v h, add-one c, add-one j) (append-nil (line_of (suc c) (suc j) v))

entry-few : (j c : ℕ) (v : ℤ) → length (if_lower j c v) ≤ 1
unfolding if_lower
entry-few j c v = go (ltb c j)
  where
    go : (b : Bool) → length (cond b [] (triplet c j v ∷ [])) ≤ 1
    go true = omega arith
    go false = omega arith

-- ---- a row

module _ (j : ℕ) where
  pub diagonal_next : (cs : List ℕ) (vs : List ℤ) (k : ℕ) → k < length cs → length cs ≡ length vs
      → from_diagonal j (drop k cs) (drop k vs) ≡ if_lower j (get_or cs k 0) (get_or vs k (pos 0)) ++ from_diagonal j (drop (k + 1) cs) (drop (k + 1) vs)
  unfolding from_diagonal
  diagonal_next cs vs k h e = rw (add-one k, drop-cons cs k 0 h, drop-cons vs k (pos 0) (omega arith))

  pub diagonal_end : (cs : List ℕ) (vs : List ℤ) (k : ℕ) → length cs ≤ k → from_diagonal j (drop k cs) (drop k vs) ≡ []
  unfolding from_diagonal
  diagonal_end cs vs k h = rw (drop_of_length-le cs h)

  pub diagonal_few : (cs : List ℕ) (vs : List ℤ) → length (from_diagonal j cs vs) ≤ length cs
  unfolding from_diagonal
  diagonal_few [] vs = omega arith
  diagonal_few (c ∷ cs) [] = omega arith
  diagonal_few (c ∷ cs) (v ∷ vs) = rw length-append (omega (arith, entry-few j c v, diagonal_few cs vs))
