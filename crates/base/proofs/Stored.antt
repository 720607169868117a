-- Numbers written into a list: some in turn from a place on, and a copy.
use mathlib.Core.Path.{◌≡◌}
use mathlib.Core.List.{List, ◌++◌}
use Prim.Native.Nat.{ℕ, suc, ◌+◌, ◌*◌, ◌≤◌, ◌<◌}
use native.Mathlib.Nat.{zero-add}
use native.Mathlib.Numerals.{add-one}
use native.Mathlib.Omega.{arith}
use lib.ListN.{length, take, drop, get_or, set, length-append}
use lib.Seq.{sets, sets-eq, take_at, length-take-le, paste-suc, length-paste}

-- numbers stored from a place on, and what is before them
pub stored : (vs xs : List ℕ) (at : ℕ) → at + length vs ≤ length xs → take (at + length vs) (sets xs at vs) ≡ take at xs ++ vs
stored vs xs at h =
    let long : length (take at xs ++ vs) ≡ at + length vs = omega (arith, length-append (take at xs) vs, length-take-le at xs (omega arith)) in
    rw (sets-eq vs xs at h) (take_at (take at xs ++ vs) (drop (at + length vs) xs) (at + length vs) long)

-- a record, of any width, at an index
pub stored_record : (vs xs : List ℕ) (i : ℕ) → length vs * (i + 1) ≤ length xs → take (length vs * (i + 1)) (sets xs (length vs * i) vs) ≡ take (length vs * i) xs ++ vs
stored_record vs xs i h =
    let next : length vs * (i + 1) ≡ length vs * i + length vs = omega arith in
    rw next (stored vs xs (length vs * i) (omega arith))

-- the first i numbers copied
abbrev pub copied : (from to : List ℕ) → ℕ → List ℕ
copied from to i = take i from ++ drop i to

pub copied_next : (from to : List ℕ) (i : ℕ) → i < length from → length from ≤ length to → set (copied from to i) i (get_or from i 0) ≡ copied from to (i + 1)
copied_next from to i l m = rw add-one (rw (zero-add i, zero-add (suc i)) at (paste-suc to 0 from i 0 (omega arith) l))

pub length_copied : (from to : List ℕ) (i : ℕ) → i ≤ length from → length from ≤ length to → length (copied from to i) ≡ length to
length_copied from to i l m = rw (zero-add i) at (length-paste to 0 from i (omega arith) l)
