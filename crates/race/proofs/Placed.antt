-- Where a list stands in an order, and what stands where a group's parts are to stand.
use mathlib.Core.Path.{◌≡◌, sym, ap, ◌∙◌, subst}
use mathlib.Core.Bool.{true}
use mathlib.Core.List.{List, [], ◌∷◌, ◌++◌}
use Prim.Native.Nat.{ℕ, ◌+◌}
use native.Mathlib.Omega.{arith}
use lib.ListN.{length, take, drop, length-append}
use lib.Seq.{take-add, take-take, drop-drop, take-append_seam, drop-append_seam}
use Rattle.base.specs.Lists.{is_in}
use Rattle.base.proofs.Counts.{Same, count-in, in_count, same_length}
use Rattle.race.proofs.Parts.{Part}

-- xs stands in the order O from place s on
abbrev pub Placed : List ℕ → ℕ → List ℕ → Type 0
Placed O s xs = take (length xs) (drop s O) ≡ xs

-- the first part of a placed list stands where the list does
pub placed-left : (O : List ℕ) (s : ℕ) (xs ys : List ℕ) → Placed O s (xs ++ ys) → Placed O s xs
placed-left O s xs ys h =
    sym (take-take (length xs) (length (xs ++ ys)) (drop s O) (omega (arith, length-append xs ys)))
    ∙ ap (λ (l : List ℕ). take (length xs) l) h
    ∙ take-append_seam xs ys

-- .. and the rest right after it
pub placed-right : (O : List ℕ) (s : ℕ) (xs ys : List ℕ) → Placed O s (xs ++ ys) → Placed O (s + length xs) ys
placed-right O s xs ys h =
    let L = drop s O in
    let e : take (length xs + length ys) L ≡ xs ++ ys = rw (length-append xs ys) at h in
    let f : xs ++ take (length ys) (drop (length xs) L) ≡ xs ++ ys =
    ap (λ (l : List ℕ). l ++ take (length ys) (drop (length xs) L)) (sym (placed-left O s xs ys h)) ∙ sym (take-add (length xs) (length ys) L) ∙ e in
    ap (λ (l : List ℕ). take (length ys) l) (sym (drop-drop (length xs) s O))
    ∙ sym (drop-append_seam xs (take (length ys) (drop (length xs) L)))
    ∙ ap (λ (l : List ℕ). drop (length xs) l) f
    ∙ drop-append_seam xs ys

-- who is in xs is in ys
abbrev pub Sub : List ℕ → List ℕ → Type 0
Sub xs ys = (v : ℕ) → is_in xs v ≡ true → is_in ys v ≡ true

-- in the order O from place s on stand rows of each part, as many as it has
abbrev pub Covers : (O : List ℕ) (s : ℕ) → List Part → Type 0
Covers O s [] = Unit {0}
Covers O s (x ∷ xs) = Sub (take (length x.rows) (drop s O)) x.rows × Covers O (s + length x.rows) xs

-- a list that holds the same as T, placed: T's rows stand there
pub placed-sub : (O : List ℕ) (s : ℕ) (xs T : List ℕ) → Same xs T → Placed O s xs → Sub (take (length T) (drop s O)) T
placed-sub O s xs T same h v k =
    let e : take (length T) (drop s O) ≡ xs = ap (λ (m : ℕ). take m (drop s O)) (sym (same_length xs T same)) ∙ h in
    count-in v T (omega (arith, same v, in_count v xs (subst (λ (l : List ℕ). is_in l v ≡ true) e k)))
