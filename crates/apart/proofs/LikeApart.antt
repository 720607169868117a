-- Like-coloured children compared by marks, one child at a time.
use mathlib.Core.Path.{◌≡◌, refl, sym, ap, ◌∙◌}
use mathlib.Core.Bool.{Bool, true, false, not, ◌&&◌, ◌||◌, cond, true≢false}
use mathlib.Core.List.{List, [], ◌∷◌}
use Prim.Native.Nat.{ℕ, ◌<◌, ◌≤◌}
use native.Mathlib.Omega.{arith}
use lib.Dec.{eqb, ltb}
use lib.ListN.{get_or}
use borrow.Author.Tests.{eqb-true, eq-eqb, ne_eqb, lt-ltb, le-ltb}
use Rattle.base.specs.Lists.{keep, any, all, is_in}
use Rattle.base.proofs.Booleans.{and_false}
use Rattle.base.proofs.Lists.{any_ext}
use Rattle.base.proofs.Each.{Each, each_map}
use Rattle.base.proofs.Left.{all_same}
use Rattle.plan.specs.Groups.{Group}
use Rattle.plan.specs.Sound.{stretch_of, like_apart}
use Rattle.plan.specs.Code.Checks.{of_colour}
use Rattle.plan.proofs.Colours.{like}
use Rattle.apart.specs.Code.Marks.{clashes, Stamped}

-- ---- tests

any-or : (p q : ℕ → Bool) (xs : List ℕ) → any (λ x. p x || q x) xs ≡ any p xs || any q xs
any-or p q [] = refl
any-or p q (x ∷ xs) = rw (any-or p q xs) (swap (p x) (q x) (any p xs) (any q xs))
  where
    swap : (a b c d : Bool) → (a || b) || (c || d) ≡ (a || c) || (b || d)
    swap true b c d = refl
    swap false true true d = refl
    swap false true false d = refl
    swap false false c d = refl

-- ---- marks

-- no row of the list has a mark above low
abbrev pub clear : (low : ℕ) (marks zs : List ℕ) → Bool
clear low marks zs = not (any (λ z. ltb low (get_or marks z 0)) zs)

-- without mine among the marks, every mark above low clashes
pub clash_above : (low mine : ℕ) (marks zs : List ℕ) → ((v : ℕ) → get_or marks v 0 < mine) → not (any (clashes low mine marks) zs) ≡ clear low marks zs
unfolding clashes
clash_above low mine marks zs h =
    ap not (any_ext (clashes low mine marks) (λ z. ltb low (get_or marks z 0)) zs (λ v _. rw (ne_eqb (get_or marks v 0) mine (λ (e : get_or marks v 0 ≡ mine). omega (arith, h v))) (and-true (ltb low (get_or marks v 0)))))
  where
    and-true : (b : Bool) → b && true ≡ b
    and-true true = refl
    and-true false = refl

-- no row is marked above the highest mark
pub clear_none : (low : ℕ) (marks zs : List ℕ) → ((v : ℕ) → get_or marks v 0 ≤ low) → clear low marks zs ≡ true
clear_none low marks [] h = refl
clear_none low marks (z ∷ zs) h = rw (le-ltb low (get_or marks z 0) (h z)) (clear_none low marks zs h)

-- after the rows xs are marked: no row is among them, and none has a mark from before
pub clear-stamped : (low mine : ℕ) (xs marks marks' zs : List ℕ) → low < mine → Stamped mine xs marks marks' → clear low marks' zs ≡ not (any (is_in xs) zs) && clear low marks zs
clear-stamped low mine xs marks marks' zs l s =
    ap not (any_ext (λ z. ltb low (get_or marks' z 0)) (λ z. is_in xs z || ltb low (get_or marks z 0)) zs (λ v _. rw (s.is v) (either (is_in xs v) (get_or marks v 0))) ∙ any-or (is_in xs) (λ z. ltb low (get_or marks z 0)) zs)
    ∙ neither (any (is_in xs) zs) (any (λ z. ltb low (get_or marks z 0)) zs)
  where
    either : (b : Bool) (m : ℕ) → ltb low (cond b mine m) ≡ b || ltb low m
    either true m = lt-ltb low mine l
    either false m = refl

    neither : (a b : Bool) → not (a || b) ≡ not a && not b
    neither true b = refl
    neither false b = refl

-- ---- one child

-- those of a colour, each with its property
each-colour : (P : Group → Type 0) (c : ℕ) (gs : List Group) → Each P gs → Each (λ g. (g.colour ≡ c) × P g) (of_colour c gs)
each-colour P c [] each = tt
each-colour P c (g ∷ gs) each = go (eqb g.colour c) refl (each-colour P c gs each.1)
  where
    go : (b : Bool) → eqb g.colour c ≡ b → Each (λ g. (g.colour ≡ c) × P g) (of_colour c gs) → Each (λ g. (g.colour ≡ c) × P g) (keep b g (of_colour c gs))
    go true e ih = ((eqb-true g.colour c e, each.0), ih)
    go false e ih = ih

-- what is left to compare: none of the rows tested of the groups has a mark above low, and they are far apart
abbrev pub left_apart : (far : List ℕ → List ℕ → Bool) (order : List ℕ) (tested : Group → List ℕ) (low : ℕ) (marks : List ℕ) → List Group → Bool
left_apart far order tested low marks gs = all (λ g. clear low marks (tested g)) gs && like_apart far order gs

-- a row that g stamps is one that h tests if and only if the groups are not far apart
abbrev pub Overlaps : (far : List ℕ → List ℕ → Bool) (order : List ℕ) (stamped tested : Group → List ℕ) → Group → Group → Type 0
Overlaps far order stamped tested g h = any (is_in (stamped g)) (tested h) ≡ not (far (stretch_of order g) (stretch_of order h))

module _ (far : List ℕ → List ℕ → Bool) (order : List ℕ) (stamped tested : Group → List ℕ) (low mine : ℕ) (up : low < mine) where
  abbrev left : List ℕ → List Group → Bool
  left = left_apart far order tested low

  abbrev Over : Group → Group → Type 0
  Over = Overlaps far order stamped tested

  module _ (g : Group) (marks marks' : List ℕ) where
    -- the marks of g say who is like it and not apart from it
    all-stamped : (hs : List Group) → Stamped mine (stamped g) marks marks' → Each (λ h. (h.colour ≡ g.colour) × Over g h) hs
        → all (λ h. clear low marks' (tested h)) hs ≡ not (any (like far order g) hs) && all (λ h. clear low marks (tested h)) hs
    all-stamped [] s each = refl
    all-stamped (h ∷ hs) s each =
        rw (clear-stamped low mine (stamped g) marks marks' (tested h) up s, all-stamped hs s each.1, eq-eqb g.colour h.colour (sym each.0.0), each.0.1)
        (merge (not (far (stretch_of order g) (stretch_of order h))) (any (like far order g) hs) (clear low marks (tested h)) (all (λ h. clear low marks (tested h)) hs))
      where
        merge : (x y c a : Bool) → (not x && c) && (not y && a) ≡ not (x || y) && (c && a)
        merge true y c a = refl
        merge false true c a = and_false c
        merge false false c a = refl

    left-next : (hs : List Group) → Stamped mine (stamped g) marks marks' → Each (λ h. (h.colour ≡ g.colour) × Over g h) hs → clear low marks (tested g) ≡ true
        → left marks (g ∷ hs) ≡ left marks' hs
    unfolding like_apart
    left-next hs s each free = rw (free, all-stamped hs s each) (turn (all (λ h. clear low marks (tested h)) hs) (not (any (like far order g) hs)) (like_apart far order hs))
      where
        turn : (a b c : Bool) → a && (b && c) ≡ (b && a) && c
        turn true true c = refl
        turn true false c = refl
        turn false true c = refl
        turn false false c = refl

    -- no new mark
    left-same : (hs : List Group) → Stamped mine [] marks marks' → left marks hs ≡ left marks' hs
    left-same hs s = ap (λ (b : Bool). b && like_apart far order hs) (all_same (λ h. clear low marks (tested h)) (λ h. clear low marks' (tested h)) hs same)
      where
        same : (h : Group) → clear low marks (tested h) ≡ clear low marks' (tested h)
        same h = ap not (any_ext (λ z. ltb low (get_or marks z 0)) (λ z. ltb low (get_or marks' z 0)) (tested h) (λ v _. ap (ltb low) (sym (s.is v))))

  -- the next child is g: compared with those of its colour before it if it has the colour
  module _ (c : ℕ) (g : Group) (gs : List Group) (marks : List ℕ) where
    -- what is tested and stamped of g, if it has the colour
    abbrev mine_tested : List ℕ
    mine_tested = cond (eqb g.colour c) (tested g) []

    abbrev mine-stamped : List ℕ
    mine-stamped = cond (eqb g.colour c) (stamped g) []

    pub colour-stops : clear low marks mine_tested ≡ false → left marks (of_colour c (g ∷ gs)) ≡ false
    unfolding like_apart
    colour-stops h = go (eqb g.colour c) h
      where
        go : (b : Bool) → clear low marks (cond b (tested g) []) ≡ false → left marks (keep b g (of_colour c gs)) ≡ false
        go true h = rw h
        go false h = absurd (true≢false h)

    pub colour-next : (marks' : List ℕ) → Each (Over g) gs → clear low marks mine_tested ≡ true → Stamped mine mine-stamped marks marks'
        → left marks (of_colour c (g ∷ gs)) ≡ left marks' (of_colour c gs)
    colour-next marks' each h s = go (eqb g.colour c) refl h s
      where
        go : (b : Bool) → eqb g.colour c ≡ b → clear low marks (cond b (tested g) []) ≡ true → Stamped mine (cond b (stamped g) []) marks marks'
            → left marks (keep b g (of_colour c gs)) ≡ left marks' (of_colour c gs)
        go true e h s =
            left-next g marks marks' (of_colour c gs) s
            (each_map (λ h. (h.colour ≡ c) × Over g h) (λ h. (h.colour ≡ g.colour) × Over g h) (λ h q. (q.0 ∙ sym (eqb-true g.colour c e), q.1)) (of_colour c gs) (each-colour (Over g) c gs each)) h
        go false e h s = left-same g marks marks' (of_colour c gs) s
