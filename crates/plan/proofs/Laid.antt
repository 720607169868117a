-- `tiled` one child at a time: what each child's test says, and that it comes to the same.
use mathlib.Core.Path.{◌≡◌, refl, sym, ◌∙◌, subst}
use mathlib.Core.Logic.{◌⊎◌, inl, inr, ◌≢◌}
use mathlib.Core.Bool.{Bool, true, ◌&&◌}
use mathlib.Core.List.{List, [], ◌∷◌}
use Prim.Native.Nat.{ℕ, ◌+◌, ◌≤◌}
use native.Mathlib.Omega.{arith}
use lib.Dec.{eqb, leb}
use lib.ListN.{get_or}
use borrow.Author.Tests.{eqb-true, eq-eqb, ne_eqb, leb-true, le-leb}
use Rattle.base.proofs.Booleans.{and_left, and_right, conj_first, conj_at, same_or, is_false, both_ways}
use Rattle.plan.specs.Groups.{Group, red, blue}
use Rattle.plan.specs.Sound.{tiled}
use Rattle.plan.specs.Code.Checks.{fitting, pending, complete, laid}
use Rattle.plan.proofs.Pair.{pair_of}

-- ---- one child

-- a red that is next, or the blue of a red with w workers
record Red (s f : ℕ) (h : Group) : Type 0 where
  colour : h.colour ≡ red
  start : h.start ≡ s
  first : h.first ≡ f
  workers : 1 ≤ h.workers

record Blue (s f w : ℕ) (h : Group) : Type 0 where
  colour : h.colour ≡ blue
  start : h.start ≡ s
  first : h.first ≡ f
  workers : h.workers ≡ w

red-fits : (s f : ℕ) (h : Group) → Red s f h → fitting s f 0 h ≡ true
unfolding fitting
red-fits s f h r = rw (eq-eqb h.start s r.start, eq-eqb h.first f r.first, eq-eqb h.colour red r.colour) (le-leb 1 h.workers r.workers)

blue-fits : (s f w : ℕ) (h : Group) → w ≢ 0 → Blue s f w h → fitting s f w h ≡ true
unfolding fitting
blue-fits s f w h d b =
    rw (eq-eqb h.start s b.start, eq-eqb h.first f b.first, ne_eqb w 0 d, eq-eqb h.colour blue b.colour) (eq-eqb h.workers w b.workers)

fits-red : (s f : ℕ) (h : Group) → fitting s f 0 h ≡ true → Red s f h
unfolding fitting
fits-red s f h e =
    let t = conj_at (eqb h.start s) (eqb h.first f ∷ (eqb h.colour red && leb 1 h.workers) ∷ []) e in
    record {
      colour = eqb-true h.colour red (and_left (eqb h.colour red) (leb 1 h.workers) (t 1));
      start = eqb-true h.start s (conj_first (eqb h.start s) (eqb h.first f ∷ (eqb h.colour red && leb 1 h.workers) ∷ []) e);
      first = eqb-true h.first f (t 0);
      workers = leb-true 1 h.workers (and_right (eqb h.colour red) (leb 1 h.workers) (t 1));
    }

fits-blue : (s f w : ℕ) (h : Group) → w ≢ 0 → fitting s f w h ≡ true → Blue s f w h
unfolding fitting
fits-blue s f w h d e₀ =
    let e : eqb h.start s && eqb h.first f && (eqb h.colour blue && eqb h.workers w) ≡ true = rw (ne_eqb w 0 d) at e₀ in
    let bs : List Bool = eqb h.first f ∷ (eqb h.colour blue && eqb h.workers w) ∷ [] in
    let t : (k : ℕ) → get_or bs k true ≡ true = conj_at (eqb h.start s) bs e in
    record {
      colour = eqb-true h.colour blue (and_left (eqb h.colour blue) (eqb h.workers w) (t 1));
      start = eqb-true h.start s (conj_first (eqb h.start s) bs e);
      first = eqb-true h.first f (t 0);
      workers = eqb-true h.workers w (and_right (eqb h.colour blue) (eqb h.workers w) (t 1));
    }

-- ---- pair by pair

-- the tests of a red and its blue, one after the other
two : (g : Group) (s f : ℕ) (r b : Group) (ks : List Group) → r.workers ≢ 0
    → laid g s f 0 (r ∷ b ∷ ks)
    ≡ fitting s f 0 r && (fitting (s + r.length) f r.workers b && laid g (s + r.length + b.length) (f + r.workers) 0 ks)
unfolding laid pending
two g s f r b ks d = let e : f + 0 ≡ f = omega arith in rw (e, ne_eqb r.workers 0 d)

-- `tiled` from its tests
pair_tiled : (g : Group) (s f : ℕ) (r b : Group) (ks : List Group) → Red s f r → Blue (s + r.length) f r.workers b
    → tiled g (s + r.length + b.length) (f + r.workers) ks ≡ true → tiled g s f (r ∷ b ∷ ks) ≡ true
unfolding tiled
pair_tiled g s f r b ks x y t =
    rw (
      eq-eqb r.colour red x.colour,
      eq-eqb b.colour blue y.colour,
      eq-eqb r.start s x.start,
      eq-eqb b.start (s + r.length) y.start,
      eq-eqb r.first f x.first,
      eq-eqb b.first f y.first,
      le-leb 1 r.workers x.workers,
      eq-eqb b.workers r.workers y.workers,
    ) t

pub tiled-laid : (g : Group) (s f : ℕ) (ks : List Group) → tiled g s f ks ≡ laid g s f 0 ks
unfolding tiled laid complete pending
tiled-laid g s f [] = refl
tiled-laid g s f (r ∷ []) = sym (is_false never)
  where
    never : laid g s f 0 (r ∷ []) ≡ true → ⊥
    never h =
        let x = fits-red s f r (and_left (fitting s f 0 r) _ h) in
        let e : r.workers ≡ 0 = eqb-true r.workers 0 (conj_first (eqb r.workers 0) (eqb (s + r.length) (g.start + g.length) ∷ eqb (f + 0) (g.first + g.workers) ∷ []) (and_right (fitting s f 0 r) _ h)) in
        omega (arith, x.workers)
tiled-laid g s f (r ∷ b ∷ ks) =
    let rest = tiled-laid g (s + r.length + b.length) (f + r.workers) ks in
    both_ways (tiled g s f (r ∷ b ∷ ks)) (laid g s f 0 (r ∷ b ∷ ks)) (to rest) (fro rest)
  where
    Rest : Type 0
    Rest = tiled g (s + r.length + b.length) (f + r.workers) ks ≡ laid g (s + r.length + b.length) (f + r.workers) 0 ks

    to : Rest → tiled g s f (r ∷ b ∷ ks) ≡ true → laid g s f 0 (r ∷ b ∷ ks) ≡ true
    to rest h =
        let p = pair_of g s f r b ks h in
        let d : r.workers ≢ 0 = λ (e : r.workers ≡ 0). omega (arith, p.some) in
        two g s f r b ks d
        ∙ rw (
          red-fits s f r (record { colour = p.is_red; start = p.here; first = p.first_r; workers = p.some }),
          blue-fits (s + r.length) f r.workers b d (record { colour = p.is_blue; start = p.then; first = p.first_b; workers = p.alike }),
        ) (sym rest ∙ p.rest)

    fro : Rest → laid g s f 0 (r ∷ b ∷ ks) ≡ true → tiled g s f (r ∷ b ∷ ks) ≡ true
    fro rest h =
        let x = fits-red s f r (and_left (fitting s f 0 r) _ h) in
        let d : r.workers ≢ 0 = λ (e : r.workers ≡ 0). omega (arith, x.workers) in
        let h' = sym (two g s f r b ks d) ∙ h in
        let more = and_right (fitting s f 0 r) _ h' in
        pair_tiled g s f r b ks x (fits-blue (s + r.length) f r.workers b d (and_left (fitting (s + r.length) f r.workers b) _ more)) (rest ∙ and_right (fitting (s + r.length) f r.workers b) _ more)

-- ---- what a child's test says

pub record Fits (s f w : ℕ) (h : Group) : Type 0 where
  pub start : h.start ≡ s
  pub first : h.first ≡ f
  pub workers : w ≤ h.workers
  pub colour : (h.colour ≡ red) ⊎ (h.colour ≡ blue)

pub fits : (s f w : ℕ) (h : Group) → fitting s f w h ≡ true → Fits s f w h
fits s f w h e = go (same_or w 0)
  where
    go : (w ≡ 0) ⊎ (w ≢ 0) → Fits s f w h
    go (inl z) =
        let r = fits-red s f h (subst (λ (x : ℕ). fitting s f x h ≡ true) z e) in
        record { start = r.start; first = r.first; workers = omega arith; colour = inl r.colour }
    go (inr d) =
        let b = fits-blue s f w h d e in
        record { start = b.start; first = b.first; workers = omega (arith, b.workers); colour = inr b.colour }
