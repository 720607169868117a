-- What a list of visits does: to the marks, to the queue, and to how many rows have a mark.
use mathlib.Core.Path.{◌≡◌, refl, sym, ap, ◌∙◌, subst}
use mathlib.Core.Logic.{◌≢◌}
use mathlib.Core.Bool.{Bool, true, false, ◌&&◌, ◌||◌, cond}
use mathlib.Core.List.{List, [], ◌∷◌, ◌++◌, append_assoc, append-nil}
use Prim.Native.Nat.{ℕ, suc, ◌+◌, ◌≤◌, ◌<◌}
use native.Mathlib.Omega.{arith}
use lib.Dec.{eqb}
use lib.ListN.{length, get_or, set, length-set, length-append}
use lib.Seq.{get_or-set_same, get_or-set_other}
use borrow.Author.Tests.{eqb-true, eqb-false, eq-eqb, ne_eqb}
use Rattle.base.specs.Lists.{is_in, range}
use Rattle.base.proofs.Booleans.{and_false, or_true}
use Rattle.base.proofs.Lists.{is_in-append, in_pos, filter-of, is_in-range, filter-one_more}
use Rattle.search.specs.Code.Marks.{at_mark, how_many}
use Rattle.search.specs.Code.Search.{Wave, wave, visited, visited_all}

pub visited_all-append : (c m : ℕ) (w : Wave) (xs ys : List ℕ) → visited_all c m w (xs ++ ys) ≡ visited_all c m (visited_all c m w xs) ys
unfolding visited_all
visited_all-append c m w [] ys = refl
visited_all-append c m w (x ∷ xs) ys = visited_all-append c m (visited c m w x) xs ys

pub visited_new : (c m : ℕ) (w : Wave) (v : ℕ) → get_or w.marks v 0 ≡ c → visited c m w v ≡ wave (set w.marks v m) (w.queue ++ v ∷ [])
unfolding visited
visited_new c m w v h = rw (eq-eqb (get_or w.marks v 0) c h)

pub visited_old : (c m : ℕ) (w : Wave) (v : ℕ) → get_or w.marks v 0 ≢ c → visited c m w v ≡ w
unfolding visited
visited_old c m w v h = rw (ne_eqb (get_or w.marks v 0) c h)

-- ---- rows with mark c

-- a row that gets another mark is one less
pub one_less : (n c : ℕ) (marks : List ℕ) (v m : ℕ) → v < n → v < length marks → get_or marks v 0 ≡ c → m ≢ c → how_many n marks c ≡ suc (how_many n (set marks v m) c)
one_less n c marks v m l k h d =
    filter-one_more (λ x. eqb (get_or marks x 0) c) (λ x. eqb (get_or (set marks v m) x 0) c) 0 n v (omega arith) (omega arith)
    (eq-eqb (get_or marks v 0) c h)
    (ap (λ (y : ℕ). eqb y c) (get_or-set_same marks v m 0 k) ∙ ne_eqb m c d)
    (λ x e. ap (λ (y : ℕ). eqb y c) (sym (get_or-set_other marks v x m 0 e)))

pub some_left : (n c : ℕ) (marks : List ℕ) (v : ℕ) → v < n → get_or marks v 0 ≡ c → 1 ≤ how_many n marks c
some_left n c marks v l h =
    in_pos (at_mark n marks c) v (filter-of (λ x. eqb (get_or marks x 0) c) (range 0 n) v (is_in-range 0 n v (omega arith) (omega arith)) (eq-eqb (get_or marks v 0) c h))

-- ---- a list of visits

-- who of vs had mark c got mark m and stands in the queue
pub record Grown (n c m : ℕ) (w w' : Wave) (vs : List ℕ) : Type 0 where
  pub found : List ℕ
  pub queue-is : w'.queue ≡ w.queue ++ found
  pub found-is : (x : ℕ) → is_in found x ≡ eqb (get_or w.marks x 0) c && is_in vs x
  pub marks-is : (x : ℕ) → get_or w'.marks x 0 ≡ cond (eqb (get_or w.marks x 0) c && is_in vs x) m (get_or w.marks x 0)
  pub long : length w'.marks ≡ length w.marks
  pub count : length found + how_many n w'.marks c ≡ how_many n w.marks c

-- no one new among vs
grown_none : (n c m : ℕ) (w : Wave) (vs : List ℕ) → ((x : ℕ) → eqb (get_or w.marks x 0) c && is_in vs x ≡ false) → Grown n c m w w vs
grown_none n c m w vs h = record {
  found = [];
  queue-is = sym (append-nil w.queue);
  found-is = λ x. sym (h x);
  marks-is = λ x. rw (h x);
  long = refl;
  count = omega arith;
}

-- visits after visits: m₀ a row's mark, a whether it is c, b and d whether the row is in the lists
module _ (c m : ℕ) (ne : m ≢ c) where
  twice : (a b d : Bool) (m₀ : ℕ) → eqb m₀ c ≡ a → cond (eqb (cond (a && b) m m₀) c && d) m (cond (a && b) m m₀) ≡ cond (a && (b || d)) m m₀
  twice true true d m₀ e = rw (ne_eqb m c ne)
  twice true false d m₀ e = rw e
  twice false b d m₀ e = rw e

  either : (a b d : Bool) (m₀ : ℕ) → eqb m₀ c ≡ a → (a && b) || (eqb (cond (a && b) m m₀) c && d) ≡ a && (b || d)
  either true true d m₀ e = refl
  either true false d m₀ e = rw e
  either false b d m₀ e = rw e

  grown_append : {n : ℕ} {w w' w'' : Wave} {xs ys : List ℕ} → Grown n c m w w' xs → Grown n c m w' w'' ys → Grown n c m w w'' (xs ++ ys)
  grown_append {n} {w} {w'} {w''} {xs} {ys} g h = record {
    found = g.found ++ h.found;
    queue-is = h.queue-is ∙ ap (λ (l : List ℕ). l ++ h.found) g.queue-is ∙ append_assoc w.queue g.found h.found;
    found-is = λ x.
        is_in-append g.found h.found x
        ∙ rw (g.found-is x, h.found-is x, g.marks-is x, is_in-append xs ys x)
        (either (eqb (get_or w.marks x 0) c) (is_in xs x) (is_in ys x) (get_or w.marks x 0) refl);
    marks-is = λ x.
        h.marks-is x
        ∙ rw (g.marks-is x, is_in-append xs ys x)
        (twice (eqb (get_or w.marks x 0) c) (is_in xs x) (is_in ys x) (get_or w.marks x 0) refl);
    long = h.long ∙ g.long;
    count = omega (arith, length-append g.found h.found, g.count, h.count);
  }

  grown_one : (n : ℕ) (w : Wave) (v : ℕ) → v < n → v < length w.marks → Grown n c m w (visited c m w v) (v ∷ [])
  grown_one n w v l k = go (eqb (get_or w.marks v 0) c) refl
    where
      -- a row is v or another
      case : (P : ℕ → Bool → Type 0) → P v true → ((x : ℕ) → x ≢ v → P x false) → (x : ℕ) → P x (eqb x v || false)
      case P p q x = at (eqb x v) refl
        where
          at : (b : Bool) → eqb x v ≡ b → P x (b || false)
          at true e = subst (λ (y : ℕ). P y true) (sym (eqb-true x v e)) p
          at false e = q x (eqb-false x v e)

      go : (b : Bool) → eqb (get_or w.marks v 0) c ≡ b → Grown n c m w (visited c m w v) (v ∷ [])
      go true e =
          let h : get_or w.marks v 0 ≡ c = eqb-true _ c e in
          subst (λ (w' : Wave). Grown n c m w w' (v ∷ [])) (sym (visited_new c m w v h)) (record {
            found = v ∷ [];
            queue-is = refl;
            found-is = case (λ x b. b ≡ eqb (get_or w.marks x 0) c && b) (rw e) (λ x d. sym (and_false (eqb (get_or w.marks x 0) c)));
            marks-is = case (λ x b. get_or (set w.marks v m) x 0 ≡ cond (eqb (get_or w.marks x 0) c && b) m (get_or w.marks x 0))
                (rw e (get_or-set_same w.marks v m 0 k)) (λ x d. rw (and_false (eqb (get_or w.marks x 0) c)) (get_or-set_other w.marks v x m 0 d));
            long = length-set w.marks v m;
            count = omega (arith, one_less n c w.marks v m l k h ne);
          })
      go false e =
          subst (λ (w' : Wave). Grown n c m w w' (v ∷ [])) (sym (visited_old c m w v (eqb-false _ c e)))
          (grown_none n c m w (v ∷ []) (case (λ x b. eqb (get_or w.marks x 0) c && b ≡ false) (rw e) (λ x d. and_false (eqb (get_or w.marks x 0) c))))

  pub grown : (n : ℕ) (w : Wave) (vs : List ℕ) → ((x : ℕ) → is_in vs x ≡ true → x < n) → n ≤ length w.marks → Grown n c m w (visited_all c m w vs) vs
  unfolding visited_all
  grown n w [] b l = grown_none n c m w [] (λ x. and_false (eqb (get_or w.marks x 0) c))
  grown n w (v ∷ vs) b l =
      let g : Grown n c m w (visited c m w v) (v ∷ []) = grown_one n w v (b v (rw (eq-eqb v v refl))) (omega (arith, b v (rw (eq-eqb v v refl)))) in
      grown_append g (grown n (visited c m w v) vs (λ x h. b x (rw h (or_true (eqb x v)))) (omega (arith, g.long)))
