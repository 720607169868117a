-- Loads of rows and levels: what they are made of, and how large they are.
use mathlib.Core.Path.{◌≡◌, refl, sym, ap, ◌∙◌}
use mathlib.Core.Bool.{true}
use mathlib.Core.List.{List, [], ◌∷◌, ◌++◌, map, map-append}
use Prim.Native.Nat.{ℕ, ◌+◌, ◌≤◌, ◌<◌}
use native.Mathlib.Numerals.{add-one}
use native.Mathlib.Omega.{arith}
use lib.Dec.{eqb}
use lib.ListN.{length, take, drop, get_or, take-append-drop}
use lib.Seq.{take-suc}
use borrow.Author.Tests.{eq-eqb}
use Rattle.base.specs.Lists.{is_in, concat, sum}
use Rattle.base.proofs.Booleans.{or_true}
use Rattle.base.proofs.Lists.{is_in-append}
use Rattle.levels.specs.Code.Group.{Proper}
use Rattle.sort.specs.Code.Sort.{Keyed}
use Rattle.loads.specs.Code.Stretches.{key_weight, key_load, Weighed, Loaded}
use Rattle.levels.specs.Levels.{degree}
use Rattle.levels.specs.Code.Rows.{Rows, adj_of}
use Rattle.levels.proofs.Members.{proper-short}
use Rattle.levels.proofs.Rows.{degrees_few}
use Rattle.race.specs.Loads.{weight, load_of}
use Rattle.extents.specs.Code.Scans.{max_load}
use Rattle.extents.proofs.Ends.{sum-append}

-- a row of a part
in_front : (j : ℕ) (vs : List ℕ) (v : ℕ) → is_in (take j vs) v ≡ true → is_in vs v ≡ true
in_front j vs v h = ap (λ (xs : List ℕ). is_in xs v) (sym (take-append-drop j vs)) ∙ is_in-append (take j vs) (drop j vs) v ∙ rw h refl

in_back : (j : ℕ) (vs : List ℕ) (v : ℕ) → is_in (drop j vs) v ≡ true → is_in vs v ≡ true
in_back j vs v h = ap (λ (xs : List ℕ). is_in xs v) (sym (take-append-drop j vs)) ∙ is_in-append (take j vs) (drop j vs) v ∙ rw h (or_true (is_in (take j vs) v))

-- ---- by keys

module _ (keys : List ℕ) where
  pub load-append : (us vs : List ℕ) → key_load keys (us ++ vs) ≡ key_load keys us + key_load keys vs
  load-append us vs = ap sum (map-append (key_weight keys) us vs) ∙ sum-append (map (key_weight keys) us) (map (key_weight keys) vs)

  pub load_split : (i : ℕ) (vs : List ℕ) → key_load keys (take i vs) + key_load keys (drop i vs) ≡ key_load keys vs
  load_split i vs = sym (load-append (take i vs) (drop i vs)) ∙ ap (key_load keys) (take-append-drop i vs)

  -- one row more
  pub load-next : (vs : List ℕ) (i : ℕ) → i < length vs → key_load keys (take (i + 1) vs) ≡ key_load keys (take i vs) + key_weight keys (get_or vs i 0)
  load-next vs i l = rw (add-one, take-suc vs i 0) (load-append (take i vs) (get_or vs i 0 ∷ []) ∙ omega arith)

  -- a part of the rows
  pub weighed-part : (vs : List ℕ) (a j : ℕ) → Weighed keys vs → Weighed keys (take j (drop a vs))
  weighed-part vs a j w = record {
    each = λ v h. w.each v (in_back a vs v (in_front j (drop a vs) v h));
    few = omega (arith, w.few, load_split a vs, load_split j (drop a vs));
  }

-- the keys are degrees
module _ {adj : ℕ → List ℕ} {n : ℕ} {keys : List ℕ} (k : Keyed adj n keys) where
  pub load_keys : (vs : List ℕ) → ((v : ℕ) → is_in vs v ≡ true → v < n) → key_load keys vs ≡ load_of adj vs
  unfolding load_of weight
  load_keys [] low = refl
  load_keys (v ∷ vs) low = omega (arith, k.is v (low v (rw (eq-eqb v v refl) refl)), load_keys vs (λ u h. low u (rw h (or_true (eqb u v)))))

  loads_keys : (ls : List (List ℕ)) → ((v : ℕ) → is_in (concat ls) v ≡ true → v < n) → map (key_load keys) ls ≡ map (load_of adj) ls
  loads_keys [] low = refl
  loads_keys (l ∷ ls) low =
      let a : key_load keys l ≡ load_of adj l = load_keys l (λ v h. low v (is_in-append l (concat ls) v ∙ rw h refl)) in
      let b : map (key_load keys) ls ≡ map (load_of adj) ls = loads_keys ls (λ v h. low v (is_in-append l (concat ls) v ∙ rw h (or_true (is_in l v)))) in
      rw (a, b)

  pub loaded_keys : {stretch : List ℕ} {ls : List (List ℕ)} {all : ℕ} {loads : List ℕ} → Proper n stretch → stretch ≡ concat ls → Loaded (key_load keys) stretch ls all loads → Loaded (load_of adj) stretch ls all loads
  loaded_keys {stretch} {ls} pr e l = record {
    all_is = l.all_is ∙ load_keys stretch pr.inside;
    long = l.long;
    loads_are = l.loads_are ∙ loads_keys ls (rw e at pr.inside);
  }

-- ---- by degrees

module _ (adj : ℕ → List ℕ) where
  load-both : (us vs : List ℕ) → load_of adj (us ++ vs) ≡ load_of adj us + load_of adj vs
  unfolding load_of
  load-both us vs = ap sum (map-append (weight adj) us vs) ∙ sum-append (map (weight adj) us) (map (weight adj) vs)

  -- levels have the load of their rows
  pub load-concat : (ls : List (List ℕ)) → load_of adj (concat ls) ≡ sum (map (load_of adj) ls)
  unfolding load_of
  load-concat [] = refl
  load-concat (l ∷ ls) = load-both l (concat ls) ∙ omega (arith, load-concat ls)

  -- every row counts, and every row adjacent to one
  load_degrees : (vs : List ℕ) → load_of adj vs ≡ length vs + sum (map (degree adj) vs)
  unfolding load_of weight
  load_degrees [] = refl
  load_degrees (v ∷ vs) = omega (arith, load_degrees vs)

  -- some rows have some load
  pub load-some : (vs : List ℕ) → 1 ≤ length vs → 1 ≤ load_of adj vs
  load-some vs l = omega (arith, load_degrees vs)

-- a group's load is within its limit
pub load-few : (n : ℕ) (starts columns T : List ℕ) → Rows n starts columns → Proper n T → load_of (adj_of n starts columns) T ≤ max_load
load-few n starts columns T rows pr = omega (arith, load_degrees (adj_of n starts columns) T, degrees_few rows T pr, proper-short pr, rows.small, rows.few)

-- .. also by keys
pub group_weighed : (n : ℕ) (starts columns keys T : List ℕ) → Rows n starts columns → Keyed (adj_of n starts columns) n keys → Proper n T → Weighed keys T
group_weighed n starts columns keys T rows k pr = record {
  each = λ v h. let l = pr.inside v h in (omega (arith, rows.small), omega (arith, k.is v l));
  few = rw (load_keys k T pr.inside) (load-few n starts columns T rows pr);
}
