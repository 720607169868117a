-- A step that is taken makes the one load or store that is its worker's next, and an access leaves no choice.
use mathlib.Core.Path.{◌≡◌, refl, sym, ap, ◌∙◌, subst}
use mathlib.Core.List.{List, [], ◌∷◌, ◌++◌}
use Prim.Native.Nat.{ℕ, suc, ◌*◌, ◌/◌, ◌%◌, ◌<◌}
use native.Mathlib.Omega.{arith}
use lib.ListN.{length, get_or, take, drop, length-append}
use lib.Seq.{length-take-le, split_at, append_snoc, get_or_at}
use Rattle.run.specs.Job.{Job}
use Rattle.run.specs.Updates.{Update, count, updates, accesses, no_update, next}
use Rattle.run.specs.Machine.{onward, load, total, store}
use Rattle.run.specs.State.{State}
use Rattle.run.specs.OneAccess.{Access, loads, stores, loads_and_stores, sum_of, held_after, sums_after, OneAccess, Walk, stay, and_then}
use Rattle.run.proofs.Facts.{Facts}
use Rattle.run.proofs.Invariant.{Inv}
use Rattle.run.proofs.Able.{Able}

-- ---- the accesses of a list of updates

both-append : (us vs : List Update) → loads_and_stores (us ++ vs) ≡ loads_and_stores us ++ loads_and_stores vs
unfolding loads_and_stores
both-append [] vs = refl
both-append (u ∷ us) vs = ap (λ (as' : List Access). loads u ∷ stores u ∷ as') (both-append us vs)

pub both-length : (us : List Update) → length (loads_and_stores us) ≡ 2 * length us
unfolding loads_and_stores
both-length [] = refl
both-length (u ∷ us) = omega (arith, both-length us)

-- those of the updates before number k, the two of number k, and the others
both-split : (us : List Update) (k : ℕ) → k < length us
    → loads_and_stores us ≡ loads_and_stores (take k us) ++ (loads (get_or us k no_update) ∷ stores (get_or us k no_update) ∷ loads_and_stores (drop (suc k) us))
unfolding loads_and_stores
both-split us k l = ap loads_and_stores (split_at us k no_update l) ∙ both-append (take k us) (get_or us k no_update ∷ drop (suc k) us)

-- ---- the machine's load and store

module _ (j : Job) (F : Facts j) (s : State) (I : Inv j s) (w : ℕ) (a : Able j s.made w) where
  abbrev us : List Update
  us = updates j w

  abbrev at : ℕ
  at = count s.made w / 2

  inside : at < length us
  unfolding accesses
  inside = omega (arith, a.left)

  done : length (loads_and_stores (take at us)) ≡ 2 * at
  done = omega (arith, both-length (take at us), length-take-le at us (omega (arith, inside)))

  -- a load, at an even count
  pub one-load : count s.made w % 2 ≡ 0 → OneAccess j s w (load s w (next j s.made w))
  unfolding next onward load held_after sums_after sum_of
  one-load e = record {
    before = loads_and_stores (take at us);
    this = loads (get_or us at no_update);
    left = stores (get_or us at no_update) ∷ loads_and_stores (drop (suc at) us);
    all = both-split us at inside;
    next = omega (arith, done);
    made = refl;
    held = refl;
    sums = refl;
    counts = omega (arith, I.made-length, F.few, a.in_plan);
    holds = omega (arith, I.held-length, F.few, a.in_plan);
    inside = omega (arith, I.sums-length, F.targets w at inside);
  }

  -- a store, at an odd one
  pub one_store : count s.made w % 2 ≡ 1 → OneAccess j s w (store s w (next j s.made w))
  unfolding next onward total store held_after sums_after sum_of
  one_store e = record {
    before = loads_and_stores (take at us) ++ (loads (get_or us at no_update) ∷ []);
    this = stores (get_or us at no_update);
    left = loads_and_stores (drop (suc at) us);
    all = both-split us at inside ∙ sym (append_snoc (loads_and_stores (take at us)) (loads (get_or us at no_update)) (stores (get_or us at no_update) ∷ loads_and_stores (drop (suc at) us)));
    next = omega (arith, done, length-append (loads_and_stores (take at us)) (loads (get_or us at no_update) ∷ []));
    made = refl;
    held = refl;
    sums = refl;
    counts = omega (arith, I.made-length, F.few, a.in_plan);
    holds = omega (arith, I.held-length, F.few, a.in_plan);
    inside = omega (arith, I.sums-length, F.targets w at inside);
  }

-- ---- no choice

module _ (j : Job) where
  same-access : {s : State} {w : ℕ} {t u : State} → OneAccess j s w t → OneAccess j s w u → t ≡ u
  same-access {s} {w} {t} {u} a b = λ i. record { made = made i; held = held i; sums = sums i }
    where
      -- the access itself
      this : a.this ≡ b.this
      this = sym (get_or_at a.before a.this a.left (loads no_update) (count s.made w) (sym a.next))
          ∙ ap (λ (as' : List Access). get_or as' (count s.made w) (loads no_update)) (sym a.all ∙ b.all)
          ∙ get_or_at b.before b.this b.left (loads no_update) (count s.made w) (sym b.next)

      made : t.made ≡ u.made
      made = a.made ∙ sym b.made

      held : t.held ≡ u.held
      held = a.held ∙ ap (λ (x : Access). held_after x w s.held s.sums) this ∙ sym b.held

      sums : t.sums ≡ u.sums
      sums = a.sums ∙ ap (λ (x : Access). sums_after x w s.held s.sums) this ∙ sym b.sums

  -- the workers that moved give the state
  pub one_way : (ws : List ℕ) (s t u : State) → Walk j s ws t → Walk j s ws u → t ≡ u
  one_way ws s t u stay stay = refl
  one_way (w ∷ ws) s t u (and_then {t = p} a x) (and_then {t = q} b y) = one_way ws q t u (subst (λ (r : State). Walk j r ws t) (same-access a b) x) y
