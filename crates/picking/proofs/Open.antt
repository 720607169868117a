-- Gates that are open stay so while counts grow.
use mathlib.Core.Path.{◌≡◌, refl, sym, ap, ◌∙◌}
use mathlib.Core.Logic.{◌⊎◌, inl, inr, ◌≢◌}
use mathlib.Core.Bool.{Bool, true, false}
use mathlib.Core.List.{List}
use Prim.Native.Nat.{ℕ, zero, suc, ◌^◌, ◌≤◌, ◌<◌}
use native.Mathlib.Omega.{arith}
use lib.Dec.{ltb}
use lib.ListN.{length, get_or, set, length-set}
use lib.Seq.{get_or-set_same, get_or-set_other}
use Rattle.base.proofs.Booleans.{same_or}
use Rattle.plan.specs.Sound.{max_workers}
use Rattle.run.specs.Updates.{Update, count}
use Rattle.run.specs.Machine.{onward}
use Rattle.run.specs.State.{State}
use Rattle.steps.specs.Code.Steps.{PickMade}
use Rattle.prepared.specs.Format.{gates_from}
use Rattle.prepared.proofs.Gates.{stays_open}
use Rattle.picking.specs.Code.Reads.{gate_at, shut_at}
use Rattle.picking.specs.Code.Picks.{Opened, Seen}
use Rattle.picking.proofs.Turns.{shut_none}

-- no count of new is below that of made
abbrev Grown : (made new : List ℕ) → Type 0
Grown made new = (v : ℕ) → count made v ≤ count new v

one_more : (made : List ℕ) (w : ℕ) → w < length made → Grown made (onward made w)
unfolding onward
one_more made w l v = go (same_or v w)
  where
    go : (v ≡ w) ⊎ (v ≢ w) → count made v ≤ count (set made w (suc (count made w))) v
    go (inl q) = rw q (omega (arith, get_or-set_same made w (suc (count made w)) 0 l))
    go (inr d) = omega (arith, get_or-set_other made w v (suc (count made w)) 0 d)

-- the counts after a pick
pick_grown : {why : ℕ} {s t : State} {w : ℕ} {u : Update} (number : ℕ) → w < length s.made → PickMade why s w u number t → Grown s.made t.made
pick_grown zero l h v = rw (h.counted refl) (one_more _ _ l v)
pick_grown (suc k) l h v = omega (arith, ap (λ (r : State). count r.made v) (h.kept (λ q. omega arith)))

pick_long : {why : ℕ} {s t : State} {w : ℕ} {u : Update} (number : ℕ) → PickMade why s w u number t → length t.made ≡ length s.made
unfolding onward
pick_long {why} {s} {t} {w} zero h = ap length (h.counted refl) ∙ length-set s.made w (suc (count s.made w))
pick_long (suc k) h = ap (λ (r : State). length r.made) (h.kept (λ q. omega arith))

module _ (list : List ℕ) (rows count : ℕ) where
  shut_stays : (made new : List ℕ) (row : ℕ) → Grown made new → shut_at list (gates_from count) rows row made ≡ false → shut_at list (gates_from count) rows row new ≡ false
  unfolding shut_at
  shut_stays made new row g e = go (ltb row rows) refl
    where
      go : (b : Bool) → ltb row rows ≡ b → shut_at list (gates_from count) rows row new ≡ false
      go true x = rw x (stays_open made new (gate_at list _) 16 (λ v l. g v) (rw x at e))
      go false x = rw x refl

  -- after a pick of a worker whose row's gate is open
  pub seen_on : {why : ℕ} {s t : State} {w : ℕ} {u : Update} {number : ℕ} → w < max_workers → PickMade why s w u number t
      → {seen : List ℕ} → Seen list rows count s.made seen → (row : ℕ) → shut_at list (gates_from count) rows row s.made ≡ false → Seen list rows count t.made (set seen w row)
  seen_on {why} {s} {t} {w} {u} {number} l h {seen} o row e =
      let inside : w < length s.made = omega (arith, o.made_long) in
      record {
        made_long = pick_long number h ∙ o.made_long;
        seen_long = length-set seen w row ∙ o.seen_long;
        opened = λ v m. shut_stays s.made t.made (get_or (set seen w row) v 0) (pick_grown number inside h) (go v m (same_or v w));
      }
    where
      go : (v : ℕ) → v < max_workers → (v ≡ w) ⊎ (v ≢ w) → shut_at list (gates_from count) rows (get_or (set seen w row) v 0) s.made ≡ false
      go v m (inl q) =
          let inside : w < length seen = omega (arith, o.seen_long) in
          ap (λ (r : ℕ). shut_at list (gates_from count) rows r s.made) (ap (λ (y : ℕ). get_or (set seen w row) y 0) q ∙ get_or-set_same seen w row 0 inside) ∙ e
      go v m (inr d) = ap (λ (r : ℕ). shut_at list (gates_from count) rows r s.made) (get_or-set_other seen w v row 0 d) ∙ o.opened v m

  -- a row past the last one has no gate
  pub opened-start : (made seen : List ℕ) → rows < 2 ^ 32 → ((w : ℕ) → w < max_workers → get_or seen w 0 ≡ 4294967295) → Opened list rows count made seen
  opened-start made seen low h w l = sym (shut_none list (gates_from count) rows (get_or seen w 0) made (omega (arith, h w l)))
