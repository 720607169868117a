-- What is read at the places of a prepared list is what its tables say.
use mathlib.Core.Path.{◌≡◌, refl, sym, ap, ◌∙◌}
use mathlib.Core.Bool.{Bool, true, false, cond}
use mathlib.Core.List.{List}
use Prim.Native.Nat.{ℕ, ◌+◌, ◌*◌, ◌/◌, ◌<◌}
use native.Mathlib.Omega.{arith}
use lib.Dec.{ltb, leb}
use lib.ListN.{get_or}
use borrow.Author.Tests.{ltb-true, ltb-false, leb-false}
use Rattle.plan.specs.Sound.{max_workers}
use Rattle.run.specs.Updates.{Update, count, no_update}
use Rattle.run.specs.Machine.{reason}
use Rattle.words.specs.LittleEndian.{to_signed}
use Rattle.words.specs.Code.Places.{four_at, eight_at}
use Rattle.prepared.specs.Gates.{behind}
use Rattle.prepared.specs.Tables.{Tables, next_by, waits_by, refusal_by}
use Rattle.prepared.specs.Format.{tables_of, lists_in, is_prepared, count_in, gates_from, head_bytes, update_bytes}
use Rattle.prepared.proofs.Gates.{behind-same, behind-none}
use Rattle.prepared.proofs.Places as at
use Rattle.picking.specs.Code.Reads.{gate_at, number_next, update_at, shut_at, Head}

module _ (b : List ℕ) (ok : is_prepared b ≡ true) where
  abbrev T : Tables
  T = tables_of (lists_in b)

  any-update : (k : ℕ) → get_or (lists_in b).updates k no_update ≡ update_at b (count_in b) k
  unfolding update_at
  any-update k = go (ltb k (count_in b)) refl
    where
      go : (t : Bool) → ltb k (count_in b) ≡ t
          → get_or (lists_in b).updates k no_update ≡ cond t (record { row = four_at b (144 + k * 16 + 12); target = four_at b (144 + k * 16 + 8); amount = to_signed 8 (eight_at b (144 + k * 16)) }) no_update
      go true e =
          let p : head_bytes + (k * update_bytes + 12) ≡ 144 + k * 16 + 12 = omega arith in
          let q : head_bytes + (k * update_bytes + 8) ≡ 144 + k * 16 + 8 = omega arith in
          let r : head_bytes + (k * update_bytes + 0) ≡ 144 + k * 16 = omega arith in
          at.update-at b ok k (ltb-true k (count_in b) e)
          ∙ ap (λ (x : ℕ). record { row = four_at b x; target = four_at b (head_bytes + (k * update_bytes + 8)); amount = to_signed 8 (eight_at b (head_bytes + (k * update_bytes + 0))) }) p
          ∙ ap (λ (x : ℕ). record { row = four_at b (144 + k * 16 + 12); target = four_at b x; amount = to_signed 8 (eight_at b (head_bytes + (k * update_bytes + 0))) }) q
          ∙ ap (λ (x : ℕ). record { row = four_at b (144 + k * 16 + 12); target = four_at b (144 + k * 16 + 8); amount = to_signed 8 (eight_at b x) }) r
      go false e = at.update-past b ok k (ltb-false k (count_in b) e)

  module _ (w : ℕ) (l : w < max_workers) where
    -- update number k of worker w
    pub update-read : (k : ℕ) → T.update w k ≡ update_at b (count_in b) (four_at b (80 + w * 4) + k)
    unfolding tables_of
    update-read k = any-update (get_or (lists_in b).first w 0 + k) ∙ ap (λ (x : ℕ). update_at b (count_in b) (x + k)) (at.first_at b ok w l)

    -- how many accesses it makes
    pub most-read : T.most w ≡ four_at b (16 + w * 4)
    unfolding tables_of
    most-read = at.most-at b ok w l

    -- who waits before it
    pub shut_read : (made : List ℕ) (k : ℕ) → behind made (T.need w k) max_workers ≡ shut_at b (gates_from (count_in b)) (lists_in b).rows (T.update w k).row made
    unfolding shut_at tables_of
    shut_read made k = go (ltb row (lists_in b).rows) refl
      where
        row : ℕ
        row = (get_or (lists_in b).updates (get_or (lists_in b).first w 0 + k) no_update).row

        go : (t : Bool) → ltb row (lists_in b).rows ≡ t
            → behind made (λ v. get_or (lists_in b).gates (row * max_workers + v) 0) max_workers ≡ cond t (behind made (gate_at b (gates_from (count_in b) + row * 64)) 16) false
        go true e = behind-same made (λ v. get_or (lists_in b).gates (row * max_workers + v) 0) (gate_at b (gates_from (count_in b) + row * 64)) max_workers (λ v m. at.gate-at b ok row v (ltb-true row (lists_in b).rows e) m)
        go false e =
            behind-same made (λ v. get_or (lists_in b).gates (row * max_workers + v) 0) (λ v. 0) max_workers (λ v m. at.gate-past b ok row v (ltb-false row (lists_in b).rows e))
            ∙ behind-none made max_workers

-- ---- a step

module _ {list : List ℕ} {rows crew n : ℕ} (h : Head list rows crew n) (made : List ℕ) (w : ℕ) where
  abbrev R : Tables
  R = tables_of (lists_in list)

  -- worker w's next update, how many accesses it makes, and whether it waits
  abbrev pub next_at : Update
  next_at = update_at list n (number_next list made w)

  abbrev pub most_at : ℕ
  most_at = four_at list (16 + w * 4)

  abbrev pub waits_at : Bool
  waits_at = shut_at list (gates_from n) rows next_at.row made

  -- the next update
  pub next-read : w < crew → next_by R made w ≡ next_at
  unfolding next_by
  next-read l = update-read list h.prepared w (omega (arith, h.few)) (count made w / 2) ∙ ap (λ (c : ℕ). update_at list c (number_next list made w)) (sym h.count_is)

  waits-read : w < crew → waits_by R made w ≡ waits_at
  unfolding waits_by next_by
  waits-read l =
      shut_read list h.prepared w (omega (arith, h.few)) made (count made w / 2)
      ∙ ap (λ (c : ℕ). shut_at list (gates_from c) (lists_in list).rows (next_by R made w).row made) (sym h.count_is)
      ∙ ap (λ (r : ℕ). shut_at list (gates_from n) r (next_by R made w).row made) (sym h.rows_are)
      ∙ ap (λ (u : Update). shut_at list (gates_from n) rows u.row made) (next-read l)

  -- why a step is refused
  refusal-read : reason (ltb w crew) (leb most_at (count made w)) waits_at ≡ refusal_by R made w
  unfolding refusal_by reason tables_of
  refusal-read = go (ltb w crew) refl ∙ ap (λ (c : ℕ). reason (ltb w c) (leb (R.most w) (count made w)) (waits_by R made w)) h.crew_is
    where
      go : (b : Bool) → ltb w crew ≡ b → reason (ltb w crew) (leb most_at (count made w)) waits_at ≡ reason (ltb w crew) (leb (R.most w) (count made w)) (waits_by R made w)
      go true e =
          let l = ltb-true w crew e in
          ap (λ (m : ℕ). reason (ltb w crew) (leb m (count made w)) waits_at) (sym (most-read list h.prepared w (omega (arith, h.few))))
          ∙ ap (reason (ltb w crew) (leb (R.most w) (count made w))) (sym (waits-read l))
      go false e = rw e refl

  -- .. by its three tests
  pub refused_by : (a b t : Bool) → ltb w crew ≡ a → leb most_at (count made w) ≡ b → waits_at ≡ t → reason a b t ≡ refusal_by R made w
  refused_by a b t x y z = rw (x, y, z) at refusal-read

  -- what it is that it is not
  pub record Free : Type 0 where
    pub worker : w < crew
    pub left : count made w < most_at
    pub opened : waits_at ≡ false

  pub free : refusal_by R made w ≡ 0 → Free
  unfolding reason
  free e = go (ltb w crew) refl (leb most_at (count made w)) refl waits_at refl (refusal-read ∙ e)
    where
      go : (a : Bool) → ltb w crew ≡ a → (b : Bool) → leb most_at (count made w) ≡ b → (c : Bool) → waits_at ≡ c → reason a b c ≡ 0 → Free
      go false x b y c z q = absurd (omega arith)
      go true x true y c z q = absurd (omega arith)
      go true x false y true z q = absurd (omega arith)
      go true x false y false z q = record { worker = ltb-true w crew x; left = leb-false most_at (count made w) y; opened = z }
