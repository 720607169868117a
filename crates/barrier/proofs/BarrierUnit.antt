-- After any writes the registers tell what the history does, and the releases are its complete gatherings.
use Rattle.std.proofs.Common.{◌≡◌, ℕ, zero, suc, ◌+◌, ◌*◌, ◌/◌, ◌%◌, ◌^◌, ◌<◌, ◌≤◌, Bool, true, false, cond, not, ◌&&◌, ◌||◌, eqb, leb, List, [], ◌∷◌, sym, refl, ap, ◌∙◌, ap₂, ⊎_elim, arith, ltb-true, ne_eqb, leb-false, leb-true}
use mathlib.Core.Bool.{and-true}
use lib.Bits.{bit_and, bit_or, and_lt, or_lt}
use Rattle.base.specs.Lists.{keep, bit}
use Rattle.base.proofs.Booleans.{and_false, is_false}
use Rattle.barrier.specs.declared.Barrier.{Barrier}
use Rattle.barrier.specs.Bits.{has_bit}
use Rattle.barrier.specs.Registers.{enlisted, is_gathered, released, still_out, arriving, after_write, register}
use Rattle.barrier.specs.Gatherings.{Write, arrived_bytes, status_byte, enable_byte, is_member_write, is_to, has_worker, is_member, was_named, all_named, gathering, is_complete, gatherings, is_released, is_enabled}
use Rattle.barrier.specs.BarrierUnit.{unit_after, history, BarrierUnit}
use Rattle.barrier.proofs.Bits.{bit-zero, bit-or, bit-and, place, whole, set-low, set-high, low-alone, high-alone}
use Rattle.barrier.proofs.Histories.{under_way, Kept, join, join-begins, settle, settle_tells}

-- a write that is refused changes nothing
pub refused-same : (u : Barrier) (address byte : ℕ) → 5 < address → after_write u address byte ≡ u
unfolding after_write
refused-same u address byte l =
    rw (ne_eqb address 0 (λ e. omega arith), ne_eqb address 1 (λ e. omega arith), ne_eqb address 2 (λ e. omega arith), ne_eqb address 3 (λ e. omega arith), ne_eqb address 4 (λ e. omega arith), ne_eqb address 5 (λ e. omega arith))

-- the last register
pub read-enable : (u : Barrier) (address : ℕ) → 4 < address → register u address ≡ bit u.enable
unfolding register
read-enable u address l =
    rw (ne_eqb address 0 (λ e. omega arith), ne_eqb address 1 (λ e. omega arith), ne_eqb address 2 (λ e. omega arith), ne_eqb address 3 (λ e. omega arith), ne_eqb address 4 (λ e. omega arith))

-- ---- one write more, at each address

-- the registers after a history
pub record Tells (h : List Write) (u : Barrier) : Type 0 where
  pub sets : Kept h u
  pub status : u.status ≡ is_released h
  pub enable : u.enable ≡ is_enabled h

spread : (x n s : Bool) → (x && n) || (s && x) ≡ x && (s || n)
spread true true true = refl
spread true true false = refl
spread true false true = refl
spread true false false = refl
spread false n true = refl
spread false n false = refl

module _ (h : List Write) (u : Barrier) (t : Tells h u) (address byte : ℕ) (small : byte < 256) where
  w : Write
  w = record { address = address; byte = byte; small = small }

  -- status after a write that completes a gathering, or not, and clears, or not
  released-next : (done clears : Bool) → is_complete (w ∷ h) ≡ done → eqb address status_byte && has_bit byte 0 ≡ clears → is_released (w ∷ h) ≡ done || (u.status && not clears)
  unfolding is_released w
  released-next done clears e f = rw (e, f, t.status)

  enabled-same : eqb address enable_byte ≡ false → is_enabled (w ∷ h) ≡ is_enabled h
  unfolding is_enabled w
  enabled-same e = rw e

  -- members stay, unless a member byte is written
  members-same : 2 ≤ address → (v : ℕ) → v < 16 → is_member (w ∷ h) v ≡ is_member h v
  unfolding is_member w
  members-same l v i = rw (ne_eqb address (0 + v / 8) (λ e. omega arith))

  no_member : 2 ≤ address → is_member_write w ≡ false
  unfolding w
  no_member l = is_false (λ t. omega (arith, ltb-true address 2 t))

  -- a member byte is written
  enter : is_member_write w ≡ true → eqb address status_byte ≡ false → eqb address enable_byte ≡ false
      → (m : ℕ) → m < 2 ^ 16 → ((v : ℕ) → v < 16 → has_bit m v ≡ is_member (w ∷ h) v) → Tells (w ∷ h) (enlisted u m)
  enter j s e m l em = record {
    sets = join h u t.sets w j m l em;
    status = sym (released-next false false (join-begins h u t.sets w j m l em) (rw s) ∙ and-true u.status);
    enable = t.enable ∙ sym (enabled-same e);
  }

  -- an arrived byte is written
  module _ (l : 2 ≤ address) (named : ℕ) (few : named < 2 ^ 16) (en : (v : ℕ) → v < 16 → has_bit named v ≡ is_to arrived_bytes w v && has_worker w v) where
    abbrev arrivals : ℕ
    arrivals = bit_or u.arrived (bit_and named u.members)

    arrivals_few : arrivals < 2 ^ 16
    arrivals_few = or_lt 16 u.arrived (bit_and named u.members) t.sets.come (and_lt 16 named u.members few t.sets.few)

    arrivals_are : (v : ℕ) → v < 16 → has_bit arrivals v ≡ is_member h v && was_named (w ∷ under_way h) v
    unfolding was_named
    arrivals_are v i =
        bit-or u.arrived (bit_and named u.members) v ∙ ap₂ (λ (x y : Bool). x || y) (t.sets.arrived v i) (bit-and named u.members v ∙ ap₂ (λ (x y : Bool). x && y) (en v i) (t.sets.members v i))
        ∙ spread (is_member h v) (was_named (under_way h) v) (is_to arrived_bytes w v && has_worker w v)

    arrive : eqb address status_byte ≡ false → eqb address enable_byte ≡ false → Tells (w ∷ h) (arriving u named)
    arrive s e = go (is_gathered u.members arrivals) refl (settle h u t.sets w (no_member l) (members-same l) arrivals arrivals_few arrivals_are)
      where
        done : is_complete (w ∷ h) ≡ is_gathered u.members arrivals
        done = settle_tells h u t.sets w (no_member l) (members-same l) arrivals arrivals_few arrivals_are

        go : (b : Bool) → is_gathered u.members arrivals ≡ b → Kept (w ∷ h) (cond b (released u) (still_out u arrivals)) → Tells (w ∷ h) (cond b (released u) (still_out u arrivals))
        go true f k = record { sets = k; status = sym (released-next true false (done ∙ f) (rw s)); enable = t.enable ∙ sym (enabled-same e) }
        go false f k = record { sets = k; status = sym (released-next false false (done ∙ f) (rw s) ∙ and-true u.status); enable = t.enable ∙ sym (enabled-same e) }

  -- status or enable is written: the sets stay, and no gathering is complete
  module _ (l : 4 ≤ address) where
    not_named : (v : ℕ) → v < 16 → has_bit u.arrived v ≡ is_member h v && was_named (w ∷ under_way h) v
    unfolding w was_named
    not_named v i = t.sets.arrived v i ∙ rw (ne_eqb address (2 + v / 8) (λ e. omega arith))

    apart : Kept (w ∷ h) u
    apart = rw t.sets.unmet at (settle h u t.sets w (no_member (omega arith)) (members-same (omega arith)) u.arrived t.sets.come not_named)

    apart_tells : is_complete (w ∷ h) ≡ false
    apart_tells = settle_tells h u t.sets w (no_member (omega arith)) (members-same (omega arith)) u.arrived t.sets.come not_named ∙ t.sets.unmet

enabled-next : (h : List Write) (byte : ℕ) (small : byte < 256) → has_bit byte 0 ≡ is_enabled (record { address = 5; byte = byte; small = small } ∷ h)
unfolding is_enabled
enabled-next h byte small = refl

-- a write that is not refused
step : (h : List Write) (u : Barrier) → Tells h u → (address byte : ℕ) (small : byte < 256) → address ≤ 5 → Tells (record { address = address; byte = byte; small = small } ∷ h) (after_write u address byte)
unfolding after_write w is_member
step h u t zero byte small l =
    enter h u t 0 byte small refl refl refl (u.members / 256 * 256 + byte) (omega (arith, t.sets.few)) (λ v i. rw (t.sets.members v i) at (set-low u.members byte v small i))
step h u t (suc zero) byte small l =
    enter h u t 1 byte small refl refl refl (byte * 256 + u.members % 256) (omega arith) (λ v i. rw (t.sets.members v i) at (set-high u.members byte v small i))
step h u t (suc (suc zero)) byte small l = arrive h u t 2 byte small (omega arith) byte (omega arith) (λ v i. low-alone byte v small i) refl refl
step h u t (suc (suc (suc zero))) byte small l = arrive h u t 3 byte small (omega arith) (byte * 256) (omega arith) (λ v i. high-alone byte v small i) refl refl
step h u t (suc (suc (suc (suc zero)))) byte small l = record {
  sets = apart h u t 4 byte small (omega arith);
  status = sym (released-next h u t 4 byte small false (has_bit byte 0) (apart_tells h u t 4 byte small (omega arith)) refl);
  enable = t.enable ∙ sym (enabled-same h u t 4 byte small refl);
}
step h u t (suc (suc (suc (suc (suc zero))))) byte small l = record {
  sets = apart h u t 5 byte small (omega arith);
  status = sym (released-next h u t 5 byte small false false (apart_tells h u t 5 byte small (omega arith)) refl ∙ and-true u.status);
  enable = enabled-next h byte small;
}
step h u t (suc (suc (suc (suc (suc (suc n)))))) byte small l = absurd (omega arith)

-- ---- all writes

pub tells : (ws : List Write) → Tells (history ws) (unit_after ws)
unfolding unit_after history is_member was_named gatherings is_released is_enabled gathering all_named
tells [] = record {
  sets = record { few = omega arith; come = omega arith; members = λ v i. bit-zero v; arrived = λ v i. bit-zero v; unmet = refl; count = refl };
  status = refl;
  enable = refl;
}
tells (w ∷ ws) = go (leb w.address 5) refl (tells ws)
  where
    go : (b : Bool) → leb w.address 5 ≡ b → Tells (history ws) (unit_after ws) → Tells (keep b w (history ws)) (after_write (unit_after ws) w.address w.byte)
    go true e t = step (history ws) (unit_after ws) t w.address w.byte w.small (leb-true w.address 5 e)
    go false e t = rw (refused-same (unit_after ws) w.address w.byte (leb-false w.address 5 e)) t

-- ---- what the registers read

pub bit-small : (b : Bool) → bit b < 256
bit-small true = omega arith
bit-small false = omega arith

pub read_small : (u : Barrier) → u.members < 2 ^ 16 → u.arrived < 2 ^ 16 → (address : ℕ) → register u address < 256
unfolding register
read_small u m a zero = omega arith
read_small u m a (suc zero) = omega arith
read_small u m a (suc (suc zero)) = omega arith
read_small u m a (suc (suc (suc zero))) = omega arith
read_small u m a (suc (suc (suc (suc zero)))) = bit-small u.status
read_small u m a (suc (suc (suc (suc (suc n))))) = rw (read-enable u (suc (suc (suc (suc (suc n))))) (omega arith)) (bit-small u.enable)

module _ (u : Barrier) (v : ℕ) (l : v < 16) where
  member_read : has_bit (register u (0 + v / 8)) (v % 8) ≡ has_bit u.members v
  unfolding register
  member_read = sym (⊎_elim (λ p. rw p.0 ((rw p.0 at (whole u.members 0 v (omega arith) l)))) (λ p. rw p.0 (rw p.0 at (whole u.members 0 v (omega arith) l))) (place v l))

  arrived-read : has_bit (register u (2 + v / 8)) (v % 8) ≡ has_bit u.arrived v
  unfolding register
  arrived-read = sym (⊎_elim (λ p. rw p.0 ((rw p.0 at (whole u.arrived 0 v (omega arith) l)))) (λ p. rw p.0 (rw p.0 at (whole u.arrived 0 v (omega arith) l))) (place v l))

named_open : (h : List Write) (v : ℕ) → is_member h v && was_named (under_way h) v ≡ is_member h v && was_named (gathering h) v && not (is_complete h)
unfolding was_named
named_open h v = go (is_complete h)
  where
    go : (b : Bool) → is_member h v && was_named (cond b [] (gathering h)) v ≡ is_member h v && was_named (gathering h) v && not b
    go true = and_false (is_member h v) ∙ sym (and_false (is_member h v && was_named (gathering h) v))
    go false = sym (and-true (is_member h v && was_named (gathering h) v))

pub barrier_unit : BarrierUnit
unfolding register
barrier_unit = record {
  counts = λ ws. (tells ws).sets.count;
  members = λ ws v l. (member_read (unit_after ws) v l ∙ (tells ws).sets.members v l);
  arrived = λ ws v l. (arrived-read (unit_after ws) v l ∙ (tells ws).sets.arrived v l ∙ named_open (history ws) v);
  status = λ ws. ap bit (tells ws).status;
  enable = λ ws. ap bit (tells ws).enable;
  small = λ ws. read_small (unit_after ws) (tells ws).sets.few (tells ws).sets.come;
  line = λ ws. ap₂ (λ (x y : Bool). x && y) (tells ws).status (tells ws).enable;
}
