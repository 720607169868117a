-- What the registers keep of a history: its members, and which of them have been named in the gathering under way.
use Rattle.std.proofs.Common.{◌≡◌, ℕ, ◌%◌, ◌^◌, ◌<◌, Bool, true, false, cond, not, ◌&&◌, ◌||◌, eqb, List, [], ◌∷◌, sym, refl, ap, ◌∙◌, ap₂, arith, eq-eqb, eqb-true}
use lib.Bits.{bit_and, and_lt, and_zero_l}
use Rattle.base.specs.Lists.{any, all}
use Rattle.base.proofs.Booleans.{and_false, clash, is_false, both_ways, eqb_sym}
use Rattle.base.proofs.Lists.{any-get, any_of, range_in, is_in-range, all-range, range_all}
use Rattle.barrier.specs.declared.Barrier.{Barrier}
use Rattle.barrier.specs.Bits.{has_bit, all_workers}
use Rattle.barrier.specs.Registers.{enlisted, is_gathered, released, still_out}
use Rattle.barrier.specs.Gatherings.{Write, is_member_write, is_member, was_named, all_named, gathering, is_complete, gatherings}
use Rattle.barrier.proofs.Bits.{bit-zero, bit-and, bits-same}

-- ---- all have come

named_member : (x n : Bool) → (x && n) && x ≡ x → not x || n ≡ true
named_member true true e = refl
named_member true false e = e
named_member false n e = refl

member_named : (x n : Bool) → not x || n ≡ true → (x && n) && x ≡ x
member_named true true e = refl
member_named true false e = e
member_named false n e = refl

none-gathered : (b : Bool) → not b && b ≡ false
none-gathered true = refl
none-gathered false = refl

-- nobody has arrived: not all have
pub nobody : (m : ℕ) → is_gathered m 0 ≡ false
nobody m = rw (and_zero_l m, eqb_sym 0 m) (none-gathered (eqb m 0))

module _ (h g : List Write) (m a : ℕ) (lm : m < 2 ^ 16) (la : a < 2 ^ 16) (em : (v : ℕ) → v < 16 → has_bit m v ≡ is_member h v)
    (ea : (v : ℕ) → v < 16 → has_bit a v ≡ is_member h v && was_named g v) where
  common : (v : ℕ) → v < 16 → has_bit (bit_and a m) v ≡ (is_member h v && was_named g v) && is_member h v
  common v l = bit-and a m v ∙ ap₂ (λ (x y : Bool). x && y) (ea v l) (em v l)

  some_member : not (eqb m 0) ≡ any (is_member h) all_workers
  some_member = both_ways (not (eqb m 0)) (any (is_member h) all_workers) there back
    where
      there : not (eqb m 0) ≡ true → any (is_member h) all_workers ≡ true
      there t = go (any (is_member h) all_workers) refl
        where
          go : (b : Bool) → any (is_member h) all_workers ≡ b → b ≡ true
          go true e = refl
          go false e =
              let none : m ≡ 0 = bits-same 16 m 0 lm (omega arith) (λ v l. em v l ∙ is_false (λ y. clash (any_of (is_member h) all_workers v (is_in-range 0 16 v (omega arith) (omega arith)) y) e) ∙ sym (bit-zero v)) in
              absurd (clash t (ap not (eq-eqb m 0 none)))

      back : any (is_member h) all_workers ≡ true → not (eqb m 0) ≡ true
      back t =
          let s = any-get (is_member h) all_workers t in
          let l : s.0 < 16 = omega (arith, range_in s.0 0 16 s.1) in
          ap not (is_false (λ z. clash (em s.0 l ∙ s.2) (ap (λ (x : ℕ). has_bit x s.0) (eqb-true m 0 z) ∙ bit-zero s.0)))

  every_member : eqb (bit_and a m) m ≡ all (λ v. not (is_member h v) || was_named g v) all_workers
  every_member =
      both_ways (eqb (bit_and a m) m) (all (λ v. not (is_member h v) || was_named g v) all_workers)
      (λ t. range_all (λ v. not (is_member h v) || was_named g v) 16 (λ v l. named_member (is_member h v) (was_named g v) (sym (common v l) ∙ ap (λ (x : ℕ). has_bit x v) (eqb-true (bit_and a m) m t) ∙ em v l)))
      (λ t. eq-eqb (bit_and a m) m (bits-same 16 (bit_and a m) m (and_lt 16 a m la lm) lm (λ v l. common v l ∙ member_named (is_member h v) (was_named g v) (all-range (λ v. not (is_member h v) || was_named g v) 16 v t l) ∙ sym (em v l))))

  -- the two sets tell whether all are named
  pub gathered : is_gathered m a ≡ all_named h g
  unfolding all_named
  gathered = ap₂ (λ (x y : Bool). x && y) some_member every_member

-- ---- one write more

-- the writes of the gathering that goes on after a history
abbrev pub under_way : List Write → List Write
under_way h = cond (is_complete h) [] (gathering h)

-- the two sets and the releases after a history
pub record Keeping (h : List Write) (m a r : ℕ) : Type 0 where
  pub few : m < 2 ^ 16
  pub come : a < 2 ^ 16
  pub members : (v : ℕ) → v < 16 → has_bit m v ≡ is_member h v
  pub arrived : (v : ℕ) → v < 16 → has_bit a v ≡ is_member h v && was_named (under_way h) v
  pub unmet : is_gathered m a ≡ false
  pub count : r ≡ gatherings h % 2 ^ 32

abbrev pub Kept : List Write → Barrier → Type 0
Kept h u = Keeping h u.members u.arrived u.releases

nobody_named : (x : Bool) (v : ℕ) → has_bit 0 v ≡ x && was_named [] v
unfolding was_named
nobody_named x v = bit-zero v ∙ sym (and_false x)

module _ (h : List Write) (u : Barrier) (k : Kept h u) (w : Write) where
  begins_anew : is_member_write w ≡ true → gathering (w ∷ h) ≡ []
  unfolding gathering
  begins_anew e = rw e

  -- a member write, after which these are members
  module _ (e : is_member_write w ≡ true) (m : ℕ) (l : m < 2 ^ 16) (em : (v : ℕ) → v < 16 → has_bit m v ≡ is_member (w ∷ h) v) where
    pub join-begins : is_complete (w ∷ h) ≡ false
    join-begins = rw (begins_anew e) (sym (gathered (w ∷ h) [] m 0 l (omega arith) em (λ v i. nobody_named (is_member (w ∷ h) v) v)) ∙ nobody m)

    pub join : Kept (w ∷ h) (enlisted u m)
    unfolding gatherings
    join = record {
      few = l;
      come = omega arith;
      members = em;
      arrived = λ v i. rw (join-begins, begins_anew e) (nobody_named (is_member (w ∷ h) v) v);
      unmet = nobody m;
      count = rw join-begins (omega (arith, k.count));
    }

  -- another write, after which these have arrived
  module _ (e : is_member_write w ≡ false) (same : (v : ℕ) → v < 16 → is_member (w ∷ h) v ≡ is_member h v) (a : ℕ) (l : a < 2 ^ 16)
      (ea : (v : ℕ) → v < 16 → has_bit a v ≡ is_member h v && was_named (w ∷ under_way h) v) where
    goes_on : gathering (w ∷ h) ≡ w ∷ under_way h
    unfolding gathering
    goes_on = rw e

    members-after : (v : ℕ) → v < 16 → has_bit u.members v ≡ is_member (w ∷ h) v
    members-after v i = k.members v i ∙ sym (same v i)

    arrived-after : (v : ℕ) → v < 16 → has_bit a v ≡ is_member (w ∷ h) v && was_named (w ∷ under_way h) v
    arrived-after v i = rw (same v i) (ea v i)

    pub settle_tells : is_complete (w ∷ h) ≡ is_gathered u.members a
    settle_tells = rw goes_on (sym (gathered (w ∷ h) (w ∷ under_way h) u.members a k.few l members-after arrived-after))

    pub settle : Kept (w ∷ h) (cond (is_gathered u.members a) (released u) (still_out u a))
    unfolding gatherings
    settle = go (is_gathered u.members a) refl
      where
        go : (t : Bool) → is_gathered u.members a ≡ t → Kept (w ∷ h) (cond t (released u) (still_out u a))
        go true f = record {
          few = k.few;
          come = omega arith;
          members = members-after;
          arrived = λ v i. rw (settle_tells ∙ f) (nobody_named (is_member (w ∷ h) v) v);
          unmet = nobody u.members;
          count = rw (settle_tells ∙ f) (omega (arith, k.count));
        }
        go false f = record {
          few = k.few;
          come = l;
          members = members-after;
          arrived = λ v i. rw (settle_tells ∙ f, goes_on) (arrived-after v i);
          unmet = f;
          count = rw (settle_tells ∙ f) (omega (arith, k.count));
        }
