-- What a call returns and leaves in the lists that it fills.
use mathlib.Core.Path.{◌≡◌, sym, ap, ◌∙◌}
use mathlib.Core.List.{List, ◌++◌, append_assoc}
use Prim.Native.Nat.{ℕ, ◌/◌, ◌≤◌}
use native.Mathlib.Omega.{arith}
use lib.ListN.{length, take, drop, length-take}
use lib.Seq.{take_at, take_all, length-take-le}
use Rattle.base.specs.Replies.{Reply, accepted, lent}
use Rattle.base.proofs.Replies.{lent_same, lent-accepted}
use Rattle.words.specs.LittleEndian.{stored}
use Rattle.words.proofs.Blocks.{encoded}
use Rattle.lent.specs.Word.{word, Answered}

-- one call for another with the same reply, and with the same answer where that is accepted
pub answered-same : {r s : Reply} {a b old : List ℕ} {w : ℕ} {new : List ℕ} → r ≡ s → ((k : ℕ) → s ≡ accepted k → a ≡ b) → Answered r a old w new → Answered s b old w new
answered-same {r} {s} {a} {b} {old} e h t = record {
  returns = t.returns ∙ ap word e;
  leaves = t.leaves ∙ ap (λ (q : Reply). lent q a old) e ∙ lent_same s a b old h;
}

-- an array begins with an answer of `size` numbers
pub record Begins {A : Type 0} (array answer : List A) (size : ℕ) : Type 0 where
  pub long : length answer ≡ size
  pub is : take size array ≡ answer

-- .. that an accepted call made in the first part of it
pub begins : {A : Type 0} {reply : Reply} {k : ℕ} → reply ≡ accepted k → (answer old : List A) {part : List A} → part ≡ lent reply answer old → (rest : List A) {size : ℕ} → length answer ≡ size → Begins (part ++ rest) answer size
begins {A} {reply} {k} ok answer old is rest {size} long =
    let more = drop (length answer) old in
    record { long = long; is = rw (is, lent-accepted answer old reply k ok, append_assoc answer more rest) (take_at answer (more ++ rest) size long) }

module _ {A : Type 0} {array answer : List A} {size : ℕ} (b : Begins array answer size) where
  -- the size by another name
  pub begins_at : {count : ℕ} → count ≡ size → Begins array answer count
  begins_at e = rw e b

  pub begins-fits : size ≤ length array
  begins-fits = omega (arith, b.long, ap length b.is, length-take size array)

  pub begins-size : size ≡ length (take size array)
  begins-size = sym (length-take-le size array begins-fits)

  -- stored over bytes, where f gives those of one number: the answer is lent
  pub begins-stored : (f : A → List ℕ) (width : ℕ) {reply : Reply} {k : ℕ} (bytes : List ℕ) {new : List ℕ} → reply ≡ accepted k → size ≤ length bytes / width
      → new ≡ stored (encoded f (take (length bytes / width) (take size array))) bytes → new ≡ lent reply (encoded f answer) bytes
  begins-stored f width {reply} {k} bytes ok room e =
      e ∙ rw (b.is, take_all (length bytes / width) answer (rw b.long room)) (sym (lent-accepted (encoded f answer) bytes reply k ok))
