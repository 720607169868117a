-- Bytes put one after the other.
use mathlib.Core.Path.{◌≡◌, refl, sym, ap, subst, ◌∙◌}
use mathlib.Core.List.{List, [], ◌∷◌, ◌++◌, append_assoc, append-nil}
use Prim.Native.Nat.{ℕ, ◌+◌, ◌≤◌, ◌<◌}
use native.Mathlib.Numerals.{add-one}
use native.Mathlib.Omega.{arith}
use lib.ListN.{length, set, take, drop, length-append, length-set, take-append-drop}
use lib.Seq.{set_split, length-take-le, take_at, drop_at, drop-drop, take-set-le, drop-set-lt}
use Rattle.writer.specs.Code.Puts.{Put}

-- one byte
pub put_one : (old : List ℕ) (at b : ℕ) → at < length old → Put (b ∷ []) at (at + 1) old (set old at b)
put_one old at b h = record { next = refl; long = length-set old at b; text = set_split old at b h ∙ rw (add-one at) }

-- xs, and then ys
pub put_then : {xs ys : List ℕ} {at p q : ℕ} {old mid new : List ℕ} → at ≤ length old → Put xs at p old mid → Put ys p q mid new → Put (xs ++ ys) at q old new
put_then {xs} {ys} {at} {p} {q} {old} {mid} {new} h a b =
    let l : length (take at old ++ xs) ≡ p = length-append (take at old) xs ∙ rw (length-take-le at old h) (sym a.next) in
    let split : mid ≡ (take at old ++ xs) ++ drop p old = a.text ∙ rw (← a.next) (sym (append_assoc (take at old) xs (drop p old))) in
    let front : take p mid ≡ take at old ++ xs = ap (take p) split ∙ take_at (take at old ++ xs) (drop p old) p l in
    let back : drop (p + length ys) mid ≡ drop (p + length ys) old =
    sym (drop-drop (length ys) p mid) ∙ ap (drop (length ys)) (ap (drop p) split ∙ drop_at (take at old ++ xs) (drop p old) p l) ∙ drop-drop (length ys) p old in
    let far : p + length ys ≡ at + length (xs ++ ys) = omega (arith, a.next, length-append xs ys) in
    record {
      next = b.next ∙ far;
      long = b.long ∙ a.long;
      text = b.text ∙ rw (front, back, far) (append_assoc (take at old) xs (ys ++ drop (at + length (xs ++ ys)) old) ∙ ap (λ (l : List ℕ). take at old ++ l) (sym (append_assoc xs ys (drop (at + length (xs ++ ys)) old))));
    }

-- xs over a byte
pub put_over : (b : ℕ) {xs : List ℕ} {at r : ℕ} {old new : List ℕ} → 1 ≤ length xs → Put xs at r (set old at b) new → Put xs at r old new
put_over b {xs} {at} {r} {old} {new} h a = record {
  next = a.next;
  long = a.long ∙ length-set old at b;
  text = a.text ∙ rw (take-set-le at old at b (omega arith), drop-set-lt (at + length xs) old at b (omega arith));
}

-- nothing
pub put_none : (old : List ℕ) (at : ℕ) → Put [] at at old old
put_none old at = let e : at ≡ at + 0 = omega arith in record { next = e; long = refl; text = sym (take-append-drop at old) ∙ rw (← e) }

-- the same bytes
pub put_as : {xs ys : List ℕ} {at r : ℕ} {old new : List ℕ} → xs ≡ ys → Put xs at r old new → Put ys at r old new
put_as {at = at} {r = r} {old = old} {new = new} e a = subst (λ (l : List ℕ). Put l at r old new) e a

-- what is left begins with xs
pub record Next (left xs left' : List ℕ) : Type 0 where
  pub is : left ≡ xs ++ left'

-- of the bytes whole, those before left are put
pub record Putting (whole left : List ℕ) (at p : ℕ) (old text : List ℕ) : Type 0 where
  pub done : List ℕ
  pub split : done ++ left ≡ whole
  pub put : Put done at p old text
  pub room : at + length whole ≤ length old

pub putting_start : (whole : List ℕ) (at : ℕ) (old : List ℕ) → at + length whole ≤ length old → Putting whole whole at at old old
putting_start whole at old h = record { done = []; split = refl; put = put_none old at; room = h }

module _ {whole left : List ℕ} {at p : ℕ} {old text : List ℕ} (g : Putting whole left at p old text) where
  -- xs are next, and there is room for them
  module _ {xs left' : List ℕ} (n : Next left xs left') where
    pub putting_room : p + length xs ≤ length text
    putting_room = omega (arith, g.put.next, g.put.long, g.room, ap length g.split, length-append g.done left, ap length n.is, length-append xs left')

    pub putting_more : {q : ℕ} {new : List ℕ} → Put xs p q text new → Putting whole left' at q old new
    putting_more a = record {
      done = g.done ++ xs;
      split = append_assoc g.done xs left' ∙ ap (λ (l : List ℕ). g.done ++ l) (sym n.is) ∙ g.split;
      put = put_then (omega (arith, g.room)) g.put a;
      room = g.room;
    }

  -- nothing is left
  pub putting_end : left ≡ [] → Put whole at p old text
  putting_end e = put_as (sym (append-nil g.done) ∙ ap (λ (l : List ℕ). g.done ++ l) (sym e) ∙ g.split) g.put
