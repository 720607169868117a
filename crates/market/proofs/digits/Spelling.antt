-- A number's digits put from the last to the first.
use Rattle.std.proofs.Common.{◌≡◌, ℕ, suc, ◌+◌, ◌-◌, ◌/◌, ◌%◌, ◌^◌, ◌<◌, ◌≤◌, List, [], ◌∷◌, ◌++◌, length, take, drop, set, sym, refl, ap, ◌∙◌, arith, length-append, length-set, length-take-le, drop_at}
use lib.Seq.{append_snoc, set_split, take-set-le}
use Rattle.market.specs.Text.{decimal}
use Rattle.market.proofs.Decimal.{decimal-one, decimal_more, decimal-some}
use Rattle.market.specs.Code.Puts.{PutBefore}

-- what stands from a place on, once a byte is stored there
pub drop-set : (old : List ℕ) (at b : ℕ) → at < length old → drop at (set old at b) ≡ b ∷ drop (suc at) old
drop-set old at b h = ap (drop at) (set_split old at b h) ∙ drop_at (take at old) (b ∷ drop (suc at) old) at (length-take-le at old (omega arith))

-- how many digits there are
pub length_more : (x : ℕ) → 10 ≤ x → x < 10 ^ 19 → length (decimal 19 x) ≡ length (decimal 19 (x / 10)) + 1
length_more x t h = ap length (decimal_more 18 x t h) ∙ length-append (decimal 19 (x / 10)) ((48 + x % 10) ∷ [])

-- the digits of v but those of x are there, from place i on
pub record Spelling (v end : ℕ) (old text : List ℕ) (x i : ℕ) : Type 0 where
  pub small : x < 10 ^ 19
  pub here : i + length (decimal 19 v) ≡ end + length (decimal 19 x)
  pub room : length (decimal 19 v) ≤ end
  pub inside : i ≤ length old
  pub long : length text ≡ length old
  pub before : (j : ℕ) → j ≤ i → take j text ≡ take j old
  pub after : decimal 19 x ++ drop i text ≡ decimal 19 v ++ drop end old

pub spelling_start : (v end : ℕ) (old : List ℕ) → v < 10 ^ 19 → length (decimal 19 v) ≤ end → end ≤ length old → Spelling v end old old v end
spelling_start v end old h r l = record { small = h; here = refl; room = r; inside = l; long = refl; before = λ j k. refl; after = refl }

module _ {v end : ℕ} {old text : List ℕ} {x i : ℕ} (g : Spelling v end old text x i) where
  pub spelling_some : 1 ≤ i
  spelling_some = omega (arith, g.here, g.room, decimal-some 18 x)

  step : suc (i - 1) ≡ i
  step = omega (arith, spelling_some)

  -- the last digit of x
  pub spelling_more : 10 ≤ x → Spelling v end old (set text (i - 1) (48 + x % 10)) (x / 10) (i - 1)
  spelling_more h = record {
    small = omega (arith, g.small);
    here = omega (arith, g.here, spelling_some, length_more x h g.small);
    room = g.room;
    inside = omega (arith, g.inside);
    long = length-set text (i - 1) (48 + x % 10) ∙ g.long;
    before = λ j k. take-set-le j text (i - 1) (48 + x % 10) k ∙ g.before j (omega (arith, k));
    after = rw (drop-set text (i - 1) (48 + x % 10) (omega (arith, g.inside, g.long, spelling_some)), step)
        (sym (append_snoc (decimal 19 (x / 10)) (48 + x % 10) (drop i text)) ∙ ap (λ (ds : List ℕ). ds ++ drop i text) (sym (decimal_more 18 x h g.small)) ∙ g.after);
  }

  -- the first digit
  pub spelling_last : x < 10 → PutBefore (decimal 19 v) end (i - 1) old (set text (i - 1) (48 + x))
  spelling_last h = record {
    begins = omega (arith, g.here, spelling_some, ap length (decimal-one 18 x h));
    long = length-set text (i - 1) (48 + x) ∙ g.long;
    text = drop-set text (i - 1) (48 + x) (omega (arith, g.inside, g.long, spelling_some)) ∙ rw step (ap (λ (ds : List ℕ). ds ++ drop i text) (sym (decimal-one 18 x h)) ∙ g.after);
  }

  pub spelling_before : take (i - 1) (set text (i - 1) (48 + x)) ≡ take (i - 1) old
  spelling_before = take-set-le (i - 1) text (i - 1) (48 + x) (omega arith) ∙ g.before (i - 1) (omega arith)
