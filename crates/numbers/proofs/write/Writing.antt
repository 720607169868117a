-- The loop that writes a text from its last line to the first.
use Rattle.std.proofs.Common.{◌≡◌, ℕ, suc, ◌+◌, ◌-◌, ◌<◌, ◌≤◌, List, ◌∷◌, ◌++◌, length, get_or, drop, ℤ, pos, sym, refl, ap, ◌∙◌, append_assoc, arith, drop-cons}
use lib.Seq.{take-length, drop-length}
use Rattle.words.specs.LittleEndian.{stored}
use Rattle.numbers.specs.Lines.{number_line, numbers_text}
use Rattle.market.specs.Code.Puts.{PutBefore}
use Rattle.numbers.proofs.NumberLists.{text_more}
use Rattle.numbers.proofs.write.Measuring.{bytes_to, bytes_next, bytes_none}

-- the first k lines are still to come
pub record Writing (zs : List ℤ) (old text : List ℕ) (k at : ℕ) : Type 0 where
  pub far : k ≤ length zs
  pub here : at ≡ bytes_to zs k
  pub inside : at ≤ length old
  pub long : length text ≡ length old
  pub after : drop at text ≡ numbers_text (drop k zs) ++ drop (length (numbers_text zs)) old

module _ (zs : List ℤ) (old : List ℕ) where
  pub writing_start : {k at : ℕ} → k ≡ length zs → at ≡ length (numbers_text zs) → at ≤ length old → Writing zs old old k at
  unfolding numbers_text
  writing_start {k} {at} e h l = record {
    far = omega arith;
    here = h ∙ rw (e, take-length zs);
    inside = l;
    long = refl;
    after = rw (h, e, drop-length zs);
  }

  module _ {text : List ℕ} {k at : ℕ} (w : Writing zs old text k at) where
    step : 0 < k → k - 1 + 1 ≡ k
    step h = omega arith

    line-here : (h : 0 < k) → at ≡ bytes_to zs (k - 1) + length (number_line (get_or zs (k - 1) (pos 0)))
    line-here h = w.here ∙ ap (bytes_to zs) (sym (step h)) ∙ bytes_next zs (k - 1) (omega (arith, w.far))

    -- there is room for the next line
    pub writing_room : 0 < k → (length (number_line (get_or zs (k - 1) (pos 0))) ≤ at) × (at ≤ length text)
    writing_room h = (omega (arith, line-here h), omega (arith, w.inside, w.long))

    pub writing_more : 0 < k → {r : ℕ} {new : List ℕ} → PutBefore (number_line (get_or zs (k - 1) (pos 0))) at r text new → Writing zs old new (k - 1) r
    writing_more h {r} {new} p =
        let e : suc (k - 1) ≡ k = omega arith in
        let d : drop (k - 1) zs ≡ get_or zs (k - 1) (pos 0) ∷ drop k zs = drop-cons zs (k - 1) (pos 0) (omega (arith, w.far)) ∙ rw e in
        record {
          far = omega (arith, w.far);
          here = omega (arith, p.begins, line-here h);
          inside = omega (arith, p.begins, w.inside);
          long = p.long ∙ w.long;
          after = p.text ∙ rw (w.after, d, text_more (get_or zs (k - 1) (pos 0)) (drop k zs)) (sides (number_line (get_or zs (k - 1) (pos 0))) (numbers_text (drop k zs)));
        }
      where
        sides : (xs ys : List ℕ) → xs ++ (ys ++ drop (length (numbers_text zs)) old) ≡ (xs ++ ys) ++ drop (length (numbers_text zs)) old
        sides xs ys = rw append_assoc

    -- none is left
    pub writing_done : k ≤ 0 → text ≡ stored (numbers_text zs) old
    writing_done h =
        let z : k ≡ 0 = omega arith in
        let a : at ≡ 0 = w.here ∙ ap (bytes_to zs) z ∙ bytes_none zs in
        rw (a, z) at w.after
