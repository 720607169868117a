-- The lines that begin with %, one byte more.
use mathlib.Core.Path.{◌≡◌, ap, ◌∙◌}
use mathlib.Core.Bool.{Bool, true, false, not, cond}
use mathlib.Core.List.{List, []}
use Prim.Native.Nat.{ℕ, suc, ◌+◌, ◌≤◌, ◌<◌}
use lib.ListN.{length, get_or, drop, drop_of_length-le}
use borrow.Author.Tests.{eq-eqb, ne_eqb}
use Rattle.market.specs.Bytes.{class_of, percent}
use Rattle.market.specs.Parse.{place, comments}
use Rattle.scan.proofs.Left.{left-cons}

module _ (s : List ℕ) (i k : ℕ) where
  pub ends-here : i < length s → class_of (get_or s i 0) ≡ 4 → comments true k (drop i s) ≡ comments false (suc k) (drop (i + 1) s)
  unfolding comments
  ends-here l e = ap (comments true k) (left-cons s i l) ∙ ap (λ (b : Bool). comments (not b) (cond b (suc k) k) (drop (i + 1) s)) (eq-eqb (class_of (get_or s i 0)) 4 e)

  pub ends-later : i < length s → (class_of (get_or s i 0) ≡ 4 → ⊥) → comments true k (drop i s) ≡ comments true k (drop (i + 1) s)
  unfolding comments
  ends-later l e = ap (comments true k) (left-cons s i l) ∙ ap (λ (b : Bool). comments (not b) (cond b (suc k) k) (drop (i + 1) s)) (ne_eqb (class_of (get_or s i 0)) 4 e)

  pub never_ends : length s ≤ i → comments true k (drop i s) ≡ place k []
  unfolding comments
  never_ends l = rw (drop_of_length-le s l)

  pub no_comment : i < length s → (get_or s i 0 ≡ percent → ⊥) → comments false k (drop i s) ≡ place k (drop i s)
  unfolding comments
  no_comment l e = rw (left-cons s i l, ne_eqb (get_or s i 0) percent e)

  pub a_comment : i < length s → get_or s i 0 ≡ percent → comments false k (drop i s) ≡ comments true k (drop i s)
  unfolding comments class_of
  a_comment l e = rw (left-cons s i l, e)

  pub no_line : length s ≤ i → comments false k (drop i s) ≡ place k (drop i s)
  unfolding comments
  no_line l = rw (drop_of_length-le s l)
