-- `compare_rows`: half of the joins tested, and for an odd distance one join more stamped.
use mathlib.Core.Path.{◌≡◌, refl, sym, ◌∙◌, subst}
use mathlib.Core.Bool.{Bool, true, false, cond, true≢false}
use mathlib.Core.List.{List}
use Prim.Native.Nat.{ℕ, suc, ◌-◌, ◌/◌, ◌≤◌, ◌<◌}
use native.Mathlib.Omega.{arith}
use lib.ListN.{get_or}
use Rattle.base.specs.Lists.{is_in}
use Rattle.matrix.specs.Held.{held}
use Rattle.apart.specs.Code.Marks.{around, Stamped, Below}
use Rattle.apart.proofs.Overlap.{around_more}
use Rattle.apart.proofs.Touching.{opened-none, stamped-over, none_above}
use Rattle.apart.proofs.compare_rows.Goals as goal

pub touch_near-requires : goal.touch_near-requires
touch_near-requires c = (opened-none c.args.marks.now c.requires.0.1, c.requires.1, omega (arith, c.requires.2))

below-mine : (b : Bool) (mine m : ℕ) → m < mine → cond b mine m ≤ mine
below-mine true mine m l = omega arith
below-mine false mine m l = omega arith

most : {mine : ℕ} {rows old new : List ℕ} → Stamped mine rows old new → Below mine old → (v : ℕ) → get_or new v 0 ≤ mine
most {mine = mine} {rows = rows} {old = old} s f v = subst (λ (m : ℕ). m ≤ mine) (sym (s.is v)) (below-mine (is_in rows v) mine (get_or old v 0) (f.below v))

pub returns-then-not-touch_near : goal.returns-then-not-touch_near
returns-then-not-touch_near c =
    record { free = c.if-not-touch_near.ensures.touched.free; marked = λ h. absurd (true≢false (sym h)); done = λ h. absurd (true≢false (sym h)) }

pub returns-then-k-half : goal.returns-then-k-half
returns-then-k-half c =
    let a = c.args in
    let half = c.if-not-touch_near.ensures in
    let o = half.after refl in
    record {
      free = half.touched.free;
      marked = λ _. subst (λ (j : ℕ). Stamped a.pen.mine (around (held a.net.now.m) j a.rows.now) a.marks.now.given c.touch_near.new.marks.given) (sym c.if-k-half.true) (half.touched.stamped refl);
      done = λ _. record { long = o.long; most = o.most };
    }

pub touch_near-requires-2 : goal.touch_near-requires-2
touch_near-requires-2 c = (c.if-not-touch_near.ensures.after refl, c.requires.1, omega (arith, c.requires.2))

pub returns : goal.returns
returns c =
    let a = c.args in
    let within = λ (j : ℕ). around (held a.net.now.m) j a.rows.now in
    let half = c.if-not-touch_near.ensures.touched in
    let again = c.touch_near-2.ensures in
    let odd : suc (a.k / 2) ≡ a.k - a.k / 2 = omega (arith, c.requires.2, c.if-k-half.false) in
    record {
      free = again.touched.free ∙ none_above _ _ (within (a.k - a.k / 2)) (most (half.stamped refl) c.requires.0.0) ∙ half.free;
      marked = λ h.
          stamped-over a.pen.mine (within (a.k / 2)) (within (a.k - a.k / 2)) _ _ _
          (λ v m. subst (λ (j : ℕ). is_in (within j) v ≡ true) odd (around_more (held a.net.now.m) (a.k / 2) a.rows.now v m))
          (half.stamped refl) (again.touched.stamped h);
      done = λ h. let o = again.after h in record { long = o.long; most = o.most };
    }
