-- The counts that a file can carry, and its table.
use mathlib.Core.Path.{◌≡◌, refl}
use mathlib.Core.Bool.{true}
use mathlib.Core.List.{[], ◌∷◌}
use Prim.Native.Nat.{ℕ, ◌^◌, ◌≤◌, ◌<◌}
use native.Mathlib.Omega.{arith}
use lib.Dec.{leb}
use lib.ListN.{length}
use borrow.Author.Tests.{leb-true}
use Rattle.base.proofs.Booleans.{conj_first, conj_at}
use Rattle.base.proofs.Each.{Each}
use Rattle.matrix.specs.Limits.{max_rows}
use Rattle.plan.specs.Sound.{max_groups}
use Rattle.planfile.specs.File.{contents, is_sized}

pub record Sized (n count : ℕ) : Type 0 where
  pub some : 1 ≤ n
  pub few : n ≤ max_rows
  pub groups : 1 ≤ count
  pub records : count ≤ max_groups

pub sized : (n count : ℕ) → is_sized n count ≡ true → Sized n count
unfolding is_sized
sized n count h =
    let rest = leb n max_rows ∷ leb 1 count ∷ leb count max_groups ∷ [] in
    record {
      some = leb-true 1 n (conj_first (leb 1 n) rest h);
      few = leb-true n max_rows (conj_at (leb 1 n) rest h 0);
      groups = leb-true 1 count (conj_at (leb 1 n) rest h 1);
      records = leb-true count max_groups (conj_at (leb 1 n) rest h 2);
    }

module _ (n count : ℕ) where
  pub length-contents : length (contents n count) ≡ 7
  unfolding contents
  length-contents = refl

  pub contents-small : is_sized n count ≡ true → Each (λ (v : ℕ). v < 2 ^ 32) (contents n count)
  unfolding contents
  contents-small h =
      let s = sized n count h in
      (omega arith, (omega arith, (omega arith, (omega (arith, s.few), (omega arith, (omega (arith, s.few), (omega (arith, s.records), tt)))))))
