-- The loads of the levels of a stretch, level by level.
use mathlib.Core.Path.{◌≡◌, refl, sym, ap, ◌∙◌}
use mathlib.Core.List.{List, [], ◌∷◌, map, map-append}
use Prim.Native.Nat.{ℕ, suc, ◌+◌, ◌-◌, ◌≤◌, ◌<◌}
use native.Mathlib.Numerals.{add-one}
use native.Mathlib.Omega.{arith}
use lib.ListN.{length, take, drop, get_or, set, length-set}
use lib.Seq.{take-suc, take-suc-set, take_all, take-add}
use Rattle.base.specs.Lists.{concat}
use Rattle.sort.specs.Code.Sort.{max_levels}
use Rattle.loads.specs.Code.Stretches.{key_load, Levelled, Loaded}
use Rattle.loads.proofs.Stretches.{rows_in, length-ends, ends_at, rows_next, rows-le, level_at}
use Rattle.loads.proofs.Weights.{load-append}

-- the loads of the first k levels stand in loads; these levels end at `from`, and sum is their load
pub record Loading (keys : List ℕ) (ends stretch : List ℕ) (ls : List (List ℕ)) (loads : List ℕ) (sum from k : ℕ) : Type 0 where
  pub within : k ≤ length ends
  pub inside : from ≤ length stretch
  pub from_is : from ≡ rows_in k ls
  pub sum_is : sum ≡ key_load keys (take from stretch)
  pub long : length loads ≡ max_levels
  pub done : take k loads ≡ map (key_load keys) (take k ls)

module _ (keys : List ℕ) (ends stretch : List ℕ) (ls : List (List ℕ)) (h : Levelled 0 ends stretch ls) (few : length ends ≤ max_levels) where
  levels-count : length ends ≡ length ls
  levels-count = ap length h.ends_are ∙ length-ends 0 ls

  pub loading_start : (loads : List ℕ) → length loads ≡ max_levels → Loading keys ends stretch ls loads 0 0 0
  loading_start loads e = record { within = omega arith; inside = omega arith; from_is = refl; sum_is = refl; long = e; done = refl }

  module _ (loads : List ℕ) (sum from k : ℕ) (s : Loading keys ends stretch ls loads sum from k) (lt : k < length ends) where
    -- where the next level ends, and its rows
    abbrev to : ℕ
    to = get_or ends k 0

    abbrev level : List ℕ
    level = take (to - from) (drop from stretch)

    lt-levels : k < length ls
    lt-levels = omega (arith, levels-count)

    to_is : to ≡ rows_in (suc k) ls
    to_is = ap (λ (x : List ℕ). get_or x k 0) h.ends_are ∙ ends_at 0 ls k lt-levels ∙ omega arith

    pub level_start : from ≤ to
    level_start = omega (arith, s.from_is, to_is, rows_next ls k lt-levels)

    pub level_end : to ≤ length stretch
    level_end = omega (arith, to_is, rows-le ls (suc k), ap length h.rows_are)

    level_is : level ≡ get_or ls k []
    level_is = rw (to_is, s.from_is, h.rows_are) (level_at ls k lt-levels)

    -- the load of one level more
    pub sum_level : (q : ℕ) → q ≡ key_load keys level → sum + q ≡ key_load keys (take to stretch)
    sum_level q e =
        let up : from + (to - from) ≡ to = omega (arith, level_start) in
        rw (s.sum_is, e) (sym (load-append keys (take from stretch) level) ∙ ap (key_load keys) (sym (take-add from (to - from) stretch) ∙ ap (λ (j : ℕ). take j stretch) up))

    pub loading_next : (q : ℕ) → q ≡ key_load keys level → Loading keys ends stretch ls (set loads k q) (sum + q) to (k + 1)
    loading_next q e = record {
      within = omega arith;
      inside = level_end;
      from_is = rw (add-one k) to_is;
      sum_is = sum_level q e;
      long = length-set loads k q ∙ s.long;
      done =
          rw (add-one k, take-suc-set loads k q (omega (arith, s.long)), s.done, e ∙ ap (key_load keys) level_is, take-suc ls k [] lt-levels)
          (sym (map-append (key_load keys) (take k ls) (get_or ls k [] ∷ [])));
    }

  pub loading_end : (loads : List ℕ) (sum from k : ℕ) → Loading keys ends stretch ls loads sum from k → length ends ≤ k → Loaded (key_load keys) stretch ls sum loads
  loading_end loads sum from k s l =
      let all : k ≡ length ls = omega (arith, s.within, levels-count) in
      let rows : length stretch ≤ from = omega (arith, ap length h.rows_are, s.from_is, ap (λ (x : List (List ℕ)). length (concat x)) (take_all k ls (omega arith))) in
      record {
        all_is = s.sum_is ∙ ap (key_load keys) (take_all from stretch rows);
        long = s.long;
        loads_are = rw (← all) (s.done ∙ ap (map (key_load keys)) (take_all k ls (omega arith)));
      }
