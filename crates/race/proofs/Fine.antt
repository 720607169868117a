-- What holds of a planned group and of its children, and how it passes from the children to the group.
use mathlib.Core.Path.{◌≡◌, refl, ap, ◌∙◌, subst}
use mathlib.Core.Logic.{inl, inr}
use mathlib.Core.Bool.{true}
use mathlib.Core.List.{List, [], ◌∷◌, ◌++◌}
use Prim.Native.Nat.{ℕ, zero, suc, ◌+◌, ◌*◌, ◌≤◌, ◌<◌}
use native.Mathlib.Omega.{arith}
use lib.ListN.{length, length-append}
use Rattle.base.proofs.Counts.{Same, count-append, same_length}
use Rattle.base.proofs.Each.{Each, Pairwise, each_map}
use Rattle.levels.proofs.Own.{Beyond}
use Rattle.plan.specs.Groups.{Group}
use Rattle.plan.specs.Sound.{max_depth, children, tiled, beyond, like_apart, children_sound, all_sound}
use Rattle.race.proofs.Parts.{Part, all_rows, record_of, records_of, groups_of}
use Rattle.race.proofs.Colours.{Like}
use Rattle.race.proofs.Placed.{Placed, Covers, placed-left, placed-right, placed-sub}
use Rattle.race.proofs.Apart.{like-apart}
use Rattle.race.proofs.Blocks.{Inside, Under, Ready, block_under, block_children, ready-mine, ready_theirs, all_append}
use Rattle.race.proofs.Walks.{Above, Walked, walk_none, walk-child, walk_then}

-- the groups below a group for each of its workers, at most
abbrev pub per_worker : (stages : ℕ) → ℕ
per_worker zero = 0
per_worker (suc s) = 2 + 2 * per_worker s

module _ (adj : ℕ → List ℕ) (reach : ℕ) where
  -- the group g at index, of the rows T: its order, and the records below it
  pub record Fine (stages index : ℕ) (g : Group) (T order : List ℕ) (below : List Group) : Type 0 where
    pub same : Same order T
    pub parents : Each (Inside index (index + suc (length below))) below
    pub sound : (O : List ℕ) (world : List Group) → Placed O g.start order → Ready world below index (index + suc (length below)) → all_sound (beyond adj reach) O world index (g ∷ below) ≡ true
    pub walked : (anc : List ℕ) (tail : List Group) → g.depth ≡ length anc → length anc + stages ≤ max_depth → Walked index [] anc (index + 1) below tail
    pub few : length below ≤ g.workers * per_worker stages

  -- the children xs of the group at index up, at their depth, from place start and index on: their order and records
  pub record Kids (stages up depth start index : ℕ) (xs : List Part) (order : List ℕ) (gs : List Group) : Type 0 where
    pub same : Same order (all_rows xs)
    pub under : Each (Under up index (index + length gs)) gs
    pub own : children up gs ≡ records_of up depth start xs
    pub covers : (O : List ℕ) → Placed O start order → Covers O start xs
    pub sound : (O : List ℕ) (world : List Group) → Placed O start order → Ready world gs index (index + length gs) → all_sound (beyond adj reach) O world index gs ≡ true
    pub walked : (es anc : List ℕ) (tail : List Group) → Above up es → depth ≡ suc (length anc) → suc (length anc) + stages ≤ max_depth → Walked up es anc index gs tail
    pub few : length gs ≤ groups_of (per_worker stages) xs

  -- no child
  pub kids_none : (stages up depth start index : ℕ) → Kids stages up depth start index [] [] []
  unfolding children all_sound
  kids_none stages up depth start index = record {
    same = λ v. refl;
    under = tt;
    own = refl;
    covers = λ O h. tt;
    sound = λ O world h r. refl;
    walked = λ es anc tail h d b. walk_none up es anc index tail h;
    few = omega arith;
  }

  -- one child more
  pub kids_more : (stages up depth start index : ℕ) (x : Part) (xs : List Part) (a r : List ℕ) (below later : List Group) → up < index
      → Fine stages index (record_of up depth start x) x.rows a below
      → Kids stages up depth (start + length x.rows) (index + suc (length below)) xs r later
      → Kids stages up depth start index (x ∷ xs) (a ++ r) ((record_of up depth start x ∷ below) ++ later)
  kids_more stages up depth start index x xs a r below later lt f k = record {
    same = λ v. omega (arith, f.same v, k.same v, count-append v a r, count-append v x.rows (all_rows xs));
    under = block_under up index g below later lt refl f.parents k.under;
    own = block_children up index g below later lt refl f.parents k.under ∙ ap (λ (l : List Group). g ∷ l) k.own;
    covers = λ O h. (placed-sub O start a x.rows f.same (placed-left O start a r h), k.covers O (rest O h));
    sound = λ O world h ready.
        all_append (beyond adj reach) O world index (g ∷ below) later
        (f.sound O world (placed-left O start a r h) (ready-mine up index g below later lt refl f.parents k.under world ready))
        (k.sound O world (rest O h) (ready_theirs up index g below later lt refl f.parents k.under world ready));
    walked = λ es anc tail h d b.
        walk_then up es anc index (g ∷ below) later tail
        (walk-child up index es anc g below (later ++ tail) lt refl d h (omega arith) (f.walked (up ∷ anc) (later ++ tail) d b))
        (λ out ab. k.walked out anc tail ab d b);
    few = omega (arith, f.few, k.few, length-append (g ∷ below) later);
  }
    where
      g : Group
      g = record_of up depth start x

      rest : (O : List ℕ) → Placed O start (a ++ r) → Placed O (start + length x.rows) r
      rest O h = subst (λ (m : ℕ). Placed O (start + m) r) (same_length a x.rows f.same) (placed-right O start a r h)

  -- a leaf
  pub fine-leaf : (stages index : ℕ) (g : Group) (T : List ℕ) → Fine stages index g T T []
  unfolding all_sound children_sound children
  fine-leaf stages index g T = record {
    same = λ v. refl;
    parents = tt;
    sound = λ O world h ready. let e : children index world ≡ [] = ready index (omega arith) (omega arith) in rw e refl;
    walked = λ anc tail d b. walk_none index [] anc (index + 1) tail tt;
    few = omega arith;
  }

  -- children that tile and are apart
  children-sound : (O : List ℕ) (g : Group) (ks : List Group) → tiled g g.start g.first ks ≡ true → like_apart (beyond adj reach) O ks ≡ true → children_sound (beyond adj reach) O g ks ≡ true
  unfolding children_sound
  children-sound O g [] a b = refl
  children-sound O g (k ∷ ks) a b = rw (a, b) refl

  -- a group over its children
  pub fine-split : (stages index : ℕ) (g : Group) (T : List ℕ) (xs : List Part) (order : List ℕ) (gs : List Group)
      → Kids stages index (g.depth + 1) g.start (index + 1) xs order gs → Same (all_rows xs) T
      → tiled g g.start g.first (records_of index (g.depth + 1) g.start xs) ≡ true → Pairwise (Like (Beyond adj reach)) xs → groups_of (per_worker stages) xs ≤ g.workers * per_worker (suc stages)
      → Fine (suc stages) index g T order gs
  unfolding all_sound
  fine-split stages index g T xs order gs k s tile like few = record {
    same = λ v. k.same v ∙ s v;
    parents = each_map (Under index (index + 1) (index + 1 + length gs)) (Inside index (index + suc (length gs))) inside gs k.under;
    sound = λ O world h ready.
        let mine : children index world ≡ records_of index (g.depth + 1) g.start xs = ready index (omega arith) (omega arith) ∙ k.own in
        let here : children_sound (beyond adj reach) O g (children index world) ≡ true
        = ap (λ (l : List Group). children_sound (beyond adj reach) O g l) mine
        ∙ children-sound O g (records_of index (g.depth + 1) g.start xs) tile (like-apart adj reach O index (g.depth + 1) g.start xs (k.covers O h) like) in
        let there : all_sound (beyond adj reach) O world (index + 1) gs ≡ true = k.sound O world h (λ i lo hi. ready i (omega arith) (omega arith)) in
        rw (here, there) refl;
    walked = λ anc tail d b. k.walked [] anc tail tt (omega arith) (omega arith);
    few = omega (arith, k.few);
  }
    where
      inside : (h : Group) → Under index (index + 1) (index + 1 + length gs) h → Inside index (index + suc (length gs)) h
      inside h (inl x) = omega arith
      inside h (inr x) = omega arith
