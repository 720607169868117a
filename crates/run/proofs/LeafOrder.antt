-- A worker's updates are its leaves in order, row by row in plan order.
use mathlib.Core.Path.{◌≡◌, refl, sym, ap, ◌∙◌, subst}
use mathlib.Core.Bool.{Bool, true, false}
use mathlib.Core.List.{List, [], ◌∷◌, ◌++◌, append_assoc, append-nil}
use Prim.Native.Nat.{ℕ, zero, suc, ◌+◌, ◌≤◌, ◌<◌}
use native.Mathlib.Omega.{arith}
use lib.Dec.{eqb}
use Rattle.matrix.specs.Matrix.{neighbours}
use Rattle.plan.specs.Groups.{Group}
use Rattle.run.specs.Job.{Job}
use Rattle.run.specs.Tree.{Tree, none, node, tree, leaves, owner_in}
use Rattle.run.specs.Updates.{Update, row_updates, owner, when, up_to, updates, rows, leaf_by_leaf}
use Rattle.run.proofs.SoundTree.{Tiles, Tiled, tiles-le}
use Rattle.run.proofs.Forest.{WholePlan}
use Rattle.run.proofs.Owners.{own}
use Rattle.run.proofs.Past.{Agree, agree_below, agree_next}

module _ (j : Job) (w : ℕ) where
  leaves-append : (xs ys : List Group) → leaf_by_leaf j w (xs ++ ys) ≡ leaf_by_leaf j w xs ++ leaf_by_leaf j w ys
  unfolding leaf_by_leaf
  leaves-append [] ys = refl
  leaves-append (x ∷ xs) ys = ap (λ (l : List Update). when (eqb x.first w) (rows j x.start x.length) ++ l) (leaves-append xs ys)
      ∙ sym (append_assoc (when (eqb x.first w) (rows j x.start x.length)) (leaf_by_leaf j w xs) (leaf_by_leaf j w ys))

  -- one leaf, run by f
  pub one-leaf : (f s m : ℕ) → ((q : ℕ) → s ≤ q → q < s + m → owner j q ≡ f) → up_to j w s ++ when (eqb f w) (rows j s m) ≡ up_to j w (s + m)
  unfolding rows when up_to
  one-leaf f s zero h = go (eqb f w) ∙ (let e : s ≡ s + 0 = omega arith in ap (up_to j w) e)
    where
      go : (b : Bool) → up_to j w s ++ when b [] ≡ up_to j w s
      go true = append-nil (up_to j w s)
      go false = append-nil (up_to j w s)
  one-leaf f s (suc m) h =
      go (eqb f w) ∙ ap (λ (o : ℕ). (up_to j w s ++ when (eqb o w) (row_updates j s)) ++ when (eqb f w) (rows j (suc s) m)) (sym (h s (omega arith) (omega arith)))
      ∙ one-leaf f (suc s) m (λ q a b. h q (omega arith) (omega arith)) ∙ (let e : suc s + m ≡ s + suc m = omega arith in ap (up_to j w) e)
    where
      go : (b : Bool) → up_to j w s ++ when b (row_updates j s ++ rows j (suc s) m) ≡ (up_to j w s ++ when b (row_updates j s)) ++ when b (rows j (suc s) m)
      go true = sym (append_assoc (up_to j w s) (row_updates j s) (rows j (suc s) m))
      go false = sym (append-nil (up_to j w s ++ []))

  -- the leaves of siblings that tile s to e
  by_leaves : (T : Tree) (leader s e : ℕ) → Tiles (neighbours j.matrix) j.plan.order T s e → Agree j leader T s e → up_to j w s ++ leaf_by_leaf j w (leaves T) ≡ up_to j w e
  unfolding leaves leaf_by_leaf owner_in
  by_leaves none leader s e t a = append-nil (up_to j w s) ∙ ap (up_to j w) t
  by_leaves (node g none next) leader s e t a =
      sym (append_assoc (up_to j w s) (when (eqb g.first w) (rows j g.start g.length)) (leaf_by_leaf j w (leaves next)))
      ∙ ap (λ (l : List Update). l ++ leaf_by_leaf j w (leaves next)) here
      ∙ by_leaves next leader (s + g.length) e t.3 (agree_next j g none next leader s e t.0 a)
    where
      in_leaf : (q : ℕ) → g.start ≤ q → q < g.start + g.length → owner j q ≡ g.first
      in_leaf q x y = sym (agree_below j g none next leader s e t.0 (tiles-le (neighbours j.matrix) j.plan.order next (s + g.length) e t.3) a q x y)

      here : up_to j w s ++ when (eqb g.first w) (rows j g.start g.length) ≡ up_to j w (s + g.length)
      here = subst (λ (y : ℕ). up_to j w y ++ when (eqb g.first w) (rows j g.start g.length) ≡ up_to j w (y + g.length)) t.0
          (one-leaf g.first g.start g.length in_leaf)
  by_leaves (node g (node k kb kn) next) leader s e t a =
      ap (λ (l : List Update). up_to j w s ++ l) (leaves-append (leaves (node k kb kn)) (leaves next))
      ∙ sym (append_assoc (up_to j w s) (leaf_by_leaf j w (leaves (node k kb kn))) (leaf_by_leaf j w (leaves next)))
      ∙ ap (λ (l : List Update). l ++ leaf_by_leaf j w (leaves next))
      (subst (λ (y : ℕ). up_to j w y ++ leaf_by_leaf j w (leaves (node k kb kn)) ≡ up_to j w (y + g.length)) t.0
      (by_leaves (node k kb kn) g.first g.start (g.start + g.length) t.2.0
      (agree_below j g (node k kb kn) next leader s e t.0 (tiles-le (neighbours j.matrix) j.plan.order next (s + g.length) e t.3) a)))
      ∙ by_leaves next leader (s + g.length) e t.3 (agree_next j g (node k kb kn) next leader s e t.0 a)

  -- all leaves of the plan
  pub leaf_order : WholePlan j → updates j w ≡ leaf_by_leaf j w (leaves (tree j.plan.groups))
  unfolding updates leaves leaf_by_leaf up_to owner_in
  leaf_order W = sym (ap (λ (T : Tree). leaf_by_leaf j w (leaves T)) W.is ∙ go W.below W.under.tiles (own j W))
    where
      go : (B : Tree) → Tiled (neighbours j.matrix) j.plan.order W.top B → ((q : ℕ) → q < j.matrix.n → owner j q ≡ owner_in W.top.first q B)
          → leaf_by_leaf j w (leaves (node W.top B none)) ≡ up_to j w j.matrix.n
      go none i o =
          append-nil (when (eqb W.top.first w) (rows j W.top.start W.top.length))
          ∙ (let z : W.top.start ≡ 0 = W.start in let m : W.top.length ≡ j.matrix.n = W.length in
          rw (z, m) (one-leaf W.top.first 0 j.matrix.n (λ q a b. o q (omega arith)) ∙ (let e : 0 + j.matrix.n ≡ j.matrix.n = omega arith in ap (up_to j w) e)))
      go (node k kb kn) i o =
          ap (leaf_by_leaf j w) (append-nil (leaves (node k kb kn)))
          ∙ from_zero W.top.start W.start (by_leaves (node k kb kn) W.top.first W.top.start (W.top.start + W.top.length) i.0 (λ q x y. sym (o q (omega (arith, W.start, W.length)))))
          ∙ (let e : W.top.start + W.top.length ≡ j.matrix.n = omega (arith, W.start, W.length) in ap (up_to j w) e)
        where
          from_zero : (s : ℕ) → s ≡ 0 → up_to j w s ++ leaf_by_leaf j w (leaves (node k kb kn)) ≡ up_to j w (W.top.start + W.top.length)
              → leaf_by_leaf j w (leaves (node k kb kn)) ≡ up_to j w (W.top.start + W.top.length)
          from_zero s e h = sym (ap (λ (y : ℕ). up_to j w y ++ leaf_by_leaf j w (leaves (node k kb kn))) e) ∙ h
