-- The groups of a flat list written to the front of a slice, one after another.
use mathlib.Core.Path.{◌≡◌, refl, ap, ◌∙◌}
use mathlib.Core.List.{List, [], ◌∷◌, ◌++◌, map, map-append, append_assoc, append-nil}
use Prim.Native.Nat.{ℕ, zero, suc, ◌+◌, ◌*◌, ◌≤◌, ◌<◌}
use native.Mathlib.Numerals.{add-one}
use native.Mathlib.Omega.{arith}
use lib.ListN.{length, get_or, take, drop, set, length-append, length-drop, length-map}
use lib.Seq.{length-take-le, drop-cons, drop-drop, drop-length, set_at}
use Rattle.plan.specs.Groups.{width, of_fields, records}
use Rattle.plan.specs.Code.Checks.{record_at}
use Rattle.plan.proofs.FlatRecords.{length-records}
use Rattle.plan.specs.declared.fields.Group.{Group}
use Rattle.groups.specs.Structs.{of_group}
use Rattle.groups.specs.Code.Flattened.{gathered}

records-snoc : (k : ℕ) (ns : List ℕ) → records (suc k) ns ≡ records k ns ++ (record_at ns k ∷ [])
unfolding records record_at
records-snoc zero ns = refl
records-snoc (suc k) ns =
    let e : width + width * k ≡ width * suc k = omega arith in
    ap (λ (rs : List _). of_fields ns ∷ rs) (records-snoc k (drop width ns))
    ∙ ap (λ (r : List ℕ). of_fields ns ∷ (records k (drop width ns) ++ (of_fields r ∷ []))) (drop-drop (width * k) width ns ∙ ap (λ (d : ℕ). drop d ns) e)

module _ (ns : List ℕ) (gs : List Group) where
  pub gathered_none : gathered 0 ns gs ≡ gs
  unfolding gathered records
  gathered_none = refl

  -- all places are written
  pub gathered-all : gathered (length gs) ns gs ≡ map of_group (records (length gs) ns)
  unfolding gathered
  gathered-all = rw drop-length (append-nil (map of_group (records (length gs) ns)))

  structs_long : (k : ℕ) → length (map of_group (records k ns)) ≡ k
  structs_long k = length-map (records k ns) of_group ∙ length-records k ns

  pub length-gathered : (k : ℕ) → k ≤ length gs → length (gathered k ns gs) ≡ length gs
  unfolding gathered
  length-gathered k l = length-append (map of_group (records k ns)) (drop k gs) ∙ omega (arith, structs_long k, length-drop k gs)

  pub gathered_next : (k : ℕ) (d : Group) → k < length gs → set (gathered k ns gs) k (of_group (record_at ns k)) ≡ gathered (k + 1) ns gs
  unfolding gathered
  gathered_next k d l =
      rw (drop-cons gs k d l, set_at (map of_group (records k ns)) (get_or gs k d) (drop (suc k) gs) (of_group (record_at ns k)) k (structs_long k), add-one k, records-snoc k ns, map-append of_group (records k ns) (record_at ns k ∷ []), append_assoc (map of_group (records k ns)) (of_group (record_at ns k) ∷ []) (drop (suc k) gs))

-- the front of a slice is written: the rest is as it was
pub gathered_front : (k : ℕ) (ns : List ℕ) (gs : List Group) → k ≤ length gs → {front : List Group} → front ≡ map of_group (records (length (take k gs)) ns) → front ++ drop k gs ≡ gathered k ns gs
unfolding gathered
gathered_front k ns gs l e = rw (e, length-take-le k gs l)
