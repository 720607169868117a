-- The records of a flat list, one by one, and of a list that records were flattened to.
use mathlib.Core.Path.{◌≡◌, refl, sym, ap, ap₂, ◌∙◌}
use mathlib.Core.List.{List, [], ◌∷◌, ◌++◌}
use Prim.Native.Nat.{ℕ, zero, suc, ◌+◌, ◌*◌, ◌≤◌, ◌<◌}
use native.Mathlib.Omega.{arith}
use lib.ListN.{length, get_or, take, drop, length-drop, drop_of_length-le}
use lib.Seq.{drop-drop, drop-cons, get_or-drop, take-add, take_at}
use Rattle.plan.specs.Groups.{Group, Plan, width, fields_of, of_fields, flat, records, plan_of}
use Rattle.plan.specs.Code.Checks.{record_at}

pub length-records : (count : ℕ) (ns : List ℕ) → length (records count ns) ≡ count
unfolding records
length-records zero ns = refl
length-records (suc k) ns = ap suc (length-records k (drop width ns))

-- the record at an index is the first of those that are left
pub records_at : (count i : ℕ) (ns : List ℕ) → i < count → drop i (records count ns) ≡ record_at ns i ∷ drop (suc i) (records count ns)
unfolding records record_at
records_at zero i ns l = absurd (omega arith)
records_at (suc k) zero ns l = refl
records_at (suc k) (suc i) ns l =
    let e : width + width * i ≡ width * suc i = omega arith in
    records_at k i (drop width ns) (omega arith)
    ∙ ap (λ (r : List ℕ). of_fields r ∷ drop (suc i) (records k (drop width ns))) (drop-drop (width * i) width ns ∙ ap (λ (d : ℕ). drop d ns) e)

pub records-none : (count i : ℕ) (ns : List ℕ) → count ≤ i → drop i (records count ns) ≡ []
records-none count i ns l = drop_of_length-le (records count ns) {i = i} (omega (arith, length-records count ns))

-- the numbers of the list from a record's place on
pub record_fields : (ns : List ℕ) (i : ℕ) →
    record {
      start = get_or ns (width * i) 0;
      length = get_or ns (width * i + 1) 0;
      first = get_or ns (width * i + 2) 0;
      workers = get_or ns (width * i + 3) 0;
      colour = get_or ns (width * i + 4) 0;
      parent = get_or ns (width * i + 5) 0;
      depth = get_or ns (width * i + 6) 0;
    }
    ≡ record_at ns i
unfolding record_at of_fields
record_fields ns i = rw (field 0 ∙ ap (λ (k : ℕ). get_or ns k 0) none, field 1, field 2, field 3, field 4, field 5, field 6)
  where
    none : width * i + 0 ≡ width * i
    none = omega arith

    field : (k : ℕ) → get_or (drop (width * i) ns) k 0 ≡ get_or ns (width * i + k) 0
    field k = get_or-drop (width * i) ns k 0

-- numbers of a list from a place on, one by one
abbrev reads : List ℕ → (i k : ℕ) → List ℕ
reads ns i zero = []
reads ns i (suc k) = get_or ns i 0 ∷ reads ns (suc i) k

part-reads : (ns : List ℕ) (i k : ℕ) → i + k ≤ length ns → take k (drop i ns) ≡ reads ns i k
part-reads ns i zero l = refl
part-reads ns i (suc k) l = rw (drop-cons ns i 0 (omega arith)) (ap (λ (xs : List ℕ). get_or ns i 0 ∷ xs) (part-reads ns (suc i) k (omega arith)))

-- the numbers in front of a list are the fields of the record that is read there
pub fields_read : (ns : List ℕ) → width ≤ length ns → take width ns ≡ fields_of (of_fields ns)
unfolding fields_of of_fields
fields_read ns l = part-reads ns 0 width (omega arith)

-- the numbers of the first records
pub flat-records : (count : ℕ) (ns : List ℕ) → width * count ≤ length ns → flat (records count ns) ≡ take (width * count) ns
unfolding flat records
flat-records zero ns h = refl
flat-records (suc count) ns h =
    let next : width * suc count ≡ width + width * count = omega arith in
    let later = flat-records count (drop width ns) (rw (length-drop width ns) (omega arith)) in
    ap₂ (λ (x y : List ℕ). x ++ y) (sym (fields_read ns (omega arith))) later ∙ sym (take-add width (width * count) ns) ∙ ap (λ (j : ℕ). take j ns) (sym next)

-- ---- records that were flattened

-- how many numbers they have
pub length-flat : (gs : List Group) → length (flat gs) ≡ width * length gs
unfolding flat fields_of
length-flat [] = refl
length-flat (g ∷ gs) = omega (arith, length-flat gs)

-- they are read back, whatever stands after them
pub records-flat : (gs : List Group) (rest : List ℕ) → records (length gs) (flat gs ++ rest) ≡ gs
unfolding records flat fields_of of_fields
records-flat [] rest = refl
records-flat (g ∷ gs) rest = ap (λ (hs : List Group). g ∷ hs) (records-flat gs rest)

-- .. and so is a plan
pub plan-flat : (p : Plan) (n : ℕ) (rows numbers : List ℕ) → length p.order ≡ n → plan_of n (p.order ++ rows) (flat p.groups ++ numbers) (length p.groups) ≡ p
unfolding plan_of
plan-flat p n rows numbers e = rw (take_at p.order rows n e, records-flat p.groups numbers)
