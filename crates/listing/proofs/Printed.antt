-- The lines of the listing, number by number and record by record, and how long they are.
use mathlib.Core.Path.{◌≡◌, ap, ◌∙◌}
use mathlib.Core.List.{List, [], ◌∷◌, ◌++◌, append_assoc}
use Prim.Native.Nat.{ℕ, suc, ◌+◌, ◌-◌, ◌*◌, ◌≤◌, ◌<◌}
use native.Mathlib.Numerals.{add-one}
use native.Mathlib.Omega.{arith}
use lib.ListN.{length, get_or, take, drop, length-append, length-drop, drop_of_length-le}
use lib.Seq.{drop-cons}
use Rattle.market.specs.Bytes.{blank, line_feed}
use Rattle.market.specs.Text.{natural}
use Rattle.writer.specs.Code.Puts.{Put}
use Rattle.writer.proofs.puts.Digits.{natural-few}
use Rattle.writer.proofs.puts.Putting.{Next}
use Rattle.plan.specs.Groups.{Group, width, fields_of, of_fields, records}
use Rattle.plan.specs.Code.Checks.{record_at}
use Rattle.plan.proofs.FlatRecords.{fields_read, records_at, records-none}
use Rattle.listing.specs.Listing.{spaced, order_line, title_line, group_lines}
use Rattle.listing.specs.Code.Room.{max_number, max_line, titles}

-- the next byte
pub bytes_next : (bs : List ℕ) (i : ℕ) → i < length bs → Next (drop i bs) (get_or bs i 0 ∷ []) (drop (i + 1) bs)
bytes_next bs i l = record { is = rw (add-one, drop-cons bs i 0) }

-- numbers, each after a space, and the line feed
abbrev pub fields_line : List ℕ → List ℕ
fields_line ns = spaced ns ++ line_feed ∷ []

-- the next number
pub fields-next : (ns : List ℕ) (i : ℕ) → i < length ns → Next (fields_line (drop i ns)) (blank ∷ natural (get_or ns i 0)) (fields_line (drop (i + 1) ns))
unfolding spaced
fields-next ns i l = record { is = rw (add-one, drop-cons ns i 0) (simp append_assoc) }

pub fields-last : (ns : List ℕ) (i : ℕ) → length ns ≤ i → Next (fields_line (drop i ns)) (line_feed ∷ []) []
unfolding spaced
fields-last ns i l = record { is = rw (drop_of_length-le ns {i = i} l) }

-- at most so many bytes a number
pub spaced-few : (ns : List ℕ) → length (spaced ns) ≤ max_number * length ns
unfolding spaced
spaced-few [] = omega arith
spaced-few (n ∷ ns) = let h = spaced-few ns in rw length-append (omega (arith, natural-few n))

pub fields-few : (ns : List ℕ) → length (fields_line ns) ≤ max_number * length ns + 1
fields-few ns = rw length-append (omega (arith, spaced-few ns))

-- the record at an index is a part of the flat list
pub record_part : (ns : List ℕ) (i from : ℕ) → from ≡ width * i → from + width ≤ length ns → take (from + width - from) (drop from ns) ≡ fields_of (record_at ns i)
unfolding record_at
record_part ns i from e l =
    let z : from + width - from ≡ width = omega arith in
    rw z (fields_read (drop from ns) (rw length-drop (omega arith)) ∙ ap (λ (k : ℕ). fields_of (of_fields (drop k ns))) e)

-- the next record's line
pub groups-next : (ns : List ℕ) (count i : ℕ) → i < count
    → Next (group_lines i (drop i (records count ns))) (natural i ++ fields_line (fields_of (record_at ns i))) (group_lines (i + 1) (drop (i + 1) (records count ns)))
unfolding group_lines
groups-next ns count i l = record { is = rw (add-one, records_at) (simp append_assoc) }

pub groups_end : (ns : List ℕ) (count i : ℕ) → count ≤ i → group_lines i (drop i (records count ns)) ≡ []
unfolding group_lines
groups_end ns count i l = rw (records-none count i ns l)

-- at most so many bytes a record
pub groups-few : (i : ℕ) (gs : List Group) → length (group_lines i gs) ≤ max_line * length gs
unfolding group_lines fields_of
groups-few i [] = omega arith
groups-few i (g ∷ gs) =
    let h = groups-few (suc i) gs in
    simp length-append (omega (arith, natural-few i, spaced-few (fields_of g)))

-- the order's line and the title line
pub order-few : (order : List ℕ) → length (order_line order ++ title_line) ≤ titles + max_number * length order
unfolding order_line title_line
order-few order = simp length-append (omega (arith, spaced-few order))

-- bytes put from the start
pub put_whole : {xs old new : List ℕ} {r : ℕ} → Put xs 0 r old new → (r ≡ length xs) × (new ≡ xs ++ drop (length xs) old)
put_whole {xs} a = let z : 0 + length xs ≡ length xs = omega arith in (a.next ∙ z, a.text ∙ rw z)
