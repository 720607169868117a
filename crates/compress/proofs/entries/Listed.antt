-- The first entries of three arrays: one more, and how many they are.
use mathlib.Core.Path.{◌≡◌, refl, sym, ◌∙◌}
use mathlib.Core.Bool.{Bool, true, ◌&&◌}
use mathlib.Core.Logic.{⊎_elim}
use mathlib.Core.List.{List, [], ◌∷◌, ◌++◌}
use Prim.Native.Nat.{ℕ, zero, suc, ◌+◌, ◌≤◌, ◌<◌}
use native.Mathlib.Numerals.{add-one}
use native.Mathlib.Omega.{arith}
use lib.Dec.{ltb}
use lib.IntN.{ℤ, pos}
use lib.ListN.{length, get_or, set, length-append}
use lib.Seq.{get_or-set_same, get_or-set_other}
use borrow.Author.Tests.{ltb-true}
use Rattle.base.specs.Lists.{all}
use Rattle.base.proofs.Booleans.{and_left, and_right, same_or}
use Rattle.base.proofs.Lists.{all_append}
use Rattle.matrix.specs.Limits.{max_entries}
use Rattle.market.specs.Parse.{Triplet, triplet}
use Rattle.compress.specs.declared.entries.EntryList.{EntryList}
use Rattle.compress.specs.Code.Arrays.{triplets_of}
use Rattle.compress.specs.Code.Entries.{listed}
use Rattle.compress.specs.Code.Rows.{OfRows, InRows}

-- a place past the first k changes nothing of them
triplets_same : (k i r c : ℕ) (v : ℤ) (rs cs : List ℕ) (vs : List ℤ) → k ≤ i → triplets_of k (set rs i r) (set cs i c) (set vs i v) ≡ triplets_of k rs cs vs
unfolding triplets_of
triplets_same zero i r c v rs cs vs h = refl
triplets_same (suc k) i r c v rs cs vs h =
    rw (triplets_same k i r c v rs cs vs (omega arith), get_or-set_other rs i k r 0 (λ (e : k ≡ i). omega arith), get_or-set_other cs i k c 0 (λ (e : k ≡ i). omega arith), get_or-set_other vs i k v (pos 0) (λ (e : k ≡ i). omega arith))

-- one entry more
pub triplets_more : (i r c : ℕ) (v : ℤ) (rs cs : List ℕ) (vs : List ℤ) → i < length rs → i < length cs → i < length vs → triplets_of (i + 1) (set rs i r) (set cs i c) (set vs i v) ≡ triplets_of i rs cs vs ++ triplet r c v ∷ []
unfolding triplets_of
triplets_more i r c v rs cs vs h j l =
    rw (add-one i, triplets_same i i r c v rs cs vs (omega arith), get_or-set_same rs i r 0 h, get_or-set_same cs i c 0 j, get_or-set_same vs i v (pos 0) l)

pub triplets_none : (rs cs : List ℕ) (vs : List ℤ) → triplets_of 0 rs cs vs ≡ []
unfolding triplets_of
triplets_none rs cs vs = refl

-- the next entry of the arrays
pub triplets_next : (k : ℕ) (rs cs : List ℕ) (vs : List ℤ) → triplets_of (k + 1) rs cs vs ≡ triplets_of k rs cs vs ++ triplet (get_or rs k 0) (get_or cs k 0) (get_or vs k (pos 0)) ∷ []
unfolding triplets_of
triplets_next k rs cs vs = rw (add-one k)

pub length_triplets : (m : ℕ) (rs cs : List ℕ) (vs : List ℤ) → length (triplets_of m rs cs vs) ≡ m
unfolding triplets_of
length_triplets zero rs cs vs = refl
length_triplets (suc m) rs cs vs = rw (length-append (triplets_of m rs cs vs), length_triplets m rs cs vs) (omega arith)

-- a list's entries are as many as it counts, and no more than a matrix may have
pub length_listed : (l : EntryList) → length (listed l) ≡ l.count
length_listed l = length_triplets l.count l.rows l.columns l.values

pub listed_few : (l : EntryList) → length (listed l) ≤ max_entries
listed_few l = omega (arith, length_listed l, l.few)

-- what holds of all of them holds of the one at place k
pub all_at : (p : Triplet → Bool) (m : ℕ) (rs cs : List ℕ) (vs : List ℤ) → all p (triplets_of m rs cs vs) ≡ true → (k : ℕ) → k < m → p (triplet (get_or rs k 0) (get_or cs k 0) (get_or vs k (pos 0))) ≡ true
unfolding triplets_of
all_at p zero rs cs vs h k l = absurd (omega arith)
all_at p (suc m) rs cs vs h k l =
    let last = triplet (get_or rs m 0) (get_or cs m 0) (get_or vs m (pos 0)) in
    let both : all p (triplets_of m rs cs vs) && all p (last ∷ []) ≡ true = sym (all_append p (triplets_of m rs cs vs) (last ∷ [])) ∙ h in
    ⊎_elim (λ e. rw e (and_left (p last) true (and_right (all p (triplets_of m rs cs vs)) (all p (last ∷ [])) both))) (λ d. all_at p m rs cs vs (and_left (all p (triplets_of m rs cs vs)) (all p (last ∷ [])) both) k (omega (arith, d))) (same_or k m)

-- entries of n rows in a list's arrays
pub listed_rows : (l : EntryList) (n : ℕ) → InRows n (listed l) → OfRows l.rows l.columns l.values l.count n
listed_rows l n h = record {
  places = record {
    rows = h.rows;
    count = l.few;
    long_rows = omega (arith, l.few, l.long.rows);
    long_columns = omega (arith, l.few, l.long.columns);
    inside = λ k j.
        let t : ltb (get_or l.rows k 0) n && ltb (get_or l.columns k 0) n ≡ true = all_at (λ (t : Triplet). ltb t.row n && ltb t.column n) l.count l.rows l.columns l.values h.inside k j in
        (ltb-true (get_or l.rows k 0) n (and_left (ltb (get_or l.rows k 0) n) (ltb (get_or l.columns k 0) n) t), ltb-true (get_or l.columns k 0) n (and_right (ltb (get_or l.rows k 0) n) (ltb (get_or l.columns k 0) n) t));
  };
  long_values = omega (arith, l.few, l.long.values);
}
