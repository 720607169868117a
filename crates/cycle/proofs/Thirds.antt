-- A list of three parts, each lent in turn and given back: the first, the one after it, and the rest. The first has a
-- elements, the first two b.
use mathlib.Core.Path.{◌≡◌, refl, sym}
use mathlib.Core.List.{List, [], ◌++◌, append_assoc, append-nil}
use Prim.Native.Nat.{ℕ, ◌+◌, ◌-◌}
use native.Mathlib.Omega.{arith}
use lib.ListN.{length, take, drop, length-append, drop_of_length-le}
use lib.Seq.{take_at, drop_at, take_all}

-- `&mut xs[..a]` lends `take a xs`, and is back as this
abbrev pub fronted : (xs : List ℕ) (a : ℕ) (ys : List ℕ) → List ℕ
fronted xs a ys = ys ++ drop a xs

-- `&mut xs[a..b]` lends this; for `&mut xs[a..]` b is the length
abbrev pub part : (xs : List ℕ) (a b : ℕ) → List ℕ
part xs a b = take (b - a) (drop a xs)

-- .. and is back as this
abbrev pub patched : (xs : List ℕ) (a b : ℕ) (ys : List ℕ) → List ℕ
patched xs a b ys = take a xs ++ (ys ++ drop (b - a) (drop a xs))

module _ (xs ys zs : List ℕ) (a b : ℕ) (a-is : length xs ≡ a) (b-is : a + length ys ≡ b) where
  -- the three together
  abbrev pub three : List ℕ
  three = xs ++ (ys ++ zs)

  pub first_part : take a three ≡ xs
  first_part = take_at xs (ys ++ zs) a a-is

  pub first_back : (xs' : List ℕ) → fronted three a xs' ≡ xs' ++ (ys ++ zs)
  first_back xs' = rw (drop_at xs (ys ++ zs) a a-is)

  size : b - a ≡ length ys
  size = omega arith

  pub second-part : part three a b ≡ ys
  second-part = rw (drop_at xs (ys ++ zs) a a-is, size) (take_at ys zs (length ys) refl)

  pub second_back : (ys' : List ℕ) → patched three a b ys' ≡ xs ++ (ys' ++ zs)
  second_back ys' = rw (drop_at xs (ys ++ zs) a a-is, size, drop_at ys zs (length ys) refl, take_at xs (ys ++ zs) a a-is)

  regroup : three ≡ (xs ++ ys) ++ zs
  regroup = sym (append_assoc xs ys zs)

  both-length : length (xs ++ ys) ≡ b
  both-length = omega (arith, length-append xs ys)

  after : drop b three ≡ zs
  after = rw regroup (drop_at (xs ++ ys) zs b both-length)

  pub third_part : part three b (length three) ≡ zs
  third_part = rw after (take_all (length three - b) zs (omega (arith, length-append xs (ys ++ zs), length-append ys zs)))

  pub third_back : (zs' : List ℕ) → patched three b (length three) zs' ≡ xs ++ (ys ++ zs')
  third_back zs' =
      let none : drop (length three - b) zs ≡ [] = drop_of_length-le zs {i = length three - b} (omega (arith, length-append xs (ys ++ zs), length-append ys zs)) in
      let before : take b three ≡ xs ++ ys = rw regroup (take_at (xs ++ ys) zs b both-length) in
      rw (after, none, append-nil, before) (append_assoc xs ys zs')

  pub three_length : length three ≡ b + length zs
  three_length = omega (arith, length-append xs (ys ++ zs), length-append ys zs)
