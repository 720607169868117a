-- What a measured text says of the room.
use Rattle.std.proofs.Common.{◌≡◌, ℕ, Ok, Err, ◌<◌, ◌≤◌, Bool, true, false, leb, refl, leb-false, leb-true}
use Rattle.base.specs.declared.Refusal.{Refusal}
use Rattle.numbers.specs.Code.Puts.{short, if_room, size_of}

module _ (needed room : ℕ) where
  pub size-short : (r : Refusal) → Err r ≡ size_of needed room → (r ≡ short needed) × (room < needed)
  size-short r e = go (leb needed room) refl e
    where
      go : (t : Bool) → leb needed room ≡ t → Err r ≡ if_room t needed → (r ≡ short needed) × (room < needed)
      go true f e = absurd (cc)
      go false f e = (cc, leb-false needed room f)

  pub size_fits : (n : ℕ) → Ok n ≡ size_of needed room → (n ≡ needed) × (needed ≤ room)
  size_fits n e = go (leb needed room) refl e
    where
      go : (t : Bool) → leb needed room ≡ t → Ok n ≡ if_room t needed → (n ≡ needed) × (needed ≤ room)
      go true f e = (cc, leb-true needed room f)
      go false f e = absurd (cc)
