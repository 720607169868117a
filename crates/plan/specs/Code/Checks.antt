-- Records where they stand in a flat list, and `tiled` one child at a time.
use Rattle.std.specs.Prelude.{Bool, true, ◌&&◌, cond, List, [], ◌∷◌, ℕ, ◌+◌, ◌*◌, eqb, leb, drop}
use Rattle.base.specs.Lists.{filter}
use Rattle.plan.specs.Groups.{Group, whole, red, blue, width, of_fields, records}
use Rattle.plan.specs.Sound.{depth_first, tiled}
use Rattle.plan.specs.declared.fields.Colour.{Colour}
use Rattle.plan.specs.declared.fields.Colour.TheVariants as colour

-- the number of a colour
abbrev pub colour_of : Colour → ℕ
colour_of colour.Whole = whole
colour_of colour.Red = red
colour_of colour.Blue = blue

-- the record at an index of a flat list
unfoldable pub record_at : List ℕ → ℕ → Group
record_at ns i = of_fields (drop (width * i) ns)

-- the records of a flat list after the whole
abbrev pub below_whole : (count : ℕ) → List ℕ → List Group
below_whole count ns = drop 1 (records count ns)

abbrev pub stands_depth_first : (count : ℕ) → List ℕ → Bool
stands_depth_first count ns = depth_first (0 ∷ []) 1 (below_whole count ns)

-- h is the next child at position s from worker f on; w is the workers of a red whose blue is next, 0 where a red is
-- next
unfoldable pub fitting : (s f w : ℕ) → Group → Bool
fitting s f w h = eqb h.start s && eqb h.first f && cond (eqb w 0) (eqb h.colour red && leb 1 h.workers) (eqb h.colour blue && eqb h.workers w)

-- after h, the workers of a red whose blue is next
unfoldable pub pending : (w : ℕ) → Group → ℕ
pending w h = cond (eqb w 0) h.workers 0

-- position s and worker f are the end of g, and no blue is missing
unfoldable pub complete : (s f w : ℕ) → Group → Bool
complete s f w g = eqb w 0 && eqb s (g.start + g.length) && eqb f (g.first + g.workers)

-- `tiled`, one child at a time
unfoldable pub laid : Group → (s f w : ℕ) → List Group → Bool
laid g s f w [] = complete s f w g
laid g s f w (h ∷ hs) = fitting s f w h && laid g (s + h.length) (f + w) (pending w h) hs

-- the groups of a colour
abbrev pub of_colour : ℕ → List Group → List Group
of_colour colour gs = filter (λ g. eqb g.colour colour) gs

-- a group's children tile it, if it has any
unfoldable pub tiles : Group → List Group → Bool
tiles g [] = true
tiles g (k ∷ ks) = tiled g g.start g.first (k ∷ ks)
