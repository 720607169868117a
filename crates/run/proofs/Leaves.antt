-- A leaf is finished when its worker is past its end: it has made all accesses of its rows before it.
use mathlib.Core.Path.{◌≡◌}
use mathlib.Core.Bool.{true, false}
use mathlib.Core.List.{List}
use Prim.Native.Nat.{ℕ, ◌+◌, ◌*◌, ◌≤◌, ◌<◌}
use borrow.Author.Tests.{leb-true, leb-false, le-leb, lt-leb}
use Rattle.plan.specs.Groups.{Group}
use Rattle.run.specs.Job.{Job}
use Rattle.run.specs.Updates.{count, finished}
use Rattle.run.proofs.Work.{cum}

module _ (j : Job) (made : List ℕ) where
  -- worker w has made all accesses of its rows before position p
  abbrev pub Past : ℕ → ℕ → Type 0
  Past w p = 2 * cum j w p ≤ count made w

  module _ (g : Group) where
    abbrev all : ℕ
    all = 2 * cum j g.first (g.start + g.length)

    -- its worker is past its end: it is finished
    pub past-finished : Past g.first (g.start + g.length) → finished j made g ≡ true
    unfolding finished
    past-finished h = le-leb all (count made g.first) h

    -- .. and the other way
    pub finished-past : finished j made g ≡ true → Past g.first (g.start + g.length)
    unfolding finished
    finished-past h = leb-true all (count made g.first) h

    -- an unfinished leaf's worker has an access left in it
    pub unfinished-left : finished j made g ≡ false → count made g.first < all
    unfolding finished
    unfinished-left h = leb-false all (count made g.first) h

    -- .. and the other way
    pub left-unfinished : count made g.first < all → finished j made g ≡ false
    unfolding finished
    left-unfinished h = lt-leb all (count made g.first) h
