-- Laws of statistics and tallies, whatever traces they are of.
use Rattle.std.specs.Prelude.{◌≡◌, ℕ, ℤ, Bool, true, List, ◌∷◌, ◌++◌, IsPermutation}
use Rattle.field_map.specs.Pairs.{Pairs}
use Rattle.field_map.specs.Binding.{HasGeometry}
use Rattle.frame_cut.specs.declared.file_head.Head.{Head}
use Rattle.frame_cut.specs.Cuts.{IsTrace}
use Rattle.trace_record.specs.Statistics.{statistics_of, statistics_of_both}
use Rattle.trace_record.specs.Facts.{Facts}
use Rattle.trace_record.specs.Keys.{Counted}
use Rattle.trace_record.specs.OfTrace.{has_geometry}
use Rattle.trace_record.specs.Tally.{Tally, tally_of, plus, minus, plus_beside, minus_beside, Same, Holds}

-- the statistics of two lists one after the other are those of both together
abbrev pub StatisticsOfJoined : Type 0
StatisticsOfJoined = (floats : Bool) (xs ys : List ℤ) → statistics_of floats (xs ++ ys) ≡ statistics_of_both (statistics_of floats xs) (statistics_of floats ys)

-- the tally does not depend on the order of the traces
abbrev pub TallyInAnyOrder : Type 0
TallyInAnyOrder = (c : Counted) (fs gs : List Facts) → IsPermutation fs gs → Same (tally_of c gs) (tally_of c fs)

-- the tally of a list with one trace more, wherever it stands
abbrev pub TallyOfOneMore : Type 0
TallyOfOneMore = (c : Counted) (before after : List Facts) (f : Facts) → Same (tally_of c (before ++ f ∷ after)) (plus c (tally_of c (before ++ after)) f)

-- the tally of a list with one trace less
abbrev pub TallyOfOneLess : Type 0
TallyOfOneLess = (c : Counted) (before after : List Facts) (f : Facts) → Same (tally_of c (before ++ after)) (minus c (tally_of c (before ++ f ∷ after)) f)

-- the tally of a list holds each of its traces
abbrev pub TallyHoldsEach : Type 0
TallyHoldsEach = (c : Counted) (before after : List Facts) (f : Facts) → Holds c (tally_of c (before ++ f ∷ after)) f

-- one trace in the place of another: the new one is counted beside the old one, which is then counted no longer
abbrev pub TallyOfAnExchange : Type 0
TallyOfAnExchange = (c : Counted) (before after : List Facts) (f g : Facts)
    → Same (minus_beside c (plus_beside c (tally_of c (before ++ f ∷ after)) g f) f g) (tally_of c (before ++ g ∷ after))

-- no longer counting a trace beside another undoes counting it there
abbrev pub MinusBesideUndoesPlus : Type 0
MinusBesideUndoesPlus = (c : Counted) (t : Tally) (f g : Facts) → Same (minus_beside c (plus_beside c t f g) f g) t

-- two traces counted in either order
abbrev pub PlusInAnyOrder : Type 0
PlusInAnyOrder = (c : Counted) (t : Tally) (f g : Facts) → Same (plus c (plus c t f) g) (plus c (plus c t g) f)

-- taking a trace out undoes putting it in
abbrev pub MinusUndoesPlus : Type 0
MinusUndoesPlus = (c : Counted) (t : Tally) (f : Facts) → Same (minus c (plus c t f) f) t

-- and putting it in undoes taking it out, where the tally has it
abbrev pub PlusUndoesMinus : Type 0
PlusUndoesMinus = (c : Counted) (t : Tally) (f : Facts) → Holds c t f → Same (plus c (minus c t f) f) t

-- a map that keeps the geometry names gives each trace of its file a geometry
abbrev pub GeometryOfEachTrace : Type 0
GeometryOfEachTrace = (h : Head) (fields : Pairs) (t : List ℕ) → HasGeometry h.extensions fields → IsTrace h t → has_geometry h fields t ≡ true
