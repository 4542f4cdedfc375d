-- The grid of a small survey, worked by hand.
use Rattle.std.specs.Prelude.{◌≡◌, pos, List, [], ◌∷◌, refl}
use Rattle.trace_record.specs.Facts.{Facts}
use Rattle.trace_record.specs.SmallSurvey.{trace_1, trace_2, trace_3, trace_3_moved, survey}
use Rattle.grid_live.specs.Cells.{fold_of, cells, inlines, crosslines, histogram}

-- the third trace at the first one's cell, and in front of the others
abbrev moved : List Facts
moved = trace_3_moved ∷ trace_1 ∷ trace_2 ∷ []

pub cells-moved : cells moved ≡ record { inline = pos 10; crossline = pos 21; fold = 2 } ∷ record { inline = pos 10; crossline = pos 22; fold = 1 } ∷ []
cells-moved = refl

pub histogram-moved : histogram moved ≡ record { fold = 1; cells = 1 } ∷ record { fold = 2; cells = 1 } ∷ []
histogram-moved = refl

-- with a copy of the third trace
pub inlines-copied : inlines (trace_3 ∷ trace_1 ∷ trace_3 ∷ trace_2 ∷ []) ≡ record { number = pos 10; traces = 4 } ∷ []
inlines-copied = refl

pub crosslines-copied : crosslines (trace_3 ∷ trace_1 ∷ trace_3 ∷ trace_2 ∷ [])
    ≡ record { number = pos 21; traces = 1 } ∷ record { number = pos 22; traces = 1 } ∷ record { number = pos 23; traces = 2 } ∷ []
crosslines-copied = refl

pub fold-copied : fold_of (trace_3 ∷ trace_1 ∷ trace_3 ∷ trace_2 ∷ []) (pos 10) (pos 23) ≡ 2
fold-copied = refl

-- a cell without traces has fold 0
pub fold-nowhere : fold_of survey (pos 11) (pos 22) ≡ 0
fold-nowhere = refl

pub cells-none : cells [] ≡ []
cells-none = refl
