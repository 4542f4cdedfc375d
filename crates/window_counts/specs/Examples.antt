-- Places of keys and lists of counts, worked by hand.
use Rattle.std.specs.Prelude.{◌≡◌, pos, negsuc, [], ◌∷◌, Some, None, refl}
use Rattle.std.specs.Ordering.{int_cmp}
use Rattle.window_counts.specs.Window.{entries, merge}
use Rattle.window_counts.specs.Places.{interval_place, interval_key, row_place, row_key, place_below, cell_place, cell_key, offset_at, offset_in, triple_place, triple_key}

-- of 5 inlines from 10 on, 12 has place 2, and 15 has none
pub place-line : interval_place (pos 10) 5 (pos 12) ≡ Some 2
place-line = refl

pub place-line_above : interval_place (pos 10) 5 (pos 15) ≡ None
place-line_above = refl

pub place-line_below : interval_place (pos 10) 5 (negsuc 0) ≡ None
place-line_below = refl

-- of 3 inlines from 10 on, with 50 and 60 behind them, 12 has row 2, 60 row 4 and 55 none
pub place-row : row_place (pos 10) 3 (pos 50 ∷ pos 60 ∷ []) (pos 12) ≡ Some 2
place-row = refl

pub place-row_behind : row_place (pos 10) 3 (pos 50 ∷ pos 60 ∷ []) (pos 60) ≡ Some 4
place-row_behind = refl

pub place-row_between : row_place (pos 10) 3 (pos 50 ∷ pos 60 ∷ []) (pos 55) ≡ None
place-row_between = refl

pub key-row_behind : row_key (pos 10) 3 (pos 50 ∷ pos 60 ∷ []) 4 ≡ pos 60
key-row_behind = refl

-- of 3 rows of 4 places, place 6 itself; place 17 stands in column 1, as place 9 of the last row
pub below-first : place_below 3 4 6 ≡ 6
below-first = refl

pub below-behind : place_below 3 4 17 ≡ 9
below-behind = refl

-- of 3 inlines from 10 on by 4 crosslines from 20 on, inline 11 and crossline 22 have place 6
pub place-cell : cell_place (row_place (pos 10) 3 []) (pos 20) 4 (pos 11, pos 22) ≡ Some 6
place-cell = refl

pub key-cell : cell_key (row_key (pos 10) 3 []) (pos 20) 4 6 ≡ (pos 11, pos 22)
key-cell = refl

pub place-cell_beside : cell_place (row_place (pos 10) 3 []) (pos 20) 4 (pos 11, pos 24) ≡ None
place-cell_beside = refl

-- the same cell at the offset of all places, and at another one
pub place-triple : triple_place (row_place (pos 10) 3 []) (pos 20) 4 (offset_at None (pos 100)) (pos 11, pos 22, pos 100) ≡ Some 6
place-triple = refl

pub place-triple_other : triple_place (row_place (pos 10) 3 []) (pos 20) 4 (offset_at None (pos 100)) (pos 11, pos 22, pos 200) ≡ None
place-triple_other = refl

-- of one inline and two crosslines, the first at offset 100 and the second at 200
pub place-own : triple_place (row_place (pos 10) 1 []) (pos 20) 2 (offset_in (pos 100 ∷ pos 200 ∷ []) (pos 0)) (pos 10, pos 21, pos 200) ≡ Some 1
place-own = refl

pub place-own_other : triple_place (row_place (pos 10) 1 []) (pos 20) 2 (offset_in (pos 100 ∷ pos 200 ∷ []) (pos 0)) (pos 10, pos 21, pos 100) ≡ None
place-own_other = refl

pub key-own : triple_key (row_key (pos 10) 1 []) (pos 20) 2 (offset_in (pos 100 ∷ pos 200 ∷ []) (pos 0)) 1 ≡ (pos 10, pos 21, pos 200)
key-own = refl

-- with inline 50 behind them: its crosslines have places 2 and 3, at the offsets of those of inline 10
pub place-added : triple_place (row_place (pos 10) 1 (pos 50 ∷ [])) (pos 20) 2 (λ p. offset_in (pos 100 ∷ pos 200 ∷ []) (pos 0) (place_below 1 2 p)) (pos 50, pos 21, pos 200) ≡ Some 3
place-added = refl

pub key-added : triple_key (row_key (pos 10) 1 (pos 50 ∷ [])) (pos 20) 2 (λ p. offset_in (pos 100 ∷ pos 200 ∷ []) (pos 0) (place_below 1 2 p)) 2 ≡ (pos 50, pos 20, pos 100)
key-added = refl

-- no trace at 10, two at 11 and one at 12
pub entries-line : entries (interval_key (pos 10)) (0 ∷ 2 ∷ 1 ∷ []) ≡ (pos 11, 2) ∷ (pos 12, 1) ∷ []
entries-line = refl

pub merge-lines : merge int_cmp ((pos 11, 2) ∷ (pos 12, 1) ∷ []) ((negsuc 4, 1) ∷ (pos 40, 3) ∷ []) ≡ (negsuc 4, 1) ∷ (pos 11, 2) ∷ (pos 12, 1) ∷ (pos 40, 3) ∷ []
merge-lines = refl
