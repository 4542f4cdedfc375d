-- Places, changes and pieces of small files, worked by hand.
use Rattle.std.specs.Prelude.{ℕ, ◌≡◌, ◌+◌, [], ◌∷◌, Some, None, refl}
use Rattle.journal_save.specs.Disk.{laid_all}
use Rattle.trace_view.specs.declared.run.Run.{Run}
use Rattle.trace_store.specs.declared.base.Base.TheVariants.{Loaded}
use Rattle.trace_store.specs.Layers.{Layered}
use Rattle.edit_pieces.specs.Changes.{header_change, runs_in}
use Rattle.edit_pieces.specs.InPlace.{misplaced, unfit_from}
use Rattle.edit_pieces.specs.Pieces.{cut_by}
use Rattle.edit_pieces.specs.declared.unfit.Unfit.TheVariants.{NewTrace, OtherPlace, Fewer}

-- a trace over so many bytes of the file from here on, without runs
abbrev over : ℕ → ℕ → Layered
over start length = record { base = Loaded (record { start = start; length = length }); runs = [] }

-- three traces that lie one behind the other from 3600 to 4400
pub in-place : unfit_from 3600 1 4400 (over 3600 260 ∷ over 3860 260 ∷ over 4120 280 ∷ []) ≡ None
in-place = refl

-- the second was moved behind the third: what stands second now starts elsewhere
pub moved : unfit_from 3600 1 4400 (over 3600 260 ∷ over 4120 280 ∷ over 3860 260 ∷ []) ≡ Some (OtherPlace 2)
moved = refl

-- the first was deleted
pub deleted-first : unfit_from 3600 1 4400 (over 3860 260 ∷ over 4120 280 ∷ []) ≡ Some (OtherPlace 1)
deleted-first = refl

-- the last was deleted, or all were
pub deleted-last : unfit_from 3600 1 4400 (over 3600 260 ∷ over 3860 260 ∷ []) ≡ Some Fewer
deleted-last = refl

pub deleted-all : unfit_from 3600 1 4400 [] ≡ Some Fewer
deleted-all = refl

-- trace 3 has bytes of its own
pub inserted : misplaced 4120 3 None ≡ Some (NewTrace 3)
inserted = refl

-- a run goes to its place in the trace, behind the place of the trace in the file
pub one-run : (r : Run) → runs_in (record { base = Loaded (record { start = 3860; length = 260 }); runs = r ∷ [] }) ≡ (3860 + r.at, r.bytes.items) ∷ []
one-run r = refl

-- a header that the file has there already is left out
pub same-header : header_change 1 (8 ∷ 9 ∷ []) (7 ∷ 8 ∷ 9 ∷ []) ≡ []
same-header = refl

pub other-header : header_change 1 (8 ∷ 5 ∷ []) (7 ∷ 8 ∷ 9 ∷ []) ≡ (1, 8 ∷ 5 ∷ []) ∷ []
other-header = refl

-- five bytes where a piece has two at most: two pieces of two, and the rest
pub three-pieces : cut_by 2 5 10 (1 ∷ 2 ∷ 3 ∷ 4 ∷ 5 ∷ []) ≡ (10, 1 ∷ 2 ∷ []) ∷ (12, 3 ∷ 4 ∷ []) ∷ (14, 5 ∷ []) ∷ []
three-pieces = refl

-- laid over a file, the pieces are those bytes
pub three-laid : laid_all (cut_by 2 3 1 (7 ∷ 8 ∷ 9 ∷ [])) (1 ∷ 2 ∷ 3 ∷ 4 ∷ 5 ∷ []) ≡ 1 ∷ 7 ∷ 8 ∷ 9 ∷ 5 ∷ []
three-laid = refl
