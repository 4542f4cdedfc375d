-- How a run and its save end together.
use Rattle.std.specs.Prelude.{◌≡◌, refl, true, false, [], ◌∷◌, Some}
use Rattle.safe_save.specs.Disk.{fresh, created, grown, removed}
use Rattle.script_text.specs.declared.run_end.RunEnd.TheVariants.{Done, Stopped}
use Rattle.run_ending.specs.Standing.{StandsAs, FitsRun}
use Rattle.run_ending.specs.declared.out_end.OutEnd.TheVariants.{NotBegun, Saved}

-- two bytes were written beside OUT and taken away again: OUT is what it was
pub taken-away : StandsAs NotBegun (Some 416) (7 ∷ 9 ∷ []) (removed (grown (7 ∷ 9 ∷ []) (created fresh)))
taken-away = refl

-- a run of all lines that asked for a save may end with it; one that stopped at line 3 has begun none
pub done : FitsRun true (Done 2) Saved
done = refl

pub stopped : FitsRun true (Stopped 3) NotBegun
stopped = refl
