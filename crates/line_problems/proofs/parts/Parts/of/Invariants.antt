use Rattle.std.specs.Prelude.{◌+◌, ◌*◌, ◌<◌, ◌^◌, length, drop}
use Rattle.line_problems.specs.NearLines.{parts_of}
use Rattle.line_problems.specs.ShownParts.{ShowsParts}
use Rattle.line_problems.proofs.parts.Parts.of.Given as goal

-- the parts of the lines from this one on are shown, and their traces fit
abbrev pub invariant-loop-i : goal.invariant-loop-i
invariant-loop-i l = record {
  shows : ShowsParts l.parts (parts_of l.step (drop l.i l.fn.lines));
  fits : l.parts.first.traces + l.parts.traces_behind + 2 ^ 64 * l.i < 2 ^ 64 * (length l.others + 1);
}
