use Rattle.std.specs.Prelude.{◌≡◌, ◌+◌, ◌<◌, ◌≤◌, FitsSigned, ◌+ℤ◌, ◌≤ℤ◌, ◌++◌, ◌∷◌, pos, List, drop, filter}
use Rattle.std.specs.Int.{w32}
use Rattle.grid_live.specs.declared.line.Line.{Line}
use Rattle.line_problems.specs.LineProblems.{LinesRise, neighbours_after}
use Rattle.line_problems.specs.MissingLines.{is_gap, gaps_of, missing_in, told}
use Rattle.line_problems.proofs.missing.find_missing.Given as goal

-- what is told is of the gaps so far, which are all with those that are left; they lie between the first and the last line
abbrev pub invariant-loop-line : goal.invariant-loop-line
invariant-loop-line l = record {
  gaps : (gs : List (Line × Line)) × (told l.missing ≡ missing_in l.step gs) × (gs ++ filter (is_gap l.step l.near) (neighbours_after l.last (drop l.line-index l.others)) ≡ gaps_of l.step l.near l.fn.lines);
  rise : LinesRise (l.last ∷ drop l.line-index l.others);
  begins : l.line-index ≡ 0 → l.last ≡ l.initial.last;
  fits : 0 < l.line-index → FitsSigned w32 l.initial.last.number;
  room : (pos (l.missing.missing + l.missing.runs) +ℤ l.initial.last.number) ≤ℤ l.last.number;
  memory : l.initial.room ≤ l.room;
}
