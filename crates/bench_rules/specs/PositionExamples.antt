-- Positions of the cells of small surveys: their problems and their grid, worked by hand.
use Rattle.std.specs.Prelude.{◌≡◌, ℕ, ℤ, pos, false, true, List, [], ◌∷◌, Some, option_map, refl}
use Rattle.field_map.specs.Binding.{geometry_at_load}
use Rattle.key_counts.specs.Coordinates.{greatest_divisor, over, under_scalar}
use Rattle.common_numbers.specs.Commonest.{commonest}
use Rattle.trace_record.specs.Facts.{Facts}
use Rattle.trace_record.specs.SmallSurvey.{made}
use Rattle.cell_positions.specs.declared.survey.SurveyGrid.{SurveyGrid}
use Rattle.cell_positions.specs.declared.trace_pair.TracePair.{TracePair}
use Rattle.cell_positions.specs.Cells.{cells_of}
use Rattle.cell_positions.specs.Steps.{crossline_span_of, inline_span_of}
use Rattle.bench_rules.specs.declared.mapping.Mapping.TheVariants.{Shot, Usual}
use Rattle.bench_rules.specs.declared.problem_line.ProblemLine.TheVariants.{Jump, Jumps, SharedPosition, SharedPositions}
use Rattle.bench_rules.specs.Mappings.{all_bound, bindings}
use Rattle.bench_rules.specs.Problems.{is_shot_file, position_problems}
use Rattle.bench_rules.specs.ReportExamples.{loaded}
use Rattle.bench_rules.specs.Reports.{survey_in}

-- a trace of the first inline at this crossline and x
abbrev at : ℤ → ℤ → Facts
at crossline x = made (pos 1) crossline (pos 0) x (pos 1) (pos 1) (pos 1)

-- four traces of one inline, 25 apart but for the third
abbrev line : ℤ → List Facts
line x = at (pos 1) (pos 100) ∷ at (pos 2) (pos 125) ∷ at (pos 3) x ∷ at (pos 4) (pos 175) ∷ at (pos 5) (pos 200) ∷ at (pos 6) (pos 225) ∷ []

-- a later trace and an earlier one
abbrev traces : ℕ → ℕ → TracePair
traces p q = record { later = p; earlier = q }

pub problems-straight : position_problems false (line (pos 150)) ≡ []
unfolding cells_of inline_span_of crossline_span_of commonest over greatest_divisor
problems-straight = refl

-- the third stands where the first does
pub problems-moved : position_problems false (line (pos 100)) ≡ Jumps 5 2 ∷ Jump (traces 3 2) ∷ Jump (traces 4 3) ∷ SharedPositions 1 ∷ SharedPosition (traces 3 1) ∷ []
unfolding cells_of inline_span_of crossline_span_of commonest over greatest_divisor
problems-moved = refl

-- in a file of shots a crossline is a trace of its shot
pub problems-shots : position_problems true (line (pos 100)) ≡ []
unfolding cells_of inline_span_of crossline_span_of commonest over greatest_divisor
problems-shots = refl

pub shots-bound : is_shot_file (all_bound geometry_at_load (bindings Shot)) ≡ true
shots-bound = refl

pub shots-usual : is_shot_file (all_bound geometry_at_load (bindings Usual)) ≡ false
shots-usual = refl

-- of a grid: its crosslines, the cells and those of a full grid
abbrev in_numbers : SurveyGrid → ℤ × ℤ × ℕ × ℕ
in_numbers g = (g.crossline.first, g.crossline.last, g.cells, g.full)

pub grid-plain : option_map in_numbers (survey_in loaded) ≡ Some (pos 21, pos 23, 3, 3)
unfolding cells_of inline_span_of crossline_span_of commonest over greatest_divisor under_scalar
grid-plain = refl
