-- What is seen of the numbers of fields, trace by trace.
use Rattle.std.specs.Prelude.{ℤ, pos, not, ◌||◌, ℕ, List, [], ◌∷◌, Option, Some, None, if◌then◌else◌}
use Rattle.std.specs.Int.{int_min, int_max}
use Rattle.std.specs.List.{cons_option}
use Rattle.std.specs.Ordering.{int_eq}
use Rattle.field_map.specs.Pairs.{Pairs}
use Rattle.frame_cut.specs.declared.file_head.Head.{Head}
use Rattle.trace_view.specs.Values.{value_of}
use Rattle.bench_rules.specs.declared.extremes.Extremes.{Extremes}
use Rattle.bench_rules.specs.Headers.{extremes_of, some_number, with_name}
use Rattle.header_answers.specs.declared.seen.Seen.{Seen}

-- what is seen of numbers: their extremes, and whether one of them is not 0
abbrev pub seen_of : List ℤ → Seen
seen_of xs = record { extremes = extremes_of xs; some = some_number xs }

-- extremes with one number more behind them
abbrev pub widened : Extremes → ℤ → Extremes
widened e x = record { least = int_min e.least x; greatest = int_max e.greatest x; first = e.first; last = x }

-- the extremes of one number, or with one number more
abbrev pub extremes_with : Option Extremes → ℤ → Extremes
extremes_with None x = record { least = x; greatest = x; first = x; last = x }
extremes_with (Some e) x = widened e x

-- what is seen with one number more, where there is one
abbrev pub seen_with : Seen → Option ℤ → Seen
seen_with s None = s
seen_with s (Some x) = record { extremes = Some (extremes_with s.extremes x); some = s.some || not (int_eq x (pos 0)) }

-- what is seen of each name with one trace more
abbrev pub seen_each : Head → List ℕ → Pairs → List Seen → List Seen
seen_each h t [] ss = []
seen_each h t (e ∷ es) [] = []
seen_each h t (e ∷ es) (s ∷ ss) = seen_with s (value_of h t e.1) ∷ seen_each h t es ss

-- the extremes of numbers that are not all 0
abbrev pub shown : Seen → Option Extremes
shown s = if s.some then s.extremes else None

-- the names whose numbers are not all 0, with what was seen of each
abbrev pub shown_of : Pairs → List Seen → List (List ℕ × Extremes)
shown_of [] ss = []
shown_of (e ∷ es) [] = []
shown_of (e ∷ es) (s ∷ ss) = cons_option (with_name e.0 (shown s)) (shown_of es ss)
