-- Which lines are far from the others.
use Rattle.std.specs.Prelude.{ℕ, ℤ, pos, ◌+◌, ◌*◌, ◌-ℤ◌, ◌*ℤ◌, List, [], ◌∷◌, length, sum_by, Option, Some, None, option_and_then, nat_le, nat_lt, int_le, if◌then◌else◌}
use Rattle.std.specs.Option.{option_map_or}
use Rattle.grid_live.specs.declared.line.Line.{Line}
use Rattle.line_problems.specs.declared.parts.Part.{Part}
use Rattle.line_problems.specs.declared.parts.TheConstants.{NEAR_STEPS}
use Rattle.line_problems.specs.LineProblems.{step_of}

-- a line in front of parts of a list: in the first part where it is no more than ten steps away, else in a part of its own
abbrev pub line_before : ℤ → Line → List Part → List Part
line_before s l [] = record { first = l.number; last = l.number; traces = l.traces } ∷ []
line_before s l (p ∷ ps) = if int_le (p.first -ℤ l.number) (pos NEAR_STEPS *ℤ s)
    then (record { first = l.number; last = p.last; traces = l.traces + p.traces } ∷ ps)
    else (record { first = l.number; last = l.number; traces = l.traces } ∷ p ∷ ps)

-- the parts of a list of lines, parted where neighbours are more than ten steps from one another
abbrev pub parts_of : ℤ → List Line → List Part
parts_of s [] = []
parts_of s (l ∷ ls) = line_before s l (parts_of s ls)

-- how many traces are in these parts
abbrev pub traces_of : List Part → ℕ
traces_of ps = sum_by (λ p. p.traces) ps

-- of two parts the one with more traces, and the first where they have equally many
abbrev pub larger : Part → Part → Part
larger p q = if nat_lt p.traces q.traces then q else p

-- the part with the most traces, and the first of several, which has the least numbers
abbrev pub largest : List Part → Option Part
largest [] = None
largest (p ∷ ps) = Some (option_map_or (larger p) (largest ps) p)

-- the least and the greatest number of a part that has more than half of all traces, so that the others together have fewer than half
abbrev pub kept_of : ℕ → Part → Option (ℤ × ℤ)
kept_of n p = if nat_lt n (2 * p.traces) then Some (p.first, p.last) else None

-- which of these parts stays, as its least and its greatest number: of several the one with the most traces, where the others together have fewer than half
abbrev pub near_among : List Part → Option (ℤ × ℤ)
near_among (p ∷ q ∷ ps) = option_and_then (kept_of (traces_of (p ∷ q ∷ ps))) (largest (p ∷ q ∷ ps))
near_among ps = None

-- the least and the greatest number of the lines that are near one another at the step s, where others are far from them; nothing of fewer than three lines
abbrev pub near_at : ℤ → List Line → Option (ℤ × ℤ)
near_at s ls = if nat_le 3 (length ls) then near_among (parts_of s ls) else None

-- the least and the greatest number of the lines that are near one another, where others are far from them; nothing where no line is far
abbrev pub near_of : List Line → Option (ℤ × ℤ)
near_of ls = option_and_then (λ s. near_at s ls) (step_of ls)
