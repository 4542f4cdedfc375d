-- What is known of the parts of a list of lines.
use Rattle.std.specs.Prelude.{◌≡◌, List, [], ◌∷◌}
use Rattle.line_problems.specs.declared.parts.Part.{Part}
use Rattle.line_problems.specs.declared.parts.Parts.{Parts}
use Rattle.line_problems.specs.NearLines.{traces_of, largest}

-- the first part is known, and of those behind it the largest and how many traces they have
abbrev pub ShowsParts : Parts → List Part → Type 0
ShowsParts w [] = ⊥
ShowsParts w (p ∷ ps) = (w.first ≡ p) × (w.largest_behind ≡ largest ps) × (w.traces_behind ≡ traces_of ps)
