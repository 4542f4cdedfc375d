use Rattle.std.specs.Prelude.{◌≡◌, ℤ, ◌∷◌, take}
use Rattle.std.proofs.Common.{get_or}
use Rattle.common_numbers.proofs.WalkLemmas.{Walked}
use Rattle.common_numbers.proofs.runs.longest_run.Given as goal

-- of the numbers so far the longest run and the last one are known
abbrev pub invariant-loop-number : goal.invariant-loop-number
invariant-loop-number l = record {
  walked : Walked (l.first ∷ take l.number-index l.others) l.longest.number l.longest.times l.last.number l.last.times;
  stands_last : (d : ℤ) → l.last.number ≡ get_or (l.first ∷ l.others) l.number-index d;
}
