use Rattle.std.proofs.Common.{◌≡◌, true, take}
use Rattle.std.specs.List.{list_all}
use Rattle.sample_codes.specs.Formats.{sample_fits}
use Rattle.bench_rules.proofs.trace_bytes.all_fit.Given as goal

-- the format has each value so far
abbrev pub invariant-loop-value : goal.invariant-loop-value
invariant-loop-value l = list_all (sample_fits l.format) (take l.value-index l.values) ≡ true
