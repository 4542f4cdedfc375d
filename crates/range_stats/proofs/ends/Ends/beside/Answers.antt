use Rattle.std.proofs.Common.{◌-◌, ◌∙◌, ap₂}
use Rattle.range_stats.proofs.OwnKeyLemmas.{ends-beside}
use Rattle.range_stats.proofs.ends.Ends.beside.Goals as goal

pub returns : goal.returns
returns c = λ k.
    ends-beside (record { least = c.beside.result; greatest = c.beside-2.result }) c.of-own.result c.of-others.result c.beside.ensures c.beside-2.ensures k
    ∙ ap₂ (λ m n. m - n) (c.of-own.ensures k) (c.of-others.ensures k)
