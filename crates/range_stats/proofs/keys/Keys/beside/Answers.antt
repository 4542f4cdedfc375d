use Rattle.std.proofs.Common.{◌-◌, ◌∙◌, ap₂}
use Rattle.range_stats.proofs.OwnKeyLemmas.{among-beside}
use Rattle.range_stats.proofs.keys.Keys.beside.Goals as goal

pub returns : goal.returns
returns c = λ k.
    among-beside (record { inline = c.beside.result; crossline = c.beside-2.result; offset = c.beside-3.result; x = c.beside-4.result; y = c.beside-5.result }) c.of-own.result c.of-others.result
    c.beside.ensures c.beside-2.ensures c.beside-3.ensures c.beside-4.ensures c.beside-5.ensures k
    ∙ ap₂ (λ m n. m - n) (c.of-own.ensures k) (c.of-others.ensures k)
