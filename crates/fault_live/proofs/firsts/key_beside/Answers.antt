use Rattle.std.proofs.Common.{◌-◌, ◌∙◌, ap₂}
use Rattle.fault_live.proofs.TripleLemmas.{among-beside}
use Rattle.fault_live.proofs.firsts.key_beside.Goals as goal

pub returns : goal.returns
returns c = λ k.
    among-beside _ c.key_alone.result c.key_alone-2.result c.beside.ensures k
    ∙ ap₂ (λ m n. m - n) (c.key_alone.ensures k) (c.key_alone-2.ensures k)
