use Rattle.std.proofs.Common.{◌+◌, length, refl, sym, arith}
use Rattle.trace_seq.specs.Without.{AreRising}
use Rattle.trace_seq.proofs.PassedLemmas.{rising-behind, without-none}
use Rattle.trace_seq.proofs.thinning.thin.Goals as goal

pub returns-then-are_behind-clause-ids : goal.returns-then-are_behind-clause-ids
returns-then-are_behind-clause-ids c =
    let rising : AreRising (c.args.first + length c.args.ids.now.items) c.args.positions.now = rising-behind c.args.first _ c.args.positions.now c.requires.rising (λ some. omega (arith, c.if-are_behind.ensures refl some, c.len-size.ensures, c.args.ids.now.ok)) in
    sym (without-none c.args.first c.args.ids.now.items c.args.positions.now rising)

pub returns-then-are_behind-clause-rest : goal.returns-then-are_behind-clause-rest
returns-then-are_behind-clause-rest c = rising-behind c.args.first _ c.args.positions.now c.requires.rising (λ some. omega (arith, c.if-are_behind.ensures refl some, c.len-size.ensures, c.args.ids.now.ok))
