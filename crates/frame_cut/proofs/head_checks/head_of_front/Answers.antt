use Rattle.std.proofs.Common.{arith}
use Rattle.frame_cut.proofs.FrontLemmas.{sizes_told, too_large, too_short}
use Rattle.frame_cut.proofs.head_checks.head_of_front.Goals as goal

pub returns-then-size-bytes-clause-told : goal.returns-then-size-bytes-clause-told
returns-then-size-bytes-clause-told c = λ file begun.
    too_large c.args.front.now c.args.size file c.args.reading c.args.limits begun (omega (arith, c.if-size-bytes.true, c.bytes.ensures))

pub returns-then-size-clause-told : goal.returns-then-size-clause-told
returns-then-size-clause-told c = λ file begun.
    too_short c.args.front.now c.args.size file c.args.reading c.args.limits begun (omega (arith, c.if-size-bytes.false, c.bytes.ensures)) (omega (arith, c.if-size.true))

pub returns-clause-told : goal.returns-clause-told
returns-clause-told c = λ file begun.
    sizes_told c.args.front.now c.args.size file c.args.reading c.args.limits c.head_from.result begun
    (omega (arith, c.if-size-bytes.false, c.bytes.ensures)) (omega (arith, c.if-front-lt-FILE_HEADER_BYTES.false)) (omega (arith, c.requires)) c.head_from.ensures.told
