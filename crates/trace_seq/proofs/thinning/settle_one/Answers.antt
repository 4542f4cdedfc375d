use Rattle.std.proofs.Common.{◌+◌, ◌-◌, ◌<◌, arith, ap, vec_len}
use Rattle.trace_seq.specs.declared.chunk.Chunk.{Chunk}
use Rattle.trace_seq.specs.Chunks.{size_at}
use Rattle.trace_seq.proofs.ChunkIdLemmas.{size-read}
use Rattle.trace_seq.proofs.SettleLemmas.{settled-empty, settled-kept}
use Rattle.trace_seq.proofs.thinning.settle_one.Goals as goal
use Rattle.trace_seq.proofs.thinning.settle_one.Goals.{else-kept-gt0-via-then-kept-gt0+else-len-size, else-kept-gt0-via-else-kept-gt0}

pub returns-then-size-eq0-clause-settled : goal.returns-then-size-eq0-clause-settled
returns-then-size-eq0-clause-settled c =
    settled-empty c.args.chunks.now c.args.kept c.args.k c.requires.settled c.requires.chunk
    (omega (arith, c.if-size-eq0.true, c.len-size.ensures, c.index-chunks-k.result.ids.ok, ap (λ (x : Chunk). vec_len x.ids) c.index-chunks-k.is, size-read c.args.chunks.now c.args.k c.index-chunks-k.result c.requires.chunk c.index-chunks-k.is))

pub join_into-requires-clause-fits : goal.join_into-requires-clause-fits
join_into-requires-clause-fits c = omega (
  arith,
  c.if-len-size.true,
  c.len.ensures,
  c.len-size.ensures,
  c.index-chunks-k.result.ids.ok,
  c.index-chunks-kept.result.ids.ok,
  ap (λ (x : Chunk). vec_len x.ids) c.index-chunks-k.is,
  ap (λ (x : Chunk). vec_len x.ids) c.index-chunks-kept.is,
  size-read c.args.chunks.now c.args.k c.index-chunks-k.result c.requires.chunk c.index-chunks-k.is,
  size-read c.args.chunks.now (c.args.kept - 1) c.index-chunks-kept.result (omega (arith, c.requires.chunk, c.requires.settled.kept_is, c.requires.settled.passed_is, c.if-kept-gt0.true)) c.index-chunks-kept.is,
)

pub returns-clause-settled : goal.returns-clause-settled
returns-clause-settled c =
    let cs = c.args.chunks.now in
    let here = size-read cs c.args.k c.index-chunks-k.result c.requires.chunk c.index-chunks-k.is in
    let some : 0 < size_at cs c.args.k = omega (arith, c.if-size-eq0.false, c.len-size.ensures, c.index-chunks-k.result.ids.ok, ap (λ (x : Chunk). vec_len x.ids) c.index-chunks-k.is, here) in
    let thick : 0 < c.args.kept → 256 < size_at cs (c.args.kept - 1) + size_at cs c.args.k = elim c.else-kept-gt0.branch [
      | else-kept-gt0-via-then-kept-gt0+else-len-size w ↦ λ more. omega (
        arith,
        w.if-len-size.false,
        w.len.ensures,
        c.len-size.ensures,
        c.index-chunks-k.result.ids.ok,
        w.index-chunks-kept.result.ids.ok,
        ap (λ (x : Chunk). vec_len x.ids) c.index-chunks-k.is,
        ap (λ (x : Chunk). vec_len x.ids) w.index-chunks-kept.is,
        here,
        size-read cs (c.args.kept - 1) w.index-chunks-kept.result (omega (arith, c.requires.chunk, c.requires.settled.kept_is, c.requires.settled.passed_is, more)) w.index-chunks-kept.is,
      )
      | else-kept-gt0-via-else-kept-gt0 w ↦ λ more. omega (arith, more, w.if-kept-gt0.false)
    ] in
    (settled-kept cs c.swap.new.self c.args.kept c.args.k c.requires.settled c.requires.chunk some thick c.swap.ensures.after).0

pub returns-clause-same : goal.returns-clause-same
returns-clause-same c =
    let cs = c.args.chunks.now in
    let here = size-read cs c.args.k c.index-chunks-k.result c.requires.chunk c.index-chunks-k.is in
    let some : 0 < size_at cs c.args.k = omega (arith, c.if-size-eq0.false, c.len-size.ensures, c.index-chunks-k.result.ids.ok, ap (λ (x : Chunk). vec_len x.ids) c.index-chunks-k.is, here) in
    let thick : 0 < c.args.kept → 256 < size_at cs (c.args.kept - 1) + size_at cs c.args.k = elim c.else-kept-gt0.branch [
      | else-kept-gt0-via-then-kept-gt0+else-len-size w ↦ λ more. omega (
        arith,
        w.if-len-size.false,
        w.len.ensures,
        c.len-size.ensures,
        c.index-chunks-k.result.ids.ok,
        w.index-chunks-kept.result.ids.ok,
        ap (λ (x : Chunk). vec_len x.ids) c.index-chunks-k.is,
        ap (λ (x : Chunk). vec_len x.ids) w.index-chunks-kept.is,
        here,
        size-read cs (c.args.kept - 1) w.index-chunks-kept.result (omega (arith, c.requires.chunk, c.requires.settled.kept_is, c.requires.settled.passed_is, more)) w.index-chunks-kept.is,
      )
      | else-kept-gt0-via-else-kept-gt0 w ↦ λ more. omega (arith, more, w.if-kept-gt0.false)
    ] in
    (settled-kept cs c.swap.new.self c.args.kept c.args.k c.requires.settled c.requires.chunk some thick c.swap.ensures.after).1
