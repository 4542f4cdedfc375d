use Rattle.std.proofs.Common.{arith, ◌≡◌, ◌+◌, ◌-◌, suc, length, take, ap}
use Rattle.trace_seq.specs.Chunks.{ids_of}
use Rattle.trace_seq.proofs.ChunkIdLemmas.{size-step, thick-at, filled-at}
use Rattle.trace_seq.proofs.chunk_list.ChunkList.thicken.Goals as goal

pub returns-then-is_thin-clause-front : goal.returns-then-is_thin-clause-front
returns-then-is_thin-clause-front c = λ some. omega (arith, c.join.ensures.size, thick-at 257 c.args.self.now.chunks.items c.args.spot.chunk c.if-is_thin.ensures.thin.0 c.requires.whole.sound.thick, (filled-at c.join.new.self.chunks.items (c.args.spot.chunk - 1) (omega (arith, c.join.ensures.chunks, c.if-is_thin.ensures.thin.0)) c.join.ensures.whole.sound.filled).0)

pub returns-then-is_thin-clause-back : goal.returns-then-is_thin-clause-back
returns-then-is_thin-clause-back c = λ more. omega (arith, c.join.ensures.size, thick-at 257 c.args.self.now.chunks.items c.args.spot.chunk c.if-is_thin.ensures.thin.0 c.requires.whole.sound.thick, (filled-at c.join.new.self.chunks.items (c.args.spot.chunk + 1) more c.join.ensures.whole.sound.filled).0)

pub returns-then-is_thin-2-clause-place : goal.returns-then-is_thin-2-clause-place
returns-then-is_thin-2-clause-place c =
    let k = c.args.spot.chunk - 1 in
    let cs = c.args.self.now.chunks.items in
    let next : suc k ≡ c.args.spot.chunk = omega arith in
    omega (arith, c.join-then-is_thin-2.ensures.front, c.size-front.ensures.size, size-step cs k (omega (arith, c.requires.chunk)), ap (λ i. length (ids_of (take i cs))) next)

pub returns-then-is_thin-2-clause-front : goal.returns-then-is_thin-2-clause-front
returns-then-is_thin-2-clause-front c = λ some.
    let k = c.args.spot.chunk - 1 in
    omega (arith, c.join-then-is_thin-2.ensures.size, thick-at 257 c.args.self.now.chunks.items k c.if-is_thin-2.ensures.thin.0 c.requires.whole.sound.thick, (filled-at c.join-then-is_thin-2.new.self.chunks.items (k - 1) (omega (arith, c.join-then-is_thin-2.ensures.chunks, c.if-is_thin-2.ensures.thin.0)) c.join-then-is_thin-2.ensures.whole.sound.filled).0)

pub returns-then-is_thin-2-clause-back : goal.returns-then-is_thin-2-clause-back
returns-then-is_thin-2-clause-back c = λ more.
    let k = c.args.spot.chunk - 1 in
    omega (arith, c.join-then-is_thin-2.ensures.size, thick-at 257 c.args.self.now.chunks.items k c.if-is_thin-2.ensures.thin.0 c.requires.whole.sound.thick, (filled-at c.join-then-is_thin-2.new.self.chunks.items (k + 1) more c.join-then-is_thin-2.ensures.whole.sound.filled).0)
