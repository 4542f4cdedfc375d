use Rattle.std.proofs.Common.{arith, ◌≡◌, ◌+◌, ◌-◌, suc, length, take, ap, ◌∙◌}
use Rattle.std.specs.List.{insert}
use Rattle.std.proofs.lemmas.List.{take_all}
use Rattle.trace_seq.specs.Chunks.{ids_of}
use Rattle.trace_seq.proofs.ChunkIdLemmas.{size-step}
use Rattle.trace_seq.proofs.chunk_list.ChunkList.append.Goals as goal

pub returns-clause-ids : goal.returns-clause-ids
returns-clause-ids c =
    let cs = c.args.self.now.chunks.items in
    let last : suc (c.len-chunks.result - 1) ≡ length cs = omega arith in
    let all = ap (λ i. length (ids_of (take i cs))) last ∙ ap (λ l. length (ids_of l)) (take_all (length cs) cs (omega arith)) in
    let whole : length (ids_of (take (c.len-chunks.result - 1) cs)) + c.size-size.result ≡ length (ids_of cs) = omega (arith, all, c.size-size.ensures.size, size-step cs (c.len-chunks.result - 1) (omega arith)) in
    c.put.ensures.ids ∙ ap (λ n. insert (ids_of cs) n c.args.id) whole
