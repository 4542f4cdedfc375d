use Rattle.std.proofs.Common.{ap, sym, ◌∙◌}
use Rattle.std.specs.List.{insert, remove}
use Rattle.std.proofs.lemmas.Option.{get_or_from_slice_get}
use Rattle.trace_seq.specs.Chunks.{ids_of}
use Rattle.trace_seq.proofs.counted_chunks.CountedChunks.move_to.Goals as goal

pub returns-clause-ids : goal.returns-clause-ids
returns-clause-ids c =
    let ids = ids_of c.args.self.now.list.chunks.items in
    let is = get_or_from_slice_get ids c.args.from c.get-id.result 0 c.get-id.ensures.id in
    c.insert.ensures.ids
    ∙ ap (λ l. insert l c.args.to c.get-id.result) c.remove.ensures.ids
    ∙ ap (insert (remove ids c.args.from) c.args.to) (sym is)
