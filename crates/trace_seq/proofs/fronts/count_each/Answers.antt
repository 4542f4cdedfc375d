use Rattle.std.proofs.Common.{rules, arith, ◌+◌, ◌*◌, ◌≤◌, length, ap, sym, ◌∙◌, inl, inr}
use Rattle.std.proofs.lemmas.Bool.{cases_eq}
use Rattle.trace_seq.specs.Chunks.{ids_of}
use Rattle.trace_seq.specs.Fronts.{front}
use Rattle.trace_seq.proofs.ChunkIdLemmas.{size-read}
use Rattle.trace_seq.proofs.FrontLemmas.{front-le, front-more}
use Rattle.trace_seq.proofs.fronts.count_each.Goals as goal

pub overflow_add-ids : goal.overflow_add-ids
overflow_add-ids c =
    let cs = c.args.chunks.now in
    let within : c.loop-k.ids + c.len-ids.result ≤ length (ids_of cs) = omega (arith, c.len-ids.ensures, c.index-chunks-k.result.ids.ok, c.loop-k.invariant.ids, size-read cs c.loop-k.k c.index-chunks-k.result c.loop-k-test.true c.index-chunks-k.is, front-more cs c.loop-k.k c.loop-k-test.true, front-le cs (c.loop-k.k + 1)) in
    search rules

pub loop-k-preserved : goal.loop-k-preserved
loop-k-preserved c =
    let cs = c.args.chunks.now in
    record {
      ids = omega (arith, c.len-ids.ensures, c.index-chunks-k.result.ids.ok, c.loop-k.invariant.ids, size-read cs c.loop-k.k c.index-chunks-k.result c.loop-k-test.true c.index-chunks-k.is, front-more cs c.loop-k.k c.loop-k-test.true);
      same_length = c.note.ensures.length ∙ c.loop-k.invariant.same_length;
      noted = λ j within before_end. elim (cases_eq (16 * j) c.loop-k.k) [
        | inl e ↦ c.note.ensures.noted j (omega (arith, within, c.note.ensures.length)) e ∙ c.loop-k.invariant.ids ∙ ap (front cs) (sym e)
        | inr ne ↦ c.note.ensures.others j (omega (arith, before_end, ne)) ∙ c.loop-k.invariant.noted j (omega (arith, within, c.note.ensures.length)) (omega (arith, before_end, ne))
      ];
    }
