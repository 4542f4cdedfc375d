use Rattle.std.proofs.Common.{◌≡◌, ◌≢◌, ◌∙◌, ap, arith, ℕ, take, length}
use Rattle.std.proofs.Math.Seq.{take-length}
use Rattle.std.proofs.lemmas.Result.{IfErr-weaker}
use Rattle.safe_save.proofs.CauseLemmas.{behind, caused, never}
use Rattle.safe_save.proofs.buffered.end_save.Goals as goal

pub returns-then-write_out-len-clause-cause : goal.returns-then-write_out-len-clause-cause
returns-then-write_out-len-clause-cause g c =
    IfErr-weaker c.finish.result.1 _ _ (λ why is. behind c.args.writer.inner _ _ _ _ _ _ c.into_parts-save.ensures.inner c.write_out.ensures.bytes is) c.finish.ensures.cause

pub returns-then-write_out-len-clause-any_moment : goal.returns-then-write_out-len-clause-any_moment
returns-then-write_out-len-clause-any_moment g c =
    let all : c.write_out.result ≡ length c.as_slice.result.now = grind (arith, c.if-write_out-len.true, c.len.ensures, c.as_slice.ensures.len) in
    never c.args.writer.inner _ _ _ _ _ c.args.mode c.into_parts-save.ensures.inner
    (ap (λ (n : ℕ). take n c.as_slice.result.now) all ∙ take-length c.as_slice.result.now ∙ c.as_slice.ensures.value ∙ c.into_parts-save.ensures.buffer)
    c.write_out.ensures.bytes c.finish.ensures.any_moment

pub returns-clause-cause : goal.returns-clause-cause
returns-clause-cause g c =
    let some : c.write_out.result ≢ length c.as_slice.result.now = λ all. c.if-write_out-len.false (grind (arith, all, c.len.ensures, c.as_slice.ensures.len)) in
    IfErr-weaker c.give_up.result.1 _ _ (λ why is. caused c.args.writer.inner _ _ _ _ _ why c.into_parts-save.ensures.inner c.write_out.ensures.bytes (c.write_out.ensures.cause some) is) c.give_up.ensures.refused
