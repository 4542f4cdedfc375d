use Rattle.std.proofs.Common.{◌≡◌, ◌++◌, List, ℕ, [], length, length-append, append_assoc, ap, sym, refl, ◌∙◌, arith}
use Rattle.std.proofs.lemmas.Result.{err_from_is_err_and}
use Rattle.trace_view.specs.Shown.{bytes_of}
use Rattle.edit_overlay.proofs.SavingLemmas.{comes_on, nothing, refused_at}
use Rattle.edit_overlay.proofs.writing_out.write_view.Goals as goal

pub loop-piece-init : goal.loop-piece-init
loop-piece-init g c = record {
  failures = refl;
  count = rw (c.into_iter-piece-iterator.ensures.into_iter_gives, c.pieces-piece-items.ensures) refl;
  passed = [];
  joined = rw (c.into_iter-piece-iterator.ensures.into_iter_gives, c.pieces-piece-items.ensures) refl;
  comes = nothing _ _;
}

pub loop-piece-preserved : goal.loop-piece-preserved
loop-piece-preserved g c =
    let i = c.loop-piece.invariant in
    let piece : List ℕ = c.in-Some.piece.now in
    let split : c.loop-piece.piece-iterator ≡ piece ++ c.next.new.self = c.in-Some.ensures.steps.0 in
    record {
      failures = c.in_ok-write_part.ensures.failures ∙ i.failures;
      count = omega (arith, i.count, c.in_ok-write_part.ensures.count, ap (λ (s : List ℕ). length s) split, length-append piece c.next.new.self);
      passed = i.passed ++ piece;
      joined = append_assoc i.passed piece c.next.new.self ∙ ap (λ (s : List ℕ). i.passed ++ s) (sym split) ∙ i.joined;
      comes = comes_on _ _ _ _ _ _ i.passed piece i.comes c.in_ok-write_part.ensures.saved;
    }

pub returns-in_err-write_part-clause-saved : goal.returns-in_err-write_part-clause-saved
returns-in_err-write_part-clause-saved g c =
    let i = c.loop-piece.invariant in
    let piece : List ℕ = c.in-Some.piece.now in
    let split : c.loop-piece.piece-iterator ≡ piece ++ c.next.new.self = c.in-Some.ensures.steps.0 in
    let p = err_from_is_err_and c.from_residual.result c.from_residual.ensures.1 in
    let whole : (i.passed ++ piece) ++ c.next.new.self ≡ bytes_of c.args.view.now = append_assoc i.passed piece c.next.new.self ∙ ap (λ (s : List ℕ). i.passed ++ s) (sym split) ∙ i.joined in
    refused_at c.from_residual.result c.in_err-write_part.field-0.0 _ _ _ _ _ (record { written = c.write_part.new.written; waits = [] }) i.passed piece c.next.new.self (bytes_of c.args.view.now) (rw p.2 at p.1) whole i.comes c.in_err-write_part.ensures.saved
