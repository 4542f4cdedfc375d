use Rattle.std.proofs.Common.{[], ℕ, List, length, refl, ap, ◌∙◌, arith}
use Rattle.std.proofs.lemmas.Result.{err_from_is_err_and}
use Rattle.edit_overlay.specs.Saving.{progress}
use Rattle.trace_store.proofs.FallLemmas.{IsReread-refl, IsReread-trans}
use Rattle.edit_overlay.proofs.SavingLemmas.{comes_on, comes_over, nothing, read_refused, refused_at, stops_over, sure_then}
use Rattle.edit_overlay.proofs.StandingLemmas.{lends_still}
use Rattle.edit_overlay.proofs.writing_out.flush.Goals as goal

pub pieces-init : goal.pieces-init
pieces-init g c = record {
  same = IsReread-refl c.args.store.now;
  failures = refl;
  to = refl;
  count = refl;
  comes = λ _. nothing _ _;
}

pub write_piece-requires-clause-inside : goal.write_piece-requires-clause-inside
write_piece-requires-clause-inside g c = omega (arith, c.requires.inside, c.pieces.invariant.to, ap (λ (x : List ℕ). length x) c.pieces.invariant.same.loaded.bytes)

pub write_piece-requires-clause-lends : goal.write_piece-requires-clause-lends
write_piece-requires-clause-lends g c = lends_still c.args.store.now.loaded c.pieces.store.loaded c.pieces.invariant.same.loaded c.requires.lends

pub pieces-preserved : goal.pieces-preserved
pieces-preserved g c =
    let s = c.args.store.now in
    let file : List ℕ = s.loaded.bytes in
    let i = c.pieces.invariant in
    let e = c.in_ok-write_piece.ensures in
    record {
      same = IsReread-trans s c.pieces.store c.write_piece.new.store i.same e.same;
      failures = e.failures ∙ i.failures;
      to = e.to ∙ i.to;
      count = e.count ∙ i.count;
      comes = λ sure. comes_on _ _ _ (progress file c.args.waiting.now) (progress file c.pieces.waiting) (progress file c.write_piece.new.waiting) [] [] (i.comes (sure_then c.pieces.store c.write_piece.new.store e.same sure))
          (comes_over _ _ file c.pieces.store.loaded.bytes c.pieces.waiting c.write_piece.new.waiting [] [] i.same.loaded.bytes refl (e.saved sure));
    }

pub returns-in_err-write_piece-clause-same : goal.returns-in_err-write_piece-clause-same
returns-in_err-write_piece-clause-same g c = IsReread-trans c.args.store.now c.pieces.store c.write_piece.new.store c.pieces.invariant.same c.in_err-write_piece.ensures.same

pub returns-in_err-write_piece-clause-saved : goal.returns-in_err-write_piece-clause-saved
returns-in_err-write_piece-clause-saved g c =
    let file : List ℕ = c.args.store.now.loaded.bytes in
    let i = c.pieces.invariant in
    let e = c.in_err-write_piece.ensures in
    let p = err_from_is_err_and c.from_residual.result c.from_residual.ensures.1 in
    λ sure.
    refused_at c.from_residual.result c.in_err-write_piece.field-0.0 _ _ _ (progress file c.args.waiting.now) (progress file c.pieces.waiting) (progress file c.write_piece.new.waiting) [] [] [] [] (rw p.2 at p.1) refl (i.comes (sure_then c.pieces.store c.write_piece.new.store e.same sure))
    (stops_over _ _ file c.pieces.store.loaded.bytes c.pieces.waiting [] [] c.in_err-write_piece.field-0.0 i.same.loaded.bytes refl (e.saved sure))

pub returns-in_err-write_piece-clause-read : goal.returns-in_err-write_piece-clause-read
returns-in_err-write_piece-clause-read g c =
    let p = err_from_is_err_and c.from_residual.result c.from_residual.ensures.1 in
    read_refused c.from_residual.result c.in_err-write_piece.field-0.0 c.args.store.now.loaded c.pieces.store.loaded c.write_piece.new.store.loaded (rw p.2 at p.1) c.pieces.invariant.same.loaded c.in_err-write_piece.ensures.read
