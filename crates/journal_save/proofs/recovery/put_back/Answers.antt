use Rattle.std.proofs.Common.{rules, arith, ◌+◌, ◌-◌, take}
use Rattle.std.proofs.lemmas.Result.{err_from_is_err_and}
use Rattle.journal_save.specs.Disk.{Over}
use Rattle.journal_save.specs.Saving.{IsNoRefusal}
use Rattle.journal_save.proofs.Walks.{if_err}
use Rattle.journal_save.proofs.Pieces.{back_init, back_more, back_failed, not_refused, back_count, back_writes}
use Rattle.journal_save.proofs.recovery.put_back.Goals as goal

pub pieces-init : goal.pieces-init
pieces-init g c = record {
  room = search rules;
  cause = search rules;
  numbers = search rules;
  within = omega arith;
  back = back_init _ c.args.file c.args.size c.requires.long c.requires.guarded;
}

pub returns-in_err-listed-clause-refused : goal.returns-in_err-listed-clause-refused
returns-in_err-listed-clause-refused g c =
    let p = err_from_is_err_and c.from_residual.result c.from_residual.ensures.1 in
    if_err (λ error. Over (λ d e. IsNoRefusal error) (g.D.Disk.disk c.args.disk.now) (g.D.Disk.disk c.next_listed.new.disk)) c.from_residual.result c.in_err-listed.field-0.0 (rw p.2 at p.1)
    (not_refused _ _ _ (g.D.Disk.disk c.args.disk.now) c.args.file c.pieces.from (c.args.size - 16) c.pieces.back c.in_err-listed.ensures.same c.pieces.invariant.back c.in_err-listed.field-0.0 c.pieces-test.true (c.in_err-listed.ensures.refused))

pub returns-in_err-write_at-clause-writing : goal.returns-in_err-write_at-clause-writing
returns-in_err-write_at-clause-writing g c =
    back_failed _ _ _ _ c.args.file c.pieces.from (c.args.size - 16) c.pieces.back c.in_ok-listed.ensures.same c.pieces.invariant.back c.next_listed.new.room c.in_ok-listed.listed c.in_ok-listed.ensures.found (c.in_ok-listed.listed.head.place, take c.in_ok-listed.listed.head.size c.next_listed.new.room) (search rules) c.in_err-write_at.ensures.turns

pub pieces-preserved : goal.pieces-preserved
pieces-preserved g c = record {
  room = search rules;
  cause = search rules;
  numbers = omega arith;
  within = omega (arith, c.in_ok-listed.ensures.small.1);
  back = back_more _ _ _ _ c.args.file c.pieces.from (c.args.size - 16) c.pieces.back c.in_ok-listed.ensures.same c.pieces.invariant.back c.next_listed.new.room c.in_ok-listed.listed c.in_ok-listed.ensures.found (c.pieces.from + (16 + c.in_ok-listed.listed.head.size)) _ (c.in_ok-listed.listed.head.place, take c.in_ok-listed.listed.head.size c.next_listed.new.room) (search rules) (search rules) (search rules) (search rules) (search rules) c.in_ok-write_at.ensures.turns;
}

pub returns-clause-count : goal.returns-clause-count
returns-clause-count g c = back_count _ _ c.args.file c.pieces.from (c.args.size - 16) c.pieces.back (omega arith) c.pieces.invariant.back

pub returns-clause-ok : goal.returns-clause-ok
returns-clause-ok g c = back_writes _ _ c.args.file c.pieces.from (c.args.size - 16) c.pieces.back (omega arith) c.pieces.invariant.back
