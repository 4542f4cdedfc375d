use Rattle.std.proofs.Common.{rules, arith, ◌+◌, ◌≤◌, List, ℕ, length, take, drop}
use Rattle.std.proofs.lemmas.Result.{err_from_is_err_and}
use Rattle.journal_save.specs.Disk.{Shows}
use Rattle.journal_save.specs.Walking.{AreUnlisted}
use Rattle.journal_save.proofs.Walks.{shows_again, if_err, walked_on, walked_end, walked_lost}
use Rattle.journal_save.proofs.listing.check_pieces.Goals as goal

pub returns-in_err-listed-clause-refused : goal.returns-in_err-listed-clause-refused
returns-in_err-listed-clause-refused g c =
    let p = err_from_is_err_and c.from_residual.result c.from_residual.ensures.1 in
    if_err (λ error. (bytes : List ℕ) → Shows (g.D.Disk.disk c.args.disk.now) bytes → c.args.end ≤ length bytes → AreUnlisted error c.args.file (drop 40 (take c.args.end bytes))) c.from_residual.result c.in_err-listed.field-0.0 (rw p.2 at p.1) (λ bytes shows le.
    walked_lost c.in_err-listed.field-0.0 c.args.file c.pieces.from c.args.end bytes c.args.hasher.now c.pieces.hasher (omega arith) le (c.pieces.invariant.walked bytes shows le) (c.in_err-listed.ensures.refused bytes (shows_again _ _ bytes c.pieces.invariant.same shows) le))

pub pieces-preserved : goal.pieces-preserved
pieces-preserved g c = record {
  same = search rules;
  room = search rules;
  cause = search rules;
  walked = λ bytes shows le. walked_on c.args.file c.pieces.from (c.pieces.from + (16 + c.in_ok-listed.listed.head.size)) c.args.end bytes c.next_listed.new.room c.in_ok-listed.listed c.args.hasher.now c.pieces.hasher c.update-in-pieces.new.self (c.pieces.invariant.walked bytes shows le)
      (c.in_ok-listed.ensures.found bytes (shows_again _ _ bytes c.pieces.invariant.same shows)) (search rules) (λ m h. c.update-in-pieces.ensures _ (c.update.ensures m h));
}

pub returns-clause-taken : goal.returns-clause-taken
returns-clause-taken g c = λ bytes shows le. walked_end c.args.file c.pieces.from c.args.end bytes c.args.hasher.now c.pieces.hasher (omega arith) (c.pieces.invariant.walked bytes shows le)
