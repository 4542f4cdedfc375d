use Rattle.std.proofs.Common.{rules, arith, ◌≡◌, ◌-◌, List, ℕ, length}
use Rattle.std.proofs.lemmas.Result.{err_from_is_err_and}
use Rattle.journal_save.specs.Disk.{Shows}
use Rattle.journal_save.specs.Walking.{IsRefusal}
use Rattle.journal_save.proofs.Walks.{shows_again, if_err, front_lacks, pieces_lack, digest_lacks, is_journal, texts_same, texts_differ}
use Rattle.journal_save.proofs.listing.check.Goals as goal

pub returns-in-Some-clause-refused : goal.returns-in-Some-clause-refused
returns-in-Some-clause-refused g c = λ bytes shows is.
    front_lacks c.args.facts c.args.size (c.args.size - 16) bytes c.read_journal.new.buf is (omega arith) (omega arith) (search rules) (c.in_ok-read_journal.ensures.bytes bytes shows) c.in-Some.fault c.in-Some.ensures.some

pub returns-in_err-check_pieces-clause-refused : goal.returns-in_err-check_pieces-clause-refused
returns-in_err-check_pieces-clause-refused g c =
    let p = err_from_is_err_and c.from_residual-in_err-check_pieces.result c.from_residual-in_err-check_pieces.ensures.1 in
    if_err (λ error. (bytes : List ℕ) → Shows (g.D.Disk.disk c.args.disk.now) bytes → c.args.size ≡ length bytes → IsRefusal error c.args.facts bytes) c.from_residual-in_err-check_pieces.result c.in_err-check_pieces.field-0.0 (rw p.2 at p.1) (λ bytes shows is.
    pieces_lack c.args.facts c.args.size (c.args.size - 16) bytes c.read_journal.new.buf is (omega arith) (omega arith) (search rules) (c.in_ok-read_journal.ensures.bytes bytes shows) c.in_err-check_pieces.field-0.0 c.in_default.ensures.none
    (c.in_err-check_pieces.ensures.refused bytes (shows_again _ _ bytes c.in_ok-read_journal.ensures.same shows) (omega (arith, is))))

pub returns-then-ne-clause-refused : goal.returns-then-ne-clause-refused
returns-then-ne-clause-refused g c = λ bytes shows is.
    digest_lacks c.args.facts c.args.size (c.args.size - 16) bytes c.read_journal.new.buf is (omega arith) (omega arith) (search rules) (c.in_ok-read_journal.ensures.bytes bytes shows)
    c.read_journal-2.new.buf c.finalize.result c.new-hasher.result c.update.new.self c.check_pieces.new.hasher (search rules)
    (c.in_ok-read_journal-2.ensures.bytes bytes (shows_again _ _ bytes c.in_ok-check_pieces.ensures.same (shows_again _ _ bytes c.in_ok-read_journal.ensures.same shows))) c.new-hasher.ensures c.update.ensures (c.in_ok-check_pieces.ensures.taken bytes (shows_again _ _ bytes c.in_ok-read_journal.ensures.same shows) (omega (arith, is))) c.finalize.ensures c.in_default.ensures.none (texts_differ c.read_journal-2.new.buf c.finalize.result c.ne.result c.ne.ensures c.if-ne.true)

pub returns-clause-taken : goal.returns-clause-taken
returns-clause-taken g c = λ bytes shows is.
    is_journal c.args.facts c.args.size (c.args.size - 16) bytes c.read_journal.new.buf is (omega arith) (omega arith) (search rules) (c.in_ok-read_journal.ensures.bytes bytes shows)
    c.read_journal-2.new.buf c.finalize.result c.new-hasher.result c.update.new.self c.check_pieces.new.hasher (search rules)
    (c.in_ok-read_journal-2.ensures.bytes bytes (shows_again _ _ bytes c.in_ok-check_pieces.ensures.same (shows_again _ _ bytes c.in_ok-read_journal.ensures.same shows))) c.new-hasher.ensures c.update.ensures (c.in_ok-check_pieces.ensures.taken bytes (shows_again _ _ bytes c.in_ok-read_journal.ensures.same shows) (omega (arith, is))) c.finalize.ensures c.in_default.ensures.none (texts_same c.read_journal-2.new.buf c.finalize.result c.ne.result c.ne.ensures c.if-ne.false)
