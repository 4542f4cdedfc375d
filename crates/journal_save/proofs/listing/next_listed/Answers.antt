use Rattle.std.proofs.Common.{rules, arith, refl}
use Rattle.journal_save.proofs.Walks.{unlisted, listed_at, shows_again}
use Rattle.journal_save.proofs.listing.next_listed.Goals as goal

pub returns-then-not-is_inside-clause-refused : goal.returns-then-not-is_inside-clause-refused
returns-then-not-is_inside-clause-refused g c = λ bytes shows le. (
  refl,
  unlisted c.args.file c.args.from c.args.end bytes c.read_journal.new.buf c.head_in-head.result (search rules) c.head_in-head.ensures.place c.head_in-head.ensures.size c.is_inside.result (search rules) (c.in_ok-read_journal.ensures.bytes bytes shows) c.is_inside.ensures c.if-not-is_inside.true le,
)

pub returns-clause-found : goal.returns-clause-found
returns-clause-found g c = λ bytes shows.
    let inside = c.is_inside.ensures.0 c.if-not-is_inside.false in
    listed_at c.args.file c.args.from c.args.end bytes c.read_journal.new.buf c.head_in-head.result (search rules) c.head_in-head.ensures.place c.head_in-head.ensures.size c.read_journal-2.new.buf _ (omega (arith, inside.0)) inside.1 inside.2 (c.in_ok-read_journal.ensures.bytes bytes shows) (search rules) (c.in_ok-read_journal-2.ensures.bytes bytes (shows_again _ _ bytes c.in_ok-read_journal.ensures.same shows))
