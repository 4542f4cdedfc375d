-- A repair of a file of three bytes, step by step.
use Rattle.std.specs.Prelude.{◌≡◌, true, [], ◌∷◌, Option, Some, None, refl}
use Rattle.journal_save.specs.Disk.{laid, laid_all, Journal, State, created, appended, journal_synced, published, settled, wrote, unlisted}

-- two bytes laid over a file from place 1 on; what would lie behind its end is left out
pub laid-two : laid 1 (7 ∷ 9 ∷ []) (1 ∷ 2 ∷ 3 ∷ []) ≡ 1 ∷ 7 ∷ 9 ∷ []
laid-two = refl

pub laid-end : laid 2 (7 ∷ 9 ∷ []) (1 ∷ 2 ∷ 3 ∷ []) ≡ 1 ∷ 2 ∷ 7 ∷ []
laid-end = refl

-- the old byte put back
pub laid_all-back : laid_all ((1, 7 ∷ []) ∷ (1, 2 ∷ []) ∷ []) (1 ∷ 2 ∷ 3 ∷ []) ≡ 1 ∷ 2 ∷ 3 ∷ []
laid_all-back = refl

-- a file with no journal
abbrev pub at_rest : State
at_rest = record { identity = (11, 7); file = 1 ∷ 2 ∷ 3 ∷ []; loose = []; writes = []; beside = None; journal = None; may_leave = None ∷ [] }

abbrev pub note : Option Journal
note = Some (record { bytes = 5 ∷ []; synced = true })

-- a journal that got its name, and then: a crash leaves it or none until the folder is synced
pub published-may_leave : (published (journal_synced (appended (5 ∷ []) (created at_rest)))).may_leave ≡ note ∷ None ∷ []
published-may_leave = refl

abbrev pub under_journal : State
under_journal = settled (published (journal_synced (appended (5 ∷ []) (created at_rest))))

pub settled-may_leave : under_journal.may_leave ≡ note ∷ []
settled-may_leave = refl

-- a write: a crash may leave any byte at place 1
pub wrote-loose : (wrote (1, 9 ∷ []) under_journal).loose ≡ (1, 1) ∷ []
wrote-loose = refl

-- the journal removed: a crash leaves it or none until the folder is synced again
pub unlisted-may_leave : (unlisted under_journal).may_leave ≡ None ∷ note ∷ []
unlisted-may_leave = refl
