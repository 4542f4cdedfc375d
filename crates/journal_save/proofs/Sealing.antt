-- How the journal is made, and taken away.
use Rattle.std.proofs.Common.{◌≡◌, inl, inr, ℕ, ◌+◌, ◌≤◌, true, false, List, [], ◌∷◌, ◌++◌, length, take, drop, Option, Some, None, Result, Ok, Err, OnOk, refl, sym, ◌∙◌, ap, subst, append_assoc}
use Rattle.std.proofs.lemmas.List.{flat_map_more, append-nil, map_push}
use Rattle.md5.specs.Md5.{Holds, md5}
use Rattle.md5.specs.declared.Md5.{Md5}
use Rattle.journal_codes.specs.Codes.{Span, number, front, piece, body, journal, Fits, AllFit, AreSmall, IsJournal}
use Rattle.journal_codes.specs.declared.file_facts.FileFacts.{FileFacts}
use Rattle.journal_codes.proofs.Reading.{read_again}
use Rattle.journal_save.specs.Disk.{Range, Identity, range_of, facts_of, laid, laid_all, IsFree, IsSame, Journal, State, Disk, StandsFor, IsDurable, IsRead, Flushes, step, Over, Known, Does, May, Turns, grown_by, with_synced, unlisted, half_unlisted, settled, same_state, created, appended, journal_synced, journal_lost, published, half_published}
use Rattle.journal_save.specs.Saving.{ranges, listed_in, IsSynced, IsTaken, old_of, IsGuarded, IsSettled, IsSettling, WasFree, IsAsItWas, AsItWasOr, IsQuiet, Since, LeavesOnly, IsEither, IsUntouched, fresh_journal, IsMaking, IsOld, IsListing, IsGuarding}
use Rattle.journal_save.proofs.Laid.{same_all, laid_all-push, laid_own}
use Rattle.journal_save.proofs.Moments.{over_then, over_knows, over_map, over_known, known_both, known_map, since_none, since_step, since_more, stand_map, stands_map, guarded_stands}
use Rattle.journal_save.proofs.Steps.{untouched_on, quiet_harmless, harmless_beside, harmless_published, harmless_half_published, harmless_settled}

-- the journal's name is being taken away: a crash leaves it or not
either_unlisted : (s : State) → IsGuarded s → s.loose ≡ [] → StandsFor (IsEither (old_of s) s.file) (record s { may_leave = None ∷ s.may_leave })
either_unlisted s g loose found l same (inl none) = rw none (inr (same_all s.file found (subst (λ (rs : List Range). IsSame rs s.file found) loose same)))
either_unlisted s g loose found l same (inr more) = stand_map (λ f. f ≡ old_of s) (IsEither (old_of s) s.file) (facts_of s) found l (λ f is. inl is) (guarded_stands s g found l same more)

either_guarded : (s : State) → IsGuarded s → StandsFor (IsEither (old_of s) s.file) s
either_guarded s g = stands_map (λ f. f ≡ old_of s) (IsEither (old_of s) s.file) s (λ f is. inl is) (guarded_stands s g)

durable_settled : (s : State) → s.loose ≡ [] → IsDurable s.file (settled (unlisted s))
durable_settled s loose = record {
  file_is = λ found same. same_all s.file found (subst (λ (rs : List Range). IsSame rs s.file found) loose same);
  no_journal = λ j might. elim might [ inl none ↦ none | inr never ↦ absurd never ];
}

stands_settled : (s : State) (old : List ℕ) → s.loose ≡ [] → StandsFor (IsEither old s.file) (settled (unlisted s))
stands_settled s old loose found l same might =
    let durable = durable_settled s loose in
    rw (durable.no_journal l might) (inr (durable.file_is found same))

module _ (a b c : Option Disk) (guarded : Known a (λ d. IsGuarded d.now)) (loose : Known a (λ d. d.now.loose ≡ [])) where
  abbrev IsFirst : (State → State) → Disk → Disk → Type 0
  IsFirst f d e = (IsGuarded d.now × (d.now.loose ≡ [])) × Does f d e

  first : (f : State → State) → Over (Does f) a b → Over (IsFirst f) a b
  first f does = over_map a b (over_knows (λ d. IsGuarded d.now) (λ d e. (d.now.loose ≡ []) × Does f d e) a b guarded (over_knows (λ d. d.now.loose ≡ []) (Does f) a b loose does)) (λ d e h. ((h.0, h.1.0), h.1.1))

  not_removed_one : (d e : Disk) → IsGuarded d.now → d.now.loose ≡ [] → May half_unlisted d e → LeavesOnly (IsEither (old_of d.now) d.now.file) d e
  not_removed_one d e g loose (inl same) = subst (λ (e : Disk). LeavesOnly (IsEither (old_of d.now) d.now.file) d e) (sym same) (record {
    before = since_none (StandsFor (IsEither (old_of d.now) d.now.file)) d;
    now = either_guarded d.now g;
  })
  not_removed_one d e g loose (inr done) = subst (λ (e : Disk). LeavesOnly (IsEither (old_of d.now) d.now.file) d e) (sym done) (record {
    before = since_step (StandsFor (IsEither (old_of d.now) d.now.file)) d d half_unlisted (since_none (StandsFor (IsEither (old_of d.now) d.now.file)) d) (either_guarded d.now g);
    now = either_unlisted d.now g loose;
  })

  pub not_removed : Over (May half_unlisted) a b → Over (λ d e. LeavesOnly (IsEither (old_of d.now) d.now.file) d e) a b
  not_removed may = over_map a b (over_knows (λ d. IsGuarded d.now) (λ d e. (d.now.loose ≡ []) × May half_unlisted d e) a b guarded (over_knows (λ d. d.now.loose ≡ []) (May half_unlisted) a b loose may))
      (λ d e h. not_removed_one d e h.0 h.1.0 h.1.1)

  module _ (does : Over (Does unlisted) a b) where
    pub removed_ok : {T E : Type 0} (r : Result T E) → Turns r settled same_state b c → OnOk r (Over (λ d e. IsDurable d.now.file e.now) a c)
    removed_ok (Ok t) turns = over_then a b c (first unlisted does) turns (λ d e f h is. rw (is, h.1) (durable_settled d.now h.0.1))
    removed_ok (Err t) turns = tt

    removed_before : (d e : Disk) → IsFirst unlisted d e → Since (StandsFor (IsEither (old_of d.now) d.now.file)) d e × StandsFor (IsEither (old_of d.now) d.now.file) e.now
    removed_before d e h = rw h.1 (
      since_step (StandsFor (IsEither (old_of d.now) d.now.file)) d d unlisted (since_none (StandsFor (IsEither (old_of d.now) d.now.file)) d) (either_guarded d.now h.0.0),
      either_unlisted d.now h.0.0 h.0.1,
    )

    pub removed_moments : {T E : Type 0} (r : Result T E) → Turns r settled same_state b c → Over (λ d e. LeavesOnly (IsEither (old_of d.now) d.now.file) d e) a c
    removed_moments (Ok t) turns = over_then a b c (first unlisted does) turns (λ d e f h is.
        let so = removed_before d e h in
        let Q = IsEither (old_of d.now) d.now.file in
        rw is (record {
          before = since_step (StandsFor Q) d e settled so.0 so.1;
          now = subst (λ (x : Disk). StandsFor Q (settled x.now)) (sym h.1) (stands_settled d.now (old_of d.now) h.0.1);
        }))
    removed_moments (Err t) turns = over_then a b c (first unlisted does) turns (λ d e f h is.
        let so = removed_before d e h in
        let Q = IsEither (old_of d.now) d.now.file in
        elim is as (λ _. LeavesOnly Q d f) [
          | inl same ↦ subst (LeavesOnly Q d) (sym same) (record { before = so.0; now = so.1 })
          | inr done ↦ subst (LeavesOnly Q d) (sym done) (record { before = since_step (StandsFor Q) d e same_state so.0 so.1; now = so.1 })
        ])

as_it_was : (d e : Disk) → May same_state d e → IsAsItWas d e
as_it_was d e (inl same) = subst (IsAsItWas d) (sym same) (refl, since_none (λ s. s ≡ d.now) d)
as_it_was d e (inr done) = subst (IsAsItWas d) (sym done) (refl, since_step (λ s. s ≡ d.now) d d same_state (since_none (λ s. s ≡ d.now) d) refl)

pub not_created : (a b : Option Disk) → Over (May same_state) a b → Over (AsItWasOr IsUntouched) a b
not_created a b may = over_map a b may (λ d e one. inl (as_it_was d e one))

pub quiet_now : (a : Option Disk) → Known a (λ d. IsSettled d.now) → Known a WasFree → Known a (λ d. IsQuiet d.now)
quiet_now a settled free = known_map (λ d. IsSettled d.now × WasFree d) (λ d. IsQuiet d.now) a (known_both (λ d. IsSettled d.now) WasFree a settled free) (λ d h. record {
  loose = h.0.loose;
  writes = h.0.writes;
  journal = h.1;
  may_leave = h.0.may_leave ∙ ap (λ (j : Option Journal). j ∷ []) h.1;
})

-- FILE and the folder are synced
pub settles : {T E : Type 0} (r : Result T E) (a b c : Option Disk) → Over Flushes a b → Turns r settled same_state b c → OnOk r (Over IsSettling a c)
settles (Ok t) a b c flush turns = over_then a b c flush turns (λ d e f flush is. rw (is, flush.2) (record {
  settled = record { loose = refl; writes = refl; may_leave = refl };
  journal = refl;
  file = λ none. ap (laid_all d.now.writes) (same_all d.now.file flush.0 (subst (λ (rs : List Range). IsSame rs d.now.file flush.0) none flush.1));
}))
settles (Err t) a b c flush turns = tt

-- bytes are added to the journal that is being made
pub making_start : (d : Disk) → IsQuiet d.now → d.now.beside ≡ fresh_journal → IsMaking [] d d
making_start d q is = record { quiet = q; file = refl; identity = refl; beside = is; before = since_none (StandsFor (λ f. f ≡ d.now.file)) d }

pub making_untouched : (bs : List ℕ) (d e : Disk) → IsMaking bs d e → IsUntouched d e
making_untouched bs d e l = record { harmless = quiet_harmless d.now.file e.now l.file l.quiet; before = l.before }

making_before : (bs : List ℕ) (d e : Disk) (g : State → State) → IsMaking bs d e → Since (StandsFor (λ f. f ≡ d.now.file)) d (step g e)
making_before bs d e g l = since_step (StandsFor (λ f. f ≡ d.now.file)) d e g l.before (making_untouched bs d e l).harmless.stands

pub making_on : (d e : Disk) (bs more : List ℕ) → IsMaking bs d e → IsMaking (bs ++ more) d (step (appended more) e)
making_on d e bs more l = record {
  quiet = record { loose = l.quiet.loose; writes = l.quiet.writes; journal = l.quiet.journal; may_leave = l.quiet.may_leave };
  file = l.file;
  identity = l.identity;
  beside = ap (grown_by more) l.beside;
  before = making_before bs d e (appended more) l;
}

pub making_lost : (d e f : Disk) (bs : List ℕ) → IsMaking bs d e → May journal_lost e f → IsUntouched d f
making_lost d e f bs l one =
    let u = making_untouched bs d e l in elim one as (λ _. IsUntouched d f) [
      | inl same ↦ subst (IsUntouched d) (sym same) u
      | inr done ↦ untouched_on d e f journal_lost u (harmless_beside d.now.file e.now u.harmless (with_synced false e.now.beside)) done
    ]

-- some of the pieces are listed, and others are left
pub record IsListingSome (all left : List Span) (hasher : Md5) (d e : Disk) : Type 0 where
  pub given : List Span
  pub given_is : given ++ left ≡ all
  pub spans : List Span
  pub making : IsMaking (body (facts_of d.now) spans) d e
  pub held : Holds hasher (body (facts_of d.now) spans)
  pub ranges_are : ranges spans ≡ ranges given
  pub old : IsOld spans d
  pub small : AreSmall (facts_of d.now)

pub listing_start : (a b : Option Disk) (facts : FileFacts) (text : List ℕ) (all : List Span) (hasher : Md5) → Known a (λ d. IsQuiet d.now) → Known a (λ d. d.now.beside ≡ fresh_journal) → Known a (λ d. facts ≡ facts_of d.now) → AreSmall facts → text ≡ front facts → Holds hasher text
    → Over (Does (appended text)) a b → Over (IsListingSome all all hasher) a b
listing_start a b facts text all hasher quiet empty is small text_is held does =
    over_map a b (over_knows (λ d. (IsQuiet d.now × (d.now.beside ≡ fresh_journal)) × (facts ≡ facts_of d.now)) (Does (appended text)) a b (known_both (λ d. IsQuiet d.now × (d.now.beside ≡ fresh_journal)) (λ d. facts ≡ facts_of d.now) a (known_both (λ d. IsQuiet d.now) (λ d. d.now.beside ≡ fresh_journal) a quiet empty) is) does) (λ d e h.
    let fronts : text ≡ body (facts_of d.now) [] = text_is ∙ ap front h.0.1 in
    rw h.1 (record {
      given = [];
      given_is = refl;
      spans = [];
      making = subst (λ (l : List ℕ). IsMaking l d (step (appended text) d)) fronts (making_on d d [] text (making_start d h.0.0.0 h.0.0.1));
      held = subst (Holds hasher) fronts held;
      ranges_are = refl;
      old = record { fit = tt; restores = refl };
      small = subst AreSmall h.0.1 small;
    }))

pub listing_begin : (a b : Option Disk) (facts : FileFacts) (text : List ℕ) (all left : List Span) (hasher : Md5) → Known a (λ d. IsQuiet d.now) → Known a (λ d. d.now.beside ≡ fresh_journal) → Known a (λ d. facts ≡ facts_of d.now) → AreSmall facts → text ≡ front facts → Holds hasher text → left ≡ all
    → Over (Does (appended text)) a b → Over (IsListingSome all left hasher) a b
listing_begin a b facts text all left hasher quiet empty is small text_is held whole does =
    subst (λ (l : List Span). Over (IsListingSome all l hasher) a b) (sym whole) (listing_start a b facts text all hasher quiet empty is small text_is held does)

pub body-push : (f : FileFacts) (ss : List Span) (s : Span) → body f (ss ++ s ∷ []) ≡ body f ss ++ piece s
body-push f ss s = sym (flat_map_more piece (front f) ss s)

pub fit_push : (f : FileFacts) (ss : List Span) (s : Span) → AllFit f ss → Fits f s → AllFit f (ss ++ s ∷ [])
fit_push f [] s fit one = (one, tt)
fit_push f (t ∷ ss) s fit one = (fit.0, fit_push f ss s fit.1 one)

-- the bytes that FILE has there are listed
listing_on : (all new : List Span) (hasher : Md5) (d e : Disk) (place : ℕ) (now old head : List ℕ) → IsListingSome all ((place, now) ∷ new) hasher d e → length old ≡ length now → length now ≤ 65536 → IsRead place old e.now → head ≡ number place ++ number (length now)
    → (hasher2 : Md5) → ((m : List ℕ) → Holds hasher m → Holds hasher2 ((m ++ head) ++ old)) → IsListingSome all new hasher2 d (step (appended old) (step (appended head) e))
listing_on all new hasher d e place now old head l long fits read is hasher2 held =
    let got = read l.making.quiet.loose in
    let s : Span = (place, old) in
    let text : (body (facts_of d.now) l.spans ++ head) ++ old ≡ body (facts_of d.now) (l.spans ++ s ∷ []) =
    append_assoc (body (facts_of d.now) l.spans) head old
    ∙ ap (λ (x : List ℕ). body (facts_of d.now) l.spans ++ x) (ap (λ (x : List ℕ). x ++ old) is ∙ append_assoc (number place) (number (length now)) old ∙ ap (λ (n : ℕ). number place ++ (number n ++ old)) (sym long))
    ∙ sym (body-push (facts_of d.now) l.spans s) in record {
      given = l.given ++ (place, now) ∷ [];
      given_is = append_assoc l.given ((place, now) ∷ []) new ∙ l.given_is;
      spans = l.spans ++ s ∷ [];
      making = subst (λ (x : List ℕ). IsMaking x d (step (appended old) (step (appended head) e))) text (making_on d (step (appended head) e) (body (facts_of d.now) l.spans ++ head) old (making_on d e (body (facts_of d.now) l.spans) head l.making));
      held = subst (Holds hasher2) text (held (body (facts_of d.now) l.spans) l.held);
      ranges_are = map_push range_of l.spans s ∙ ap (λ (n : ℕ). ranges l.spans ++ (place, n) ∷ []) long ∙ ap (λ (x : List Range). x ++ (place, length now) ∷ []) l.ranges_are ∙ sym (map_push range_of l.given (place, now));
      old = record {
        fit = fit_push (facts_of d.now) l.spans s l.old.fit (record { inside = subst (λ (x : List ℕ). place + length old ≤ length x) l.making.file got.0; small = rw long fits });
        restores = laid_all-push l.spans s d.now.file ∙ ap (laid place old) l.old.restores ∙ ap (λ (x : List ℕ). laid place x d.now.file) (got.1 ∙ ap (λ (x : List ℕ). take (length old) (drop place x)) l.making.file) ∙ laid_own place (length old) d.now.file;
      };
      small = l.small;
    }

-- one turn of the walk: FILE is read, and what it has there is listed
module _ (a b b2 : Option Disk) (all left new : List Span) (hasher : Md5) (place : ℕ) (now old : List ℕ) (so_far : Over (IsListingSome all left hasher) a b) (is : left ≡ (place, now) ∷ new) (same : b2 ≡ b) where
  still : Over (IsListingSome all ((place, now) ∷ new) hasher) a b2
  still = subst (λ (o : Option Disk). Over (IsListingSome all ((place, now) ∷ new) hasher) a o) (sym same) (subst (λ (l : List Span). Over (IsListingSome all l hasher) a b) is so_far)

  pub listing_more : (c z : Option Disk) (head : List ℕ) (hasher2 : Md5) → length old ≡ length now → length now ≤ 65536 → Known b (λ d. IsRead place old d.now) → head ≡ number place ++ number (length now) → ((m : List ℕ) → Holds hasher m → Holds hasher2 ((m ++ head) ++ old))
      → Over (Does (appended head)) b2 c → Over (Does (appended old)) c z → Over (IsListingSome all new hasher2) a z
  listing_more c z head hasher2 long fits read head_is held one two =
      let read2 : Known b2 (λ d. IsRead place old d.now) = subst (λ (o : Option Disk). Known o (λ d. IsRead place old d.now)) (sym same) read in
      let both : Over (λ d f. (e : Disk) × (IsListingSome all ((place, now) ∷ new) hasher d e × IsRead place old e.now) × Does (appended head) e f) a c =
      over_then a b2 c still (over_knows (λ d. IsRead place old d.now) (Does (appended head)) b2 c read2 one) (λ d e f l h. (e, (l, h.0), h.1)) in
      over_then a c z both two (λ d f g h does.
      subst (λ (x : Disk). IsListingSome all new hasher2 d x) (sym (does ∙ ap (step (appended old)) h.2)) (listing_on all new hasher d h.0 place now old head h.1.0 long fits h.1.1 head_is hasher2 held))

  pub listing_lost : (c : Option Disk) → Over (May journal_lost) b2 c → Over IsUntouched a c
  listing_lost c may = over_then a b2 c still may (λ d e f l one. making_lost d e f (body (facts_of d.now) l.spans) l.making one)

  abbrev IsHalf : Disk → Disk → Type 0
  IsHalf d e = (bs : List ℕ) × IsMaking bs d e

  pub listing_half_lost : (c z : Option Disk) (head : List ℕ) → Over (Does (appended head)) b2 c → Over (May journal_lost) c z → Over IsUntouched a z
  listing_half_lost c z head one may =
      over_then a c z (over_then {T = IsHalf} a b2 c still one (λ d e f l does. (body (facts_of d.now) l.spans ++ head, subst (λ (x : Disk). IsMaking (body (facts_of d.now) l.spans ++ head) d x) (sym does) (making_on d e (body (facts_of d.now) l.spans) head l.making)))) may (λ d e f l one. making_lost d e f l.0 l.1 one)

pub listing_untouched : (a b b2 : Option Disk) (all left : List Span) (hasher : Md5) → Over (IsListingSome all left hasher) a b → b2 ≡ b → Over IsUntouched a b2
listing_untouched a b b2 all left hasher l same = subst (Over IsUntouched a) (sym same) (over_map a b l (λ d e l. making_untouched (body (facts_of d.now) l.spans) d e l.making))

pub front_lost : (a b : Option Disk) → Known a (λ d. IsQuiet d.now) → Known a (λ d. d.now.beside ≡ fresh_journal) → Over (May journal_lost) a b → Over IsUntouched a b
front_lost a b quiet empty may = over_map a b (over_knows (λ d. IsQuiet d.now × (d.now.beside ≡ fresh_journal)) (May journal_lost) a b (known_both (λ d. IsQuiet d.now) (λ d. d.now.beside ≡ fresh_journal) a quiet empty) may) (λ d e h. making_lost d d e [] (making_start d h.0.0 h.0.1) h.1)

-- all of it is listed, and the digest is its end
pub listing_all : {T E : Type 0} (r : Result T E) (a b c : Option Disk) (all left : List Span) (hasher : Md5) (digest : List ℕ) → Over (IsListingSome all left hasher) a b → left ≡ [] → ((m : List ℕ) → Holds hasher m → digest ≡ md5 m) → Turns r (appended digest) journal_lost b c
    → OnOk r (Over (IsListing (ranges all)) a c)
listing_all (Ok t) a b c all left hasher digest so_far none is turns = over_then a b c so_far turns (λ d e f l does. rw does (record {
  spans = l.spans;
  making = subst (λ (x : List ℕ). IsMaking (body (facts_of d.now) l.spans ++ x) d (step (appended digest) e)) (is (body (facts_of d.now) l.spans) l.held) (making_on d e (body (facts_of d.now) l.spans) digest l.making);
  ranges_are = l.ranges_are ∙ ap ranges (sym (append-nil l.given) ∙ ap (λ (x : List Span). l.given ++ x) (sym none) ∙ l.given_is);
  old = l.old;
  small = l.small;
}))
listing_all (Err t) a b c all left hasher digest so_far none is turns = tt

pub listing_end : {T E : Type 0} (r : Result T E) (a b c : Option Disk) (all left : List Span) (hasher : Md5) (digest : List ℕ) → Over (IsListingSome all left hasher) a b → Turns r (appended digest) journal_lost b c → Over IsUntouched a c
listing_end (Ok t) a b c all left hasher digest so_far turns = over_then a b c so_far turns (λ d e f l does. rw does (making_untouched _ d (step (appended digest) e) (making_on d e (body (facts_of d.now) l.spans) digest l.making)))
listing_end (Err t) a b c all left hasher digest so_far turns = over_then a b c so_far turns (λ d e f l one. making_lost d e f (body (facts_of d.now) l.spans) l.making one)

pub made_lost : (a b c : Option Disk) (rs : List Range) → Over (IsListing rs) a b → Over (May journal_lost) b c → Over IsUntouched a c
made_lost a b c rs l may = over_then a b c l may (λ d e f l one. making_lost d e f (journal (facts_of d.now) l.spans) l.making one)

-- the journal is made
pub created_untouched : (a b c : Option Disk) → Known a (λ d. IsQuiet d.now) → Over (Does created) a b → Over IsUntouched b c → Over IsUntouched a c
created_untouched a b c quiet does u = over_then a b c (over_knows (λ d. IsQuiet d.now) (Does created) a b quiet does) u (λ d e f h u.
    subst (λ (e : Disk). IsUntouched e f → IsUntouched d f) (sym h.1) (λ u. record {
      harmless = u.harmless;
      before = since_more (StandsFor (λ f. f ≡ d.now.file)) d (step created d) f (since_step (StandsFor (λ f. f ≡ d.now.file)) d d created (since_none (StandsFor (λ f. f ≡ d.now.file)) d) (quiet_harmless d.now.file d.now refl h.0).stands) u.before;
    }) u)

-- it is all on the disk
pub record IsReady (rs : List Range) (d e : Disk) : Type 0 where
  pub untouched : IsUntouched d e
  pub synced : IsSynced e.now.beside
  pub taken : IsTaken (facts_of e.now) e.now.beside
  pub restores : laid_all (listed_in e.now.beside) d.now.file ≡ d.now.file
  pub ranges_are : ranges (listed_in e.now.beside) ≡ rs

facts_same : (d e : State) → e.file ≡ d.file → e.identity ≡ d.identity → facts_of d ≡ facts_of e
facts_same d e file identity = ap (λ (x : List ℕ). facts_of (record d { file = x })) (sym file) ∙ ap (λ (x : Identity). facts_of (record d { file = e.file; identity = x })) (sym identity)

ready_one : (rs : List Range) (d e : Disk) → IsListing rs d e → IsReady rs d (step journal_synced e)
ready_one rs d e l =
    let u = making_untouched (journal (facts_of d.now) l.spans) d e l.making in
    let read = read_again (facts_of d.now) l.spans l.small l.old.fit in
    let made : with_synced true e.now.beside ≡ Some (record { bytes = journal (facts_of d.now) l.spans; synced = true }) = ap (with_synced true) l.making.beside in
    let lists : listed_in (with_synced true e.now.beside) ≡ l.spans = ap listed_in made ∙ read.1 in
    record {
      untouched = untouched_on d e (step journal_synced e) journal_synced u (harmless_beside d.now.file e.now u.harmless (with_synced true e.now.beside)) refl;
      synced = subst IsSynced (sym made) refl;
      taken = subst (IsTaken (facts_of e.now)) (sym made) (subst (λ (f : FileFacts). IsJournal f (journal (facts_of d.now) l.spans)) (facts_same d.now e.now l.making.file l.making.identity) read.0);
      restores = ap (λ (x : List Span). laid_all x d.now.file) lists ∙ l.old.restores;
      ranges_are = ap ranges lists ∙ l.ranges_are;
    }

pub listing_ready : (a b c : Option Disk) (rs : List Range) → Over (IsListing rs) a b → Over (Does journal_synced) b c → Over (IsReady rs) a c
listing_ready a b c rs l does = over_then a b c l does (λ d e f l is. rw is (ready_one rs d e l))

pub ready_half : (a b c : Option Disk) (rs : List Range) → Over (IsReady rs) a b → Over (May half_published) b c → Over IsUntouched a c
ready_half a b c rs l may = over_then a b c l may (λ d e f l one.
    let u = l.untouched in elim one as (λ _. IsUntouched d f) [
      | inl same ↦ subst (IsUntouched d) (sym same) u
      | inr done ↦ untouched_on d e f half_published u (harmless_half_published d.now.file e.now u.harmless l.synced l.taken l.restores) done
    ])

-- it has its name
abbrev pub IsPublished : List Range → Disk → Disk → Type 0
IsPublished rs d e = IsUntouched d e × (ranges (listed_in e.now.journal) ≡ rs)

pub ready_published : (a b c : Option Disk) (rs : List Range) → Over (IsReady rs) a b → Over (Does published) b c → Over (IsPublished rs) a c
ready_published a b c rs l does = over_then a b c l does (λ d e f l is. (
  untouched_on d e f published l.untouched (harmless_published d.now.file e.now l.untouched.harmless l.synced l.taken l.restores) is,
  subst (λ (x : Disk). ranges (listed_in x.now.journal) ≡ rs) (sym is) l.ranges_are,
))

pub published_untouched : {T E : Type 0} (r : Result T E) (a b c : Option Disk) (rs : List Range) → Over (IsPublished rs) a b → Turns r settled same_state b c → Over IsUntouched a c
published_untouched (Ok t) a b c rs l turns = over_then a b c l turns (λ d e f l is. untouched_on d e f settled l.0 (harmless_settled d.now.file e.now l.0.harmless) is)
published_untouched (Err t) a b c rs l turns = over_then a b c l turns (λ d e f l one. elim one as (λ _. IsUntouched d f) [
  | inl same ↦ subst (IsUntouched d) (sym same) l.0
  | inr done ↦ untouched_on d e f same_state l.0 l.0.harmless done
])

pub published_ok : {T E : Type 0} (r : Result T E) (a b c : Option Disk) (rs : List Range) → Over (IsPublished rs) a b → Turns r settled same_state b c → OnOk r (Over (IsGuarding rs) a c)
published_ok (Ok t) a b c rs l turns = over_then a b c l turns (λ d e f l is. rw is (record {
  guarded = record {
    recoverable = record {
      synced = l.0.harmless.synced;
      may_leave = refl;
      within = λ i free. subst (λ (rs : List Range). IsFree i rs) (sym l.0.harmless.loose) tt;
      writes_within = λ i free. subst (λ (ws : List Span). IsFree i (ranges ws)) (sym l.0.harmless.writes) tt;
    };
    taken = l.0.harmless.taken;
  };
  ranges_are = l.1;
  old = ap (laid_all (listed_in e.now.journal)) l.0.harmless.file_is ∙ l.0.harmless.restores;
}))
published_ok (Err t) a b c rs l turns = tt

pub created_quiet : (a b : Option Disk) → Known a (λ d. IsQuiet d.now) → Over (Does created) a b → Known b (λ d. IsQuiet d.now)
created_quiet a b quiet does = over_known (λ d e. IsQuiet d.now × Does created d e) (λ d. IsQuiet d.now) a b (over_knows (λ d. IsQuiet d.now) (Does created) a b quiet does) (λ d e h.
    rw h.1 (record { loose = h.0.loose; writes = h.0.writes; journal = h.0.journal; may_leave = h.0.may_leave }))

pub created_fresh : (a b : Option Disk) → Over (Does created) a b → Known b (λ d. d.now.beside ≡ fresh_journal)
created_fresh a b does = over_known (Does created) (λ d. d.now.beside ≡ fresh_journal) a b does (λ d e is. rw is refl)

pub created_guarding : (a b c : Option Disk) (rs : List Range) → Over (Does created) a b → Over (IsGuarding rs) b c → Over (IsGuarding rs) a c
created_guarding a b c rs does g = over_then a b c does g (λ d e f is g.
    subst (λ (e : Disk). IsGuarding rs e f → IsGuarding rs d f) (sym is) (λ g. record { guarded = g.guarded; ranges_are = g.ranges_are; old = g.old }) g)
