-- How a recovery puts the old bytes back.
use Rattle.std.proofs.Common.{◌≡◌, inl, inr, ℕ, true, List, [], ◌++◌, length, Option, Some, None, refl, sym, ◌∙◌, ap, subst, arith}
use Rattle.journal_codes.specs.Codes.{IsJournal}
use Rattle.journal_codes.specs.declared.file_facts.FileFacts.{FileFacts}
use Rattle.journal_codes.specs.declared.journal_fault.JournalFault.{JournalFault}
use Rattle.journal_save.specs.Disk.{facts_of, laid_all, IsFree, Journal, State, Disk, StandsFor, MightLeave, IsFound, IsLong, Shows, IsDurable, Over, Known, Flushes, May, sync_lost}
use Rattle.journal_save.specs.Saving.{ranges, listed_in, IsSynced, IsTaken, IsNotTaken, old_of, IsRecoverable, IsGuarded, LeavesOnly, IsEither, IsWriting, IsOver, IsThere, Has, IsRecovered, IsNotRecovered, IsNoRefusal, IsCount}
use Rattle.journal_save.specs.Walking.{IsRefusal}
use Rattle.journal_save.specs.declared.errors.PutBack.{PutBack}
use Rattle.journal_save.specs.declared.errors.RecoverError.{RecoverError}
use Rattle.journal_save.specs.declared.errors.RecoverError.TheVariants.{Refused, Failed}
use Rattle.journal_save.proofs.Laid.{same_all}
use Rattle.journal_save.proofs.Moments.{over_then, over_knows, over_map, over_same, over_both, over_known, known_both, since_none, since_more, since_map, stands_map, guarded_stands, writing_stands}
use Rattle.journal_save.proofs.Steps.{back_over, sync_lost_over}

some_is : (x y : ℕ) (o : Option ℕ) → o ≡ Some x → o ≡ Some y → x ≡ y
some_is x y None p q = grind (arith, p, q)
some_is x y (Some z) p q = grind (arith, p, q)

none_some : (x : ℕ) (o : Option ℕ) → o ≡ None → o ≡ Some x → ⊥
none_some x None p q = grind (arith, p, q)
none_some x (Some z) p q = grind (arith, p, q)

-- the journal whose length was read
long_has : (size : ℕ) (j : Option Journal) → IsLong (Some size) j → IsSynced j → Has size j
long_has size None long synced = none_some size (Some size) long refl
long_has size (Some j) long synced = some_is size (length j.bytes) (Some size) refl (long synced)

none_is : (j : Option Journal) → IsLong None j → IsSynced j → j ≡ None
none_is None long synced = refl
none_is (Some j) long synced = absurd (none_some (length j.bytes) None refl (long synced))

shown : (j : Journal) → j.synced ≡ true → (let s : Option Journal = Some j in s ≡ Some (record { bytes = j.bytes; synced = true }))
shown j synced = ap (λ b. Some (record { bytes = j.bytes; synced = b })) synced

taken_one : (f : FileFacts) (size : ℕ) (s : State) (j : Option Journal) → s.journal ≡ j → Has size j → IsSynced j → ((bytes : List ℕ) → s.journal ≡ Some (record { bytes = bytes; synced = true }) → size ≡ length bytes → IsJournal f bytes) → IsTaken f j
taken_one f size s None is has synced taken = absurd has
taken_one f size s (Some j) is has synced taken = taken j.bytes (is ∙ shown j synced) has

refused_one : (f : FileFacts) (size : ℕ) (s : State) (j : Option Journal) (fault : JournalFault) → s.journal ≡ j → Has size j → IsSynced j → ((bytes : List ℕ) → s.journal ≡ Some (record { bytes = bytes; synced = true }) → size ≡ length bytes → IsRefusal (Refused fault) f bytes) → IsNotTaken f j fault
refused_one f size s None fault is has synced refused = has
refused_one f size s (Some j) fault is has synced refused = refused j.bytes (is ∙ shown j synced) has

checked_one : (facts : FileFacts) (size : ℕ) (d : Disk) → IsRecoverable d.now → IsLong (Some size) d.now.journal → facts ≡ facts_of d.now → ((bytes : List ℕ) → d.now.journal ≡ Some (record { bytes = bytes; synced = true }) → size ≡ length bytes → IsJournal facts bytes) → IsGuarded d.now × IsThere facts.length size d.now
checked_one facts size d r long is taken =
    let has = long_has size d.now.journal long r.synced in (
      record { recoverable = r; taken = subst (λ (f : FileFacts). IsTaken f d.now.journal) is (taken_one facts size d.now d.now.journal refl has r.synced taken) },
      (ap (λ (f : FileFacts). f.length) is, has),
    )

pub checked : (a : Option Disk) (facts : FileFacts) (size : ℕ) → Known a (λ d. IsRecoverable d.now) → Known a (λ d. IsLong (Some size) d.now.journal) → Known a (λ d. facts ≡ facts_of d.now) → ((bytes : List ℕ) → Shows a bytes → size ≡ length bytes → IsJournal facts bytes) → Known a (λ d. IsGuarded d.now × IsThere facts.length size d.now)
checked None facts size r long is taken = tt
checked (Some d) facts size r long is taken = checked_one facts size d r long is taken

pub not_checked : (a b : Option Disk) (facts : FileFacts) (size : ℕ) (error : RecoverError) → Known a (λ d. IsRecoverable d.now) → Known a (λ d. IsLong (Some size) d.now.journal) → Known a (λ d. facts ≡ facts_of d.now) → ((bytes : List ℕ) → Shows a bytes → size ≡ length bytes → IsRefusal error facts bytes) → b ≡ a → Over (IsNotRecovered error) a b
not_checked a b facts size (Failed error) r long is refused same = over_same (λ d. IsRecoverable d.now) (IsNotRecovered (Failed error)) a b r same (λ d r. tt)
not_checked None b facts size (Refused fault) r long is refused same = subst (Over (IsNotRecovered (Refused fault)) None) (sym same) tt
not_checked (Some d) b facts size (Refused fault) r long is refused same = subst (Over (IsNotRecovered (Refused fault)) (Some d)) (sym same) (
  refl,
  subst (λ (f : FileFacts). IsNotTaken f d.now.journal fault) is (refused_one facts size d.now d.now.journal fault refl (long_has size d.now.journal long r.synced) r.synced refused),
)

-- what a recovery says of the moments, where nothing was done
abbrev pub IsMoments : Disk → Disk → Type 0
IsMoments d e = IsTaken (facts_of d.now) d.now.journal → LeavesOnly (λ f. f ≡ old_of d.now) d e

pub unchanged : (a b : Option Disk) → Known a (λ d. IsRecoverable d.now) → b ≡ a → Over IsMoments a b
unchanged a b r same = over_same (λ d. IsRecoverable d.now) IsMoments a b r same (λ d r taken. record {
  before = since_none (StandsFor (λ f. f ≡ old_of d.now)) d;
  now = guarded_stands d.now (record { recoverable = r; taken = taken });
})

pub from_same : (R : Disk → Disk → Type 0) (a b z : Option Disk) → b ≡ a → Over R b z → Over R a z
from_same R a b z same r = subst (λ (o : Option Disk). Over R o z) same r

pub writing_moments : (a b : Option Disk) → Over IsWriting a b → Over IsMoments a b
writing_moments a b w = over_map a b w (λ d e w taken. record { before = w.before; now = writing_stands d e w })

pub writing_guarded : (a b : Option Disk) → Over IsWriting a b → Known b (λ d. IsGuarded d.now)
writing_guarded a b w = over_known IsWriting (λ d. IsGuarded d.now) a b w (λ d e w. w.guarded)

pub no_refusal : (a b : Option Disk) (error : RecoverError) → Over (λ d e. IsNoRefusal error) a b → Over (IsNotRecovered error) a b
no_refusal a b (Refused fault) none = over_map a b none (λ d e h. absurd h)
no_refusal a b (Failed error) none = over_map a b none (λ d e h. tt)

pub failed_one : (a b : Option Disk) (R : Disk → Disk → Type 0) (error : RecoverError) → Over R a b → IsNoRefusal error → Over (IsNotRecovered error) a b
failed_one a b R (Refused fault) r none = absurd none
failed_one a b R (Failed error) r none = over_map a b r (λ d e h. tt)

none_durable : (s : State) → IsRecoverable s → s.journal ≡ None → IsDurable (old_of s) s
none_durable s g none =
    let old : old_of s ≡ s.file = ap (λ (j : Option Journal). laid_all (listed_in j) s.file) none in record {
      file_is = λ found same. same_all s.file found (record { same_length = same.same_length; each = λ i free. same.each i (g.within i (subst (λ (j : Option Journal). IsFree i (ranges (listed_in j))) (sym none) tt)) }) ∙ sym old;
      no_journal = λ l might. elim (subst (λ js. MightLeave js l) g.may_leave might) as (λ _. l ≡ None) [
        | inl one ↦ subst (IsFound l) none one
        | inr never ↦ absurd never
      ];
    }

pub nothing_there : (a b : Option Disk) → Known a (λ d. IsRecoverable d.now) → Known a (λ d. IsLong None d.now.journal) → b ≡ a → Over (IsRecovered None) a b
nothing_there a b r long same = over_same (λ d. IsRecoverable d.now × IsLong None d.now.journal) (IsRecovered None) a b (known_both (λ d. IsRecoverable d.now) (λ d. IsLong None d.now.journal) a r long) same (λ d h.
    let none = none_is d.now.journal h.1 h.0.synced in (none_durable d.now h.0 none, none))

-- the same of a journal that was found under this length
pub known_found : (a : Option Disk) (o : Option ℕ) (size : ℕ) → o ≡ Some size → Known a (λ d. IsLong o d.now.journal) → Known a (λ d. IsLong (Some size) d.now.journal)
known_found a o size is long = subst (λ (x : Option ℕ). Known a (λ d. IsLong x d.now.journal)) is long

pub known_none : (a : Option Disk) (o : Option ℕ) → o ≡ None → Known a (λ d. IsLong o d.now.journal) → Known a (λ d. IsLong None d.now.journal)
known_none a o is long = subst (λ (x : Option ℕ). Known a (λ d. IsLong x d.now.journal)) is long

pub known_at : (P : Disk → Type 0) (a b : Option Disk) → b ≡ a → Known b P → Known a P
known_at P a b same k = subst (λ (o : Option Disk). Known o P) same k

pub shows_at : (T : List ℕ → Type 0) (a b : Option Disk) → b ≡ a → ((bytes : List ℕ) → Shows b bytes → T bytes) → (bytes : List ℕ) → Shows a bytes → T bytes
shows_at T a b same f = subst (λ (o : Option Disk). (bytes : List ℕ) → Shows o bytes → T bytes) same f

-- the pieces were written, and FILE is synced
module _ (a c y : Option Disk) (guarded : Known a (λ d. IsGuarded d.now)) (writes : Over (λ d e. e.now.writes ≡ d.now.writes ++ listed_in d.now.journal) a c) (file : Over (λ d e. e.now.file ≡ d.now.file) a c) (w : Over IsWriting a c) where
  pub not_synced : Over (May sync_lost) c y → Over IsWriting a y
  not_synced may = sync_lost_over a c y w may

  module _ (flush : Over Flushes c y) where
    abbrev IsBack : Disk → Disk → Type 0
    IsBack d f = IsOver (listed_in d.now.journal) d f × IsWriting d f

    pub back : Over IsBack a y
    back = back_over a c y guarded writes file w flush

    pub back_guarded : Known y (λ d. IsGuarded d.now)
    back_guarded = over_known IsBack (λ d. IsGuarded d.now) a y back (λ d e h. h.1.guarded)

    pub back_loose : Known y (λ d. d.now.loose ≡ [])
    back_loose = over_known IsBack (λ d. d.now.loose ≡ []) a y back (λ d e h. h.0.loose)

    pub back_moments : (z : Option Disk) → Over (λ d e. LeavesOnly (IsEither (old_of d.now) d.now.file) d e) y z → Over IsMoments a z
    back_moments z moments = over_then a y z back moments (λ d e f p m taken.
        let Q = λ (f : List ℕ). f ≡ old_of d.now in
        let one : (f : List ℕ) → IsEither (old_of e.now) e.now.file f → f ≡ old_of d.now = λ f either. elim either [
          | inl old ↦ old ∙ p.1.old
          | inr new ↦ new ∙ p.0.file
        ] in record {
          before = since_more (StandsFor Q) d e f p.1.before (since_map (StandsFor (IsEither (old_of e.now) e.now.file)) (StandsFor Q) e f (λ s. stands_map (IsEither (old_of e.now) e.now.file) Q s one) m.before);
          now = stands_map (IsEither (old_of e.now) e.now.file) Q f.now one m.now;
        })

    pub back_durable : (z : Option Disk) (told : PutBack) → Over (λ d e. IsCount (listed_in d.now.journal) told) a c → Over (λ d e. IsDurable d.now.file e.now) y z → Over (IsRecovered (Some told)) a z
    back_durable z told count durable = over_then a y z (over_both IsBack (λ d e. IsCount (listed_in d.now.journal) told) a y back
        (over_then a c y count flush (λ d e f h is. h))) durable (λ d e f p m. (subst (λ (x : List ℕ). IsDurable x f.now) p.0.0.file m, p.1))

-- what a recovery gives behind writes under a journal
pub taken_moments : (b c z : Option Disk) → Over IsWriting b c → Over IsMoments c z → Over (λ d e. LeavesOnly (λ f. f ≡ old_of d.now) d e) c z
taken_moments b c z w m = over_map c z (over_knows (λ d. IsGuarded d.now) IsMoments c z (writing_guarded b c w) m) (λ d e h. h.1 h.0.taken)

pub recovered_durable : (c z : Option Disk) (told : Option PutBack) → Over (IsRecovered told) c z → Over (λ d e. IsDurable (old_of d.now) e.now) c z
recovered_durable c z told r = over_map c z r (λ d e h. h.0)

pub writing_recoverable : (b c : Option Disk) → Over IsWriting b c → Known c (λ d. IsRecoverable d.now)
writing_recoverable b c w = over_known IsWriting (λ d. IsRecoverable d.now) b c w (λ d e w. w.guarded.recoverable)
