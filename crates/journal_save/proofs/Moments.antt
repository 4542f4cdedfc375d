-- What a crash leaves from one call to the next.
use Rattle.std.proofs.Common.{◌≡◌, inl, inr, ◌⊎◌, ℕ, List, [], ◌∷◌, ◌++◌, Option, Some, None, refl, sym, ◌∙◌, ap, subst, append_assoc}
use Rattle.std.proofs.lemmas.List.{append-nil}
use Rattle.journal_codes.specs.Codes.{Span}
use Rattle.journal_codes.specs.declared.file_facts.FileFacts.{FileFacts}
use Rattle.journal_save.specs.Disk.{Range, range_of, facts_of, laid_all, IsOutside, IsFree, IsSame, Journal, State, Disk, Each, StandFor, StandsFor, MightLeave, IsFound, step, Over, Known, Does, May, wrote, write_lost}
use Rattle.journal_save.specs.Saving.{ranges, listed_in, IsSynced, IsTaken, old_of, IsGuarded, Since, IsWriting}
use Rattle.journal_save.proofs.Laid.{same_all, laid_all_same, free_push, same_within, outside_between}

-- two calls, one behind the other
pub over_then : {R S T : Disk → Disk → Type 0} (a b c : Option Disk) → Over R a b → Over S b c → ((d e f : Disk) → R d e → S e f → T d f) → Over T a c
over_then None None None r s t = tt
over_then None None (Some f) r s t = absurd s
over_then None (Some e) c r s t = absurd r
over_then (Some d) None c r s t = absurd r
over_then (Some d) (Some e) None r s t = absurd s
over_then (Some d) (Some e) (Some f) r s t = t d e f r s

pub over_knows : (P : Disk → Type 0) (R : Disk → Disk → Type 0) (a b : Option Disk) → Known a P → Over R a b → Over (λ d e. P d × R d e) a b
over_knows P R None None p r = tt
over_knows P R None (Some e) p r = absurd r
over_knows P R (Some d) None p r = absurd r
over_knows P R (Some d) (Some e) p r = (p, r)

pub over_map : {R S : Disk → Disk → Type 0} (a b : Option Disk) → Over R a b → ((d e : Disk) → R d e → S d e) → Over S a b
over_map None None r f = tt
over_map None (Some e) r f = absurd r
over_map (Some d) None r f = absurd r
over_map (Some d) (Some e) r f = f d e r

pub over_start : (P : Disk → Type 0) (R : Disk → Disk → Type 0) (a : Option Disk) → Known a P → ((d : Disk) → P d → R d d) → Over R a a
over_start P R None p f = tt
over_start P R (Some d) p f = f d p

-- the same, where a call has changed nothing
pub over_same : (P : Disk → Type 0) (R : Disk → Disk → Type 0) (a b : Option Disk) → Known a P → b ≡ a → ((d : Disk) → P d → R d d) → Over R a b
over_same P R a b p is f = subst (Over R a) (sym is) (over_start P R a p f)

pub over_both : (R S : Disk → Disk → Type 0) (a b : Option Disk) → Over R a b → Over S a b → Over (λ d e. R d e × S d e) a b
over_both R S None None r s = tt
over_both R S None (Some e) r s = absurd r
over_both R S (Some d) None r s = absurd r
over_both R S (Some d) (Some e) r s = (r, s)

-- what is known afterwards
pub over_known : (R : Disk → Disk → Type 0) (P : Disk → Type 0) (a b : Option Disk) → Over R a b → ((d e : Disk) → R d e → P e) → Known b P
over_known R P None None r f = tt
over_known R P None (Some e) r f = absurd r
over_known R P (Some d) None r f = absurd r
over_known R P (Some d) (Some e) r f = f d e r

pub known_both : (P Q : Disk → Type 0) (a : Option Disk) → Known a P → Known a Q → Known a (λ d. P d × Q d)
known_both P Q None p q = tt
known_both P Q (Some d) p q = (p, q)

pub known_map : (P Q : Disk → Type 0) (a : Option Disk) → Known a P → ((d : Disk) → P d → Q d) → Known a Q
known_map P Q None p f = tt
known_map P Q (Some d) p f = f d p

-- what was known at the start, beside what is so at the end
pub over_first : (P : Disk → Type 0) (S R : Disk → Disk → Type 0) (a b z : Option Disk) → Over (λ d e. P d × S d e) a b → Over R a z → Over (λ d e. P d × R d e) a z
over_first P S R None b None s r = tt
over_first P S R None b (Some f) s r = absurd r
over_first P S R (Some d) b None s r = absurd r
over_first P S R (Some d) None (Some f) s r = absurd s
over_first P S R (Some d) (Some e) (Some f) s r = (s.0, r)

pub known_same : (P : Disk → Type 0) (a b : Option Disk) → Known a P → b ≡ a → Known b P
known_same P a b p is = subst (λ (o : Option Disk). Known o P) (sym is) p

pub each_append : (Q : State → Type 0) (xs ys : List State) → Each Q xs → Each Q ys → Each Q (xs ++ ys)
each_append Q [] ys p q = q
each_append Q (x ∷ xs) ys p q = (p.0, each_append Q xs ys p.1 q)

pub each_map : (P Q : State → Type 0) (xs : List State) → ((s : State) → P s → Q s) → Each P xs → Each Q xs
each_map P Q [] f p = tt
each_map P Q (x ∷ xs) f p = (f x p.0, each_map P Q xs f p.1)

module _ (Q : State → Type 0) where
  pub since_none : (d : Disk) → Since Q d d
  since_none d = ([], refl, tt)

  pub since_step : (d e : Disk) (f : State → State) → Since Q d e → Q e.now → Since Q d (step f e)
  since_step d e f since now = (e.now ∷ since.0, ap (λ (l : List State). e.now ∷ l) since.1, (now, since.2))

  pub since_more : (d e f : Disk) → Since Q d e → Since Q e f → Since Q d f
  since_more d e f a b = (b.0 ++ a.0, b.1 ∙ ap (λ (l : List State). b.0 ++ l) a.1 ∙ sym (append_assoc b.0 a.0 d.past), each_append Q b.0 a.0 b.2 a.2)

pub since_map : (P Q : State → Type 0) (d e : Disk) → ((s : State) → P s → Q s) → Since P d e → Since Q d e
since_map P Q d e f a = (a.0, a.1, each_map P Q a.0 f a.2)

pub stand_map : (P Q : List ℕ → Type 0) (f : FileFacts) (file : List ℕ) (journal : Option (List ℕ)) → ((x : List ℕ) → P x → Q x) → StandFor P f file journal → StandFor Q f file journal
stand_map P Q f file None g stand = g file stand
stand_map P Q f file (Some bs) g stand = (stand.0, g _ stand.1)

pub stands_map : (P Q : List ℕ → Type 0) (s : State) → ((f : List ℕ) → P f → Q f) → StandsFor P s → StandsFor Q s
stands_map P Q s f stands = λ file journal same might. stand_map P Q (facts_of s) file journal f (stands file journal same might)

-- what a moment stands for, if only the ranges of this journal may hold what is not known
pub listed_means : (s : State) (j : Option Journal) (found : List ℕ) (l : Option (List ℕ)) → IsSynced j → IsTaken (facts_of s) j → ((i : ℕ) → IsFree i (ranges (listed_in j)) → IsFree i s.loose) → IsSame s.loose s.file found → IsFound l j
    → StandFor (λ f. f ≡ laid_all (listed_in j) s.file) (facts_of s) found l
listed_means s None found l synced taken within same is =
    rw is (same_all s.file found (same_within [] s.loose s.file found within same))
listed_means s (Some j) found l synced taken within same is =
    rw (is synced) (taken, laid_all_same (listed_in (Some j)) s.file found (same_within (ranges (listed_in (Some j))) s.loose s.file found within same))

pub guarded_stands : (s : State) → IsGuarded s → StandsFor (λ f. f ≡ old_of s) s
guarded_stands s guarded found l same might =
    let one : IsFound l s.journal ⊎ ⊥ = subst (λ js. MightLeave js l) guarded.recoverable.may_leave might in
    elim one [ inl is ↦ listed_means s s.journal found l guarded.recoverable.synced guarded.taken guarded.recoverable.within same is | inr none ↦ absurd none ]

pub writing_start : (d : Disk) → IsGuarded d.now → IsWriting d d
writing_start d guarded = record { guarded = guarded; journal = refl; old = refl; before = since_none (StandsFor (λ f. f ≡ old_of d.now)) d }

pub writing_stands : (d e : Disk) → IsWriting d e → StandsFor (λ f. f ≡ old_of d.now) e.now
writing_stands d e w = stands_map (λ f. f ≡ old_of e.now) (λ f. f ≡ old_of d.now) e.now (λ f is. is ∙ w.old) (guarded_stands e.now w.guarded)

-- a write within the ranges that the journal guards, done or not
pub writing_on : (d e : Disk) (r : Range) (ws : List Span) → IsWriting d e → ((i : ℕ) → IsFree i (ranges (listed_in d.now.journal)) → IsOutside i r) → ((i : ℕ) → IsFree i (ranges e.now.writes) → IsOutside i r → IsFree i (ranges ws)) → IsWriting d (step (λ s. record s { loose = r ∷ s.loose; writes = ws }) e)
writing_on d e r ws w outside kept =
    let within : (i : ℕ) → IsFree i (ranges (listed_in e.now.journal)) → IsOutside i r = λ i free. outside i (subst (λ (j : Option Journal). IsFree i (ranges (listed_in j))) w.journal free) in record {
      guarded = record {
        recoverable = record {
          synced = w.guarded.recoverable.synced;
          may_leave = w.guarded.recoverable.may_leave;
          within = λ i free. (within i free, w.guarded.recoverable.within i free);
          writes_within = λ i free. kept i (w.guarded.recoverable.writes_within i free) (within i free);
        };
        taken = w.guarded.taken;
      };
      journal = w.journal;
      old = w.old;
      before = since_step (StandsFor (λ f. f ≡ old_of d.now)) d e (λ s. record s { loose = r ∷ s.loose; writes = ws }) w.before (writing_stands d e w);
    }

-- pieces were written, and others are left
pub record IsWritten (all left : List Span) (d e : Disk) : Type 0 where
  pub given : List Span
  pub given_is : given ++ left ≡ all
  pub writes : e.now.writes ≡ d.now.writes ++ given
  pub file : e.now.file ≡ d.now.file
  pub writing : IsWriting d e

abbrev pub written_start : (all : List Span) (d : Disk) → IsGuarded d.now → IsWritten all all d d
written_start all d guarded = record { given = []; given_is = refl; writes = sym (append-nil d.now.writes); file = refl; writing = writing_start d guarded }

pub covered_outside : (rs : List Range) (all left given : List Span) (s : Span) → rs ≡ ranges all → given ++ s ∷ left ≡ all → (i : ℕ) → IsFree i rs → IsOutside i (range_of s)
covered_outside rs all left given s covered is i free = outside_between given s left i (subst (λ (l : List Span). IsFree i (ranges l)) (sym is) (subst (IsFree i) covered free))

abbrev pub written_on : (all left : List Span) (s : Span) (d e : Disk) → ranges (listed_in d.now.journal) ≡ ranges all → IsWritten all (s ∷ left) d e → IsWritten all left d (step (wrote s) e)
written_on all left s d e covered w = record {
  given = w.given ++ s ∷ [];
  given_is = append_assoc w.given (s ∷ []) left ∙ w.given_is;
  writes = ap (λ (l : List Span). l ++ s ∷ []) w.writes ∙ append_assoc d.now.writes w.given (s ∷ []);
  file = w.file;
  writing = writing_on d e (range_of s) (e.now.writes ++ s ∷ []) w.writing (covered_outside (ranges (listed_in d.now.journal)) all left w.given s covered w.given_is) (λ i free out. free_push i e.now.writes s free out);
}

pub write_lost_on : (all left : List Span) (s : Span) (d e : Disk) → ranges (listed_in d.now.journal) ≡ ranges all → IsWritten all (s ∷ left) d e → IsWriting d (step (write_lost s) e)
write_lost_on all left s d e covered w =
    writing_on d e (range_of s) [] w.writing (covered_outside (ranges (listed_in d.now.journal)) all left w.given s covered w.given_is) (λ i free out. tt)

pub written_more : (a b c : Option Disk) (all old new : List Span) (s t : Span) → Known a (λ d. ranges (listed_in d.now.journal) ≡ ranges all) → Over (IsWritten all old) a b → old ≡ s ∷ new → t ≡ s → Over (Does (wrote t)) b c → Over (IsWritten all new) a c
written_more a b c all old new s t covered so_far is same does =
    over_then a b c (over_knows (λ d. ranges (listed_in d.now.journal) ≡ ranges all) (IsWritten all old) a b covered so_far) does (λ d e f h done.
    rw done (subst (λ (x : Span). IsWritten all new d (step (wrote x) e)) (sym same) (written_on all new s d e h.0 (subst (λ (l : List Span). IsWritten all l d e) is h.1))))

pub written_lost : (a b c : Option Disk) (all old new : List Span) (s t : Span) → Known a (λ d. ranges (listed_in d.now.journal) ≡ ranges all) → Over (IsWritten all old) a b → old ≡ s ∷ new → t ≡ s → Over (May (write_lost t)) b c → Over IsWriting a c
written_lost a b c all old new s t covered so_far is same may =
    over_then a b c (over_knows (λ d. ranges (listed_in d.now.journal) ≡ ranges all) (IsWritten all old) a b covered so_far) may (λ d e f h one. elim one as (λ _. IsWriting d f) [
      | inl none ↦ subst (IsWriting d) (sym none) h.1.writing
      | inr done ↦ rw done (subst (λ (x : Span). IsWriting d (step (write_lost x) e)) (sym same) (write_lost_on all new s d e h.0 (subst (λ (l : List Span). IsWritten all l d e) is h.1)))
    ])
