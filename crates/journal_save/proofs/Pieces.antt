-- How the pieces of a journal are written back, one after another.
use Rattle.std.proofs.Common.{◌≡◌, inl, inr, ℕ, ◌+◌, ◌-◌, ◌<◌, ◌≤◌, true, List, [], ◌∷◌, ◌++◌, length, take, drop, Option, Some, None, refl, sym, ◌∙◌, ap, subst, arith}
use Rattle.std.proofs.lemmas.List.{append-nil, length_push, length-take}
use Rattle.std.proofs.lemmas.List.Sums.{sum_by_push}
use Rattle.journal_codes.specs.Codes.{Span, size_in, ArePieces, spans_from}
use Rattle.journal_codes.proofs.Reading.{spans_from-first, spans_from-nil}
use Rattle.journal_save.specs.Disk.{facts_of, Journal, Disk, Shows, step, Over, Known, Does, May, wrote, write_lost}
use Rattle.journal_save.specs.Saving.{listed_in, IsSynced, IsTaken, IsGuarded, IsWriting, IsThere, Has, IsCount, IsNoRefusal}
use Rattle.journal_save.specs.Walking.{IsListedAt, IsUnlisted}
use Rattle.journal_save.specs.declared.listing.Listed.{Listed}
use Rattle.journal_save.specs.declared.errors.PutBack.{PutBack}
use Rattle.journal_save.specs.declared.errors.RecoverError.{RecoverError}
use Rattle.journal_save.specs.declared.errors.RecoverError.TheVariants.{Refused, Failed}
use Rattle.journal_save.proofs.Moments.{over_then, over_map, over_start, IsWritten, written_start, written_on, write_lost_on}
use Rattle.journal_save.proofs.Walks.{first_piece, is_some, behind, at_end, length_rest}

-- what is left of the pieces of a journal at this place
abbrev pub bytes_of : Option Journal → List ℕ
bytes_of None = []
bytes_of (Some j) = j.bytes

abbrev pub rest_of : ℕ → ℕ → Disk → List ℕ
rest_of from end d = drop from (take end (bytes_of d.now.journal))

-- the pieces before this place were written
pub record IsPuttingBack (file from end : ℕ) (back : PutBack) (d e : Disk) : Type 0 where
  pub written : IsWritten (listed_in d.now.journal) (spans_from 0 (rest_of from end d)) d e
  pub pieces : ArePieces file 0 (rest_of from end d)
  pub count : IsCount written.given back
  pub long : end ≤ length (bytes_of d.now.journal)
  pub shown : d.now.journal ≡ Some (record { bytes = bytes_of d.now.journal; synced = true })

abbrev pub IsReadyBack : ℕ → ℕ → Disk → Type 0
IsReadyBack file size d = IsGuarded d.now × IsThere file size d.now

start_one : (file size : ℕ) (d : Disk) (j : Option Journal) → d.now.journal ≡ j → 56 ≤ size → file ≡ length d.now.file → Has size j → IsSynced j → IsTaken (facts_of d.now) j → IsGuarded d.now
    → (ArePieces file 0 (drop 40 (take (size - 16) (bytes_of j)))) × (listed_in j ≡ spans_from 0 (drop 40 (take (size - 16) (bytes_of j)))) × (size - 16 ≤ length (bytes_of j)) × (let s : Option Journal = j in s ≡ Some (record { bytes = bytes_of j; synced = true }))
start_one file size d None is long file_is has synced taken guarded = absurd has
start_one file size d (Some j) is long file_is has synced taken guarded = (
  subst (λ (n : ℕ). ArePieces n 0 (drop 40 (take (size - 16) j.bytes))) (sym file_is) (subst (λ (n : ℕ). ArePieces (length d.now.file) 0 (drop 40 (take (n - 16) j.bytes))) (sym has) taken.whole.pieces),
  ap (λ (n : ℕ). spans_from 0 (drop 40 (take (n - 16) j.bytes))) (sym has),
  omega (arith, has),
  ap (λ b. Some (record { bytes = j.bytes; synced = b })) synced,
)

back_start : (file size : ℕ) (d : Disk) → 56 ≤ size → IsReadyBack file size d → IsPuttingBack file 40 (size - 16) (record { pieces = 0; bytes = 0 }) d d
back_start file size d long ready =
    let one = start_one file size d d.now.journal refl long ready.1.0 ready.1.1 ready.0.recoverable.synced ready.0.taken ready.0 in
    let w = written_start (listed_in d.now.journal) d ready.0 in record {
      written = record { given = []; given_is = sym one.1; writes = w.writes; file = w.file; writing = w.writing };
      pieces = one.0;
      count = record { pieces = refl; bytes = refl };
      long = one.2;
      shown = one.3;
    }

pub back_init : (a : Option Disk) (file size : ℕ) → 56 ≤ size → Known a (IsReadyBack file size) → Over (IsPuttingBack file 40 (size - 16) (record { pieces = 0; bytes = 0 })) a a
back_init a file size long ready = over_start (IsReadyBack file size) (IsPuttingBack file 40 (size - 16) (record { pieces = 0; bytes = 0 })) a ready (λ d r. back_start file size d long r)

count_on : (given : List Span) (s : Span) (back next : PutBack) → IsCount given back → next.pieces ≡ back.pieces + 1 → next.bytes ≡ back.bytes + length s.1 → IsCount (given ++ s ∷ []) next
count_on given s back next count one more = record {
  pieces = one ∙ ap (λ (n : ℕ). n + 1) count.pieces ∙ sym (length_push given s);
  bytes = more ∙ ap (λ (n : ℕ). n + length s.1) count.bytes ∙ sym (sum_by_push (λ (t : Span). length t.1) given s);
}

-- the piece that is read at this place
module _ (file from next end : ℕ) (room : List ℕ) (listed : Listed) (d e : Disk) (back : PutBack) (p : IsPuttingBack file from end back d e) (l : IsListedAt file (rest_of from end d) listed room) where
  s : Span
  s = (listed.head.place, take listed.head.size room)

  left_is : spans_from 0 (rest_of from end d) ≡ (listed.head.place, take listed.head.size room) ∷ spans_from 0 (drop (16 + size_in (rest_of from end d)) (rest_of from end d))
  left_is = spans_from-first (rest_of from end d) (is_some file (rest_of from end d) l.piece) ∙ ap (λ (x : Span). x ∷ spans_from 0 (drop (16 + size_in (rest_of from end d)) (rest_of from end d))) (sym l.span)

  still : IsWritten (listed_in d.now.journal) ((listed.head.place, take listed.head.size room) ∷ spans_from 0 (drop (16 + size_in (rest_of from end d)) (rest_of from end d))) d e
  still = record { given = p.written.given; given_is = ap (λ (x : List Span). p.written.given ++ x) (sym left_is) ∙ p.written.given_is; writes = p.written.writes; file = p.written.file; writing = p.written.writing }

  pub back_lost : IsWriting d (step (write_lost (listed.head.place, take listed.head.size room)) e)
  back_lost = write_lost_on (listed_in d.now.journal) (spans_from 0 (drop (16 + size_in (rest_of from end d)) (rest_of from end d))) (listed.head.place, take listed.head.size room) d e refl still

  pub back_on : (more : PutBack) → next ≡ from + (16 + listed.head.size) → listed.head.size ≤ length room → more.pieces ≡ back.pieces + 1 → more.bytes ≡ back.bytes + listed.head.size → IsPuttingBack file next end more d (step (wrote (listed.head.place, take listed.head.size room)) e)
  unfolding still
  back_on more is fits one bytes =
      let rest = rest_of from end d in
      let moved : rest_of next end d ≡ drop (16 + size_in rest) rest = behind from next listed.head.size (take end (bytes_of d.now.journal)) is ∙ ap (λ (n : ℕ). drop (16 + n) rest) l.size in
      let w = written_on (listed_in d.now.journal) (spans_from 0 (drop (16 + size_in rest) rest)) (listed.head.place, take listed.head.size room) d e refl still in
      record {
        written = record { given = w.given; given_is = ap (λ (x : List ℕ). w.given ++ spans_from 0 x) moved ∙ w.given_is; writes = w.writes; file = w.file; writing = w.writing };
        pieces = subst (ArePieces file 0) (sym moved) (first_piece file rest (is_some file rest l.piece) p.pieces).1;
        count = count_on p.written.given (listed.head.place, take listed.head.size room) back more p.count one (bytes ∙ ap (λ (n : ℕ). back.bytes + n) (omega (arith, length-take listed.head.size room)));
        long = p.long;
        shown = p.shown;
      }

known_shows : (T : List ℕ → Type 0) (b : Option Disk) → ((bytes : List ℕ) → Shows b bytes → T bytes) → Known b (λ e. (bytes : List ℕ) → e.now.journal ≡ Some (record { bytes = bytes; synced = true }) → T bytes)
known_shows T None read = tt
known_shows T (Some e) read = read

over_after : (P : Disk → Type 0) (R : Disk → Disk → Type 0) (a b : Option Disk) → Over R a b → Known b P → Over (λ d e. R d e × P e) a b
over_after P R None None r p = tt
over_after P R None (Some e) r p = absurd r
over_after P R (Some d) None r p = absurd r
over_after P R (Some d) (Some e) r p = (r, p)

module _ (a b b2 c : Option Disk) (file from end : ℕ) (back : PutBack) (same : b2 ≡ b) (so_far : Over (IsPuttingBack file from end back) a b) where
  pub back_writing : Over IsWriting a b2
  back_writing = subst (Over IsWriting a) (sym same) (over_map a b so_far (λ d e p. p.written.writing))

  module _ (room : List ℕ) (listed : Listed) (read : (bytes : List ℕ) → Shows b bytes → IsListedAt file (drop from (take end bytes)) listed room) where
    abbrev Both : Disk → Disk → Type 0
    Both d e = IsPuttingBack file from end back d e × IsListedAt file (rest_of from end d) listed room

    both : Over Both a b2
    both = subst (Over Both a) (sym same) (over_map a b (over_after (λ e. (bytes : List ℕ) → e.now.journal ≡ Some (record { bytes = bytes; synced = true }) → IsListedAt file (drop from (take end bytes)) listed room) (IsPuttingBack file from end back) a b so_far (known_shows (λ bytes. IsListedAt file (drop from (take end bytes)) listed room) b read))
        (λ d e h. (h.0, h.1 (bytes_of d.now.journal) (h.0.written.writing.journal ∙ h.0.shown))))

    pub back_more : (next : ℕ) (more : PutBack) (t : Span) → t ≡ (listed.head.place, take listed.head.size room) → next ≡ from + (16 + listed.head.size) → listed.head.size ≤ length room → more.pieces ≡ back.pieces + 1 → more.bytes ≡ back.bytes + listed.head.size → Over (Does (wrote t)) b2 c → Over (IsPuttingBack file next end more) a c
    back_more next more t value is fits one bytes does = over_then a b2 c both does (λ d e f h done.
        rw (done, value) (back_on file from next end room listed d e back h.0 h.1 more is fits one bytes))

    pub back_failed : (t : Span) → t ≡ (listed.head.place, take listed.head.size room) → Over (May (write_lost t)) b2 c → Over IsWriting a c
    back_failed t value may = over_then a b2 c both may (λ d e f h one. elim one as (λ _. IsWriting d f) [
      | inl none ↦ subst (IsWriting d) (sym none) h.0.written.writing
      | inr done ↦ rw (done, value) (back_lost file from from end room listed d e back h.0 h.1)
    ])

  -- a journal that was checked is not refused
  pub not_refused : (error : RecoverError) → from < end → ((bytes : List ℕ) → Shows b bytes → end ≤ length bytes → IsUnlisted error file (drop from (take end bytes))) → Over (λ d e. IsNoRefusal error) a b2
  not_refused (Failed error) lt lost = subst (Over (λ d e. Unit {0}) a) (sym same) (over_map a b so_far (λ d e p. tt))
  not_refused (Refused fault) lt lost = subst (Over (λ d e. ⊥) a) (sym same) (over_map a b (over_after (λ e. (bytes : List ℕ) → e.now.journal ≡ Some (record { bytes = bytes; synced = true }) → end ≤ length bytes → IsUnlisted (Refused fault) file (drop from (take end bytes))) (IsPuttingBack file from end back) a b so_far (known_shows (λ bytes. end ≤ length bytes → IsUnlisted (Refused fault) file (drop from (take end bytes))) b lost))
      (λ d e h. (h.1 (bytes_of d.now.journal) (h.0.written.writing.journal ∙ h.0.shown) h.0.long).1 (first_piece file (rest_of from end d) (omega (arith, length_rest from end (bytes_of d.now.journal) h.0.long, lt)) h.0.pieces).0))

-- all of them were written
module _ (a b : Option Disk) (file from end : ℕ) (back : PutBack) (le : end ≤ from) (so_far : Over (IsPuttingBack file from end back) a b) where
  abbrev IsAll : Disk → Disk → Type 0
  IsAll d e = IsPuttingBack file from end back d e

  all_given : (d e : Disk) (p : IsPuttingBack file from end back d e) → p.written.given ≡ listed_in d.now.journal
  all_given d e p = sym (append-nil p.written.given) ∙ ap (λ (x : List Span). p.written.given ++ x) (sym spans_from-nil ∙ ap (spans_from 0) (sym (at_end from end (bytes_of d.now.journal) le))) ∙ p.written.given_is

  pub back_count : Over (λ d e. IsCount (listed_in d.now.journal) back) a b
  back_count = over_map a b so_far (λ d e p. subst (λ (x : List Span). IsCount x back) (all_given d e p) p.count)

  pub back_writes : Over (λ d e. e.now.writes ≡ d.now.writes ++ listed_in d.now.journal) a b
  back_writes = over_map a b so_far (λ d e p. p.written.writes ∙ ap (λ (x : List Span). d.now.writes ++ x) (all_given d e p))
