-- What a journal lists is read again.
use Rattle.std.proofs.Common.{◌≡◌, true, ℕ, zero, suc, ◌+◌, ◌-◌, ◌^◌, ◌<◌, ◌≤◌, List, [], ◌∷◌, ◌++◌, length, take, drop, refl, sym, ◌∙◌, ap, subst, arith}
use Rattle.std.proofs.lemmas.List.{get_or-take, drop-take, length-append, take_at, drop_at}
use Rattle.std.proofs.lemmas.Nat.{from_le_bytes-to_le_bytes_8}
use Rattle.md5.specs.Md5.{md5, digest_bytes}
use Rattle.journal_codes.specs.declared.file_facts.FileFacts.{FileFacts}
use Rattle.journal_codes.specs.declared.journal_fault.JournalFault.{JournalFault}
use Rattle.journal_codes.specs.declared.journal_fault.JournalFault.TheVariants.{NoJournal, OtherVersion, OtherLength, OtherFile, OtherBirth, Broken}
use Rattle.journal_codes.specs.Codes.{Span, number, number_in, may_be_birth, HasBirth, HasFront, LacksFront, IsRefusedAs, front, piece, pieces, body, journal, Fits, AllFit, AreSmall, place_in, size_in, span_in, IsPiece, spans_from, ArePieces, without_end, IsReadAgain}

pub number_in-number : (n : ℕ) (rest : List ℕ) → n < 2 ^ 64 → number_in (number n ++ rest) ≡ n
unfolding number_in
number_in-number n rest fits = from_le_bytes-to_le_bytes_8 n fits

-- to pass bytes over is to drop them
pub spans_from-skip : (skip : ℕ) (bs : List ℕ) → spans_from skip bs ≡ spans_from 0 (drop skip bs)
unfolding spans_from
spans_from-skip zero [] = refl
spans_from-skip (suc skip) [] = refl
spans_from-skip zero (b ∷ bs) = refl
spans_from-skip (suc skip) (b ∷ bs) = spans_from-skip skip bs

pub ArePieces-skip : (file skip : ℕ) (bs : List ℕ) → ArePieces file skip bs ≡ ArePieces file 0 (drop skip bs)
unfolding ArePieces
ArePieces-skip file zero [] = refl
ArePieces-skip file (suc skip) [] = refl
ArePieces-skip file zero (b ∷ bs) = refl
ArePieces-skip file (suc skip) (b ∷ bs) = ArePieces-skip file skip bs

-- the first piece, and the others
pub spans_from-first : (bs : List ℕ) → 0 < length bs → spans_from 0 bs ≡ span_in bs ∷ spans_from 0 (drop (16 + size_in bs) bs)
unfolding spans_from
spans_from-first [] some' = absurd (omega arith)
spans_from-first (b ∷ bs) some' =
    let more : 16 + size_in (b ∷ bs) ≡ suc (15 + size_in (b ∷ bs)) = omega arith in
    ap (λ (l : List Span). span_in (b ∷ bs) ∷ l) (spans_from-skip (15 + size_in (b ∷ bs)) bs ∙ ap (λ (n : ℕ). spans_from 0 (drop n (b ∷ bs))) (sym more))

pub ArePieces-first : (file : ℕ) (bs : List ℕ) → 0 < length bs → ArePieces file 0 bs ≡ (IsPiece file bs × ArePieces file 0 (drop (16 + size_in bs) bs))
unfolding ArePieces
ArePieces-first file [] some' = absurd (omega arith)
ArePieces-first file (b ∷ bs) some' =
    let more : 16 + size_in (b ∷ bs) ≡ suc (15 + size_in (b ∷ bs)) = omega arith in
    ap (λ (T : Type 0). IsPiece file (b ∷ bs) × T) (ArePieces-skip file (15 + size_in (b ∷ bs)) bs ∙ ap (λ (n : ℕ). ArePieces file 0 (drop n (b ∷ bs))) (sym more))

pub spans_from-nil : spans_from 0 [] ≡ []
unfolding spans_from
spans_from-nil = refl

pub ArePieces-nil : (file : ℕ) → ArePieces file 0 []
unfolding ArePieces
ArePieces-nil file = tt

-- a piece in front of bytes
module _ (f : FileFacts) (s : Span) (rest : List ℕ) (small : AreSmall f) (fits : Fits f s) where
  all : List ℕ
  all = piece s ++ rest

  pub place_in-piece : place_in (piece s ++ rest) ≡ s.0
  place_in-piece = number_in-number s.0 ((number (length s.1) ++ s.1) ++ rest) (omega (arith, small.length, fits.inside))

  pub size_in-piece : size_in (piece s ++ rest) ≡ length s.1
  size_in-piece = number_in-number (length s.1) (s.1 ++ rest) (omega (arith, fits.small))

  pub drop-piece : drop (16 + size_in (piece s ++ rest)) (piece s ++ rest) ≡ rest
  drop-piece = ap (λ (n : ℕ). drop (16 + n) (piece s ++ rest)) size_in-piece ∙ drop_at (piece s) rest (16 + length s.1) (omega (arith, length-append (number (length s.1)) s.1))

  pub span_in-piece : span_in (piece s ++ rest) ≡ s
  span_in-piece =
      ap (λ (n : ℕ). (n, take (size_in (piece s ++ rest)) (s.1 ++ rest))) place_in-piece
      ∙ ap (λ (n : ℕ). (s.0, take n (s.1 ++ rest))) size_in-piece
      ∙ ap (λ (l : List ℕ). (s.0, l)) (take_at s.1 rest (length s.1) refl)

  pub is_piece : IsPiece f.length (piece s ++ rest)
  is_piece = record {
    ends = rw size_in-piece (omega (arith, length-append (piece s) rest, length-append (number (length s.1)) s.1));
    small = rw size_in-piece fits.small;
    inside = rw (place_in-piece, size_in-piece) fits.inside;
  }

pub pieces_read : (f : FileFacts) (ss : List Span) → AreSmall f → AllFit f ss → ArePieces f.length 0 (pieces ss) × (spans_from 0 (pieces ss) ≡ ss)
pieces_read f [] small fit = (ArePieces-nil f.length, spans_from-nil)
pieces_read f (s ∷ ss) small fit =
    let rest = pieces_read f ss small fit.1 in
    let some' : 0 < length (pieces (s ∷ ss)) = omega arith in
    let dropped = drop-piece f s (pieces ss) small fit.0 in (
      subst (λ (T : Type 0). T) (sym (ArePieces-first f.length (pieces (s ∷ ss)) some')) (is_piece f s (pieces ss) small fit.0, subst (λ (l : List ℕ). ArePieces f.length 0 l) (sym dropped) rest.0),
      spans_from-first (pieces (s ∷ ss)) some' ∙ ap (λ (x : Span). x ∷ spans_from 0 (drop (16 + size_in (pieces (s ∷ ss))) (pieces (s ∷ ss)))) (span_in-piece f s (pieces ss) small fit.0)
          ∙ ap (λ (l : List ℕ). s ∷ spans_from 0 l) dropped ∙ ap (λ (l : List Span). s ∷ l) rest.1,
    )

pub length-md5 : (m : List ℕ) → length (md5 m) ≡ 16
unfolding md5 digest_bytes
length-md5 m = refl

-- a file is made when it is made
same_birth : (n : ℕ) → may_be_birth n n ≡ true
same_birth n = grind arith

module _ (f : FileFacts) (ss : List Span) where
  pub length-journal : length (journal f ss) ≡ length (body f ss) + 16
  length-journal = length-append (body f ss) (md5 (body f ss)) ∙ ap (λ (n : ℕ). length (body f ss) + n) (length-md5 (body f ss))

  at_end : length (body f ss) ≡ length (journal f ss) - 16
  at_end = omega (arith, length-journal)

  pub without_end-journal : without_end (journal f ss) ≡ body f ss
  without_end-journal = take_at (body f ss) (md5 (body f ss)) (length (journal f ss) - 16) at_end

  pub drop-journal : drop (length (journal f ss) - 16) (journal f ss) ≡ md5 (body f ss)
  drop-journal = drop_at (body f ss) (md5 (body f ss)) (length (journal f ss) - 16) at_end

  pub drop-body : drop 40 (body f ss) ≡ pieces ss
  drop-body = refl

  listed : drop 40 (without_end (journal f ss)) ≡ pieces ss
  listed = ap (drop 40) without_end-journal

  pub read_again : AreSmall f → AllFit f ss → IsReadAgain f ss
  unfolding number_in
  read_again small fit =
      let read = pieces_read f ss small fit in (
        record {
          long = omega (arith, length-journal, length-append (front f) (pieces ss));
          front = (
            refl,
            number_in-number 2 (drop 16 (journal f ss)) (omega arith),
            number_in-number f.length (drop 24 (journal f ss)) small.length,
            number_in-number f.inode (drop 32 (journal f ss)) small.inode,
            ap (λ (n : ℕ). may_be_birth n f.birth) (number_in-number f.birth (drop 40 (journal f ss)) small.birth) ∙ same_birth f.birth,
          );
          whole = record {
            pieces = subst (λ (l : List ℕ). ArePieces f.length 0 l) (sym listed) read.0;
            digest = drop-journal ∙ ap md5 (sym without_end-journal);
          };
        },
        ap (spans_from 0) listed ∙ read.1,
      )

-- a number, and what stands before a piece, are told by the first bytes
pub number_in-take : (n : ℕ) (bs : List ℕ) → 8 ≤ n → number_in (take n bs) ≡ number_in bs
unfolding number_in
number_in-take n bs le =
    let e0 = get_or-take n bs 0 0 (omega arith) in
    let e1 = get_or-take n bs 1 0 (omega arith) in
    let e2 = get_or-take n bs 2 0 (omega arith) in
    let e3 = get_or-take n bs 3 0 (omega arith) in
    let e4 = get_or-take n bs 4 0 (omega arith) in
    let e5 = get_or-take n bs 5 0 (omega arith) in
    let e6 = get_or-take n bs 6 0 (omega arith) in
    let e7 = get_or-take n bs 7 0 (omega arith) in
    rw (e0, e1, e2, e3, e4, e5, e6, e7) refl

pub place_in-front : (bs : List ℕ) → place_in (take 16 bs) ≡ place_in bs
place_in-front bs = number_in-take 16 bs (omega arith)

pub size_in-front : (bs : List ℕ) → size_in (take 16 bs) ≡ size_in bs
size_in-front bs = ap number_in (drop-take 8 8 bs) ∙ number_in-take 8 (drop 8 bs) (omega arith)

-- the front of a journal, read alone
pub number_at-front : (k : ℕ) (bs : List ℕ) → k + 8 ≤ 40 → number_in (drop k (take 40 bs)) ≡ number_in (drop k bs)
number_at-front k bs le =
    let rest : 40 ≡ k + (40 - k) = omega arith in
    ap (λ (n : ℕ). number_in (drop k (take n bs))) rest ∙ ap number_in (drop-take k (40 - k) bs) ∙ number_in-take (40 - k) (drop k bs) (omega arith)

birth_at-front : (f : FileFacts) (bs : List ℕ) → HasBirth f (take 40 bs) → HasBirth f bs
birth_at-front f bs h = ap (λ (n : ℕ). may_be_birth n f.birth) (sym (number_at-front 32 bs (omega arith))) ∙ h

pub HasFront-front : (f : FileFacts) (bs : List ℕ) → HasFront f (take 40 bs) → HasFront f bs
HasFront-front f bs front = (
  sym (number_at-front 0 bs (omega arith)) ∙ front.0,
  sym (number_at-front 8 bs (omega arith)) ∙ front.1,
  sym (number_at-front 16 bs (omega arith)) ∙ front.2,
  sym (number_at-front 24 bs (omega arith)) ∙ front.3,
  birth_at-front f bs front.4,
)

pub LacksFront-front : (f : FileFacts) (bs : List ℕ) (fault : JournalFault) → LacksFront f (take 40 bs) fault → LacksFront f bs fault
LacksFront-front f bs NoJournal lacks = λ h. lacks (number_at-front 0 bs (omega arith) ∙ h)
LacksFront-front f bs OtherVersion lacks = (sym (number_at-front 0 bs (omega arith)) ∙ lacks.0, λ h. lacks.1 (number_at-front 8 bs (omega arith) ∙ h))
LacksFront-front f bs OtherLength lacks = (sym (number_at-front 0 bs (omega arith)) ∙ lacks.0, sym (number_at-front 8 bs (omega arith)) ∙ lacks.1, λ h. lacks.2 (number_at-front 16 bs (omega arith) ∙ h))
LacksFront-front f bs OtherFile lacks = (
  sym (number_at-front 0 bs (omega arith)) ∙ lacks.0,
  sym (number_at-front 8 bs (omega arith)) ∙ lacks.1,
  sym (number_at-front 16 bs (omega arith)) ∙ lacks.2,
  λ h. lacks.3 (number_at-front 24 bs (omega arith) ∙ h),
)
LacksFront-front f bs OtherBirth lacks = (
  sym (number_at-front 0 bs (omega arith)) ∙ lacks.0,
  sym (number_at-front 8 bs (omega arith)) ∙ lacks.1,
  sym (number_at-front 16 bs (omega arith)) ∙ lacks.2,
  sym (number_at-front 24 bs (omega arith)) ∙ lacks.3,
  λ h. lacks.4 (ap (λ (n : ℕ). may_be_birth n f.birth) (number_at-front 32 bs (omega arith)) ∙ h),
)
LacksFront-front f bs Broken lacks = lacks

-- a journal whose front lacks nothing is refused for what follows, and else for that
pub refused_front : (f : FileFacts) (bs : List ℕ) (fault : JournalFault) → 56 ≤ length bs → LacksFront f bs fault → IsRefusedAs f bs fault
refused_front f bs NoJournal long lacks = (long, lacks)
refused_front f bs OtherVersion long lacks = (long, lacks)
refused_front f bs OtherLength long lacks = (long, lacks)
refused_front f bs OtherFile long lacks = (long, lacks)
refused_front f bs OtherBirth long lacks = (long, lacks)
refused_front f bs Broken long lacks = absurd lacks
