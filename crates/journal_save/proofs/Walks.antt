-- One piece of a journal after another.
use Rattle.std.proofs.Common.{◌≡◌, ◌↔◌, inr, ℕ, ◌+◌, ◌-◌, ◌<◌, ◌≤◌, Bool, true, false, not, nat_eq, IsTrue, List, [], ◌∷◌, ◌++◌, length, take, drop, Option, Some, Result, Err, IfErr, refl, sym, ◌∙◌, ap, subst, arith, append_assoc}
use Rattle.std.proofs.lemmas.List.{take_all, drop-take, take-take, take_at, drop_all, drop-drop, length-drop, length-take, append-nil, take-append-drop}
use Rattle.std.proofs.lemmas.Bool.{not-false, not-true}
use Rattle.std.specs.Cmp.Lexicographic.{same_text, other_text}
use lib.Pointwise.{pointwise}
use Rattle.md5.specs.Md5.{Holds, md5}
use Rattle.md5.specs.declared.Md5.{Md5}
use Rattle.journal_codes.specs.Codes.{Span, place_in, size_in, IsPiece, ArePieces, HasFront, LacksFront, IsWhole, IsJournal, IsRefusedAs}
use Rattle.journal_codes.specs.declared.file_facts.FileFacts.{FileFacts}
use Rattle.journal_codes.specs.declared.heads.Head.{Head}
use Rattle.journal_codes.specs.declared.journal_fault.JournalFault.{JournalFault}
use Rattle.journal_codes.specs.declared.journal_fault.JournalFault.TheVariants.{Broken}
use Rattle.journal_codes.proofs.Reading.{place_in-front, size_in-front, ArePieces-first, ArePieces-nil, HasFront-front, LacksFront-front, refused_front}
use Rattle.journal_save.specs.Disk.{Disk, IsPart, Shows}
use Rattle.journal_save.specs.Walking.{IsNext, IsListedAt, IsUnlisted, AreTaken, AreUnlisted, IsRefusal}
use Rattle.journal_save.specs.declared.listing.Listed.{Listed}
use Rattle.journal_save.specs.declared.errors.RecoverError.{RecoverError}
use Rattle.journal_save.specs.declared.errors.RecoverError.TheVariants.{Refused, Failed}

not_so : (r : Bool) (P : Type 0) → (IsTrue r ↔ P) → r ≡ false → P → ⊥
not_so r P iff is p = let h : r ≡ true = iff.1 p in cc

pub shows_again : (a b : Option Disk) (bytes : List ℕ) → b ≡ a → Shows a bytes → Shows b bytes
shows_again a b bytes same shows = subst (λ (o : Option Disk). Shows o bytes) (sym same) shows

-- what a test of two texts has told
pub texts_same : (xs ys : List ℕ) (r : Bool) → r ≡ not (pointwise nat_eq xs ys) → r ≡ false → xs ≡ ys
texts_same xs ys r is same = same_text xs ys (sym (not-false (pointwise nat_eq xs ys) (sym is ∙ same)))

pub texts_differ : (xs ys : List ℕ) (r : Bool) → r ≡ not (pointwise nat_eq xs ys) → r ≡ true → xs ≡ ys → ⊥
texts_differ xs ys r is differ = other_text xs ys (sym (not-true (pointwise nat_eq xs ys) (sym is ∙ differ)))

-- the exit of a `?`
pub if_err : {T E : Type 0} (F : E → Type 0) (r : Result T E) (e : E) → r ≡ Err e → F e → IfErr r F
if_err F r e is h = subst (λ x. IfErr x F) (sym is) h

pub next_is : (o : Option Head) (head : Head) (room : List ℕ) (old new : List Span) → o ≡ Some head → IsNext o room old new → (head.size ≤ 65536) × (old ≡ (head.place, take head.size room) ∷ new)
next_is o head room old new is next = subst (λ (x : Option Head). IsNext x room old new) is next

rest_is : (from end : ℕ) (bytes : List ℕ) → from ≤ end → drop from (take end bytes) ≡ take (end - from) (drop from bytes)
rest_is from end bytes le =
    let e : end ≡ from + (end - from) = omega arith in
    ap (λ (n : ℕ). drop from (take n bytes)) e ∙ drop-take from (end - from) bytes

pub length_rest : (from end : ℕ) (bytes : List ℕ) → end ≤ length bytes → length (drop from (take end bytes)) ≡ end - from
length_rest from end bytes le = omega (arith, length-drop from (take end bytes), length-take end bytes)

front_is : (from end : ℕ) (bytes front : List ℕ) → from + 16 ≤ end → length front ≡ 16 → IsPart from front bytes → front ≡ take 16 (drop from (take end bytes))
front_is from end bytes front le long part =
    part.1 ∙ ap (λ (n : ℕ). take n (drop from bytes)) long ∙ sym (take-take 16 (end - from) (drop from bytes) (omega arith)) ∙ ap (take 16) (sym (rest_is from end bytes (omega arith)))

bytes_are : (from end size : ℕ) (bytes part : List ℕ) → from + 16 + size ≤ end → length part ≡ size → IsPart (from + 16) part bytes → part ≡ take size (drop 16 (drop from (take end bytes)))
bytes_are from end size bytes part le long read =
    read.1 ∙ ap (λ (n : ℕ). take n (drop (from + 16) bytes)) long ∙ sym (take-take size (end - (from + 16)) (drop (from + 16) bytes) (omega arith))
    ∙ ap (take size) (sym (rest_is (from + 16) end bytes (omega arith))) ∙ ap (take size) (sym (drop-drop 16 from (take end bytes)))

place_is : (place : ℕ) (front rest : List ℕ) → place ≡ place_in front → front ≡ take 16 rest → place ≡ place_in rest
place_is place front rest is same = is ∙ ap place_in same ∙ place_in-front rest

size_is : (size : ℕ) (front rest : List ℕ) → size ≡ size_in front → front ≡ take 16 rest → size ≡ size_in rest
size_is size front rest is same = is ∙ ap size_in same ∙ size_in-front rest

abbrev pub Inside : ℕ → ℕ → ℕ → ℕ → Type 0
Inside left place size file = (16 + size ≤ left) × (size ≤ 65536) × (place + size ≤ file)

module _ (file from end : ℕ) (bytes front : List ℕ) (head : Head) (long : length front ≡ 16) (place : head.place ≡ place_in front) (size : head.size ≡ size_in front) where
  -- it does not lie inside
  pub unlisted : (r : Bool) → from + 16 ≤ end → IsPart from front bytes → (IsTrue r ↔ Inside (end - from) head.place head.size file) → r ≡ false → end ≤ length bytes → IsPiece file (drop from (take end bytes)) → ⊥
  unlisted r le part iff is end_le piece =
      let same = front_is from end bytes front le long part in
      let p = place_is head.place front (drop from (take end bytes)) place same in
      let s = size_is head.size front (drop from (take end bytes)) size same in
      not_so r (Inside (end - from) head.place head.size file) iff is (
        omega (arith, piece.ends, length_rest from end bytes end_le, s),
        omega (arith, piece.small, s),
        omega (arith, piece.inside, s, p),
      )

  pub listed_at : (part rest : List ℕ) → from + 16 + head.size ≤ end → head.size ≤ 65536 → head.place + head.size ≤ file → IsPart from front bytes → length part ≡ head.size → IsPart (from + 16) part bytes → IsListedAt file (drop from (take end bytes)) (record { front = front; head = head }) (part ++ rest)
  listed_at part rest le small inside front_read part_long part_read =
      let same = front_is from end bytes front (omega arith) long front_read in
      let p = place_is head.place front (drop from (take end bytes)) place same in
      let s = size_is head.size front (drop from (take end bytes)) size same in
      let b = bytes_are from end head.size bytes part le part_long part_read in
      let t : take head.size (part ++ rest) ≡ part = take_at part rest head.size part_long in
      record {
        piece = record {
          ends = omega (arith, s, length-drop from (take end bytes), length-take end bytes, part_read.0, part_long);
          small = omega (arith, small, s);
          inside = omega (arith, inside, s, p);
        };
        front = same;
        size = s;
        span = ap (λ (n : ℕ). (n, take head.size (part ++ rest))) p ∙ ap (λ (l : List ℕ). (place_in (drop from (take end bytes)), l)) (t ∙ b ∙ ap (λ (n : ℕ). take n (drop 16 (drop from (take end bytes)))) s);
        bytes = t ∙ b;
      }

-- a walk over a journal has come to this place, and the hasher took in what is before
pub record IsWalked (file from end : ℕ) (bytes : List ℕ) (old new : Md5) : Type 0 where
  pub seen : List ℕ
  pub rest : seen ++ drop from (take end bytes) ≡ drop 40 (take end bytes)
  pub held : (m : List ℕ) → Holds old m → Holds new (m ++ seen)
  pub on : ArePieces file 0 (drop from (take end bytes)) → ArePieces file 0 (drop 40 (take end bytes))
  pub back : ArePieces file 0 (drop 40 (take end bytes)) → ArePieces file 0 (drop from (take end bytes))

pub walked_start : (file end : ℕ) (bytes : List ℕ) (hasher : Md5) → IsWalked file 40 end bytes hasher hasher
walked_start file end bytes hasher = record {
  seen = [];
  rest = refl;
  held = λ m held. subst (Holds hasher) (sym (append-nil m)) held;
  on = λ h. h;
  back = λ h. h;
}

pub is_some : (file : ℕ) (rest : List ℕ) → IsPiece file rest → 0 < length rest
is_some file rest piece = omega (arith, piece.ends)

pub first_piece : (file : ℕ) (rest : List ℕ) → 0 < length rest → ArePieces file 0 rest → IsPiece file rest × ArePieces file 0 (drop (16 + size_in rest) rest)
first_piece file rest some' are = subst (λ (T : Type 0). T) (ArePieces-first file rest some') are

with_piece : (file : ℕ) (rest : List ℕ) → IsPiece file rest → ArePieces file 0 (drop (16 + size_in rest) rest) → ArePieces file 0 rest
with_piece file rest piece are = subst (λ (T : Type 0). T) (sym (ArePieces-first file rest (is_some file rest piece))) (piece, are)

-- the rest behind a piece
pub behind : (from next size : ℕ) (all : List ℕ) → next ≡ from + (16 + size) → drop next all ≡ drop (16 + size) (drop from all)
behind from next size all is = ap (λ (n : ℕ). drop n all) is ∙ sym (drop-drop (16 + size) from all)

pub walked_on : (file from next end : ℕ) (bytes room : List ℕ) (listed : Listed) (old hasher new : Md5) → IsWalked file from end bytes old hasher → IsListedAt file (drop from (take end bytes)) listed room → next ≡ from + (16 + listed.head.size)
    → ((m : List ℕ) → Holds hasher m → Holds new ((m ++ listed.front) ++ take listed.head.size room)) → IsWalked file next end bytes old new
walked_on file from next end bytes room listed old hasher new w l is held =
    let rest = drop from (take end bytes) in
    let size = listed.head.size in
    let more : drop next (take end bytes) ≡ drop (16 + size) rest = behind from next size (take end bytes) is in
    let more2 : drop next (take end bytes) ≡ drop (16 + size_in rest) rest = more ∙ ap (λ (n : ℕ). drop (16 + n) rest) l.size in
    let cut : rest ≡ take 16 rest ++ (take size (drop 16 rest) ++ drop (16 + size) rest) =
    sym (take-append-drop 16 rest) ∙ ap (λ (x : List ℕ). take 16 rest ++ x) (sym (take-append-drop size (drop 16 rest)) ∙ ap (λ (x : List ℕ). take size (drop 16 rest) ++ x) (drop-drop size 16 rest)) in
    record {
      seen = (w.seen ++ listed.front) ++ take size room;
      rest = ap (λ (x : List ℕ). ((w.seen ++ x) ++ take size room) ++ drop next (take end bytes)) l.front ∙ ap (λ (x : List ℕ). ((w.seen ++ take 16 rest) ++ x) ++ drop next (take end bytes)) l.bytes
          ∙ append_assoc (w.seen ++ take 16 rest) (take size (drop 16 rest)) (drop next (take end bytes)) ∙ append_assoc w.seen (take 16 rest) (take size (drop 16 rest) ++ drop next (take end bytes))
          ∙ ap (λ (x : List ℕ). w.seen ++ (take 16 rest ++ (take size (drop 16 rest) ++ x))) more ∙ ap (λ (x : List ℕ). w.seen ++ x) (sym cut) ∙ w.rest;
      held = λ m h. subst (Holds new) (ap (λ (x : List ℕ). x ++ take size room) (append_assoc m w.seen listed.front) ∙ append_assoc m (w.seen ++ listed.front) (take size room)) (held (m ++ w.seen) (w.held m h));
      on = λ are. w.on (with_piece file rest l.piece (subst (ArePieces file 0) more2 are));
      back = λ are. subst (ArePieces file 0) (sym more2) (first_piece file rest (is_some file rest l.piece) (w.back are)).1;
    }

pub at_end : (from end : ℕ) (bytes : List ℕ) → end ≤ from → drop from (take end bytes) ≡ []
at_end from end bytes le = drop_all from (take end bytes) (omega (arith, length-take end bytes))

pub walked_end : (file from end : ℕ) (bytes : List ℕ) (old new : Md5) → end ≤ from → IsWalked file from end bytes old new → AreTaken file (drop 40 (take end bytes)) old new
walked_end file from end bytes old new le w =
    let none = at_end from end bytes le in record {
      pieces = w.on (subst (ArePieces file 0) (sym none) (ArePieces-nil file));
      held = λ m h. subst (λ (x : List ℕ). Holds new (m ++ x)) (sym (append-nil w.seen) ∙ ap (λ (x : List ℕ). w.seen ++ x) (sym none) ∙ w.rest) (w.held m h);
    }

pub walked_lost : (error : RecoverError) (file from end : ℕ) (bytes : List ℕ) (old new : Md5) → from < end → end ≤ length bytes → IsWalked file from end bytes old new → IsUnlisted error file (drop from (take end bytes)) → AreUnlisted error file (drop 40 (take end bytes))
walked_lost (Refused fault) file from end bytes old new lt le w lost = (lost.0, λ are. lost.1 (first_piece file (drop from (take end bytes)) (omega (arith, length_rest from end bytes le)) (w.back are)).0)
walked_lost (Failed error) file from end bytes old new lt le w lost = tt

-- the front and the end of a journal of so many bytes
front_of : (bytes front : List ℕ) → length front ≡ 40 → IsPart 0 front bytes → front ≡ take 40 bytes
front_of bytes front long part = part.1 ∙ ap (λ (n : ℕ). take n bytes) long

digest_at : (end : ℕ) (bytes digest : List ℕ) → end + 16 ≡ length bytes → length digest ≡ 16 → IsPart end digest bytes → digest ≡ drop end bytes
digest_at end bytes digest is long part = part.1 ∙ take_all (length digest) (drop end bytes) (omega (arith, length-drop end bytes))

pub end_is : (end : ℕ) (bytes : List ℕ) → end + 16 ≡ length bytes → length bytes - 16 ≡ end
end_is end bytes is = omega arith

-- all of a journal was taken into a hasher
pub journal_held : (file end : ℕ) (bytes front : List ℕ) (start old new : Md5) → end + 16 ≡ length bytes → 40 ≤ end → length front ≡ 40 → IsPart 0 front bytes → Holds start [] → ((m : List ℕ) → Holds start m → Holds old (m ++ front)) → AreTaken file (drop 40 (take end bytes)) old new → Holds new (take end bytes)
journal_held file end bytes front start old new is le long part none first taken =
    subst (Holds new) (ap (λ (x : List ℕ). x ++ drop 40 (take end bytes)) (front_of bytes front long part ∙ sym (take-take 40 end bytes le)) ∙ take-append-drop 40 (take end bytes)) (taken.held front (first [] none))

module _ (facts : FileFacts) (size end : ℕ) (bytes front : List ℕ) (size_is : size ≡ length bytes) (is : end + 16 ≡ size) (le : 40 ≤ end) (long : length front ≡ 40) (part : IsPart 0 front bytes) where
  ends : end + 16 ≡ length bytes
  ends = is ∙ size_is

  cut : length bytes - 16 ≡ end
  cut = end_is end bytes ends

  pub front_lacks : (fault : JournalFault) → LacksFront facts front fault → IsRefusedAs facts bytes fault
  front_lacks fault lacks = refused_front facts bytes fault (omega (arith, ends)) (LacksFront-front facts bytes fault (subst (λ (x : List ℕ). LacksFront facts x fault) (front_of bytes front long part) lacks))

  pub front_has : HasFront facts front → HasFront facts bytes
  front_has has = HasFront-front facts bytes (subst (HasFront facts) (front_of bytes front long part) has)

  not_whole : (IsWhole facts bytes → ⊥) → HasFront facts front → IsRefusedAs facts bytes Broken
  not_whole no' has = inr (front_has has, no')

  pub pieces_lack : (error : RecoverError) → HasFront facts front → AreUnlisted error facts.length (drop 40 (take end bytes)) → IsRefusal error facts bytes
  pieces_lack (Refused fault) has lack = subst (IsRefusedAs facts bytes) (sym lack.0) (not_whole (λ w. lack.1 (subst (λ (n : ℕ). ArePieces facts.length 0 (drop 40 (take n bytes))) cut w.pieces)) has)
  pieces_lack (Failed error) has lack = tt

  module _ (digest computed : List ℕ) (start old new : Md5) (digest_long : length digest ≡ 16) (digest_part : IsPart end digest bytes) (none : Holds start []) (first : (m : List ℕ) → Holds start m → Holds old (m ++ front)) (taken : AreTaken facts.length (drop 40 (take end bytes)) old new) (made : (m : List ℕ) → Holds new m → computed ≡ md5 m) where
    computed_is : computed ≡ md5 (take end bytes)
    computed_is = made (take end bytes) (journal_held facts.length end bytes front start old new ends le long part none first taken)

    pub digest_lacks : HasFront facts front → (digest ≡ computed → ⊥) → IsRefusedAs facts bytes Broken
    digest_lacks has differs = not_whole (λ w. differs (digest_at end bytes digest ends digest_long digest_part ∙ subst (λ (n : ℕ). drop n bytes ≡ md5 (take n bytes)) cut w.digest ∙ sym computed_is)) has

    pub is_journal : HasFront facts front → digest ≡ computed → IsJournal facts bytes
    is_journal has same = record {
      long = omega (arith, ends);
      front = front_has has;
      whole = record {
        pieces = subst (λ (n : ℕ). ArePieces facts.length 0 (drop 40 (take n bytes))) (sym cut) taken.pieces;
        digest = subst (λ (n : ℕ). drop n bytes ≡ md5 (take n bytes)) (sym cut) (sym (digest_at end bytes digest ends digest_long digest_part) ∙ same ∙ computed_is);
      };
    }

-- too few bytes are left for what stands before a piece
pub too_short : (file from end : ℕ) (bytes : List ℕ) → end - from < 16 → end ≤ length bytes → IsPiece file (drop from (take end bytes)) → ⊥
too_short file from end bytes short le piece = absurd (omega (arith, piece.ends, length_rest from end bytes le))
