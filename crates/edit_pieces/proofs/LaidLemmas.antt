-- Bytes that are laid over others, whole or in pieces.
use Rattle.std.proofs.Common.{◌≡◌, ℕ, zero, suc, ◌+◌, ◌<◌, ◌≤◌, Bool, true, false, List, [], ◌∷◌, ◌++◌, length, take, drop, refl, sym, ap, ◌∙◌, arith, min}
use Rattle.std.specs.Prelude.{nat_le, if◌then◌else◌}
use Rattle.std.specs.List.{flat_map, AllByRecursion}
use Rattle.std.specs.Str.{bytes_eq}
use Rattle.std.proofs.lemmas.Bool.{leb-true, leb-false}
use Rattle.std.proofs.lemmas.List.{append-nil, take_all, drop_all, length-drop, length-take, drop-append-le}
use Rattle.std.proofs.lemmas.Slice.Eq.{bytes_eq-Decides}
use Rattle.journal_codes.specs.Codes.{Span}
use Rattle.journal_save.specs.Disk.{laid, laid_all}
use Rattle.journal_save.proofs.Laid.{laid_all-append, laid_own}
use Rattle.edit_pieces.specs.Changes.{header_change, header_left}
use Rattle.edit_pieces.specs.Pieces.{cut_by, pieces_in, IsPieceOf, ArePiecesOf}

-- ---- laid at a place

pub laid-none : (at : ℕ) (file : List ℕ) → laid at [] file ≡ file
laid-none at [] = refl
laid-none zero (x ∷ file) = refl
laid-none (suc at) (x ∷ file) = ap (λ (l : List ℕ). x ∷ l) (laid-none at file)

laid-behind : (xs ys bs : List ℕ) → laid (length xs) bs (xs ++ ys) ≡ xs ++ laid 0 bs ys
laid-behind [] ys bs = refl
laid-behind (x ∷ xs) ys bs = ap (λ (l : List ℕ). x ∷ l) (laid-behind xs ys bs)

laid-front : (bs ys : List ℕ) → length bs ≤ length ys → laid 0 bs ys ≡ bs ++ drop (length bs) ys
laid-front [] ys h = laid-none 0 ys
laid-front (b ∷ bs) [] h = absurd (omega arith)
laid-front (b ∷ bs) (y ∷ ys) h = ap (λ (l : List ℕ). b ∷ l) (laid-front bs ys (omega arith))

-- behind the first n bytes
pub laid-at : (n : ℕ) (xs ys bs : List ℕ) → length xs ≡ n → length bs ≤ length ys → laid n bs (xs ++ ys) ≡ xs ++ (bs ++ drop (length bs) ys)
laid-at n xs ys bs e h = ap (λ (k : ℕ). laid k bs (xs ++ ys)) (sym e) ∙ laid-behind xs ys bs ∙ ap (λ (l : List ℕ). xs ++ l) (laid-front bs ys h)

-- bytes that are laid in two parts
laid-split : (at k j : ℕ) (bs file : List ℕ) → j ≡ k + at → laid j (drop k bs) (laid at (take k bs) file) ≡ laid at bs file
laid-split at k j bs [] e = refl
laid-split zero zero zero bs (x ∷ file) e = refl
laid-split zero zero (suc j) bs (x ∷ file) e = absurd (omega arith)
laid-split zero (suc k) zero bs (x ∷ file) e = absurd (omega arith)
laid-split zero (suc k) (suc j) [] (x ∷ file) e = ap (λ (l : List ℕ). x ∷ l) (laid-none j file)
laid-split zero (suc k) (suc j) (b ∷ bs) (x ∷ file) e = ap (λ (l : List ℕ). b ∷ l) (laid-split zero k j bs file (omega arith))
laid-split (suc at) k zero bs (x ∷ file) e = absurd (omega arith)
laid-split (suc at) k (suc j) bs (x ∷ file) e = ap (λ (l : List ℕ). x ∷ l) (laid-split at k j bs file (omega arith))

-- ---- laid in pieces

-- pieces of some bytes are those bytes
laid-cut : (room n at : ℕ) (bs file : List ℕ) → 0 < room → length bs ≤ n → laid_all (cut_by room n at bs) file ≡ laid at bs file
laid-cut room n at [] file some h = sym (laid-none at file)
laid-cut room zero at (b ∷ bs) file some h = absurd (omega arith)
laid-cut room (suc n) at (b ∷ bs) file some h =
    let l : List ℕ = b ∷ bs in
    let left : length (drop room l) ≤ n = omega (arith, length-drop room l) in
    laid-cut room n (at + room) (drop room l) (laid at (take room l) file) some left
    ∙ laid-split at room (at + room) l file (omega arith)

pub laid-pieces : (ss : List Span) (file : List ℕ) → laid_all (flat_map pieces_in ss) file ≡ laid_all ss file
laid-pieces [] file = refl
laid-pieces (s ∷ ss) file =
    laid_all-append (pieces_in s) (flat_map pieces_in ss) file
    ∙ ap (λ (f : List ℕ). laid_all (flat_map pieces_in ss) f) (laid-cut 65536 (length s.1) s.0 s.1 file (omega arith) (omega arith))
    ∙ laid-pieces ss (laid s.0 s.1 file)

-- it does not matter how many pieces there may be, if they are enough
cut-enough : (room n m at : ℕ) (bs : List ℕ) → 0 < room → length bs ≤ n → length bs ≤ m → cut_by room n at bs ≡ cut_by room m at bs
cut-enough room n m at [] some h k = refl
cut-enough room zero m at (b ∷ bs) some h k = absurd (omega arith)
cut-enough room (suc n) zero at (b ∷ bs) some h k = absurd (omega arith)
cut-enough room (suc n) (suc m) at (b ∷ bs) some h k =
    let l : List ℕ = b ∷ bs in
    let left_n : length (drop room l) ≤ n = omega (arith, length-drop room l) in
    let left_m : length (drop room l) ≤ m = omega (arith, length-drop room l) in
    ap (λ (ss : List Span). (at, take room l) ∷ ss) (cut-enough room n m (at + room) (drop room l) some left_n left_m)

-- the first piece, and the others
cut-next : (room at size : ℕ) (bs : List ℕ) → 0 < room → 0 < length bs → size ≡ min (length bs) room
    → cut_by room (length bs) at bs ≡ (at, take size bs) ∷ cut_by room (length (drop size bs)) (at + size) (drop size bs)
cut-next room at size [] some h e = absurd (omega arith)
cut-next room at size (b ∷ bs) some h e = side (nat_le (length l) room) refl where
  l : List ℕ
  l = b ∷ bs

  side : (short : Bool) → nat_le (length l) room ≡ short → cut_by room (length l) at l ≡ (at, take size l) ∷ cut_by room (length (drop size l)) (at + size) (drop size l)
  side true q =
      let le : length l ≤ room = leb-true (length l) room q in
      let all : size ≡ length l = omega arith in
      let none : drop room l ≡ [] = drop_all room l le in
      let none_too : drop size l ≡ [] = drop_all size l (omega arith) in
      let same : take room l ≡ take size l = take_all room l le ∙ sym (take_all size l (omega arith)) in
      rw (none, none_too, same) refl
  side false q =
      let lt : room < length l = leb-false (length l) room q in
      let all : size ≡ room = omega arith in
      let left : length (drop room l) ≤ length bs = omega (arith, length-drop room l) in
      let left_too : length (drop room l) ≤ length (drop room l) = omega arith in
      rw all (ap (λ (ss : List Span). (at, take room l) ∷ ss) (cut-enough room (length bs) (length (drop room l)) (at + room) (drop room l) some left left_too))

pub pieces-next : (at size : ℕ) (bs : List ℕ) → 0 < length bs → size ≡ min (length bs) 65536 → pieces_in (at, bs) ≡ (at, take size bs) ∷ pieces_in (at + size, drop size bs)
pieces-next at size bs h e = cut-next 65536 at size bs (omega arith) h e

pub pieces-none : (at : ℕ) (bs : List ℕ) → length bs ≡ 0 → pieces_in (at, bs) ≡ []
pieces-none at [] h = refl
pieces-none at (b ∷ bs) h = absurd (omega arith)

-- ---- pieces inside a file

pub all-append : {X : Type 0} (P : X → Type 0) (xs ys : List X) → AllByRecursion P xs → AllByRecursion P ys → AllByRecursion P (xs ++ ys)
all-append P [] ys h k = k
all-append P (x ∷ xs) ys h k = (h.0, all-append P xs ys h.1 k)

cut-inside : (room n at file : ℕ) (bs : List ℕ) → 0 < room → room ≤ 65536 → (0 < length bs → at + length bs ≤ file) → ArePiecesOf file (cut_by room n at bs)
cut-inside room n at file [] some small h = tt
cut-inside room zero at file (b ∷ bs) some small h = tt
cut-inside room (suc n) at file (b ∷ bs) some small h =
    let l : List ℕ = b ∷ bs in
    let inside : at + length l ≤ file = h (omega arith) in
    let size : length (take room l) ≡ min room (length l) = length-take room l in (
      record { some = omega arith; small = omega arith; inside = omega arith },
      cut-inside room n (at + room) file (drop room l) some small (λ left. omega (arith, length-drop room l)),
    )

-- a change that ends inside a file
abbrev pub IsInFile : ℕ → Span → Type 0
IsInFile file s = s.0 + length s.1 ≤ file

pub pieces-inside : (file : ℕ) (ss : List Span) → AllByRecursion (IsInFile file) ss → ArePiecesOf file (flat_map pieces_in ss)
pieces-inside file [] h = tt
pieces-inside file (s ∷ ss) h =
    all-append (IsPieceOf file) (pieces_in s) (flat_map pieces_in ss) (cut-inside 65536 (length s.1) s.0 file s.1 (omega arith) (omega arith) (λ some. h.0)) (pieces-inside file ss h.1)

-- ---- headers

pub drop-behind : (n : ℕ) (xs ys : List ℕ) → length xs ≡ n → drop n (xs ++ ys) ≡ ys
drop-behind n xs ys e = drop-append-le n xs ys (omega (arith, e)) ∙ ap (λ (l : List ℕ). l ++ ys) (drop_all n xs (omega (arith, e)))

-- a header that is left out lies there already
pub laid-header : (at : ℕ) (header file now : List ℕ) → drop at now ≡ drop at file → laid_all (header_change at header file) now ≡ laid at header now
laid-header at header file now same = side (bytes_eq header (take (length header) (drop at file))) refl where
  side : (b : Bool) → bytes_eq header (take (length header) (drop at file)) ≡ b → laid_all (if b then [] else (at, header) ∷ []) now ≡ laid at header now
  side true q =
      let is : header ≡ take (length header) (drop at now) =
      (bytes_eq-Decides header (take (length header) (drop at file))).0 q ∙ ap (λ (l : List ℕ). take (length header) l) (sym same) in
      sym (ap (λ (l : List ℕ). laid at l now) is ∙ laid_own at (length header) now)
  side false q = refl

pub header-inside : (at : ℕ) (header file : List ℕ) (n : ℕ) → at + length header ≤ n → AllByRecursion (IsInFile n) (header_change at header file)
header-inside at header file n h = side (bytes_eq header (take (length header) (drop at file))) where
  side : (b : Bool) → AllByRecursion (IsInFile n) (if b then [] else (at, header) ∷ [])
  side true = tt
  side false = (h, tt)

pub header-pieces : (at : ℕ) (header file : List ℕ) → pieces_in (at, header_left at header file) ≡ flat_map pieces_in (header_change at header file)
header-pieces at header file = side (bytes_eq header (take (length header) (drop at file))) where
  side : (b : Bool) → pieces_in (at, if b then [] else header) ≡ flat_map pieces_in (if b then [] else (at, header) ∷ [])
  side true = refl
  side false = sym (append-nil (pieces_in (at, header)))
