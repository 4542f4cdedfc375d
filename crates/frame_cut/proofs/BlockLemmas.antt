-- The extended textual headers are found in the bytes that they have, whatever follows.
use Rattle.std.proofs.Common.{◌≡◌, ℕ, zero, suc, ◌+◌, ◌*◌, ◌/◌, ◌<◌, ◌≤◌, Bool, true, false, cond, List, [], ◌∷◌, ◌++◌, length, take, drop, get_or, Option, Some, None, refl, sym, ap, ◌∙◌, arith, ℤ, pos, negsuc}
use Rattle.std.specs.Prelude.{position, option_map}
use Rattle.std.specs.List.{concat, position_or_len, AllByRecursion}
use Rattle.std.proofs.lemmas.List.{length-append, length-drop, take-append-le, drop-append-le, drop-drop, length-take}
use Rattle.std.proofs.Math.Seq.{take-add}
use Rattle.std.proofs.lemmas.List.Quantifiers.{position-Some}
use Rattle.std.proofs.lemmas.List.Sums.{position_or_len_is}
use Rattle.std.proofs.lemmas.Bool.{lt-ltb, le-ltb, le-leb, leb-true}
use Rattle.std.specs.Simd.{first_chunks}
use Rattle.text_block.specs.Blocks.{ends_text}
use Rattle.frame_cut.specs.Heads.{blocks_of, blocks_to_end, blocks_for}

-- bytes inside the front of a list
pub slice-append : (k n : ℕ) (t more : List ℕ) → k + n ≤ length t → take n (drop k (t ++ more)) ≡ take n (drop k t)
slice-append k n t more h =
    let first : k ≤ length t = omega arith in
    let second : n ≤ length (drop k t) = omega (arith, length-drop k t) in
    ap (take n) (drop-append-le k t more first) ∙ take-append-le n (drop k t) more second

pub length-blocks_of : (n : ℕ) (xs : List ℕ) → length (blocks_of n xs) ≡ n
length-blocks_of zero xs = refl
length-blocks_of (suc n) xs = ap suc (length-blocks_of n (drop 3200 xs))

-- block k of some
pub get_or-blocks_of : (n : ℕ) (xs : List ℕ) (k : ℕ) (d : List ℕ) → k < n → get_or (blocks_of n xs) k d ≡ take 3200 (drop (3200 * k) xs)
get_or-blocks_of zero xs k d h = absurd (omega arith)
get_or-blocks_of (suc n) xs zero d h = refl
get_or-blocks_of (suc n) xs (suc k) d h =
    let at : 3200 + 3200 * k ≡ 3200 * suc k = omega arith in
    get_or-blocks_of n (drop 3200 xs) k d (omega arith) ∙ ap (take 3200) (drop-drop (3200 * k) 3200 xs ∙ ap (λ (i : ℕ). drop i xs) at)

-- the first place that passes
pub position_is : {X : Type 0} (p : X → Bool) (xs : List X) (i : ℕ) (d : X) → i < length xs → ((k : ℕ) → k < i → p (get_or xs k d) ≡ false) → p (get_or xs i d) ≡ true → position p xs ≡ Some i
position_is p xs i d h before here =
    let at : position_or_len p xs ≡ i = position_or_len_is p xs i d (omega arith) before (λ _. here) in
    rw (at, lt-ltb i (length xs) h) refl

-- the search for a block that passes sees no more than the blocks up to it
pub position-front : (p : List ℕ → Bool) (m n i : ℕ) (front xs ys : List ℕ) → position p (blocks_of m (front ++ xs)) ≡ Some i → length front ≡ 3200 * (i + 1) → i < n
    → position p (blocks_of n (front ++ ys)) ≡ Some i
position-front p m n i front xs ys e len inside =
    let found = position-Some p (blocks_of m (front ++ xs)) i [] e in
    let short : i < m = omega (arith, found.0, length-blocks_of m (front ++ xs)) in
    let same : (k : ℕ) → k ≤ i → get_or (blocks_of n (front ++ ys)) k [] ≡ get_or (blocks_of m (front ++ xs)) k [] =
    λ k l. get_or-blocks_of n (front ++ ys) k [] (omega arith)
    ∙ slice-append (3200 * k) 3200 front ys (omega arith)
    ∙ sym (slice-append (3200 * k) 3200 front xs (omega arith))
    ∙ sym (get_or-blocks_of m (front ++ xs) k [] (omega arith)) in
    position_is p (blocks_of n (front ++ ys)) i [] (omega (arith, length-blocks_of n (front ++ ys)))
    (λ k l. ap p (same k (omega arith)) ∙ found.2 k l)
    (ap p (same i (omega arith)) ∙ found.1)

-- one more than a place is the number n
counted : (o : Option ℕ) (n : ℕ) → option_map (λ (i : ℕ). i + 1) o ≡ Some n → (i : ℕ) × (o ≡ Some i) × (i + 1 ≡ n)
counted None n e = absurd cc
counted (Some i) n e = (i, refl, cc)

to_end-front : (n : ℕ) (front xs ys : List ℕ) → length front ≡ 3200 * n → blocks_to_end (front ++ xs) ≡ Some n → blocks_to_end (front ++ ys) ≡ Some n
to_end-front n front xs ys len e =
    let at = counted (position ends_text (blocks_of (length (front ++ xs) / 3200) (front ++ xs))) n e in
    let more : at.0 < length (front ++ ys) / 3200 = omega (arith, length-append front ys, at.2, len) in
    ap (option_map (λ (i : ℕ). i + 1)) (position-front ends_text (length (front ++ xs) / 3200) (length (front ++ ys) / 3200) at.0 front xs ys at.1 (omega (arith, at.2, len)) more)
    ∙ ap (λ (k : ℕ). let o : Option ℕ = Some k in o) at.2

exactly : (b : Bool) (k n : ℕ) → cond b (Some k) None ≡ Some n → (b ≡ true) × (k ≡ n)
exactly true k n e = (refl, cc)
exactly false k n e = absurd cc

-- the number of blocks is found again with other bytes behind them
pub blocks_for-front : (count : ℤ) (n : ℕ) (front xs ys : List ℕ) → length front ≡ 3200 * n → blocks_for count (front ++ xs) ≡ Some n → blocks_for count (front ++ ys) ≡ Some n
blocks_for-front (pos k) n front xs ys len e =
    let is = exactly _ k n e in
    let fits : 3200 * k ≤ length (front ++ ys) = omega (arith, length-append front ys, is.1, len) in
    rw (le-leb (3200 * k) (length (front ++ ys)) fits) (ap (λ (k : ℕ). let o : Option ℕ = Some k in o) is.1)
blocks_for-front (negsuc zero) n front xs ys len e = to_end-front n front xs ys len e
blocks_for-front (negsuc (suc k)) n front xs ys len e = absurd cc

-- and they stand within the bytes
pub blocks_for-le : (count : ℤ) (n : ℕ) (rest : List ℕ) → blocks_for count rest ≡ Some n → 3200 * n ≤ length rest
blocks_for-le (pos k) n rest e =
    let is = exactly _ k n e in
    let fits : 3200 * k ≤ length rest = leb-true (3200 * k) (length rest) is.0 in
    omega (arith, is.1)
blocks_for-le (negsuc zero) n rest e =
    let at = counted (position ends_text (blocks_of (length rest / 3200) rest)) n e in
    let found = position-Some ends_text (blocks_of (length rest / 3200) rest) at.0 [] at.1 in
    omega (arith, found.0, length-blocks_of (length rest / 3200) rest, at.2)
blocks_for-le (negsuc (suc k)) n rest e = absurd cc

-- blocks joined are the bytes that they were cut from
pub concat-blocks_of : (n : ℕ) (xs : List ℕ) → concat (blocks_of n xs) ≡ take (3200 * n) xs
concat-blocks_of zero xs = refl
concat-blocks_of (suc n) xs =
    let at : 3200 + 3200 * n ≡ 3200 * suc n = omega arith in
    ap (λ (ys : List ℕ). take 3200 xs ++ ys) (concat-blocks_of n (drop 3200 xs))
    ∙ sym (take-add 3200 (3200 * n) xs)
    ∙ ap (λ (k : ℕ). take k xs) at

pub whole-blocks_of : (n : ℕ) (xs : List ℕ) → 3200 * n ≤ length xs → AllByRecursion (λ (b : List ℕ). length b ≡ 3200) (blocks_of n xs)
whole-blocks_of zero xs h = tt
whole-blocks_of (suc n) xs h =
    (omega (arith, length-take 3200 xs), whole-blocks_of n (drop 3200 xs) (omega (arith, length-drop 3200 xs)))

-- ---- the search for the block that ends the text

chunks-are : (n : ℕ) (xs : List ℕ) → first_chunks 3200 n xs ≡ blocks_of n xs
chunks-are zero xs = refl
chunks-are (suc n) xs = ap (λ (bs : List (List ℕ)). take 3200 xs ∷ bs) (chunks-are n (drop 3200 xs))

position_none : {X : Type 0} (p : X → Bool) (xs : List X) (d : X) → ((k : ℕ) → k < length xs → p (get_or xs k d) ≡ false) → position p xs ≡ None
position_none p xs d none =
    let at : position_or_len p xs ≡ length xs = position_or_len_is p xs (length xs) d (omega arith) none (λ h. absurd (omega arith)) in
    rw (at, le-ltb (length xs) (length xs) (omega arith)) refl

-- the first block that ends the text
pub end_found : (rest : List ℕ) (blocks : List (List ℕ)) (i : ℕ) (d : List ℕ) → blocks ≡ first_chunks 3200 (length rest / 3200) rest → i < length blocks → ((k : ℕ) → k < i → ends_text (get_or blocks k d) ≡ false) → ends_text (get_or blocks i d) ≡ true
    → blocks_to_end rest ≡ Some (i + 1)
end_found rest blocks i d e h before here =
    ap (λ (bs : List (List ℕ)). option_map (λ (k : ℕ). k + 1) (position ends_text bs)) (sym (chunks-are (length rest / 3200) rest) ∙ sym e)
    ∙ ap (option_map (λ (k : ℕ). k + 1)) (position_is ends_text blocks i d h before here)

-- none ends it
pub end_missing : (rest : List ℕ) (blocks : List (List ℕ)) (d : List ℕ) → blocks ≡ first_chunks 3200 (length rest / 3200) rest → ((k : ℕ) → k < length blocks → ends_text (get_or blocks k d) ≡ false) → blocks_to_end rest ≡ None
end_missing rest blocks d e none =
    ap (λ (bs : List (List ℕ)). option_map (λ (k : ℕ). k + 1) (position ends_text bs)) (sym (chunks-are (length rest / 3200) rest) ∙ sym e)
    ∙ ap (option_map (λ (k : ℕ). k + 1)) (position_none ends_text blocks d none)
