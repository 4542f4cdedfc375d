-- How lines are taken from a reader, part by part.
use Rattle.std.proofs.Common.{◌≡◌, ◌≢◌, ◌<◌, ◌≤◌, ◌-◌, ℕ, suc, nat_eq, take, drop, cond, not, ◌+◌, ◌||◌, length, List, [], ◌∷◌, ◌++◌, true, false, Option, Some, None, arith, refl, ◌∙◌, ap, sym, subst, append_assoc, append-nil, length-append}
use Rattle.std.specs.Prelude.{slice_range, IfSome}
use Rattle.std.specs.List.{list_any, before_first, after_first, position_or_len}
use Rattle.std.proofs.lemmas.List.{drop-take, drop-drop, length-take}
use Rattle.std.proofs.lemmas.Bool.{eq-eqb}
use Rattle.std.specs.Io.KnownBytes.{Consumes, IsAtEnd}
use Rattle.script_words.specs.Words.{is_line_feed}
use Rattle.script_run.proofs.LineEndLemmas.{cut_in_part, part_in_front, last_part}
use Rattle.script_run.specs.Input.{SessionLine, ended, cut_off, session_lines, left_of, TakesLine, TakesLines, TakesFront, KeepsTaken, Held, Holds, nothing_held, IsFront}

-- ---- a slice

first_found : (xs : List ℕ) → list_any is_line_feed xs ≡ true → position_or_len is_line_feed xs < length xs
first_found [] h = cc
first_found (b ∷ bs) h =
    elim (is_line_feed b) as (λ v. (v || list_any is_line_feed bs) ≡ true → cond (not v) (1 + position_or_len is_line_feed bs) 0 < suc (length bs))
    [ true ↦ λ e. omega arith | false ↦ λ e. let rest = first_found bs e in omega (arith, rest) ] h

-- what stands in front of a line feed, and the line feed, are in the slice
pub within_slice : (room part : List ℕ) (from to : ℕ) → from ≤ to → to ≤ length room → list_any is_line_feed (slice_range room from to) ≡ true → part ≡ before_first is_line_feed (slice_range room from to)
    → from + (length part + 1) ≤ to
within_slice room part from to h k some is =
    let found = first_found (slice_range room from to) some in
    let long = ap length is in
    omega (arith, found, long, length-take (position_or_len is_line_feed (slice_range room from to)) (slice_range room from to), length-take (to - from) (drop from room), h)

slice_behind : (room : List ℕ) (from k to : ℕ) → from + k ≤ to → slice_range room (from + k) to ≡ drop k (slice_range room from to)
slice_behind room from k to h =
    let on : to - from ≡ k + (to - (from + k)) = omega (arith, h) in
    sym (ap (λ n. drop k (take n (drop from room))) on ∙ drop-take k (to - (from + k)) (drop from room) ∙ ap (take (to - (from + k))) (drop-drop k from room))

-- .. and the slice behind them is what stands behind the line feed
pub rest_of_slice : (room part : List ℕ) (from to : ℕ) → from ≤ to → to ≤ length room → list_any is_line_feed (slice_range room from to) ≡ true → part ≡ before_first is_line_feed (slice_range room from to)
    → slice_range room (from + (length part + 1)) to ≡ after_first is_line_feed (slice_range room from to)
rest_of_slice room part from to h k some is =
    let at = position_or_len is_line_feed (slice_range room from to) in
    let found = first_found (slice_range room from to) some in
    let long : length part ≡ at = omega (arith, found, ap length is, length-take at (slice_range room from to)) in
    slice_behind room from (length part + 1) to (within_slice room part from to h k some is) ∙ ap (λ n. drop (n + 1) (slice_range room from to)) long

-- ---- one line

consumes_none : (known : Option (List ℕ)) → Consumes known known []
consumes_none None = tt
consumes_none (Some xs) = refl

pub no_part : (old : Option (List ℕ)) → TakesFront old old nothing_held
no_part old = record { part = []; taken = consumes_none old; none = refl; holds = record { length_is = refl; bytes_are = λ e. refl } }

-- what is read ahead is left as it was
still_left : (old rest next : Option (List ℕ)) (part bytes : List ℕ) → Consumes old (left_of [] rest) part → Consumes rest next bytes → Consumes old (left_of bytes next) part
still_left None rest next part bytes c d = tt
still_left (Some xs) None next part bytes c d = absurd c
still_left (Some xs) (Some ys) None part bytes c d = absurd d
still_left (Some xs) (Some ys) (Some zs) part bytes c d = c ∙ ap (λ s. part ++ s) d

pub filled : (rest next : Option (List ℕ)) (ahead bytes : List ℕ) → ahead ≡ [] → Consumes rest next bytes → KeepsTaken (left_of ahead rest) (left_of bytes next)
filled rest next ahead bytes empty d first part c = still_left first rest next part bytes (subst (λ (a : List ℕ). Consumes first (left_of a rest) part) empty c) d

pub part_more : (old rest : Option (List ℕ)) (part ahead : List ℕ) → Consumes old (left_of ahead rest) part → Consumes old (left_of [] rest) (part ++ ahead)
part_more None rest part ahead c = tt
part_more (Some xs) None part ahead c = absurd c
part_more (Some xs) (Some ys) part ahead c = c ∙ sym (append_assoc part ahead ys)

pub none_in_both : (xs ys : List ℕ) → list_any is_line_feed xs ≡ false → list_any is_line_feed ys ≡ false → list_any is_line_feed (xs ++ ys) ≡ false
none_in_both [] ys f g = g
none_in_both (b ∷ bs) ys f g =
    elim (is_line_feed b) as (λ v. (v || list_any is_line_feed bs) ≡ false → (v || list_any is_line_feed (bs ++ ys)) ≡ false)
    [ true ↦ λ e. cc | false ↦ λ e. none_in_both bs ys e g ] f

-- all that is read ahead is put onto the line
abbrev pub goes_on : (old rest : Option (List ℕ)) (ahead next front : List ℕ) (from to : Held) → TakesFront old (left_of ahead rest) from → IsFront ahead front next false
    → ((line : List ℕ) → Holds from line → Holds to (line ++ front)) → TakesFront old (left_of next rest) to
goes_on old rest ahead next front from to p (none, front_is, next_is) add = record {
  part = p.part ++ ahead;
  taken = rw next_is (part_more old rest p.part ahead p.taken);
  none = none_in_both p.part ahead p.none none;
  holds = rw (← front_is) (add p.part p.holds);
}

takes_cut : (old rest : Option (List ℕ)) (part ahead : List ℕ) → Consumes old (left_of ahead rest) part → list_any is_line_feed part ≡ false → list_any is_line_feed ahead ≡ true
    → TakesLine old (left_of (after_first is_line_feed ahead) rest) (ended (part ++ before_first is_line_feed ahead))
takes_cut None rest part ahead c none some = tt
takes_cut (Some xs) None part ahead c none some = absurd c
takes_cut (Some xs) (Some ys) part ahead c none some =
    ap session_lines c
    ∙ part_in_front part (ahead ++ ys) (after_first is_line_feed ahead ++ ys) (before_first is_line_feed ahead) true none (cut_in_part ahead ys some)

-- the same bytes are taken, as far as more were read ahead
abbrev pub kept_front : (old rest next : Option (List ℕ)) (held : Held) (p : TakesFront old rest held) → KeepsTaken rest next → TakesFront old next held
kept_front old rest next held p keeps = record { part = p.part; taken = keeps old p.part p.taken; none = p.none; holds = p.holds }

-- as many bytes were left as were taken
pub as_many : (old now : Option (List ℕ)) (part : List ℕ) (n : ℕ) → Consumes old now part → n ≤ length part → IfSome old (λ bytes. n ≤ length bytes)
as_many None now part n c h = tt
as_many (Some xs) None part n c h = absurd c
as_many (Some xs) (Some ys) part n c h = omega (arith, ap length c, length-append part ys, h)

-- the line ends in what is read ahead
pub ends : (old rest : Option (List ℕ)) (ahead next front : List ℕ) (from to : Held) → TakesFront old (left_of ahead rest) from → IsFront ahead front next true
    → ((line : List ℕ) → Holds from line → Holds to (line ++ front)) → (line : List ℕ) × TakesLine old (left_of next rest) (ended line) × Holds to line × (true ≡ false → IsAtEnd (left_of next rest))
ends old rest ahead next front from to p (some, front_is, next_is) add = (
  p.part ++ front,
  rw (front_is, next_is) (takes_cut old rest p.part ahead p.taken p.none some),
  add p.part p.holds,
  λ never. absurd cc,
)

left_at_end : (rest : Option (List ℕ)) → IsAtEnd rest → IsAtEnd (left_of [] rest)
left_at_end None end = tt
left_at_end (Some ys) end = end

takes_last : (old rest : Option (List ℕ)) (part : List ℕ) → Consumes old (left_of [] rest) part → IsAtEnd rest → list_any is_line_feed part ≡ false → length part ≢ 0 → TakesLine old (left_of [] rest) (cut_off part)
takes_last None rest part c end none some = tt
takes_last (Some xs) None part c end none some = absurd c
takes_last (Some xs) (Some ys) [] c end none some = absurd (some refl)
takes_last (Some xs) (Some ys) (b ∷ bs) c end none some =
    ap session_lines c ∙ ap (λ s. session_lines ((b ∷ bs) ++ s)) end ∙ ap session_lines (append-nil (b ∷ bs)) ∙ last_part b bs none ∙ ap (λ s. cut_off (b ∷ bs) ∷ session_lines s) (sym end)

-- the last line, which lacks a line feed
pub last : (old rest : Option (List ℕ)) (ahead : List ℕ) (held : Held) → ahead ≡ [] → TakesFront old (left_of ahead rest) held → IsAtEnd rest → ((line : List ℕ) → Holds held line → false ≡ nat_eq (length line) 0)
    → (line : List ℕ) × TakesLine old (left_of ahead rest) (cut_off line) × Holds held line × (false ≡ false → IsAtEnd (left_of ahead rest))
last old rest ahead held empty p end some =
    let c : Consumes old (left_of [] rest) p.part = subst (λ a. Consumes old (left_of a rest) p.part) empty p.taken in
    let more : length p.part ≢ 0 = λ z. (let s = some p.part p.holds ∙ eq-eqb (length p.part) 0 z in cc) in
    (p.part, rw empty (takes_last old rest p.part c end p.none more), p.holds, λ same. rw empty (left_at_end rest end))

nothing_left : (old rest : Option (List ℕ)) (part : List ℕ) → Consumes old (left_of [] rest) part → IsAtEnd rest → length part ≡ 0 → IsAtEnd old × IsAtEnd (left_of [] rest)
nothing_left None None part c end none = (tt, tt)
nothing_left None (Some ys) part c end none = (tt, end)
nothing_left (Some xs) None part c end none = absurd c
nothing_left (Some xs) (Some ys) [] c end none = (c ∙ end, end)
nothing_left (Some xs) (Some ys) (b ∷ bs) c end none = cc

-- nothing is left
pub at_end : (old rest : Option (List ℕ)) (ahead : List ℕ) (held : Held) → ahead ≡ [] → TakesFront old (left_of ahead rest) held → IsAtEnd rest → ((line : List ℕ) → Holds held line → length line ≡ 0)
    → IsAtEnd old × IsAtEnd (left_of ahead rest)
at_end old rest ahead held empty p end none =
    rw empty (nothing_left old rest p.part (subst (λ a. Consumes old (left_of a rest) p.part) empty p.taken) end (none p.part p.holds))

-- ---- the lines so far

pub none_taken : (known : Option (List ℕ)) → TakesLines known (left_of [] known) []
none_taken None = tt
none_taken (Some xs) = refl

pub line_more : (old mid new : Option (List ℕ)) (lines : List SessionLine) (line : SessionLine) → TakesLines old mid lines → TakesLine mid new line → TakesLines old new (lines ++ line ∷ [])
line_more None mid new lines line t h = tt
line_more (Some xs) None new lines line t h = absurd t
line_more (Some xs) (Some ys) None lines line t h = absurd h
line_more (Some xs) (Some ys) (Some zs) lines line t h = t ∙ ap (λ s. lines ++ s) h ∙ sym (append_assoc lines (line ∷ []) (session_lines zs))
