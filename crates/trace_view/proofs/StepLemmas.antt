-- Steps of a cursor.
use Rattle.std.proofs.Common.{◌≡◌, ℕ, ◌+◌, ◌-◌, ◌<◌, ◌≤◌, List, ◌++◌, length, take, drop, refl, sym, ap, ◌∙◌, arith, length-append}
use borrow.Rule.Slice.PartMut.{put_mid}
use Rattle.std.proofs.Math.Seq.{drop-append-add, take-add, take-append-add}
use Rattle.std.proofs.lemmas.List.{drop-drop, length-drop, length-take-le, take-take}
use Rattle.std.proofs.lemmas.Slice.{take-put_mid}

-- past the whole of a
pub drop-past : (a b : List ℕ) (n : ℕ) → length a ≤ n → drop n (a ++ b) ≡ drop (n - length a) b
drop-past a b n h = let e : n ≡ length a + (n - length a) = omega arith in ap (λ m. drop m (a ++ b)) e ∙ drop-append-add a b (n - length a)

-- a cursor goes past its front
pub past_front : (front rest x others : List ℕ) (left : ℕ) (target : List ℕ) → rest ≡ x ++ others → length front < left → left ≤ length (front ++ rest) → drop left (front ++ rest) ≡ target → (left - length front ≤ length (x ++ others)) × (drop (left - length front) (x ++ others) ≡ target)
past_front front rest x others left target e far inside skipped =
    let total : length (front ++ rest) ≡ length front + length (x ++ others) = length-append front rest ∙ ap (λ (xs : List ℕ). length front + length xs) e in
    let before : length front ≤ left = omega arith in
    (omega arith, sym (drop-past front (x ++ others) left before) ∙ (ap (λ (xs : List ℕ). drop left (front ++ xs)) (sym e) ∙ skipped))

-- what is left of `out` is as long as before
pub length-read : (out part : List ℕ) (done : ℕ) → done ≤ length out → length part ≡ length out - done → length (put_mid done (length out - done) out part) ≡ length out
length-read out part done within size =
    let k = length out - done in
    omega (arith, length-append (take done out) (part ++ drop k (drop done out)), length-append part (drop k (drop done out)), length-take-le done out within, length-drop k (drop done out), length-drop done out, size)

-- so many bytes read, at the front of what is left of `out`
pub part_read : (all out part now next : List ℕ) (done n : ℕ) → done ≤ length out → length out ≤ length all → length part ≡ length out - done → n ≤ length out - done
    → now ≡ drop done all → take done out ≡ take done all → take n part ≡ take n now → next ≡ drop n now
    → (next ≡ drop (done + n) all) × (take (done + n) (put_mid done (length out - done) out part) ≡ take (done + n) all)
part_read all out part now next done n within room size less left read some rest =
    let front : length (take done out) ≡ done = length-take-le done out within in
    let fewer : done + n ≤ done + length part = omega (arith, size, less) in
    let got : take done out ++ take n part ≡ take (done + n) all =
    (λ i. read i ++ (some ∙ ap (take n) left) i) ∙ sym (take-add done n all) in (
      rest ∙ ap (drop n) left ∙ drop-drop n done all,
      sym (take-take (done + n) (done + length part) (put_mid done (length out - done) out part) fewer)
          ∙ ap (take (done + n)) (take-put_mid done (length out - done) out part (done + length part) refl within)
          ∙ ap (λ (k : ℕ). take (k + n) (take done out ++ part)) (sym front)
          ∙ take-append-add (take done out) part n
          ∙ got,
    )
