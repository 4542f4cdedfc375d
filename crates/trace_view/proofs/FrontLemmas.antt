-- The front of bytes with others laid over them.
use Rattle.std.proofs.Common.{◌≡◌, ℕ, ◌+◌, ◌-◌, ◌<◌, ◌≤◌, Bool, true, false, List, ◌++◌, length, take, drop, refl, sym, ap, ◌∙◌, [], arith, min, append_assoc, length-append}
use Rattle.std.specs.Prelude.{nat_lt, nat_le}
use Rattle.std.proofs.lemmas.Bool.{ltb-true, ltb-false, leb-true, leb-false}
use Rattle.std.proofs.lemmas.List.{append-nil, drop-drop, drop-take, drop_all, take-take, take_all, length-drop, length-take, length-take-le, take-append-le}
use borrow.Rule.Slice.PartMut.{put_mid}
use Rattle.std.proofs.Math.Seq.{take-append-add}
use Rattle.frame_cut.specs.declared.file_head.Head.{Head}
use Rattle.frame_cut.specs.Frames.{front_length, trace_length}
use Rattle.frame_cut.specs.Laws.{LengthByFront}
use Rattle.frame_cut.specs.Splice.{splice}

-- behind the first bytes
take_past : (xs ys : List ℕ) (a m : ℕ) → length xs ≡ a → take (a + m) (xs ++ ys) ≡ xs ++ take m ys
take_past xs ys a m e = ap (λ (k : ℕ). take (k + m) (xs ++ ys)) (sym e) ∙ take-append-add xs ys m

-- of new bytes and the old ones behind them no more is seen than the front has
new-front : (t new : List ℕ) (n at m : ℕ) → n ≡ at + m → n ≤ length t → take m (new ++ drop (at + length new) (take n t)) ≡ take m (new ++ drop (at + length new) t)
new-front t new n at m e inside = side (nat_le m (length new)) refl where
  side : (b : Bool) → nat_le m (length new) ≡ b → take m (new ++ drop (at + length new) (take n t)) ≡ take m (new ++ drop (at + length new) t)
  side true h =
      let short : m ≤ length new = leb-true m (length new) h in
      take-append-le m new (drop (at + length new) (take n t)) short ∙ sym (take-append-le m new (drop (at + length new) t) short)
  side false h =
      let long : length new < m = leb-false m (length new) h in
      let split : m ≡ length new + (m - length new) = omega arith in
      let whole : n ≡ (at + length new) + (m - length new) = omega arith in
      let same : drop (at + length new) (take n t) ≡ take (m - length new) (drop (at + length new) t) =
      ap (λ (k : ℕ). drop (at + length new) (take k t)) whole ∙ drop-take (at + length new) (m - length new) t in
      let le : m - length new ≤ m - length new = omega arith in
      ap (λ (k : ℕ). take k (new ++ drop (at + length new) (take n t))) split
      ∙ (take_past new (drop (at + length new) (take n t)) (length new) (m - length new) refl
      ∙ (ap (λ (xs : List ℕ). new ++ take (m - length new) xs) same
      ∙ (ap (λ (xs : List ℕ). new ++ xs) (take-take (m - length new) (m - length new) (drop (at + length new) t) le)
      ∙ (sym (take_past new (drop (at + length new) t) (length new) (m - length new) refl)
      ∙ ap (λ (k : ℕ). take k (new ++ drop (at + length new) t)) (sym split)))))

-- the front of the bytes with others laid over them, from their front alone
pub take-splice : (t new : List ℕ) (n at : ℕ) → n ≤ length t → at + length new ≤ length t → take n (splice (take n t) at (length new) new) ≡ take n (splice t at (length new) new)
take-splice t new n at inside fits =
    ap (take n) (append_assoc (take at (take n t)) new (drop (at + length new) (take n t)))
    ∙ (side (nat_lt at n) refl
    ∙ sym (ap (take n) (append_assoc (take at t) new (drop (at + length new) t))))
  where
    rest : List ℕ
    rest = new ++ drop (at + length new) t

    rest' : List ℕ
    rest' = new ++ drop (at + length new) (take n t)

    side : (b : Bool) → nat_lt at n ≡ b → take n (take at (take n t) ++ rest') ≡ take n (take at t ++ rest)
    side true h =
        let lt : at < n = ltb-true at n h in
        let le : at ≤ n = omega arith in
        let split : n ≡ at + (n - at) = omega arith in
        let long : length (take at t) ≡ at = length-take-le at t (omega arith) in
        ap (λ (xs : List ℕ). take n (xs ++ rest')) (take-take at n t le)
        ∙ (ap (λ (k : ℕ). take k (take at t ++ rest')) split
        ∙ (take_past (take at t) rest' at (n - at) long
        ∙ (ap (λ (xs : List ℕ). take at t ++ xs) (new-front t new n at (n - at) split inside)
        ∙ (sym (take_past (take at t) rest at (n - at) long)
        ∙ ap (λ (k : ℕ). take k (take at t ++ rest)) (sym split)))))
    side false h =
        let le : n ≤ at = ltb-false at n h in
        let size : length (take n t) ≡ n = length-take-le n t inside in
        let all : take at (take n t) ≡ take n t = take_all at (take n t) (omega arith) in
        let again : take n (take n t) ≡ take n t = take_all n (take n t) (omega arith) in
        let long : n ≤ length (take at t) = omega (arith, length-take-le at t (omega arith)) in
        ap (λ (xs : List ℕ). take n (xs ++ rest')) all
        ∙ (take-append-le n (take n t) rest' (omega arith)
        ∙ (again
        ∙ (sym (take-take n at t le) ∙ sym (take-append-le n (take at t) rest long))))

-- the bytes laid over a front, as far as it goes
pub laid-front : (f new out : List ℕ) (at k m : ℕ) → at < length f → m ≡ min (length new) (length f - at) → k ≡ m → out ≡ take m new
    → put_mid at k f out ≡ take (length f) (splice f at (length new) new)
laid-front f new out at k m lt least e is =
    let split : length f ≡ at + (length f - at) = omega arith in
    let long : length (take at f) ≡ at = length-take-le at f (omega arith) in
    let size : k ≡ m = e in
    let laid : put_mid at k f out ≡ take at f ++ (take m new ++ drop m (drop at f)) =
    ap (λ (n : ℕ). put_mid at n f out) size ∙ ap (λ (xs : List ℕ). put_mid at m f xs) is in
    let all : take (length f) (splice f at (length new) new) ≡ take at f ++ take (length f - at) (new ++ drop (at + length new) f) =
    ap (take (length f)) (append_assoc (take at f) new (drop (at + length new) f))
    ∙ (ap (λ (n : ℕ). take n (take at f ++ (new ++ drop (at + length new) f))) split ∙ take_past (take at f) (new ++ drop (at + length new) f) at (length f - at) long) in
    laid ∙ (ap (λ (xs : List ℕ). take at f ++ xs) (side (nat_le (length new) (length f - at)) refl) ∙ sym all)
  where
    side : (b : Bool) → nat_le (length new) (length f - at) ≡ b → take m new ++ drop m (drop at f) ≡ take (length f - at) (new ++ drop (at + length new) f)
    side true h =
        let short : length new ≤ length f - at = leb-true (length new) (length f - at) h in
        let whole : m ≡ length new = omega arith in
        let all : take m new ≡ new = take_all m new (omega arith) in
        let rest : drop m (drop at f) ≡ drop (at + length new) f = drop-drop m at f ∙ ap (λ (n : ℕ). drop (at + n) f) whole in
        let room : length (new ++ drop (at + length new) f) ≤ length f - at = omega (arith, length-append new (drop (at + length new) f), length-drop (at + length new) f) in
        ap (λ (xs : List ℕ). xs ++ drop m (drop at f)) all ∙ (ap (λ (xs : List ℕ). new ++ xs) rest ∙ sym (take_all (length f - at) (new ++ drop (at + length new) f) room))
    side false h =
        let far : length f - at < length new = leb-false (length new) (length f - at) h in
        let whole : m ≡ length f - at = omega arith in
        let none : drop m (drop at f) ≡ [] = drop_all m (drop at f) (omega (arith, length-drop at f)) in
        let short : length f - at ≤ length new = omega arith in
        ap (λ (xs : List ℕ). take m new ++ xs) none ∙ (append-nil (take m new) ∙ (ap (λ (n : ℕ). take n new) whole ∙ sym (take-append-le (length f - at) new (drop (at + length new) f) short)))

-- the changed front, from the front
pub changed-front : (t new front laid : List ℕ) (n at : ℕ) → n ≤ length t → at + length new ≤ length t → front ≡ take n t
    → laid ≡ take (length front) (splice front at (length new) new) → laid ≡ take n (splice t at (length new) new)
changed-front t new front laid n at inside fits here over =
    let size : length front ≡ n = ap length here ∙ length-take-le n t inside in
    over
    ∙ (ap (λ (k : ℕ). take k (splice front at (length new) new)) size
    ∙ (ap (λ (xs : List ℕ). take n (splice xs at (length new) new)) here ∙ take-splice t new n at inside fits))

-- the length of a trace, from its front
pub length-front : (h : Head) (t front : List ℕ) (n : ℕ) → LengthByFront → front_length h ≤ length front → front ≡ take n t → trace_length h front ≡ trace_length h t
length-front h t front n law long here =
    let size : length front ≡ min n (length t) = ap length here ∙ length-take n t in
    let inside : front_length h ≤ length t = omega arith in
    let le : front_length h ≤ n = omega arith in
    let same : take (front_length h) front ≡ take (front_length h) t = ap (take (front_length h)) here ∙ take-take (front_length h) n t le in
    law h front t long inside same
