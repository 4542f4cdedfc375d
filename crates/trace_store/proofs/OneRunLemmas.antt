-- One run over bytes that have none.
use Rattle.std.proofs.Common.{◌≡◌, ℕ, ◌+◌, ◌-◌, ◌<◌, ◌≤◌, List, [], ◌∷◌, length, take, drop, sym, ap, arith, append_assoc, IfOk, Result, Ok, Err}
use Rattle.trace_view.specs.declared.run.Run.{Run}
use Rattle.trace_view.specs.Runs.{Fit}
use Rattle.trace_view.specs.Puts.{contents, ShowPut}

abbrev first : List (ℕ × List ℕ) → ℕ × List ℕ
first [] = (0, [])
first (x ∷ xs) = x

-- a list of one run fits
pub one-fits : (size at : ℕ) (bytes : List ℕ) (list : List Run) → contents list ≡ (at, bytes) ∷ [] → 0 < length bytes → at + length bytes ≤ size → Fit list size
one-fits size at bytes [] is some inside = absurd (cc)
one-fits size at bytes (r ∷ []) is some inside =
    let at_is : r.at ≡ at = ap (λ (l : List (ℕ × List ℕ)). (first l).0) is in
    let bytes_is : r.bytes.items ≡ bytes = ap (λ (l : List (ℕ × List ℕ)). (first l).1) is in
    rw (at_is, bytes_is) (omega arith, (some, inside))
one-fits size at bytes (r ∷ q ∷ rs) is some inside = absurd (cc)

-- and shows the bytes in their place
pub one-shows : (size at : ℕ) (bytes : List ℕ) (runs list : List Run) → runs ≡ [] → contents list ≡ (at, bytes) ∷ [] → ShowPut size runs at bytes list
one-shows size at bytes runs [] none is = absurd (cc)
one-shows size at bytes runs (r ∷ []) none is = λ base len.
    let at_is : r.at ≡ at = ap (λ (l : List (ℕ × List ℕ)). (first l).0) is in
    let bytes_is : r.bytes.items ≡ bytes = ap (λ (l : List (ℕ × List ℕ)). (first l).1) is in
    let from_front : at - 0 ≡ at = omega arith in
    rw (none, at_is, bytes_is, from_front) (sym (append_assoc (take at base) bytes (drop (at + length bytes) base)))
one-shows size at bytes runs (r ∷ q ∷ rs) none is = absurd (cc)

pub if_ok : {T E : Type 0} {P Q : T → Type 0} (r : Result T E) → ((v : T) → P v → Q v) → IfOk r P → IfOk r Q
if_ok (Ok v) f p = f v p
if_ok (Err e) f p = tt
