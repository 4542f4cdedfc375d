-- Each entry is the last once, and goes or comes first again.
use Rattle.std.specs.Prelude.{◌≡◌, ℕ, ℤ, ◌+◌, ◌-◌, ◌<◌, ◌++◌, nat_eq, not, Bool, true, false, cond, if◌then◌else◌, List, [], ◌∷◌, take, length, slice_get, Some, refl}
use Rattle.std.specs.List.{AllByRecursion, IsDistinct}
use Rattle.std.specs.Map.{keys_of, lookup_entry, remove_entry}
use Rattle.std.proofs.Common.{ap, sym, ◌∙◌, arith, subst, drop, get_or, add-one, append_assoc, length-append, drop-cons}
use Rattle.std.proofs.lemmas.Bool.{eq-eqb}
use Rattle.std.proofs.lemmas.List.{take_more}
use Rattle.std.proofs.lemmas.Map.Keys.{IsDistinct-head, IsDistinct-tail}
use Rattle.lru.specs.LruCache.{last_entry, promoted}
use Rattle.bench_rules.specs.KeptSlices.{Cache, is_from, cache_after_change}
use Rattle.time_slice.proofs.KeptLemmas.{flip}

-- ---- the last entry

at_end : (es : Cache) (e : ℕ × List (ℕ × ℤ)) → slice_get (es ++ e ∷ []) (length es) ≡ Some e
at_end [] e = refl
at_end (x ∷ es) e = at_end es e

front : (es : Cache) (e : ℕ × List (ℕ × ℤ)) → take (length es) (es ++ e ∷ []) ≡ es
front [] e = refl
front (x ∷ es) e = ap (λ (xs : Cache). x ∷ xs) (front es e)

before : (es : Cache) (e : ℕ × List (ℕ × ℤ)) → length (es ++ e ∷ []) - 1 ≡ length es
before es e = let long : length (es ++ e ∷ []) ≡ length es + 1 = length-append es (e ∷ []) in omega arith

last_is : (es : Cache) (e : ℕ × List (ℕ × ℤ)) → last_entry (es ++ e ∷ []) ≡ Some e
last_is es e = ap (slice_get (es ++ e ∷ [])) (before es e) ∙ at_end es e

without_last : (es : Cache) (e : ℕ × List (ℕ × ℤ)) → take (length (es ++ e ∷ []) - 1) (es ++ e ∷ []) ≡ es
without_last es e = ap (λ (n : ℕ). take n (es ++ e ∷ [])) (before es e) ∙ front es e

apart_last : (P : ℕ → Type 0) (es : Cache) (e : ℕ × List (ℕ × ℤ)) → AllByRecursion P (keys_of (es ++ e ∷ [])) → P e.0
apart_last P [] e all = all.0
apart_last P (x ∷ es) e all = apart_last P es e all.1

record FoundLast (es : Cache) (e : ℕ × List (ℕ × ℤ)) : Type 0 where
  pub entry : lookup_entry (nat_eq e.0) (es ++ e ∷ []) ≡ Some e
  pub rest : remove_entry (nat_eq e.0) (es ++ e ∷ []) ≡ es

found_last : (es : Cache) (e : ℕ × List (ℕ × ℤ)) → IsDistinct nat_eq (keys_of (es ++ e ∷ [])) → FoundLast es e
found_last [] e apart = let same : nat_eq e.0 e.0 ≡ true = eq-eqb e.0 e.0 refl in record { entry = rw same refl; rest = rw same refl }
found_last (x ∷ es) e apart =
    let other : nat_eq e.0 x.0 ≡ false = flip e.0 x.0 ∙ apart_last (λ j. nat_eq x.0 j ≡ false) es e (IsDistinct-head nat_eq x.0 (keys_of (es ++ e ∷ [])) apart) in
    let on = found_last es e (IsDistinct-tail nat_eq x.0 (keys_of (es ++ e ∷ [])) apart) in
    record { entry = rw other on.entry; rest = rw other (ap (λ (xs : Cache). x ∷ xs) on.rest) }

last_first : (es : Cache) (e : ℕ × List (ℕ × ℤ)) → IsDistinct nat_eq (keys_of (es ++ e ∷ [])) → promoted (nat_eq e.0) (es ++ e ∷ []) ≡ e ∷ es
last_first es e apart = let on = found_last es e apart in rw (on.entry, on.rest) refl

-- ---- one turn

abbrev pub turned : ℕ → ℕ → Cache → ℕ × List (ℕ × ℤ) → Cache
turned k many es e = if is_from k many e.0 then es else (e ∷ es)

-- the number that is read is the last entry's
the_number : (es entries : Cache) (e : ℕ × List (ℕ × ℤ)) (number : ℕ) (v : List (ℕ × ℤ)) → entries ≡ es ++ e ∷ [] → Some (number, v) ≡ last_entry entries → number ≡ e.0
the_number es entries e number v is read =
    let same : Some (number, v) ≡ Some e = read ∙ ap last_entry is ∙ last_is es e in
    let pair : (number, v) ≡ e = cc in
    ap (λ (p : ℕ × List (ℕ × ℤ)). p.0) pair

pub turn_gone : (k many : ℕ) (es entries : Cache) (e : ℕ × List (ℕ × ℤ)) (number : ℕ) (v : List (ℕ × ℤ)) → entries ≡ es ++ e ∷ [] → Some (number, v) ≡ last_entry entries
    → is_from k many number ≡ true → take (length entries - 1) entries ≡ turned k many es e
turn_gone k many es entries e number v is read among =
    let this : is_from k many e.0 ≡ true = ap (is_from k many) (sym (the_number es entries e number v is read)) ∙ among in
    rw this (ap (λ (xs : Cache). take (length xs - 1) xs) is ∙ without_last es e)

pub turn_first : (k many : ℕ) (es entries : Cache) (e : ℕ × List (ℕ × ℤ)) (number : ℕ) (v : List (ℕ × ℤ)) → entries ≡ es ++ e ∷ [] → Some (number, v) ≡ last_entry entries
    → IsDistinct nat_eq (keys_of entries) → is_from k many number ≡ false → promoted (nat_eq number) entries ≡ turned k many es e
turn_first k many es entries e number v is read apart other =
    let same : number ≡ e.0 = the_number es entries e number v is read in
    let this : is_from k many e.0 ≡ false = ap (is_from k many) (sym same) ∙ other in
    rw this (ap (λ (j : ℕ). promoted (nat_eq j) entries) same ∙ ap (promoted (nat_eq e.0)) is ∙ last_first es e (subst (λ (xs : Cache). IsDistinct nat_eq (keys_of xs)) is apart))

-- ---- so many turns

-- the last i entries are in front, without those that went
abbrev pub told : ℕ → ℕ → Cache → ℕ → Cache
told k many es i = cache_after_change k many (drop (length es - i) es) ++ take (length es - i) es

pub turn_more : (k many i : ℕ) (es now next : Cache) → i < length es → now ≡ told k many es i → ((fs : Cache) (e : ℕ × List (ℕ × ℤ)) → now ≡ fs ++ e ∷ [] → next ≡ turned k many fs e)
    → next ≡ told k many es (i + 1)
turn_more k many i es now next more here turn =
    let m : ℕ = length es - (i + 1) in
    let left : length es - i ≡ m + 1 = omega arith in
    let inside : m < length es = omega arith in
    let e : ℕ × List (ℕ × ℤ) = get_or es m (0, []) in
    let stay : Cache = cache_after_change k many (drop (m + 1) es) in
    let first : drop m es ≡ e ∷ drop (m + 1) es = drop-cons es m (0, []) inside ∙ ap (λ (n : ℕ). e ∷ drop n es) (sym (add-one m)) in
    let split : now ≡ (stay ++ take m es) ++ e ∷ [] =
    here ∙ ap (λ (n : ℕ). cache_after_change k many (drop n es) ++ take n es) left
    ∙ ap (λ (xs : Cache). stay ++ xs) (take_more es m (0, []) inside)
    ∙ sym (append_assoc stay (take m es) (e ∷ [])) in
    turn (stay ++ take m es) e split ∙ by (is_from k many e.0) e stay (take m es) ∙ ap (λ (xs : Cache). cache_after_change k many xs ++ take m es) (sym first)
  where
    by : (b : Bool) (e : ℕ × List (ℕ × ℤ)) (stay rest : Cache) → (if b then (stay ++ rest) else (e ∷ (stay ++ rest))) ≡ cond (not b) (e ∷ stay) stay ++ rest
    by true e stay rest = refl
    by false e stay rest = refl
