-- What is kept, as the calls of the cache under it say it.
use Rattle.std.specs.Prelude.{◌≡◌, ℕ, ℤ, ◌-◌, ◌<◌, ◌≤◌, ◌==◌, ◌||◌, nat_eq, not, Bool, true, false, cond, IsTrue, IsFalse, List, [], ◌∷◌, All, map, take, filter, length, pos, Option, MatchOption, Some, None, is_some, refl}
use Rattle.std.specs.List.{AllByRecursion, IsDistinct}
use Rattle.std.specs.Map.{keys_of, lookup, lookup_entry, remove_entry}
use Rattle.std.proofs.Common.{ap, sym, ◌∙◌, arith, subst, suc}
use Rattle.std.proofs.lemmas.Bool.{eqb-true, eq-eqb}
use Rattle.std.proofs.lemmas.List.{take_all}
use Rattle.std.proofs.lemmas.List.Elements.{All-head, All-tail}
use Rattle.std.proofs.lemmas.Map.Keys.{IsDistinct-head, IsDistinct-tail}
use Rattle.lru.specs.LruCache.{LruCache, lru_cache, promoted, put_entries}
use Rattle.bench_rules.specs.declared.row.Row.{Row}
use Rattle.bench_rules.specs.KeptSlices.{Cache, KeptSlices, IsAsked, kept_of, kept_rows, keeps, after_slice}

-- a key is compared from either side
pub flip : (a b : ℕ) → nat_eq a b ≡ (b == a)
flip a b = by (nat_eq a b) refl (b == a) refl
  where
    by : (x : Bool) → nat_eq a b ≡ x → (y : Bool) → (b == a) ≡ y → x ≡ y
    by true p true q = refl
    by true p false q = sym (eq-eqb b a (sym (eqb-true a b p))) ∙ q
    by false p true q = sym p ∙ eq-eqb a b (sym (eqb-true b a q))
    by false p false q = refl

-- ---- what is found

pub found : (k : ℕ) (es : Cache) → lookup (nat_eq k) es ≡ kept_rows k es
found k [] = refl
found k (e ∷ es) = rw (flip k e.0) (by (e.0 == k) (found k es))
  where
    by : (b : Bool) → lookup (nat_eq k) es ≡ kept_rows k es → cond b (Some e.1) (lookup (nat_eq k) es) ≡ cond b (Some e.1) (kept_rows k es)
    by true rest = refl
    by false rest = rest

pub is_kept : (k : ℕ) (es : Cache) → is_some (lookup (nat_eq k) es) ≡ keeps k es
is_kept k [] = refl
is_kept k (e ∷ es) = rw (flip k e.0) (by (e.0 == k) (is_kept k es))
  where
    by : (b : Bool) → is_some (lookup (nat_eq k) es) ≡ keeps k es → is_some (cond b (Some e.1) (lookup (nat_eq k) es)) ≡ (b || keeps k es)
    by true rest = refl
    by false rest = rest

-- among slices that are right the one that is kept is right
pub right_found : (f : ℕ → List (ℕ × ℤ)) (k : ℕ) (es : Cache) → All (λ e. e.1 ≡ f e.0) es → IsTrue (keeps k es) → kept_rows k es ≡ Some (f k)
right_found f k [] all kept = absurd cc
right_found f k (e ∷ es) all kept = by (e.0 == k) refl (right_found f k es (All-tail (λ e. e.1 ≡ f e.0) e es all)) kept
  where
    by : (b : Bool) → (e.0 == k) ≡ b → (IsTrue (keeps k es) → kept_rows k es ≡ Some (f k)) → (b || keeps k es) ≡ true → cond b (Some e.1) (kept_rows k es) ≡ Some (f k)
    by true same rest kept = ap Some (All-head (λ e. e.1 ≡ f e.0) e es all ∙ ap f (eqb-true e.0 k same))
    by false other rest kept = rest kept

-- ---- what is kept is kept of some rows

-- rows of which this is kept, at inline and crossline 0
abbrev rows_for : List (ℕ × ℤ) → List Row
rows_for kept = map (λ (e : ℕ × ℤ). let r : Row = record { inline = pos 0; crossline = pos 0; position = e.0; value = e.1 } in r) kept

kept_for : (kept : List (ℕ × ℤ)) → kept_of (rows_for kept) ≡ kept
kept_for [] = refl
kept_for (e ∷ kept) = ap (λ (l : List (ℕ × ℤ)). e ∷ l) (kept_for kept)

-- slice k is kept of these rows
pub record IsKeptOf (k : ℕ) (es : Cache) : Type 0 where
  pub rows : List Row
  pub is : kept_rows k es ≡ Some (kept_of rows)

told_kept : (k : ℕ) (es : Cache) → is_some (kept_rows k es) ≡ keeps k es
told_kept k es = ap is_some (sym (found k es)) ∙ is_kept k es

pub kept_of_some : (k : ℕ) (es : Cache) → IsTrue (keeps k es) → IsKeptOf k es
kept_of_some k es kept = by (kept_rows k es) refl (told_kept k es ∙ kept)
  where
    by : (o : Option (List (ℕ × ℤ))) → kept_rows k es ≡ o → is_some o ≡ true → IsKeptOf k es
    by None found_so told = absurd cc
    by (Some l) found_so told =
        record { rows = rows_for l; is = found_so ∙ ap Some (sym (kept_for l)) }

-- nothing is kept of a slice that is not
not_kept : (k : ℕ) (es : Cache) → IsFalse (keeps k es) → kept_rows k es ≡ None
not_kept k es new = by (kept_rows k es) refl (told_kept k es ∙ new)
  where
    by : (o : Option (List (ℕ × ℤ))) → kept_rows k es ≡ o → is_some o ≡ false → kept_rows k es ≡ None
    by None found_so told = found_so
    by (Some l) found_so told = absurd cc

-- a slice that was kept is asked for
pub asked_again : (old new : KeptSlices) (k : ℕ) (answer : List Row) (i : IsKeptOf k old.entries) → new ≡ after_slice old k i.rows → IsAsked old new k answer
asked_again old new k answer i after =
    record { rows = i.rows; same = subst (λ (o : Option (List (ℕ × ℤ))). MatchOption o (i.rows ≡ answer) (λ e. kept_of i.rows ≡ e)) (sym i.is) refl; kept = after }

-- and one that was not
pub asked_first : (old new : KeptSlices) (k : ℕ) (answer : List Row) → IsFalse (keeps k old.entries) → new ≡ after_slice old k answer → IsAsked old new k answer
asked_first old new k answer free after =
    record { rows = answer; same = subst (λ (o : Option (List (ℕ × ℤ))). MatchOption o (answer ≡ answer) (λ e. kept_of answer ≡ e)) (sym (not_kept k old.entries free)) refl; kept = after }

-- ---- without one number

-- no number is left out where none is the number
none_out : (k : ℕ) (es : Cache) → AllByRecursion (λ j. nat_eq k j ≡ false) (keys_of es) → filter (λ e. not (e.0 == k)) es ≡ es
none_out k [] apart = refl
none_out k (e ∷ es) apart = let other : (e.0 == k) ≡ false = sym (flip k e.0) ∙ apart.0 in rw other (ap (λ (xs : Cache). e ∷ xs) (none_out k es apart.1))

-- nor where it is not kept
pub new_out : (k : ℕ) (es : Cache) → IsFalse (keeps k es) → filter (λ e. not (e.0 == k)) es ≡ es
new_out k [] new = refl
new_out k (e ∷ es) new = by (e.0 == k) refl (new_out k es) new
  where
    by : (b : Bool) → (e.0 == k) ≡ b → (IsFalse (keeps k es) → filter (λ e. not (e.0 == k)) es ≡ es) → (b || keeps k es) ≡ false → cond (not b) (e ∷ filter (λ e. not (e.0 == k)) es) (filter (λ e. not (e.0 == k)) es) ≡ e ∷ es
    by true same rest new = absurd cc
    by false other rest new = ap (λ (xs : Cache). e ∷ xs) (rest new)

-- how an entry is found and taken out
record TakenOut (k : ℕ) (v : List (ℕ × ℤ)) (es : Cache) : Type 0 where
  pub entry : lookup_entry (nat_eq k) es ≡ Some (k, v)
  pub rest : remove_entry (nat_eq k) es ≡ filter (λ e. not (e.0 == k)) es
  pub fewer : length (filter (λ e. not (e.0 == k)) es) < length es

taken_out : (k : ℕ) (v : List (ℕ × ℤ)) (es : Cache) → IsDistinct nat_eq (keys_of es) → kept_rows k es ≡ Some v → TakenOut k v es
taken_out k v [] apart kept = absurd cc
taken_out k v (e ∷ es) apart kept = by (e.0 == k) refl (λ more. taken_out k v es (IsDistinct-tail nat_eq e.0 (keys_of es) apart) more) kept
  where
    by : (b : Bool) → (e.0 == k) ≡ b → (kept_rows k es ≡ Some v → TakenOut k v es) → cond b (Some e.1) (kept_rows k es) ≡ Some v → TakenOut k v (e ∷ es)
    by true same later kept =
        let key : e.0 ≡ k = eqb-true e.0 k same in
        let value : e.1 ≡ v = cc in
        let test : nat_eq k e.0 ≡ true = flip k e.0 ∙ same in
        let others : filter (λ e. not (e.0 == k)) es ≡ es = none_out k es (subst (λ (j : ℕ). AllByRecursion (λ i. nat_eq j i ≡ false) (keys_of es)) key (IsDistinct-head nat_eq e.0 (keys_of es) apart)) in
        record {
          entry = rw test (ap (λ (j : ℕ). Some (j, e.1)) key ∙ ap (λ (w : List (ℕ × ℤ)). Some (k, w)) value);
          rest = rw (test, same) (sym others);
          fewer = rw (same, others) (omega arith);
        }
    by false other later kept =
        let test : nat_eq k e.0 ≡ false = flip k e.0 ∙ other in
        let on = later kept in
        record {
          entry = rw test on.entry;
          rest = rw (test, other) (ap (λ (xs : Cache). e ∷ xs) on.rest);
          fewer = let fewer = on.fewer in rw other (omega arith);
        }

-- a kept slice that comes first
pub promoted_is : (room k : ℕ) (v : List (ℕ × ℤ)) (es : Cache) → IsDistinct nat_eq (keys_of es) → length es ≤ room → kept_rows k es ≡ Some v
    → promoted (nat_eq k) es ≡ take room ((k, v) ∷ filter (λ e. not (e.0 == k)) es)
promoted_is room k v es apart small kept =
    let out = taken_out k v es apart kept in
    let fewer = out.fewer in
    rw (out.entry, out.rest) (sym (take_all room ((k, v) ∷ filter (λ e. not (e.0 == k)) es) (omega arith)))

-- a slice that is not kept
no_entry : (k : ℕ) (es : Cache) → IsFalse (keeps k es) → lookup_entry (nat_eq k) es ≡ None
no_entry k [] new = refl
no_entry k (e ∷ es) new = rw (flip k e.0) (by (e.0 == k) (no_entry k es) new)
  where
    by : (b : Bool) → (IsFalse (keeps k es) → lookup_entry (nat_eq k) es ≡ None) → (b || keeps k es) ≡ false → cond b (Some e) (lookup_entry (nat_eq k) es) ≡ None
    by true rest new = absurd cc
    by false rest new = rest new

pub put_is : (c : LruCache ℕ (List (ℕ × ℤ))) (k : ℕ) (v : List (ℕ × ℤ)) → 0 < c.cap → IsFalse (keeps k c.entries)
    → put_entries nat_eq c k v ≡ take c.cap ((k, v) ∷ filter (λ e. not (e.0 == k)) c.entries)
put_is c k v some new =
    let room : suc (c.cap - 1) ≡ c.cap = omega arith in
    rw (no_entry k c.entries new) (ap (λ (n : ℕ). take n ((k, v) ∷ c.entries)) room ∙ ap (λ (xs : Cache). take c.cap ((k, v) ∷ xs)) (sym (new_out k c.entries new)))

-- ---- as callers see it

abbrev pub seen : LruCache ℕ (List (ℕ × ℤ)) → KeptSlices
seen c = record { entries = c.entries; capacity = c.cap }

pub promoted_seen : (c new : LruCache ℕ (List (ℕ × ℤ))) (k : ℕ) (rows : List Row) → IsDistinct nat_eq (keys_of c.entries) → length c.entries ≤ c.cap
    → kept_rows k c.entries ≡ Some (kept_of rows) → new ≡ lru_cache (promoted (nat_eq k) c.entries) c.cap → seen new ≡ after_slice (seen c) k rows
promoted_seen c new k rows apart small kept is =
    ap seen is ∙ ap (λ (es : Cache). seen (lru_cache es c.cap)) (promoted_is c.cap k (kept_of rows) c.entries apart small kept)

pub put_seen : (c new : LruCache ℕ (List (ℕ × ℤ))) (k : ℕ) (v : List (ℕ × ℤ)) (rows : List Row) → 0 < c.cap → IsFalse (keeps k c.entries) → v ≡ kept_of rows
    → new ≡ lru_cache (put_entries nat_eq c k v) c.cap → seen new ≡ after_slice (seen c) k rows
put_seen c new k v rows some free same is =
    ap seen is ∙ ap (λ (es : Cache). seen (lru_cache es c.cap)) (put_is c k v some free)
    ∙ ap (λ (w : List (ℕ × ℤ)). seen (lru_cache (take c.cap ((k, w) ∷ filter (λ e. not (e.0 == k)) c.entries)) c.cap)) same
