-- How the search for stanzas goes on.
use Rattle.std.proofs.Common.{◌≡◌, ℕ, zero, suc, ◌+◌, ◌-◌, ◌<◌, ◌≤◌, List, [], ◌∷◌, ◌++◌, Some, None, take, drop, length, refl, ap, sym, ◌∙◌, arith, append_assoc, length-drop}
use Rattle.std.proofs.lemmas.List.{drop_more, drop-drop, take_rest, length-take-le}
use Rattle.std.specs.Prelude.{slice_index, slice_range}
use Rattle.text_block.specs.Stanzas.{stanza_at, stanzas_behind}

-- the characters of a stanza are passed over
behind-drop : (n : ℕ) (xs : List ℕ) → stanzas_behind n xs ≡ stanzas_behind 0 (drop n xs)
behind-drop zero xs = refl
behind-drop (suc n) [] = refl
behind-drop (suc n) (x ∷ xs) = behind-drop n xs

cons-none : (c : ℕ) (cs : List ℕ) → stanza_at (c ∷ cs) ≡ None → stanzas_behind 0 (c ∷ cs) ≡ stanzas_behind 0 cs
cons-none c cs h = rw h refl

cons-some : (c : ℕ) (cs name : List ℕ) → stanza_at (c ∷ cs) ≡ Some name → stanzas_behind 0 (c ∷ cs) ≡ name ∷ stanzas_behind 0 (drop (length name + 3) cs)
cons-some c cs name h = rw h (ap (λ ys. name ∷ ys) (behind-drop (length name + 3) cs))

-- no stanza begins at i
pub behind-none : (xs ys : List ℕ) (i : ℕ) → ys ≡ xs → i < length xs → None ≡ stanza_at (take (length ys - i) (drop i ys)) → stanzas_behind 0 (drop (i + 1) xs) ≡ stanzas_behind 0 (drop i xs)
behind-none xs ys i same l h =
    let cut = drop_more xs i 0 l in
    let rest = take_rest ys i ∙ ap (drop i) same ∙ cut in
    sym (ap (stanzas_behind 0) cut ∙ cons-none _ (drop (i + 1) xs) (ap stanza_at (sym rest) ∙ sym h))

-- one with a name of n characters begins at i
pub behind-some : (xs ys : List ℕ) (i n : ℕ) → ys ≡ xs → i < length xs → n + 4 ≤ length (take (length ys - i) (drop i ys)) → Some (take n (drop 2 (take (length ys - i) (drop i ys)))) ≡ stanza_at (take (length ys - i) (drop i ys)) →
    take n (drop (i + 2) xs) ∷ stanzas_behind 0 (drop (i + (n + 4)) xs) ≡ stanzas_behind 0 (drop i xs)
behind-some xs ys i n same l w h =
    let cut = drop_more xs i 0 l in
    let rest = take_rest ys i ∙ ap (drop i) same in
    let name : take n (drop 2 (take (length ys - i) (drop i ys))) ≡ take n (drop (i + 2) xs) = ap (λ zs. take n (drop 2 zs)) rest ∙ ap (take n) (drop-drop 2 i xs) in
    let found : stanza_at (slice_index xs i ∷ drop (i + 1) xs) ≡ Some (take n (drop (i + 2) xs)) = ap stanza_at (sym (rest ∙ cut)) ∙ sym h ∙ ap Some name in
    let enough : n + 4 ≤ length (drop i xs) = rw rest at w in
    let long : length (take n (drop (i + 2) xs)) ≡ n = length-take-le n (drop (i + 2) xs) (omega (arith, enough, length-drop i xs, length-drop (i + 2) xs)) in
    sym (ap (stanzas_behind 0) cut ∙ cons-some (slice_index xs i) (drop (i + 1) xs) (take n (drop (i + 2) xs)) found
    ∙ ap (λ zs. take n (drop (i + 2) xs) ∷ stanzas_behind 0 zs) (ap (λ k. drop (k + 3) (drop (i + 1) xs)) long ∙ drop-drop (n + 3) (i + 1) xs ∙ ap (λ k. drop k xs) (search arith)))

-- a name that was found goes behind those before it
pub next-name : (front : List (List ℕ)) (name : List ℕ) (rest all total : List (List ℕ)) → name ∷ rest ≡ all → front ++ all ≡ total → (front ++ name ∷ []) ++ rest ≡ total
next-name front name rest all total e h = append_assoc front (name ∷ []) rest ∙ ap (λ ys. front ++ ys) e ∙ h

pub slice_range-long : (xs : List ℕ) (i n : ℕ) → slice_range xs i (i + n) ≡ take n (drop i xs)
slice_range-long xs i n = ap (λ k. take k (drop i xs)) (search arith)
