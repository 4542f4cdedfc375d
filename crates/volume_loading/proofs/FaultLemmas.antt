-- Why a load is refused.
use Rattle.std.proofs.Common.{◌≡◌, ◌≢◌, ◌<◌, ℕ, Bool, true, false, cond, ltb, List, ◌++◌, [], ◌∷◌, length, take, drop, Option, Some, None, Result, Ok, Err, IfSome, IfErr, MatchResult, ◌⊎◌, inl, inr, refl, ap, sym, subst, ◌∙◌, append-nil}
use Rattle.std.specs.Prelude.{◌||◌}
use Rattle.std.proofs.lemmas.Bool.{lt-ltb}
use Rattle.std.specs.Io.KnownBytes.{Consumes, IsAtEnd}
use Rattle.num_order.specs.declared.order.Order.{Order}
use Rattle.frame_cut.specs.declared.file_head.Head.{Head}
use Rattle.frame_cut.specs.declared.limits.Limits.{Limits}
use Rattle.frame_cut.specs.declared.reading.Reading.{Reading}
use Rattle.frame_cut.specs.declared.load_fault.LoadFault.{LoadFault}
use Rattle.frame_cut.specs.declared.load_fault.LoadFault.TheVariants.{ReadFailed, TooLarge, OutOfMemory}
use Rattle.frame_cut.specs.BinaryHeader.{order_of}
use Rattle.frame_cut.specs.Heads.{file_faults, head_faults, head_by, first_fault_else, head_of}
use Rattle.frame_cut.specs.Frames.{trace_length}
use Rattle.frame_cut.specs.Cuts.{IsRefused, refusal_by_length, trace_refusal}
use Rattle.volume_loading.specs.Loading.{IsLoadFault, IsReadFault, FailuresAfterRefusal}

-- ---- no file is refused by its bytes because a read failed

abbrev is_read_failed : LoadFault → Bool
is_read_failed ReadFailed = true
is_read_failed fault = false

-- the head is refused because a read failed
abbrev says : Result Head LoadFault → Bool
says (Ok h) = false
says (Err fault) = is_read_failed fault

-- and so is a trace
abbrev says_it : Option LoadFault → Bool
says_it None = false
says_it (Some fault) = is_read_failed fault

says_it-cond : (b : Bool) (x y : Option LoadFault) → says_it (cond b x y) ≡ cond b (says_it x) (says_it y)
says_it-cond true x y = refl
says_it-cond false x y = refl

both_false : (b : Bool) → cond b false false ≡ false
both_false true = refl
both_false false = refl

-- whether one of these faults says it
abbrev names_it : List (Bool × LoadFault) → Bool
names_it [] = false
names_it ((holds, fault) ∷ more) = is_read_failed fault || names_it more

either_false : (p q : Bool) → (p || q) ≡ false → (p ≡ false) × (q ≡ false)
either_false true q e = cc
either_false false q e = (refl, e)

behind : (b : Bool) (fault : LoadFault) (r : Result Head LoadFault) → is_read_failed fault ≡ false → says r ≡ false → says (cond b (Err fault) r) ≡ false
behind true fault r e k = e
behind false fault r e k = k

-- the first of them does not where none does
first-told : (faults : List (Bool × LoadFault)) (h : Head) → names_it faults ≡ false → says (first_fault_else faults h) ≡ false
first-told [] h e = refl
first-told ((holds, fault) ∷ more) h e =
    let none = either_false (is_read_failed fault) (names_it more) e in
    behind holds fault (first_fault_else more h) none.0 (first-told more h none.1)

head_of-told : (file : List ℕ) (reading : Reading) (limits : Limits) → says (head_of file reading limits) ≡ false
unfolding head_of
head_of-told file reading limits =
    let bin : List ℕ = take 400 (drop 3200 file) in
    let rest : List ℕ = drop 3600 file in
    let o : Order = order_of reading bin in
    first-told (file_faults file limits ++ head_faults reading o bin rest) (head_by reading o bin rest) refl

length-told : (limits : Limits) (p left : ℕ) (n : Option ℕ) → says_it (refusal_by_length limits p left n) ≡ false
length-told limits p left None = refl
length-told limits p left (Some n) = simp (says_it-cond, both_false) refl

trace-told : (h : Head) (limits : Limits) (p : ℕ) (rest : List ℕ) → says_it (trace_refusal h limits p rest) ≡ false
trace-told h limits p rest = simp (says_it-cond, length-told limits p (length rest) (trace_length h rest), both_false) refl

ff_not_tt : (let x : Bool = false in x) ≡ true → ⊥
ff_not_tt e = cc

pub refused-told : (file : List ℕ) (reading : Reading) (limits : Limits) → IsRefused file reading limits ReadFailed → ⊥
refused-told file reading limits (inl e) = absurd (ff_not_tt (sym (head_of-told file reading limits) ∙ ap says e))
refused-told file reading limits (inr (v, rest, stuck)) = absurd (ff_not_tt (sym (trace-told v.head limits _ rest) ∙ ap says_it stuck.refused))

-- ---- bytes that were not read

stop_at : (b : Bool) (fault : LoadFault) (r : Result Head LoadFault) → b ≡ true → cond b (Err fault) r ≡ Err fault
stop_at b fault r e = rw e refl

-- a file with more bytes than the limit is refused for it
too_large : (file : List ℕ) (reading : Reading) (limits : Limits) → limits.bytes < length file → head_of file reading limits ≡ Err TooLarge
unfolding head_of
too_large file reading limits above = stop_at (ltb limits.bytes (length file)) TooLarge _ (lt-ltb limits.bytes (length file) above)

large-known : (known : Option (List ℕ)) (reading : Reading) (limits : Limits) (fault : LoadFault) → fault ≡ TooLarge → IfSome known (λ file. limits.bytes < length file) → IfSome known (λ file. IsRefused file reading limits fault)
large-known None reading limits fault is above = tt
large-known (Some file) reading limits fault is above = inl (too_large file reading limits above ∙ ap (λ (f : LoadFault). let r : Result Head LoadFault = Err f in r) (sym is))

pub read_fault : (known : Option (List ℕ)) (reading : Reading) (limits : Limits) (fault : LoadFault) → IsReadFault known limits fault → IsLoadFault known reading limits fault
read_fault known reading limits fault (inl failed) = inl failed
read_fault known reading limits fault (inr (inl memory)) = inr (inl memory)
read_fault known reading limits fault (inr (inr (is, above))) = inr (inr (large-known known reading limits fault is above))

-- ---- from the bytes that were read to the reader's

-- all the bytes of a reader are the ones that were read
all_read : (xs ys v : List ℕ) → xs ≡ v ++ ys → ys ≡ [] → v ≡ xs
all_read xs ys v e n = sym (append-nil v) ∙ ap (λ (s : List ℕ). v ++ s) (sym n) ∙ sym e

refused-known : (known rest : Option (List ℕ)) (v : List ℕ) (reading : Reading) (limits : Limits) (fault : LoadFault) → Consumes known rest v → IsAtEnd rest → IsRefused v reading limits fault → IfSome known (λ file. IsRefused file reading limits fault)
refused-known None rest v reading limits fault c e r = tt
refused-known (Some xs) None v reading limits fault c e r = absurd c
refused-known (Some xs) (Some ys) v reading limits fault c e r = subst (λ (file : List ℕ). IsRefused file reading limits fault) (all_read xs ys v c e) r

pub load_fault : (known rest : Option (List ℕ)) (v : List ℕ) (reading : Reading) (limits : Limits) (fault : LoadFault) → Consumes known rest v → IsAtEnd rest → (fault ≡ OutOfMemory) ⊎ IsRefused v reading limits fault → IsLoadFault known reading limits fault
load_fault known rest v reading limits fault c e (inl m) = inr (inl m)
load_fault known rest v reading limits fault c e (inr r) = inr (inr (refused-known known rest v reading limits fault c e r))

-- ---- the reader's count of failures

two_faults : OutOfMemory ≢ ReadFailed
two_faults e = cc

not_read : (v : List ℕ) (reading : Reading) (limits : Limits) (fault : LoadFault) → (fault ≡ OutOfMemory) ⊎ IsRefused v reading limits fault → fault ≢ ReadFailed
not_read v reading limits fault (inl m) e = two_faults (sym m ∙ e)
not_read v reading limits fault (inr r) e = refused-told v reading limits (subst (λ (f : LoadFault). IsRefused v reading limits f) e r)

-- a file in memory is cut, or refused, and no read has failed
pub kept_failures : {T : Type 0} → (r : Result T LoadFault) (old new : ℕ) (v : List ℕ) (reading : Reading) (limits : Limits) → new ≡ old → IfErr r (λ fault. (fault ≡ OutOfMemory) ⊎ IsRefused v reading limits fault)
    → MatchResult r (λ _. new ≡ old) (λ fault. FailuresAfterRefusal fault old new)
kept_failures (Ok x) old new v reading limits e h = e
kept_failures (Err fault) old new v reading limits e h = inr (not_read v reading limits fault h, e)
