-- Numbers that are computed for many traces, one trace after another.
use Rattle.std.proofs.Common.{◌≡◌, ℕ, ℤ, zero, suc, ◌+◌, ◌-◌, ◌*◌, ◌≤◌, true, List, [], ◌++◌, Option, Some, None, Ok, Err, length, inl, inr, refl, sym, ap, ◌∙◌, arith}
use Rattle.std.specs.Prelude.{◌⊎◌, Result, IfOk, OnOk}
use Rattle.std.specs.List.{flat_map}
use Rattle.std.proofs.lemmas.Bool.{le-leb}
use borrow.Author.Count.{below_more}
use Rattle.num_order.specs.declared.kind.Kind.{Kind}
use Rattle.num_order.specs.declared.order.Order.{Order}
use Rattle.num_order.specs.Number.{InRange, bytes, fits}
use Rattle.num_order.proofs.InRangeLemmas.{in_range}
use Rattle.field_map.specs.declared.place.Place.{Place}
use Rattle.field_map.specs.Pairs.{Pairs}
use Rattle.frame_cut.specs.declared.file_head.Head.{Head}
use Rattle.frame_cut.specs.Cuts.{IsTrace}
use Rattle.frame_cut.specs.Traces.{count_of, is_trace, trace_at}
use Rattle.frame_cut.specs.Volume.{Volume}
use Rattle.trace_view.specs.Values.{has_place}
use Rattle.bench_rules.specs.declared.refusal.Refusal.{Refusal}
use Rattle.bench_rules.specs.declared.refusal.Refusal.TheVariants.{NoPlace, DoesNotFit, OutOfMemory}
use Rattle.bench_rules.specs.declared.operand.Operand.{Operand}
use Rattle.bench_rules.specs.declared.operator.Operator.{Operator}
use Rattle.bench_rules.specs.declared.term.Term.{Term}
use Rattle.bench_rules.specs.Computed.{Formula, compute_refusal, compute_refusal_in, computed_in, refusal_of_result, steps_of}
use Rattle.bench_rules.specs.SetRefusals.{set_refusal}
use Rattle.bench_rules.proofs.ComputeLemmas.{NoneRefused, number_of, number_or_zero, numbers_are}
use Rattle.bench_rules.proofs.FirstLemmas.{first_is, first_none}
use Rattle.bench_rules.proofs.ManyValueLemmas.{bytes_from, more_from, valued}
use Rattle.bench_rules.proofs.PlaceLemmas.{place_inside, sized, stands}
use Rattle.bench_rules.proofs.SetLemmas.{unless}
use Rattle.many_traces.specs.Fields.{HoldsPlace}
use Rattle.many_traces.specs.Formulas.{IsRefusalFor, named_number_in, number_bytes}
use Rattle.many_traces.proofs.FormulaLemmas.{named_is}

-- a trace from a to b is there
pub there : (v : Volume) (a b k : ℕ) → 1 ≤ a → b ≤ count_of v → a + k ≤ b → is_trace v (a + k) ≡ true
there v a b k low last inside = rw (le-leb 1 (a + k) (omega arith), le-leb (a + k) (count_of v) (omega arith)) refl

-- ---- the bytes

-- none of the first k traces is refused, and these are the bytes of their numbers
pub record AreSoFar (v : Volume) (f : Formula) (a k : ℕ) (bs : List ℕ) : Type 0 where
  pub none : NoneRefused v f a k
  pub bytes : bs ≡ bytes_from v.head.order f.place.kind (number_of v f) a k

pub none_so_far : (v : Volume) (f : Formula) (a : ℕ) (bs : List ℕ) → bs ≡ [] → AreSoFar v f a 0 bs
none_so_far v f a bs e = record { none = λ i less. absurd (omega (arith, less)); bytes = e }

pub one_more : (v : Volume) (f : Formula) (a k : ℕ) (x : ℤ) (old new : List ℕ) → AreSoFar v f a k old → compute_refusal v f (a + k) ≡ None → computed_in v.head f (a + k) (trace_at v (a + k)) ≡ Ok x
    → new ≡ old ++ bytes v.head.order f.place.kind x → AreSoFar v f a (k + 1) new
one_more v f a k x old new far none e joined =
    let number : number_of v f (a + k) ≡ x = ap number_or_zero e in
    record {
      none = below_more (λ (i : ℕ). compute_refusal v f (a + i) ≡ None) k far.none none;
      bytes = joined
          ∙ ap (λ (bs : List ℕ). bs ++ bytes v.head.order f.place.kind x) far.bytes
          ∙ ap (λ (y : ℤ). bytes_from v.head.order f.place.kind (number_of v f) a k ++ bytes v.head.order f.place.kind y) (sym number)
          ∙ sym (more_from v.head.order f.place.kind (number_of v f) a k);
    }

-- the first that is refused is the answer
pub refused_here : (v : Volume) (f : Formula) (a b k : ℕ) (r : Refusal) → NoneRefused v f a k → a + k ≤ b → compute_refusal v f (a + k) ≡ Some r → compute_refusal_in v (Some f) a b ≡ Some r
refused_here v f a b k r none inside e = first_is (compute_refusal v f) a (b + 1 - a) k r none (omega arith) e

-- or a read that failed
pub refused_or_read : {P R : Type 0} (v : Volume) (f : Formula) (a b k : ℕ) (r : Refusal) → R ⊎ (P → compute_refusal v f (a + k) ≡ Some r) → (P → NoneRefused v f a k) → a + k ≤ b → R ⊎ (P → compute_refusal_in v (Some f) a b ≡ Some r)
refused_or_read v f a b k r (inl read) none inside = inl read
refused_or_read v f a b k r (inr told) none inside = inr (λ sure. refused_here v f a b k r (none sure) inside (told sure))

-- and where none is, there is none
pub none_refused : (v : Volume) (f : Formula) (a b : ℕ) → NoneRefused v f a (b + 1 - a) → compute_refusal_in v (Some f) a b ≡ None
none_refused v f a b none = first_none (compute_refusal v f) a (b + 1 - a) none

pub of_valued : (o : Order) (kind : Kind) (value : ℕ → ℤ) (a n : ℕ) → flat_map (λ (m : ℕ × ℤ). bytes o kind m.1) (valued value a n) ≡ bytes_from o kind value a n
of_valued o kind value a zero = refl
of_valued o kind value a (suc n) = ap (λ (bs : List ℕ). bytes o kind (value a) ++ bs) (of_valued o kind value (a + 1) n)

pub all_bytes : (v : Volume) (f : Formula) (a b : ℕ) (bs : List ℕ) → AreSoFar v f a (b + 1 - a) bs → bs ≡ number_bytes v (Some f) a b
all_bytes v f a b bs far =
    far.bytes
    ∙ sym (ap (λ (ns : List (ℕ × ℤ)). flat_map (λ (m : ℕ × ℤ). bytes v.head.order f.place.kind m.1) ns) (numbers_are v f a (b + 1 - a) far.none)
    ∙ of_valued v.head.order f.place.kind (number_of v f) a (b + 1 - a))

-- room for the number of one trace, and for those behind it
pub room_left : (size n m : ℕ) → m ≡ n + 1 → size * m ≡ size + size * n
room_left size n m e = let more : size * (n + 1) ≡ size + size * n = omega arith in ap (λ (k : ℕ). size * k) e ∙ more

-- ---- the place of a number that nothing refuses

free : (h : Head) (t : List ℕ) (place : Place) (number : Result ℤ Refusal) (x : ℤ) → number ≡ Ok x → refusal_of_result h t place number ≡ None → set_refusal h t (Some place) x ≡ None
free h t place number x e none = ap (λ (r : Result ℤ Refusal). refusal_of_result h t place r) (sym e) ∙ none

holds : (h : Head) (t u : List ℕ) (place : Place) (x : ℤ) → IsTrace h t → length t ≡ length u → set_refusal h t (Some place) x ≡ None → HoldsPlace u place
holds h t u place x whole long none =
    let has = unless (has_place h t place) NoPlace _ none in
    let s = stands h t place has.0 in
    record {
      first = omega (arith, s.first);
      size = sized place.kind.size s.size;
      inside = omega (arith, place_inside h t place whole has.0, long);
    }

in_kind : (h : Head) (t : List ℕ) (place : Place) (x : ℤ) → set_refusal h t (Some place) x ≡ None → InRange place.kind x
in_kind h t place x none =
    let has = unless (has_place h t place) NoPlace _ none in
    let fit = unless (fits place.kind x) DoesNotFit _ has.1 in
    in_range place.kind x fit.0

-- what is told of a number that was admitted in a trace
abbrev pub IsAdmitted : Result ℤ Refusal → Result ℤ Refusal → Head → List ℕ → Place → Type 0
IsAdmitted r number h t place = IfOk r (λ x. (number ≡ Ok x) × (refusal_of_result h t place number ≡ None))

pub held : (r number : Result ℤ Refusal) (h : Head) (t u : List ℕ) (place : Place) → IsTrace h t → length t ≡ length u → IsAdmitted r number h t place → OnOk r (HoldsPlace u place)
held (Err refusal) number h t u place whole long told = tt
held (Ok x) number h t u place whole long told = holds h t u place x whole long (free h t place number x told.0 told.1)

pub kept_in_kind : (r number : Result ℤ Refusal) (h : Head) (t : List ℕ) (place : Place) → IsAdmitted r number h t place → IfOk r (λ x. InRange place.kind x)
kept_in_kind (Err refusal) number h t place told = tt
kept_in_kind (Ok x) number h t place told = in_kind h t place x (free h t place number x told.0 told.1)

-- ---- the numbers by names

-- the refusal of a number by names is that of the number by places, where each field has one
pub named_refusal : (v : Volume) (fields : Pairs) (h : Head) (t : List ℕ) (p : ℕ) (place : Place) (source : Term) (steps : List (Operator × Operand)) (number : Result ℤ Refusal) (o : Option Refusal)
    → h ≡ v.head → t ≡ trace_at v p → number ≡ named_number_in h fields place source steps p t → refusal_of_result h t place number ≡ o
    → (terms : List (Operator × Term)) → steps_of fields steps ≡ Some terms → o ≡ compute_refusal v (record { place = place; source = source; steps = terms }) p
named_refusal v fields h t p place source steps number o e g is told terms known =
    let same : number ≡ computed_in h (record { place = place; source = source; steps = terms }) p t = is ∙ named_is h t fields p place source steps terms known in
    rw (← e, ← g) (sym told ∙ ap (λ (n : Result ℤ Refusal). refusal_of_result h t place n) same)

pub refusal_is : (r : Refusal) (o : Option Refusal) → o ≡ Some r → IsRefusalFor r o
refusal_is r o e = rw e refl

pub memory_is : (o : Option Refusal) → o ≡ None → IsRefusalFor OutOfMemory o
memory_is o e = rw e refl
