-- What is refused, and with which kind of error.
use Rattle.std.proofs.Common.{◌≡◌, ◌∙◌, ℕ, List, [], ◌∷◌, Option, Some, None, Result, Ok, Err, IsErrAnd, true, inl, inr, refl, ap, ap₂, sym, subst, codes}
use Rattle.clap.specs.Faults.{fault_of, is_simple_and_free}
use Rattle.clap.specs.Kinds.{FailsBy, HasKind, IsAmong, Kinds, or_else}
use Rattle.clap.specs.Values.{kind_of}
use Rattle.clap.specs.Words.{App, first_of}
use Rattle.clap.specs.declared.error.Error.{Error}
use Rattle.clap.specs.declared.error.kind.ErrorKind.TheVariants.{InvalidValue}
use Rattle.num_order.specs.declared.order.Order.{Order}
use Rattle.command_line.specs.CommandLine.{matched, order_refusals, refusals, segywb, segywb-is_free, ReadsOrder}

-- clap refuses by its faults of our command
pub by_our_faults : {T : Type 0} (a : App) (words : List (List ℕ)) (r : Result T Error) → a ≡ segywb
    → (is_simple_and_free a ≡ true → FailsBy (fault_of a words) r) → FailsBy (fault_of segywb words) r
by_our_faults a words r same h = subst (λ (b : App). FailsBy (fault_of b words) r) same (h (ap is_simple_and_free same ∙ segywb-is_free))

kinds_stay : (ks next : Kinds) (e : Error) → HasKind ks e → HasKind (or_else ks next) e
kinds_stay [] next e (inl memory) = inl memory
kinds_stay [] next e (inr bad) = absurd bad
kinds_stay (k ∷ ks) next e h = h

-- what clap refuses is refused
pub refused_by_clap : (words : List (List ℕ)) (e : Error) → HasKind (fault_of segywb words) e → HasKind (refusals words) e
unfolding refusals
refused_by_clap words e h = kinds_stay (fault_of segywb words) (order_refusals (first_of (codes "order") (matched words))) e h

-- an order that is none is refused, where clap refuses nothing
pub refused_for_order : (words : List (List ℕ)) (e : Error) → fault_of segywb words ≡ [] → order_refusals (first_of (codes "order") (matched words)) ≡ InvalidValue ∷ []
    → kind_of e ≡ InvalidValue → HasKind (refusals words) e
unfolding refusals
refused_for_order words e none order kind = inr (subst (IsAmong (kind_of e)) (sym (ap₂ or_else none order)) (inl kind))

order_taken : (text : Option (List ℕ)) (order : Option Order) → ReadsOrder text order → order_refusals text ≡ []
order_taken None order h = refl
order_taken (Some text) order (inl h) = rw h.0 refl
order_taken (Some text) order (inr h) = rw h.0 refl

-- nothing is refused
pub nothing_refused : (words : List (List ℕ)) (order : Option Order) → fault_of segywb words ≡ [] → ReadsOrder (first_of (codes "order") (matched words)) order → refusals words ≡ []
unfolding refusals
nothing_refused words order none reads = ap₂ or_else none (order_taken (first_of (codes "order") (matched words)) order reads)

-- an error that is passed up fails by its kinds
pub passed_up : {T : Type 0} (kinds : Kinds) (r : Result T Error) (e : Error) → IsErrAnd r (λ x. x ≡ e) → HasKind kinds e → FailsBy kinds r
passed_up kinds (Ok x) e is h = absurd is
passed_up kinds (Err x) e is h = subst (HasKind kinds) (sym is) h
