use Rattle.std.proofs.Common.{◌≡◌, ℕ, Bool, Option, Some, None, IsTrue, length, nat_eq, sym, ap, ◌∙◌, arith, inl, inr}
use Rattle.std.specs.Option.{option_eq}
use Rattle.std.proofs.lemmas.Bool.Decides.{eqb_tells}
use Rattle.trace_view.proofs.WrittenLemmas.{length-written}
use Rattle.trace_store.proofs.whole.is_whole.Goals as goal

-- a test that it is this number
is_number : (o : Option ℕ) (n : ℕ) (b : Bool) → b ≡ option_eq nat_eq o (Some n) → (IsTrue b → o ≡ Some n) × (o ≡ Some n → IsTrue b)
is_number None n b test = (λ yes. absurd (cc), λ e. absurd (cc))
is_number (Some m) n b test = elim (eqb_tells m n) [
  | inl both ↦ let same : m ≡ n = both.1 in let is : b ≡ nat_eq m n = test in (λ yes. cc, λ e. is ∙ both.0)
  | inr both ↦ let is : b ≡ nat_eq m n = test in (λ yes. absurd (let no = both.0 in cc), λ e. absurd (both.1 (cc)))
]

pub returns-then-bytes-front_length : goal.returns-then-bytes-front_length
returns-then-bytes-front_length c =
    let size = length-written c.args.bytes.now c.args.runs.now c.requires in
    (λ no. absurd (cc), λ trace. absurd (omega (arith, trace.whole, size, c.if-bytes-front_length.true, c.front_length.ensures)))

pub returns : goal.returns
returns c =
    let size = length-written c.args.bytes.now c.args.runs.now c.requires in
    let test = is_number c.overlaid_length.result (length c.args.bytes.now) c.eq.result c.eq.ensures in
    let given = ap (λ (n : ℕ). let o : Option ℕ = Some n in o) (sym size) in (
      λ yes. record { whole = omega (arith, size, c.if-bytes-front_length.false, c.front_length.ensures); exact = sym c.overlaid_length.ensures ∙ (test.0 yes ∙ given) },
      λ trace. test.1 (c.overlaid_length.ensures ∙ (trace.exact ∙ sym given)),
    )
