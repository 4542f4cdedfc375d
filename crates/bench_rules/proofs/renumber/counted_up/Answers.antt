use Rattle.std.proofs.Common.{◌≡◌, ℕ, ℤ, pos, ◌/◌, ◌+ℤ◌, ◌*ℤ◌, refl, subst, sym, ap, ◌∙◌, rules}
use Rattle.std.proofs.lemmas.Int.{to_z-of_z}
use Rattle.std.specs.Int.{w128}
use Rattle.std.specs.Option.{SomeIff}
use mir.Val.{SFits, to_z, of_z}
use Rattle.bench_rules.proofs.CountedLemmas.{halves, even_is, odd_is}
use Rattle.bench_rules.proofs.renumber.counted_up.Goals as goal

-- a number that was passed is itself
passed : (x y : ℤ) → SFits w128 x → x ≡ y → to_z w128 (of_z w128 x) ≡ y
passed x y fits e = to_z-of_z w128 x fits ∙ e

-- the product that was passed on is half of the steps
product : (step steps half : ℤ) (h : ℕ) → SFits w128 step → SFits w128 steps → steps ≡ pos h → half ≡ to_z w128 (of_z w128 step) *ℤ to_z w128 (of_z w128 steps) → half ≡ step *ℤ pos h
product step steps half h fits count is made = made ∙ ap (λ (x : ℤ). x *ℤ to_z w128 (of_z w128 steps)) (to_z-of_z w128 step fits) ∙ ap (λ (x : ℤ). step *ℤ x) (passed steps (pos h) count is)

-- and so is a sum
added : (a b sum : ℤ) → SFits w128 a → SFits w128 b → sum ≡ to_z w128 (of_z w128 a) +ℤ to_z w128 (of_z w128 b) → sum ≡ a +ℤ b
added a b sum f g made = made ∙ ap (λ (x : ℤ). x +ℤ to_z w128 (of_z w128 b)) (to_z-of_z w128 a f) ∙ ap (λ (x : ℤ). a +ℤ x) (to_z-of_z w128 b g)

twice : (once half sum x y : ℤ) → SFits w128 once → SFits w128 half → once ≡ x → half ≡ y → sum ≡ to_z w128 (of_z w128 once) +ℤ to_z w128 (of_z w128 half) → sum ≡ x +ℤ y
twice once half sum x y f g e h made = added once half sum f g made ∙ ap (λ (z : ℤ). z +ℤ half) e ∙ ap (λ (z : ℤ). x +ℤ z) h

pub returns-in_err-half : goal.returns-in_err-half
returns-in_err-half c =
    let count : SFits w128 c.from.result = search rules in
    let step : SFits w128 c.args.step = search rules in
    let first : SFits w128 c.args.first = search rules in
    let same = product c.args.step c.from.result _ (c.args.k / 2) step count c.from.ensures refl in
    rw c.from_residual.ensures (λ all. c.in_err-half.ensures (subst (SFits w128) (sym same) (halves c.args.first c.args.step c.args.k first all).half_fits))

pub returns-in_err-checked_add : goal.returns-in_err-checked_add
returns-in_err-checked_add c =
    let count : SFits w128 c.from.result = search rules in
    let step : SFits w128 c.args.step = search rules in
    let first : SFits w128 c.args.first = search rules in
    let half_fits : SFits w128 c.in_ok-half.half = search rules in
    let half = product c.args.step c.from.result c.in_ok-half.half (c.args.k / 2) step count c.from.ensures c.in_ok-half.ensures.1 in
    rw c.from_residual-in_err-checked_add.ensures
    (λ all. c.in_err-checked_add.ensures
    (rw (to_z-of_z w128 c.args.first first, passed c.in_ok-half.half _ half_fits half) (halves c.args.first c.args.step c.args.k first all).once))

pub returns-in_err-value : goal.returns-in_err-value
returns-in_err-value c =
    let count : SFits w128 c.from.result = search rules in
    let step : SFits w128 c.args.step = search rules in
    let first : SFits w128 c.args.first = search rules in
    let half_fits : SFits w128 c.in_ok-half.half = search rules in
    let half = product c.args.step c.from.result c.in_ok-half.half (c.args.k / 2) step count c.from.ensures c.in_ok-half.ensures.1 in
    let once_fits : SFits w128 c.in_ok-checked_add.field-0 = search rules in
    let once = added c.args.first c.in_ok-half.half c.in_ok-checked_add.field-0 first half_fits c.in_ok-checked_add.ensures.1 ∙ ap (λ (x : ℤ). c.args.first +ℤ x) half in
    rw c.from_residual-in_err-value.ensures
    (λ all. c.in_err-value.ensures
    (rw (passed c.in_ok-checked_add.field-0 _ once_fits once, passed c.in_ok-half.half _ half_fits half) (halves c.args.first c.args.step c.args.k first all).twice))

pub returns-then-k-eq0 : goal.returns-then-k-eq0
returns-then-k-eq0 c =
    let count : SFits w128 c.from.result = search rules in
    let step : SFits w128 c.args.step = search rules in
    let first : SFits w128 c.args.first = search rules in
    let half_fits : SFits w128 c.in_ok-half.half = search rules in
    let half = product c.args.step c.from.result c.in_ok-half.half (c.args.k / 2) step count c.from.ensures c.in_ok-half.ensures.1 in
    let once_fits : SFits w128 c.in_ok-checked_add.field-0 = search rules in
    let once = added c.args.first c.in_ok-half.half c.in_ok-checked_add.field-0 first half_fits c.in_ok-checked_add.ensures.1 ∙ ap (λ (x : ℤ). c.args.first +ℤ x) half in
    let value_fits : SFits w128 c.in_ok-value.value = search rules in
    let value = twice c.in_ok-checked_add.field-0 c.in_ok-half.half c.in_ok-value.value _ _ once_fits half_fits once half c.in_ok-value.ensures.1 in
    let all = value ∙ even_is c.args.first c.args.step c.args.k c.if-k-eq0.true in
    (subst (SFits w128) all value_fits, passed c.in_ok-value.value _ value_fits all)

pub returns-else-k-eq0 : goal.returns-else-k-eq0
returns-else-k-eq0 c =
    let count : SFits w128 c.from.result = search rules in
    let step : SFits w128 c.args.step = search rules in
    let first : SFits w128 c.args.first = search rules in
    let half_fits : SFits w128 c.in_ok-half.half = search rules in
    let half = product c.args.step c.from.result c.in_ok-half.half (c.args.k / 2) step count c.from.ensures c.in_ok-half.ensures.1 in
    let once_fits : SFits w128 c.in_ok-checked_add.field-0 = search rules in
    let once = added c.args.first c.in_ok-half.half c.in_ok-checked_add.field-0 first half_fits c.in_ok-checked_add.ensures.1 ∙ ap (λ (x : ℤ). c.args.first +ℤ x) half in
    let value_fits : SFits w128 c.in_ok-value.value = search rules in
    let value = twice c.in_ok-checked_add.field-0 c.in_ok-half.half c.in_ok-value.value _ _ once_fits half_fits once half c.in_ok-value.ensures.1 in
    let all = ap (λ (x : ℤ). x +ℤ to_z w128 (of_z w128 c.args.step)) (passed c.in_ok-value.value _ value_fits value)
    ∙ ap (λ (x : ℤ). ((c.args.first +ℤ c.args.step *ℤ pos (c.args.k / 2)) +ℤ c.args.step *ℤ pos (c.args.k / 2)) +ℤ x) (to_z-of_z w128 c.args.step step)
    ∙ odd_is c.args.first c.args.step c.args.k c.if-k-eq0.false in
    subst (λ (z : ℤ). SomeIff c.checked_add-else-k-eq0.result (SFits w128 z) z) all c.checked_add-else-k-eq0.ensures
