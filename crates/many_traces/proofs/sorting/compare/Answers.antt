use Rattle.std.proofs.Common.{rules, ◌≡◌, ◌∙◌, refl, sym, ap, arith, ℤ, pos, false, get_or, ◌≤◌, min, length, of_z, to_z, FitsSigned}
use Rattle.std.specs.Int.{w128}
use Rattle.std.proofs.lemmas.Int.{to_z-of_z}
use Rattle.bench_rules.proofs.RowOrderLemmas.{front-ends, front-told, front-equal, one-ends}
use Rattle.many_traces.proofs.sorting.compare.Goals as goal

pub loop-k-init : goal.loop-k-init
loop-k-init c = refl

pub returns-then-numbers-k : goal.returns-then-numbers-k
returns-then-numbers-k c =
    let x : ℤ = get_or c.args.numbers.now c.loop-k.k (pos 0) in
    let y : ℤ = get_or c.args.others.now c.loop-k.k (pos 0) in
    let fits : FitsSigned w128 x = search rules in
    let fits' : FitsSigned w128 y = search rules in
    let told = rw (to_z-of_z w128 x fits, to_z-of_z w128 y fits') at c.towards.ensures in
    told
    ∙ sym (c.loop-k.invariant ∙ front-told c.loop-k.k c.args.falling.now c.args.numbers.now c.args.others.now false (pos 0) (pos 0) (omega (arith, c.loop-k-test.true, c.min.ensures, c.min-count.ensures)) (omega (arith, c.loop-k-test.true, c.min.ensures, c.min-count.ensures)) (omega (arith, c.loop-k-test.true, c.min.ensures, c.min-count.ensures))
    (λ e. c.if-numbers-k.true (ap (of_z w128) e)))

pub loop-k-preserved : goal.loop-k-preserved
loop-k-preserved c =
    let x : ℤ = get_or c.args.numbers.now c.loop-k.k (pos 0) in
    let y : ℤ = get_or c.args.others.now c.loop-k.k (pos 0) in
    let fits : FitsSigned w128 x = search rules in
    let fits' : FitsSigned w128 y = search rules in
    let same : x ≡ y = sym (to_z-of_z w128 x fits) ∙ ap (to_z w128) c.if-numbers-k.false ∙ to_z-of_z w128 y fits' in
    c.loop-k.invariant ∙ front-equal c.loop-k.k c.args.falling.now c.args.numbers.now c.args.others.now false (pos 0) (pos 0) (omega (arith, c.loop-k-test.true, c.min.ensures, c.min-count.ensures)) (omega (arith, c.loop-k-test.true, c.min.ensures, c.min-count.ensures)) (omega (arith, c.loop-k-test.true, c.min.ensures, c.min-count.ensures)) same

pub returns : goal.returns
returns c =
    let ended : min (min (length c.args.falling.now) (length c.args.numbers.now)) (length c.args.others.now) ≤ c.loop-k.k = omega (arith, c.loop-k-test.false, c.min.ensures, c.min-count.ensures) in
    sym (c.loop-k.invariant ∙ front-ends c.loop-k.k c.args.falling.now c.args.numbers.now c.args.others.now (one-ends _ _ _ _ ended))
