use Rattle.std.proofs.Common.{◌≡◌, ◌+◌, ◌∙◌, ℕ, List, None, Some, sym, arith}
use borrow.Author.Count.{below_more}
use Rattle.bench_rules.specs.declared.operator.Operator.{Operator}
use Rattle.bench_rules.specs.declared.term.Term.{Term}
use Rattle.bench_rules.specs.Computed.{Formula, compute_refusal, compute_refusal_in}
use Rattle.bench_rules.proofs.LookLemmas.{seen_after}
use Rattle.many_traces.proofs.NumbersLemmas.{refused_here, none_refused, refusal_is, memory_is}
use Rattle.many_traces.proofs.computed.without_memory.Goals as goal

pub returns-in-Some-clause-refusal : goal.returns-in-Some-clause-refusal
returns-in-Some-clause-refusal c = λ sure terms known.
    let f : Formula = record { place = c.args.place; source = c.args.source; steps = terms } in
    let i = c.loop-k.invariant in
    let made = c.in_ok-first.ensures in
    let err = sym (sym c.in-Some.is ∙ made.refusal sure terms known) in
    refusal_is c.in-Some.refusal (compute_refusal_in c.args.overlay.now.volume (Some f) c.args.a c.args.b)
    (refused_here c.args.overlay.now.volume f c.args.a c.args.b c.loop-k.k c.in-Some.refusal (i.none (made.seen.reads.agreed sure) terms known) (omega (arith, c.loop-k-test.true, c.requires.range)) (rw (i.seen.volume) at err))

pub loop-k-preserved : goal.loop-k-preserved
loop-k-preserved c =
    let i = c.loop-k.invariant in
    let made = c.in_ok-first.ensures in
    record {
      none = λ sure (terms : List (Operator × Term)) known.
          let f : Formula = record { place = c.args.place; source = c.args.source; steps = terms } in
          let none = sym (sym c.in_default.is ∙ made.refusal sure terms known) in
          below_more (λ (j : ℕ). compute_refusal c.args.overlay.now.volume f (c.args.a + j) ≡ None) c.loop-k.k (i.none (made.seen.reads.agreed sure) terms known) (rw (i.seen.volume) at none);
      seen = seen_after c.args.overlay.now c.loop-k.overlay c.refusal_by_names.new.overlay c.loop-k.k 1 i.seen made.seen;
    }

pub returns-clause-refusal : goal.returns-clause-refusal
returns-clause-refusal c = λ sure terms known.
    let f : Formula = record { place = c.args.place; source = c.args.source; steps = terms } in
    memory_is (compute_refusal_in c.args.overlay.now.volume (Some f) c.args.a c.args.b)
    (none_refused c.args.overlay.now.volume f c.args.a c.args.b (λ i less. c.loop-k.invariant.none sure terms known i (omega (arith, less, c.loop-k-test.false, c.requires.range))))
