use Rattle.std.proofs.Common.{◌≡◌, ◌≢◌, ◌∙◌, Option, Some, None, ap, subst, sym}
use Rattle.std.specs.Prelude.{IfSome}
use Rattle.trace_view.specs.Shown.{bytes_of, head_of}
use Rattle.bench_rules.specs.declared.refusal.Refusal.{Refusal}
use Rattle.bench_rules.specs.declared.refusal.Refusal.TheVariants.{OutOfMemory}
use Rattle.bench_rules.proofs.EditMemoryLemmas.{swap_memory}
use Rattle.bench_rules.proofs.SeenLemmas.{seen_more, seen_none}
use Rattle.bench_rules.specs.ReadFaults.{IsRefusalOfNoRead}
use Rattle.bench_rules.proofs.NoReadLemmas.{swap_free}
use Rattle.many_traces.proofs.swapped.swap_at.Goals as goal

pub returns-clause-seen : goal.returns-clause-seen
returns-clause-seen c =
    let seen = rw (c.in_ok-trace.was, c.in-Some.is) at c.look.follows.holds-at-none in
    seen_more c.args.overlay.now c.args.overlay.now c.look.follows.lender-at-none 0 (seen_none c.args.overlay.now) seen.looked seen.reads

not_told : (o : Option Refusal) → (o ≡ Some OutOfMemory → ⊥) → IfSome o (λ r. r ≢ OutOfMemory)
not_told None never = tt
not_told (Some r) never = λ e. never (ap Some e)

pub returns-clause-other : goal.returns-clause-other
returns-clause-other c =
    let view = c.in-Some.trace in
    not_told c.swap_in.result (λ e. swap_memory (head_of view) (c.args.first, c.args.second) (bytes_of view) (sym c.swap_in.ensures.refusal ∙ e))

pub returns-clause-rule : goal.returns-clause-rule
returns-clause-rule c =
    let view = c.in-Some.trace in
    subst (λ (o : Option Refusal). IfSome o IsRefusalOfNoRead) (sym c.swap_in.ensures.refusal) (swap_free (head_of view) (c.args.first, c.args.second) (bytes_of view))
