use Rattle.std.proofs.Common.{◌≡◌, List, Some}
use Rattle.edit_overlay.specs.CountedVolume.{IsSeen}
use Rattle.edit_overlay.specs.Reads.{HaveAgreed}
use Rattle.bench_rules.specs.declared.operator.Operator.{Operator}
use Rattle.bench_rules.specs.declared.term.Term.{Term}
use Rattle.bench_rules.specs.Computed.{steps_of}
use Rattle.bench_rules.proofs.ComputeLemmas.{NoneRefused}
use Rattle.many_traces.proofs.computed.without_memory.Given as goal

-- none of the traces so far is refused, and each was looked at once
abbrev pub invariant-loop-k : goal.invariant-loop-k
invariant-loop-k l = record {
  none : HaveAgreed l.overlay.reads → (terms : List (Operator × Term)) → steps_of l.map.pairs l.steps ≡ Some terms →
      NoneRefused l.fn.overlay.volume (record { place = l.place; source = l.source; steps = terms }) l.a l.k;
  seen : IsSeen l.fn.overlay l.overlay l.k;
}
