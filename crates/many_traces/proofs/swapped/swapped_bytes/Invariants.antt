use Rattle.std.proofs.Common.{◌≡◌, ℕ, ◌*◌, ◌<◌, None, length, get_or, ◌≤◌}
use Rattle.frame_cut.specs.Splice.{splice}
use Rattle.frame_cut.specs.Traces.{trace_at}
use Rattle.trace_store.specs.Each.{part_of}
use Rattle.edit_overlay.specs.CountedVolume.{IsSeen}
use Rattle.edit_overlay.specs.Reads.{HaveAgreed}
use Rattle.bench_rules.specs.SwappedFields.{swap_refusal, swapped}
use Rattle.many_traces.specs.Spans.{span_size, span_start, HasSpan}
use Rattle.many_traces.proofs.swapped.swapped_bytes.Given as goal

-- none of the traces so far is refused, each has its part, and each was looked at once
abbrev pub invariant-loop-k : goal.invariant-loop-k
invariant-loop-k l = record {
  none : HaveAgreed l.overlay.reads → (j : ℕ) → j < l.k → swap_refusal l.fn.overlay.volume.head (l.first, l.second) (trace_at l.fn.overlay.volume (get_or l.traces j 0)) ≡ None;
  parts : HaveAgreed l.overlay.reads → (j : ℕ) → j < l.k →
      splice (trace_at l.fn.overlay.volume (get_or l.traces j 0)) (span_start (l.first, l.second)) (span_size (l.first, l.second)) (part_of l.bytes.items (span_size (l.first, l.second)) j)
      ≡ swapped l.fn.overlay.volume.head (l.first, l.second) (trace_at l.fn.overlay.volume (get_or l.traces j 0));
  count : length l.bytes.items ≡ l.k * span_size (l.first, l.second);
  inside : (j : ℕ) → j < l.k → HasSpan (l.first, l.second) (trace_at l.fn.overlay.volume (get_or l.traces j 0));
  size : length l.part ≡ span_size (l.first, l.second);
  seen : IsSeen l.fn.overlay l.overlay l.k;
  memory : l.initial.room ≤ l.room;
}
