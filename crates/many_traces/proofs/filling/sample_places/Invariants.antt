use Rattle.std.proofs.Common.{◌≡◌, ℕ, ◌+◌, ◌-◌, ◌*◌, ◌<◌, ◌≤◌, None, length, get_or}
use Rattle.sample_codes.specs.Formats.{width}
use Rattle.frame_cut.specs.Traces.{trace_at}
use Rattle.trace_view.specs.Values.{samples_at}
use Rattle.edit_overlay.specs.CountedVolume.{IsSeen}
use Rattle.edit_overlay.specs.Reads.{HaveAgreed}
use Rattle.bench_rules.specs.FilledSamples.{samples_refusal}
use Rattle.many_traces.proofs.filling.sample_places.Given as goal

-- none of the traces so far is refused, each has its place and room from there on, and each was looked at once
abbrev pub invariant-loop-k : goal.invariant-loop-k
invariant-loop-k l = record {
  none : HaveAgreed l.overlay.reads → (j : ℕ) → j < l.k → samples_refusal l.fn.overlay.volume.head l.first l.last (trace_at l.fn.overlay.volume (get_or l.traces j 0)) ≡ None;
  places : HaveAgreed l.overlay.reads → (j : ℕ) → j < l.k →
      get_or l.places.items j 0 ≡ samples_at l.fn.overlay.volume.head (trace_at l.fn.overlay.volume (get_or l.traces j 0)) + width l.fn.overlay.volume.head.format * l.first;
  count : length l.places.items ≡ l.k;
  room : (j : ℕ) → j < l.k →
      get_or l.places.items j 0 + width l.fn.overlay.volume.head.format * (l.last + 1 - l.first) ≤ length (trace_at l.fn.overlay.volume (get_or l.traces j 0));
  seen : IsSeen l.fn.overlay l.overlay l.k;
  memory : l.initial.room ≤ l.room;
}
