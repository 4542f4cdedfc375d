use Rattle.std.proofs.Common.{◌≡◌, ◌+◌, ◌-◌, List, Some}
use Rattle.field_map.specs.declared.place.Place.{Place}
use Rattle.bench_rules.specs.Places.{place_in_trace}
use Rattle.std.specs.Prelude.{is_some}
use Rattle.std.specs.List.{range_with_len}
use Rattle.edit_overlay.specs.CountedVolume.{IsSeen}
use Rattle.edit_overlay.specs.Reads.{HaveAgreed}
use Rattle.bench_rules.specs.ManyTraces.{each_of}
use Rattle.bench_rules.specs.Tables.{table_of}
use Rattle.many_traces.proofs.RowsLemmas.{row_at}
use Rattle.many_traces.proofs.tables.without_memory.Given as goal

-- the traces that are left decide, and each is looked at once
abbrev pub invariant-loop-k : goal.invariant-loop-k
invariant-loop-k l = record {
  left : HaveAgreed l.overlay.reads → (places : List Place) → each_of (place_in_trace l.map.pairs) l.fields ≡ Some places →
      is_some (table_of l.fn.overlay.volume places l.a l.b) ≡ is_some (each_of (row_at l.fn.overlay.volume places) (range_with_len (l.a + l.k) (l.b + 1 - l.a - l.k)));
  seen : IsSeen l.fn.overlay l.overlay l.k;
}
