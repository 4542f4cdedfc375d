use Rattle.std.proofs.Common.{◌≡◌, ◌∙◌}
use Rattle.edit_overlay.specs.Reads.{HaveAgreed}
use Rattle.frame_cut.specs.Volume.{Volume}
use Rattle.bench_rules.specs.SlicesOfRecords.{with_sample_of}
use Rattle.bench_rules.specs.Slices.{slice_rows, slice_of}
use Rattle.time_slice.proofs.CacheLemmas.{right_of_records}
use Rattle.time_slice.proofs.PassLemmas.{rows_are_of_traces}
use Rattle.volume_records.proofs.SeenLemmas.{if_ok}
use Rattle.live_volume.proofs.HeldLemmas.{held_again, kept_as_told}
use Rattle.live_volume.specs.Held.{records_in}
use Rattle.live_volume.proofs.live_volume.LiveVolume.slice.Goals as goal

pub slice-requires : goal.slice-requires
slice-requires c =
    let v : Volume = c.self.inside.overlay.volume in
    let right = rw (← c.self.view_is) at c.requires in
    λ sure. (right_of_records v.head c.self.inside.fields.pairs (records_in c.self.inside) v.traces c.args.slices.now.entries (c.self.invariant.records sure)).1 (right sure)

pub returns-clause-rows : goal.returns-clause-rows
returns-clause-rows c =
    let v : Volume = c.self.inside.overlay.volume in
    let one : HaveAgreed c.self.inside.overlay.reads → slice_rows (with_sample_of v.head c.args.k (records_in c.self.inside) v.traces) ≡ slice_of v.head c.self.inside.fields.pairs c.args.k v.traces =
    λ sure. rows_are_of_traces v.head c.self.inside.fields.pairs c.args.k (records_in c.self.inside) v.traces (c.self.invariant.records sure) in
    rw (← c.self.view_is) (if_ok c.slice.result (λ rows same sure. same sure ∙ one (c.slice.ensures.seen.reads.agreed sure)) c.slice.ensures.rows)

pub returns-clause-ok : goal.returns-clause-ok
returns-clause-ok c =
    let v : Volume = c.self.inside.overlay.volume in
    let one : HaveAgreed c.self.inside.overlay.reads → slice_rows (with_sample_of v.head c.args.k (records_in c.self.inside) v.traces) ≡ slice_of v.head c.self.inside.fields.pairs c.args.k v.traces =
    λ sure. rows_are_of_traces v.head c.self.inside.fields.pairs c.args.k (records_in c.self.inside) v.traces (c.self.invariant.records sure) in
    rw (← c.self.view_is)
    (kept_as_told c.slice.result c.args.slices.now c.slice.new.self c.args.k _ _ c.slice.ensures.rows c.slice.ensures.ok (λ sure. one (c.slice.ensures.seen.reads.agreed sure)))

pub invariant_of-self : goal.invariant_of-self
invariant_of-self c = held_again c.self.inside c.slice.new.overlay _ c.slice.ensures.seen c.self.invariant
