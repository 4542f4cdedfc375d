use Rattle.std.proofs.Common.{◌≡◌, ℕ, ◌+◌, ◌-◌, ◌<◌, ◌≤◌, [], ap, refl, length, get_or, rules, arith}
use Rattle.frame_cut.specs.Cuts.{IsCut}
use Rattle.frame_cut.specs.Traces.{count_of}
use Rattle.frame_cut.specs.Volume.{Volume, bytes_of}
use Rattle.trace_record.specs.declared.packed_record.PackedRecord.{PackedRecord}
use Rattle.edit_overlay.specs.CountedVolume.{CountedVolume, with_over}
use Rattle.edit_overlay.specs.Reads.{HaveAgreed}
use Rattle.live_volume.proofs.OverLemmas as over
use Rattle.live_volume.proofs.live_volume.LiveVolume.put_over.Goals as goal

pub prepare_put_over-requires-clause-last : goal.prepare_put_over-requires-clause-last
prepare_put_over-requires-clause-last c = rw (← c.self.view_is) at c.requires.last

pub prepare_put_over-requires-clause-inside : goal.prepare_put_over-requires-clause-inside
prepare_put_over-requires-clause-inside c = rw (← c.self.view_is) at c.requires.inside

pub prepare_put_over-requires-clause-whole : goal.prepare_put_over-requires-clause-whole
prepare_put_over-requires-clause-whole c = rw (← c.self.view_is) at c.requires.whole

pub prepared_whole_records-requires-clause-last : goal.prepared_whole_records-requires-clause-last
prepared_whole_records-requires-clause-last c =
    let v : Volume = c.self.inside.overlay.volume in
    let last : c.args.a - 1 + length c.args.places.now ≤ count_of v = rw (← c.self.view_is) at c.requires.last in
    let prep : c.prepare_put_over.new.self.prepared ≡ with_over v c.args.a c.args.places.now c.args.bytes.now = ap (λ (o : CountedVolume PackedRecord). o.prepared) c.in_ok-prepare_put_over.ensures.ok in
    omega (arith, last, ap (λ (u : Volume). count_of u) prep, over.length-put_over v.traces (c.args.a - 1) c.args.places.now c.args.bytes.now)

pub prepared_whole_records-requires-clause-held : goal.prepared_whole_records-requires-clause-held
prepared_whole_records-requires-clause-held c =
    let last : c.args.a - 1 + length c.args.places.now ≤ count_of c.self.inside.overlay.volume = rw (← c.self.view_is) at c.requires.last in
    omega (arith, ap (λ (o : CountedVolume PackedRecord). count_of o.volume) c.in_ok-prepare_put_over.ensures.ok, last)

pub commit_with_records-requires-clause-last : goal.commit_with_records-requires-clause-last
commit_with_records-requires-clause-last c =
    let b = c.self.inside in
    let last : c.args.a - 1 + length c.args.places.now ≤ count_of b.overlay.volume = rw (← c.self.view_is) at c.requires.last in
    let inside : (k : ℕ) → k < length c.args.places.now → get_or c.args.places.now k 0 + length c.args.bytes.now ≤ length (get_or b.overlay.volume.traces (c.args.a - 1 + k) []) = rw (← c.self.view_is) at c.requires.inside in
    over.over_last b c.self.invariant c.args.a (length c.args.places.now) c.args.places.now c.args.bytes.now c.prepare_put_over.new.self c.prepared_whole_records.new.overlay c.in-Ok.records c.requires.first refl
    last inside c.in_ok-prepare_put_over.ensures.ok c.prepared_whole_records.ensures.seen c.in-Ok.ensures.many c.in-Ok.ensures.few

pub commit_with_records-requires-clause-held : goal.commit_with_records-requires-clause-held
commit_with_records-requires-clause-held c =
    let b = c.self.inside in
    let last : c.args.a - 1 + length c.args.places.now ≤ count_of b.overlay.volume = rw (← c.self.view_is) at c.requires.last in
    let inside : (k : ℕ) → k < length c.args.places.now → get_or c.args.places.now k 0 + length c.args.bytes.now ≤ length (get_or b.overlay.volume.traces (c.args.a - 1 + k) []) = rw (← c.self.view_is) at c.requires.inside in
    over.over_held b c.self.invariant c.args.a (length c.args.places.now) c.args.places.now c.args.bytes.now c.prepare_put_over.new.self c.prepared_whole_records.new.overlay c.in-Ok.records c.requires.first refl
    last inside c.in_ok-prepare_put_over.ensures.ok c.prepared_whole_records.ensures.seen c.in-Ok.ensures.many c.in-Ok.ensures.few

pub commit_with_records-requires-clause-stay : goal.commit_with_records-requires-clause-stay
commit_with_records-requires-clause-stay c =
    let b = c.self.inside in
    let last : c.args.a - 1 + length c.args.places.now ≤ count_of b.overlay.volume = rw (← c.self.view_is) at c.requires.last in
    let inside : (k : ℕ) → k < length c.args.places.now → get_or c.args.places.now k 0 + length c.args.bytes.now ≤ length (get_or b.overlay.volume.traces (c.args.a - 1 + k) []) = rw (← c.self.view_is) at c.requires.inside in
    over.over_stay b c.self.invariant c.args.a (length c.args.places.now) c.args.places.now c.args.bytes.now c.prepare_put_over.new.self c.prepared_whole_records.new.overlay c.in-Ok.records c.requires.first refl
    last inside c.in_ok-prepare_put_over.ensures.ok c.prepared_whole_records.ensures.seen c.in-Ok.ensures.many c.in-Ok.ensures.few

pub commit_with_records-requires-clause-counted : goal.commit_with_records-requires-clause-counted
commit_with_records-requires-clause-counted c =
    let b = c.self.inside in
    let last : c.args.a - 1 + length c.args.places.now ≤ count_of b.overlay.volume = rw (← c.self.view_is) at c.requires.last in
    let inside : (k : ℕ) → k < length c.args.places.now → get_or c.args.places.now k 0 + length c.args.bytes.now ≤ length (get_or b.overlay.volume.traces (c.args.a - 1 + k) []) = rw (← c.self.view_is) at c.requires.inside in
    over.over_counted b c.self.invariant c.args.a (length c.args.places.now) c.args.places.now c.args.bytes.now c.prepare_put_over.new.self c.prepared_whole_records.new.overlay c.in-Ok.records c.requires.first refl
    last inside c.in_ok-prepare_put_over.ensures.ok c.prepared_whole_records.ensures.seen c.in-Ok.ensures.many c.in-Ok.ensures.few

pub commit_with_records-requires-clause-few : goal.commit_with_records-requires-clause-few
commit_with_records-requires-clause-few c =
    let b = c.self.inside in
    let last : c.args.a - 1 + length c.args.places.now ≤ count_of b.overlay.volume = rw (← c.self.view_is) at c.requires.last in
    let inside : (k : ℕ) → k < length c.args.places.now → get_or c.args.places.now k 0 + length c.args.bytes.now ≤ length (get_or b.overlay.volume.traces (c.args.a - 1 + k) []) = rw (← c.self.view_is) at c.requires.inside in
    over.over_few b c.self.invariant c.args.a (length c.args.places.now) c.args.places.now c.args.bytes.now c.prepare_put_over.new.self c.prepared_whole_records.new.overlay c.in-Ok.records c.requires.first refl
    last inside c.in_ok-prepare_put_over.ensures.ok c.prepared_whole_records.ensures.seen c.in-Ok.ensures.many c.in-Ok.ensures.few (search rules)

pub invariant_of-self-in-Ok-commit_with_records : goal.invariant_of-self-in-Ok-commit_with_records
invariant_of-self-in-Ok-commit_with_records c =
    let b = c.self.inside in
    let last : c.args.a - 1 + length c.args.places.now ≤ count_of b.overlay.volume = rw (← c.self.view_is) at c.requires.last in
    let inside : (k : ℕ) → k < length c.args.places.now → get_or c.args.places.now k 0 + length c.args.bytes.now ≤ length (get_or b.overlay.volume.traces (c.args.a - 1 + k) []) = rw (← c.self.view_is) at c.requires.inside in
    let cut : HaveAgreed b.overlay.reads → IsCut (bytes_of (with_over b.overlay.volume c.args.a c.args.places.now c.args.bytes.now)) b.reading b.limits (with_over b.overlay.volume c.args.a c.args.places.now c.args.bytes.now) =
    rw (← c.self.view_is) at c.requires.cut in
    over.over_done b c.self.invariant c.args.a (length c.args.places.now) c.args.places.now c.args.bytes.now c.prepare_put_over.new.self c.prepared_whole_records.new.overlay c.in-Ok.records c.requires.first refl
    last inside c.in_ok-prepare_put_over.ensures.ok c.prepared_whole_records.ensures.seen c.in-Ok.ensures.many c.in-Ok.ensures.few
    c.commit_with_records.new.overlay c.commit_with_records.new.reports c.in-Ok-commit_with_records.ensures.volume c.commit_with_records.ensures.prepared c.in-Ok-commit_with_records.ensures.records c.commit_with_records.ensures.reads
    cut c.in-Ok.ensures.records c.in-Ok-commit_with_records.ensures.reports
