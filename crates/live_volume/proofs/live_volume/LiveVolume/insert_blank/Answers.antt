use Rattle.std.proofs.Common.{◌≡◌, ◌∙◌, sym, subst, refl}
use Rattle.edit_overlay.specs.Reads.{Follow}
use Rattle.frame_cut.specs.Parts.{with_inserted}
use Rattle.frame_cut.specs.Volume.{Volume}
use Rattle.bench_rules.specs.declared.edit.Edit.TheVariants.{Blank}
use Rattle.bench_rules.specs.State.{State}
use Rattle.bench_rules.specs.Steps.{IsAfter}
use Rattle.bench_rules.specs.WholeTraces.{blank_trace}
use Rattle.bench_rules.proofs.AcceptedLemmas.{blank_accepted}
use Rattle.bench_rules.proofs.HeaderEditLemmas.{after_cut}
use Rattle.bench_rules.proofs.TraceStepLemmas.{blank_done}
use Rattle.bench_rules.proofs.WholeTraceLemmas.{blank_is_trace}
use Rattle.live_volume.specs.Held.{state_of}
use Rattle.live_volume.proofs.HeldLemmas.{on_ok, read_as_either}
use Rattle.live_volume.proofs.MeasuredLemmas.{number_of_trace}
use Rattle.live_volume.proofs.live_volume.LiveVolume.insert_blank.Goals as goal

pub record_of_bytes-trace-requires-clause-whole : goal.record_of_bytes-trace-requires-clause-whole
record_of_bytes-trace-requires-clause-whole c =
    let s = state_of c.self.inside in
    let blank : c.in_ok-bytes.bytes.items ≡ blank_trace s.volume.head = c.in_ok-bytes.ensures.ok ∙ rw (c.blank_length.ensures.length, c.head-head.ensures) refl in
    rw (c.head-head.ensures, c.as_slice.ensures.value, blank) (blank_is_trace s.volume.head)

pub insert-requires-clause-whole : goal.insert-requires-clause-whole
insert-requires-clause-whole c =
    let s = state_of c.self.inside in
    let blank : c.in_ok-bytes.bytes.items ≡ blank_trace s.volume.head = c.in_ok-bytes.ensures.ok ∙ rw (c.blank_length.ensures.length, c.head-head.ensures) refl in
    rw (← c.self.view_is) (rw blank (blank_is_trace s.volume.head))

pub insert-requires-clause-few : goal.insert-requires-clause-few
insert-requires-clause-few c =
    let a = blank_accepted (state_of c.self.inside) c.args.p (rw (← c.self.view_is) at c.requires) in
    rw (← c.self.view_is) a.few

pub insert-requires-clause-small : goal.insert-requires-clause-small
insert-requires-clause-small c =
    let s = state_of c.self.inside in
    let blank : c.in_ok-bytes.bytes.items ≡ blank_trace s.volume.head = c.in_ok-bytes.ensures.ok ∙ rw (c.blank_length.ensures.length, c.head-head.ensures) refl in
    let a = blank_accepted s c.args.p (rw (← c.self.view_is) at c.requires) in
    rw (← c.self.view_is) (rw blank a.small)

pub insert-requires-clause-number : goal.insert-requires-clause-number
insert-requires-clause-number c =
    let s = state_of c.self.inside in
    let blank : c.in_ok-bytes.bytes.items ≡ blank_trace s.volume.head = c.in_ok-bytes.ensures.ok ∙ rw (c.blank_length.ensures.length, c.head-head.ensures) refl in
    number_of_trace s.volume.head s.fields c.in_ok-bytes.bytes.items c.record_of_bytes-trace.result (rw blank (blank_is_trace s.volume.head))
    (c.record_of_bytes-trace.ensures ∙ rw (c.head-head.ensures, c.as_slice.ensures.value) refl)

pub insert-requires-clause-cut : goal.insert-requires-clause-cut
insert-requires-clause-cut c =
    let s = state_of c.self.inside in
    let none = rw (← c.self.view_is) at c.requires in
    let blank : c.in_ok-bytes.bytes.items ≡ blank_trace s.volume.head = c.in_ok-bytes.ensures.ok ∙ rw (c.blank_length.ensures.length, c.head-head.ensures) refl in
    let w : Volume = with_inserted s.volume c.args.p c.in_ok-bytes.bytes.items in
    rw (← c.self.view_is) (λ sure. after_cut s (Blank c.args.p) w (blank_done s c.args.p w c.in_ok-bytes.bytes.items (c.self.invariant.cut sure) none blank refl))

pub insert-requires-clause-record : goal.insert-requires-clause-record
insert-requires-clause-record c =
    rw (← c.self.view_is) (λ sure. c.record_of_bytes-trace.ensures ∙ rw (c.head-head.ensures, c.as_slice.ensures.value) refl)

pub returns-clause-ok : goal.returns-clause-ok
returns-clause-ok c =
    let s = state_of c.self.inside in
    let none = rw (← c.self.view_is) at c.requires in
    let blank : c.in_ok-bytes.bytes.items ≡ blank_trace s.volume.head = c.in_ok-bytes.ensures.ok ∙ rw (c.blank_length.ensures.length, c.head-head.ensures) refl in
    let w : Volume = with_inserted s.volume c.args.p c.in_ok-bytes.bytes.items in
    let held : Follow c.self.inside.overlay.reads c.insert.new.self.reads = rw (← c.self.view_is) at c.insert.ensures.reads in
    on_ok c.insert.result (λ e sure. subst (λ (u : State). IsAfter c.args.self.now.state (Blank c.args.p) u) (sym e)
    (rw (← c.self.view_is) (blank_done s c.args.p w c.in_ok-bytes.bytes.items (c.self.invariant.cut (held.agreed sure)) none blank refl))) c.insert.ensures.ok

pub returns-clause-same : goal.returns-clause-same
returns-clause-same c = read_as_either _ c.insert.result _ _ _ c.insert.ensures.ok c.insert.ensures.err
