use Rattle.std.proofs.Common.{◌≡◌, ◌∙◌, IsTrue, List, ℕ, refl, ap, arith, length}
use Rattle.std.proofs.lemmas.Result.{err_from_is_err_and}
use Rattle.frame_cut.specs.Traces.{is_trace}
use Rattle.trace_store.specs.Ahead.{traces_ahead}
use Rattle.edit_overlay.specs.CountedVolume.{CountedVolume, after_look}
use Rattle.edit_overlay.specs.Held.{looked_of}
use Rattle.edit_overlay.proofs.HeldLemmas.{held_relaid, same_reread}
use Rattle.edit_overlay.proofs.LookLemmas.{failed_on_disk, has_missed, has_shape, has_shown, head_ahead, traces_looked_ahead, unsure_ahead}
use Rattle.edit_overlay.proofs.StandingLemmas.{trace_there}
use Rattle.edit_overlay.proofs.overlay.Overlay.look_prepared.Goals as goal

pub fetch-requires-clause-last : goal.fetch-requires-clause-last
fetch-requires-clause-last g c =
    omega (arith, c.if-p-count_prepared.false, c.count_prepared.ensures.now, ap (λ (o : CountedVolume g.row.T.Denot). length o.volume.traces) (c.self.view_is ∙ c.count_look.ensures))

pub shown-requires-clause-last : goal.shown-requires-clause-last
shown-requires-clause-last g c =
    omega (
      arith,
      c.if-p-count_prepared.false,
      c.count_prepared.ensures.now,
      ap (λ (o : CountedVolume g.row.T.Denot). length o.volume.traces) (c.self.view_is ∙ c.count_look.ensures),
      ap (λ (ts : List (List ℕ)). length ts) (same_reread c.self.inside c.fetch.new.self.store c.fetch.ensures.same).traces,
    )

pub invariant_of-self : goal.invariant_of-self
invariant_of-self g c = held_relaid c.self.inside c.fetch.new.self c.fetch.ensures.same c.fetch.ensures.prepared c.self.invariant

pub invariant_of-self-2 : goal.invariant_of-self-2
invariant_of-self-2 g c = held_relaid c.self.inside c.fetch.new.self c.fetch.ensures.same c.fetch.ensures.prepared c.self.invariant

pub returns-in_err-fetch : goal.returns-in_err-fetch
returns-in_err-fetch g c =
    let o = c.args.self.now in
    let l = c.fetch.new.self in
    let reread = c.fetch.ensures.same in
    let kept = c.fetch.ensures.prepared in
    let counted : looked_of c.self.inside ≡ after_look o o.reads = c.self.view_is ∙ c.count_look.ensures in
    let there : IsTrue (is_trace o.prepared c.args.p) = trace_there o.prepared c.args.p (omega arith) (omega (arith, c.if-p-count_prepared.false, c.count_prepared.ensures.prepared)) in
    let p = err_from_is_err_and c.from_residual.result c.from_residual.ensures.1 in
    let failed : IsTrue o.loaded.on_disk = failed_on_disk o c.self.inside l reread kept counted c.fetch.result c.in_err-fetch.field-0.0 c.in_err-fetch.was c.fetch.ensures.memory in
    rw (rw p.2 at p.1) (
      (refl, λ _. tt, has_missed o c.self.inside l reread kept counted c.in_err-fetch.field-0.0 c.self.invariant.lends (unsure_ahead l.store c.args.p l.prepared) c.in_err-fetch.ensures.fault),
      record { ends = tt; there = tt; shape = tt; read = (there, failed) },
    )

pub returns : goal.returns
returns g c =
    let o = c.args.self.now in
    let l = c.fetch.new.self in
    let view = c.shown.result in
    let reread = c.fetch.ensures.same in
    let kept = c.fetch.ensures.prepared in
    let counted : looked_of c.self.inside ≡ after_look o o.reads = c.self.view_is ∙ c.count_look.ensures in
    let there : IsTrue (is_trace o.prepared c.args.p) = trace_there o.prepared c.args.p (omega arith) (omega (arith, c.if-p-count_prepared.false, c.count_prepared.ensures.prepared)) in
    let ts : List (List ℕ) = traces_ahead l.store l.prepared in
    let head = head_ahead o c.self.inside l reread kept counted in
    let traces = traces_looked_ahead o c.self.inside l reread kept counted in (
      (refl, λ _. tt, has_shown o c.self.inside l reread kept counted o.prepared ts c.args.p view head traces c.shown.ensures.head c.shown.ensures.bytes),
      record {
        ends = tt;
        there = (λ _. there, λ _. refl);
        shape = has_shape o c.self.inside l reread kept counted o.prepared ts c.args.p view head traces c.shown.ensures.head c.shown.ensures.length;
        read = tt;
      },
    )
