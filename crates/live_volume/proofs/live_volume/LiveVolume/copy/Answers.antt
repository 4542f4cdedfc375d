use Rattle.std.proofs.Common.{◌∙◌, sym, refl, arith}
use Rattle.bench_rules.specs.declared.edit.Edit.TheVariants.{Copy}
use Rattle.bench_rules.specs.State.{State}
use Rattle.bench_rules.proofs.AcceptedLemmas.{copy_accepted}
use Rattle.live_volume.specs.Held.{state_of}
use Rattle.live_volume.proofs.HeldLemmas.{is_there, looked_at, on_ok, read_refused, stepped, told_first}
use Rattle.live_volume.proofs.live_volume.LiveVolume.copy.Goals as goal

pub insert_copy-requires : goal.insert_copy-requires
insert_copy-requires c =
    let now : State = record (state_of c.self.inside) { volume = c.copy_refusal.new.overlay.volume; on_disk = c.copy_refusal.new.overlay.loaded.on_disk } in
    sym (c.in_ok-refusal.ensures.refusal now c.copy_refusal.ensures.seen.volume refl) ∙ c.in-None.is

pub returns-in-Some-clause-step : goal.returns-in-Some-clause-step
returns-in-Some-clause-step c =
    let look = looked_at c.self.inside c.copy_refusal.new.overlay _ c.copy_refusal.ensures.seen in
    rw (← c.self.view_is)
    (λ sure. told_first _ (state_of c.self.inside) _ (Copy c.args.q c.args.p) c.in-Some.refusal (sym (c.in_ok-refusal.ensures.refusal (state_of c.self.inside) refl refl) ∙ c.in-Some.is) look.state)

pub returns-in-None-clause-step : goal.returns-in-None-clause-step
returns-in-None-clause-step c =
    let s = state_of c.self.inside in
    let look = looked_at c.self.inside c.copy_refusal.new.overlay _ c.copy_refusal.ensures.seen in
    let none = sym (c.in_ok-refusal.ensures.refusal s refl refl) ∙ c.in-None.is in
    let source = (copy_accepted s c.args.q c.args.p none).source in
    rw (← c.self.view_is) (λ sure.
    stepped s _ c.insert_copy.new.self.state (Copy c.args.q c.args.p) c.insert_copy.result none look.state (record {}) (rw (is_there s.volume c.args.q source.first source.last) (omega arith))
    (on_ok c.insert_copy.result (λ f. f sure) c.insert_copy.ensures.ok) c.insert_copy.ensures.err)

pub returns-in_err-refusal-clause-step : goal.returns-in_err-refusal-clause-step
returns-in_err-refusal-clause-step c =
    let look = looked_at c.self.inside c.copy_refusal.new.overlay _ c.copy_refusal.ensures.seen in
    rw (← c.self.view_is)
    (λ sure. read_refused (state_of c.self.inside) _ (Copy c.args.q c.args.p) c.in_err-refusal.field-0.0 c.from_residual.result c.from_residual.ensures.0 c.from_residual.ensures.1 (rw c.in_err-refusal.ensures.read.0 (omega arith))
    c.in_err-refusal.ensures.read.1 look.state)
