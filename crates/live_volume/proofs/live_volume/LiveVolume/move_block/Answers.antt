use Rattle.std.proofs.Common.{◌≡◌, ◌∙◌, None, sym, subst}
use Rattle.bench_rules.specs.declared.edit.Edit.TheVariants.{MoveBlock}
use Rattle.bench_rules.specs.Refused.{first_refusal}
use Rattle.bench_rules.specs.State.{State}
use Rattle.bench_rules.specs.Steps.{IsAfter}
use Rattle.live_volume.proofs.BlockLemmas.{block_moved, block_places}
use Rattle.live_volume.proofs.live_volume.LiveVolume.move_block.Goals as goal

pub exchange_pairs-requires : goal.exchange_pairs-requires
exchange_pairs-requires c =
    block_places c.args.self.now.state.volume c.args.a c.args.b c.args.to c.in_ok-pairs.pairs.items (sym c.block_refusal.ensures.refusal ∙ c.in_default.is) c.in_ok-pairs.ensures.puts

pub returns-clause-step : goal.returns-clause-step
returns-clause-step c =
    let old : State = c.args.self.now.state in
    let none : first_refusal old (MoveBlock c.args.a c.args.b c.args.to) ≡ None = sym c.block_refusal.ensures.refusal ∙ c.in_default.is in
    λ sure.
    rw none
    (subst (λ (s : State). IsAfter old (MoveBlock c.args.a c.args.b c.args.to) s) (sym c.exchange_pairs.ensures.state)
    (block_moved old c.args.a c.args.b c.args.to c.in_ok-pairs.pairs.items (c.stands.ensures.cut (c.exchange_pairs.ensures.reads.agreed sure)) none c.in_ok-pairs.ensures.puts))
