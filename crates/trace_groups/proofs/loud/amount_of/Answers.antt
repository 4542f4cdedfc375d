use Rattle.trace_record.specs.Packable.{each_fits}
use Rattle.trace_groups.proofs.AmountLemmas.{range_of_some}
use Rattle.trace_groups.proofs.loud.amount_of.Goals as goal

pub whole_amount-requires-clause-least : goal.whole_amount-requires-clause-least
whole_amount-requires-clause-least c =
    (range_of_some c.args.trace.now.amplitudes c.in_ok-amplitudes.amplitudes c.args.trace.now.number c.in_ok-amplitudes.was (each_fits _ _ _ _ c.args.trace.now.small).0).least

pub whole_amount-requires-clause-greatest : goal.whole_amount-requires-clause-greatest
whole_amount-requires-clause-greatest c =
    (range_of_some c.args.trace.now.amplitudes c.in_ok-amplitudes.amplitudes c.args.trace.now.number c.in_ok-amplitudes.was (each_fits _ _ _ _ c.args.trace.now.small).0).greatest

pub float_amount-requires-clause-least : goal.float_amount-requires-clause-least
float_amount-requires-clause-least c =
    (range_of_some c.args.trace.now.amplitudes c.in_ok-amplitudes.amplitudes c.args.trace.now.number c.in_ok-amplitudes.was (each_fits _ _ _ _ c.args.trace.now.small).0).least

pub float_amount-requires-clause-greatest : goal.float_amount-requires-clause-greatest
float_amount-requires-clause-greatest c =
    (range_of_some c.args.trace.now.amplitudes c.in_ok-amplitudes.amplitudes c.args.trace.now.number c.in_ok-amplitudes.was (each_fits _ _ _ _ c.args.trace.now.small).0).greatest
