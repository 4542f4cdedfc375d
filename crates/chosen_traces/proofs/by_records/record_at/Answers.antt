use Rattle.chosen_traces.proofs.RecordLemmas.{given_from, given_is, left_is}
use Rattle.chosen_traces.proofs.by_records.record_at.Goals as goal

pub returns-then-in_order-clause-record : goal.returns-then-in_order-clause-record
returns-then-in_order-clause-record c =
    given_is c.args.records.now c.args.place c.next.result c.next.new.self
    (given_from c.args.records.now c.args.left.now c.args.place c.next.result c.next.new.self (c.requires c.if-in_order.true) c.next.ensures.steps)

pub returns-then-in_order-clause-left : goal.returns-then-in_order-clause-left
returns-then-in_order-clause-left c = λ walks.
    left_is c.args.records.now c.args.place c.next.result c.next.new.self
    (given_from c.args.records.now c.args.left.now c.args.place c.next.result c.next.new.self (c.requires walks) c.next.ensures.steps)
