use Rattle.trace_groups.specs.FaultGroups.{sequence_facts, samples_facts, interval_facts, scalar_facts, units_facts, repeated_facts, name_facts}
use Rattle.trace_groups.proofs.FaultLemmas.{fault_behind}
use Rattle.trace_groups.proofs.fault_tallies.FaultTallies.add.Goals as goal

pub returns-clause-tallies : goal.returns-clause-tallies
returns-clause-tallies c faults h =
    let f = c.args.fault.now in
    let at = c.position_of-position.ensures in
    record {
      sequence = fault_behind sequence_facts faults f _ at c.sequence_facts.result c.sequence_facts.ensures c.args.self.now.sequence c.push_any.new.self c.in_ok-push_any.ensures.tally h.sequence;
      samples = fault_behind samples_facts faults f _ at c.samples_facts.result c.samples_facts.ensures c.args.self.now.samples c.push_any-2.new.self c.in_ok-push_any-2.ensures.tally h.samples;
      interval = fault_behind interval_facts faults f _ at c.interval_facts.result c.interval_facts.ensures c.args.self.now.interval c.push_any-3.new.self c.in_ok-push_any-3.ensures.tally h.interval;
      scalar = fault_behind scalar_facts faults f _ at c.scalar_facts.result c.scalar_facts.ensures c.args.self.now.scalar c.push_any-4.new.self c.in_ok-push_any-4.ensures.tally h.scalar;
      units = fault_behind units_facts faults f _ at c.units_facts.result c.units_facts.ensures c.args.self.now.units c.push_any-5.new.self c.in_ok-push_any-5.ensures.tally h.units;
      repeated = fault_behind repeated_facts faults f _ at c.repeated_facts.result c.repeated_facts.ensures c.args.self.now.repeated c.push_any-6.new.self c.in_ok-push_any-6.ensures.tally h.repeated;
      name = fault_behind name_facts faults f _ at c.name_facts.result c.name_facts.ensures c.args.self.now.name c.push_any-7.new.self c.in_ok-push_any-7.ensures.tally h.name;
    }

pub returns-clause-within : goal.returns-clause-within
returns-clause-within c n h =
    record {
      sequence = c.in_ok-push_any.ensures.within n h.sequence;
      samples = c.in_ok-push_any-2.ensures.within n h.samples;
      interval = c.in_ok-push_any-3.ensures.within n h.interval;
      scalar = c.in_ok-push_any-4.ensures.within n h.scalar;
      units = c.in_ok-push_any-5.ensures.within n h.units;
      repeated = c.in_ok-push_any-6.ensures.within n h.repeated;
      name = c.in_ok-push_any-7.ensures.within n h.name;
    }
