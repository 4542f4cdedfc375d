use Rattle.fault_live.proofs.LoadLemmas.{Same-loaded}
use Rattle.fault_live.proofs.faults.Faults.from_key_list.Goals as goal

pub returns-clause-same : goal.returns-clause-same
returns-clause-same c = Same-loaded _ c.args.records.now c.len.ensures (rw c.in_ok-keys.ensures.keys at c.in_ok-from_keys.ensures.numbers)
