use Rattle.num_order.proofs.RoundTripLemmas.{num-bytes}
use Rattle.num_order.proofs.laws.reads_back.Goals as goal

pub returns : goal.returns
returns c = λ o k v h b. num-bytes o k.signed k.size v h b
