use Rattle.bench_laws.proofs.SortLemmas as sorting
use Rattle.bench_laws.proofs.sort_laws.rows_stand_in_order.Goals as goal

pub returns : goal.returns
returns c = λ falls rows width all. sorting.rows_stand_in_order falls rows width all
