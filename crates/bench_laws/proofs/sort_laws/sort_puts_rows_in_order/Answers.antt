use Rattle.bench_laws.proofs.SortLemmas as sorting
use Rattle.bench_laws.proofs.sort_laws.sort_puts_rows_in_order.Goals as goal

pub returns : goal.returns
returns c = λ s new a b names falls places rows cut none after found table. sorting.sort_puts_rows_in_order s new a b names falls places rows cut none after found table
