use Rattle.bench_rules.proofs.LiveLemmas as lemmas
use Rattle.bench_laws.proofs.live_laws.running_values_show_the_reports.Goals as goal

pub returns-clause-cells : goal.returns-clause-cells
returns-clause-cells c = lemmas.shows_the_cells

pub returns-clause-inlines : goal.returns-clause-inlines
returns-clause-inlines c = lemmas.shows_the_inlines

pub returns-clause-crosslines : goal.returns-clause-crosslines
returns-clause-crosslines c = lemmas.shows_the_crosslines

pub returns-clause-histogram : goal.returns-clause-histogram
returns-clause-histogram c = lemmas.shows_the_histogram

pub returns-clause-ranges : goal.returns-clause-ranges
returns-clause-ranges c = lemmas.shows_ranges

pub returns-clause-totals : goal.returns-clause-totals
returns-clause-totals c = lemmas.shows_totals

pub returns-clause-faults : goal.returns-clause-faults
returns-clause-faults c = lemmas.shows_faults
