use Rattle.live_reports.proofs.live_reports.LiveReports.exchange_each.Goals as goal

pub returns-in_err-add_each-clause-held : goal.returns-in_err-add_each-clause-held
returns-in_err-add_each-clause-held c = λ all.
    let never = c.in_err-add_each.ensures.held all in
    absurd cc
