use Rattle.std.proofs.Common.{◌∙◌, sym}
use Rattle.trace_view.proofs.PutLemmas.{IsPut, run-put, FitFrom-contents, written_from-contents, length-put}
use Rattle.trace_view.proofs.put.put_run.Goals as goal

pub returns-clause-fit : goal.returns-clause-fit
returns-clause-fit c =
    let front = c.gap_before-front.ensures in
    let back = c.gap_behind-back.ensures in
    let run = c.in_ok-run.ensures in
    let put : IsPut c.args.size c.args.runs.now c.gap_before-front.result.index c.gap_behind-back.result.index c.in_ok-run.run' c.args.at c.args.bytes.now =
    run-put _ _ _ _ _ _ _ _ _ _ _ c.requires.fit front.gap back.gap front.bytes back.bytes c.requires.some run.at run.bytes in
    FitFrom-contents 0 _ _ _ (sym c.in_ok-list.ensures.contents) put.fit

pub returns-clause-bytes : goal.returns-clause-bytes
returns-clause-bytes c =
    let front = c.gap_before-front.ensures in
    let back = c.gap_behind-back.ensures in
    let run = c.in_ok-run.ensures in
    let put : IsPut c.args.size c.args.runs.now c.gap_before-front.result.index c.gap_behind-back.result.index c.in_ok-run.run' c.args.at c.args.bytes.now =
    run-put _ _ _ _ _ _ _ _ _ _ _ c.requires.fit front.gap back.gap front.bytes back.bytes c.requires.some run.at run.bytes in
    λ base e. written_from-contents 0 base _ _ c.in_ok-list.ensures.contents ∙ put.bytes base e

pub returns-clause-count : goal.returns-clause-count
returns-clause-count c =
    let front = c.gap_before-front.ensures in
    let back = c.gap_behind-back.ensures in
    length-put _ _ _ _ _ _ _ c.in_ok-list.ensures.contents front.gap.some front.count back.count
