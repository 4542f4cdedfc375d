use Rattle.std.proofs.Common.{◌∙◌, arith}
use Rattle.line_texts.proofs.OutLemmas.{by_fault}
use Rattle.script_run.specs.Causes.{Causes, read_meanwhile}
use Rattle.script_run.proofs.SectionOutLemmas.{all_written, behind_fails, end_broken, end_fails, end_out, flush_fails, head_broken, head_fails, head_out, printed_end, rows_fail}
use Rattle.script_run.proofs.sections.write_section.Goals as goal

pub push_rows-requires : goal.push_rows-requires
push_rows-requires g c = omega (arith, c.in_ok-push_section_head.ensures.counted)

pub returns-in_err-push_section_head-clause-written : goal.returns-in_err-push_section_head-clause-written
returns-in_err-push_section_head-clause-written g c = λ sure rising.
    let why : Causes = read_meanwhile c.args.bench.now.reads c.args.bench.now.reads in
    let part = head_fails why c.args.bench.now.state c.args.section.now _ _ c.args.behind.now c.in_err-push_section_head.field-0.0.written (head_broken why c.args.bench.now.state c.args.section.now _ _ c.begin.new.self c.as_slice.result.now c.in_err-push_section_head.field-0.0.written c.begin.ensures c.as_slice.ensures c.in_err-push_section_head.ensures) in
    (part.0, part.1, by_fault c.from_residual.result c.in_err-push_section_head.field-0.0 _ _ c.from_residual.ensures.1 part.2)

pub returns-in_err-broken_by-clause-written : goal.returns-in_err-broken_by-clause-written
returns-in_err-broken_by-clause-written g c = λ sure rising.
    let why : Causes = read_meanwhile c.args.bench.now.reads c.push_rows.new.bench.reads in
    let rows = c.in_err-broken_by.ensures.rows sure in
    let head = head_out why c.args.bench.now.state c.args.section.now _ _ c.begin.new.self _ c.as_slice.result.now c.begin.ensures c.as_slice.ensures c.in_ok-push_section_head.ensures in
    let part = rows_fail why c.args.bench.now.state c.args.section.now _ _ _ _ head rows.0 c.args.behind.now c.in_err-broken_by.field-0.0.written rows.1 rows.2 in
    (part.0, part.1, by_fault c.from_residual-in_err-broken_by.result c.in_err-broken_by.field-0.0 _ _ c.from_residual-in_err-broken_by.ensures.1 part.2)

pub returns-in_err-push-clause-written : goal.returns-in_err-push-clause-written
returns-in_err-push-clause-written g c = λ sure rising.
    let why : Causes = read_meanwhile c.args.bench.now.reads c.push_rows.new.bench.reads in
    let head = head_out why c.args.bench.now.state c.args.section.now _ _ c.begin.new.self _ c.as_slice.result.now c.begin.ensures c.as_slice.ensures c.in_ok-push_section_head.ensures in
    let rows = printed_end why c.args.bench.now.state c.args.section.now _ _ _ _ c.in_ok-broken_by.broken_by rising (c.in_ok-broken_by.ensures.rows sure) in
    let part = end_fails why c.args.bench.now.state c.args.section.now _ _ _ _ _ head c.in_ok-broken_by.broken_by rows.0 c.args.behind.now rows.2 _ c.in_err-push.field-0.0.written (end_broken _ _ _ c.as_slice-2.result.now _ (c.as_slice-2.ensures.bytes ∙ c.section_end-end.ensures) c.in_err-push.ensures) in
    (_, rows.1, by_fault c.from_residual-in_err-push.result c.in_err-push.field-0.0 _ _ c.from_residual-in_err-push.ensures.1 part)

pub returns-in_err-push-2-clause-written : goal.returns-in_err-push-2-clause-written
returns-in_err-push-2-clause-written g c = λ sure rising.
    let why : Causes = read_meanwhile c.args.bench.now.reads c.push_rows.new.bench.reads in
    let head = head_out why c.args.bench.now.state c.args.section.now _ _ c.begin.new.self _ c.as_slice.result.now c.begin.ensures c.as_slice.ensures c.in_ok-push_section_head.ensures in
    let rows = printed_end why c.args.bench.now.state c.args.section.now _ _ _ _ c.in_ok-broken_by.broken_by rising (c.in_ok-broken_by.ensures.rows sure) in
    let end = end_out _ _ _ _ c.as_slice-2.result.now (c.as_slice-2.ensures.bytes ∙ c.section_end-end.ensures) c.in_ok-push.ensures in
    let part = behind_fails why c.args.bench.now.state c.args.section.now _ _ _ _ _ head c.in_ok-broken_by.broken_by rows.0 c.args.behind.now rows.2 _ _ end _ c.in_err-push-2.field-0.0.written c.in_err-push-2.ensures in
    (_, rows.1, by_fault c.from_residual-in_err-push-2.result c.in_err-push-2.field-0.0 _ _ c.from_residual-in_err-push-2.ensures.1 part)

pub returns-in_err-flush-clause-written : goal.returns-in_err-flush-clause-written
returns-in_err-flush-clause-written g c = λ sure rising.
    let why : Causes = read_meanwhile c.args.bench.now.reads c.push_rows.new.bench.reads in
    let head = head_out why c.args.bench.now.state c.args.section.now _ _ c.begin.new.self _ c.as_slice.result.now c.begin.ensures c.as_slice.ensures c.in_ok-push_section_head.ensures in
    let rows = printed_end why c.args.bench.now.state c.args.section.now _ _ _ _ c.in_ok-broken_by.broken_by rising (c.in_ok-broken_by.ensures.rows sure) in
    let end = end_out _ _ _ _ c.as_slice-2.result.now (c.as_slice-2.ensures.bytes ∙ c.section_end-end.ensures) c.in_ok-push.ensures in
    let part = flush_fails why c.args.bench.now.state c.args.section.now _ _ _ _ _ head c.in_ok-broken_by.broken_by rows.0 c.args.behind.now rows.2 _ _ end _ _ _ c.in_err-flush.field-0.0.written c.in_ok-push-2.ensures c.in_err-flush.ensures.pushed in
    (_, rows.1, by_fault c.from_residual-in_err-flush.result c.in_err-flush.field-0.0 _ _ c.from_residual-in_err-flush.ensures.1 part)

pub returns-clause-written : goal.returns-clause-written
returns-clause-written g c = λ sure rising.
    let why : Causes = read_meanwhile c.args.bench.now.reads c.push_rows.new.bench.reads in
    let head = head_out why c.args.bench.now.state c.args.section.now _ _ c.begin.new.self _ c.as_slice.result.now c.begin.ensures c.as_slice.ensures c.in_ok-push_section_head.ensures in
    let rows = printed_end why c.args.bench.now.state c.args.section.now _ _ _ _ c.in_ok-broken_by.broken_by rising (c.in_ok-broken_by.ensures.rows sure) in
    let end = end_out _ _ _ _ c.as_slice-2.result.now (c.as_slice-2.ensures.bytes ∙ c.section_end-end.ensures) c.in_ok-push.ensures in
    let all = all_written why c.args.bench.now.state c.args.section.now _ _ _ _ _ head c.in_ok-broken_by.broken_by rows.0 c.args.behind.now rows.2 _ _ end _ _ _ _ c.in_ok-push-2.ensures c.in_ok-flush.ensures.pushed c.in_ok-flush.ensures.empty in
    (_, rows.1, (all.0, c.written.ensures ∙ all.1, c.is_some.ensures))
