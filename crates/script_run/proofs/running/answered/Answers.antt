use Rattle.std.proofs.Common.{◌∙◌, inl, inr, sym, subst, arith}
use Rattle.frame_cut.specs.Traces.{count_of}
use Rattle.bench_rules.specs.Conditions.{AreRising}
use Rattle.bench_rules.specs.State.{State}
use Rattle.script_run.specs.Causes.{failures, meanwhile}
use Rattle.script_run.specs.Runs.{IsPrintedIn}
use Rattle.script_run.proofs.SectionAskedLemmas.{printed_section, replied_rising, replied_rows}
use Rattle.script_run.proofs.CauseLemmas.{refused_within, query_comes, reads_in, printed_by_in, no_section, lacks_words, printed_other}
use Rattle.script_run.proofs.running.answered.Goals as goal

pub returns-then-asks_for_section-clause-step : goal.returns-then-asks_for_section-clause-step
returns-then-asks_for_section-clause-step c = λ sure printed reads behind prints.
    let asked = sym c.asks_for_section.ensures ∙ c.if-asks_for_section.true in (
      c.ask.result,
      c.ask.ensures.reply sure,
      subst (λ (s : State). IsPrintedIn (meanwhile c.args.room.now c.args.bench.now.reads c.ask.new.room reads) s c.args.query.now c.ask.result printed) c.ask.ensures.unchanged
          (printed_section _ c.ask.new.self.state c.args.query.now c.ask.result printed asked (printed_by_in _ _ (reads_in (failures c.args.room.now c.args.bench.now.reads.failures) (failures c.ask.new.room reads.failures) c.ask.new.self.reads reads c.ask.ensures.reads.failures (omega arith)) _ _ _ _ _ (c.section_reply.ensures.printed c.ask.new.self.state c.ask.new.self.reads reads printed prints))),
      c.ask.ensures.unchanged,
      query_comes c.args.bench.now.reads c.ask.new.self.reads reads c.args.room.now c.ask.new.room c.ask.result sure behind c.ask.ensures.memory.rose c.ask.ensures.reads_tell,
      λ lacks. absurd (no_section c.args.query.now c.ask.result printed asked lacks),
    )

pub returns-then-asks_for_section-clause-there : goal.returns-then-asks_for_section-clause-there
returns-then-asks_for_section-clause-there c = λ sure.
    let asked = sym c.asks_for_section.ensures ∙ c.if-asks_for_section.true in
    c.section_reply.ensures.there c.ask.new.self.state (λ section is.
    subst (λ (s : State). AreRising 1 (count_of s.volume) section.traces) (sym c.ask.ensures.unchanged)
    (replied_rising c.args.bench.now.state c.args.query.now c.ask.result asked (c.ask.ensures.reply sure) section is))

pub returns-clause-there : goal.returns-clause-there
returns-clause-there c = λ sure. c.shown_reply.ensures.there c.ask-reply.new.self.state

pub returns-clause-step : goal.returns-clause-step
returns-clause-step c = λ sure printed reads behind prints.
    let other = sym c.asks_for_section.ensures ∙ c.if-asks_for_section.false in
    let never_falls = c.shown_reply.ensures.never_falls in (
      c.ask-reply.result,
      c.ask-reply.ensures.reply sure,
      printed_other _ c.args.bench.now.state c.args.query.now c.floats_of-floats.result c.ask-reply.result printed other c.floats_of-floats.ensures
          (c.shown_reply.ensures.printed c.ask-reply.new.self.state c.ask-reply.new.self.reads reads printed prints),
      c.ask-reply.ensures.unchanged,
      query_comes c.args.bench.now.reads c.ask-reply.new.self.reads reads c.args.room.now c.shown_reply.new.room c.ask-reply.result sure behind
          (λ want. refused_within c.args.room.now _ _ _ (omega arith) never_falls (c.ask-reply.ensures.memory.rose want)) c.ask-reply.ensures.reads_tell,
      λ lacks.
          let refused = lacks_words c.args.query.now c.ask-reply.result printed lacks in
          refused_within c.args.room.now _ _ _ c.ask-reply.ensures.memory.never_falls (omega arith) (c.shown_reply.ensures.words c.ask-reply.new.self.state c.ask-reply.new.self.reads reads printed prints refused.0 refused.1),
    )

pub returns-then-asks_for_section-clause-looks : goal.returns-then-asks_for_section-clause-looks
returns-then-asks_for_section-clause-looks c = λ sure.
    let asked = sym c.asks_for_section.ensures ∙ c.if-asks_for_section.true in
    let looked = c.ask.ensures.looks in
    elim c.section_reply.ensures.rows [
      | inl none ↦ omega (arith, looked.1, none)
      | inr (section, is, rows) ↦
          let most = replied_rows c.args.bench.now.state c.args.query.now c.ask.result asked (c.ask.ensures.reply sure) section is in
          omega (arith, looked.1, rows, most)
    ]
