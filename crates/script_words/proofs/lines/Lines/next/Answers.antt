use Rattle.std.proofs.Common.{sym, ◌∙◌}
use Rattle.script_words.proofs.ScriptLemmas.{line_cut, line_left}
use Rattle.script_words.proofs.lines.Lines.next.Goals as goal

pub returns-in-Some-clause-some : goal.returns-in-Some-clause-some
returns-in-Some-clause-some c =
    sym c.self.view_is
    ∙ line_cut c.self.inside.rest.now c.in-Some.part.now c.in-Some.rest.now c.strip_return.result.now c.in-Some.ensures.some c.in-Some.ensures.front c.in-Some.ensures.back c.strip_return.ensures

pub returns-in-None-2-clause-some : goal.returns-in-None-2-clause-some
returns-in-None-2-clause-some c =
    sym c.self.view_is
    ∙ line_left c.self.inside.rest.now c.strip_return-in-None-2.result.now (sym c.is_empty.ensures ∙ c.if-is_empty.false) c.in-None-2.ensures.none c.strip_return-in-None-2.ensures
