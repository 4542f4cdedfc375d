use Rattle.std.proofs.Common.{◌≡◌, ◌∙◌, rules, ap₂}
use Rattle.clap.specs.Words.{app_of, with_rule}
use Rattle.command_line.specs.CommandLine.{segywb}
use Rattle.command_line.proofs.parsing.command.Goals as goal

pub returns : goal.returns
unfolding segywb
returns c = c.in_ok-command.ensures.shape c.look.ensures.local ∙ ap₂ with_rule (
    c.in_ok-arg-19.ensures.shape c.recover.ensures.local ∙ ap₂ with_rule (
    c.in_ok-arg-18.ensures.shape c.quiet.ensures.local ∙ ap₂ with_rule (
    c.in_ok-arg-17.ensures.shape c.save_at_end.ensures.local ∙ ap₂ with_rule (
    c.in_ok-arg-16.ensures.shape c.session.ensures.local ∙ ap₂ with_rule (
    c.in_ok-arg-15.ensures.shape c.stop.ensures.local ∙ ap₂ with_rule (
    c.in_ok-arg-14.ensures.shape c.limit.ensures.local ∙ ap₂ with_rule (
    c.in_ok-arg-13.ensures.shape c.order.ensures.local ∙ ap₂ with_rule (
    c.in_ok-arg-12.ensures.shape c.opaque.ensures.local ∙ ap₂ with_rule (
    c.in_ok-arg-11.ensures.shape c.floats.ensures.local ∙ ap₂ with_rule (
    c.in_ok-arg-10.ensures.shape c.tail.ensures.local ∙ ap₂ with_rule (
    c.in_ok-arg-9.ensures.shape c.texts.ensures.local ∙ ap₂ with_rule (
    c.in_ok-arg-8.ensures.shape c.format.ensures.local ∙ ap₂ with_rule (
    c.in_ok-arg-7.ensures.shape c.samples.ensures.local ∙ ap₂ with_rule (
    c.in_ok-arg-6.ensures.shape c.fixed.ensures.local ∙ ap₂ with_rule (
    c.in_ok-arg-5.ensures.shape c.on_disk.ensures.local ∙ ap₂ with_rule (
    c.in_ok-arg-4.ensures.shape c.in_place.ensures.local ∙ ap₂ with_rule (
    c.in_ok-arg-3.ensures.shape c.out.ensures.local ∙ ap₂ with_rule (
    c.in_ok-arg-2.ensures.shape c.script.ensures.local ∙ ap₂ with_rule (
    c.in_ok-arg.ensures.shape c.file.ensures.local ∙ ap₂ with_rule c.titled_command.ensures c.file.ensures.rule)
    c.script.ensures.rule) c.out.ensures.rule) c.in_place.ensures.rule) c.on_disk.ensures.rule) c.fixed.ensures.rule) c.samples.ensures.rule) c.format.ensures.rule) c.texts.ensures.rule) c.tail.ensures.rule) c.floats.ensures.rule) c.opaque.ensures.rule) c.order.ensures.rule) c.limit.ensures.rule) c.stop.ensures.rule) c.session.ensures.rule) c.save_at_end.ensures.rule) c.quiet.ensures.rule) c.recover.ensures.rule) c.look.ensures.rule
