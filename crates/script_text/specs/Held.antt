-- What is printed for a reply that is held.
use Rattle.std.specs.Prelude.{Ok}
use Rattle.bench_rules.specs.declared.answer.Answer.TheVariants as answers
use Rattle.script_text.specs.Replies.{Printed, nothing, fault_reply, session_reply, edit_reply, query_reply, float_reply}
use Rattle.script_text.specs.declared.reply.Reply.{Reply}
use Rattle.script_text.specs.declared.reply.Reply.TheVariants.{Silent, Fault, Session, Edited, Asked, Floats, Section}

-- what a reply prints; of a section the first line
abbrev pub printed_of : Reply → Printed
printed_of Silent = nothing
printed_of (Fault fault) = fault_reply fault
printed_of (Session reply) = session_reply reply
printed_of (Edited reply) = edit_reply reply
printed_of (Asked reply) = query_reply reply
printed_of (Floats answer) = float_reply answer
printed_of (Section section) = query_reply (Ok (answers.Section section))
