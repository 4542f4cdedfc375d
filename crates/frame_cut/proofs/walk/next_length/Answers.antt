use Rattle.std.proofs.Common.{◌≡◌, ◌∙◌, ◌≤◌, Some, None, arith, sym}
use Rattle.frame_cut.specs.Frames.{front_length, trace_length}
use Rattle.frame_cut.proofs.FrontLemmas.{ends_in, front_tells, one_too_many, passes, refusal_is}
use Rattle.frame_cut.proofs.walk.next_length.Goals as goal

pub returns-in_default-clause-refused : goal.returns-in_default-clause-refused
returns-in_default-clause-refused c = λ rest begun.
    let h = c.args.head.now in
    let le : front_length h ≤ c.args.left = omega (arith, c.if-left-front_length.false, c.front_length.ensures) in
    refusal_is h c.args.limits c.args.trace rest c.args.left None begun.long le
    (front_tells h c.args.front.now c.args.left rest begun (c.requires.there le) ∙ sym c.length_here.ensures ∙ c.in_default.is)

pub returns-then-left-length-clause-refused : goal.returns-then-left-length-clause-refused
returns-then-left-length-clause-refused c = λ rest begun.
    let h = c.args.head.now in
    let le : front_length h ≤ c.args.left = omega (arith, c.if-left-front_length.false, c.front_length.ensures) in
    refusal_is h c.args.limits c.args.trace rest c.args.left (Some c.in-Some.length) begun.long le
    (front_tells h c.args.front.now c.args.left rest begun (c.requires.there le) ∙ sym c.length_here.ensures ∙ c.in-Some.is)
    ∙ ends_in c.args.limits c.args.trace c.args.left c.in-Some.length (omega (arith, c.if-left-length.true))

pub returns-then-trace-from-clause-refused : goal.returns-then-trace-from-clause-refused
returns-then-trace-from-clause-refused c = λ rest begun.
    let h = c.args.head.now in
    let le : front_length h ≤ c.args.left = omega (arith, c.if-left-front_length.false, c.front_length.ensures) in
    refusal_is h c.args.limits c.args.trace rest c.args.left (Some c.in-Some.length) begun.long le
    (front_tells h c.args.front.now c.args.left rest begun (c.requires.there le) ∙ sym c.length_here.ensures ∙ c.in-Some.is)
    ∙ one_too_many c.args.limits c.args.trace c.args.left c.in-Some.length (omega (arith, c.if-left-length.false)) (omega (arith, c.if-trace-from.true, c.from.ensures, c.traces.ensures))

pub returns-clause-whole : goal.returns-clause-whole
returns-clause-whole c = λ rest begun.
    let h = c.args.head.now in
    let le : front_length h ≤ c.args.left = omega (arith, c.if-left-front_length.false, c.front_length.ensures) in
    let told : trace_length h rest ≡ Some c.in-Some.length =
    front_tells h c.args.front.now c.args.left rest begun (c.requires.there le) ∙ sym c.length_here.ensures ∙ c.in-Some.is in (
      refusal_is h c.args.limits c.args.trace rest c.args.left (Some c.in-Some.length) begun.long le told
          ∙ passes c.args.limits c.args.trace c.args.left c.in-Some.length (omega (arith, c.if-left-length.false)) (omega (arith, c.if-trace-from.false, c.from.ensures, c.traces.ensures)),
      told,
    )
