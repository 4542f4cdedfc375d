use Rattle.std.proofs.Common.{◌+◌, ℕ, List, length, true, subst, rules}
use Rattle.std.specs.Prelude.{slice_range}
use Rattle.script_run.specs.Input.{IsFront}
use Rattle.script_run.proofs.InputLemmas.{within_slice, rest_of_slice}
use Rattle.script_run.proofs.read_ahead.ReadAhead.take_part.Goals as goal

pub invariant_of-self : goal.invariant_of-self
invariant_of-self c = (
  within_slice c.self.inside.bytes c.in-Some.part.now c.self.inside.from c.self.inside.to c.self.invariant.0 (search rules) c.in-Some.ensures.some c.in-Some.ensures.front,
  c.self.invariant.1,
)

pub returns-in-Some-clause-part : goal.returns-in-Some-clause-part
returns-in-Some-clause-part c =
    let next : List ℕ = slice_range c.self.inside.bytes (c.self.inside.from + (length c.in-Some.part.now + 1)) c.self.inside.to in (
      c.in-Some.part.now,
      subst (λ (whole : List ℕ). IsFront whole c.in-Some.part.now next true) c.self.view_is (
        c.in-Some.ensures.some,
        c.in-Some.ensures.front,
        rest_of_slice c.self.inside.bytes c.in-Some.part.now c.self.inside.from c.self.inside.to c.self.invariant.0 (search rules) c.in-Some.ensures.some c.in-Some.ensures.front,
      ),
      c.add.ensures.held,
    )
