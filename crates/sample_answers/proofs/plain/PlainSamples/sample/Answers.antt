use Rattle.std.proofs.Common.{rules, ◌+◌, ◌*◌, refl, SFits}
use Rattle.std.specs.Prelude.{slice_range}
use Rattle.std.specs.Int.{w128}
use Rattle.std.proofs.lemmas.Int.{to_z-of_z}
use Rattle.sample_answers.proofs.PlainLemmas.{plain_sample}
use Rattle.sample_answers.proofs.plain.PlainSamples.sample.Goals as goal

pub returns : goal.returns
returns c = λ h t are.
    let fit : SFits w128 c.decode.result = search rules in
    let size = c.width-size.result in
    let at = size * c.args.k in
    rw (to_z-of_z w128 c.decode.result fit)
    (plain_sample c.args.self.now h t are c.args.k size at (at + size) (slice_range c.args.self.now.bytes.now at (at + size)) c.decode.result c.if-k-self.false c.width-size.ensures.width refl refl refl c.decode.ensures)
