use Rattle.std.specs.Prelude.{pos, ◌<◌, ◌^◌, length, refl}
use Rattle.std.proofs.Common.{arith, rules}
use Rattle.grid_live.specs.declared.line.Line.{Line}
use Rattle.line_problems.proofs.PartLemmas.{drop_others, drop_before}
use Rattle.line_problems.proofs.parts.Parts.of.Goals as goal

abbrev no_line : Line
no_line = record { number = pos 0; traces = 0 }

pub loop-i-init : goal.loop-i-init
loop-i-init c = record {
  shows = rw (drop_others c.in_ok-last.others.now c.in_ok-last.last.now c.args.lines.now c.in_ok-last.ensures.cases.0) (c.of.ensures.part, refl, refl);
  fits = omega (arith, c.of.ensures.few);
}

pub after-parts-requires : goal.after-parts-requires
after-parts-requires c =
    let short : length c.in_ok-last.others.now < 2 ^ 64 = search rules in
    omega (arith, c.loop-i.invariant.fits)

pub loop-i-preserved : goal.loop-i-preserved
loop-i-preserved c = record {
  shows = rw (drop_before c.in_ok-last.others.now c.in_ok-last.last.now c.args.lines.now c.in_ok-last.ensures.cases.0 c.loop-i.i c.loop-i-test.true c.loop-i.auto.i no_line)
      (c.after-parts.ensures.shows _ c.loop-i.invariant.shows);
  fits = omega (arith, c.loop-i.invariant.fits, c.after-parts.ensures.few);
}
