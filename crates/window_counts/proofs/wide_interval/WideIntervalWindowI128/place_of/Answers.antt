use Rattle.std.proofs.Common.{ℤ, rules, subst, sym, SFits, w32}
use Rattle.std.specs.Int.{w128}
use Rattle.std.proofs.lemmas.Int.{to_z-of_z}
use Rattle.window_counts.proofs.OutsideLemmas.{outside}
use Rattle.window_counts.proofs.wide_interval.WideIntervalWindowI128.place_of.Goals as goal

pub returns-in-Err : goal.returns-in-Err
returns-in-Err c =
    let w = c.args.self.now.numbers in
    let own : SFits w32 c.lowest-lowest.result = search rules in
    let low : SFits w32 w.lowest = subst (λ (z : ℤ). SFits w32 z) c.lowest-lowest.ensures own in
    outside w.lowest w.places c.args.key low w.fits (λ f. c.in-Err.ensures (subst (λ (z : ℤ). SFits w32 z) (sym (to_z-of_z w128 c.args.key c.ranges.key)) f))
