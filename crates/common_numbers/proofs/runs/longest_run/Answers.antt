use Rattle.std.specs.Prelude.{◌≡◌, pos, take, FitsSigned}
use Rattle.std.proofs.Common.{get_or, arith, rules, ap, of_z}
use Rattle.std.specs.Int.{w64}
use Rattle.std.proofs.lemmas.List.{take_all}
use Rattle.std.proofs.lemmas.Int.{ints, to_z-of_z}
use Rattle.common_numbers.proofs.WalkLemmas.{Next, same_run, new_run, run_takes, run_keeps, stands_there}
use Rattle.common_numbers.proofs.runs.longest_run.Goals as goal
use Rattle.common_numbers.proofs.runs.longest_run.Goals.{then-number-last, else-number-last, then-longest-last, else-longest-last}

pub loop-number-preserved : goal.loop-number-preserved
loop-number-preserved c =
    let a = c.loop-number in
    let first = c.args.first.now in
    let others = c.args.others.now in
    let walked = a.invariant.walked in
    let here = a.invariant.stands_last in
    let within = c.loop-number-test.true in
    let x_fits : FitsSigned w64 (get_or others a.number-index (pos 0)) = search rules in
    let last_fits : FitsSigned w64 a.last.number = search rules in
    let next : Next first others c.requires a.number-index within _ _ _ _ walked here c.if-number-last.last.number c.if-number-last.last.times =
    elim c.if-number-last.branch [
      | then-number-last w ↦ rw w.last-is (same_run first others c.requires a.number-index within _ _ _ _ walked here (omega (arith, ints, w.if-number-last.true)))
      | else-number-last w ↦ rw (w.last-is, to_z-of_z w64 (get_or others a.number-index (pos 0)) x_fits) (new_run first others c.requires a.number-index within _ _ _ _ walked here (λ e. w.if-number-last.false (ap (of_z w64) e)))
    ] in
    record {
      walked = elim c.if-longest-last.branch [
        | then-longest-last v ↦ rw v.longest-is (run_takes first others c.requires a.number-index within _ _ _ _ walked here _ _ next v.if-longest-last.true)
        | else-longest-last v ↦ rw v.longest-is (run_keeps first others c.requires a.number-index within _ _ _ _ walked here _ _ next v.if-longest-last.false)
      ];
      stands_last = stands_there first others c.requires a.number-index within _ _ _ _ walked here _ _ next;
    }

pub returns : goal.returns
returns c =
    let a = c.loop-number in
    let fits : FitsSigned w64 a.longest.number = search rules in
    let all : take a.number-index c.args.others.now ≡ c.args.others.now = take_all _ _ c.loop-number-test.false in
    rw (to_z-of_z w64 a.longest.number fits) (rw all at a.invariant.walked.best)
