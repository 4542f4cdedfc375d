use Rattle.std.specs.Prelude.{◌≡◌, ℤ, pos, ◌+◌, ◌<ℤ◌, ◌-ℤ◌, List, [], ◌∷◌, ◌++◌, drop, refl}
use Rattle.std.proofs.Common.{arith, sym, ap, ◌∙◌, subst, get_or, to_z, of_z}
use Rattle.std.specs.Int.{w64}
use Rattle.std.proofs.lemmas.List.{drop_more, drop_all, append-nil}
use Rattle.std.proofs.lemmas.Int.{ints, to_z-of_z}
use Rattle.grid_live.specs.declared.line.Line.{Line}
use Rattle.line_problems.specs.LineProblems.{LinesRise, neighbours_after}
use Rattle.line_problems.specs.MissingLines.{gaps_of, missing_in, told}
use Rattle.line_problems.proofs.MissingLemmas.{first_that_fits, next_above, rest_rises, gap_fits, size_of, gap_told, no_gap_told, none_counted, nothing_in}
use Rattle.room.proofs.RiseLemmas.{risen}
use Rattle.line_problems.proofs.missing.find_missing.Goals as goal
use Rattle.line_problems.proofs.missing.find_missing.Goals.{then-is_gap+in_ok-add, else-is_gap}

abbrev no_line : Line
no_line = record { number = pos 0; traces = 0 }

pub returns-in_default-clause-told : goal.returns-in_default-clause-told
returns-in_default-clause-told c = rw (nothing_in c.args.lines.now c.in_default.ensures.cases) (c.none-missing.ensures c.args.step)

pub loop-line-init : goal.loop-line-init
loop-line-init c =
    let e = c.in-Some.ensures.cases.0 in
    let none = none_counted c.args.step _ _ _ (c.none-missing.ensures c.args.step) in
    let step = to_z w64 (of_z w64 c.args.step) in
    record {
      gaps = ([], c.none-missing.ensures step, ap (gaps_of step c.args.near.now) (sym e));
      rise = subst LinesRise e c.requires;
      begins = λ f. refl;
      fits = λ h. absurd (omega (arith, h));
      room = omega (arith, ints, none);
      memory = grind arith;
    }

pub add-requires-clause-fits : goal.add-requires-clause-fits
add-requires-clause-fits c = gap_fits _ c.args.near.now _ (sym c.is_gap.ensures.gap ∙ c.if-is_gap.true)

pub add-requires-clause-room : goal.add-requires-clause-room
add-requires-clause-room c =
    let a = c.loop-line in
    let others = c.in-Some.others.now in
    let next = get_or others a.line-index no_line in
    let rise = subst (λ (l : List Line). LinesRise (a.last ∷ l)) (drop_more others a.line-index no_line c.loop-line-test.true) a.invariant.rise in
    let above : a.last.number <ℤ next.number = next_above a.last next (drop (a.line-index + 1) others) rise in
    let positive : pos 0 <ℤ (next.number -ℤ a.last.number) = omega (arith, ints) in
    let size = size_of (next.number -ℤ a.last.number) positive in
    let first_fits = first_that_fits c.in-Some.first.now a.last a.line-index a.invariant.begins a.invariant.fits c.is_gap.ensures.fits.0 in
    let next_fits = c.is_gap.ensures.fits.1 in
    omega (arith, ints, size, a.invariant.room, first_fits, next_fits)

pub loop-line-preserved : goal.loop-line-preserved
loop-line-preserved c =
    let a = c.loop-line in
    let others = c.in-Some.others.now in
    let next = get_or others a.line-index no_line in
    let behind = drop (a.line-index + 1) others in
    let more = drop_more others a.line-index no_line c.loop-line-test.true in
    let rise = subst (λ (l : List Line). LinesRise (a.last ∷ l)) more a.invariant.rise in
    let above : a.last.number <ℤ next.number = next_above a.last next behind rise in
    let positive : pos 0 <ℤ (next.number -ℤ a.last.number) = omega (arith, ints) in
    let size = size_of (next.number -ℤ a.last.number) positive in
    let gs = a.invariant.gaps.0 in
    let left = rw more at a.invariant.gaps.2 in
    elim c.if-is_gap.branch [
      | then-is_gap+in_ok-add w ↦ rw (w.missing-is, w.last-is, w.room-is) record {
        gaps = (gs ++ (a.last, next) ∷ [], w.in_ok-add.ensures.told gs a.invariant.gaps.1, gap_told _ gs (neighbours_after next behind) _ (a.last, next) left (sym c.is_gap.ensures.gap ∙ w.if-is_gap.true));
        rise = rest_rises a.last next behind rise;
        begins = λ f. absurd (omega (arith, f));
        fits = λ h. first_that_fits c.in-Some.first.now a.last a.line-index a.invariant.begins a.invariant.fits c.is_gap.ensures.fits.0;
        room = omega (arith, ints, size, a.invariant.room, w.in_ok-add.ensures.few);
        memory = grind (arith, a.invariant.memory, w.in_ok-add.ensures.memory.never_falls);
      }
      | else-is_gap w ↦ rw (w.missing-is, w.last-is, w.room-is) record {
        gaps = (gs, a.invariant.gaps.1, no_gap_told _ gs (neighbours_after next behind) _ (a.last, next) left (sym c.is_gap.ensures.gap ∙ w.if-is_gap.false));
        rise = rest_rises a.last next behind rise;
        begins = λ f. absurd (omega (arith, f));
        fits = λ h. first_that_fits c.in-Some.first.now a.last a.line-index a.invariant.begins a.invariant.fits c.is_gap.ensures.fits.0;
        room = omega (arith, ints, a.invariant.room);
        memory = a.invariant.memory;
      }
    ]

pub returns-in_err-add-clause-memory : goal.returns-in_err-add-clause-memory
returns-in_err-add-clause-memory c = risen _ _ c.loop-line.room _ c.loop-line.invariant.memory (record {
  never_falls = c.in_err-add.ensures.memory.never_falls;
  rose = λ p. c.in_err-add.ensures.memory.rose refl;
})

pub returns-clause-told : goal.returns-clause-told
returns-clause-told c =
    let a = c.loop-line.invariant.gaps in
    let step = to_z-of_z w64 c.args.step c.ranges.step in
    let none_left = drop_all c.loop-line.line-index c.in-Some.others.now c.loop-line-test.false in
    let all = sym (append-nil a.0) ∙ (rw none_left at a.2) in
    let found = a.1 ∙ ap (missing_in (to_z w64 (of_z w64 c.args.step))) all in
    subst (λ (s : ℤ). told c.loop-line.missing ≡ missing_in s (gaps_of s c.args.near.now c.args.lines.now)) step found
