use Rattle.std.proofs.Common.{◌≡◌, ◌∙◌, ◌++◌, ◌∷◌, [], ◌+◌, suc, List, map, take, get_or, pos, ℕ, All, arith, ap, sym, subst, rules, SFits}
use Rattle.std.specs.Int.{w128}
use Rattle.std.proofs.Math.Seq.{take-suc}
use Rattle.std.proofs.lemmas.Int.{to_z-of_z}
use Rattle.std.proofs.lemmas.List.{map-append}
use Rattle.std.proofs.lemmas.List.Elements.{All-append, All-cons, All-nil}
use Rattle.bench_rules.specs.declared.row.Row.{Row}
use Rattle.shown_floats.specs.declared.float_answer.FloatRow.{FloatRow}
use Rattle.shown_floats.specs.Shows.{ShowsRank, word_of}
use Rattle.shown_floats.proofs.showing.slice.Goals as goal

pub loop-row-preserved : goal.loop-row-preserved
loop-row-preserved c =
    let rows = c.args.rows.now in
    let i = c.loop-row.row-index in
    let none : Row = record { inline = pos 0; crossline = pos 0; position = 0; value = pos 0 } in
    let row : Row = get_or rows i none in
    let made : FloatRow = record { row = row; word = c.of.result } in
    let items : c.push.new.self.items ≡ c.loop-row.shown.items ++ made ∷ [] = rw c.in_ok-told_back.ensures.ok at c.push.ensures.items in
    let fit : SFits w128 row.value = search rules in
    let one : ShowsRank c.args.format row.value (word_of made.word) = rw (to_z-of_z w128 row.value fit) at c.of.ensures in
    let more : i + 1 ≡ suc i = omega arith in
    let P = λ (r : FloatRow). ShowsRank c.args.format r.row.value (word_of r.word) in (
      (
        ap (map (λ (r : FloatRow). r.row)) items
            ∙ map-append (λ (r : FloatRow). r.row) c.loop-row.shown.items (made ∷ [])
            ∙ ap (λ (l : List Row). l ++ row ∷ []) c.loop-row.invariant.0.0
            ∙ sym (ap (λ (n : ℕ). take n rows) more ∙ take-suc rows i none c.loop-row-test.true),
        subst (All P) (sym items) (All-append P c.loop-row.shown.items (made ∷ []) c.loop-row.invariant.0.1 (All-cons P made [] one (All-nil P))),
      ),
      grind arith,
    )
