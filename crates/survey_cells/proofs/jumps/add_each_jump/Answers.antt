use Rattle.std.specs.Prelude.{◌≡◌, ◌+◌, [], ◌∷◌, ◌++◌, map, filter, filter_map, take}
use Rattle.std.proofs.Common.{arith, sym, ap, ◌∙◌, List, append_assoc}
use Rattle.cell_positions.specs.declared.trace_pair.TracePair.{TracePair}
use Rattle.cell_positions.specs.Jumps.{traces_of}
use Rattle.survey_cells.specs.declared.pairs.Neighbours.{Neighbours}
use Rattle.survey_cells.specs.Neighbours.{neighbours_from, pair_in}
use Rattle.survey_cells.specs.Along.{jumps_among}
use Rattle.survey_cells.proofs.PairLemmas.{kept_none, kept_some, made_passes, made_fails}
use Rattle.survey_cells.proofs.jumps.add_each_jump.Goals as goal
use Rattle.survey_cells.proofs.jumps.add_each_jump.Goals.{in-Some+then-jumps_among+in_ok-told_back, in-Some+else-jumps_among, in_default}

pub loop-cell-preserved : goal.loop-cell-preserved
loop-cell-preserved c =
    let cells = c.args.cells.now in
    let h = neighbours_from cells c.args.apart in
    let j = jumps_among cells c.args.apart c.args.usual.now in
    let i = c.loop-cell.cell-index in
    let d = c.cell-item.result in
    let before = c.args.traces.now.items in
    let ns : List Neighbours = filter_map h (take i cells) in
    elim c.match-neighbours_from.branch [
      | in-Some+then-jumps_among+in_ok-told_back w ↦
          let n = w.in-Some.pair in
          let kept : filter_map h (take (i + 1) cells) ≡ ns ++ n ∷ [] = kept_some h cells i d c.loop-cell-test.true n (sym w.in-Some.is ∙ c.neighbours_from.ensures ∙ ap h c.cell-item.is) in (
            ap (λ v. v.items) w.traces-is ∙ (rw w.in_ok-told_back.ensures.ok at w.push.ensures.items)
                ∙ ap (λ (l : List TracePair). l ++ w.traces_of.result ∷ []) c.loop-cell.invariant.0
                ∙ append_assoc before (map (λ (m : Neighbours). traces_of (pair_in m)) (filter j ns)) (w.traces_of.result ∷ [])
                ∙ ap (λ (l : List TracePair). before ++ l)
                (ap (λ t. map (λ (m : Neighbours). traces_of (pair_in m)) (filter j ns) ++ t ∷ []) w.traces_of.ensures
                ∙ sym (ap (λ l. map (λ (m : Neighbours). traces_of (pair_in m)) (filter j l)) kept ∙ made_passes j (λ (m : Neighbours). traces_of (pair_in m)) ns n (sym w.jumps_among.ensures ∙ w.if-jumps_among.true))),
            rw w.room-is (grind (arith, c.loop-cell.invariant.1, w.in_ok-told_back.ensures.rises.never_falls)),
          )
      | in-Some+else-jumps_among w ↦
          let n = w.in-Some.pair in
          let kept : filter_map h (take (i + 1) cells) ≡ ns ++ n ∷ [] = kept_some h cells i d c.loop-cell-test.true n (sym w.in-Some.is ∙ c.neighbours_from.ensures ∙ ap h c.cell-item.is) in (
            ap (λ v. v.items) w.traces-is ∙ c.loop-cell.invariant.0
                ∙ ap (λ (l : List TracePair). before ++ l)
                (sym (ap (λ l. map (λ (m : Neighbours). traces_of (pair_in m)) (filter j l)) kept ∙ made_fails j (λ (m : Neighbours). traces_of (pair_in m)) ns n (sym w.jumps_among.ensures ∙ w.if-jumps_among.false))),
            rw w.room-is c.loop-cell.invariant.1,
          )
      | in_default w ↦
          let kept : filter_map h (take (i + 1) cells) ≡ ns = kept_none h cells i d c.loop-cell-test.true (w.in_default.ensures ∙ ap h c.cell-item.is) in (
            ap (λ v. v.items) w.traces-is ∙ c.loop-cell.invariant.0
                ∙ ap (λ (l : List TracePair). before ++ l) (sym (ap (λ l. map (λ (m : Neighbours). traces_of (pair_in m)) (filter j l)) kept)),
            rw w.room-is c.loop-cell.invariant.1,
          )
    ]
