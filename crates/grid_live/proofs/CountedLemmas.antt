-- Records that a grid counts one after the other.
use Rattle.std.specs.Prelude.{◌≡◌, ◌+◌, List, [], ◌∷◌, ◌++◌, map, refl}
use Rattle.std.proofs.Common.{arith, ap, ◌∙◌}
use Rattle.std.proofs.lemmas.Int.{ints}
use Rattle.trace_record.specs.Facts.{facts_of}
use Rattle.trace_record.specs.Keys.{Key}
use Rattle.trace_record.specs.Tally.{Same, tally_of, plus, times}
use Rattle.trace_record.specs.declared.record.Record.{Record}
use Rattle.trace_record.proofs.TallyLemmas.{Same-sym, Same-trans, one_behind}
use Rattle.grid_live.specs.GridKeys.{keys_of_grid}
use Rattle.grid_live.specs.OfGrid.{count_in, tally_of_grid}
use Rattle.grid_live.specs.OfKeys.{times_among}
use Rattle.grid_live.specs.declared.grid.Grid.{Grid}
use Rattle.grid_live.specs.declared.keys.Keys.{Keys}

-- with the keys of one record more the tally is that of the records with it behind them
pub counted_behind : (g : Grid) (ys : List Record) (x : Record) → Same (tally_of_grid g) (tally_of keys_of_grid (map facts_of ys)) → (ks : Keys) → ((k : Key) → times_among ks k ≡ times keys_of_grid (facts_of x) k)
    → (h : Grid) → h.records ≡ g.records + 1 → ((k : Key) → count_in h k ≡ count_in g k + times_among ks k) → Same (tally_of_grid h) (tally_of keys_of_grid (map facts_of (ys ++ x ∷ [])))
counted_behind g ys x s ks own h n more =
    Same-trans (tally_of_grid h) (plus keys_of_grid (tally_of_grid g) (facts_of x)) _
    (record { records = n; number = refl; sum = omega (arith, ints); count = λ k. more k ∙ ap (λ m. count_in g k + m) (own k) })
    (Same-sym _ _ (one_behind keys_of_grid ys x (tally_of_grid g) s))
