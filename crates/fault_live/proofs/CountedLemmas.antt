-- Records that faults count one after the other.
use Rattle.std.specs.Prelude.{◌≡◌, ℤ, ◌+◌, List, [], ◌∷◌, ◌++◌, map, Option, refl}
use Rattle.std.proofs.Common.{arith, ap, ◌∙◌}
use Rattle.std.proofs.lemmas.Int.{ints}
use Rattle.trace_record.specs.Facts.{facts_of}
use Rattle.trace_record.specs.Keys.{Key}
use Rattle.trace_record.specs.Tally.{Same, tally_of, plus, times}
use Rattle.trace_record.specs.declared.record.Record.{Record}
use Rattle.trace_record.proofs.TallyLemmas.{Same-sym, Same-trans, one_behind}
use Rattle.fault_live.specs.FaultKeys.{keys_of_faults}
use Rattle.fault_live.specs.OfFaults.{count_in, tally_of_faults}
use Rattle.fault_live.specs.OfKeys.{times_among}
use Rattle.fault_live.specs.declared.faults.Faults.{Faults}

-- with the keys of one record more the tally is that of the records with it behind them
pub counted_behind : (g : Faults) (ys : List Record) (x : Record) → Same (tally_of_faults g) (tally_of keys_of_faults (map facts_of ys)) → (key : Option (ℤ × ℤ × ℤ)) → ((k : Key) → times_among key k ≡ times keys_of_faults (facts_of x) k)
    → (h : Faults) → h.records ≡ g.records + 1 → ((k : Key) → count_in h k ≡ count_in g k + times_among key k) → Same (tally_of_faults h) (tally_of keys_of_faults (map facts_of (ys ++ x ∷ [])))
counted_behind g ys x s key own h n more =
    Same-trans (tally_of_faults h) (plus keys_of_faults (tally_of_faults g) (facts_of x)) _
    (record { records = n; number = refl; sum = omega (arith, ints); count = λ k. more k ∙ ap (λ m. count_in g k + m) (own k) })
    (Same-sym _ _ (one_behind keys_of_faults ys x (tally_of_faults g) s))
