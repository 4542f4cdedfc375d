-- The tally of records whose triples were counted all at once.
use Rattle.std.specs.Prelude.{◌≡◌, ℤ, List, length, map, refl}
use Rattle.std.proofs.Common.{sym, ap, ◌∙◌}
use Rattle.std.proofs.lemmas.List.{length-map}
use Rattle.std.specs.Ordering.{int_cmp}
use Rattle.trace_record.specs.Facts.{facts_of}
use Rattle.fault_live.specs.FaultKeys.{faults_has, keys_of_faults}
use Rattle.trace_record.specs.Keys.{cell, inline, crossline, offset, coordinate_x, coordinate_y, least, greatest, triple}
use Rattle.key_counts.specs.Counts.{count_of}
use Rattle.key_counts.specs.Rising.{times_in}
use Rattle.trace_record.specs.Tally.{Same, tally_of}
use Rattle.trace_record.specs.declared.record.Record.{Record}
use Rattle.key_counts.proofs.KeyLemmas.{is_eq-triple}
use Rattle.trace_record.proofs.LoadLemmas.{sum_by-zero, int_sum-zero, map-facts}
use Rattle.key_counts.proofs.ShownLemmas.{times_in-map}
use Rattle.window_counts.specs.Places.{triple_cmp}
use Rattle.fault_live.specs.OfFaults.{tally_of_faults}
use Rattle.fault_live.proofs.FirstLemmas.{key}
use Rattle.fault_live.specs.declared.faults.Faults.{Faults}

-- a value that counted the records' triples shows the records' tally
pub Same-loaded : (f : Faults) (rs : List Record) → f.records ≡ length rs → ((q : ℤ × ℤ × ℤ) → count_of triple_cmp f.triples q ≡ times_in triple_cmp (map (λ r. (r.inline, r.crossline, r.offset)) rs) q)
    → Same (tally_of_faults f) (tally_of keys_of_faults (map facts_of rs))
Same-loaded f rs n shows = record {
  records = n ∙ sym (length-map rs facts_of);
  number = sym (sum_by-zero (map facts_of rs));
  sum = sym (int_sum-zero (map facts_of rs));
  count = elim [
    | cell i x ↦ sym (sum_by-zero (map facts_of rs))
    | inline i ↦ sym (sum_by-zero (map facts_of rs))
    | crossline x ↦ sym (sum_by-zero (map facts_of rs))
    | offset o ↦ sym (sum_by-zero (map facts_of rs))
    | coordinate_x r ↦ sym (sum_by-zero (map facts_of rs))
    | coordinate_y r ↦ sym (sum_by-zero (map facts_of rs))
    | least v ↦ sym (sum_by-zero (map facts_of rs))
    | greatest v ↦ sym (sum_by-zero (map facts_of rs))
    | triple i x o ↦
        shows (i, x, o)
        ∙ ap (λ ks. times_in triple_cmp ks (i, x, o)) (map-facts (λ r. (r.inline, r.crossline, r.offset)) key (λ r. refl) rs)
        ∙ times_in-map triple_cmp key (λ f k. faults_has f (triple k.0 k.1 k.2))
        (λ f k. is_eq-triple (int_cmp f.inline k.0) (int_cmp f.crossline k.1) (int_cmp f.offset k.2)) (map facts_of rs) (i, x, o)
  ];
}
