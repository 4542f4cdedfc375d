-- The cells of the traces at 0, one trace more.
use Rattle.std.specs.Prelude.{◌≡◌, true, cond, List, [], ◌∷◌, ◌++◌, map}
use Rattle.std.proofs.Common.{sym, ap, ◌∙◌}
use Rattle.std.proofs.lemmas.List.{map-append}
use Rattle.std.proofs.lemmas.List.Elements.{filter-append}
use Rattle.trace_record.specs.Facts.{facts_of}
use Rattle.trace_record.specs.declared.record.Record.{Record}
use Rattle.trace_groups.specs.Suspects.{at_origin, origins, cell_of}

pub cells_more : (ys : List Record) (x : Record) → at_origin (facts_of x) ≡ true → map cell_of (origins (map facts_of ys)) ++ (x.inline, x.crossline) ∷ [] ≡ map cell_of (origins (map facts_of (ys ++ x ∷ [])))
cells_more ys x at =
    sym (
    ap (λ l. map cell_of (origins l)) (map-append facts_of ys (x ∷ []))
    ∙ ap (map cell_of) (filter-append at_origin (map facts_of ys) (facts_of x ∷ []))
    ∙ map-append cell_of (origins (map facts_of ys)) (origins (facts_of x ∷ []))
    ∙ ap (λ b. map cell_of (origins (map facts_of ys)) ++ map cell_of (cond b (facts_of x ∷ []) [])) at
    )
