-- Numbers of records, as their facts have them.
use Rattle.std.specs.Prelude.{◌≡◌, List, [], ◌∷◌, map, refl}
use Rattle.std.proofs.Common.{ap}
use Rattle.trace_record.specs.Facts.{facts_of}
use Rattle.trace_record.specs.declared.record.Record.{Record}

pub scalars_in : (rs : List Record) → map (λ (r : Record). r.scalar) rs ≡ map (λ f. f.scalar) (map facts_of rs)
scalars_in [] = refl
scalars_in (r ∷ rs) = ap (λ l. r.scalar ∷ l) (scalars_in rs)
