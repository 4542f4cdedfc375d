-- The field map of a volume.
use Rattle.std.specs.Prelude.{ℕ}
use Rattle.field_map.specs.Pairs.{Pairs}

-- the bound names with their places, and the greatest number of header extensions that a trace of the file has
pub record NameMap : Type 0 where
  pub extensions : ℕ
  pub pairs : Pairs
