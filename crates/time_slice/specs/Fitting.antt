-- The numbers that samples of a format can have.
use Rattle.std.specs.Prelude.{ℤ, Bool, false}
use Rattle.std.specs.Option.{option_map_or}
use Rattle.sample_codes.specs.declared.format.Format.{Format}
use Rattle.sample_codes.specs.Formats.{may_be_negative, sample_fits, values}

-- a sample of the format can have this value
abbrev pub value_fits : Format → ℤ → Bool
value_fits f v = option_map_or (λ g. sample_fits g v) (values f) false

-- and its values may be below zero
abbrev pub has_signs : Format → Bool
has_signs f = option_map_or may_be_negative (values f) false
