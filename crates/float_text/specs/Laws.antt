-- Laws of texts.
use Rattle.std.specs.Prelude.{ℕ, ◌≡◌, List, Some}
use Rattle.float_codes.specs.declared.float_format.FloatFormat.{FloatFormat}
use Rattle.float_codes.specs.Values.{float_of_bits}
use Rattle.float_text.specs.declared.reading.Reading.TheVariants.{Value}
use Rattle.float_text.specs.Words.{reading_of}
use Rattle.float_text.specs.Texts.{shown, reader}

-- A word that is read as what the text of a sample shows, at IBM's as a binary64, writes the sample's value, also -0. So what is printed for
-- a sample leaves it as it is.
abbrev pub SamplesReadBack : Type 0
SamplesReadBack = (f : FloatFormat) (b : ℕ) (word : List ℕ) → reading_of (reader f) word ≡ Some (Value (shown f (float_of_bits f b))) → reading_of f word ≡ Some (Value (float_of_bits f b))
