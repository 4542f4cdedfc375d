-- Floats as text.
use Rattle.std.specs.Prelude.{ℕ, pos, ◌≡◌, ◌+◌, ◌-◌, ◌<◌, ◌==◌, ◌&&◌, ◌⊎◌, Bool, true, false, if◌then◌else◌, List, ◌++◌, length, take, codes, bytes_eq, Some}
use Rattle.std.specs.Fmt.{sign_text}
use Rattle.std.specs.Float.{Float, Format, nan, inf, fin, round_to_format, binary32, binary64, float_is_finite}
use Rattle.std.specs.Float.Ieee.{le}
use Rattle.fast_float.specs.Text.{Parts, scan, nearest, text_of, IsWellFormed}
use Rattle.float_codes.specs.declared.float_format.FloatFormat.{FloatFormat}
use Rattle.float_codes.specs.declared.float_format.FloatFormat.TheVariants.{Ibm32, Ieee32, Ieee64}
use Rattle.float_codes.specs.Values.{float_of_bits}
use Rattle.float_text.specs.declared.reading.Reading.TheVariants.{Value}
use Rattle.float_text.specs.Words.{size_of, reading_of}

-- the floats that a format's texts tell apart
abbrev pub text_format : FloatFormat → Format
text_format Ibm32 = binary64
text_format Ieee32 = binary32
text_format Ieee64 = binary64

-- the value that a text shows: of binary32 the nearest one of that format
abbrev pub shown : FloatFormat → Float → Float
shown Ibm32 v = v
shown Ieee32 v = round_to_format binary32 v
shown Ieee64 v = v

-- the format whose words tell the texts of a format apart
abbrev pub reader : FloatFormat → FloatFormat
reader Ibm32 = Ieee64
reader Ieee32 = Ieee32
reader Ieee64 = Ieee64

-- The text of a float is read as the float that it shows, at IBM's as a binary64, and where the format has that value, in the format too.
pub record ReadsBack (f : FloatFormat) (v : Float) (text : List ℕ) : Type 0 where
  pub as_shown : reading_of (reader f) text ≡ Some (Value (shown f v))
  pub as_sample : (b : ℕ) → v ≡ float_of_bits f b → reading_of f text ≡ Some (Value v)

-- an amount of at most 2 ^ 53, up to which each whole number is a float
abbrev pub is_up_to_whole : Float → Bool
is_up_to_whole v = le (fin true 1 (pos 53)) v && le v (fin false 1 (pos 53))

-- a whole number is written with a point and a 0
abbrev pub has_point_zero : List ℕ → Bool
has_point_zero text = bytes_eq (scan (size_of text)).fraction (codes "0") && length (scan (size_of text)).exponent == 0

-- the text without them
abbrev pub without_point_zero : List ℕ → List ℕ
without_point_zero text = if has_point_zero text then take (length text - length (size_of text) + length (scan (size_of text)).whole) text else text

-- the text is a decimal to which the float is the nearest one
pub record IsDecimalOf (f : Format) (v : Float) (text : List ℕ) (negative : Bool) (p : Parts) : Type 0 where
  pub is : text ≡ sign_text negative ++ text_of p
  pub well_formed : IsWellFormed p
  pub whole : 0 < length p.whole
  pub finite : float_is_finite v ≡ true
  pub nearest_is : nearest f negative p ≡ v

-- or that of an infinity
pub record IsInfinityOf (v : Float) (text : List ℕ) (negative : Bool) : Type 0 where
  pub is : text ≡ sign_text negative ++ codes "inf"
  pub infinite : v ≡ inf negative

-- a text of a float: a decimal that reads back as it, or `inf` with its sign
abbrev pub IsTextOf : Format → Float → List ℕ → Type 0
IsTextOf f v text = ((negative : Bool) × (p : Parts) × IsDecimalOf f v text negative p) ⊎ ((negative : Bool) × IsInfinityOf v text negative)
