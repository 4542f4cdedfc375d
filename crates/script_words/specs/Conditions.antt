-- The conditions behind `where`, and where they stand in a line.
use Rattle.std.specs.Prelude.{ℕ, Bool, true, false, not, ◌&&◌, ◌||◌, nat_le, is_some, List, [], ◌∷◌, length, bytes_eq, codes, Option, Some, None, option_map, option_and_then, if◌then◌else◌}
use Rattle.std.specs.Map.{lookup}
use Rattle.bench_rules.specs.declared.comparison.Comparison.{Comparison}
use Rattle.bench_rules.specs.declared.comparison.Comparison.TheVariants.{Equal, Unequal, Less, AtMost, Greater, AtLeast}
use Rattle.bench_rules.specs.declared.condition.Condition.{Condition}
use Rattle.bench_rules.specs.declared.side.Side.{Side}
use Rattle.bench_rules.specs.declared.side.Side.TheVariants as sides
use Rattle.exact_amounts.specs.declared.amount.Amount.{Amount}
use Rattle.exact_amounts.specs.Numbers.{number_of as exact_number_of}
use Rattle.exact_amounts.specs.Places.{place_of}
use Rattle.float_codes.specs.declared.float_format.FloatFormat.{FloatFormat}
use Rattle.script_words.specs.Numbers.{is_to_be_number, number_of}
use Rattle.script_words.specs.Readers.{operand_of}

-- ---- the words of conditions

-- a sign: `=`, `!=`, `<`, `<=`, `>` or `>=`
abbrev pub comparison_of : List ℕ → Option Comparison
comparison_of word = lookup (bytes_eq word)
    ((codes "=", Equal) ∷ (codes "!=", Unequal) ∷ (codes "<", Less) ∷ (codes "<=", AtMost) ∷ (codes ">", Greater) ∷ (codes ">=", AtLeast) ∷ [])

-- the name of the least or of the greatest sample
abbrev pub is_extreme : List ℕ → Bool
is_extreme word = bytes_eq word (codes "sample_least") || bytes_eq word (codes "sample_greatest")

-- what a word is that begins as a number, and is none of a computation: a decimal of any length, with a point and an exponent or without;
-- an infinity is none
abbrev pub decimal_of : List ℕ → Option Amount
decimal_of word = if bytes_eq word (codes "-inf") then None else option_map place_of (exact_number_of word)

-- a word that is read as a decimal: in a file of floats, whose format comes first, one that begins as a number, beside such a name
abbrev pub is_to_be_decimal : Option FloatFormat → (word other : List ℕ) → Bool
is_to_be_decimal floats word other = is_some floats && is_extreme other && is_to_be_number word && not (is_some (number_of word))

-- a side beside another: an operand, or such a decimal
abbrev pub side_of : Option FloatFormat → (word other : List ℕ) → Option Side
side_of floats word other = if is_to_be_decimal floats word other then option_map sides.Decimal (decimal_of word) else option_map sides.Operand (operand_of word)

-- one condition: a side, a sign and a side, if each is one
abbrev pub condition_of : Option FloatFormat → List ℕ → List ℕ → List ℕ → Option Condition
condition_of floats a sign b =
    option_and_then (λ l. option_and_then (λ c. option_map (λ r. record { left = l; comparison = c; right = r }) (side_of floats b a)) (comparison_of sign)) (side_of floats a b)

-- three words, or three words and `and` and so on
abbrev pub are_joined : List (List ℕ) → Bool
are_joined [] = false
are_joined (a ∷ []) = false
are_joined (a ∷ sign ∷ []) = false
are_joined (a ∷ sign ∷ b ∷ []) = true
are_joined (a ∷ sign ∷ b ∷ word ∷ words) = bytes_eq word (codes "and") && are_joined words

-- 1 to 8 conditions have 3 to 31 words with those between them
abbrev pub has_conditions : List (List ℕ) → Bool
has_conditions words = nat_le (length words) 31 && are_joined words

-- the conditions of three words each, with a word between them, if there is one and each is one
abbrev pub conditions_of : Option FloatFormat → List (List ℕ) → Option (List Condition)
conditions_of floats [] = None
conditions_of floats (a ∷ []) = None
conditions_of floats (a ∷ sign ∷ []) = None
conditions_of floats (a ∷ sign ∷ b ∷ []) = option_map (λ c. c ∷ []) (condition_of floats a sign b)
conditions_of floats (a ∷ sign ∷ b ∷ word ∷ words) = option_and_then (λ c. option_map (λ cs. c ∷ cs) (conditions_of floats words)) (condition_of floats a sign b)

-- ---- where they stand

-- `where`, with a sign as the second word behind it: a name `where` may stand in front of other words
abbrev pub begins_conditions : List (List ℕ) → Bool
begins_conditions [] = false
begins_conditions (word ∷ []) = false
begins_conditions (word ∷ a ∷ []) = false
begins_conditions (word ∷ a ∷ sign ∷ words) = bytes_eq word (codes "where") && is_some (comparison_of sign)

-- the words in front of the first such `where`: all words where there is none
abbrev pub in_front : List (List ℕ) → List (List ℕ)
in_front [] = []
in_front (word ∷ words) = if begins_conditions (word ∷ words) then [] else word ∷ in_front words

-- the words behind it, where there is one
abbrev pub behind_where : List (List ℕ) → Option (List (List ℕ))
behind_where [] = None
behind_where (word ∷ words) = if begins_conditions (word ∷ words) then Some words else behind_where words
