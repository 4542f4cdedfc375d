-- What may follow the word of a command.
use Rattle.std.specs.Prelude.{ℕ, ℤ, Bool, List, [], ◌∷◌, bytes_eq, codes, Option, Some, None, length, option_map, option_and_then, ok_or, Result, Ok, Err, if◌then◌else◌}
use Rattle.std.specs.Map.{lookup}
use Rattle.range_stats.specs.declared.quantity.Quantity.{Quantity}
use Rattle.range_stats.specs.declared.quantity.Quantity.TheVariants.{Inline, Crossline, Offset, X, Y}
use Rattle.bench_rules.specs.declared.field.Field.{Field}
use Rattle.bench_rules.specs.declared.field.Field.TheVariants as fields
use Rattle.bench_rules.specs.declared.operand.Operand.{Operand}
use Rattle.bench_rules.specs.declared.operand.Operand.TheVariants as operands
use Rattle.bench_rules.specs.declared.operator.Operator.{Operator}
use Rattle.bench_rules.specs.declared.operator.Operator.TheVariants.{Plus, Minus, Times, Over, Modulo}
use Rattle.bench_rules.specs.ManyTraces.{each_of}
use Rattle.script_words.specs.declared.line_fault.LineFault.{LineFault}
use Rattle.script_words.specs.declared.line_fault.LineFault.TheVariants.{Words, Number}
use Rattle.float_codes.specs.declared.float_format.FloatFormat.{FloatFormat}
use Rattle.script_words.specs.Numbers.{number_of, sample_number, is_to_be_number, begins_with_at, place_of_word}

-- ---- one word

-- any word is a name, to be judged later
abbrev pub name_of : List ℕ → Option (List ℕ)
name_of word = Some word

-- a field: a place where the word begins with `@`, else a name
abbrev pub field_of : List ℕ → Option Field
field_of word = if begins_with_at word then option_map fields.Place (place_of_word word) else Some (fields.Name word)

-- what a name is bound to: any field, but no name that begins as a number does
abbrev pub target_of : List ℕ → Option Field
target_of word = if is_to_be_number word then None else field_of word

-- WHICH: a kind of value that has a range
abbrev pub quantity_of : List ℕ → Option Quantity
quantity_of word = lookup (bytes_eq word)
    ((codes "inline", Inline) ∷ (codes "crossline", Crossline) ∷ (codes "offset", Offset) ∷ (codes "x", X) ∷ (codes "y", Y) ∷ [])

-- what can be dropped: the word `tail`
abbrev pub tail_of : List ℕ → Option (List ℕ)
tail_of word = if bytes_eq word (codes "tail") then Some word else None

-- an operand: a number where the word begins with a digit, `-` or `+`, else a field
abbrev pub operand_of : List ℕ → Option Operand
operand_of word = if is_to_be_number word then option_map operands.Number (number_of word) else option_map operands.Field (field_of word)

-- an operator: `+`, `-`, `*`, `/` or `%`
abbrev pub operator_of : List ℕ → Option Operator
operator_of word = lookup (bytes_eq word)
    ((codes "+", Plus) ∷ (codes "-", Minus) ∷ (codes "*", Times) ∷ (codes "/", Over) ∷ (codes "%", Modulo) ∷ [])

-- ---- all words

-- the numbers of samples, whose format comes first where they are floats, each in a word
abbrev pub numbers_of : Option FloatFormat → List (List ℕ) → Option (List ℤ)
numbers_of floats [] = Some []
numbers_of floats (word ∷ words) = option_and_then (λ x. option_map (λ xs. x ∷ xs) (numbers_of floats words)) (sample_number floats word)

-- one field for each word, if each is one
abbrev pub fields_of : List (List ℕ) → Option (List Field)
fields_of words = each_of field_of words

-- operations: an operator and its operand for each two words, if each is one
abbrev pub steps_of : List (List ℕ) → Option (List (Operator × Operand))
steps_of [] = Some []
steps_of (w ∷ []) = None
steps_of (v ∷ w ∷ words) =
    option_and_then (λ operator. option_and_then (λ operand. option_map (λ steps. (operator, operand) ∷ steps) (steps_of words)) (operand_of w)) (operator_of v)

-- ---- the words behind the first

-- a command, from the words behind the first
abbrev pub Reader : Type 0 → Type 0
Reader C = List (List ℕ) → Result C LineFault

-- nothing
abbrev pub alone : {C : Type 0} → C → Reader C
alone command [] = Ok command
alone command (word ∷ words) = Err Words

-- one word
abbrev pub one : {A C : Type 0} → (List ℕ → Option A) → (A → C) → Reader C
one a command (v ∷ []) = ok_or (option_map command (a v)) Number
one a command (v ∷ w ∷ words) = Err Words
one a command [] = Err Words

-- two words
abbrev pub two : {A B C : Type 0} → (List ℕ → Option A) → (List ℕ → Option B) → (A → B → C) → Reader C
two a b command (v ∷ w ∷ []) = ok_or (option_and_then (λ x. option_map (command x) (b w)) (a v)) Number
two a b command (u ∷ v ∷ w ∷ words) = Err Words
two a b command (v ∷ []) = Err Words
two a b command [] = Err Words

-- three words
abbrev pub three : {A B C D : Type 0} → (List ℕ → Option A) → (List ℕ → Option B) → (List ℕ → Option C) → (A → B → C → D) → Reader D
three a b c command (u ∷ v ∷ w ∷ []) =
    ok_or (option_and_then (λ x. option_and_then (λ y. option_map (command x y) (c w)) (b v)) (a u)) Number
three a b c command (t ∷ u ∷ v ∷ w ∷ words) = Err Words
three a b c command (v ∷ w ∷ []) = Err Words
three a b c command (w ∷ []) = Err Words
three a b c command [] = Err Words

-- four words; the third, which may want memory, is read last
abbrev pub four : {A B C D E : Type 0} → (List ℕ → Option A) → (List ℕ → Option B) → (List ℕ → Option C) → (List ℕ → Option D) → (A → B → C → D → E) → Reader E
four a b c d command (t ∷ u ∷ v ∷ w ∷ []) =
    ok_or (option_and_then (λ i. option_and_then (λ j. option_and_then (λ l. option_map (λ k. command i j k l) (c v)) (d w)) (b u)) (a t)) Number
four a b c d command (s ∷ t ∷ u ∷ v ∷ w ∷ words) = Err Words
four a b c d command (u ∷ v ∷ w ∷ []) = Err Words
four a b c d command (v ∷ w ∷ []) = Err Words
four a b c d command (w ∷ []) = Err Words
four a b c d command [] = Err Words

-- five words; the third, which may want memory, is read last
abbrev pub five : {A B C D E F : Type 0} → (List ℕ → Option A) → (List ℕ → Option B) → (List ℕ → Option C) → (List ℕ → Option D) → (List ℕ → Option E) → (A → B → C → D → E → F) → Reader F
five a b c d e command (s ∷ t ∷ u ∷ v ∷ w ∷ []) =
    ok_or (option_and_then (λ i. option_and_then (λ j. option_and_then (λ l. option_and_then (λ m. option_map (λ k. command i j k l m) (c u)) (e w)) (d v)) (b t)) (a s)) Number
five a b c d e command (r ∷ s ∷ t ∷ u ∷ v ∷ w ∷ words) = Err Words
five a b c d e command (t ∷ u ∷ v ∷ w ∷ []) = Err Words
five a b c d e command (u ∷ v ∷ w ∷ []) = Err Words
five a b c d e command (v ∷ w ∷ []) = Err Words
five a b c d e command (w ∷ []) = Err Words
five a b c d e command [] = Err Words

-- one word, and then a text, whatever words that is
abbrev pub one_and_text : {A C : Type 0} → (List ℕ → Option A) → (A → C) → Reader C
one_and_text a command (v ∷ words) = ok_or (option_map command (a v)) Number
one_and_text a command [] = Err Words

-- two words, and then one or more numbers of samples
abbrev pub two_and_numbers : {A B C : Type 0} → Option FloatFormat → (List ℕ → Option A) → (List ℕ → Option B) → (A → B → List ℤ → C) → Reader C
two_and_numbers floats a b command (u ∷ v ∷ w ∷ words) =
    ok_or (option_and_then (λ x. option_and_then (λ y. option_map (command x y) (numbers_of floats (w ∷ words))) (b v)) (a u)) Number
two_and_numbers floats a b command (u ∷ v ∷ []) = Err Words
two_and_numbers floats a b command (u ∷ []) = Err Words
two_and_numbers floats a b command [] = Err Words

-- two words, and then a list of so many words as it may have
abbrev pub two_and_list : {A B L C : Type 0} → (List ℕ → Option A) → (List ℕ → Option B) → (ℕ → Bool) → (List (List ℕ) → Option L) → (A → B → L → C) → Reader C
two_and_list a b fits list command (v ∷ w ∷ words) =
    if fits (length words) then ok_or (option_and_then (λ x. option_and_then (λ y. option_map (command x y) (list words)) (b w)) (a v)) Number
    else Err Words
two_and_list a b fits list command (w ∷ []) = Err Words
two_and_list a b fits list command [] = Err Words

-- four words, and then a list of so many words as it may have
abbrev pub four_and_list : {A B C D L E : Type 0} → (List ℕ → Option A) → (List ℕ → Option B) → (List ℕ → Option C) → (List ℕ → Option D) → (ℕ → Bool) → (List (List ℕ) → Option L) → (A → B → C → D → L → E) → Reader E
four_and_list a b c d fits list command (t ∷ u ∷ v ∷ w ∷ words) =
    if fits (length words) then
    ok_or (option_and_then (λ i. option_and_then (λ j. option_and_then (λ k. option_and_then (λ l. option_map (command i j k l) (list words)) (d w)) (c v)) (b u)) (a t)) Number
    else Err Words
four_and_list a b c d fits list command (u ∷ v ∷ w ∷ []) = Err Words
four_and_list a b c d fits list command (v ∷ w ∷ []) = Err Words
four_and_list a b c d fits list command (w ∷ []) = Err Words
four_and_list a b c d fits list command [] = Err Words
