-- Worked lines of the commands on the headers of traces.
use Rattle.std.specs.Prelude.{◌≡◌, pos, negsuc, [], ◌∷◌, replicate, codes, Some, None, Ok, Err, true, false, refl}
use Rattle.std.specs.Str.{is_utf8, chars}
use Rattle.std.specs.Char.{encode_utf8}
use Rattle.field_map.specs.Pairs.{signed_at}
use Rattle.bench_rules.specs.declared.field.Field.TheVariants as fields
use Rattle.bench_rules.specs.declared.operand.Operand.TheVariants as operands
use Rattle.bench_rules.specs.declared.operator.Operator.TheVariants.{Plus, Over}
use Rattle.bench_rules.specs.declared.edit.Edit.TheVariants as edits
use Rattle.bench_rules.specs.declared.query.Query.TheVariants as queries
use Rattle.script_words.specs.declared.command.Command.TheVariants.{Apply, Ask}
use Rattle.script_words.specs.declared.line_fault.LineFault.TheVariants.{Words, Number}
use Rattle.script_words.specs.Readers.{operand_of, steps_of}
use Rattle.script_words.specs.HeaderCommands.{read_table, read_compute}
use Rattle.script_words.specs.Commands.{line_result}

-- ---- queries

-- a field may stand twice
pub line-table : line_result None 9 (codes "table 1 3 offset @189:4 offset") ≡ Ok (Some (Ask (queries.Table 1 3 (fields.Name (codes "offset") ∷ fields.Place (signed_at 189 4) ∷ fields.Name (codes "offset") ∷ []))))
unfolding is_utf8 chars encode_utf8
line-table = refl

pub line-table_none : line_result None 9 (codes "table 1 3") ≡ Err Words
unfolding is_utf8 chars encode_utf8
line-table_none = refl

-- 65 fields are too many, also where one of them is no place
pub table-many : read_table 9 (codes "1" ∷ codes "3" ∷ codes "@1" ∷ replicate 64 (codes "offset")) ≡ Err Words
table-many = refl

pub line-table_place : line_result None 9 (codes "table 1 3 offset @189") ≡ Err Number
unfolding is_utf8 chars encode_utf8
line-table_place = refl

pub line-find : line_result None 9 (codes "find 1 3 offset -5 5") ≡ Ok (Some (Ask (queries.Find 1 3 (fields.Name (codes "offset")) (negsuc 4) (pos 5))))
unfolding is_utf8 chars encode_utf8
line-find = refl

pub line-header : line_result None 9 (codes "header 2") ≡ Ok (Some (Ask (queries.Header 2)))
unfolding is_utf8 chars encode_utf8
line-header = refl

pub line-extremes : line_result None 9 (codes "extremes 1 3") ≡ Ok (Some (Ask (queries.Extremes 1 3)))
unfolding is_utf8 chars encode_utf8
line-extremes = refl

pub line-lines : line_result None 9 (codes "lines 0") ≡ Ok (Some (Ask (queries.Lines 0)))
unfolding is_utf8 chars encode_utf8
line-lines = refl

-- ---- computed fields

pub line-compute : line_result None 9 (codes "compute 1 3 offset sx + -5 / @189:4")
    ≡ Ok (Some (Apply (edits.Compute 1 3 (fields.Name (codes "offset")) (operands.Field (fields.Name (codes "sx")))
    ((Plus, operands.Number (negsuc 4)) ∷ (Over, operands.Field (fields.Place (signed_at 189 4))) ∷ []))))
unfolding is_utf8 chars encode_utf8
line-compute = refl

-- an operator without an operand, in front of a word that is no number
pub line-compute_odd : line_result None 9 (codes "compute 1 3 offset 5x +") ≡ Err Words
unfolding is_utf8 chars encode_utf8
line-compute_odd = refl

-- a name that begins with a digit is no number
pub operand-digit : operand_of (codes "5x") ≡ None
operand-digit = refl

-- and neither is a number with `+`
pub operand-plus : operand_of (codes "+5") ≡ None
operand-plus = refl

pub steps-sign : steps_of (codes "^" ∷ codes "2" ∷ []) ≡ None
steps-sign = refl

-- nine operations are too many
pub compute-nine : read_compute 9 (codes "1" ∷ codes "3" ∷ codes "offset" ∷ codes "1" ∷ replicate 18 (codes "+")) ≡ Err Words
compute-nine = refl

-- ---- traces in order

pub line-sort : line_result None 9 (codes "sort 1 3 inline -@189:4") ≡ Ok (Some (Apply (edits.Sort 1 3 (fields.Name (codes "inline") ∷ fields.Place (signed_at 189 4) ∷ []) (false ∷ true ∷ []))))
unfolding is_utf8 chars encode_utf8
line-sort = refl

-- a `-` alone is a name
pub line-sort_minus : line_result None 9 (codes "sort 1 3 -") ≡ Ok (Some (Apply (edits.Sort 1 3 (fields.Name (codes "-") ∷ []) (false ∷ []))))
unfolding is_utf8 chars encode_utf8
line-sort_minus = refl

pub line-sort_nothing : line_result None 9 (codes "sort 1 3") ≡ Err Words
unfolding is_utf8 chars encode_utf8
line-sort_nothing = refl
