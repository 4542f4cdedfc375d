-- Worked lines of commands on all traces, and on those that meet conditions.
use Rattle.std.specs.Prelude.{◌≡◌, ℕ, zero, suc, ℤ, pos, negsuc, List, [], ◌∷◌, codes, Option, Some, None, Ok, Err, true, false, refl}
use Rattle.std.specs.Str.{is_utf8, chars}
use Rattle.std.specs.Char.{encode_utf8}
use Rattle.field_map.specs.Pairs.{signed_at}
use Rattle.bench_rules.specs.declared.chosen.Chosen.{Chosen}
use Rattle.bench_rules.specs.declared.chosen_edit.ChosenEdit.TheVariants as chosen_edits
use Rattle.bench_rules.specs.declared.chosen_query.ChosenQuery.TheVariants as chosen_queries
use Rattle.bench_rules.specs.declared.comparison.Comparison.{Comparison}
use Rattle.bench_rules.specs.declared.comparison.Comparison.TheVariants.{Equal, Unequal, Less, AtMost, Greater, AtLeast}
use Rattle.bench_rules.specs.declared.condition.Condition.{Condition}
use Rattle.bench_rules.specs.declared.field.Field.{Field}
use Rattle.bench_rules.specs.declared.field.Field.TheVariants as fields
use Rattle.bench_rules.specs.declared.operand.Operand.TheVariants as operands
use Rattle.bench_rules.specs.declared.operator.Operator.TheVariants.{Plus}
use Rattle.bench_rules.specs.declared.edit.Edit.TheVariants as edits
use Rattle.bench_rules.specs.declared.query.Query.TheVariants as queries
use Rattle.bench_rules.specs.declared.side.Side.TheVariants as sides
use Rattle.script_words.specs.declared.command.Command.TheVariants.{Apply, Ask}
use Rattle.script_words.specs.declared.line_fault.LineFault.TheVariants.{Words, Number}
use Rattle.script_words.specs.Conditions.{condition_of, has_conditions}
use Rattle.script_words.specs.Ranges.{spelled}
use Rattle.script_words.specs.Commands.{line_result}

-- a field that has a name
abbrev named : List ℕ → Field
named name = fields.Name name

-- a condition on a field and a number
abbrev when : List ℕ → Comparison → ℤ → Condition
when name comparison x = record { left = sides.Operand (operands.Field (fields.Name name)); comparison = comparison; right = sides.Operand (operands.Number x) }

-- the traces of a range that meet conditions
abbrev those : Option (ℕ × ℕ) → List Condition → Chosen
those range conditions = record { traces = range; conditions = conditions }

-- the words of a condition, and of so many more behind it
abbrev words_times : ℕ → List (List ℕ)
words_times zero = codes "cdp" ∷ codes "=" ∷ codes "5" ∷ []
words_times (suc n) = codes "cdp" ∷ codes "=" ∷ codes "5" ∷ codes "and" ∷ words_times n

-- ---- all traces

pub all-words : spelled (codes "all" ∷ codes "offset" ∷ []) ≡ codes "1" ∷ codes "last" ∷ codes "offset" ∷ []
all-words = refl

-- in a file of 9 traces they are 1 to 9
pub all-table : line_result None 9 (codes "table all offset") ≡ Ok (Some (Ask (queries.Table 1 9 (named (codes "offset") ∷ []))))
unfolding is_utf8 chars encode_utf8
all-table = refl

-- in one without traces they are of no range
pub all-table_none : line_result None 0 (codes "table all offset") ≡ Ok (Some (Ask (queries.OfChosen (those None []) (chosen_queries.Table (named (codes "offset") ∷ [])))))
unfolding is_utf8 chars encode_utf8
all-table_none = refl

pub all-extremes : line_result None 9 (codes "extremes all") ≡ Ok (Some (Ask (queries.Extremes 1 9)))
unfolding is_utf8 chars encode_utf8
all-extremes = refl

pub all-set : line_result None 9 (codes "set all offset 7") ≡ Ok (Some (Apply (edits.Renumber 1 9 (named (codes "offset")) (pos 7) (pos 0))))
unfolding is_utf8 chars encode_utf8
all-set = refl

-- a name `last` is no trace here: a word is missing
pub all-set_few : line_result None 9 (codes "set all 5") ≡ Err Words
unfolding is_utf8 chars encode_utf8
all-set_few = refl

pub all-delete : line_result None 9 (codes "delete all") ≡ Ok (Some (Apply (edits.OfChosen (those (Some (1, 9)) []) chosen_edits.Delete)))
unfolding is_utf8 chars encode_utf8
all-delete = refl

pub each-delete : line_result None 9 (codes "delete 2 last") ≡ Ok (Some (Apply (edits.OfChosen (those (Some (2, 9)) []) chosen_edits.Delete)))
unfolding is_utf8 chars encode_utf8
each-delete = refl

pub each-swap : line_result None 9 (codes "swap 2 last sx @73:4") ≡ Ok (Some (Apply (edits.OfChosen (those (Some (2, 9)) []) (chosen_edits.Swap (named (codes "sx")) (fields.Place (signed_at 73 4))))))
unfolding is_utf8 chars encode_utf8
each-swap = refl

-- of two fields one is missing
pub all-swap_few : line_result None 9 (codes "swap all sx") ≡ Err Words
unfolding is_utf8 chars encode_utf8
all-swap_few = refl

-- `all` stands for both traces, and five words are needed; samples are counted from 0
pub all-fill : line_result None 9 (codes "fill all 0 99 -5") ≡ Ok (Some (Apply (edits.OfChosen (those (Some (1, 9)) []) (chosen_edits.Fill 0 99 (negsuc 4)))))
unfolding is_utf8 chars encode_utf8
all-fill = refl

pub each-fill_few : line_result None 9 (codes "fill 1 last 0 99") ≡ Err Words
unfolding is_utf8 chars encode_utf8
each-fill_few = refl

-- of whole numbers a decimal is none
pub each-fill_decimal : line_result None 9 (codes "fill 1 last 0 99 0.5") ≡ Err Number
unfolding is_utf8 chars encode_utf8
each-fill_decimal = refl

pub one-delete : line_result None 9 (codes "delete 2") ≡ Ok (Some (Apply (edits.Delete 2)))
unfolding is_utf8 chars encode_utf8
one-delete = refl

pub all-sort : line_result None 9 (codes "sort all -offset") ≡ Ok (Some (Apply (edits.Sort 1 9 (named (codes "offset") ∷ []) (true ∷ []))))
unfolding is_utf8 chars encode_utf8
all-sort = refl

-- in a file without traces nothing is sorted, but a field without a place is told
pub all-sort_none : line_result None 0 (codes "sort all -offset") ≡ Ok (Some (Apply (edits.OfChosen (those None []) (chosen_edits.Nothing (named (codes "offset") ∷ [])))))
unfolding is_utf8 chars encode_utf8
all-sort_none = refl

-- `all` is both words of a range
pub all-last : line_result None 9 (codes "table 1 all offset") ≡ Err Number
unfolding is_utf8 chars encode_utf8
all-last = refl

-- and of no command of one trace
pub all-header : line_result None 9 (codes "header all") ≡ Err Number
unfolding is_utf8 chars encode_utf8
all-header = refl

-- ---- conditions

pub where-table : line_result None 9 (codes "table 2 5 sx where cdp = 5 and offset >= -2")
    ≡ Ok (Some (Ask (queries.OfChosen (those (Some (2, 5)) (when (codes "cdp") Equal (pos 5) ∷ when (codes "offset") AtLeast (negsuc 1) ∷ [])) (chosen_queries.Table (named (codes "sx") ∷ [])))))
unfolding is_utf8 chars encode_utf8
where-table = refl

pub where-find : line_result None 9 (codes "find all sx 1 5 where cdp != 5")
    ≡ Ok (Some (Ask (queries.OfChosen (those (Some (1, 9)) (when (codes "cdp") Unequal (pos 5) ∷ [])) (chosen_queries.Find (named (codes "sx")) (pos 1) (pos 5)))))
unfolding is_utf8 chars encode_utf8
where-find = refl

pub where-extremes : line_result None 0 (codes "extremes all where cdp < 5") ≡ Ok (Some (Ask (queries.OfChosen (those None (when (codes "cdp") Less (pos 5) ∷ [])) chosen_queries.Extremes)))
unfolding is_utf8 chars encode_utf8
where-extremes = refl

pub where-set : line_result None 9 (codes "set 2 5 sx 7 where cdp <= 5")
    ≡ Ok (Some (Apply (edits.OfChosen (those (Some (2, 5)) (when (codes "cdp") AtMost (pos 5) ∷ [])) (chosen_edits.Renumber (named (codes "sx")) (pos 7) (pos 0)))))
unfolding is_utf8 chars encode_utf8
where-set = refl

pub where-renumber : line_result None 9 (codes "renumber all sx 7 -1 where cdp > 5")
    ≡ Ok (Some (Apply (edits.OfChosen (those (Some (1, 9)) (when (codes "cdp") Greater (pos 5) ∷ [])) (chosen_edits.Renumber (named (codes "sx")) (pos 7) (negsuc 0)))))
unfolding is_utf8 chars encode_utf8
where-renumber = refl

pub where-compute : line_result None 9 (codes "compute all sx cdp + 1 where cdp > 5")
    ≡ Ok (Some (Apply (edits.OfChosen (those (Some (1, 9)) (when (codes "cdp") Greater (pos 5) ∷ [])) (chosen_edits.Compute (named (codes "sx")) (operands.Field (named (codes "cdp"))) ((Plus, operands.Number (pos 1)) ∷ [])))))
unfolding is_utf8 chars encode_utf8
where-compute = refl

pub where-delete : line_result None 9 (codes "delete all where cdp = 5") ≡ Ok (Some (Apply (edits.OfChosen (those (Some (1, 9)) (when (codes "cdp") Equal (pos 5) ∷ [])) chosen_edits.Delete)))
unfolding is_utf8 chars encode_utf8
where-delete = refl

pub where-swap : line_result None 9 (codes "swap all sx gx where cdp = 5") ≡ Ok (Some (Apply (edits.OfChosen (those (Some (1, 9)) (when (codes "cdp") Equal (pos 5) ∷ [])) (chosen_edits.Swap (named (codes "sx")) (named (codes "gx"))))))
unfolding is_utf8 chars encode_utf8
where-swap = refl

pub where-fill : line_result None 0 (codes "fill all 0 99 7 where cdp = 5") ≡ Ok (Some (Apply (edits.OfChosen (those None (when (codes "cdp") Equal (pos 5) ∷ [])) (chosen_edits.Fill 0 99 (pos 7)))))
unfolding is_utf8 chars encode_utf8
where-fill = refl

pub where-count : line_result None 9 (codes "count 2 5 where cdp = 5") ≡ Ok (Some (Ask (queries.OfChosen (those (Some (2, 5)) (when (codes "cdp") Equal (pos 5) ∷ [])) chosen_queries.Count)))
unfolding is_utf8 chars encode_utf8
where-count = refl

pub where-stats : line_result None 9 (codes "stats 2 5 where cdp = 5") ≡ Ok (Some (Ask (queries.OfChosen (those (Some (2, 5)) (when (codes "cdp") Equal (pos 5) ∷ [])) chosen_queries.Stats)))
unfolding is_utf8 chars encode_utf8
where-stats = refl

pub all-stats : line_result None 9 (codes "stats all") ≡ Ok (Some (Ask (queries.OfChosen (those (Some (1, 9)) []) chosen_queries.Stats)))
unfolding is_utf8 chars encode_utf8
all-stats = refl

pub all-stats_none : line_result None 0 (codes "stats all") ≡ Ok (Some (Ask (queries.OfChosen (those None []) chosen_queries.Stats)))
unfolding is_utf8 chars encode_utf8
all-stats_none = refl

pub where-count_all : line_result None 0 (codes "count all where cdp = 5") ≡ Ok (Some (Ask (queries.OfChosen (those None (when (codes "cdp") Equal (pos 5) ∷ [])) chosen_queries.Count)))
unfolding is_utf8 chars encode_utf8
where-count_all = refl

-- either side may be a number or a field, by its name or its place
pub condition-places : condition_of None (codes "@189:4") (codes "<") (codes "sx")
    ≡ Some (record { left = sides.Operand (operands.Field (fields.Place (signed_at 189 4))); comparison = Less; right = sides.Operand (operands.Field (named (codes "sx"))) })
condition-places = refl

-- ---- the key word

-- with no sign as the second word behind it, `where` is a name
pub where-name : line_result None 9 (codes "table 1 3 where offset") ≡ Ok (Some (Ask (queries.Table 1 3 (named (codes "where") ∷ named (codes "offset") ∷ []))))
unfolding is_utf8 chars encode_utf8
where-name = refl

-- both: the name in front of the key word
pub where-both : line_result None 9 (codes "table 1 3 where where where = 2") ≡ Ok (Some (Ask (queries.OfChosen (those (Some (1, 3)) (when (codes "where") Equal (pos 2) ∷ [])) (chosen_queries.Table (named (codes "where") ∷ [])))))
unfolding is_utf8 chars encode_utf8
where-both = refl

-- another sign is none: too many words of a `find`, fields of a `table`
pub where-other_sign : line_result None 9 (codes "find 1 3 offset 1 5 where cdp == 5") ≡ Err Words
unfolding is_utf8 chars encode_utf8
where-other_sign = refl

pub where-fields : line_result None 9 (codes "table 1 3 where cdp == 5")
    ≡ Ok (Some (Ask (queries.Table 1 3 (named (codes "where") ∷ named (codes "cdp") ∷ named (codes "==") ∷ named (codes "5") ∷ []))))
unfolding is_utf8 chars encode_utf8
where-fields = refl

-- a sort has no conditions: these are its fields
pub where-sort : line_result None 9 (codes "sort 1 3 where cdp =") ≡ Ok (Some (Apply (edits.Sort 1 3 (named (codes "where") ∷ named (codes "cdp") ∷ named (codes "=") ∷ []) (false ∷ false ∷ false ∷ []))))
unfolding is_utf8 chars encode_utf8
where-sort = refl

-- ---- refused

-- half a condition
pub where-half : line_result None 9 (codes "extremes 1 3 where cdp =") ≡ Err Words
unfolding is_utf8 chars encode_utf8
where-half = refl

pub where-half_more : line_result None 9 (codes "extremes 1 3 where cdp = 5 and") ≡ Err Words
unfolding is_utf8 chars encode_utf8
where-half_more = refl

pub where-or : line_result None 9 (codes "extremes 1 3 where cdp = 5 or sx = 5") ≡ Err Words
unfolding is_utf8 chars encode_utf8
where-or = refl

-- eight conditions are told, and a ninth is one too many
pub eight : has_conditions (words_times 7) ≡ true
eight = refl

pub nine : has_conditions (words_times 8) ≡ false
nine = refl

-- a command of one trace has no conditions, and neither has a `count` without a range
pub where-set_one : line_result None 9 (codes "set 2 sx 7 where cdp = 5") ≡ Err Words
unfolding is_utf8 chars encode_utf8
where-set_one = refl

pub where-delete_one : line_result None 9 (codes "delete 2 where cdp = 5") ≡ Err Words
unfolding is_utf8 chars encode_utf8
where-delete_one = refl

pub where-count_alone : line_result None 9 (codes "count where cdp = 5") ≡ Err Words
unfolding is_utf8 chars encode_utf8
where-count_alone = refl

-- a range alone is not counted
pub count-range : line_result None 9 (codes "count 1 3") ≡ Err Words
unfolding is_utf8 chars encode_utf8
count-range = refl

pub count-all : line_result None 9 (codes "count all") ≡ Err Words
unfolding is_utf8 chars encode_utf8
count-all = refl

-- another sign, from the second condition on
pub where-sign : line_result None 9 (codes "extremes 1 3 where cdp = 5 and sx == 5") ≡ Err Number
unfolding is_utf8 chars encode_utf8
where-sign = refl

-- a number that is none
pub where-number : line_result None 9 (codes "extremes 1 3 where cdp = 5x") ≡ Err Number
unfolding is_utf8 chars encode_utf8
where-number = refl

-- how many words there are comes before what they are, on both sides of `where`
pub where-few_behind : line_result None 9 (codes "extremes x 3 where cdp =") ≡ Err Words
unfolding is_utf8 chars encode_utf8
where-few_behind = refl

pub where-few_in_front : line_result None 9 (codes "extremes 1 where cdp = 5x") ≡ Err Words
unfolding is_utf8 chars encode_utf8
where-few_in_front = refl
