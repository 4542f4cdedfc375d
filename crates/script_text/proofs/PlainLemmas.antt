-- No answer has an empty line: names and texts have no line feed.
use Rattle.std.proofs.Common.{◌≡◌, ◌&&◌, ◌==◌, ◌+◌, ℕ, ℤ, suc, zero, length, List, [], ◌∷◌, ◌++◌, map, drop, Bool, true, false, not, nat_lt, nat_le, bytes_eq, Option, Some, None, Result, Ok, Err, cond, refl, sym, ap, subst, ◌∙◌, arith, inl, inr}
use Rattle.std.specs.Prelude.{⊤, is_none, codes, find, filter_map, option_map, decimal, max, ◌/◌, ◌%◌}
use Rattle.std.specs.List.{list_all, cons_option, prefix_len, range_with_len}
use Rattle.std.specs.Char.{digit_char}
use Rattle.std.proofs.lemmas.Bool.{eqb-true, ne_eqb}
use Rattle.std.proofs.lemmas.List.Folds.{list_all-append}
use Rattle.num_order.specs.Number.{num}
use Rattle.std.specs.Map.{set_value, remove_entry}
use Rattle.text_block.specs.declared.code.Code.{Code}
use Rattle.text_block.specs.declared.code.Code.TheVariants.{Ebcdic, Ascii}
use Rattle.text_block.specs.Characters.{characters, escape_of, shown_as, shown_byte, shown_bytes}
use Rattle.text_block.specs.Blocks.{code_of}
use Rattle.text_block.specs.Lines.{shown_line, line_bytes}
use Rattle.text_block.specs.declared.text_fault.TextFault.{TextFault}
use Rattle.text_block.specs.declared.text_fault.TextFault.TheVariants as text_faults
use Rattle.text_block.specs.Stanzas.{is_parenthesis, up_to_parenthesis, is_stanza, stanza_at, rest_of_stanza, stanzas_behind, stanzas}
use Rattle.field_map.specs.declared.map_fault.MapFault.{MapFault}
use Rattle.field_map.specs.declared.map_fault.MapFault.TheVariants as map_faults
use Rattle.field_map.specs.declared.place.Place.{Place}
use Rattle.field_map.specs.Pairs.{Pairs, is_bound, bound, unbound}
use Rattle.field_map.specs.Binding.{is_name_character, is_name, begins_with_letter}
use Rattle.frame_cut.specs.declared.file_head.Head.{Head}
use Rattle.frame_cut.specs.Traces.{count_of, is_trace, trace_at}
use Rattle.frame_cut.specs.BinaryHeader.{bin_bytes}
use Rattle.frame_cut.specs.Frames.{sample_count}
use Rattle.frame_cut.specs.Parts.{block_of}
use Rattle.frame_cut.specs.Volume.{Volume}
use Rattle.sample_codes.specs.Formats.{values}
use Rattle.trace_view.specs.Values.{value_of, has_floats, sample_of, samples_of}
use Rattle.bench_rules.specs.FloatStatistics.{stat_of}
use Rattle.bench_rules.specs.declared.answer.Answer.{Answer}
use Rattle.bench_rules.specs.declared.answer.Answer.TheVariants as answers
use Rattle.bench_rules.specs.declared.ask_fault.AskFault.{AskFault}
use Rattle.bench_rules.specs.declared.ask_fault.AskFault.TheVariants as ask_faults
use Rattle.bench_rules.specs.declared.ask_fault.AskFault.TheVariants.{NoTrace, NoField, NoPlace, NoSample, NoValues}
use Rattle.bench_rules.specs.declared.chosen.Chosen.{Chosen}
use Rattle.bench_rules.specs.declared.chosen_query.ChosenQuery.{ChosenQuery}
use Rattle.bench_rules.specs.declared.chosen_query.ChosenQuery.TheVariants as chosen_queries
use Rattle.bench_rules.specs.declared.test.Test.{Test}
use Rattle.bench_rules.specs.declared.query.Query.{Query}
use Rattle.bench_rules.specs.declared.query.Query.TheVariants as queries
use Rattle.bench_rules.specs.declared.refusal.Refusal.{Refusal}
use Rattle.bench_rules.specs.declared.refusal.Refusal.TheVariants as refusals
use Rattle.bench_rules.specs.ChosenQueries.{table_of_each, found_of_each, numbers_of_each, asks_for_fields, table_answer_of_each, found_answer_of_each, answer_of_each, answer_of_chosen, answer_under, of_range, chosen_answer}
use Rattle.bench_rules.specs.Conditions.{chosen_among, lacks_values, range_of, tests_of}
use Rattle.bench_rules.specs.ManyTraces.{each_of}
use Rattle.bench_rules.specs.Places.{place_in_trace, place_in_binary, is_in_binary}
use Rattle.bench_rules.specs.Refused.{is_line}
use Rattle.bench_rules.specs.Reports.{geometry_in, totals_in, slice_in}
use Rattle.bench_rules.specs.SampleStatistics.{statistics_of_each}
use Rattle.bench_rules.specs.State.{State}
use Rattle.bench_rules.specs.Headers.{with_name, header_of, extremes_in, header_places, named_places, numbers_at, extremes_unless_zero}
use Rattle.bench_rules.specs.Tables.{table_of, found_of}
use Rattle.bench_rules.specs.Answer.{Reply, IsReply, or_fault, of_trace, of_values, of_traces, trace_value, trace_sample, binary_value, line_answer, lines_answer, table_answer, found_answer, text_blocks, numbered_stanzas, stanzas_from, answer}
use Rattle.script_words.specs.declared.line_fault.LineFault.{LineFault}
use Rattle.script_words.specs.declared.line_fault.LineFault.TheVariants as line_faults
use Rattle.refusal_texts.specs.declared.session_fault.SessionFault.{SessionFault}
use Rattle.refusal_texts.specs.declared.session_fault.SessionFault.TheVariants as session_faults
use Rattle.script_words.specs.Words.{is_line_feed}
use Rattle.script_text.specs.Texts.{is_plain, IsFullLines}
use Rattle.script_text.specs.FullLines.{HasPlainTexts}
use Rattle.refusal_texts.specs.RefusalTexts.{line_fault_text, session_fault_text, no_trace, no_sample, text_fault_text, map_fault_text, refusal_text, ask_fault_text, refused_line}
use Rattle.script_text.specs.Replies.{nothing, fault_reply, session_reply, edit_reply, query_reply}
use Rattle.script_text.proofs.AnswerLineLemmas.{answers_are_full_lines}
use Rattle.script_text.proofs.FullLineLemmas.{plain_both, plain_decimal, plain_first, no_word, word, plain_words, full_joined, one_line}

-- ---- names

-- no name has a line feed
abbrev pub HasPlainNames : Pairs → Type 0
HasPlainNames fields = list_all (λ f. is_plain f.0) fields ≡ true

and_parts : (a b : Bool) → (a && b) ≡ true → (a ≡ true) × (b ≡ true)
and_parts true b e = (refl, e)
and_parts false b e = cc

and_both : (a b : Bool) → a ≡ true → b ≡ true → (a && b) ≡ true
and_both a b e f = cc

plain_character : (c : ℕ) → is_name_character c ≡ true → not (is_line_feed c) ≡ true
plain_character c e = elim (is_line_feed c) as (λ v. is_line_feed c ≡ v → not v ≡ true) [ true ↦ λ f. never c f e | false ↦ λ f. refl ] refl
  where
    never : (c : ℕ) → is_line_feed c ≡ true → is_name_character c ≡ true → false ≡ true
    never c f e = subst (λ (x : ℕ). is_name_character x ≡ true) (eqb-true c 10 f) e

plain_characters : (cs : List ℕ) → list_all is_name_character cs ≡ true → is_plain cs ≡ true
plain_characters [] e = refl
plain_characters (c ∷ cs) e =
    let both = and_parts (is_name_character c) (list_all is_name_character cs) e in
    and_both (not (is_line_feed c)) (is_plain cs) (plain_character c both.0) (plain_characters cs both.1)

pub plain_name : (name : List ℕ) → is_name name ≡ true → is_plain name ≡ true
plain_name name e =
    let first = and_parts (begins_with_letter name && list_all is_name_character name) (nat_le (length name) 24) e in
    plain_characters name (and_parts (begins_with_letter name) (list_all is_name_character name) first.0).1

value_set : (test : List ℕ → Bool) (fields : Pairs) (place : Place) → HasPlainNames fields → HasPlainNames (set_value test fields place)
value_set test [] place h = refl
value_set test (f ∷ fs) place h =
    let both = and_parts (is_plain f.0) (list_all (λ g. is_plain g.0) fs) h in
    elim (test f.0) as (λ v. HasPlainNames (cond v ((f.0, place) ∷ fs) (f ∷ set_value test fs place)))
    [ true ↦ h | false ↦ and_both (is_plain f.0) (list_all (λ g. is_plain g.0) (set_value test fs place)) both.0 (value_set test fs place both.1) ]

entry_removed : (test : List ℕ → Bool) (fields : Pairs) → HasPlainNames fields → HasPlainNames (remove_entry test fields)
entry_removed test [] h = refl
entry_removed test (f ∷ fs) h =
    let both = and_parts (is_plain f.0) (list_all (λ g. is_plain g.0) fs) h in
    elim (test f.0) as (λ v. HasPlainNames (cond v fs (f ∷ remove_entry test fs)))
    [ true ↦ both.1 | false ↦ and_both (is_plain f.0) (list_all (λ g. is_plain g.0) (remove_entry test fs)) both.0 (entry_removed test fs both.1) ]

name_last : (fields : Pairs) (name : List ℕ) (place : Place) → is_plain name ≡ true → HasPlainNames fields → HasPlainNames (fields ++ (name, place) ∷ [])
name_last [] name place e h = and_both (is_plain name) true e refl
name_last (f ∷ fs) name place e h =
    let both = and_parts (is_plain f.0) (list_all (λ g. is_plain g.0) fs) h in
    and_both (is_plain f.0) (list_all (λ g. is_plain g.0) (fs ++ (name, place) ∷ [])) both.0 (name_last fs name place e both.1)

pub plain_bound : (fields : Pairs) (name : List ℕ) (place : Place) → is_plain name ≡ true → HasPlainNames fields → HasPlainNames (bound fields name place)
plain_bound fields name place e h =
    elim (is_bound fields name) as (λ v. HasPlainNames (cond v (set_value (bytes_eq name) fields place) (fields ++ (name, place) ∷ [])))
    [ true ↦ value_set (bytes_eq name) fields place h | false ↦ name_last fields name place e h ]

pub plain_unbound : (fields : Pairs) (name : List ℕ) → HasPlainNames fields → HasPlainNames (unbound fields name)
plain_unbound fields name h = entry_removed (bytes_eq name) fields h

-- ---- shown texts

found_plain : (test : ℕ × ℕ → Bool) (table : List (ℕ × ℕ)) (byte : ℕ) → list_all (λ e. not (is_line_feed e.1)) table ≡ true
    → is_plain (shown_as (option_map (λ e. e.1) (find test table)) byte) ≡ true
found_plain test [] byte h = plain_escape byte
  where
    plain_digit : (d : ℕ) → not (is_line_feed (digit_char d)) ≡ true
    plain_digit d =
        elim (nat_lt d 10) as (λ v. not (is_line_feed (cond v (48 + d) (87 + d))) ≡ true)
        [ true ↦ ap not (ne_eqb (48 + d) 10 (λ e. absurd (omega (arith, e)))) | false ↦ ap not (ne_eqb (87 + d) 10 (λ e. absurd (omega (arith, e)))) ]

    plain_escape : (byte : ℕ) → is_plain (escape_of byte) ≡ true
    plain_escape byte = and_both (not (is_line_feed (digit_char (byte / 16)))) (not (is_line_feed (digit_char (byte % 16))) && true) (plain_digit (byte / 16)) (and_both (not (is_line_feed (digit_char (byte % 16)))) true (plain_digit (byte % 16)) refl)
found_plain test (e ∷ es) byte h =
    let both = and_parts (not (is_line_feed e.1)) (list_all (λ g. not (is_line_feed g.1)) es) h in
    elim (test e) as (λ v. is_plain (shown_as (option_map (λ g. g.1) (cond v (Some e) (find test es))) byte) ≡ true)
    [ true ↦ and_both (not (is_line_feed e.1)) true both.0 refl | false ↦ found_plain test es byte both.1 ]

plain_table : (code : Code) → list_all (λ e. not (is_line_feed e.1)) (characters code) ≡ true
plain_table Ebcdic = refl
plain_table Ascii = refl

plain_shown : (code : Code) (bytes : List ℕ) → is_plain (shown_bytes code bytes) ≡ true
plain_shown code [] = refl
plain_shown code (b ∷ bs) = plain_both (shown_byte code b) (shown_bytes code bs) (found_plain (λ e. e.0 == b) (characters code) b (plain_table code)) (plain_shown code bs)

pub plain_line : (block : List ℕ) (q : ℕ) → is_plain (shown_line block q) ≡ true
plain_line block q = plain_shown (code_of block) (line_bytes block q)

pub plain_block : (block : List ℕ) → is_plain (shown_bytes (code_of block) block) ≡ true
plain_block block = plain_shown (code_of block) block

-- ---- stanzas

plain_behind : (n : ℕ) (xs : List ℕ) → is_plain xs ≡ true → is_plain (drop n xs) ≡ true
plain_behind zero xs e = e
plain_behind (suc n) [] e = refl
plain_behind (suc n) (x ∷ xs) e = plain_behind n xs (and_parts (not (is_line_feed x)) (is_plain xs) e).1

plain_if : (b : Bool) (name : List ℕ) (names : List (List ℕ)) → is_plain name ≡ true → list_all is_plain names ≡ true → list_all is_plain (cons_option (cond b (Some name) None) names) ≡ true
plain_if true name names e f = and_both (is_plain name) (list_all is_plain names) e f
plain_if false name names e f = f

plain_stanzas : (inside : ℕ) (text : List ℕ) → is_plain text ≡ true → list_all is_plain (stanzas_behind inside text) ≡ true
plain_stanzas inside [] e = refl
plain_stanzas (suc inside) (c ∷ cs) e = plain_stanzas inside cs (and_parts (not (is_line_feed c)) (is_plain cs) e).1
plain_stanzas zero (c ∷ cs) e =
    let name : List ℕ = up_to_parenthesis (drop 2 (c ∷ cs)) in
    let rest : is_plain (drop 2 (c ∷ cs)) ≡ true = plain_behind 2 (c ∷ cs) e in
    plain_if (is_stanza (c ∷ cs) name) name (stanzas_behind (rest_of_stanza (stanza_at (c ∷ cs))) cs)
    (plain_first (prefix_len (λ d. not (is_parenthesis d)) (drop 2 (c ∷ cs))) (drop 2 (c ∷ cs)) rest)
    (plain_stanzas (rest_of_stanza (stanza_at (c ∷ cs))) cs (and_parts (not (is_line_feed c)) (is_plain cs) e).1)

numbered_plain : (number : ℕ) (names : List (List ℕ)) → list_all is_plain names ≡ true → list_all (λ (s : ℕ × List ℕ). is_plain s.1) (map (λ (name : List ℕ). (number, name)) names) ≡ true
numbered_plain number [] e = refl
numbered_plain number (x ∷ xs) e =
    let both = and_parts (is_plain x) (list_all is_plain xs) e in
    and_both (is_plain x) (list_all (λ (s : ℕ × List ℕ). is_plain s.1) (map (λ (name : List ℕ). (number, name)) xs)) both.0 (numbered_plain number xs both.1)

pub plain_stanzas_from : (number : ℕ) (blocks : List (List ℕ)) → list_all (λ (s : ℕ × List ℕ). is_plain s.1) (stanzas_from number blocks) ≡ true
plain_stanzas_from number [] = refl
plain_stanzas_from number (b ∷ bs) =
    list_all-append (λ (s : ℕ × List ℕ). is_plain s.1) (numbered_stanzas number b) (stanzas_from (number + 1) bs)
    ∙ and_both (list_all (λ (s : ℕ × List ℕ). is_plain s.1) (numbered_stanzas number b)) (list_all (λ (s : ℕ × List ℕ). is_plain s.1) (stanzas_from (number + 1) bs))
    (numbered_plain number (stanzas b) (plain_stanzas 0 (shown_bytes (code_of b) b) (plain_block b))) (plain_stanzas_from (number + 1) bs)

-- ---- names with what there is for them

with_plain_name : {X : Type 0} (name : List ℕ) (x : Option X) (xs : List (List ℕ × X)) → is_plain name ≡ true → list_all (λ f. is_plain f.0) xs ≡ true
    → list_all (λ f. is_plain f.0) (cons_option (with_name name x) xs) ≡ true
with_plain_name name None xs e f = f
with_plain_name name (Some x) xs e f = and_both (is_plain name) (list_all (λ g. is_plain g.0) xs) e f

plain_names : {X : Type 0} (of : List ℕ × Place → Option X) (names : Pairs) → HasPlainNames names → list_all (λ f. is_plain f.0) (filter_map (λ e. with_name e.0 (of e)) names) ≡ true
plain_names of [] h = refl
plain_names of (e ∷ es) h =
    let both = and_parts (is_plain e.0) (list_all (λ g. is_plain g.0) es) h in
    with_plain_name e.0 (of e) (filter_map (λ g. with_name g.0 (of g)) es) both.0 (plain_names of es both.1)

plain_places : (fields : Pairs) → HasPlainNames fields → HasPlainNames (named_places fields)
unfolding named_places header_places
plain_places fields h = list_all-append (λ f. is_plain f.0) (header_places fields) fields ∙ and_both (list_all (λ f. is_plain f.0) (header_places fields)) (list_all (λ f. is_plain f.0) fields) refl h

plain_lines : (block : List ℕ) (qs : List ℕ) → list_all is_plain (map (shown_line block) qs) ≡ true
plain_lines block [] = refl
plain_lines block (q ∷ qs) = and_both (is_plain (shown_line block q)) (list_all is_plain (map (shown_line block) qs)) (plain_line block q) (plain_lines block qs)

-- ---- answers

-- an answer has plain texts, or there is none
abbrev PlainReply : Result Answer AskFault → Type 0
PlainReply (Ok answer) = HasPlainTexts answer
PlainReply (Err fault) = ⊤

plain_or_fault : {X : Type 0} (o : Option X) (fault : AskFault) (f : X → Answer) → ((x : X) → HasPlainTexts (f x)) → PlainReply (or_fault o fault f)
plain_or_fault None fault f h = tt
plain_or_fault (Some x) fault f h = h x

plain_of_trace : (v : Volume) (p : ℕ) (f : List ℕ → Reply) → ((t : List ℕ) → PlainReply (f t)) → PlainReply (of_trace v p f)
plain_of_trace v p f h = elim (is_trace v p) as (λ b. PlainReply (cond b (f (trace_at v p)) (Err (NoTrace p (count_of v))))) [ true ↦ h (trace_at v p) | false ↦ tt ]

plain_of_values : (h : Head) (reply : Reply) → PlainReply reply → PlainReply (of_values h reply)
plain_of_values h reply fine = elim (is_none (values h.format)) as (λ b. PlainReply (cond b (Err NoValues) reply)) [ true ↦ tt | false ↦ fine ]

plain_value : (h : Head) (t : List ℕ) (place : Option Place) → PlainReply (trace_value h t place)
plain_value h t None = tt
plain_value h t (Some place) = plain_or_fault (value_of h t place) NoPlace answers.Value (λ x. tt)

plain_binary : (v : Volume) (place : Option Place) → PlainReply (binary_value v place)
plain_binary v None = tt
plain_binary v (Some place) =
    elim (is_in_binary place) as (λ b. PlainReply (cond b (Ok (answers.Value (num v.head.order place.kind (bin_bytes place.byte place.kind.size v.bin)))) (Err NoPlace)))
    [ true ↦ tt | false ↦ tt ]

plain_line_answer : (block : Option (List ℕ)) (q : ℕ) → PlainReply (line_answer block q)
plain_line_answer block q =
    elim (not (is_line q)) as (λ b. PlainReply (cond b (Err NoPlace) (or_fault block NoPlace (λ x. answers.Line (shown_line x q)))))
    [ true ↦ tt | false ↦ plain_or_fault block NoPlace (λ x. answers.Line (shown_line x q)) (λ x. plain_line x q) ]

plain_of_traces : (v : Volume) (a b : ℕ) (reply : Reply) → PlainReply reply → PlainReply (of_traces v a b reply)
plain_of_traces v a b reply h =
    elim (not (is_trace v a)) as (λ x. PlainReply (cond x (Err (NoTrace a (count_of v))) (cond (nat_le a b && nat_le b (count_of v)) reply (Err (NoTrace b (count_of v)))))) [
      | true ↦ tt
      | false ↦ elim (nat_le a b && nat_le b (count_of v)) as (λ x. PlainReply (cond x reply (Err (NoTrace b (count_of v))))) [ true ↦ h | false ↦ tt ]
    ]

plain_lines_answer : (block : Option (List ℕ)) → PlainReply (lines_answer block)
plain_lines_answer block = plain_or_fault block NoPlace (λ t. answers.Lines (map (shown_line t) (range_with_len 1 40))) (λ t. plain_lines t (range_with_len 1 40))

plain_table_answer : (v : Volume) (a b : ℕ) (places : Option (List Place)) → PlainReply (table_answer v a b places)
plain_table_answer v a b None = tt
plain_table_answer v a b (Some places) = plain_or_fault (table_of v places a b) NoPlace answers.Table (λ x. tt)

plain_found_answer : (v : Volume) (a b : ℕ) (low high : ℤ) (place : Option Place) → PlainReply (found_answer v a b low high place)
plain_found_answer v a b low high None = tt
plain_found_answer v a b low high (Some place) = plain_or_fault (found_of v place low high a b) NoPlace answers.Found (λ x. tt)

-- ---- answers of chosen traces

plain_table_of_each : (v : Volume) (ps : List ℕ) (places : Option (List Place)) → PlainReply (table_answer_of_each v ps places)
plain_table_of_each v ps None = tt
plain_table_of_each v ps (Some places) = plain_or_fault (table_of_each v places ps) NoPlace answers.Table (λ x. tt)

plain_found_of_each : (v : Volume) (ps : List ℕ) (low high : ℤ) (place : Option Place) → PlainReply (found_answer_of_each v ps low high place)
plain_found_of_each v ps low high None = tt
plain_found_of_each v ps low high (Some place) = plain_or_fault (found_of_each v place low high ps) NoPlace answers.Found (λ x. tt)

-- statistics have no text
plain_stats : (floats : Bool) (v : Volume) (ps : List ℕ) → HasPlainTexts (statistics_of_each floats v ps)
plain_stats true v ps = tt
plain_stats false v ps = tt

plain_of_each : (v : Volume) (fields : Pairs) → HasPlainNames fields → (query : ChosenQuery) (ps : List ℕ) → PlainReply (answer_of_each v fields query ps)
plain_of_each v fields h chosen_queries.Count ps = tt
plain_of_each v fields h (chosen_queries.Table names) ps = plain_table_of_each v ps (each_of (place_in_trace fields) names)
plain_of_each v fields h (chosen_queries.Find field low high) ps = plain_found_of_each v ps low high (place_in_trace fields field)
plain_of_each v fields h chosen_queries.Extremes ps = plain_names (λ e. extremes_unless_zero (numbers_of_each v e.1 ps)) (named_places fields) (plain_places fields h)
plain_of_each v fields h chosen_queries.Stats ps = plain_of_values v.head (Ok (statistics_of_each (has_floats v.head) v ps)) (plain_stats (has_floats v.head) v ps)
plain_of_each v fields h (chosen_queries.Samples range) ps = plain_of_values v.head (Ok (answers.Section (record { traces = ps; samples = range }))) tt

plain_of_chosen : (v : Volume) (fields : Pairs) → HasPlainNames fields → (query : ChosenQuery) (ps : Option (List ℕ)) → PlainReply (answer_of_chosen v fields query ps)
plain_of_chosen v fields h query None = tt
plain_of_chosen v fields h query (Some ps) = plain_of_each v fields h query ps

plain_under : (v : Volume) (fields : Pairs) → HasPlainNames fields → (range : Option (ℕ × ℕ)) (query : ChosenQuery) (tests : Option (List Test)) → PlainReply (answer_under v fields range query tests)
plain_under v fields h range query None = tt
plain_under v fields h range query (Some tests) =
    elim (lacks_values v.head.format tests) as (λ b. PlainReply (cond b (Err NoValues) (answer_of_chosen v fields query (chosen_among v tests (range_of range)))))
    [ true ↦ tt | false ↦ plain_of_chosen v fields h query (chosen_among v tests (range_of range)) ]

plain_of_range : (v : Volume) (range : Option (ℕ × ℕ)) (reply : Reply) → PlainReply reply → PlainReply (of_range v range reply)
plain_of_range v None reply h = h
plain_of_range v (Some r) reply h = plain_of_traces v r.0 r.1 reply h

plain_chosen : (v : Volume) (fields : Pairs) → HasPlainNames fields → (c : Chosen) (query : ChosenQuery) → PlainReply (chosen_answer v fields c query)
plain_chosen v fields h c query =
    plain_of_range v c.traces (cond (not (asks_for_fields fields query)) (Err NoField) (answer_under v fields c.traces query (tests_of fields c.conditions)))
    (elim (not (asks_for_fields fields query)) as (λ b. PlainReply (cond b (Err NoField) (answer_under v fields c.traces query (tests_of fields c.conditions))))
    [ true ↦ tt | false ↦ plain_under v fields h c.traces query (tests_of fields c.conditions) ])

-- ---- all answers

-- statistics have no text
plain_stat : (floats : Bool) (vs : List ℤ) → HasPlainTexts (stat_of floats vs)
plain_stat true vs = tt
plain_stat false vs = tt

plain_answer : (s : State) (query : Query) → HasPlainNames s.fields → PlainReply (answer s query)
plain_answer s queries.Count h = tt
plain_answer s queries.Info h = tt
plain_answer s (queries.Get p field) h = plain_of_trace s.volume p (λ t. trace_value s.volume.head t (place_in_trace s.fields field)) (λ t. plain_value s.volume.head t (place_in_trace s.fields field))
plain_answer s (queries.GetBin field) h = plain_binary s.volume (place_in_binary field)
plain_answer s (queries.Line b q) h = plain_line_answer (block_of s.volume b) q
plain_answer s (queries.Code b) h = plain_or_fault (block_of s.volume b) NoPlace (λ x. answers.Code (code_of x)) (λ x. tt)
plain_answer s queries.Stanzas h = plain_stanzas_from 1 (text_blocks s.volume)
plain_answer s queries.Fields h = h
plain_answer s (queries.Sample p k) h =
    plain_of_trace s.volume p (λ t. trace_sample s.volume.head t k)
    (λ t.
    plain_of_values s.volume.head (or_fault (sample_of s.volume.head t k) (NoSample (max k (sample_count s.volume.head t)) (sample_count s.volume.head t)) answers.Value)
    (plain_or_fault (sample_of s.volume.head t k) (NoSample (max k (sample_count s.volume.head t)) (sample_count s.volume.head t)) answers.Value (λ x. tt)))
plain_answer s (queries.Geometry p) h = plain_or_fault (geometry_in s p) (NoTrace p (count_of s.volume)) answers.Geometry (λ x. tt)
plain_answer s (queries.Stat p) h =
    plain_of_trace s.volume p (λ t. of_values s.volume.head (Ok (stat_of (has_floats s.volume.head) (samples_of s.volume.head t))))
    (λ t. plain_of_values s.volume.head (Ok (stat_of (has_floats s.volume.head) (samples_of s.volume.head t))) (plain_stat (has_floats s.volume.head) (samples_of s.volume.head t)))
plain_answer s (queries.Fold i c) h = tt
plain_answer s queries.Grid h = tt
plain_answer s queries.Inlines h = tt
plain_answer s queries.Crosslines h = tt
plain_answer s queries.Histogram h = tt
plain_answer s (queries.Range quantity) h = tt
plain_answer s queries.Totals h = plain_of_values s.volume.head (Ok (answers.Totals (totals_in s))) tt
plain_answer s (queries.Slice k) h = plain_of_values s.volume.head (Ok (answers.Slice (slice_in s k))) tt
plain_answer s queries.Faults h = tt
plain_answer s queries.Problems h = tt
plain_answer s queries.Survey h = tt
plain_answer s (queries.Lines b) h = plain_lines_answer (block_of s.volume b)
plain_answer s (queries.Table a b fields) h =
    plain_of_traces s.volume a b (table_answer s.volume a b (each_of (place_in_trace s.fields) fields)) (plain_table_answer s.volume a b (each_of (place_in_trace s.fields) fields))
plain_answer s (queries.Find a b field low high) h =
    plain_of_traces s.volume a b (found_answer s.volume a b low high (place_in_trace s.fields field)) (plain_found_answer s.volume a b low high (place_in_trace s.fields field))
plain_answer s (queries.Header p) h =
    plain_of_trace s.volume p (λ t. Ok (answers.Header (header_of s.volume.head (named_places s.fields) t)))
    (λ t. plain_names (λ e. value_of s.volume.head t e.1) (named_places s.fields) (plain_places s.fields h))
plain_answer s (queries.Extremes a b) h =
    plain_of_traces s.volume a b (Ok (answers.Extremes (extremes_in s.volume (named_places s.fields) a b)))
    (plain_names (λ e. extremes_unless_zero (numbers_at s.volume e.1 a b)) (named_places s.fields) (plain_places s.fields h))
plain_answer s (queries.OfChosen c query) h = plain_chosen s.volume s.fields h c query

-- ---- what is printed

pub refused_full : (text : List ℕ) → is_plain text ≡ true → IsFullLines (refused_line text)
refused_full text e = one_line (codes "refused " ++ text) (full_joined (codes "refused ") refl (word text e no_word))

plain_line_fault : (fault : LineFault) → is_plain (line_fault_text fault) ≡ true
plain_line_fault line_faults.Unknown = refl
plain_line_fault line_faults.Words = refl
plain_line_fault line_faults.Number = refl
plain_line_fault line_faults.TooLarge = refl
plain_line_fault line_faults.NotText = refl
plain_line_fault line_faults.OutOfMemory = refl

plain_session_fault : (fault : SessionFault) → is_plain (session_fault_text fault) ≡ true
plain_session_fault session_faults.CutOff = refl
plain_session_fault session_faults.NoOut = refl
plain_session_fault (session_faults.SaveFailed written) = plain_words (word (codes "S08 save failed after") refl (word (decimal written) (plain_decimal written) (word (codes "bytes") refl no_word)))

plain_no_trace : (p count : ℕ) → is_plain (no_trace p count) ≡ true
plain_no_trace p count = plain_words (word (codes "E01 no trace") refl (word (decimal p) (plain_decimal p) (word (codes "of") refl (word (decimal count) (plain_decimal count) no_word))))

plain_no_sample : (k number : ℕ) → is_plain (no_sample k number) ≡ true
plain_no_sample k number = plain_words (word (codes "E05 no sample") refl (word (decimal k) (plain_decimal k) (word (codes "of") refl (word (decimal number) (plain_decimal number) no_word))))

plain_text_fault : (fault : TextFault) → is_plain (text_fault_text fault) ≡ true
plain_text_fault text_faults.TooLong = refl
plain_text_fault (text_faults.NoCode column) = plain_both (codes "E07 T02 no code for column ") (decimal column) refl (plain_decimal column)

plain_map_fault : (fault : MapFault) → is_plain (map_fault_text fault) ≡ true
plain_map_fault map_faults.BadName = refl
plain_map_fault map_faults.OutsideHeader = refl
plain_map_fault map_faults.BadKind = refl
plain_map_fault map_faults.Full = refl
plain_map_fault map_faults.Geometry = refl
plain_map_fault map_faults.Unknown = refl
plain_map_fault map_faults.Standard = refl
plain_map_fault map_faults.OutOfMemory = refl

plain_refusal : (refusal : Refusal) → is_plain (refusal_text refusal) ≡ true
plain_refusal (refusals.NoTrace p count) = plain_no_trace p count
plain_refusal refusals.NoField = refl
plain_refusal refusals.NoPlace = refl
plain_refusal refusals.DoesNotFit = refl
plain_refusal (refusals.NoSample k number) = plain_no_sample k number
plain_refusal refusals.Frame = refl
plain_refusal (refusals.Text fault) = plain_text_fault fault
plain_refusal (refusals.Map fault) = plain_map_fault fault
plain_refusal refusals.TooLarge = refl
plain_refusal refusals.TooManyTraces = refl
plain_refusal refusals.OutOfMemory = refl
plain_refusal refusals.NoValues = refl
plain_refusal (refusals.ZeroDivisor p) = plain_words (word (codes "E13 zero divisor trace") refl (word (decimal p) (plain_decimal p) no_word))
plain_refusal refusals.ReadFailed = refl
plain_refusal refusals.FileChanged = refl

pub plain_ask_fault : (fault : AskFault) → is_plain (ask_fault_text fault) ≡ true
plain_ask_fault (ask_faults.NoTrace p count) = plain_no_trace p count
plain_ask_fault ask_faults.NoField = refl
plain_ask_fault ask_faults.NoPlace = refl
plain_ask_fault (ask_faults.NoSample k number) = plain_no_sample k number
plain_ask_fault ask_faults.OutOfMemory = refl
plain_ask_fault ask_faults.NoValues = refl
plain_ask_fault ask_faults.ReadFailed = refl
plain_ask_fault ask_faults.FileChanged = refl

pub nothing_full : IsFullLines (nothing.text)
nothing_full = record { lines = []; text_is = refl; full = refl }

pub fault_full : (fault : LineFault) → IsFullLines (fault_reply fault).text
fault_full fault = refused_full (line_fault_text fault) (plain_line_fault fault)

pub session_full : (reply : Result ℕ SessionFault) → IsFullLines (session_reply reply).text
session_full (Ok bytes) = one_line (codes "saved " ++ decimal bytes) (full_joined (codes "saved ") refl (word (decimal bytes) (plain_decimal bytes) no_word))
session_full (Err fault) = refused_full (session_fault_text fault) (plain_session_fault fault)

pub edit_full : (reply : Result (Option ℕ) Refusal) → IsFullLines (edit_reply reply).text
edit_full (Ok None) = one_line (codes "ok") refl
edit_full (Ok (Some n)) = one_line (codes "ok " ++ decimal n) (full_joined (codes "ok ") refl (word (decimal n) (plain_decimal n) no_word))
edit_full (Err fault) = refused_full (refusal_text fault) (plain_refusal fault)

pub reply_full : (reply : Reply) → PlainReply reply → IsFullLines (query_reply reply).text
reply_full (Ok a) h = answers_are_full_lines a h
reply_full (Err fault) h = refused_full (ask_fault_text fault) (plain_ask_fault fault)

pub query_full : (s : State) (query : Query) (reply : Reply) → HasPlainNames s.fields → IsReply s query reply → IsFullLines (query_reply reply).text
query_full s query reply h (inl is) = reply_full reply (subst PlainReply (sym is) (plain_answer s query h))
query_full s query reply h (inr (inl (is, may))) = subst (λ r. IsFullLines (query_reply r).text) (sym is) (reply_full (Err ask_faults.OutOfMemory) tt)
query_full s query (Ok a) h (inr (inr read)) = absurd read
query_full s query (Err fault) h (inr (inr read)) = reply_full (Err fault) tt
