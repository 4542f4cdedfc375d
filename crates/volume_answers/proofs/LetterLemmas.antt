-- The lines of a block that begin with the letter C as they are shown.
use Rattle.std.proofs.Common.{◌≡◌, ◌∙◌, ◌+◌, ◌-◌, ◌*◌, ◌<◌, ℕ, Bool, true, false, List, ◌∷◌, ◌++◌, length, take, drop, bytes_eq, slice_index_or, get_or, take_all, refl, sym, ap, arith, drop-cons, add-one}
use Rattle.std.specs.Prelude.{codes, count_by, ◌==◌, Option, Some, None}
use Rattle.std.specs.List.{range_with_len}
use Rattle.std.proofs.lemmas.Bool.{agree_below_at}
use Rattle.std.proofs.lemmas.List.Sums.{count_by_more_yes, count_by_more_no}
use Rattle.std.proofs.lemmas.List.FromFn.{length-range_with_len, get_or-range_with_len}
use Rattle.bench_rules.specs.Letters.{letter_c}
use Rattle.text_block.specs.declared.code.Code.{Code}
use Rattle.text_block.specs.declared.code.Code.TheVariants.{Ebcdic, Ascii}
use Rattle.text_block.specs.Blocks.{code_of}
use Rattle.text_block.specs.Characters.{character_of, shown_as, shown_byte, shown_bytes}
use Rattle.text_block.specs.Lines.{shown_line}

-- a text begins with C
abbrev pub begins_with_c : List ℕ → Bool
begins_with_c text = bytes_eq (take 1 text) (codes "C")

c_alone : (code : Code) (b : ℕ) → b < 256 → begins_with_c (shown_byte code b) ≡ (b == letter_c code)
c_alone Ebcdic b l = agree_below_at (λ x. begins_with_c (shown_byte Ebcdic x)) (λ x. x == 0xC3) 256 b refl l
c_alone Ascii b l = agree_below_at (λ x. begins_with_c (shown_byte Ascii x)) (λ x. x == 0x43) 256 b refl l

first_of : (o : Option ℕ) (b : ℕ) (rest : List ℕ) → begins_with_c (shown_as o b ++ rest) ≡ begins_with_c (shown_as o b)
first_of None b rest = refl
first_of (Some c) b rest = refl

-- bytes begin with C as they are shown where the first is its byte
shown_c : (code : Code) (b : ℕ) (bs : List ℕ) → b < 256 → begins_with_c (shown_bytes code (b ∷ bs)) ≡ (b == letter_c code)
shown_c code b bs l = first_of (character_of code b) b (shown_bytes code bs) ∙ c_alone code b l

-- the line behind so many lines begins with C where its first byte is that of the letter
pub line_c : (block : List ℕ) (before : ℕ) → 80 * before < length block → slice_index_or block (80 * before) 0 < 256
    → begins_with_c (shown_line block (before + 1)) ≡ (slice_index_or block (80 * before) 0 == letter_c (code_of block))
line_c block before there small =
    let place : before + 1 - 1 ≡ before = omega arith in
    let first : drop (80 * before) block ≡ slice_index_or block (80 * before) 0 ∷ drop (80 * before + 1) block = drop-cons block (80 * before) 0 there ∙ ap (λ n. slice_index_or block (80 * before) 0 ∷ drop n block) (sym (add-one (80 * before))) in
    ap (λ n. begins_with_c (shown_bytes (code_of block) (take 80 (drop (80 * n) block)))) place
    ∙ ap (λ bs. begins_with_c (shown_bytes (code_of block) (take 80 bs))) first
    ∙ shown_c (code_of block) (slice_index_or block (80 * before) 0) (take 79 (drop (80 * before + 1) block)) small

-- one line more that is counted, and one that is not
pub one_line : (f : ℕ → Bool) (before lines count : ℕ) → before < lines → count ≡ count_by f (take before (range_with_len 1 lines))
    → (f (before + 1) ≡ true → count + 1 ≡ count_by f (take (before + 1) (range_with_len 1 lines))) × (f (before + 1) ≡ false → count ≡ count_by f (take (before + 1) (range_with_len 1 lines)))
one_line f before lines count l told =
    let there : before < length (range_with_len 1 lines) = rw (length-range_with_len 1 lines) l in
    let at : get_or (range_with_len 1 lines) before 0 ≡ before + 1 = get_or-range_with_len 1 lines before 0 l ∙ omega arith in
    ((λ h. ap (λ n. n + 1) told ∙ sym (count_by_more_yes f (range_with_len 1 lines) before 0 there (ap f at ∙ h))), (λ h. told ∙ sym (count_by_more_no f (range_with_len 1 lines) before 0 there (ap f at ∙ h))))

-- all of the lines
pub all_lines : (lines : ℕ) → take lines (range_with_len 1 lines) ≡ range_with_len 1 lines
all_lines lines = take_all lines (range_with_len 1 lines) (omega (arith, length-range_with_len 1 lines))
