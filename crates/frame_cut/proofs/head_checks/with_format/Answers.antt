use Rattle.std.proofs.Common.{rules, ◌≡◌, ◌∙◌, ap, ℕ, ℤ, drop, Option, Some, Result, Err, FitsSigned, sym, to_z, of_z, w16}
use Rattle.std.specs.Prelude.{unwrap_or}
use Rattle.std.proofs.lemmas.Int.{to_z-of_z}
use Rattle.frame_cut.specs.declared.file_head.Head.{Head}
use Rattle.frame_cut.specs.declared.load_fault.LoadFault.{LoadFault}
use Rattle.frame_cut.specs.declared.load_fault.LoadFault.TheVariants.{TextCount}
use Rattle.frame_cut.specs.BinaryHeader.{text_count}
use Rattle.frame_cut.specs.Heads.{first_fault_else, head_faults, head_by, blocks_for}
use Rattle.frame_cut.proofs.FrontLemmas.{tells_to}
use Rattle.frame_cut.proofs.HeadFrontLemmas.{text_found, text_missing}
use Rattle.frame_cut.proofs.head_checks.with_format.Goals as goal

pub returns-in-Some-Some-clause-told : goal.returns-in-Some-Some-clause-told
returns-in-Some-Some-clause-told c = λ all begun.
    let o = c.args.order in
    let bin = c.args.bin.now in
    let fits : FitsSigned w16 c.text_count-count.result = search rules in
    let count : to_z w16 (of_z w16 c.text_count-count.result) ≡ text_count c.args.reading o bin = to_z-of_z w16 c.text_count-count.result fits ∙ c.text_count-count.ensures in
    let more : Result Head LoadFault = first_fault_else (drop 7 (head_faults c.args.reading o bin all)) (head_by c.args.reading o bin all) in
    let found : Some c.in-Some-Some.blocks ≡ blocks_for (text_count c.args.reading o bin) all = sym c.in-Some-Some.field-0-is ∙ c.in-Some-Some.ensures.told all begun ∙ ap (λ (x : ℤ). blocks_for x all) count in
    tells_to c.with_blocks.result _ _
    (text_found (blocks_for (text_count c.args.reading o bin) all) c.in-Some-Some.blocks (TextCount (text_count c.args.reading o bin)) more found)
    (c.with_blocks.ensures.told all begun.long (ap (λ (m : Option ℕ). unwrap_or m 0) found))

pub returns-in-Some-None-clause-told : goal.returns-in-Some-None-clause-told
returns-in-Some-None-clause-told c = λ all begun.
    let o = c.args.order in
    let bin = c.args.bin.now in
    let fits : FitsSigned w16 c.text_count-count.result = search rules in
    let count : to_z w16 (of_z w16 c.text_count-count.result) ≡ text_count c.args.reading o bin = to_z-of_z w16 c.text_count-count.result fits ∙ c.text_count-count.ensures in
    let more : Result Head LoadFault = first_fault_else (drop 7 (head_faults c.args.reading o bin all)) (head_by c.args.reading o bin all) in
    sym (ap (λ (x : ℤ). let r : Result Head LoadFault = Err (TextCount x) in r) count
    ∙ text_missing (blocks_for (text_count c.args.reading o bin) all) (TextCount (text_count c.args.reading o bin)) more
    (sym c.in-Some-None.field-0-is ∙ c.in-Some-None.ensures.told all begun ∙ ap (λ (x : ℤ). blocks_for x all) count))
