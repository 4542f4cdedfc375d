use Rattle.std.proofs.Common.{◌∙◌, sym, ap, drop, Result, Err}
use Rattle.sample_codes.specs.declared.format.Format.{Format}
use Rattle.sample_codes.specs.declared.format_fault.FormatFault.{FormatFault}
use Rattle.sample_codes.specs.Formats.{format_of}
use Rattle.frame_cut.specs.declared.file_head.Head.{Head}
use Rattle.frame_cut.specs.declared.load_fault.LoadFault.{LoadFault}
use Rattle.frame_cut.specs.BinaryHeader.{format_code}
use Rattle.frame_cut.specs.Heads.{first_fault_else, head_faults, head_by, format_refusal}
use Rattle.frame_cut.proofs.FormatLemmas.{by_code-is, by_format}
use Rattle.frame_cut.proofs.FrontLemmas.{tells_to}
use Rattle.frame_cut.proofs.head_checks.with_revision.Goals as goal

pub returns-in-Ok-clause-told : goal.returns-in-Ok-clause-told
returns-in-Ok-clause-told c = λ all begun.
    let o = c.args.order in
    let bin = c.args.bin.now in
    let code = format_code c.args.reading o bin in
    let more : Result Head LoadFault = first_fault_else (drop 6 (head_faults c.args.reading o bin all)) (head_by c.args.reading o bin all) in
    tells_to c.with_format.result _ _
    (ap (λ (f : Result Format FormatFault). by_format f code more) (c.in-Ok.ensures ∙ ap (format_of c.args.reading.opaque c.args.reading.floats) c.format_code-code.ensures)
    ∙ sym (by_code-is c.args.reading.opaque c.args.reading.floats code more))
    (c.with_format.ensures.told all begun)

pub returns-in-Err-clause-told : goal.returns-in-Err-clause-told
returns-in-Err-clause-told c = λ all begun.
    let o = c.args.order in
    let bin = c.args.bin.now in
    let code = format_code c.args.reading o bin in
    let more : Result Head LoadFault = first_fault_else (drop 6 (head_faults c.args.reading o bin all)) (head_by c.args.reading o bin all) in
    sym (ap (λ (f : LoadFault). let r : Result Head LoadFault = Err f in r) (c.format_refusal.ensures ∙ ap (format_refusal c.in-Err.fault) c.format_code-code.ensures)
    ∙ ap (λ (f : Result Format FormatFault). by_format f code more) (c.in-Err.ensures ∙ ap (format_of c.args.reading.opaque c.args.reading.floats) c.format_code-code.ensures)
    ∙ sym (by_code-is c.args.reading.opaque c.args.reading.floats code more))
