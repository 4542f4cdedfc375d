use Rattle.std.proofs.Common.{rules, sym, ◌∙◌, ◌≡◌, ◌+◌, ◌*◌, ◌-◌, ℕ, ap, ap₂, length, Ok, Result, pos, ℤ, true, false, Err, FitsSigned, w32}
use Rattle.std.specs.Prelude.{◌||◌, ◌&&◌, ◌==◌, not, int_lt}
use Rattle.std.proofs.lemmas.Int.{to_z-of_z}
use Rattle.frame_cut.specs.declared.file_head.Head.{Head}
use Rattle.frame_cut.specs.declared.load_fault.LoadFault.{LoadFault}
use Rattle.frame_cut.specs.declared.load_fault.LoadFault.TheVariants.{FirstTrace, Trailer}
use Rattle.frame_cut.specs.BinaryHeader.{extensions_field, trailer_field}
use Rattle.frame_cut.specs.Heads.{is_trailer_refused, head_by, head_in}
use Rattle.frame_cut.proofs.HeadFrontLemmas.{checks_passed, elsewhere_found, trailer_found, by_blocks, test_of, is_elsewhere}
use Rattle.frame_cut.proofs.head_checks.with_blocks.Goals as goal

pub returns-clause-told : goal.returns-clause-told
returns-clause-told c = λ all long here.
    let extensions_fit : FitsSigned w32 c.extensions-extensions.result = search rules in
    let records_fit : FitsSigned w32 c.trailer-records.result = search rules in
    let o = c.args.order in
    let bin = c.args.bin.now in
    let h : Head = head_by c.args.reading o bin all in
    let extensions : (int_lt (extensions_field o bin) (pos 0) || int_lt (pos 255) (extensions_field o bin)) ≡ false =
    test_of (λ (x : ℤ). int_lt x (pos 0) || int_lt (pos 255) x) c.extensions-extensions.result _ c.is_extensions_refused.result extensions_fit c.extensions-extensions.ensures c.is_extensions_refused.ensures false c.if-is_extensions_refused.false in
    let records : is_trailer_refused (trailer_field o bin) (c.args.left - 3200 * c.from.result) ≡ false =
    test_of (λ (x : ℤ). is_trailer_refused x (c.args.left - 3200 * c.from.result)) c.trailer-records.result _ c.is_trailer_refused.result records_fit c.trailer-records.ensures c.is_trailer_refused.ensures false c.if-is_trailer_refused.false in
    let trailer : is_trailer_refused (trailer_field o bin) (length all - 3200 * c.args.blocks) ≡ false =
    ap₂ (λ (n k : ℕ). is_trailer_refused (trailer_field o bin) (n - 3200 * k)) long (sym c.from.ensures) ∙ records in
    let elsewhere : (not (c.first_trace-first.result == 0) && not (c.first_trace-first.result == (3600 + 3200 * c.from-2.result))) ≡ false = sym c.is_elsewhere.ensures ∙ c.if-is_elsewhere.false in
    let first : is_elsewhere o bin c.args.blocks ≡ false = rw (c.first_trace-first.ensures, c.from-2.ensures) at elsewhere in
    sym (ap (λ (x : Head). let r : Result Head LoadFault = Ok x in r) (c.head_in.ensures ∙ ap₂ (head_in c.args.reading o bin) c.requires.format here)
    ∙ sym (checks_passed o bin all h c.args.blocks extensions trailer first)
    ∙ ap (by_blocks o bin all h) here)

pub returns-then-is_trailer_refused-clause-told : goal.returns-then-is_trailer_refused-clause-told
returns-then-is_trailer_refused-clause-told c = λ all long here.
    let extensions_fit : FitsSigned w32 c.extensions-extensions.result = search rules in
    let records_fit : FitsSigned w32 c.trailer-records.result = search rules in
    let o = c.args.order in
    let bin = c.args.bin.now in
    let h : Head = head_by c.args.reading o bin all in
    let extensions : (int_lt (extensions_field o bin) (pos 0) || int_lt (pos 255) (extensions_field o bin)) ≡ false =
    test_of (λ (x : ℤ). int_lt x (pos 0) || int_lt (pos 255) x) c.extensions-extensions.result _ c.is_extensions_refused.result extensions_fit c.extensions-extensions.ensures c.is_extensions_refused.ensures false c.if-is_extensions_refused.false in
    let records : is_trailer_refused (trailer_field o bin) (c.args.left - 3200 * c.from.result) ≡ true =
    test_of (λ (x : ℤ). is_trailer_refused x (c.args.left - 3200 * c.from.result)) c.trailer-records.result _ c.is_trailer_refused.result records_fit c.trailer-records.ensures c.is_trailer_refused.ensures true c.if-is_trailer_refused.true in
    let trailer : is_trailer_refused (trailer_field o bin) (length all - 3200 * c.args.blocks) ≡ true =
    ap₂ (λ (n k : ℕ). is_trailer_refused (trailer_field o bin) (n - 3200 * k)) long (sym c.from.ensures) ∙ records in
    sym (ap (λ (x : ℤ). let r : Result Head LoadFault = Err (Trailer x) in r) (to_z-of_z w32 c.trailer-records.result records_fit ∙ c.trailer-records.ensures)
    ∙ trailer_found o bin all h c.args.blocks extensions trailer
    ∙ ap (by_blocks o bin all h) here)

pub returns-then-is_elsewhere-clause-told : goal.returns-then-is_elsewhere-clause-told
returns-then-is_elsewhere-clause-told c = λ all long here.
    let extensions_fit : FitsSigned w32 c.extensions-extensions.result = search rules in
    let records_fit : FitsSigned w32 c.trailer-records.result = search rules in
    let o = c.args.order in
    let bin = c.args.bin.now in
    let h : Head = head_by c.args.reading o bin all in
    let extensions : (int_lt (extensions_field o bin) (pos 0) || int_lt (pos 255) (extensions_field o bin)) ≡ false =
    test_of (λ (x : ℤ). int_lt x (pos 0) || int_lt (pos 255) x) c.extensions-extensions.result _ c.is_extensions_refused.result extensions_fit c.extensions-extensions.ensures c.is_extensions_refused.ensures false c.if-is_extensions_refused.false in
    let records : is_trailer_refused (trailer_field o bin) (c.args.left - 3200 * c.from.result) ≡ false =
    test_of (λ (x : ℤ). is_trailer_refused x (c.args.left - 3200 * c.from.result)) c.trailer-records.result _ c.is_trailer_refused.result records_fit c.trailer-records.ensures c.is_trailer_refused.ensures false c.if-is_trailer_refused.false in
    let trailer : is_trailer_refused (trailer_field o bin) (length all - 3200 * c.args.blocks) ≡ false =
    ap₂ (λ (n k : ℕ). is_trailer_refused (trailer_field o bin) (n - 3200 * k)) long (sym c.from.ensures) ∙ records in
    let elsewhere : (not (c.first_trace-first.result == 0) && not (c.first_trace-first.result == (3600 + 3200 * c.from-2.result))) ≡ true = sym c.is_elsewhere.ensures ∙ c.if-is_elsewhere.true in
    let first : is_elsewhere o bin c.args.blocks ≡ true = rw (c.first_trace-first.ensures, c.from-2.ensures) at elsewhere in
    sym (ap (λ (n : ℕ). let r : Result Head LoadFault = Err (FirstTrace n) in r) c.first_trace-first.ensures
    ∙ elsewhere_found o bin all h c.args.blocks extensions trailer first
    ∙ ap (by_blocks o bin all h) here)
