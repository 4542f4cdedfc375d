use Rattle.std.proofs.Common.{ap, sym, ◌∙◌, subst, Some, ◌<◌, length, All}
use Rattle.float_text.specs.Words.{reading_of}
use Rattle.float_text.specs.Texts.{text_format, shown, reader, has_point_zero}
use Rattle.float_text.proofs.LawLemmas.{reads_back}
use Rattle.float_text.proofs.TextLemmas.{text_reading, text_no_space, text_some, either_text, nan_read, whole_kept}
use Rattle.float_text.proofs.shown.text.Goals as goal

pub returns-then-is_nan-clause-reads_back : goal.returns-then-is_nan-clause-reads_back
returns-then-is_nan-clause-reads_back c = reads_back c.args.format c.args.value _ (ap Some (nan_read c.args.format c.args.value (sym c.is_nan.ensures.value ∙ c.if-is_nan.true)))

pub returns-clause-reads_back : goal.returns-clause-reads_back
returns-clause-reads_back c =
    let f = c.args.format in
    let t = either_text (text_format f) (shown f c.args.value) c.full_text.result.now c.is_up_to_whole.result c.full_text.ensures.is in
    reads_back f c.args.value _ (ap (reading_of (reader f)) c.trimmed.ensures.value ∙ text_reading f (shown f c.args.value) _ t)

pub returns-clause-some : goal.returns-clause-some
returns-clause-some c =
    let f = c.args.format in
    let t = either_text (text_format f) (shown f c.args.value) c.full_text.result.now c.is_up_to_whole.result c.full_text.ensures.is in
    subst (λ z. 0 < length z) (sym c.trimmed.ensures.value) (text_some _ _ _ t)

pub returns-clause-no_space : goal.returns-clause-no_space
returns-clause-no_space c =
    let f = c.args.format in
    let t = either_text (text_format f) (shown f c.args.value) c.full_text.result.now c.is_up_to_whole.result c.full_text.ensures.is in
    subst (All (λ x. 32 < x)) (sym c.trimmed.ensures.value) (text_no_space _ _ _ t)

pub returns-clause-whole : goal.returns-clause-whole
returns-clause-whole c = λ h.
    let f = c.args.format in
    let k = whole_kept (text_format f) (shown f c.args.value) c.full_text.result.now c.is_up_to_whole.result c.full_text.ensures.is (c.is_up_to_whole.ensures ∙ h) in
    ap has_point_zero c.trimmed.ensures.value ∙ k
