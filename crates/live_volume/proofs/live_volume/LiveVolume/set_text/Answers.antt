use Rattle.std.proofs.Common.{◌≡◌, ◌∙◌, ap, sym, true, None, List, map, length, subst, refl}
use Rattle.std.specs.Str.{chars}
use Rattle.text_block.specs.Blocks.{code_of}
use Rattle.text_block.specs.Lines.{text_fault, encoded_line}
use Rattle.frame_cut.specs.Parts.{with_line}
use Rattle.frame_cut.specs.Volume.{Volume}
use Rattle.bench_rules.specs.declared.edit.Edit.TheVariants.{SetText}
use Rattle.edit_overlay.specs.CountedVolume.{CountedVolume}
use Rattle.edit_overlay.specs.Reads.{HaveAgreed}
use Rattle.trace_record.specs.declared.packed_record.PackedRecord.{PackedRecord}
use Rattle.trace_record.specs.Packed.{record_in}
use Rattle.live_volume.specs.Held.{state_of, records_in}
use Rattle.bench_rules.specs.Refused.{is_line}
use Rattle.bench_rules.proofs.HeaderEditLemmas.{text_done, text_refused_none, after_cut, length-line}
use Rattle.bench_rules.proofs.SetLemmas.{both}
use Rattle.std.proofs.lemmas.Bool.{leb-true}
use Rattle.live_volume.proofs.EditLemmas.{held_edited, state_with}
use Rattle.live_volume.proofs.HeldLemmas.{read_as}
use Rattle.live_volume.proofs.MeasuredLemmas.{frame_line}
use Rattle.live_volume.proofs.live_volume.LiveVolume.set_text.Goals as goal

pub invariant_of-self : goal.invariant_of-self
invariant_of-self c =
    let b = c.self.inside in
    let v : Volume = b.overlay.volume in
    let code : c.code_of.result ≡ code_of v.text = c.code_of.ensures ∙ ap code_of c.text.ensures in
    let none : text_fault (code_of v.text) (chars c.args.text.now) ≡ None = rw (code, c.as_str.ensures) at c.in_ok-line.ensures.ok in
    let line : c.in_ok-line.line ≡ encoded_line (code_of v.text) (chars c.args.text.now) = rw (code, c.as_str.ensures) at c.in_ok-line.ensures.line in
    let there : is_line c.args.q ≡ true = sym c.is_line.ensures ∙ c.if-not-is_line.false in
    let range = both _ _ there in
    let long : length c.in_ok-line.line ≡ 80 = ap (λ (l : List _). length l) line ∙ length-line (code_of v.text) (chars c.args.text.now) none in
    let w : Volume = with_line v c.args.q c.in_ok-line.line in
    let e : CountedVolume PackedRecord = c.put_text.new.self in
    let is : e.volume ≡ w = ap (λ (o : CountedVolume PackedRecord). o.volume) c.put_text.ensures in
    let stays : e.reads ≡ b.overlay.reads = ap (λ (o : CountedVolume PackedRecord). o.reads) c.put_text.ensures in
    held_edited b e b.reports w (records_in b) c.self.invariant is (ap (λ (o : CountedVolume PackedRecord). o.prepared) c.put_text.ensures ∙ sym is)
    (ap (λ (o : CountedVolume PackedRecord). map record_in o.payloads) c.put_text.ensures) refl
    (frame_line b.limits v c.args.q c.in_ok-line.line c.self.invariant.frame (leb-true _ _ range.0) (leb-true _ _ range.1) long) c.self.invariant.measured
    (λ sure. after_cut (state_of b) (SetText c.args.q c.args.text.now) w (text_done (state_of b) c.args.q c.args.text.now w c.in_ok-line.line (c.self.invariant.cut (subst HaveAgreed stays sure)) there none line refl))
    (λ sure. c.self.invariant.records (subst HaveAgreed stays sure)) c.self.invariant.reports

pub returns-clause-step : goal.returns-clause-step
returns-clause-step c =
    let b = c.self.inside in
    let v : Volume = b.overlay.volume in
    let code : c.code_of.result ≡ code_of v.text = c.code_of.ensures ∙ ap code_of c.text.ensures in
    let none : text_fault (code_of v.text) (chars c.args.text.now) ≡ None = rw (code, c.as_str.ensures) at c.in_ok-line.ensures.ok in
    let line : c.in_ok-line.line ≡ encoded_line (code_of v.text) (chars c.args.text.now) = rw (code, c.as_str.ensures) at c.in_ok-line.ensures.line in
    let there : is_line c.args.q ≡ true = sym c.is_line.ensures ∙ c.if-not-is_line.false in
    let w : Volume = with_line v c.args.q c.in_ok-line.line in
    let stays : c.put_text.new.self.reads ≡ b.overlay.reads = ap (λ (o : CountedVolume PackedRecord). o.reads) c.put_text.ensures in
    let state = state_with b c.put_text.new.self w (ap (λ (o : CountedVolume PackedRecord). o.volume) c.put_text.ensures) (ap (λ (o : CountedVolume PackedRecord). o.loaded) c.put_text.ensures) in
    rw (← c.self.view_is) (λ sure. rw (state, text_refused_none (state_of b) c.args.q c.args.text.now there none)
    (text_done (state_of b) c.args.q c.args.text.now w c.in_ok-line.line (c.self.invariant.cut (subst HaveAgreed stays sure)) there none line refl))

pub returns-clause-same : goal.returns-clause-same
returns-clause-same c =
    let b = c.self.inside in
    let w : Volume = with_line b.overlay.volume c.args.q c.in_ok-line.line in
    rw (← c.self.view_is) (read_as _ _ w (state_with b c.put_text.new.self w (ap (λ (o : CountedVolume PackedRecord). o.volume) c.put_text.ensures) (ap (λ (o : CountedVolume PackedRecord). o.loaded) c.put_text.ensures)))
