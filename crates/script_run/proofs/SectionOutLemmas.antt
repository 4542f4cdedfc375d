-- How samples of many traces go out, row by row, and what is printed then.
use Rattle.std.proofs.Common.{◌≡◌, ◌∙◌, ℕ, ℤ, ◌+◌, ◌<◌, ◌≤◌, true, false, true≢false, List, [], ◌∷◌, ◌++◌, length, map, take, Option, Some, None, Result, Ok, Err, drop, get_or, refl, sym, ap, subst, inl, inr, arith, append_assoc, append-nil, length-append}
use Rattle.std.specs.Prelude.{is_some}
use Rattle.std.specs.Result.{IsErrAnd}
use Rattle.std.proofs.lemmas.Bool.{le-leb}
use Rattle.std.proofs.Math.ListN.{drop_of_length-le}
use Rattle.std.proofs.lemmas.List.{drop_more, length-map, map-append}
use Rattle.std.proofs.Math.Seq.{take-append_seam}
use Rattle.device_io.specs.declared.write_fault.WriteFault.{WriteFault}
use Rattle.float_codes.specs.declared.float_format.FloatFormat.{FloatFormat}
use Rattle.frame_cut.specs.Traces.{count_of, is_trace}
use Rattle.bench_rules.specs.declared.ask_fault.AskFault.{AskFault}
use Rattle.bench_rules.specs.declared.sample_range.SampleRange.{SampleRange}
use Rattle.bench_rules.specs.declared.section.Section.{Section}
use Rattle.bench_rules.specs.Conditions.{AreRising}
use Rattle.bench_rules.specs.FloatStatistics.{float_format}
use Rattle.bench_rules.specs.ReadFaults.{IsReadFault}
use Rattle.bench_rules.specs.Sections.{rows_of, samples_asked}
use Rattle.bench_rules.specs.State.{State}
use Rattle.line_texts.specs.Devices.{count_in_64_bits, Device, Takes, TakesPart}
use Rattle.line_texts.specs.Printing.{nothing_out, BreaksOut, GoesOut, Outgoing}
use Rattle.refusal_texts.specs.RefusalTexts.{ask_fault_text, refused_line}
use Rattle.script_text.specs.Replies.{Printed}
use Rattle.script_text.specs.SectionTexts.{section_end, section_head, AreRowTexts}
use Rattle.line_texts.proofs.OutLemmas.{breaks_first, told_first, told_whole}
use Rattle.script_text.proofs.SectionLemmas.{breaks_both, goes_both, some_lines}
use Rattle.script_run.proofs.CauseLemmas.{Follows, cause_in}
use Rattle.script_run.proofs.TellLemmas.{told_at_last, told_behind}
use Rattle.script_run.specs.Causes.{Causes, QueryComesOf}
use Rattle.script_run.specs.Sections.{AreLinesOf, AreRowsOut, IsLineOf, IsRowOut, IsSectionPrinted, IsUntold}

-- the rows of traces
abbrev rows_at : State → SampleRange → List ℕ → List (ℕ × List ℤ)
rows_at s range ps = map (λ p. (p, samples_asked s.volume range p)) ps

abbrev floats_in : State → Option FloatFormat
floats_in s = float_format s.volume.head.format

-- lines behind others
lines_both : (floats : Option FloatFormat) (xs ys : List (ℕ × List ℤ)) (a b : List ℕ) → AreRowTexts floats xs a → AreRowTexts floats ys b → AreRowTexts floats (xs ++ ys) (a ++ b)
lines_both floats [] ys a b one other = rw one other
lines_both floats (x ∷ xs) ys a b (first, rest, is, are, joined) other =
    (first, rest ++ b, is, lines_both floats xs ys rest b are other, ap (λ s. s ++ b) joined ∙ append_assoc first rest b)

module _ (s : State) (range : SampleRange) (ps : List ℕ) where
  -- the lines of the traces in front of these are pushed
  pub record RowsBegun (old now : Device) (from at : Outgoing) (left : List ℕ) : Type 0 where
    pub before : List ℕ
    pub lines : List ℕ
    pub all : ps ≡ before ++ left
    pub rows : AreLinesOf s range before lines
    pub out : GoesOut old now from at lines

  -- the lines of all of them, where those in front of some are these
  joined : (before left : List ℕ) (a b : List ℕ) → ps ≡ before ++ left → AreLinesOf s range before a → AreLinesOf s range left b → AreLinesOf s range ps (a ++ b)
  joined before left a b all one other =
      subst (λ qs. AreLinesOf s range qs (a ++ b)) (sym all)
      (subst (λ rows. AreRowTexts (floats_in s) rows (a ++ b)) (sym (map-append (λ p. (p, samples_asked s.volume range p)) before left)) (lines_both (floats_in s) (rows_at s range before) (rows_at s range left) a b one other))

  module _ (old now next : Device) (from at : Outgoing) (p : ℕ) (left : List ℕ) (text : List ℕ) (is : IsLineOf s (floats_in s) range p text) (part : RowsBegun old now from at (p ∷ left)) where
    -- the next line is pushed
    pub rows_further : (to : Outgoing) → GoesOut now next at to text → RowsBegun old next from to left
    rows_further to more = record {
      before = part.before ++ p ∷ [];
      lines = part.lines ++ text;
      all = part.all ∙ sym (append_assoc part.before (p ∷ []) left);
      rows = subst (λ rows. AreRowTexts (floats_in s) rows (part.lines ++ text)) (sym (map-append (λ q. (q, samples_asked s.volume range q)) part.before (p ∷ [])))
          (lines_both (floats_in s) (rows_at s range part.before) (rows_at s range (p ∷ [])) part.lines text part.rows (text, [], is, refl, sym (append-nil text)));
      out = goes_both old now next from at to part.lines text part.out more;
    }

    -- a write of it fails
    pub rows_break : (told : ℕ) → BreaksOut now next at text told → (lines : List ℕ) × AreLinesOf s range ps lines × BreaksOut old next from lines told
    rows_break told broken =
        let rest = some_lines (floats_in s) (rows_at s range left) in (
          part.lines ++ (text ++ rest.0),
          joined part.before (p ∷ left) part.lines (text ++ rest.0) part.all part.rows (text, rest.0, is, rest.1, refl),
          breaks_both old now next from at at part.lines text part.out rest.0 told broken,
        )

  -- all of them are
  pub rows_end : (old now : Device) (from at : Outgoing) (left : List ℕ) → left ≡ [] → RowsBegun old now from at left → (lines : List ℕ) × AreLinesOf s range ps lines × GoesOut old now from at lines
  rows_end old now from at left none part =
      (part.lines, subst (λ qs. AreLinesOf s range qs part.lines) (sym (part.all ∙ ap (λ qs. part.before ++ qs) none ∙ append-nil part.before)) part.rows, part.out)

module _ (s : State) (section : Section) (old now : Device) (from at : Outgoing) (i : ℕ) (part : RowsBegun s section.samples section.traces old now from at (drop i section.traces)) where
  module _ (A B : Causes) (follows : Follows A B) (d : ℕ) (next : Device) (below : i < length section.traces) where
    abbrev here : ℕ
    here = get_or section.traces i d

    abbrev behind : List ℕ
    behind = drop (i + 1) section.traces

    abbrev in_front : RowsBegun s section.samples section.traces old now from at (here ∷ behind)
    in_front = subst (λ left. RowsBegun s section.samples section.traces old now from at left) (drop_more section.traces i d below) part

    pushed : (to : Outgoing) (o : Option AskFault) → is_some o ≡ false → IsRowOut A s (floats_in s) section.samples here now next at to (Ok o)
        → RowsBegun s section.samples section.traces old next from to behind
    pushed to None none (text, is, out) = rows_further s section.samples section.traces old now next from at here behind text is in_front to out
    pushed to (Some fault) none row = absurd cc

    untold_in : (fault : AskFault) → IsUntold A s here fault → IsUntold B s here fault
    untold_in fault (inl (unread, comes)) = inl (unread, cause_in A B follows _ _ _ comes)
    untold_in fault (inr none) = inr none

    refused : (to : Outgoing) (o : Option AskFault) → is_some o ≡ true → IsRowOut A s (floats_in s) section.samples here now next at to (Ok o) → AreRowsOut B s section old next from to (Ok o)
    refused to None some row = absurd cc
    refused to (Some fault) some (untold, same, still) = record {
      before = in_front.before;
      p = here;
      behind = behind;
      all = in_front.all;
      lines = in_front.lines;
      rows = in_front.rows;
      out = rw (same, still) in_front.out;
      untold = untold_in fault untold;
    }

    broken : (to : Outgoing) (r : Result (Option AskFault) WriteFault) (fault : WriteFault) → IsErrAnd r (λ x. x ≡ fault)
        → IsRowOut A s (floats_in s) section.samples here now next at to (Err fault) → AreRowsOut B s section old next from to r
    broken to (Ok o) fault is row = absurd is
    broken to (Err f) fault is (text, line, breaks) =
        subst (λ e. AreRowsOut B s section old next from to (Err e)) (sym is) (rows_break s section.samples section.traces old now next from at here behind text line in_front fault.written breaks)

  -- the same of a bench that holds this volume, of its floats and of the list of the traces
  module _ (A B : Causes) (follows : Follows A B) (d : ℕ) (next : Device) (t : State) (is : t ≡ s) (floats : Option FloatFormat) (are : floats ≡ floats_in s) (ps : List ℕ) (same : ps ≡ section.traces) (below : i < length ps) where
    abbrev RowOut : (to : Outgoing) → Result (Option AskFault) WriteFault → Type 0
    RowOut to r = IsRowOut A t floats section.samples (get_or ps i d) now next at to r

    few : i < length section.traces
    few = subst (λ qs. i < length qs) same below

    so : (to : Outgoing) (r : Result (Option AskFault) WriteFault) → RowOut to r → IsRowOut A s (floats_in s) section.samples (get_or section.traces i d) now next at to r
    so to r row =
        subst (λ qs. IsRowOut A s (floats_in s) section.samples (get_or qs i d) now next at to r) same
        (subst (λ f. IsRowOut A s f section.samples (get_or ps i d) now next at to r) are (subst (λ u. IsRowOut A u floats section.samples (get_or ps i d) now next at to r) is row))

    -- the line of the next trace is pushed
    pub row_pushed : (to : Outgoing) (o : Option AskFault) → is_some o ≡ false → RowOut to (Ok o) → RowsBegun s section.samples section.traces old next from to (drop (i + 1) section.traces)
    row_pushed to o none row = pushed A B follows d next few to o none (so to (Ok o) row)

    -- it has none
    pub row_refused : (to : Outgoing) (o : Option AskFault) → is_some o ≡ true → RowOut to (Ok o) → AreRowsOut B s section old next from to (Ok o)
    row_refused to o some row = refused A B follows d next few to o some (so to (Ok o) row)

    -- a write of it fails
    pub row_broken : (to : Outgoing) (r : Result (Option AskFault) WriteFault) (fault : WriteFault) → IsErrAnd r (λ x. x ≡ fault) → RowOut to (Err fault) → AreRowsOut B s section old next from to r
    row_broken to r fault is_fault row = broken A B follows d next few to r fault is_fault (so to (Err fault) row)

  -- no trace is left
  pub rows_all : (why : Causes) → length section.traces ≤ i → AreRowsOut why s section old now from at (Ok None)
  rows_all why past = rows_end s section.samples section.traces old now from at (drop i section.traces) (drop_of_length-le section.traces past) part

-- a text that is another
pub end_out : {text : List ℕ} (old new : Device) (from to : Outgoing) (pushed : List ℕ) → pushed ≡ text → GoesOut old new from to pushed → GoesOut old new from to text
end_out old new from to pushed is out = subst (λ t. GoesOut old new from to t) is out

pub end_broken : {text : List ℕ} (old new : Device) (from : Outgoing) (pushed : List ℕ) (told : ℕ) → pushed ≡ text → BreaksOut old new from pushed told → BreaksOut old new from text told
end_broken old new from pushed told is broken = subst (λ t. BreaksOut old new from t told) is broken

-- ---- traces that are there

-- one that stands among rising ones is
rising_there : (k n : ℕ) (before behind : List ℕ) (p : ℕ) → 1 ≤ k → AreRising k n (before ++ p ∷ behind) → (1 ≤ p) × (p ≤ n)
rising_there k n [] behind p first h = (omega (arith, h.0), h.1)
rising_there k n (q ∷ before) behind p first h = rising_there (q + 1) n before behind p (omega arith) h.2

is_there : (s : State) (p : ℕ) → 1 ≤ p → p ≤ count_of s.volume → is_trace s.volume p ≡ true
is_there s p first last = rw (le-leb 1 p first, le-leb p (count_of s.volume) last) refl

module _ (why : Causes) (s : State) (section : Section) where
  abbrev count : ℕ
  count = length section.traces

  -- all rows are printed
  pub printed_whole : (lines : List ℕ) → AreLinesOf s section.samples section.traces lines → IsSectionPrinted why s section (record { text = section_head count ++ lines; is_refusal = false })
  printed_whole lines rows = inl (record { lines = lines; rows = rows; text = refl; accepted = refl })

  -- the trace that has no line was not read
  not_read : (before behind : List ℕ) (p : ℕ) (fault : AskFault) → section.traces ≡ before ++ p ∷ behind → AreRising 1 (count_of s.volume) section.traces → IsUntold why s p fault → IsReadFault s.on_disk fault × QueryComesOf why (Err fault)
  not_read before behind p fault all rising (inl read) = read
  not_read before behind p fault all rising (inr (is, none)) =
      let there = rising_there 1 (count_of s.volume) before behind p (omega arith) (subst (AreRising 1 (count_of s.volume)) all rising) in
      absurd (true≢false (sym (is_there s p there.0 there.1) ∙ none))

  -- the first rows are printed
  pub printed_short : (before behind : List ℕ) (p : ℕ) (lines : List ℕ) (fault : AskFault) → section.traces ≡ before ++ p ∷ behind → AreRising 1 (count_of s.volume) section.traces
      → AreLinesOf s section.samples before lines → IsUntold why s p fault
      → IsSectionPrinted why s section (record { text = section_head count ++ lines ++ refused_line (ask_fault_text fault); is_refusal = true })
  printed_short before behind p lines fault all rising rows untold =
      let front : take (length before) (rows_of s.volume section) ≡ rows_at s section.samples before =
      ap (λ ps. take (length before) (rows_at s section.samples ps)) all
      ∙ ap (take (length before)) (map-append (λ q. (q, samples_asked s.volume section.samples q)) before (p ∷ behind))
      ∙ ap (λ n. take n (rows_at s section.samples before ++ rows_at s section.samples (p ∷ behind))) (sym (length-map before (λ q. (q, samples_asked s.volume section.samples q))))
      ∙ take-append_seam (rows_at s section.samples before) (rows_at s section.samples (p ∷ behind)) in
      inr (record {
        before = length before;
        some_left = omega (arith, ap length all, length-append before (p ∷ behind));
        lines = lines;
        rows = subst (λ rows. AreRowTexts (floats_in s) rows lines) (sym front) rows;
        fault = fault;
        unread = (not_read before behind p fault all rising untold).0;
        comes_of = (not_read before behind p fault all rising untold).1;
        text = refl;
        refused = refl;
      })

  -- the line that the section begins with is pushed, or a write of it fails
  pub head_out : (old now : Device) (from at : Outgoing) (ps : List ℕ) → from ≡ nothing_out → ps ≡ section.traces → GoesOut old now from at (section_head (length ps))
      → GoesOut old now nothing_out at (section_head count)
  head_out old now from at ps none same out =
      subst (λ qs. GoesOut old now nothing_out at (section_head (length qs))) same (subst (λ f. GoesOut old now f at (section_head (length ps))) none out)

  pub head_broken : (old now : Device) (from : Outgoing) (ps : List ℕ) (told : ℕ) → from ≡ nothing_out → ps ≡ section.traces → BreaksOut old now from (section_head (length ps)) told
      → BreaksOut old now nothing_out (section_head count) told
  head_broken old now from ps told none same broken =
      subst (λ qs. BreaksOut old now nothing_out (section_head (length qs)) told) same (subst (λ f. BreaksOut old now f (section_head (length ps)) told) none broken)

  -- ---- a write fails

  abbrev Part : Device → Device → (behind : List ℕ) → (told : ℕ) → Type 0
  Part old new behind told =
      (printed : Printed) × IsSectionPrinted why s section printed × ((taken : ℕ) × (told ≡ count_in_64_bits taken) × TakesPart old new (printed.text ++ behind) taken)

  -- in the line that the section begins with
  pub head_fails : (old next : Device) (behind : List ℕ) (told : ℕ) → BreaksOut old next nothing_out (section_head count) told → Part old next behind told
  head_fails old next behind told broken =
      let all = some_lines (floats_in s) (rows_of s.volume section) in
      let whole : (section_head count ++ all.0) ++ behind ≡ section_head count ++ (all.0 ++ behind) = append_assoc (section_head count) all.0 behind in (
        record { text = section_head count ++ all.0; is_refusal = false },
        printed_whole all.0 all.1,
        told_first old next ((section_head count ++ all.0) ++ behind) told
            (subst (λ t. BreaksOut old next nothing_out t told) (sym whole) (breaks_first old next nothing_out (section_head count) (all.0 ++ behind) told broken)),
      )

  module _ (old now next : Device) (at : Outgoing) (head : GoesOut old now nothing_out at (section_head count)) where
    -- in its rows
    pub rows_fail : (lines behind : List ℕ) (told : ℕ) → AreLinesOf s section.samples section.traces lines → BreaksOut now next at lines told → Part old next behind told
    rows_fail lines behind told rows broken =
        let whole : (section_head count ++ lines) ++ behind ≡ section_head count ++ (lines ++ behind) = append_assoc (section_head count) lines behind in (
          record { text = section_head count ++ lines; is_refusal = false },
          printed_whole lines rows,
          told_first old next ((section_head count ++ lines) ++ behind) told
              (subst (λ t. BreaksOut old next nothing_out t told) (sym whole) (breaks_both old now next nothing_out at at (section_head count) lines head behind told broken)),
        )

  -- what is printed where the rows end so
  pub printed_end : (now next : Device) (at to : Outgoing) (o : Option AskFault) → AreRising 1 (count_of s.volume) section.traces → AreRowsOut why s section now next at to (Ok o)
      → (lines : List ℕ) × IsSectionPrinted why s section (record { text = section_head count ++ (lines ++ section_end o); is_refusal = is_some o }) × GoesOut now next at to lines
  printed_end now next at to None rising (lines, rows, out) = (lines, rw (append-nil lines) (printed_whole lines rows), out)
  printed_end now next at to (Some fault) rising st = (
    st.lines,
    subst (λ (t : List ℕ). IsSectionPrinted why s section (record { text = t; is_refusal = true })) (append_assoc (section_head count) st.lines (refused_line (ask_fault_text fault)))
        (printed_short st.before st.behind st.p st.lines fault st.all rising st.rows st.untold),
    st.out,
  )

  module _ (old now next : Device) (at to : Outgoing) (head : GoesOut old now nothing_out at (section_head count)) (o : Option AskFault) (lines behind : List ℕ) (out : GoesOut now next at to lines) where
    abbrev text : List ℕ
    text = section_head count ++ (lines ++ section_end o)

    abbrev Short : Device → (told : ℕ) → Type 0
    Short end told = (taken : ℕ) × (told ≡ count_in_64_bits taken) × TakesPart old end (text ++ behind) taken

    rows_out : GoesOut old next nothing_out to (section_head count ++ lines)
    rows_out = goes_both old now next nothing_out at to (section_head count) lines head out

    -- a write of what stands behind the rows fails
    pub end_fails : (last : Device) (told : ℕ) → BreaksOut next last to (section_end o) told → Short last told
    end_fails last told broken =
        told_first old last (text ++ behind) told
        (subst (λ t. BreaksOut old last nothing_out t told)
        (sym (append_assoc (section_head count ++ lines) (section_end o) behind) ∙ ap (λ t. t ++ behind) (append_assoc (section_head count) lines (section_end o)))
        (breaks_both old next last nothing_out to to (section_head count ++ lines) (section_end o) rows_out behind told broken))

    module _ (mid : Device) (te : Outgoing) (end : GoesOut next mid to te (section_end o)) where
      all_out : GoesOut old mid nothing_out te text
      all_out =
          subst (λ t. GoesOut old mid nothing_out te t) (append_assoc (section_head count) lines (section_end o))
          (goes_both old next mid nothing_out to te (section_head count ++ lines) (section_end o) rows_out end)

      -- a write of what follows fails
      pub behind_fails : (last : Device) (told : ℕ) → BreaksOut mid last te behind told → Short last told
      behind_fails last told broken = told_behind old mid last te text behind all_out told broken

      -- a write of what waits fails
      pub flush_fails : (then last : Device) (tb : Outgoing) (told : ℕ) → GoesOut mid then te tb behind → BreaksOut then last tb [] told → Short last told
      flush_fails then last tb told more broken = told_at_last old mid then te text behind all_out tb last told more broken

      -- all is written
      pub all_written : (then last : Device) (tb tf : Outgoing) → GoesOut mid then te tb behind → GoesOut then last tb tf [] → tf.waits ≡ []
          → Takes old last (text ++ behind) × (tf.written ≡ count_in_64_bits (length (text ++ behind)))
      all_written then last tb tf more flushed empty =
          told_whole old then last tb tf (text ++ behind) (goes_both old mid then nothing_out te tb text behind all_out more) flushed empty
