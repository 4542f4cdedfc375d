-- A file into which its reading was written is cut into the same parts without that reading where it can be declared, and only there.
use Rattle.std.proofs.Common.{◌≡◌, ℕ, zero, suc, ◌+◌, ◌-◌, ◌*◌, ◌^◌, ◌≤◌, ◌<◌, Bool, true, false, cond, eqb, ltb, leb, List, [], ◌∷◌, ◌++◌, length, take, drop, refl, sym, ap, ap₂, subst, ◌∙◌, arith, append_assoc, ℤ, pos, negsuc, ◌⊎◌, inl, inr, lit≤, Option, Some, None, Result, Ok, Err, All}
use Rattle.std.specs.Prelude.{◌==◌, ◌&&◌, not, unwrap_or, ◌||◌, nat_abs, is_none, int_lt, option_map, nat_le, position}
use Rattle.std.specs.List.{concat, list_all, AllByRecursion}
use Rattle.std.specs.Ordering.{int_eq}
use Rattle.std.proofs.lemmas.Int.{ints}
use Rattle.std.proofs.lemmas.Bool.{eqb-true, leb-true, and_parts, or_parts, le-ltb}
use Rattle.std.proofs.lemmas.List.Elements.{recursion_from_All, All-from_recursion}
use Rattle.num_order.specs.declared.order.Order.{Order}
use Rattle.sample_codes.specs.Formats.{width}
use Rattle.frame_cut.specs.declared.file_head.Head.{Head}
use Rattle.frame_cut.specs.declared.limits.Limits.{Limits}
use Rattle.frame_cut.specs.declared.reading.Reading.{Reading}
use Rattle.frame_cut.specs.declared.load_fault.LoadFault.{LoadFault}
use Rattle.frame_cut.specs.BinaryHeader.{asks_fixed, bin_bytes, order_of, major_of, is_flag_set, is_fixed, samples_field, extensions_field, in_2, bin_signed, bin_unsigned, written_samples}
use Rattle.frame_cut.specs.Cuts.{IsCut, IsTrace, AreBlocks}
use Rattle.frame_cut.specs.Frames.{extension_count, extension_samples, header_unsigned, length_with, or_else, sample_count, samples_by, trace_length, front_length}
use Rattle.frame_cut.specs.Heads.{head_of, head_by, blocks_in}
use Rattle.frame_cut.specs.Parts.{untailed}
use Rattle.frame_cut.specs.Volume.{Volume, behind_traces, bytes_of}
use Rattle.frame_cut.proofs.EditLemmas.{cut_untailed, cut_without}
use Rattle.declared_frame.specs.Laws.{DeclaredIsRead}
use Rattle.declared_frame.specs.Written.{with_declared, as_declared, can_declare, holds_samples, holds_texts, holds_lengths, has_samples, declared, AreNumbers, AreSameParts}
use Rattle.declared_frame.proofs.WindowLemmas.{written}
use Rattle.declared_frame.proofs.StaysLemmas.{declared_by, major_left, order_left, stays_cut, length-declared}
use Rattle.declared_frame.proofs.ValueLemmas.{samples_said, format_said, texts_said, flag_said}
use Rattle.declared_frame.proofs.ReadLemmas.{Says, head_declared, head_fields}

-- ---- what the head is by the fields of the header into which the reading was written

grouped_parts : (a b c d e : List ℕ) → a ++ b ++ c ++ d ++ e ≡ a ++ b ++ (c ++ d ++ e)
grouped_parts a b c d e = simp append_assoc

abbrev pub rest_of : Volume → List ℕ
rest_of v = concat v.blocks ++ concat v.traces ++ behind_traces v

pub grouped : (v : Volume) → bytes_of v ≡ v.text ++ v.bin ++ rest_of v
grouped v = grouped_parts v.text v.bin (concat v.blocks) (concat v.traces) (behind_traces v)

-- the head of a volume that is cut, by its fields
pub record Known (reading : Reading) (l : Limits) (v : Volume) : Type 0 where
  pub head : head_of (v.text ++ v.bin ++ rest_of v) reading l ≡ Ok v.head
  pub order : v.head.order ≡ order_of reading v.bin
  pub major : v.head.major ≡ major_of (order_of reading v.bin) v.bin
  pub samples : v.head.samples ≡ samples_field reading (order_of reading v.bin) v.bin
  pub fixed : v.head.fixed ≡ is_fixed reading (order_of reading v.bin) v.bin
  pub extensions : v.head.extensions ≡ nat_abs (extensions_field (order_of reading v.bin) v.bin)

pub known : (reading : Reading) (l : Limits) (v : Volume) → IsCut (bytes_of v) reading l v → Known reading l v
known reading l v cut =
    let p = cut.parts in
    let head : head_of (v.text ++ v.bin ++ rest_of v) reading l ≡ Ok v.head = ap (λ (s : List ℕ). head_of s reading l) (sym (grouped v)) ∙ p.head in
    let is : head_by reading (order_of reading v.bin) v.bin (rest_of v) ≡ v.head = head_fields reading l v.text v.bin (rest_of v) v.head p.text p.bin head in
    record {
      head = head;
      order = ap (λ (h : Head). h.order) (sym is);
      major = ap (λ (h : Head). h.major) (sym is);
      samples = ap (λ (h : Head). h.samples) (sym is);
      fixed = ap (λ (h : Head). h.fixed) (sym is);
      extensions = ap (λ (h : Head). h.extensions) (sym is);
    }

-- ---- the fields say what the reading says

pub order_kept : (reading : Reading) (h : Head) (bin : List ℕ) → length bin ≡ 400 → order_of reading (declared reading h bin) ≡ order_of reading bin
order_kept reading h bin len = rw (order_left h reading.samples reading.format (asks_fixed reading) reading.texts bin len) refl

says : (reading : Reading) (l : Limits) (v : Volume) → AreNumbers reading → IsCut (bytes_of v) reading l v → holds_samples v.head reading.samples ≡ true → holds_texts v.head reading.texts ≡ true
    → Says reading (order_of reading v.bin) (declared reading v.head v.bin)
says reading l v numbers cut samples texts =
    let k = known reading l v cut in
    let o : Order = order_of reading v.bin in
    let len = cut.parts.bin in
    record {
      samples = samples_said v.head reading.samples reading.format (asks_fixed reading) reading.texts v.bin o len k.order k.major numbers.samples samples;
      format = format_said v.head reading.samples reading.format (asks_fixed reading) reading.texts v.bin o len k.order numbers.format;
      texts = texts_said v.head reading.samples reading.format (asks_fixed reading) reading.texts v.bin o len k.order k.major numbers.texts texts;
    }

-- ---- the traces under the head without the reading

-- a trace whose header gives it the head's number of samples
own_trace : (h : Head) (t : List ℕ) → h.fixed ≡ true → h.extensions ≡ 0 → has_samples h t ≡ true → IsTrace h t → IsTrace (record h { fixed = false }) t
own_trace h t fixed none has is =
    let other : Head = record h { fixed = false } in
    let wide : extension_samples other t ≡ 0 = rw none refl in
    let same : or_else (header_unsigned h 0 115 2 t) h.samples ≡ h.samples = eqb-true (or_else (header_unsigned h 0 115 2 t) h.samples) h.samples has in
    let here : sample_count other t ≡ h.samples = ap (λ (n : ℕ). or_else n (or_else (header_unsigned h 0 115 2 t) h.samples)) wide ∙ same in
    let there : sample_count h t ≡ h.samples = rw fixed refl in
    record { whole = is.whole; exact = ap (λ (n : ℕ). option_map (λ e. length_with h e n) (extension_count h t)) (here ∙ sym there) ∙ is.exact }

own_traces : (h : Head) (ts : List (List ℕ)) → h.fixed ≡ true → h.extensions ≡ 0 → list_all (has_samples h) ts ≡ true → AllByRecursion (IsTrace h) ts → AllByRecursion (IsTrace (record h { fixed = false })) ts
own_traces h [] fixed none has is = tt
own_traces h (t ∷ ts) fixed none has is = let p = and_parts (has_samples h t) (list_all (has_samples h) ts) has in (own_trace h t fixed none p.0 is.0, own_traces h ts fixed none p.1 is.1)

-- in revision 0 a file has no header extensions
pub no_extensions : (o : Order) (bin : List ℕ) → major_of o bin ≡ 0 → nat_abs (extensions_field o bin) ≡ 0
no_extensions o bin e = rw e refl

-- the flag of the header into which the reading was written
flag_kept : (h : Head) (s f : Option ℕ) (t : Option ℤ) (bin : List ℕ) (o : Order) → length bin ≡ 400 → is_flag_set o (declared_by h s f false t bin) ≡ is_flag_set o bin
flag_kept h s f t bin o len =
    let w = written h s f false t bin len in
    let is : bin_bytes 3503 2 (declared_by h s f false t bin) ≡ bin_bytes 3503 2 bin = w.texts.apart 302 2 (inl (lit≤ tt)) ∙ w.format.apart 302 2 (inr (lit≤ tt)) ∙ w.samples.apart 302 2 (inr (lit≤ tt), inr (lit≤ tt)) in
    rw (major_left h s f false t bin len, is) refl

flag_set : (h : Head) (s f : Option ℕ) (t : Option ℤ) (bin : List ℕ) (o : Order) → length bin ≡ 400 → h.order ≡ o → h.major ≡ major_of o bin → eqb h.major 0 ≡ false → is_flag_set o (declared_by h s f true t bin) ≡ true
flag_set h s f t bin o len order major some =
    let here : eqb (major_of o (declared_by h s f true t bin)) 0 ≡ false = rw (major_left h s f true t bin len) (ap (λ (m : ℕ). eqb m 0) (sym major) ∙ some) in
    rw (here, flag_said h s f t bin o len order some) refl

pub flag_unset : (h : Head) (s f : Option ℕ) (t : Option ℤ) (bin : List ℕ) (o : Order) → length bin ≡ 400 → h.major ≡ major_of o bin → eqb h.major 0 ≡ true → is_flag_set o (declared_by h s f true t bin) ≡ false
flag_unset h s f t bin o len major none =
    let here : eqb (major_of o (declared_by h s f true t bin)) 0 ≡ true = rw (major_left h s f true t bin len) (ap (λ (m : ℕ). eqb m 0) (sym major) ∙ none) in
    rw here refl

-- each trace is whole under the head with that flag
traces_are : (reading : Reading) (l : Limits) (v : Volume) → IsCut (bytes_of v) reading l v → holds_lengths reading v ≡ true
    → All (IsTrace (record v.head { fixed = is_flag_set (order_of reading v.bin) (declared reading v.head v.bin) })) v.traces
traces_are reading l v cut holds = by (asks_fixed reading) (eqb v.head.major 0) refl refl
  where
    by : (asked first : Bool) → asks_fixed reading ≡ asked → eqb v.head.major 0 ≡ first → All (IsTrace (record v.head { fixed = is_flag_set (order_of reading v.bin) (declared reading v.head v.bin) })) v.traces
    by false first a z =
        let k = known reading l v cut in
        let o : Order = order_of reading v.bin in
        let flag : is_flag_set o (declared reading v.head v.bin) ≡ is_flag_set o v.bin = rw a (flag_kept v.head reading.samples reading.format reading.texts v.bin o cut.parts.bin) in
        let fixed : v.head.fixed ≡ is_flag_set o v.bin = k.fixed ∙ rw a refl in
        subst (λ (b : Bool). All (IsTrace (record v.head { fixed = b })) v.traces) (fixed ∙ sym flag) cut.parts.traces
    by true false a z =
        let k = known reading l v cut in
        let o : Order = order_of reading v.bin in
        let flag : is_flag_set o (declared reading v.head v.bin) ≡ true = rw a (flag_set v.head reading.samples reading.format reading.texts v.bin o cut.parts.bin k.order k.major z) in
        let fixed : v.head.fixed ≡ true = k.fixed ∙ rw a refl in
        subst (λ (b : Bool). All (IsTrace (record v.head { fixed = b })) v.traces) (fixed ∙ sym flag) cut.parts.traces
    by true true a z =
        let k = known reading l v cut in
        let o : Order = order_of reading v.bin in
        let flag : is_flag_set o (declared reading v.head v.bin) ≡ false = rw a (flag_unset v.head reading.samples reading.format reading.texts v.bin o cut.parts.bin k.major z) in
        let fixed : v.head.fixed ≡ true = k.fixed ∙ rw a refl in
        let none : v.head.extensions ≡ 0 = k.extensions ∙ no_extensions o v.bin (sym k.major ∙ eqb-true v.head.major 0 z) in
        let each : list_all (has_samples v.head) v.traces ≡ true = rw (a, z) at holds in
        let own = own_traces v.head v.traces fixed none each (recursion_from_All (IsTrace v.head) v.traces cut.parts.traces) in
        subst (λ (b : Bool). All (IsTrace (record v.head { fixed = b })) v.traces) (sym flag) (All-from_recursion (IsTrace (record v.head { fixed = false })) v.traces own)

-- ---- the law

abbrev declared_volume : Reading → Volume → Volume
declared_volume reading v = record (with_declared reading v) { head = record v.head { fixed = is_flag_set (order_of reading v.bin) (declared reading v.head v.bin) } }

-- where there is no tail
read_without : (reading : Reading) (l : Limits) (v : Volume) → v.tail ≡ [] → AreNumbers reading → IsCut (bytes_of v) reading l v → can_declare reading v ≡ true
    → (w : Volume) × IsCut (bytes_of (with_declared reading v)) (as_declared reading) l w × AreSameParts (with_declared reading v) w
read_without reading l v none numbers cut can =
    let both = and_parts (holds_samples v.head reading.samples && holds_texts v.head reading.texts) (holds_lengths reading v) can in
    let fields = and_parts (holds_samples v.head reading.samples) (holds_texts v.head reading.texts) both.0 in
    let w : Volume = declared_volume reading v in
    let again = stays_cut reading l v cut in
    let k = known reading l (with_declared reading v) again in
    let p = again.parts in
    let o : order_of reading (declared reading v.head v.bin) ≡ order_of reading v.bin = order_kept reading v.head v.bin cut.parts.bin in
    let said : Says reading (order_of reading v.bin) (declared reading v.head v.bin) = says reading l v numbers cut fields.0 fields.1 in
    let told : Says reading (order_of reading (declared reading v.head v.bin)) (declared reading v.head v.bin) = subst (λ (q : Order). Says reading q (declared reading v.head v.bin)) (sym o) said in
    let ok : Head → Result Head LoadFault = λ x. Ok x in
    let head : head_of (v.text ++ declared reading v.head v.bin ++ rest_of v) (as_declared reading) l ≡ Ok w.head =
    head_declared reading l v.text (declared reading v.head v.bin) (rest_of v) v.head p.text p.bin told k.head
    ∙ ap (λ (q : Order). ok (record v.head { fixed = is_flag_set q (declared reading v.head v.bin) })) o in (
      w,
      record {
        joined = refl;
        parts = record {
          head = ap (λ (s : List ℕ). head_of s (as_declared reading) l) (grouped (with_declared reading v)) ∙ head;
          text = p.text;
          bin = p.bin;
          blocks = p.blocks;
          traces = traces_are reading l v cut both.1;
          few = p.few;
          tail = inl none;
          trailer = p.trailer;
        };
      },
      record { head = refl; text = refl; blocks = refl; traces = refl; tail = refl; trailer = refl },
    )

-- a reading that keeps no tail, and the same numbers
abbrev pub tailless : Reading → Reading
tailless reading = record reading { tail = false }

pub same_numbers : (reading : Reading) → AreNumbers reading → AreNumbers (tailless reading)
same_numbers reading n = record { samples = n.samples; format = n.format; texts = n.texts }

pub declared_is_read : DeclaredIsRead
declared_is_read reading l v numbers cut can =
    read_without (tailless reading) l (untailed v) refl (same_numbers reading numbers) (cut_without (bytes_of (untailed v)) reading l (untailed v) false (cut_untailed reading l v cut) refl) can
