-- What edits of the binary header do to a file that is cut: it stays cut where the fields that frame it keep their bytes.
use Rattle.std.proofs.Common.{◌≡◌, ℕ, ◌+◌, ◌-◌, ◌≤◌, Bool, List, ◌++◌, length, take, drop, refl, sym, ap, ap₂, ◌∙◌, arith, append_assoc, Ok, ℤ, pos, ◌⊎◌, inl, inr, lit≤}
use Rattle.std.specs.Prelude.{nat_abs, [], ◌∷◌, ◌*◌, ◌==◌, ◌||◌, ◌&&◌, not, int_lt, is_none, unwrap_or}
use Rattle.std.specs.List.{concat}
use Rattle.num_order.specs.declared.order.Order.{Order}
use Rattle.sample_codes.specs.declared.format.Format.{Format}
use Rattle.sample_codes.specs.Formats.{format_of}
use Rattle.frame_cut.specs.declared.file_head.Head.{Head}
use Rattle.frame_cut.specs.declared.limits.Limits.{Limits}
use Rattle.frame_cut.specs.declared.reading.Reading.{Reading}
use Rattle.frame_cut.specs.declared.load_fault.LoadFault.{LoadFault}
use Rattle.frame_cut.specs.declared.load_fault.LoadFault.TheVariants.{PairSwapped, OtherOrder, Revision, FloatFormat, GainFormat, UnknownFormat, TextCount, Extensions, Trailer, FirstTrace}
use Rattle.std.proofs.lemmas.List.{length-append, length-take, drop-drop, drop_at, take-append-drop}
use Rattle.frame_cut.specs.Splice.{splice}
use Rattle.frame_cut.specs.Volume.{Volume, behind_traces, bytes_of}
use Rattle.frame_cut.specs.Cuts.{IsCut}
use Rattle.frame_cut.proofs.BlockLemmas.{slice-append}
use Rattle.frame_cut.proofs.HeadFrontLemmas.{head_of-bin}
use Rattle.frame_cut.proofs.EditLemmas.{splice_inside}
use Rattle.frame_cut.specs.BinaryHeader.{bin_bytes, order_of, told_order, is_other_order, is_pair_swapped, is_unknown_revision, major_of, minor_of, format_code, text_count, extensions_field, trailer_field, first_trace, samples_field, is_fixed}
use Rattle.frame_cut.specs.Heads.{head_of, head_from, head_faults, head_by, head_in, first_fault_else, format_in, format_or_2, blocks_for, blocks_in, is_among, is_trailer_refused, traces_at}

-- the fields that frame the file keep their bytes
pub record SameFrame (bin other : List ℕ) : Type 0 where
  pub samples : bin_bytes 3221 2 other ≡ bin_bytes 3221 2 bin
  pub format : bin_bytes 3225 2 other ≡ bin_bytes 3225 2 bin
  pub wide_samples : bin_bytes 3269 4 other ≡ bin_bytes 3269 4 bin
  pub order : bin_bytes 3297 4 other ≡ bin_bytes 3297 4 bin
  pub major : bin_bytes 3501 1 other ≡ bin_bytes 3501 1 bin
  pub minor : bin_bytes 3502 1 other ≡ bin_bytes 3502 1 bin
  pub flag : bin_bytes 3503 2 other ≡ bin_bytes 3503 2 bin
  pub text_count : bin_bytes 3505 2 other ≡ bin_bytes 3505 2 bin
  pub extensions : bin_bytes 3507 4 other ≡ bin_bytes 3507 4 bin
  pub first_trace : bin_bytes 3521 8 other ≡ bin_bytes 3521 8 bin
  pub trailer : bin_bytes 3529 4 other ≡ bin_bytes 3529 4 bin

-- the fields that frame the file say the same under a reading
pub record SameUnder (reading : Reading) (bin other : List ℕ) : Type 0 where
  pub samples : (o : Order) → samples_field reading o other ≡ samples_field reading o bin
  pub format : (o : Order) → format_code reading o other ≡ format_code reading o bin
  pub fixed : (o : Order) → is_fixed reading o other ≡ is_fixed reading o bin
  pub texts : (o : Order) → text_count reading o other ≡ text_count reading o bin
  pub order : bin_bytes 3297 4 other ≡ bin_bytes 3297 4 bin
  pub major : bin_bytes 3501 1 other ≡ bin_bytes 3501 1 bin
  pub minor : bin_bytes 3502 1 other ≡ bin_bytes 3502 1 bin
  pub extensions : bin_bytes 3507 4 other ≡ bin_bytes 3507 4 bin
  pub first_trace : bin_bytes 3521 8 other ≡ bin_bytes 3521 8 bin
  pub trailer : bin_bytes 3529 4 other ≡ bin_bytes 3529 4 bin

-- where they keep their bytes they say the same under each reading
pub same_under : (reading : Reading) (bin other : List ℕ) → SameFrame bin other → SameUnder reading bin other
same_under reading bin other s = record {
  samples = λ o. rw (s.major, s.wide_samples, s.samples) refl;
  format = λ o. rw s.format refl;
  fixed = λ o. rw (s.major, s.flag) refl;
  texts = λ o. rw (s.major, s.text_count) refl;
  order = s.order;
  major = s.major;
  minor = s.minor;
  extensions = s.extensions;
  first_trace = s.first_trace;
  trailer = s.trailer;
}

-- ---- the fields have the same values

told-same : (reading : Reading) (bin other : List ℕ) → SameUnder reading bin other → told_order other ≡ told_order bin
told-same reading bin other s = rw s.order refl

order-same : (reading : Reading) (bin other : List ℕ) → SameUnder reading bin other → order_of reading other ≡ order_of reading bin
order-same reading bin other s = rw s.order refl

swapped-same : (reading : Reading) (bin other : List ℕ) → SameUnder reading bin other → is_pair_swapped other ≡ is_pair_swapped bin
swapped-same reading bin other s = rw s.order refl

major-same : (reading : Reading) (o : Order) (bin other : List ℕ) → SameUnder reading bin other → major_of o other ≡ major_of o bin
major-same reading o bin other s = rw s.major refl

minor-same : (reading : Reading) (o : Order) (bin other : List ℕ) → SameUnder reading bin other → minor_of o other ≡ minor_of o bin
minor-same reading o bin other s = rw s.minor refl

unknown-same : (reading : Reading) (o : Order) (bin other : List ℕ) → SameUnder reading bin other → is_unknown_revision o other ≡ is_unknown_revision o bin
unknown-same reading o bin other s = rw (major-same reading o bin other s, minor-same reading o bin other s) refl

extensions-same : (reading : Reading) (o : Order) (bin other : List ℕ) → SameUnder reading bin other → extensions_field o other ≡ extensions_field o bin
extensions-same reading o bin other s = rw (major-same reading o bin other s, s.extensions) refl

trailer-same : (reading : Reading) (o : Order) (bin other : List ℕ) → SameUnder reading bin other → trailer_field o other ≡ trailer_field o bin
trailer-same reading o bin other s = rw (major-same reading o bin other s, s.trailer) refl

first-same : (reading : Reading) (o : Order) (bin other : List ℕ) → SameUnder reading bin other → first_trace o other ≡ first_trace o bin
first-same reading o bin other s = rw (major-same reading o bin other s, s.first_trace) refl

-- ---- the head

-- a head by its fields
head_with : Order → ℕ → ℕ → Format → ℕ → Bool → ℤ → ℕ → ℤ → Head
head_with order major minor format samples fixed extensions blocks trailer = record {
  order = order;
  major = major;
  minor = minor;
  format = format;
  samples = samples;
  fixed = fixed;
  extensions = nat_abs extensions;
  blocks = blocks;
  trailer = nat_abs trailer;
  traces_at = traces_at blocks;
}

head_in-is : (reading : Reading) (o : Order) (bin : List ℕ) (format : Format) (blocks : ℕ) → head_in reading o bin format blocks ≡ head_with o (major_of o bin) (minor_of o bin) format (samples_field reading o bin) (is_fixed reading o bin) (extensions_field o bin) blocks (trailer_field o bin)
unfolding head_with
head_in-is reading o bin format blocks = refl

head_in-same : (reading : Reading) (o : Order) (bin other : List ℕ) (format : Format) (blocks : ℕ) → SameUnder reading bin other → head_in reading o other format blocks ≡ head_in reading o bin format blocks
head_in-same reading o bin other format blocks s =
    head_in-is reading o other format blocks
    ∙ rw (s.fixed o, extensions-same reading o bin other s, trailer-same reading o bin other s, s.samples o, minor-same reading o bin other s, major-same reading o bin other s) refl
    ∙ sym (head_in-is reading o bin format blocks)

head_by-same : (reading : Reading) (o : Order) (bin other rest : List ℕ) → SameUnder reading bin other → head_by reading o other rest ≡ head_by reading o bin rest
head_by-same reading o bin other rest s =
    head_in-same reading o bin other (format_in reading o other) (blocks_in reading o other rest) s
    ∙ ap₂ (head_in reading o bin)
    (ap (λ (code : ℕ). format_or_2 (format_of reading.opaque reading.floats code)) (s.format o))
    (ap (λ (count : ℤ). unwrap_or (blocks_for count rest) 0) (s.texts o))

-- the list of its refusals by what they ask
faults_with : Bool → Bool → Bool → ℕ → ℕ → Bool → Bool → ℕ → ℤ → ℤ → ℤ → ℕ → List ℕ → List (Bool × LoadFault)
faults_with swapped otherwise unknown major minor opaque floats code count extensions trailer first rest =
    (swapped, PairSwapped)
    ∷ (otherwise, OtherOrder)
    ∷ (unknown, Revision major minor)
    ∷ (not (opaque || floats) && is_among code (1 ∷ 5 ∷ 6 ∷ []), FloatFormat code)
    ∷ (not opaque && is_among code (4 ∷ []), GainFormat)
    ∷ (not (is_among code (1 ∷ 2 ∷ 3 ∷ 4 ∷ 5 ∷ 6 ∷ 7 ∷ 8 ∷ 9 ∷ 10 ∷ 11 ∷ 12 ∷ 15 ∷ 16 ∷ [])), UnknownFormat code)
    ∷ (is_none (blocks_for count rest), TextCount count)
    ∷ (int_lt extensions (pos 0) || int_lt (pos 255) extensions, Extensions extensions)
    ∷ (is_trailer_refused trailer (length rest - 3200 * unwrap_or (blocks_for count rest) 0), Trailer trailer)
    ∷ (not (first == 0) && not (first == traces_at (unwrap_or (blocks_for count rest) 0)), FirstTrace first)
    ∷ []

head_faults-is : (reading : Reading) (o : Order) (bin rest : List ℕ) → head_faults reading o bin rest ≡ faults_with (is_pair_swapped bin) (is_other_order reading.order (told_order bin)) (is_unknown_revision o bin) (major_of o bin) (minor_of o bin) reading.opaque reading.floats (format_code reading o bin) (text_count reading o bin) (extensions_field o bin) (trailer_field o bin) (first_trace o bin) rest
unfolding faults_with
head_faults-is reading o bin rest = refl

head_faults-same : (reading : Reading) (o : Order) (bin other rest : List ℕ) → SameUnder reading bin other → head_faults reading o other rest ≡ head_faults reading o bin rest
head_faults-same reading o bin other rest s =
    head_faults-is reading o other rest
    ∙ rw (swapped-same reading bin other s, told-same reading bin other s, unknown-same reading o bin other s, s.format o, s.texts o, extensions-same reading o bin other s, trailer-same reading o bin other s, first-same reading o bin other s, minor-same reading o bin other s, major-same reading o bin other s) refl
    ∙ sym (head_faults-is reading o bin rest)

-- bytes of the binary header outside those fields do not count
pub head_from-same : (reading : Reading) (bin other rest : List ℕ) → SameUnder reading bin other → head_from reading other rest ≡ head_from reading bin rest
head_from-same reading bin other rest s =
    let o : Order = order_of reading bin in
    ap (λ (p : Order). first_fault_else (head_faults reading p other rest) (head_by reading p other rest)) (order-same reading bin other s)
    ∙ ap₂ first_fault_else (head_faults-same reading o bin other rest s) (head_by-same reading o bin other rest s)

-- ---- the file

grouped_parts : (a b c d e : List ℕ) → a ++ b ++ c ++ d ++ e ≡ a ++ b ++ (c ++ d ++ e)
grouped_parts a b c d e = simp append_assoc

grouped : (v : Volume) → bytes_of v ≡ v.text ++ v.bin ++ (concat v.blocks ++ concat v.traces ++ behind_traces v)
grouped v = grouped_parts v.text v.bin (concat v.blocks) (concat v.traces) (behind_traces v)

-- another binary header that says the same of the frame
pub cut_with_bin : (reading : Reading) (l : Limits) (v : Volume) (bin : List ℕ) → IsCut (bytes_of v) reading l v → length bin ≡ 400 → SameUnder reading v.bin bin
    → IsCut (bytes_of (record v { bin = bin })) reading l (record v { bin = bin })
cut_with_bin reading l v bin cut len same =
    let w : Volume = record v { bin = bin } in
    let p = cut.parts in
    let rest : List ℕ = concat v.blocks ++ concat v.traces ++ behind_traces v in
    let old : head_of (v.text ++ v.bin ++ rest) reading l ≡ Ok v.head = ap (λ (s : List ℕ). head_of s reading l) (sym (grouped v)) ∙ p.head in
    let new : head_of (bytes_of w) reading l ≡ Ok v.head = ap (λ (s : List ℕ). head_of s reading l) (grouped w) ∙ head_of-bin reading l v.head v.text v.bin bin rest p.text p.bin len (head_from-same reading v.bin bin rest same) old in
    record { joined = refl; parts = record { head = new; text = p.text; bin = len; blocks = p.blocks; traces = p.traces; few = p.few; tail = p.tail; trailer = p.trailer } }

-- bytes spliced inside the binary header are spliced inside the file, 3200 bytes further
pub bytes_with_bin : (v : Volume) (a n : ℕ) (new : List ℕ) → length v.text ≡ 3200 → a + n ≤ length v.bin → bytes_of (record v { bin = splice v.bin a n new }) ≡ splice (bytes_of v) (3200 + a) n new
bytes_with_bin v a n new len h =
    let rest : List ℕ = concat v.blocks ++ concat v.traces ++ behind_traces v in
    let old : bytes_of v ≡ v.text ++ (v.bin ++ rest) = grouped v ∙ append_assoc v.text v.bin rest in
    let w : Volume = record v { bin = splice v.bin a n new } in
    let new_is : bytes_of w ≡ v.text ++ (splice v.bin a n new ++ rest) = grouped w ∙ append_assoc v.text (splice v.bin a n new) rest in
    new_is ∙ sym (splice_inside v.text v.bin rest a n new h) ∙ ap (λ (s : List ℕ). splice s (length v.text + a) n new) (sym old) ∙ ap (λ (i : ℕ). splice (bytes_of v) (i + a) n new) len

-- ---- what a splice leaves

-- bytes in front of it
pub slice_before : (bytes : List ℕ) (a n : ℕ) (new : List ℕ) (k m : ℕ) → k + m ≤ a → a ≤ length bytes → take m (drop k (splice bytes a n new)) ≡ take m (drop k bytes)
slice_before bytes a n new k m h le =
    let rest : List ℕ = drop (a + n) bytes in
    let front : length (take a bytes) ≡ a = omega (arith, length-take a bytes) in
    ap (λ (s : List ℕ). take m (drop k s)) (append_assoc (take a bytes) new rest)
    ∙ slice-append k m (take a bytes) (new ++ rest) (omega arith)
    ∙ sym (slice-append k m (take a bytes) (drop a bytes) (omega arith))
    ∙ ap (λ (s : List ℕ). take m (drop k s)) (take-append-drop a bytes)

-- and behind it, where it keeps the length
pub slice_behind : (bytes : List ℕ) (a : ℕ) (new : List ℕ) (k m : ℕ) → a + length new ≤ k → a + length new ≤ length bytes → take m (drop k (splice bytes a (length new) new)) ≡ take m (drop k bytes)
slice_behind bytes a new k m h le =
    let front : length (take a bytes ++ new) ≡ a + length new = omega (arith, length-append (take a bytes) new, length-take a bytes) in
    let skip : drop (a + length new) (splice bytes a (length new) new) ≡ drop (a + length new) bytes = drop_at (take a bytes ++ new) (drop (a + length new) bytes) (a + length new) front in
    let further : ℕ = k - (a + length new) in
    let at : a + length new + further ≡ k = omega arith in
    ap (take m) (ap (λ (i : ℕ). drop i (splice bytes a (length new) new)) (sym at)
    ∙ sym (drop-drop further (a + length new) (splice bytes a (length new) new))
    ∙ ap (drop further) skip
    ∙ drop-drop further (a + length new) bytes
    ∙ ap (λ (i : ℕ). drop i bytes) at)

-- bytes apart from it, where it keeps the length
pub apart : (t new : List ℕ) (at k m : ℕ) → at + length new ≤ length t → (k + m ≤ at) ⊎ (at + length new ≤ k) → take m (drop k (splice t at (length new) new)) ≡ take m (drop k t)
apart t new at k m inside (inl before) = slice_before t at (length new) new k m before (omega arith)
apart t new at k m inside (inr behind) = slice_behind t at new k m behind inside

-- bytes of a part that is apart from it
slice_apart : (bytes : List ℕ) (a : ℕ) (new : List ℕ) (low high k m : ℕ) → low ≤ k → k + m ≤ high → (a + length new ≤ low) ⊎ (high ≤ a) → a + length new ≤ length bytes
    → take m (drop k (splice bytes a (length new) new)) ≡ take m (drop k bytes)
slice_apart bytes a new low high k m from to (inl behind) inside = apart bytes new a k m inside (inr (omega (arith, behind)))
slice_apart bytes a new low high k m from to (inr before) inside = apart bytes new a k m inside (inl (omega (arith, before)))

-- bytes spliced into the binary header, at a place counted from 0 in it, apart from the fields that frame the file: bytes
-- 3221-3222, 3225-3226, 3269-3272, 3297-3300, 3501-3510 and 3521-3532
pub keeps_frame : (bin : List ℕ) (a : ℕ) (new : List ℕ) → length bin ≡ 400 → a + length new ≤ 400
    → (a + length new ≤ 20) ⊎ (22 ≤ a) → (a + length new ≤ 24) ⊎ (26 ≤ a) → (a + length new ≤ 68) ⊎ (72 ≤ a) → (a + length new ≤ 96) ⊎ (100 ≤ a) → (a + length new ≤ 300) ⊎ (310 ≤ a) → (a + length new ≤ 320) ⊎ (332 ≤ a)
    → SameFrame bin (splice bin a (length new) new)
keeps_frame bin a new len inside samples format wide order revision places =
    let fits : a + length new ≤ length bin = omega arith in
    record {
      samples = slice_apart bin a new 20 22 20 2 (lit≤ tt) (lit≤ tt) samples fits;
      format = slice_apart bin a new 24 26 24 2 (lit≤ tt) (lit≤ tt) format fits;
      wide_samples = slice_apart bin a new 68 72 68 4 (lit≤ tt) (lit≤ tt) wide fits;
      order = slice_apart bin a new 96 100 96 4 (lit≤ tt) (lit≤ tt) order fits;
      major = slice_apart bin a new 300 310 300 1 (lit≤ tt) (lit≤ tt) revision fits;
      minor = slice_apart bin a new 300 310 301 1 (lit≤ tt) (lit≤ tt) revision fits;
      flag = slice_apart bin a new 300 310 302 2 (lit≤ tt) (lit≤ tt) revision fits;
      text_count = slice_apart bin a new 300 310 304 2 (lit≤ tt) (lit≤ tt) revision fits;
      extensions = slice_apart bin a new 300 310 306 4 (lit≤ tt) (lit≤ tt) revision fits;
      first_trace = slice_apart bin a new 320 332 320 8 (lit≤ tt) (lit≤ tt) places fits;
      trailer = slice_apart bin a new 320 332 328 4 (lit≤ tt) (lit≤ tt) places fits;
    }
