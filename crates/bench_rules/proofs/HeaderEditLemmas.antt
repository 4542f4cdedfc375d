-- Fields by their names, a value in the binary header, and a line of the textual header.
use Rattle.std.proofs.Common.{◌≡◌, ◌⊎◌, ℕ, ◌+◌, ◌*◌, ◌-◌, ◌<◌, ◌≤◌, Bool, true, false, ◌&&◌, cond, List, [], ◌∷◌, replicate, Option, Some, None, Result, Ok, Err, ℤ, refl, sym, ap, subst, ◌∙◌, arith, inl, inr, leb, ltb, is_none, lit≤, suc, length}
use Rattle.std.specs.Prelude.{filter_map, option_map, not}
use Rattle.std.specs.List.{position_from}
use Rattle.std.specs.Option.{option_or}
use Rattle.std.specs.Str.{chars}
use Rattle.std.specs.Result.{IsErr, IsErrAnd}
use Rattle.std.proofs.lemmas.Bool.{leb-true, leb-false, ltb-false, and_cases, or_parts}
use Rattle.std.proofs.lemmas.List.{length-append, length-replicate}
use Rattle.num_order.specs.Number.{bytes, fits}
use Rattle.num_order.proofs.InRangeLemmas.{length-number}
use Rattle.text_block.specs.declared.code.Code.{Code}
use Rattle.text_block.specs.Blocks.{code_of}
use Rattle.text_block.specs.Characters.{byte_of, blank}
use Rattle.text_block.specs.Lines.{text_fault, encoded_line}
use Rattle.field_map.specs.declared.place.Place.{Place}
use Rattle.field_map.specs.declared.map_fault.MapFault.{MapFault}
use Rattle.field_map.specs.declared.map_fault.MapFault.TheVariants as faults
use Rattle.field_map.specs.Pairs.{Pairs}
use Rattle.field_map.specs.Binding.{bind_fault, is_name, is_outside, is_bad_kind, is_full, is_standard}
use Rattle.frame_cut.specs.Cuts.{IsCut}
use Rattle.frame_cut.specs.Splice.{splice}
use Rattle.frame_cut.specs.Traces.{is_trace, count_of}
use Rattle.frame_cut.specs.Volume.{Volume, bytes_of}
use Rattle.frame_cut.proofs.EditLemmas.{cut_with_text, bytes_with_text, length-splice}
use Rattle.frame_cut.proofs.BinEditLemmas.{SameFrame, keeps_frame, same_under, cut_with_bin, bytes_with_bin}
use Rattle.frame_cut.specs.Parts.{with_line, with_header_bytes}
use Rattle.bench_rules.specs.declared.edit.Edit.{Edit}
use Rattle.bench_rules.specs.declared.edit.Edit.TheVariants.{Set, SetBin, SetText, Map}
use Rattle.bench_rules.specs.declared.field.Field.{Field}
use Rattle.bench_rules.specs.declared.field.Field.TheVariants as field
use Rattle.bench_rules.specs.declared.refusal.Refusal.{Refusal}
use Rattle.bench_rules.specs.declared.refusal.Refusal.TheVariants as refusals
use Rattle.bench_rules.specs.MapFaults.{refusal_of}
use Rattle.bench_rules.specs.Places.{place_in_trace, place_in_binary, is_in_binary, touches_frame}
use Rattle.bench_rules.specs.State.{State}
use Rattle.bench_rules.specs.Refused.{first_refusal, map_refusal, is_line}
use Rattle.bench_rules.specs.Steps.{FailsToRead, IsAfter, StepUnless, Step}
use Rattle.bench_rules.proofs.SetLemmas.{unless, both}

-- ---- a field of a trace is its place

pub same_refused : (s : State) (p : ℕ) (f : Field) (place : Place) (x : ℤ) → place_in_trace s.fields f ≡ Some place → first_refusal s (Set p f x) ≡ first_refusal s (Set p (field.Place place) x)
same_refused s p f place x e = rw e refl

pub same_after : (s : State) (p : ℕ) (f : Field) (place : Place) (x : ℤ) (new : State) → place_in_trace s.fields f ≡ Some place → IsAfter s (Set p (field.Place place) x) new → IsAfter s (Set p f x) new
same_after s p f place x new e a = record { volume = rw e a.volume; fields = a.fields; reading = a.reading; limits = a.limits; on_disk = a.on_disk }

same_reads : (s : State) (p : ℕ) (f : Field) (place : Place) (x : ℤ) (r : Refusal) → place_in_trace s.fields f ≡ Some place → FailsToRead s (Set p (field.Place place) x) r → FailsToRead s (Set p f x) r
same_reads s p f place x r e h = (rw e h.0, h.1)

same_unless : {T : Type 0} (s : State) (p : ℕ) (f : Field) (place : Place) (x : ℤ) (new : State) → place_in_trace s.fields f ≡ Some place → (o : Option Refusal) (r : Result T Refusal)
    → StepUnless o s (Set p (field.Place place) x) r new → StepUnless o s (Set p f x) r new
same_unless s p f place x new e (Some refusal) (Ok done) h = h
same_unless s p f place x new e (Some refusal) (Err r) (inl is, same) = (inl is, same)
same_unless s p f place x new e (Some refusal) (Err r) (inr read, same) = (inr (same_reads s p f place x r e read), same)
same_unless s p f place x new e None (Ok done) h = same_after s p f place x new e h
same_unless s p f place x new e None (Err r) (inl none, same) = (inl none, same)
same_unless s p f place x new e None (Err r) (inr read, same) = (inr (same_reads s p f place x r e read), same)

pub same_step : {T : Type 0} (s : State) (p : ℕ) (f : Field) (place : Place) (x : ℤ) (new : State) (r : Result T Refusal) → place_in_trace s.fields f ≡ Some place
    → Step s (Set p (field.Place place) x) r new → Step s (Set p f x) r new
same_step s p f place x new r e h =
    subst (λ (o : Option Refusal). StepUnless o s (Set p f x) r new) (sym (same_refused s p f place x e)) (same_unless s p f place x new e (first_refusal s (Set p (field.Place place) x)) r h)

-- a field without a place is always refused
by_trace : (b : Bool) (a z : Refusal) → option_or (cond b None (Some z)) (Some a) ≡ None → ⊥
by_trace true a z e = absurd cc
by_trace false a z e = absurd cc

pub no_place : (s : State) (p : ℕ) (f : Field) (x : ℤ) → place_in_trace s.fields f ≡ None → first_refusal s (Set p f x) ≡ None → ⊥
no_place s p f x e none = by_trace (is_trace s.volume p) refusals.NoField (refusals.NoTrace p (count_of s.volume)) (rw e at none)

-- ---- a value in the binary header

pub record BinAccepted (place : Place) (x : ℤ) : Type 0 where
  pub inside : is_in_binary place ≡ true
  pub fits : fits place.kind x ≡ true
  pub apart : touches_frame place ≡ false

pub no_bin_place : (s : State) (f : Field) (x : ℤ) → place_in_binary f ≡ None → first_refusal s (SetBin f x) ≡ None → ⊥
no_bin_place s f x e none = let r : (let o : Option Refusal = Some refusals.NoField in o) ≡ None = rw e at none in absurd cc

pub no_map_place : (s : State) (name : List ℕ) (f : Field) → place_in_trace s.fields f ≡ None → first_refusal s (Map name f) ≡ None → ⊥
no_map_place s name f e none = let r : (let o : Option Refusal = Some refusals.NoField in o) ≡ None = rw e at none in absurd cc

not_so : (b : Bool) (r : Refusal) → cond b (Some r) None ≡ None → b ≡ false
not_so true r e = absurd cc
not_so false r e = refl

pub bin_accepted : (s : State) (f : Field) (place : Place) (x : ℤ) → place_in_binary f ≡ Some place → first_refusal s (SetBin f x) ≡ None → BinAccepted place x
bin_accepted s f place x e none =
    let first = unless (is_in_binary place) refusals.NoPlace _ (rw e at none) in
    let second = unless (fits place.kind x) refusals.DoesNotFit _ first.1 in
    record { inside = first.0; fits = second.0; apart = not_so (touches_frame place) refusals.Frame second.1 }

-- the volume with the value over the place
abbrev pub with_binary : Volume → Place → ℤ → Volume
with_binary v place x = record v { bin = splice v.bin (place.byte - 3201) place.kind.size (bytes v.head.order place.kind x) }

-- where the place lies
pub record InBinary (place : Place) : Type 0 where
  pub first : 3201 ≤ place.byte
  pub last : place.byte + place.kind.size ≤ 3601

pub in_binary : (place : Place) → is_in_binary place ≡ true → InBinary place
in_binary place e =
    let outer = both _ _ e in
    let inner = both _ _ outer.0 in
    record { first = leb-true 3201 place.byte inner.1; last = leb-true (place.byte + place.kind.size) 3601 outer.1 }

-- a place without a byte of a field from low to high ends before it or begins behind it, counted from 0 as well
beside : (low high byte size : ℕ) → 3201 ≤ byte → 3201 ≤ low → (leb byte high && ltb low (byte + size)) ≡ false
    → (byte - 3201 + size ≤ low - 3201) ⊎ (high + 1 - 3201 ≤ byte - 3201)
beside low high byte size f g e = by (and_cases (leb byte high) (ltb low (byte + size)) e)
  where
    by : (leb byte high ≡ false) ⊎ (ltb low (byte + size) ≡ false) → (byte - 3201 + size ≤ low - 3201) ⊎ (high + 1 - 3201 ≤ byte - 3201)
    by (inl h) = let l : high < byte = leb-false byte high h in inr (omega arith)
    by (inr h) = let l : byte + size ≤ low = ltb-false low (byte + size) h in inl (omega arith)

-- the bytes of the value spare the fields that say how the file is cut
pub spares_frame : (bin : List ℕ) (place : Place) (new : List ℕ) → length bin ≡ 400 → length new ≡ place.kind.size → is_in_binary place ≡ true → touches_frame place ≡ false
    → SameFrame bin (splice bin (place.byte - 3201) (length new) new)
spares_frame bin place new len size inside apart =
    let i = in_binary place inside in
    let n : ℕ = place.kind.size in
    let a = or_parts _ _ apart in
    let b = or_parts _ _ a.1 in
    let c = or_parts _ _ b.1 in
    let d = or_parts _ _ c.1 in
    let e = or_parts _ _ d.1 in
    let f = or_parts _ _ e.1 in
    let to : length new ≡ n = size in
    keeps_frame bin (place.byte - 3201) new len (omega (arith, size, i.first, i.last))
    (rw size (beside 3221 3222 place.byte n i.first (lit≤ tt) a.0))
    (rw size (beside 3225 3226 place.byte n i.first (lit≤ tt) b.0))
    (rw size (beside 3269 3272 place.byte n i.first (lit≤ tt) c.0))
    (rw size (beside 3297 3300 place.byte n i.first (lit≤ tt) d.0))
    (rw size (beside 3501 3510 place.byte n i.first (lit≤ tt) e.0))
    (rw size (beside 3521 3532 place.byte n i.first (lit≤ tt) f.0))

pub bin_is_after : (s : State) (f : Field) (place : Place) (x : ℤ) → place_in_binary f ≡ Some place → IsCut (bytes_of s.volume) s.reading s.limits s.volume → BinAccepted place x
    → IsAfter s (SetBin f x) (record s { volume = with_binary s.volume place x })
bin_is_after s f place x e cut a =
    let v : Volume = s.volume in
    let new : List ℕ = bytes v.head.order place.kind x in
    let size : length new ≡ place.kind.size = length-number v.head.order place.kind x in
    let at : ℕ = place.byte - 3201 in
    let i = in_binary place a.inside in
    let bin : splice v.bin at place.kind.size new ≡ splice v.bin at (length new) new = ap (λ (n : ℕ). splice v.bin at n new) (sym size) in
    let same : SameFrame v.bin (splice v.bin at (length new) new) = spares_frame v.bin place new cut.parts.bin size a.inside a.apart in
    let inside : at + place.kind.size ≤ length v.bin = omega (arith, cut.parts.bin, i.first, i.last) in
    let len : length (splice v.bin at (length new) new) ≡ 400 = length-splice v.bin at new (omega (arith, size, inside)) ∙ cut.parts.bin in
    let recut = cut_with_bin s.reading s.limits v (splice v.bin at (length new) new) cut len (same_under s.reading v.bin (splice v.bin at (length new) new) same) in
    let recut_is : IsCut (bytes_of (with_binary v place x)) s.reading s.limits (with_binary v place x) = subst (λ (b : List ℕ). IsCut (bytes_of (record v { bin = b })) s.reading s.limits (record v { bin = b })) (sym bin) recut in
    let place_is : 3200 + at ≡ place.byte - 1 = omega (arith, i.first) in
    let bytes_are : bytes_of (with_binary v place x) ≡ splice (bytes_of v) (place.byte - 1) place.kind.size new =
    bytes_with_bin v at place.kind.size new cut.parts.text inside ∙ ap (λ (k : ℕ). splice (bytes_of v) k place.kind.size new) place_is in
    record {
      volume = rw e (subst (λ (file : List ℕ). IsCut file s.reading s.limits (with_binary v place x)) bytes_are recut_is);
      fields = refl;
      reading = refl;
      limits = refl;
      on_disk = refl;
    }

-- ---- a line of the textual header

pub record TextAccepted (block : List ℕ) (q : ℕ) (text : List ℕ) : Type 0 where
  pub first : 1 ≤ q
  pub last : q ≤ 40
  pub line : text_fault (code_of block) (chars text) ≡ None

pub no_fault : {X Y : Type 0} (o : Option X) (g : X → Y) → option_map g o ≡ None → o ≡ None
no_fault None g e = refl
no_fault (Some x) g e = absurd cc

pub text_accepted : (s : State) (q : ℕ) (text : List ℕ) → first_refusal s (SetText q text) ≡ None → TextAccepted s.volume.text q text
text_accepted s q text none =
    let first = unless (is_line q) refusals.NoPlace _ none in
    let range = both _ _ first.0 in
    record { first = leb-true 1 q range.0; last = leb-true q 40 range.1; line = no_fault _ _ first.1 }

not_none : {n : ℕ} → (let o : Option ℕ = Some n in o) ≡ None → ⊥
not_none e = absurd cc

unless_long : {X : Type 0} (x : X) (o : Option X) (b : Bool) → cond b (Some x) o ≡ None → (b ≡ false) × (o ≡ None)
unless_long x o true e = absurd cc
unless_long x o false e = (refl, e)

-- as many bytes as characters, where each has one
length-coded : (f : ℕ → Option ℕ) (cs : List ℕ) (n : ℕ) → position_from (λ c. is_none (f c)) n cs ≡ None → length (filter_map f cs) ≡ length cs
length-coded f [] n e = refl
length-coded f (c ∷ cs) n e = by (f c) refl e (length-coded f cs (n + 1))
  where
    by : (o : Option ℕ) → f c ≡ o → position_from (λ d. is_none (f d)) n (c ∷ cs) ≡ None → (position_from (λ d. is_none (f d)) (n + 1) cs ≡ None → length (filter_map f cs) ≡ length cs) → length (filter_map f (c ∷ cs)) ≡ length (c ∷ cs)
    by None g h rest = absurd (not_none (rw g at h))
    by (Some b) g h rest = rw g (ap suc (rest (rw g at h)))

pub length-line : (code : Code) (cs : List ℕ) → text_fault code cs ≡ None → length (encoded_line code cs) ≡ 80
length-line code cs e =
    let short = unless_long _ _ (ltb 80 (length cs)) e in
    let few : length cs ≤ 80 = ltb-false 80 (length cs) short.0 in
    let coded : length (filter_map (byte_of code) cs) ≡ length cs = length-coded (byte_of code) cs 1 (no_fault _ _ short.1) in
    omega (arith, length-append (filter_map (byte_of code) cs) (replicate (80 - length cs) (blank code)), length-replicate (80 - length cs) (blank code))

-- the volume with the text as line q
abbrev pub with_text : Volume → ℕ → List ℕ → Volume
with_text v q text = record v { text = splice v.text (80 * (q - 1)) 80 (encoded_line (code_of v.text) (chars text)) }

pub text_is_after : (s : State) (q : ℕ) (text : List ℕ) → IsCut (bytes_of s.volume) s.reading s.limits s.volume → TextAccepted s.volume.text q text
    → IsAfter s (SetText q text) (record s { volume = with_text s.volume q text })
text_is_after s q text cut a =
    let v : Volume = s.volume in
    let line : List ℕ = encoded_line (code_of v.text) (chars text) in
    let at : ℕ = 80 * (q - 1) in
    let size : length line ≡ 80 = length-line (code_of v.text) (chars text) a.line in
    let inside : at + 80 ≤ length v.text = omega (arith, cut.parts.text, a.first, a.last) in
    let same : splice v.text at (length line) line ≡ splice v.text at 80 line = ap (λ (n : ℕ). splice v.text at n line) size in
    let len : length (splice v.text at 80 line) ≡ 3200 = ap length (sym same) ∙ length-splice v.text at line (omega (arith, size, inside)) ∙ cut.parts.text in
    let recut = cut_with_text s.reading s.limits v (splice v.text at 80 line) cut len in
    record {
      volume = subst (λ (file : List ℕ). IsCut file s.reading s.limits (with_text v q text)) (bytes_with_text v at 80 line inside) recut;
      fields = refl;
      reading = refl;
      limits = refl;
      on_disk = refl;
    }

-- ---- what the bench makes of the volume

-- the volume is the cut of its bytes again
pub after_cut : (s : State) (edit : Edit) (w : Volume) → IsAfter s edit (record s { volume = w }) → IsCut (bytes_of w) s.reading s.limits w
after_cut s edit w after = subst (λ (file : List ℕ). IsCut file s.reading s.limits w) (sym after.volume.joined) after.volume

-- where the overlay puts the value's bytes at their place
pub bin_done : (s : State) (place : Place) (x : ℤ) (w : Volume) (at : ℕ) (new : List ℕ) → IsCut (bytes_of s.volume) s.reading s.limits s.volume → first_refusal s (SetBin (field.Place place) x) ≡ None
    → at ≡ place.byte - 3201 → new ≡ bytes s.volume.head.order place.kind x → w ≡ with_header_bytes s.volume at new → IsAfter s (SetBin (field.Place place) x) (record s { volume = w })
bin_done s place x w at new cut none e f is =
    let size : length new ≡ place.kind.size = ap length f ∙ length-number s.volume.head.order place.kind x in
    let same : w ≡ with_binary s.volume place x = is ∙ rw (size, e, f) refl in
    subst (λ (u : Volume). IsAfter s (SetBin (field.Place place) x) (record s { volume = u })) (sym same)
    (bin_is_after s (field.Place place) place x refl cut (bin_accepted s (field.Place place) place x refl none))

pub bin_room : (s : State) (place : Place) (x : ℤ) (at : ℕ) (new : List ℕ) → first_refusal s (SetBin (field.Place place) x) ≡ None → at ≡ place.byte - 3201 → new ≡ bytes s.volume.head.order place.kind x → at + length new ≤ 400
bin_room s place x at new none e f =
    let a = bin_accepted s (field.Place place) place x refl none in
    let i = in_binary place a.inside in
    omega (arith, ap length f, length-number s.volume.head.order place.kind x, i.first, i.last, e)

-- where the overlay puts the text's bytes at their line
pub text_done : (s : State) (q : ℕ) (text : List ℕ) (w : Volume) (line : List ℕ) → IsCut (bytes_of s.volume) s.reading s.limits s.volume → is_line q ≡ true → text_fault (code_of s.volume.text) (chars text) ≡ None
    → line ≡ encoded_line (code_of s.volume.text) (chars text) → w ≡ with_line s.volume q line → IsAfter s (SetText q text) (record s { volume = w })
text_done s q text w line cut there none is same =
    let range = both _ _ there in
    let a : TextAccepted s.volume.text q text = record { first = leb-true 1 q range.0; last = leb-true q 40 range.1; line = none } in
    let size : length line ≡ 80 = ap length is ∙ length-line (code_of s.volume.text) (chars text) none in
    let made : w ≡ with_text s.volume q text = same ∙ rw (size, is) refl in
    subst (λ (u : Volume). IsAfter s (SetText q text) (record s { volume = u })) (sym made) (text_is_after s q text cut a)

pub text_refused_none : (s : State) (q : ℕ) (text : List ℕ) → is_line q ≡ true → text_fault (code_of s.volume.text) (chars text) ≡ None → first_refusal s (SetText q text) ≡ None
text_refused_none s q text there none = rw (there, none) refl

-- ---- a fault of the field map

-- a fault that is known to be E08 comes first, or a later one
earlier : (b : Bool) (x f : MapFault) (o : Option MapFault) → refusal_of x ≡ refusals.Map x → (o ≡ Some f → refusal_of f ≡ refusals.Map f) → cond b (Some x) o ≡ Some f → refusal_of f ≡ refusals.Map f
earlier true x f o known rest e = let same : x ≡ f = cc in subst (λ (y : MapFault). refusal_of y ≡ refusals.Map y) same known
earlier false x f o known rest e = rest e

none_left : (f : MapFault) → (let o : Option MapFault = None in o) ≡ Some f → refusal_of f ≡ refusals.Map f
none_left f e = absurd cc

bind_fault_is_map : (extensions : ℕ) (pairs : Pairs) (name : List ℕ) (place : Place) (f : MapFault) → bind_fault extensions pairs name place ≡ Some f → refusal_of f ≡ refusals.Map f
bind_fault_is_map extensions pairs name place f e =
    earlier (not (is_name name)) faults.BadName f _ refl
    (λ e1. earlier (is_outside extensions name place) faults.OutsideHeader f _ refl
    (λ e2. earlier (is_bad_kind name place.kind) faults.BadKind f _ refl
    (λ e3. earlier (is_full pairs name) faults.Full f _ refl
    (λ e4. earlier (is_standard name) faults.Standard f _ refl (none_left f) e4) e3) e2) e1) e

pub map_refused : {T : Type 0} (s new : State) (name : List ℕ) (place : Place) (fault : MapFault) (r : Result T Refusal) → new ≡ s → IsErr r → IsErrAnd r (λ refusal. refusal ≡ refusal_of fault)
    → (bind_fault s.volume.head.extensions s.fields name place ≡ Some fault) ⊎ ((bind_fault s.volume.head.extensions s.fields name place ≡ None) × (fault ≡ faults.OutOfMemory))
    → Step s (Map name (field.Place place)) r new
map_refused s new name place fault (Ok done) same err is e = absurd is
map_refused s new name place fault (Err refusal) same err is (inl e) =
    rw e (inl (is ∙ bind_fault_is_map s.volume.head.extensions s.fields name place fault e), same)
map_refused s new name place fault (Err refusal) same err is (inr e) = rw e.0 (inl (is ∙ ap refusal_of e.1, tt), same)

-- ---- a name bound to the place of a field

placed_unless : {T : Type 0} (o : Option Refusal) (s new : State) (name : List ℕ) (f : Field) (place : Place) (r : Result T Refusal) → place_in_trace s.fields f ≡ Some place
    → StepUnless o s (Map name (field.Place place)) r new → StepUnless o s (Map name f) r new
placed_unless (Some refusal) s new name f place (Ok done) e step = absurd step
placed_unless (Some refusal) s new name f place (Err t) e (inl told, same) = (inl told, same)
placed_unless (Some refusal) s new name f place (Err t) e (inr read, same) = (inr (rw e read.0, read.1), same)
placed_unless None s new name f place (Ok done) e after = record {
  volume = after.volume;
  fields = rw e after.fields;
  reading = after.reading;
  limits = after.limits;
  on_disk = after.on_disk;
}
placed_unless None s new name f place (Err t) e (inl wants, same) = (inl wants, same)
placed_unless None s new name f place (Err t) e (inr read, same) = (inr (rw e read.0, read.1), same)

-- a name bound to the place of a field is bound to that place
pub map_placed : {T : Type 0} (s new : State) (name : List ℕ) (f : Field) (place : Place) (r : Result T Refusal) → place_in_trace s.fields f ≡ Some place
    → Step s (Map name (field.Place place)) r new → Step s (Map name f) r new
map_placed s new name f place r e step =
    let told : map_refusal s name (Some place) ≡ first_refusal s (Map name f) = ap (map_refusal s name) (sym e) in
    subst (λ (o : Option Refusal). StepUnless o s (Map name f) r new) told (placed_unless (map_refusal s name (Some place)) s new name f place r e step)
