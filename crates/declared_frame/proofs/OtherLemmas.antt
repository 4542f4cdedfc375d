-- Where a reading cannot be declared, no load without it cuts the file into the same parts.
use Rattle.std.proofs.Common.{◌≡◌, ℕ, zero, suc, ◌+◌, ◌-◌, ◌*◌, ◌/◌, ◌^◌, ◌≤◌, ◌<◌, Bool, true, false, cond, eqb, ltb, leb, List, [], ◌∷◌, ◌++◌, length, take, drop, refl, sym, ap, ap₂, subst, ◌∙◌, arith, ℤ, pos, negsuc, ◌⊎◌, inl, inr, lit≤, Option, Some, None, Result, Ok, Err, All}
use Rattle.std.specs.Prelude.{◌==◌, ◌&&◌, not, unwrap_or, ◌||◌, nat_abs, is_none, option_map, nat_le, position}
use Rattle.std.specs.List.{list_all, AllByRecursion}
use Rattle.std.specs.Ordering.{int_eq}
use Rattle.std.proofs.lemmas.Int.{ints}
use Rattle.std.proofs.lemmas.Bool.{eqb-true, leb-false, lt-ltb, or_parts, eq-eqb}
use Rattle.std.proofs.lemmas.List.Elements.{recursion_from_All}
use Rattle.std.proofs.Math.Nat.{mul-div_cancel_left}
use Rattle.num_order.specs.declared.order.Order.{Order}
use Rattle.sample_codes.specs.declared.format.Format.{Format}
use Rattle.sample_codes.specs.Formats.{width}
use Rattle.sample_codes.proofs.WidthLemmas.{width-positive}
use Rattle.text_block.specs.Blocks.{ends_text}
use Rattle.frame_cut.specs.declared.file_head.Head.{Head}
use Rattle.frame_cut.specs.declared.limits.Limits.{Limits}
use Rattle.frame_cut.specs.declared.reading.Reading.{Reading}
use Rattle.frame_cut.specs.BinaryHeader.{asks_fixed, order_of, major_of, is_flag_set, samples_field, written_samples, text_count, since_1, bin_signed}
use Rattle.frame_cut.specs.Cuts.{IsCut, IsTrace}
use Rattle.frame_cut.specs.Frames.{extension_count, extension_samples, header_unsigned, length_with, or_else, sample_count, trace_length}
use Rattle.frame_cut.specs.declared.load_fault.LoadFault.{LoadFault}
use Rattle.frame_cut.specs.declared.load_fault.LoadFault.TheVariants.{TextCount}
use Rattle.frame_cut.specs.Heads.{head_of, head_by, head_faults, file_faults, first_fault_else, blocks_for, blocks_in, blocks_to_end, blocks_of}
use Rattle.frame_cut.specs.Parts.{untailed}
use Rattle.frame_cut.specs.Volume.{Volume, bytes_of}
use Rattle.frame_cut.proofs.EditLemmas.{cut_untailed, cut_without}
use Rattle.declared_frame.specs.Laws.{UndeclaredIsOther}
use Rattle.declared_frame.specs.Written.{with_declared, as_declared, can_declare, holds_samples, holds_texts, holds_lengths, has_samples, declared, AreNumbers, AreSameParts}
use Rattle.declared_frame.proofs.StaysLemmas.{declared_by, major_left, stays_cut}
use Rattle.declared_frame.proofs.ValueLemmas.{short_said}
use Rattle.declared_frame.proofs.PartLemmas.{tailless, Known, known, rest_of, grouped, order_kept, no_extensions, flag_unset}
use Rattle.declared_frame.proofs.ReadLemmas.{head_of-is, head_fields}

-- ---- the number of samples

no_samples : (s : Option ℕ) (h : Head) → holds_samples h s ≡ false → (n : ℕ) × (s ≡ Some n) × (eqb h.major 2 ≡ false) × (65535 < n)
no_samples None h e = absurd cc
no_samples (Some n) h e = let p = or_parts (eqb h.major 2) (nat_le n 65535) e in (n, refl, p.0, leb-false n 65535 p.1)

-- ---- the extended textual headers

no_texts : (t : Option ℤ) (h : Head) → holds_texts h t ≡ false → (n : ℤ) × (t ≡ Some n) × (eqb h.major 0 ≡ true) × (int_eq n (pos 0) ≡ false)
no_texts None h e = absurd cc
no_texts (Some n) h e = let p = or_parts (not (eqb h.major 0)) (int_eq n (pos 0)) e in (n, refl, unnot (eqb h.major 0) p.0, p.1)
  where
    unnot : (b : Bool) → not b ≡ false → b ≡ true
    unnot true e = refl
    unnot false e = absurd cc

-- a count that is found and is not 0 is of some blocks
some_blocks : (n : ℤ) (rest : List ℕ) (b : ℕ) → blocks_for n rest ≡ Some b → int_eq n (pos 0) ≡ false → 0 < b
some_blocks (pos n) rest b found some = by (nat_le (3200 * n) (length rest)) found
  where
    by : (holds : Bool) → cond holds (Some n) None ≡ Some b → 0 < b
    by true e = let same : n ≡ b = cc in grind (arith, ints, same, some)
    by false e = absurd cc
some_blocks (negsuc zero) rest b found some = by (position ends_text (blocks_of (length rest / 3200) rest)) found
  where
    by : (o : Option ℕ) → option_map (λ i. i + 1) o ≡ Some b → 0 < b
    by None e = absurd cc
    by (Some i) e = let same : i + 1 ≡ b = cc in omega (arith, same)
some_blocks (negsuc (suc n)) rest b found some = absurd cc

-- ---- the traces

-- a trace that is whole under both heads has the head's number of samples
own_number : (h : Head) (t : List ℕ) → h.fixed ≡ true → h.extensions ≡ 0 → IsTrace h t → IsTrace (record h { fixed = false }) t → has_samples h t ≡ true
own_number h t fixed none is own =
    let other : Head = record h { fixed = false } in
    let wide : extension_samples other t ≡ 0 = rw none refl in
    let n : ℕ = or_else (header_unsigned h 0 115 2 t) h.samples in
    let here : sample_count other t ≡ n = ap (λ (m : ℕ). or_else m n) wide in
    let there : sample_count h t ≡ h.samples = rw fixed refl in
    let one : extension_count h t ≡ Some 0 = rw none refl in
    let a : Some (length_with h 0 n) ≡ Some (length t) = sym (ap₂ (λ (m : ℕ) (e : Option ℕ). option_map (λ k. length_with h k m) e) here one) ∙ own.exact in
    let b : Some (length_with h 0 h.samples) ≡ Some (length t) = sym (ap₂ (λ (m : ℕ) (e : Option ℕ). option_map (λ k. length_with h k m) e) there one) ∙ is.exact in
    let same : length_with h 0 n ≡ length_with h 0 h.samples = some_is _ _ a ∙ sym (some_is _ _ b) in
    eq-eqb n h.samples (cancel (width h.format) n h.samples (width-positive h.format) same)
  where
    some_is : (x y : ℕ) → (let o : Option ℕ = Some x in let p : Option ℕ = Some y in o ≡ p) → x ≡ y
    some_is x y e = cc

    cancel : (w x y : ℕ) → 1 ≤ w → 240 * (1 + 0) + w * x ≡ 240 * (1 + 0) + w * y → x ≡ y
    cancel w x y le e = sym (mul-div_cancel_left x le) ∙ ap (λ (p : ℕ). p / w) (omega (arith, e)) ∙ mul-div_cancel_left y le

all_own : (h : Head) (ts : List (List ℕ)) → h.fixed ≡ true → h.extensions ≡ 0 → AllByRecursion (IsTrace h) ts → AllByRecursion (IsTrace (record h { fixed = false })) ts → list_all (has_samples h) ts ≡ true
all_own h [] fixed none is own = refl
all_own h (t ∷ ts) fixed none is own = rw (own_number h t fixed none is.0 own.0) (all_own h ts fixed none is.1 own.1)

-- ---- what was passed

dropped_ok : (n : ℕ) (xs : List (Bool × LoadFault)) (h k : Head) → first_fault_else xs h ≡ Ok k → (g : Head) × (first_fault_else (drop n xs) h ≡ Ok g)
dropped_ok zero xs h k e = (k, e)
dropped_ok (suc n) [] h k e = (k, e)
dropped_ok (suc n) ((true, fault) ∷ xs) h k e = absurd cc
dropped_ok (suc n) ((false, fault) ∷ xs) h k e = dropped_ok n xs h k e

head_ok : (b : Bool) (fault : LoadFault) (xs : List (Bool × LoadFault)) (h k : Head) → first_fault_else ((b, fault) ∷ xs) h ≡ Ok k → b ≡ false
head_ok true fault xs h k e = absurd cc
head_ok false fault xs h k e = refl

found_some : (o : Option ℕ) (b : ℕ) → is_none o ≡ false → unwrap_or o 0 ≡ b → o ≡ Some b
found_some None b e same = absurd cc
found_some (Some n) b e same = ap (λ (m : ℕ). let o : Option ℕ = Some m in o) same

-- the extended textual headers that the count says are there
blocks_found : (reading : Reading) (l : Limits) (v : Volume) → IsCut (bytes_of v) reading l v → blocks_for (text_count reading (order_of reading v.bin) v.bin) (rest_of v) ≡ Some v.head.blocks
blocks_found reading l v cut =
    let o : Order = order_of reading v.bin in
    let rest : List ℕ = rest_of v in
    let h : Head = head_by reading o v.bin rest in
    let k = known reading l v cut in
    let p = cut.parts in
    let all : first_fault_else (file_faults (v.text ++ v.bin ++ rest) l ++ head_faults reading o v.bin rest) h ≡ Ok v.head = sym (head_of-is reading l v.text v.bin rest p.text p.bin) ∙ k.head in
    let faults : List (Bool × LoadFault) = file_faults (v.text ++ v.bin ++ rest) l ++ head_faults reading o v.bin rest in
    let eighth = dropped_ok 8 faults h v.head all in
    let there : is_none (blocks_for (text_count reading o v.bin) rest) ≡ false = head_ok (is_none (blocks_for (text_count reading o v.bin) rest)) (TextCount (text_count reading o v.bin)) (drop 9 faults) h eighth.0 eighth.1 in
    found_some (blocks_for (text_count reading o v.bin) rest) v.head.blocks there (ap (λ (g : Head). g.blocks) (head_fields reading l v.text v.bin rest v.head p.text p.bin k.head))

-- ---- the law

none_blocks : (o : Order) (bin rest : List ℕ) → eqb (major_of o bin) 0 ≡ true → unwrap_or (blocks_for (since_1 o bin (bin_signed o 3505 2 bin)) rest) 0 ≡ 0
none_blocks o bin rest e = rw e (by (nat_le (3200 * 0) (length rest)))
  where
    by : (b : Bool) → unwrap_or (let o : Option ℕ = cond b (Some 0) None in o) 0 ≡ 0
    by true = refl
    by false = refl

record Other (reading : Reading) (l : Limits) (v w : Volume) : Type 0 where
  cut : IsCut (bytes_of v) reading l v
  again : IsCut (bytes_of (with_declared reading v)) (as_declared reading) l w
  same : AreSameParts (with_declared reading v) w

-- the head without the reading, by the fields
other_head : (reading : Reading) (l : Limits) (v w : Volume) → Other reading l v w → head_by (as_declared reading) (order_of reading v.bin) (declared reading v.head v.bin) (rest_of v) ≡ w.head
other_head reading l v w o =
    let whole = stays_cut reading l v o.cut in
    let b : List ℕ = declared reading v.head v.bin in
    let head : head_of (v.text ++ b ++ rest_of v) (as_declared reading) l ≡ Ok w.head = ap (λ (s : List ℕ). head_of s (as_declared reading) l) (sym (grouped (with_declared reading v))) ∙ o.again.parts.head in
    let order : order_of (as_declared reading) b ≡ order_of reading v.bin = order_kept reading v.head v.bin o.cut.parts.bin in
    subst (λ (q : Order). head_by (as_declared reading) q b (rest_of v) ≡ w.head) order (head_fields (as_declared reading) l v.text b (rest_of v) w.head o.cut.parts.text whole.parts.bin head)

short_of : (h : Head) (s : Option ℕ) (n : ℕ) (f : Option ℕ) (asked : Bool) (t : Option ℤ) (bin : List ℕ) (o : Order) → s ≡ Some n → length bin ≡ 400 → h.order ≡ o → h.major ≡ major_of o bin → eqb h.major 2 ≡ false → 65535 < n
    → written_samples o (declared_by h s f asked t bin) ≡ 0
short_of h s n f asked t bin o is len order major two many = subst (λ (u : Option ℕ). written_samples o (declared_by h u f asked t bin) ≡ 0) (sym is) (short_said h n f asked t bin o len order major two many)

other_samples : (reading : Reading) (l : Limits) (v w : Volume) → Other reading l v w → holds_samples v.head reading.samples ≡ false → ⊥
other_samples reading l v w o e =
    let n = no_samples reading.samples v.head e in
    let k = known reading l v o.cut in
    let q : Order = order_of reading v.bin in
    let is : written_samples q (declared reading v.head v.bin) ≡ w.head.samples = ap (λ (h : Head). h.samples) (other_head reading l v w o) in
    let zero_is : written_samples q (declared reading v.head v.bin) ≡ 0 = short_of v.head reading.samples n.0 reading.format (asks_fixed reading) reading.texts v.bin q n.1 o.cut.parts.bin k.order k.major n.2 n.3 in
    let asked : v.head.samples ≡ n.0 = k.samples ∙ ap (λ (u : Option ℕ). unwrap_or u (written_samples q v.bin)) n.1 in
    let same : w.head.samples ≡ v.head.samples = ap (λ (h : Head). h.samples) o.same.head in
    omega (arith, is, zero_is, asked, same, n.3)

other_texts : (reading : Reading) (l : Limits) (v w : Volume) → Other reading l v w → holds_texts v.head reading.texts ≡ false → ⊥
other_texts reading l v w o e =
    let n = no_texts reading.texts v.head e in
    let k = known reading l v o.cut in
    let q : Order = order_of reading v.bin in
    let b : List ℕ = declared reading v.head v.bin in
    let here : eqb (major_of q b) 0 ≡ true = rw (major_left v.head reading.samples reading.format (asks_fixed reading) reading.texts v.bin o.cut.parts.bin) (ap (λ (m : ℕ). eqb m 0) (sym k.major) ∙ n.2) in
    let none : w.head.blocks ≡ 0 = ap (λ (h : Head). h.blocks) (sym (other_head reading l v w o)) ∙ none_blocks q b (rest_of v) here in
    let found : blocks_for n.0 (rest_of v) ≡ Some v.head.blocks = ap (λ (u : Option ℤ). blocks_for (unwrap_or u (since_1 q v.bin (bin_signed q 3505 2 v.bin))) (rest_of v)) (sym n.1) ∙ blocks_found reading l v o.cut in
    let some : 0 < v.head.blocks = some_blocks n.0 (rest_of v) v.head.blocks found n.3 in
    let same : w.head.blocks ≡ v.head.blocks = ap (λ (h : Head). h.blocks) o.same.head in
    omega (arith, none, some, same)

no_lengths : (asked first all : Bool) → (not asked || not first || all) ≡ false → (asked ≡ true) × (first ≡ true) × (all ≡ false)
no_lengths true true true e = absurd cc
no_lengths true true false e = (refl, refl, refl)
no_lengths true false all e = absurd cc
no_lengths false first all e = absurd cc

other_lengths : (reading : Reading) (l : Limits) (v w : Volume) → Other reading l v w → holds_lengths reading v ≡ false → ⊥
other_lengths reading l v w o e =
    let n = no_lengths (asks_fixed reading) (eqb v.head.major 0) (list_all (has_samples v.head) v.traces) e in
    let k = known reading l v o.cut in
    let q : Order = order_of reading v.bin in
    let flag : is_flag_set q (declared reading v.head v.bin) ≡ false = rw n.0 (flag_unset v.head reading.samples reading.format reading.texts v.bin q o.cut.parts.bin k.major n.1) in
    let off : w.head.fixed ≡ false = ap (λ (h : Head). h.fixed) (sym (other_head reading l v w o)) ∙ flag in
    let head : w.head ≡ record v.head { fixed = false } = o.same.head ∙ ap (λ (b : Bool). record v.head { fixed = b }) off in
    let fixed : v.head.fixed ≡ true = k.fixed ∙ rw n.0 refl in
    let none : v.head.extensions ≡ 0 = k.extensions ∙ no_extensions q v.bin (sym k.major ∙ eqb-true v.head.major 0 n.1) in
    let own : All (IsTrace (record v.head { fixed = false })) v.traces = subst (λ (h : Head). All (IsTrace h) v.traces) head (subst (λ (ts : List (List ℕ)). All (IsTrace w.head) ts) o.same.traces o.again.parts.traces) in
    let all : list_all (has_samples v.head) v.traces ≡ true = all_own v.head v.traces fixed none (recursion_from_All (IsTrace v.head) v.traces o.cut.parts.traces) (recursion_from_All (IsTrace (record v.head { fixed = false })) v.traces own) in
    absurd cc

other_parts : (reading : Reading) (l : Limits) (v w : Volume) → IsCut (bytes_of v) reading l v → can_declare reading v ≡ false
    → IsCut (bytes_of (with_declared reading v)) (as_declared reading) l w → AreSameParts (with_declared reading v) w → ⊥
other_parts reading l v w cut can again same =
    by (holds_samples v.head reading.samples) (holds_texts v.head reading.texts) (holds_lengths reading v) refl refl refl can
  where
    o : Other reading l v w
    o = record { cut = cut; again = again; same = same }

    by : (a b c : Bool) → holds_samples v.head reading.samples ≡ a → holds_texts v.head reading.texts ≡ b → holds_lengths reading v ≡ c → (a && b && c) ≡ false → ⊥
    by false b c x y z e = other_samples reading l v w o x
    by true false c x y z e = other_texts reading l v w o y
    by true true false x y z e = other_lengths reading l v w o z
    by true true true x y z e = absurd cc

pub undeclared_is_other : UndeclaredIsOther
undeclared_is_other reading l v w numbers cut can again same =
    other_parts (tailless reading) l (untailed v) w (cut_without (bytes_of (untailed v)) reading l (untailed v) false (cut_untailed reading l v cut) refl) can again same
