-- The head of a file into which its reading was written, without that reading.
use Rattle.std.proofs.Common.{◌≡◌, ℕ, ◌+◌, ◌-◌, ◌*◌, ◌≤◌, ◌<◌, Bool, true, false, cond, eqb, ltb, List, [], ◌∷◌, ◌++◌, length, take, drop, refl, sym, ap, ap₂, subst, ◌∙◌, arith, append_assoc, ℤ, pos, ◌⊎◌, inl, inr, lit≤, Option, Some, None, Result, Ok, Err, All}
use Rattle.std.specs.Prelude.{◌==◌, ◌&&◌, not, unwrap_or, ◌||◌, nat_abs, is_none, int_lt, option_map}
use Rattle.std.specs.List.{concat}
use Rattle.std.proofs.lemmas.List.{length-append, drop_at, take_at}
use Rattle.num_order.specs.declared.order.Order.{Order}
use Rattle.num_order.specs.Number.{IsBetween}
use Rattle.sample_codes.specs.declared.format.Format.{Format}
use Rattle.sample_codes.specs.Formats.{format_of}
use Rattle.frame_cut.specs.declared.file_head.Head.{Head}
use Rattle.frame_cut.specs.declared.limits.Limits.{Limits}
use Rattle.frame_cut.specs.declared.reading.Reading.{Reading}
use Rattle.frame_cut.specs.declared.load_fault.LoadFault.{LoadFault}
use Rattle.frame_cut.specs.declared.load_fault.LoadFault.TheVariants.{PairSwapped, OtherOrder, Revision, FloatFormat, GainFormat, UnknownFormat, TextCount, Extensions, Trailer, FirstTrace}
use Rattle.frame_cut.specs.BinaryHeader.{asks_fixed, order_of, told_order, is_other_order, is_pair_swapped, is_unknown_revision, major_of, minor_of, format_code, text_count, extensions_field, trailer_field, first_trace, samples_field, is_fixed, is_flag_set}
use Rattle.frame_cut.specs.Heads.{head_of, file_faults, head_faults, head_by, head_in, first_fault_else, format_or_2, blocks_for, blocks_in, is_among, is_trailer_refused, traces_at}
use Rattle.frame_cut.specs.Volume.{Volume, bytes_of}
use Rattle.declared_frame.specs.Written.{as_declared}

-- ---- a head by what is read under a reading

faults_by : Reading → Order → List ℕ → List ℕ → ℕ → ℤ → List (Bool × LoadFault)
faults_by reading o bin rest code count =
    (is_pair_swapped bin, PairSwapped)
    ∷ (is_other_order reading.order (told_order bin), OtherOrder)
    ∷ (is_unknown_revision o bin, Revision (major_of o bin) (minor_of o bin))
    ∷ (not (reading.opaque || reading.floats) && is_among code (1 ∷ 5 ∷ 6 ∷ []), FloatFormat code)
    ∷ (not reading.opaque && is_among code (4 ∷ []), GainFormat)
    ∷ (not (is_among code (1 ∷ 2 ∷ 3 ∷ 4 ∷ 5 ∷ 6 ∷ 7 ∷ 8 ∷ 9 ∷ 10 ∷ 11 ∷ 12 ∷ 15 ∷ 16 ∷ [])), UnknownFormat code)
    ∷ (is_none (blocks_for count rest), TextCount count)
    ∷ (int_lt (extensions_field o bin) (pos 0) || int_lt (pos 255) (extensions_field o bin), Extensions (extensions_field o bin))
    ∷ (is_trailer_refused (trailer_field o bin) (length rest - 3200 * unwrap_or (blocks_for count rest) 0), Trailer (trailer_field o bin))
    ∷ (not (first_trace o bin == 0) && not (first_trace o bin == traces_at (unwrap_or (blocks_for count rest) 0)), FirstTrace (first_trace o bin))
    ∷ []

faults_by-is : (reading : Reading) (o : Order) (bin rest : List ℕ) → head_faults reading o bin rest ≡ faults_by reading o bin rest (format_code reading o bin) (text_count reading o bin)
unfolding faults_by
faults_by-is reading o bin rest = refl

faults_by-declared : (reading : Reading) (o : Order) (bin rest : List ℕ) (code : ℕ) (count : ℤ) → faults_by (as_declared reading) o bin rest code count ≡ faults_by reading o bin rest code count
unfolding faults_by
faults_by-declared reading o bin rest code count = refl

head_with : Reading → Order → List ℕ → List ℕ → ℕ → ℤ → ℕ → Bool → Head
head_with reading o bin rest code count samples fixed = record {
  order = o;
  major = major_of o bin;
  minor = minor_of o bin;
  format = format_or_2 (format_of reading.opaque reading.floats code);
  samples = samples;
  fixed = fixed;
  extensions = nat_abs (extensions_field o bin);
  blocks = unwrap_or (blocks_for count rest) 0;
  trailer = nat_abs (trailer_field o bin);
  traces_at = traces_at (unwrap_or (blocks_for count rest) 0);
}

head_with-is : (reading : Reading) (o : Order) (bin rest : List ℕ) → head_by reading o bin rest ≡ head_with reading o bin rest (format_code reading o bin) (text_count reading o bin) (samples_field reading o bin) (is_fixed reading o bin)
unfolding head_with
head_with-is reading o bin rest = refl

head_with-declared : (reading : Reading) (o : Order) (bin rest : List ℕ) (code : ℕ) (count : ℤ) (samples : ℕ) (fixed other : Bool)
    → head_with (as_declared reading) o bin rest code count samples fixed ≡ record (head_with reading o bin rest code count samples other) { fixed = fixed }
unfolding head_with
head_with-declared reading o bin rest code count samples fixed other = refl

-- the fields say what the reading says
pub record Says (reading : Reading) (o : Order) (bin : List ℕ) : Type 0 where
  pub samples : samples_field (as_declared reading) o bin ≡ samples_field reading o bin
  pub format : format_code (as_declared reading) o bin ≡ format_code reading o bin
  pub texts : text_count (as_declared reading) o bin ≡ text_count reading o bin

faults_same : (reading : Reading) (o : Order) (bin rest : List ℕ) → Says reading o bin → head_faults (as_declared reading) o bin rest ≡ head_faults reading o bin rest
faults_same reading o bin rest s =
    faults_by-is (as_declared reading) o bin rest
    ∙ ap₂ (faults_by (as_declared reading) o bin rest) s.format s.texts
    ∙ faults_by-declared reading o bin rest (format_code reading o bin) (text_count reading o bin)
    ∙ sym (faults_by-is reading o bin rest)

head_same : (reading : Reading) (o : Order) (bin rest : List ℕ) → Says reading o bin → head_by (as_declared reading) o bin rest ≡ record (head_by reading o bin rest) { fixed = is_flag_set o bin }
head_same reading o bin rest s =
    let fixed : Bool = is_fixed (as_declared reading) o bin in
    let q : Reading = as_declared reading in
    head_with-is q o bin rest
    ∙ ap (λ (n : ℕ). head_with q o bin rest (format_code q o bin) (text_count q o bin) n fixed) s.samples
    ∙ ap₂ (λ (code : ℕ) (count : ℤ). head_with q o bin rest code count (samples_field reading o bin) fixed) s.format s.texts
    ∙ head_with-declared reading o bin rest (format_code reading o bin) (text_count reading o bin) (samples_field reading o bin) fixed (is_fixed reading o bin)
    ∙ ap (λ (h : Head). record h { fixed = fixed }) (sym (head_with-is reading o bin rest))

-- ---- no fault holds

pub none_holds : (faults : List (Bool × LoadFault)) (h g k : Head) → first_fault_else faults h ≡ Ok k → (h ≡ k) × (first_fault_else faults g ≡ Ok g)
none_holds [] h g k e = (is h k e, refl)
  where
    is : (a b : Head) → (let ra : Result Head LoadFault = Ok a in let rb : Result Head LoadFault = Ok b in ra ≡ rb) → a ≡ b
    is a b e = cc
none_holds ((true, fault) ∷ more) h g k e = absurd cc
none_holds ((false, fault) ∷ more) h g k e = none_holds more h g k e

-- ---- the whole file

bin_is : (text bin rest : List ℕ) → length text ≡ 3200 → length bin ≡ 400 → take 400 (drop 3200 (text ++ bin ++ rest)) ≡ bin
bin_is text bin rest a b =
    ap (λ (s : List ℕ). take 400 (drop 3200 s)) (append_assoc text bin rest)
    ∙ ap (take 400) (drop_at text (bin ++ rest) 3200 a)
    ∙ take_at bin rest 400 b

rest_is : (text bin rest : List ℕ) → length text ≡ 3200 → length bin ≡ 400 → drop 3600 (text ++ bin ++ rest) ≡ rest
rest_is text bin rest a b = drop_at (text ++ bin) rest 3600 (omega (arith, length-append text bin))

-- the head of a file by its binary header and what stands behind it
pub head_of-is : (reading : Reading) (l : Limits) (text bin rest : List ℕ) → length text ≡ 3200 → length bin ≡ 400
    → head_of (text ++ bin ++ rest) reading l ≡ first_fault_else (file_faults (text ++ bin ++ rest) l ++ head_faults reading (order_of reading bin) bin rest) (head_by reading (order_of reading bin) bin rest)
unfolding head_of
head_of-is reading l text bin rest a b =
    let faults : List (Bool × LoadFault) = file_faults (text ++ bin ++ rest) l in
    ap₂ (λ (s r : List ℕ). first_fault_else (faults ++ head_faults reading (order_of reading s) s r) (head_by reading (order_of reading s) s r)) (bin_is text bin rest a b) (rest_is text bin rest a b)

-- where the fields say what the reading says, the head without it differs in the flag alone
pub head_declared : (reading : Reading) (l : Limits) (text bin rest : List ℕ) (h : Head) → length text ≡ 3200 → length bin ≡ 400 → Says reading (order_of reading bin) bin → head_of (text ++ bin ++ rest) reading l ≡ Ok h
    → head_of (text ++ bin ++ rest) (as_declared reading) l ≡ Ok (record h { fixed = is_flag_set (order_of reading bin) bin })
head_declared reading l text bin rest h a b says e =
    let o : Order = order_of reading bin in
    let faults : List (Bool × LoadFault) = file_faults (text ++ bin ++ rest) l ++ head_faults reading o bin rest in
    let g : Head = record (head_by reading o bin rest) { fixed = is_flag_set o bin } in
    let known : first_fault_else faults (head_by reading o bin rest) ≡ Ok h = sym (head_of-is reading l text bin rest a b) ∙ e in
    let r = none_holds faults (head_by reading o bin rest) g h known in
    let ok : Head → Result Head LoadFault = λ x. Ok x in
    head_of-is (as_declared reading) l text bin rest a b
    ∙ ap₂ (λ (f : List (Bool × LoadFault)) (k : Head). first_fault_else (file_faults (text ++ bin ++ rest) l ++ f) k) (faults_same reading o bin rest says) (head_same reading o bin rest says)
    ∙ r.1
    ∙ ap (λ (k : Head). ok (record k { fixed = is_flag_set o bin })) r.0

-- what a head is by the fields, under its reading
pub head_fields : (reading : Reading) (l : Limits) (text bin rest : List ℕ) (h : Head) → length text ≡ 3200 → length bin ≡ 400 → head_of (text ++ bin ++ rest) reading l ≡ Ok h → head_by reading (order_of reading bin) bin rest ≡ h
head_fields reading l text bin rest h a b e =
    let o : Order = order_of reading bin in
    let r = none_holds (file_faults (text ++ bin ++ rest) l ++ head_faults reading o bin rest) (head_by reading o bin rest) h h (sym (head_of-is reading l text bin rest a b) ∙ e) in
    r.0
