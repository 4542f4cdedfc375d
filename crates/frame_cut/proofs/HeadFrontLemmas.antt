-- The head is read from the binary header and the extended textual headers alone.
use Rattle.std.proofs.Common.{◌≡◌, ℕ, ◌+◌, ◌*◌, ◌-◌, ◌≤◌, Bool, true, false, cond, ltb, List, ◌++◌, length, take, drop, Option, Some, None, Result, Ok, Err, refl, sym, ap, ◌∙◌, arith, ℤ, pos, negsuc, append_assoc, FitsSigned, to_z, of_z, w32}
use Rattle.std.specs.Prelude.{◌||◌, nat_abs, int_lt, not, ◌&&◌, ◌==◌, [], ◌∷◌, is_none, unwrap_or}
use Rattle.std.proofs.lemmas.Bool.{ltb-false, le-ltb}
use Rattle.std.proofs.lemmas.Bool.Decides.{nat_tests}
use Rattle.std.proofs.lemmas.Int.{ints, to_z-of_z}
use Rattle.std.proofs.lemmas.List.{length-append, length-drop, take_at, drop_at}
use Rattle.num_order.specs.declared.order.Order.{Order}
use Rattle.frame_cut.specs.declared.file_head.Head.{Head}
use Rattle.frame_cut.specs.declared.limits.Limits.{Limits}
use Rattle.frame_cut.specs.declared.reading.Reading.{Reading}
use Rattle.frame_cut.specs.declared.load_fault.LoadFault.{LoadFault}
use Rattle.frame_cut.specs.declared.load_fault.LoadFault.TheVariants.{TooLarge, Short, PairSwapped, OtherOrder, Revision, FloatFormat, GainFormat, UnknownFormat, TextCount, Extensions, Trailer, FirstTrace}
use Rattle.frame_cut.specs.BinaryHeader.{order_of, told_order, is_other_order, major_of, minor_of, extensions_field, trailer_field, first_trace, text_count, format_code, is_pair_swapped, is_unknown_revision}
use Rattle.frame_cut.specs.Heads.{head_of, head_from, head_faults, head_by, head_in, first_fault_else, format_in, blocks_for, blocks_in, is_among, is_trailer_refused, traces_at}
use Rattle.frame_cut.proofs.BlockLemmas.{blocks_for-front, blocks_for-le}

-- what is known of a file that has a head
pub record HasHead (file : List ℕ) (l : Limits) (h : Head) : Type 0 where
  pub small : length file ≤ l.bytes
  pub whole : 3600 + 3200 * h.blocks + 3200 * h.trailer ≤ length file
  pub first : h.traces_at ≡ 3600 + 3200 * h.blocks
  pub extensions : h.extensions ≤ 255

-- a check that was passed
past : (b : Bool) (f : LoadFault) (y : Result Head LoadFault) (h : Head) → cond b (Err f) y ≡ Ok h → (b ≡ false) × (y ≡ Ok h)
past true f y h e = absurd cc
past false f y h e = (refl, e)

passed : (b : Bool) (f : LoadFault) (y : Result Head LoadFault) (h : Head) → b ≡ false → y ≡ Ok h → cond b (Err f) y ≡ Ok h
passed b f y h e k = rw e k

-- ---- trailer records and extensions

trailer-le : (count : ℤ) (left : ℕ) → is_trailer_refused count left ≡ false → 3200 * nat_abs count ≤ left
trailer-le (pos n) left e = ltb-false left (3200 * n) e
trailer-le (negsuc n) left e = absurd cc

trailer-fits : (count : ℤ) (left other : ℕ) → is_trailer_refused count left ≡ false → 3200 * nat_abs count ≤ other → is_trailer_refused count other ≡ false
trailer-fits (pos n) left other e le = le-ltb other (3200 * n) le
trailer-fits (negsuc n) left other e le = absurd cc

extensions-le : (count : ℤ) → (int_lt count (pos 0) || int_lt (pos 255) count) ≡ false → nat_abs count ≤ 255
extensions-le (pos n) e = grind (arith, nat_tests, ints)
extensions-le (negsuc n) e = absurd cc

-- ---- the checks of the binary header

-- whether the place of the first trace is another one
abbrev pub is_elsewhere : Order → List ℕ → ℕ → Bool
is_elsewhere o bin n = not (first_trace o bin == 0) && not (first_trace o bin == traces_at n)

-- what was passed: the conditions of the ten refusals, none of which holds
record Checked (reading : Reading) (o : Order) (bin rest : List ℕ) (h : Head) : Type 0 where
  swapped : is_pair_swapped bin ≡ false
  otherwise : is_other_order reading.order (told_order bin) ≡ false
  revision : is_unknown_revision o bin ≡ false
  float : (not (reading.opaque || reading.floats) && is_among (format_code reading o bin) (1 ∷ 5 ∷ 6 ∷ [])) ≡ false
  gain : (not reading.opaque && is_among (format_code reading o bin) (4 ∷ [])) ≡ false
  unknown : not (is_among (format_code reading o bin) (1 ∷ 2 ∷ 3 ∷ 4 ∷ 5 ∷ 6 ∷ 7 ∷ 8 ∷ 9 ∷ 10 ∷ 11 ∷ 12 ∷ 15 ∷ 16 ∷ [])) ≡ false
  text : is_none (blocks_for (text_count reading o bin) rest) ≡ false
  extensions : (int_lt (extensions_field o bin) (pos 0) || int_lt (pos 255) (extensions_field o bin)) ≡ false
  trailer : is_trailer_refused (trailer_field o bin) (length rest - 3200 * blocks_in reading o bin rest) ≡ false
  first : is_elsewhere o bin (blocks_in reading o bin rest) ≡ false
  is : head_by reading o bin rest ≡ h

ok_is : (a b : Head) → let ra : Result Head LoadFault = Ok a in let rb : Result Head LoadFault = Ok b in ra ≡ rb → a ≡ b
ok_is a b e = cc

checked : (reading : Reading) (o : Order) (bin rest : List ℕ) (h : Head) → first_fault_else (head_faults reading o bin rest) (head_by reading o bin rest) ≡ Ok h → Checked reading o bin rest h
checked reading o bin rest h e =
    let swapped = past (is_pair_swapped bin) PairSwapped _ h e in
    let otherwise = past (is_other_order reading.order (told_order bin)) OtherOrder _ h swapped.1 in
    let revision = past (is_unknown_revision o bin) (Revision (major_of o bin) (minor_of o bin)) _ h otherwise.1 in
    let float = past (not (reading.opaque || reading.floats) && is_among (format_code reading o bin) (1 ∷ 5 ∷ 6 ∷ [])) (FloatFormat (format_code reading o bin)) _ h revision.1 in
    let gain = past (not reading.opaque && is_among (format_code reading o bin) (4 ∷ [])) GainFormat _ h float.1 in
    let unknown = past (not (is_among (format_code reading o bin) (1 ∷ 2 ∷ 3 ∷ 4 ∷ 5 ∷ 6 ∷ 7 ∷ 8 ∷ 9 ∷ 10 ∷ 11 ∷ 12 ∷ 15 ∷ 16 ∷ []))) (UnknownFormat (format_code reading o bin)) _ h gain.1 in
    let text = past (is_none (blocks_for (text_count reading o bin) rest)) (TextCount (text_count reading o bin)) _ h unknown.1 in
    let extensions = past (int_lt (extensions_field o bin) (pos 0) || int_lt (pos 255) (extensions_field o bin)) (Extensions (extensions_field o bin)) _ h text.1 in
    let trailer = past (is_trailer_refused (trailer_field o bin) (length rest - 3200 * blocks_in reading o bin rest)) (Trailer (trailer_field o bin)) _ h extensions.1 in
    let first = past (is_elsewhere o bin (blocks_in reading o bin rest)) (FirstTrace (first_trace o bin)) _ h trailer.1 in
    record {
      swapped = swapped.0;
      otherwise = otherwise.0;
      revision = revision.0;
      float = float.0;
      gain = gain.0;
      unknown = unknown.0;
      text = text.0;
      extensions = extensions.0;
      trailer = trailer.0;
      first = first.0;
      is = ok_is (head_by reading o bin rest) h first.1;
    }

rechecked : (reading : Reading) (o : Order) (bin rest : List ℕ) (h : Head) → Checked reading o bin rest h → first_fault_else (head_faults reading o bin rest) (head_by reading o bin rest) ≡ Ok h
rechecked reading o bin rest h k =
    passed (is_pair_swapped bin) PairSwapped _ h k.swapped
    (passed (is_other_order reading.order (told_order bin)) OtherOrder _ h k.otherwise
    (passed (is_unknown_revision o bin) (Revision (major_of o bin) (minor_of o bin)) _ h k.revision
    (passed (not (reading.opaque || reading.floats) && is_among (format_code reading o bin) (1 ∷ 5 ∷ 6 ∷ [])) (FloatFormat (format_code reading o bin)) _ h k.float
    (passed (not reading.opaque && is_among (format_code reading o bin) (4 ∷ [])) GainFormat _ h k.gain
    (passed (not (is_among (format_code reading o bin) (1 ∷ 2 ∷ 3 ∷ 4 ∷ 5 ∷ 6 ∷ 7 ∷ 8 ∷ 9 ∷ 10 ∷ 11 ∷ 12 ∷ 15 ∷ 16 ∷ []))) (UnknownFormat (format_code reading o bin)) _ h k.unknown
    (passed (is_none (blocks_for (text_count reading o bin) rest)) (TextCount (text_count reading o bin)) _ h k.text
    (passed (int_lt (extensions_field o bin) (pos 0) || int_lt (pos 255) (extensions_field o bin)) (Extensions (extensions_field o bin)) _ h k.extensions
    (passed (is_trailer_refused (trailer_field o bin) (length rest - 3200 * blocks_in reading o bin rest)) (Trailer (trailer_field o bin)) _ h k.trailer
    (passed (is_elsewhere o bin (blocks_in reading o bin rest)) (FirstTrace (first_trace o bin)) _ h k.first
    (ap (λ (x : Head). let r : Result Head LoadFault = Ok x in r) k.is))))))))))

-- a number of blocks that is there
some_is : (m : Option ℕ) → is_none m ≡ false → m ≡ Some (unwrap_or m 0)
some_is None e = absurd cc
some_is (Some n) e = refl

-- the number of blocks is that of the head
blocks_are : (reading : Reading) (o : Order) (bin rest : List ℕ) (h : Head) → Checked reading o bin rest h → blocks_in reading o bin rest ≡ h.blocks
blocks_are reading o bin rest h k = ap (λ (x : Head). x.blocks) k.is

blocks_found : (reading : Reading) (o : Order) (bin rest : List ℕ) (h : Head) → Checked reading o bin rest h → blocks_for (text_count reading o bin) rest ≡ Some h.blocks
blocks_found reading o bin rest h k =
    some_is (blocks_for (text_count reading o bin) rest) k.text ∙ ap (λ (n : ℕ). let m : Option ℕ = Some n in m) (blocks_are reading o bin rest h k)

-- other bytes behind the blocks
front_checked : (reading : Reading) (o : Order) (bin front xs ys : List ℕ) (h : Head) → length front ≡ 3200 * h.blocks → 3200 * h.trailer ≤ length ys → Checked reading o bin (front ++ xs) h → Checked reading o bin (front ++ ys) h
front_checked reading o bin front xs ys h len le k =
    let found : blocks_for (text_count reading o bin) (front ++ xs) ≡ Some h.blocks = blocks_found reading o bin (front ++ xs) h k in
    let again : blocks_for (text_count reading o bin) (front ++ ys) ≡ Some h.blocks = blocks_for-front (text_count reading o bin) h.blocks front xs ys len found in
    let old : blocks_in reading o bin (front ++ xs) ≡ h.blocks = blocks_are reading o bin (front ++ xs) h k in
    let new : blocks_in reading o bin (front ++ ys) ≡ h.blocks = ap (λ (m : Option ℕ). unwrap_or m 0) again in
    let same : blocks_in reading o bin (front ++ ys) ≡ blocks_in reading o bin (front ++ xs) = new ∙ sym old in
    let trailer : nat_abs (trailer_field o bin) ≡ h.trailer = ap (λ (x : Head). x.trailer) k.is in
    let room : 3200 * nat_abs (trailer_field o bin) ≤ length (front ++ ys) - 3200 * blocks_in reading o bin (front ++ ys) = omega (arith, length-append front ys, new, len, trailer, le) in
    record {
      swapped = k.swapped;
      otherwise = k.otherwise;
      revision = k.revision;
      float = k.float;
      gain = k.gain;
      unknown = k.unknown;
      text = ap is_none again;
      extensions = k.extensions;
      trailer = trailer-fits (trailer_field o bin) (length (front ++ xs) - 3200 * blocks_in reading o bin (front ++ xs)) (length (front ++ ys) - 3200 * blocks_in reading o bin (front ++ ys)) k.trailer room;
      first = ap (is_elsewhere o bin) same ∙ k.first;
      is = ap (head_in reading o bin (format_in reading o bin)) same ∙ k.is;
    }

head_from-front : (reading : Reading) (bin front xs ys : List ℕ) (h : Head) → length front ≡ 3200 * h.blocks → 3200 * h.trailer ≤ length ys → head_from reading bin (front ++ xs) ≡ Ok h → head_from reading bin (front ++ ys) ≡ Ok h
head_from-front reading bin front xs ys h len le e =
    let o : Order = order_of reading bin in
    rechecked reading o bin (front ++ ys) h (front_checked reading o bin front xs ys h len le (checked reading o bin (front ++ xs) h e))

head_from-has : (reading : Reading) (bin rest : List ℕ) (h : Head) → head_from reading bin rest ≡ Ok h
    → (3200 * h.blocks + 3200 * h.trailer ≤ length rest) × (h.traces_at ≡ 3600 + 3200 * h.blocks) × (h.extensions ≤ 255)
head_from-has reading bin rest h e =
    let o : Order = order_of reading bin in
    let k : Checked reading o bin rest h = checked reading o bin rest h e in
    let n : blocks_in reading o bin rest ≡ h.blocks = blocks_are reading o bin rest h k in
    let inside : 3200 * h.blocks ≤ length rest = blocks_for-le (text_count reading o bin) h.blocks rest (blocks_found reading o bin rest h k) in
    let records : 3200 * nat_abs (trailer_field o bin) ≤ length rest - 3200 * blocks_in reading o bin rest = trailer-le (trailer_field o bin) (length rest - 3200 * blocks_in reading o bin rest) k.trailer in
    let trailer : nat_abs (trailer_field o bin) ≡ h.trailer = ap (λ (x : Head). x.trailer) k.is in
    let traces : traces_at (blocks_in reading o bin rest) ≡ h.traces_at = ap (λ (x : Head). x.traces_at) k.is in
    let few : nat_abs (extensions_field o bin) ≤ 255 = extensions-le (extensions_field o bin) k.extensions in
    let extensions : nat_abs (extensions_field o bin) ≡ h.extensions = ap (λ (x : Head). x.extensions) k.is in
    (omega arith, omega arith, omega arith)

-- ---- the whole file

head_of-parts : (file : List ℕ) (reading : Reading) (l : Limits) (h : Head) → head_of file reading l ≡ Ok h
    → (length file ≤ l.bytes) × (3600 ≤ length file) × (head_from reading (take 400 (drop 3200 file)) (drop 3600 file) ≡ Ok h)
unfolding head_of
head_of-parts file reading l h e =
    let a = past (ltb l.bytes (length file)) TooLarge _ h e in
    let b = past (ltb (length file) 3600) (Short (length file)) _ h a.1 in
    (ltb-false l.bytes (length file) a.0, ltb-false (length file) 3600 b.0, b.1)

pub has_head : (file : List ℕ) (reading : Reading) (l : Limits) (h : Head) → head_of file reading l ≡ Ok h → HasHead file l h
has_head file reading l h e =
    let p = head_of-parts file reading l h e in
    let k = head_from-has reading (take 400 (drop 3200 file)) (drop 3600 file) h p.2 in
    record { small = p.0; whole = omega (arith, k.0, p.1, length-drop 3600 file); first = k.1; extensions = k.2 }

-- where the binary header and what follows it stand
bin_is : (text bin rest : List ℕ) → length text ≡ 3200 → length bin ≡ 400 → take 400 (drop 3200 (text ++ bin ++ rest)) ≡ bin
bin_is text bin rest a b =
    ap (λ (s : List ℕ). take 400 (drop 3200 s)) (append_assoc text bin rest)
    ∙ ap (take 400) (drop_at text (bin ++ rest) 3200 a)
    ∙ take_at bin rest 400 b

rest_is : (text bin rest : List ℕ) → length text ≡ 3200 → length bin ≡ 400 → drop 3600 (text ++ bin ++ rest) ≡ rest
rest_is text bin rest a b = drop_at (text ++ bin) rest 3600 (omega (arith, length-append text bin))

-- another textual header, and other bytes behind the extended textual headers, leave the head as it is
pub head_of-front : (reading : Reading) (l : Limits) (h : Head) (text other bin front xs ys : List ℕ) → length text ≡ 3200 → length other ≡ 3200 → length bin ≡ 400 → length front ≡ 3200 * h.blocks
    → 3200 * h.trailer ≤ length ys → length (other ++ bin ++ (front ++ ys)) ≤ l.bytes → head_of (text ++ bin ++ (front ++ xs)) reading l ≡ Ok h → head_of (other ++ bin ++ (front ++ ys)) reading l ≡ Ok h
unfolding head_of
head_of-front reading l h text other bin front xs ys a c b len le small e =
    let p = head_of-parts (text ++ bin ++ (front ++ xs)) reading l h e in
    let old : head_from reading bin (front ++ xs) ≡ Ok h = ap (λ (s : List ℕ). head_from reading s (front ++ xs)) (sym (bin_is text bin (front ++ xs) a b)) ∙ ap (head_from reading (take 400 (drop 3200 (text ++ bin ++ (front ++ xs))))) (sym (rest_is text bin (front ++ xs) a b)) ∙ p.2 in
    let new : head_from reading bin (front ++ ys) ≡ Ok h = head_from-front reading bin front xs ys h len le old in
    let long : 3600 ≤ length (other ++ bin ++ (front ++ ys)) = omega (arith, length-append (other ++ bin) (front ++ ys), length-append other bin) in
    passed _ TooLarge _ h (le-ltb l.bytes (length (other ++ bin ++ (front ++ ys))) small)
    (passed _ (Short (length (other ++ bin ++ (front ++ ys)))) _ h (le-ltb (length (other ++ bin ++ (front ++ ys))) 3600 long)
    (ap (λ (s : List ℕ). head_from reading s (drop 3600 (other ++ bin ++ (front ++ ys)))) (bin_is other bin (front ++ ys) c b)
    ∙ ap (head_from reading bin) (rest_is other bin (front ++ ys) c b)
    ∙ new))

-- another binary header that gives the same head leaves the file's head as it is
pub head_of-bin : (reading : Reading) (l : Limits) (h : Head) (text bin other rest : List ℕ) → length text ≡ 3200 → length bin ≡ 400 → length other ≡ 400 → head_from reading other rest ≡ head_from reading bin rest
    → head_of (text ++ bin ++ rest) reading l ≡ Ok h → head_of (text ++ other ++ rest) reading l ≡ Ok h
unfolding head_of
head_of-bin reading l h text bin other rest a b c same e =
    let p = head_of-parts (text ++ bin ++ rest) reading l h e in
    let size : length (text ++ other ++ rest) ≡ length (text ++ bin ++ rest) = omega (arith, length-append (text ++ other) rest, length-append text other, length-append (text ++ bin) rest, length-append text bin) in
    let old : head_from reading bin rest ≡ Ok h = ap (λ (s : List ℕ). head_from reading s rest) (sym (bin_is text bin rest a b)) ∙ ap (head_from reading (take 400 (drop 3200 (text ++ bin ++ rest)))) (sym (rest_is text bin rest a b)) ∙ p.2 in
    passed _ TooLarge _ h (le-ltb l.bytes (length (text ++ other ++ rest)) (omega (arith, p.0)))
    (passed _ (Short (length (text ++ other ++ rest))) _ h (le-ltb (length (text ++ other ++ rest)) 3600 (omega (arith, p.1)))
    (ap (λ (s : List ℕ). head_from reading s (drop 3600 (text ++ other ++ rest))) (bin_is text other rest a c)
    ∙ ap (head_from reading other) (rest_is text other rest a c)
    ∙ same
    ∙ old))

-- ---- what the code tests

-- the last three refusals, by the number of blocks and what no refusal comes to
abbrev pub by_blocks : Order → List ℕ → List ℕ → Head → ℕ → Result Head LoadFault
by_blocks o bin rest h n =
    cond (int_lt (extensions_field o bin) (pos 0) || int_lt (pos 255) (extensions_field o bin)) (Err (Extensions (extensions_field o bin)))
    (cond (is_trailer_refused (trailer_field o bin) (length rest - 3200 * n)) (Err (Trailer (trailer_field o bin)))
    (cond (is_elsewhere o bin n) (Err (FirstTrace (first_trace o bin))) (Ok h)))

-- all three tests passed
pub checks_passed : (o : Order) (bin rest : List ℕ) (h : Head) (n : ℕ) → (int_lt (extensions_field o bin) (pos 0) || int_lt (pos 255) (extensions_field o bin)) ≡ false → is_trailer_refused (trailer_field o bin) (length rest - 3200 * n) ≡ false
    → is_elsewhere o bin n ≡ false → by_blocks o bin rest h n ≡ Ok h
checks_passed o bin rest h n e t f =
    passed _ (Extensions (extensions_field o bin)) _ h e
    (passed _ (Trailer (trailer_field o bin)) _ h t
    (passed _ (FirstTrace (first_trace o bin)) _ h f refl))

past_by : (b : Bool) (f : LoadFault) (y z : Result Head LoadFault) → b ≡ false → y ≡ z → cond b (Err f) y ≡ z
past_by b f y z e k = rw e k

stop_at : (b : Bool) (f : LoadFault) (y : Result Head LoadFault) → b ≡ true → cond b (Err f) y ≡ Err f
stop_at b f y e = rw e refl

-- the last of them was not
pub elsewhere_found : (o : Order) (bin rest : List ℕ) (h : Head) (n : ℕ) → (int_lt (extensions_field o bin) (pos 0) || int_lt (pos 255) (extensions_field o bin)) ≡ false → is_trailer_refused (trailer_field o bin) (length rest - 3200 * n) ≡ false
    → is_elsewhere o bin n ≡ true → Err (FirstTrace (first_trace o bin)) ≡ by_blocks o bin rest h n
elsewhere_found o bin rest h n e t f =
    sym (past_by _ (Extensions (extensions_field o bin)) _ _ e
    (past_by _ (Trailer (trailer_field o bin)) _ _ t
    (stop_at (is_elsewhere o bin n) (FirstTrace (first_trace o bin)) (Ok h) f)))

-- the last but one was not
pub trailer_found : (o : Order) (bin rest : List ℕ) (h : Head) (n : ℕ) → (int_lt (extensions_field o bin) (pos 0) || int_lt (pos 255) (extensions_field o bin)) ≡ false → is_trailer_refused (trailer_field o bin) (length rest - 3200 * n) ≡ true
    → Err (Trailer (trailer_field o bin)) ≡ by_blocks o bin rest h n
trailer_found o bin rest h n e t =
    sym (past_by _ (Extensions (extensions_field o bin)) _ _ e
    (stop_at _ (Trailer (trailer_field o bin)) _ t))

-- the number of blocks was found
pub text_found : (m : Option ℕ) (n : ℕ) (f : LoadFault) (y : Result Head LoadFault) → Some n ≡ m → y ≡ cond (is_none m) (Err f) y
text_found None n f y e = absurd cc
text_found (Some k) n f y e = refl

-- or it was not
pub text_missing : (m : Option ℕ) (f : LoadFault) (y : Result Head LoadFault) → None ≡ m → Err f ≡ cond (is_none m) (Err f) y
text_missing None f y e = refl
text_missing (Some k) f y e = absurd cc

-- a test of a number of four bytes, made on a field's value
pub test_of : (test : ℤ → Bool) (x field : ℤ) (b : Bool) → FitsSigned w32 x → x ≡ field → b ≡ test (to_z w32 (of_z w32 x)) → (d : Bool) → b ≡ d → test field ≡ d
test_of test x field b fits e is d off = ap test (sym (to_z-of_z w32 x fits ∙ e)) ∙ sym is ∙ off
