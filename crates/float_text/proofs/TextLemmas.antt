-- What a text is read as.
use Rattle.std.proofs.Common.{◌≡◌, ℕ, ◌+◌, ◌-◌, ◌*◌, ◌^◌, ◌<◌, ◌≤◌, ◌==◌, ◌&&◌, Bool, true, false, cond, List, [], ◌∷◌, ◌++◌, length, take, drop, codes, bytes_eq, if◌then◌else◌, refl, ap, sym, ◌∙◌, subst, Option, Some, None, All}
use mathlib.Core.Logic.{◌⊎◌, inl, inr}
use mathlib.Core.Bool.{true≢false, false≢true}
use native.Mathlib.Omega.{arith}
use borrow.Author.Tests.{ne_eqb, eq-eqb, eqb-true, lt-ltb}
use lib.Dec.{ltb}
use lib.Ieee.{is_nan, up, down, round, units, odd, prec, low, emax}
use lib.Ieee.Fits.{round_is}
use lib.Ieee.Scale.{round_same}
use Rattle.std.specs.Fmt.{sign_text}
use Rattle.std.specs.Float.{Float, Format, NotNan, nan, inf, fin, float_is_finite, round_to_format, binary32, binary64}
use Rattle.std.specs.Str.Parse.{AllDigits, digits_value}
use Rattle.std.proofs.lemmas.Str.Parse.{digit_from_value}
use Rattle.std.proofs.lemmas.Int.Digits.{digits_value_push}
use Rattle.std.proofs.lemmas.Float.Parse.{scan_numeral-text_of, parse_float-text_of}
use Rattle.std.proofs.lemmas.List.{append-nil, append_assoc, length-append, nil_from_length}
use Rattle.std.proofs.Math.Seq.{take-append_seam}
use Rattle.std.proofs.lemmas.List.Elements.{All-append}
use Rattle.std.proofs.lemmas.Slice.Eq.{bytes_eq-Decides}
use Rattle.fast_float.specs.Parse.{parse_float}
use Rattle.fast_float.specs.Text.{Parts, scan, has_digits, digits_of, tens_up, tens_down, nearest, text_of, exponent_text, IsWellFormed}
use Rattle.ryu.specs.Plain.{IsPlainNumber, word_of}
use Rattle.float_codes.specs.declared.float_format.FloatFormat.{FloatFormat}
use Rattle.float_codes.specs.declared.float_format.FloatFormat.TheVariants.{Ibm32, Ieee32, Ieee64}
use Rattle.float_text.specs.declared.reading.Reading.{Reading}
use Rattle.float_text.specs.declared.reading.Reading.TheVariants.{Value, PastGreatest}
use Rattle.float_text.specs.Words.{is_negative, size_of, is_decimal, reading_of, nearest_in, finite_reading}
use Rattle.float_text.proofs.SignLemmas.{HasSign, sign_round}
use Rattle.float_text.specs.Texts.{text_format, shown, reader, has_point_zero, without_point_zero, IsDecimalOf, IsTextOf}

-- ---- the sign of what was rounded

number_with_sign : (s : Bool) (v : Float) → HasSign s v → NotNan v
unfolding HasSign is_nan
number_with_sign s nan h = absurd h
number_with_sign s (inf t) h = tt
number_with_sign s (fin t m e) h = tt

rounded_number : (f : Format) (v : Float) → NotNan v → NotNan (round_to_format f v)
unfolding round_to_format is_nan
rounded_number f nan n = absurd n
rounded_number f (inf s) n = tt
rounded_number f (fin s m e) n = number_with_sign s _ (sign_round f s (m * up e) (down e))

-- ---- a text begins with its sign

record Starts (s : Bool) (t : List ℕ) : Type 0 where
  sign : is_negative (sign_text s ++ t) ≡ s
  size : size_of (sign_text s ++ t) ≡ t
  no_nan : bytes_eq (sign_text s ++ t) (codes "nan") ≡ false
  no_inf : bytes_eq t (codes "inf") ≡ false

not_this : (d k : ℕ) → (48 ≤ d) × (d ≤ 57) → ((48 ≤ k) × (k ≤ 57) → ⊥) → (d == k) ≡ false
not_this d k r n = ne_eqb d k (λ e. n (subst (λ (z : ℕ). (48 ≤ z) × (z ≤ 57)) e r))

starts : (s : Bool) (whole rest : List ℕ) → AllDigits 10 whole → 0 < length whole → Starts s (whole ++ rest)
starts s [] rest h l = absurd (omega arith)
starts true (d ∷ ds) rest h l =
    let r = digit_from_value d h.0 in
    let inf_first = not_this d 105 r (λ x. absurd (omega arith)) in
    record { sign = refl; size = refl; no_nan = refl; no_inf = ap (λ (b : Bool). b && bytes_eq (ds ++ rest) (codes "nf")) inf_first }
starts false (d ∷ ds) rest h l =
    let r = digit_from_value d h.0 in
    let minus_first = not_this d 45 r (λ x. absurd (omega arith)) in
    let inf_first = not_this d 105 r (λ x. absurd (omega arith)) in
    let nan_first = not_this d 110 r (λ x. absurd (omega arith)) in
    record {
      sign = minus_first;
      size = ap (λ (b : Bool). drop (if b then 1 else 0) (d ∷ (ds ++ rest))) minus_first;
      no_nan = ap (λ (b : Bool). b && bytes_eq (ds ++ rest) (codes "an")) nan_first;
      no_inf = ap (λ (b : Bool). b && bytes_eq (ds ++ rest) (codes "nf")) inf_first;
    }

-- ---- what it is read as

abbrev chosen : FloatFormat → Bool → Bool → Bool → Bool → Parts → Option Reading
chosen f a b c n q = if a then Some (Value nan) else (if b then Some (Value (inf n)) else (if c then Some (nearest_in f n q) else None))

whole_text : (p : Parts) → IsWellFormed p → 0 < length p.whole → is_decimal (text_of p) ≡ true
whole_text p w l =
    let some = lt-ltb 0 (length p.whole + length p.fraction) (omega arith) in
    let long = eq-eqb p.len (length (text_of p)) w.len_is in
    ap (λ (q : Parts). has_digits q && q.len == length (text_of p)) (scan_numeral-text_of p w) ∙ (λ i. some i && long i)

decimal_reading : (f : FloatFormat) (s : Bool) (p : Parts) → IsWellFormed p → 0 < length p.whole → reading_of f (sign_text s ++ text_of p) ≡ Some (nearest_in f s p)
decimal_reading f s p w l =
    let t = text_of p in
    let st : Starts s t = starts s p.whole _ w.whole_digits l in
    let inf_is = ap (λ (z : List ℕ). bytes_eq z (codes "inf")) st.size ∙ st.no_inf in
    let all = ap is_decimal st.size ∙ whole_text p w l in
    let parts = ap scan st.size ∙ scan_numeral-text_of p w in
    λ i. chosen f (st.no_nan i) (inf_is i) (all i) (st.sign i) (parts i)

infinite_reading : (f : FloatFormat) (s : Bool) → reading_of f (sign_text s ++ codes "inf") ≡ Some (Value (inf s))
infinite_reading Ibm32 true = refl
infinite_reading Ibm32 false = refl
infinite_reading Ieee32 true = refl
infinite_reading Ieee32 false = refl
infinite_reading Ieee64 true = refl
infinite_reading Ieee64 false = refl

finite_value : (s : Bool) (w v : Float) → float_is_finite v ≡ true → w ≡ v → finite_reading s w ≡ Value v
finite_value s w v h e = ap (finite_reading s) e ∙ ap (λ (b : Bool). if b then Value v else PastGreatest s) h

decimal_value : (f : FloatFormat) (s : Bool) (p : Parts) (v : Float) → float_is_finite v ≡ true → nearest (text_format f) s p ≡ v → nearest_in (reader f) s p ≡ Value v
decimal_value Ibm32 s p v h e = finite_value s _ v h e
decimal_value Ieee32 s p v h e = finite_value s _ v h e
decimal_value Ieee64 s p v h e = finite_value s _ v h e

pub text_reading : (f : FloatFormat) (v : Float) (text : List ℕ) → IsTextOf (text_format f) v text → reading_of (reader f) text ≡ Some (Value v)
text_reading f v text (inl h) =
    let d = h.2 in
    ap (reading_of (reader f)) d.is ∙ decimal_reading (reader f) h.0 h.1 d.well_formed d.whole ∙ ap Some (decimal_value f h.0 h.1 v d.finite d.nearest_is)
text_reading f v text (inr h) = ap (reading_of (reader f)) h.1.is ∙ infinite_reading (reader f) h.0 ∙ ap (λ (x : Float). Some (Value x)) (sym h.1.infinite)

-- ---- the printer's texts

unwrapped : {A : Type 0} → A → Option A → A
unwrapped d None = d
unwrapped d (Some x) = x

same_value : (x y : Float) → Some x ≡ Some y → x ≡ y
unfolding unwrapped
same_value x y e = ap (unwrapped nan) e

printed_word : (f : Format) (x : Float) (text : List ℕ) → NotNan x → float_is_finite x ≡ false → text ≡ word_of x → IsTextOf f x text
unfolding float_is_finite is_nan
printed_word f nan text n h e = absurd n
printed_word f (inf s) text n h e = inr (s, record { is = e; infinite = refl })
printed_word f (fin s m k) text n h e = absurd (true≢false h)

printed : (f : Format) (x : Float) (text : List ℕ) → NotNan x → parse_float f text ≡ Some x → (float_is_finite x ≡ true → IsPlainNumber text) → (float_is_finite x ≡ false → text ≡ word_of x) → IsTextOf f x text
printed f x text n parses plain word = go (float_is_finite x) refl
  where
    go : (b : Bool) → float_is_finite x ≡ b → IsTextOf f x text
    go true h =
        let t = plain h in
        let w = t.3.well_formed in
        let l : 0 < length t.1.whole = t.3.whole in
        inl (t.0, t.1, record { is = t.2; well_formed = w; whole = l; finite = h; nearest_is = same_value _ _ (sym (parse_float-text_of f t.0 t.1 w l) ∙ ap (parse_float f) (sym t.2) ∙ parses) })
    go false h = printed_word f x text n h (word h)

pub wide_text : (f : FloatFormat) (v : Float) (text : List ℕ) → (f ≡ Ibm32) ⊎ (f ≡ Ieee64) → NotNan v → parse_float binary64 text ≡ Some v → (float_is_finite v ≡ true → IsPlainNumber text) → (float_is_finite v ≡ false → text ≡ word_of v)
    → IsTextOf (text_format f) (shown f v) text
wide_text f v text (inl e) n a b c = subst (λ (z : FloatFormat). IsTextOf (text_format z) (shown z v) text) (sym e) (printed binary64 v text n a b c)
wide_text f v text (inr e) n a b c = subst (λ (z : FloatFormat). IsTextOf (text_format z) (shown z v) text) (sym e) (printed binary64 v text n a b c)

pub narrow_text : (f : FloatFormat) (v x : Float) (text : List ℕ) → f ≡ Ieee32 → x ≡ round_to_format binary32 v → NotNan v → parse_float binary32 text ≡ Some x → (float_is_finite x ≡ true → IsPlainNumber text)
    → (float_is_finite x ≡ false → text ≡ word_of x) → IsTextOf (text_format f) (shown f v) text
narrow_text f v x text e r n a b c =
    subst (λ (z : FloatFormat). IsTextOf (text_format z) (shown z v) text) (sym e)
    (subst (λ (z : Float). IsTextOf binary32 z text) r (printed binary32 x text (subst NotNan (sym r) (rounded_number binary32 v n)) a b c))

-- ---- without the point and the 0

cut_parts : List ℕ → Parts
cut_parts whole = record { whole = whole; point = false; fraction = []; exponent_negative = false; exponent = []; len = length (whole ++ []) }

cut_formed : (whole : List ℕ) → AllDigits 10 whole → IsWellFormed (cut_parts whole)
unfolding cut_parts
cut_formed whole h = record { whole_digits = h; fraction_digits = tt; exponent_digits = tt; no_point = λ e. refl; no_exponent = λ e. refl; len_is = refl }

tens_none : (n : Bool) → (if n then 0 else digits_value 10 []) ≡ 0
tens_none true = refl
tens_none false = refl

down_none : (n : Bool) → (if n then digits_value 10 [] else 0) ≡ 0
down_none true = refl
down_none false = refl

cut_nearest : (f : Format) (s n : Bool) (whole : List ℕ) → round f s (digits_value 10 (whole ++ 48 ∷ []) * 10 ^ (if n then 0 else digits_value 10 [])) (10 ^ (1 + (if n then digits_value 10 [] else 0)))
    ≡ round f s (digits_value 10 (whole ++ []) * 10 ^ 0) (10 ^ 0)
cut_nearest f s n whole =
    let w = digits_value 10 whole in
    let a : digits_value 10 (whole ++ 48 ∷ []) ≡ w * 10 + 0 = digits_value_push 10 whole 48 in
    let b : digits_value 10 (whole ++ []) ≡ w = ap (digits_value 10) (append-nil whole) in
    (λ i. round f s (digits_value 10 (whole ++ 48 ∷ []) * 10 ^ tens_none n i) (10 ^ (1 + down_none n i)))
    ∙ round_same f s (digits_value 10 (whole ++ 48 ∷ []) * 1) 10 (digits_value 10 (whole ++ []) * 1) 1 (omega arith) (omega arith) (omega arith)

record IsCut (p : Parts) : Type 0 where
  fraction : p.fraction ≡ 48 ∷ []
  exponent : p.exponent ≡ []

cut_decimal : (f : Format) (v : Float) (s : Bool) (p : Parts) (text : List ℕ) → IsDecimalOf f v text s p → IsCut p → IsDecimalOf f v (sign_text s ++ p.whole) s (cut_parts p.whole)
unfolding cut_parts
cut_decimal f v s p text d c =
    record {
      is = ap (λ (z : List ℕ). sign_text s ++ z) (sym (append-nil p.whole));
      well_formed = cut_formed p.whole d.well_formed.whole_digits;
      whole = d.whole;
      finite = d.finite;
      nearest_is = sym (cut_nearest f s p.exponent_negative p.whole)
          ∙ (λ i. let e = sym c.exponent i in let r = sym c.fraction i in round f s (digits_value 10 (p.whole ++ r) * 10 ^ (if p.exponent_negative then 0 else digits_value 10 e)) (10 ^ (length r + (if p.exponent_negative then digits_value 10 e else 0))))
          ∙ d.nearest_is;
    }

both_true : (a b : Bool) → (a && b) ≡ true → (a ≡ true) × (b ≡ true)
both_true true b e = (refl, e)
both_true false b e = absurd (false≢true e)

is_cut : (p : Parts) → (bytes_eq p.fraction (codes "0") && length p.exponent == 0) ≡ true → IsCut p
is_cut p e =
    let h = both_true _ _ e in
    record { fraction = (bytes_eq-Decides p.fraction (codes "0")).0 h.0; exponent = nil_from_length p.exponent (eqb-true (length p.exponent) 0 h.1) }

cut_text : (s : Bool) (p : Parts) → take (length (sign_text s ++ text_of p) - length (text_of p) + length p.whole) (sign_text s ++ text_of p) ≡ sign_text s ++ p.whole
cut_text s p =
    let rest = cond p.point (46 ∷ p.fraction) [] ++ exponent_text p.exponent_negative p.exponent in
    let a = length-append (sign_text s) (text_of p) in
    let b = length-append (sign_text s) p.whole in
    let n : length (sign_text s ++ text_of p) - length (text_of p) + length p.whole ≡ length (sign_text s ++ p.whole) = omega arith in
    (λ i. take (n i) (sym (append_assoc (sign_text s) p.whole rest) i)) ∙ take-append_seam (sign_text s ++ p.whole) rest

abbrev cut_by : Bool → List ℕ → List ℕ → Parts → List ℕ
cut_by b text size p = if b then take (length text - length size + length p.whole) text else text

infinite_kept : (s : Bool) → without_point_zero (sign_text s ++ codes "inf") ≡ sign_text s ++ codes "inf"
unfolding scan
infinite_kept true = refl
infinite_kept false = refl

pub cut_kept : (f : Format) (v : Float) (text : List ℕ) → IsTextOf f v text → IsTextOf f v (without_point_zero text)
cut_kept f v text (inr h) = inr (h.0, record { is = ap without_point_zero h.1.is ∙ infinite_kept h.0; infinite = h.1.infinite })
cut_kept f v text (inl h) =
    let s = h.0 in
    let p = h.1 in
    let d = h.2 in
    let st : Starts s (text_of p) = starts s p.whole _ d.well_formed.whole_digits d.whole in
    let size = ap size_of d.is ∙ st.size in
    let parts = ap scan size ∙ scan_numeral-text_of p d.well_formed in
    go (bytes_eq p.fraction (codes "0") && length p.exponent == 0) refl (λ i. cut_by (bytes_eq (parts i).fraction (codes "0") && length (parts i).exponent == 0) (d.is i) (size i) (parts i))
  where
    go : (b : Bool) → (bytes_eq h.1.fraction (codes "0") && length h.1.exponent == 0) ≡ b
        → without_point_zero text ≡ cut_by (bytes_eq h.1.fraction (codes "0") && length h.1.exponent == 0) (sign_text h.0 ++ text_of h.1) (text_of h.1) h.1 → IsTextOf f v (without_point_zero text)
    go true e is = inl (h.0, cut_parts h.1.whole, subst (λ (z : List ℕ). IsDecimalOf f v z h.0 (cut_parts h.1.whole)) (sym (is ∙ ap (λ (b : Bool). cut_by b (sign_text h.0 ++ text_of h.1) (text_of h.1) h.1) e ∙ cut_text h.0 h.1)) (cut_decimal f v h.0 h.1 text h.2 (is_cut h.1 e)))
    go false e is = inl (h.0, h.1, subst (λ (z : List ℕ). IsDecimalOf f v z h.0 h.1) (h.2.is ∙ sym (is ∙ ap (λ (b : Bool). cut_by b (sign_text h.0 ++ text_of h.1) (text_of h.1) h.1) e)) h.2)

-- the texts that lost them have them no more
infinite_has_none : (s : Bool) → has_point_zero (sign_text s ++ codes "inf") ≡ false
unfolding scan
infinite_has_none true = refl
infinite_has_none false = refl

cut_has_none : (s : Bool) (whole : List ℕ) → AllDigits 10 whole → 0 < length whole → has_point_zero (sign_text s ++ whole) ≡ false
unfolding cut_parts
cut_has_none s whole h l =
    let w = cut_formed whole h in
    let st : Starts s (whole ++ []) = starts s whole [] h l in
    let is = ap (λ (z : List ℕ). sign_text s ++ z) (sym (append-nil whole)) in
    ap has_point_zero is ∙ ap (λ (z : List ℕ). bytes_eq (scan z).fraction (codes "0") && length (scan z).exponent == 0) st.size
    ∙ ap (λ (q : Parts). bytes_eq q.fraction (codes "0") && length q.exponent == 0) (scan_numeral-text_of (cut_parts whole) w)

none_left : (f : Format) (v : Float) (text : List ℕ) → IsTextOf f v text → has_point_zero (without_point_zero text) ≡ false
none_left f v text (inr h) = ap (λ (z : List ℕ). has_point_zero (without_point_zero z)) h.1.is ∙ ap has_point_zero (infinite_kept h.0) ∙ infinite_has_none h.0
none_left f v text (inl h) =
    let s = h.0 in
    let p = h.1 in
    let d = h.2 in
    let st : Starts s (text_of p) = starts s p.whole _ d.well_formed.whole_digits d.whole in
    let size = ap size_of d.is ∙ st.size in
    let parts = ap scan size ∙ scan_numeral-text_of p d.well_formed in
    go (has_point_zero text) refl (λ i. take (length (d.is i) - length (size i) + length (parts i).whole) (d.is i))
  where
    go : (b : Bool) → has_point_zero text ≡ b → take (length text - length (size_of text) + length (scan (size_of text)).whole) text
        ≡ take (length (sign_text h.0 ++ text_of h.1) - length (text_of h.1) + length h.1.whole) (sign_text h.0 ++ text_of h.1)
        → has_point_zero (if b then take (length text - length (size_of text) + length (scan (size_of text)).whole) text else text) ≡ false
    go true e is = ap has_point_zero (is ∙ cut_text h.0 h.1) ∙ cut_has_none h.0 h.1.whole h.2.well_formed.whole_digits h.2.whole
    go false e is = e

-- ---- no white space

NoSpace : List ℕ → Type 0
NoSpace xs = All (λ c. 32 < c) xs

no_space_more : (c : ℕ) (cs : List ℕ) → 32 < c → NoSpace cs → NoSpace (c ∷ cs)
unfolding NoSpace
no_space_more c cs h n Prim.Native.Nat.zero d l = h
no_space_more c cs h n (Prim.Native.Nat.suc k) d l = n k d (omega arith)

no_space_none : NoSpace []
unfolding NoSpace
no_space_none = λ k d l. absurd (omega arith)

no_space_both : (xs ys : List ℕ) → NoSpace xs → NoSpace ys → NoSpace (xs ++ ys)
unfolding NoSpace
no_space_both xs ys = All-append (λ c. 32 < c) xs ys

no_space_digits : (ds : List ℕ) → AllDigits 10 ds → NoSpace ds
no_space_digits [] h = no_space_none
no_space_digits (d ∷ ds) h = let r = digit_from_value d h.0 in no_space_more d ds (omega arith) (no_space_digits ds h.1)

no_space_sign : (s : Bool) (ds : List ℕ) → NoSpace ds → NoSpace (sign_text s ++ ds)
no_space_sign true ds h = no_space_more 45 ds (omega arith) h
no_space_sign false ds h = h

no_space_exponent : (n : Bool) (ds : List ℕ) → AllDigits 10 ds → NoSpace (exponent_text n ds)
no_space_exponent n [] h = no_space_none
no_space_exponent n (d ∷ ds) h = no_space_more 101 _ (omega arith) (no_space_sign n (d ∷ ds) (no_space_digits (d ∷ ds) h))

no_space_fraction : (b : Bool) (ds : List ℕ) → AllDigits 10 ds → NoSpace (if b then 46 ∷ ds else [])
no_space_fraction true ds h = no_space_more 46 ds (omega arith) (no_space_digits ds h)
no_space_fraction false ds h = no_space_none

no_space_parts : (p : Parts) → IsWellFormed p → NoSpace (text_of p)
no_space_parts p w =
    no_space_both p.whole _ (no_space_digits p.whole w.whole_digits)
    (no_space_both _ _ (no_space_fraction p.point p.fraction w.fraction_digits) (no_space_exponent p.exponent_negative p.exponent w.exponent_digits))

no_space_inf : NoSpace (codes "inf")
no_space_inf = no_space_more 105 _ (omega arith) (no_space_more 110 _ (omega arith) (no_space_more 102 _ (omega arith) no_space_none))

pub text_no_space : (f : Format) (v : Float) (text : List ℕ) → IsTextOf f v text → All (λ c. 32 < c) text
unfolding NoSpace
text_no_space f v text (inl h) = subst NoSpace (sym h.2.is) (no_space_sign h.0 (text_of h.1) (no_space_parts h.1 h.2.well_formed))
text_no_space f v text (inr h) = subst NoSpace (sym h.1.is) (no_space_sign h.0 (codes "inf") no_space_inf)

pub text_some : (f : Format) (v : Float) (text : List ℕ) → IsTextOf f v text → 0 < length text
text_some f v text (inl h) =
    let a = ap length h.2.is ∙ length-append (sign_text h.0) (text_of h.1) in
    let b = length-append h.1.whole (cond h.1.point (46 ∷ h.1.fraction) [] ++ exponent_text h.1.exponent_negative h.1.exponent) in
    let c = h.2.whole in
    omega arith
text_some f v text (inr h) = let a = ap length h.1.is ∙ length-append (sign_text h.0) (codes "inf") in omega arith

-- ---- both ways on

pub either_text : (f : Format) (v : Float) (text : List ℕ) (whole : Bool) → IsTextOf f v text → IsTextOf f v (if whole then without_point_zero text else text)
either_text f v text true h = cut_kept f v text h
either_text f v text false h = h

pub nan_read : (f : FloatFormat) (v : Float) → is_nan v ≡ true → Value nan ≡ Value (shown f v)
unfolding is_nan round_to_format
nan_read Ibm32 nan e = refl
nan_read Ieee32 nan e = refl
nan_read Ieee64 nan e = refl
nan_read f (inf s) e = absurd (false≢true e)
nan_read f (fin s m k) e = absurd (false≢true e)

pub whole_kept : (f : Format) (v : Float) (text : List ℕ) (whole : Bool) → IsTextOf f v text → whole ≡ true → has_point_zero (if whole then without_point_zero text else text) ≡ false
whole_kept f v text true h e = none_left f v text h
whole_kept f v text false h e = absurd (false≢true e)
