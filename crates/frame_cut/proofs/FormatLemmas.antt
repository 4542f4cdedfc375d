-- The sample format of a code, or its refusal, by the codes that the list of a head's refusals names.
use Rattle.std.proofs.Common.{◌≡◌, ℕ, Bool, true, false, [], ◌∷◌, Result, Ok, Err, refl, sym, subst}
use Rattle.std.specs.Prelude.{◌==◌, ◌&&◌, ◌||◌, not, if◌then◌else◌}
use Rattle.std.proofs.lemmas.Bool.{eqb-true}
use Rattle.sample_codes.specs.declared.format.Format.{Format}
use Rattle.sample_codes.specs.declared.format_fault.FormatFault.{FormatFault}
use Rattle.sample_codes.specs.Formats.{format_of}
use Rattle.frame_cut.specs.declared.file_head.Head.{Head}
use Rattle.frame_cut.specs.declared.load_fault.LoadFault.{LoadFault}
use Rattle.frame_cut.specs.declared.load_fault.LoadFault.TheVariants.{FloatFormat, GainFormat, UnknownFormat}
use Rattle.frame_cut.specs.Heads.{is_among, format_refusal}

-- what a code comes to by the list, where `more` is what the rest of the list comes to
abbrev pub by_code : Bool → Bool → ℕ → Result Head LoadFault → Result Head LoadFault
by_code opaque floats code more =
    if not (opaque || floats) && is_among code (1 ∷ 5 ∷ 6 ∷ []) then Err (FloatFormat code) else
    if not opaque && is_among code (4 ∷ []) then Err GainFormat else
    if not (is_among code (1 ∷ 2 ∷ 3 ∷ 4 ∷ 5 ∷ 6 ∷ 7 ∷ 8 ∷ 9 ∷ 10 ∷ 11 ∷ 12 ∷ 15 ∷ 16 ∷ [])) then Err (UnknownFormat code) else
    more

-- and by the format that it has
abbrev pub by_format : Result Format FormatFault → ℕ → Result Head LoadFault → Result Head LoadFault
by_format (Ok format) code more = more
by_format (Err fault) code more = Err (format_refusal fault code)

-- a number is k, or it is not
at_number : (P : ℕ → Type 0) (k code : ℕ) → P k → ((code == k) ≡ false → P code) → P code
at_number P k code here other = go (code == k) refl
  where
    go : (b : Bool) → (code == k) ≡ b → P code
    go true e = subst P (sym (eqb-true code k e)) here
    go false e = other e

-- the codes that there are, one after another
at_codes : (P : ℕ → Type 0) (code : ℕ) → P 1 → P 2 → P 3 → P 4 → P 5 → P 6 → P 7 → P 8 → P 9 → P 10 → P 11 → P 12 → P 15 → P 16
    → ((code == 1) ≡ false → (code == 2) ≡ false → (code == 3) ≡ false → (code == 4) ≡ false → (code == 5) ≡ false → (code == 6) ≡ false → (code == 7) ≡ false → (code == 8) ≡ false
    → (code == 9) ≡ false → (code == 10) ≡ false → (code == 11) ≡ false → (code == 12) ≡ false → (code == 15) ≡ false → (code == 16) ≡ false → P code)
    → P code
at_codes P code p1 p2 p3 p4 p5 p6 p7 p8 p9 p10 p11 p12 p15 p16 none =
    at_number P 1 code p1 (λ e1. at_number P 2 code p2 (λ e2. at_number P 3 code p3 (λ e3. at_number P 4 code p4 (λ e4.
    at_number P 5 code p5 (λ e5. at_number P 6 code p6 (λ e6. at_number P 7 code p7 (λ e7. at_number P 8 code p8 (λ e8.
    at_number P 9 code p9 (λ e9. at_number P 10 code p10 (λ e10. at_number P 11 code p11 (λ e11. at_number P 12 code p12 (λ e12.
    at_number P 15 code p15 (λ e15. at_number P 16 code p16 (λ e16.
    none e1 e2 e3 e4 e5 e6 e7 e8 e9 e10 e11 e12 e15 e16))))))))))))))

-- both come to the same
pub by_code-is : (opaque floats : Bool) (code : ℕ) (more : Result Head LoadFault) → by_code opaque floats code more ≡ by_format (format_of opaque floats code) code more
by_code-is true true code more =
    at_codes (λ (n : ℕ). by_code true true n more ≡ by_format (format_of true true n) n more) code
    refl refl refl refl refl refl refl refl refl refl refl refl refl refl
    (λ e1 e2 e3 e4 e5 e6 e7 e8 e9 e10 e11 e12 e15 e16. rw (e1, e2, e3, e4, e5, e6, e7, e8, e9, e10, e11, e12, e15, e16) refl)
by_code-is true false code more =
    at_codes (λ (n : ℕ). by_code true false n more ≡ by_format (format_of true false n) n more) code
    refl refl refl refl refl refl refl refl refl refl refl refl refl refl
    (λ e1 e2 e3 e4 e5 e6 e7 e8 e9 e10 e11 e12 e15 e16. rw (e1, e2, e3, e4, e5, e6, e7, e8, e9, e10, e11, e12, e15, e16) refl)
by_code-is false true code more =
    at_codes (λ (n : ℕ). by_code false true n more ≡ by_format (format_of false true n) n more) code
    refl refl refl refl refl refl refl refl refl refl refl refl refl refl
    (λ e1 e2 e3 e4 e5 e6 e7 e8 e9 e10 e11 e12 e15 e16. rw (e1, e2, e3, e4, e5, e6, e7, e8, e9, e10, e11, e12, e15, e16) refl)
by_code-is false false code more =
    at_codes (λ (n : ℕ). by_code false false n more ≡ by_format (format_of false false n) n more) code
    refl refl refl refl refl refl refl refl refl refl refl refl refl refl
    (λ e1 e2 e3 e4 e5 e6 e7 e8 e9 e10 e11 e12 e15 e16. rw (e1, e2, e3, e4, e5, e6, e7, e8, e9, e10, e11, e12, e15, e16) refl)
