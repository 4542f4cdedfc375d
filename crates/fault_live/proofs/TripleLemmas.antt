-- The triple of a trace that faults count, alone and beside another trace.
use Rattle.std.specs.Prelude.{◌≡◌, ℕ, ℤ, ◌-◌, Bool, if◌then◌else◌, Option, Some, Result, Ok, Err, OnErr, refl}
use Rattle.std.proofs.Common.{ap, ◌∙◌}
use Rattle.std.specs.Ordering.{int_cmp, is_eq}
use Rattle.std.specs.Cmp.{IsTotalOrder, int_cmp_total, then_total, on_total}
use Rattle.key_counts.specs.Numbers.{times_of, beside_of}
use Rattle.key_counts.proofs.KeyLemmas.{is_eq-triple}
use Rattle.key_counts.proofs.RaisedLemmas.{times-beside}
use Rattle.trace_record.specs.Facts.{Facts}
use Rattle.trace_record.specs.Keys.{Key, cell, inline, crossline, offset, coordinate_x, coordinate_y, least, greatest, triple}
use Rattle.trace_record.specs.Tally.{times}
use Rattle.window_counts.specs.Places.{triple_cmp}
use Rattle.fault_live.specs.FaultKeys.{keys_of_faults}
use Rattle.fault_live.specs.OfKeys.{times_among}

triple_total : IsTotalOrder triple_cmp
triple_total = then_total (then_total (on_total (λ (e : ℤ × ℤ × ℤ). e.0) int_cmp_total) (on_total (λ (e : ℤ × ℤ × ℤ). e.1) int_cmp_total)) (on_total (λ (e : ℤ × ℤ × ℤ). e.2) int_cmp_total)

-- a number where a test holds
once : Bool → ℕ
once b = if b then 1 else 0

-- a triple is the trace's where all its numbers are
own_triple : (f : Facts) (i c o : ℤ) → (if is_eq (triple_cmp (f.inline, f.crossline, f.offset) (i, c, o)) then 1 else 0) ≡ times keys_of_faults f (triple i c o)
unfolding once
own_triple f i c o = ap once (is_eq-triple (int_cmp f.inline i) (int_cmp f.crossline c) (int_cmp f.offset o))

-- the triple of a trace
pub times-alone : (key : Option (ℤ × ℤ × ℤ)) (f : Facts) → key ≡ Some (f.inline, f.crossline, f.offset) → (k : Key) → times_among key k ≡ times keys_of_faults f k
times-alone key f e = elim [
  | cell i c ↦ refl
  | inline i ↦ refl
  | crossline c ↦ refl
  | offset o ↦ refl
  | coordinate_x r ↦ refl
  | coordinate_y r ↦ refl
  | least v ↦ refl
  | greatest v ↦ refl
  | triple i c o ↦ ap (λ q. times_of (λ k. k) triple_cmp q (i, c, o)) e ∙ own_triple f i c o
]

-- unless another has it too
pub among-beside : (key own other : Option (ℤ × ℤ × ℤ)) → key ≡ beside_of triple_cmp own other → (k : Key) → times_among key k ≡ times_among own k - times_among other k
among-beside key own other e = elim [
  | cell i c ↦ refl
  | inline i ↦ refl
  | crossline c ↦ refl
  | offset o ↦ refl
  | coordinate_x r ↦ refl
  | coordinate_y r ↦ refl
  | least v ↦ refl
  | greatest v ↦ refl
  | triple i c o ↦ ap (λ q. times_of (λ k. k) triple_cmp q (i, c, o)) e ∙ times-beside triple_cmp triple_total (λ k. k) own other (i, c, o)
]

-- what holds, holds where a call was refused
pub on_err : {T E A : Type 0} (r : Result T E) → A → OnErr r A
on_err (Ok x) a = tt
on_err (Err e) a = a
