-- No refusal of a file by its bytes tells that memory ran out.
use Rattle.std.proofs.Common.{◌≡◌, ℕ, Bool, true, false, cond, List, ◌∷◌, [], length, take, drop, Option, Some, None, Result, Ok, Err}
use Rattle.std.specs.Prelude.{◌||◌, ◌&&◌, ◌==◌, ◌*◌, ◌-◌, not, is_none, int_lt, nat_lt, pos, if◌then◌else◌}
use Rattle.num_order.specs.declared.order.Order.{Order}
use Rattle.frame_cut.specs.declared.file_head.Head.{Head}
use Rattle.frame_cut.specs.declared.limits.Limits.{Limits}
use Rattle.frame_cut.specs.declared.reading.Reading.{Reading}
use Rattle.frame_cut.specs.declared.load_fault.LoadFault.{LoadFault}
use Rattle.frame_cut.specs.declared.load_fault.LoadFault.TheVariants.{TooLarge, Short, PairSwapped, OtherOrder, Revision, FloatFormat, GainFormat, UnknownFormat, TextCount, Extensions, Trailer, FirstTrace, Truncated, TooManyTraces, OutOfMemory}
use Rattle.frame_cut.specs.declared.sizes.TheConstants.{BINARY_HEADER_BYTES, FILE_HEADER_BYTES}
use Rattle.text_block.specs.declared.block.TheConstants.{TEXT_BLOCK_BYTES}
use Rattle.frame_cut.specs.BinaryHeader.{order_of, told_order, is_other_order, is_pair_swapped, is_unknown_revision, major_of, minor_of, format_code, text_count, extensions_field, trailer_field, first_trace}
use Rattle.frame_cut.specs.Frames.{front_length, trace_length}
use Rattle.frame_cut.specs.Heads.{head_of, blocks_for, blocks_in, is_among, is_trailer_refused, traces_at}
use Rattle.frame_cut.specs.Cuts.{refusal_by_length, trace_refusal}

-- a check whose refusal is another one
past : (b : Bool) (f : LoadFault) (y : Result Head LoadFault) → (f ≡ OutOfMemory → ⊥) → cond b (Err f) y ≡ Err OutOfMemory → y ≡ Err OutOfMemory
past true f y other e = let same : f ≡ OutOfMemory = cc in absurd (other same)
past false f y other e = e

pub head_memory : (file : List ℕ) (reading : Reading) (limits : Limits) → head_of file reading limits ≡ Err OutOfMemory → ⊥
unfolding head_of
head_memory file reading limits e =
    let bin : List ℕ = take BINARY_HEADER_BYTES (drop TEXT_BLOCK_BYTES file) in
    let rest : List ℕ = drop FILE_HEADER_BYTES file in
    let o : Order = order_of reading bin in
    let large = past (nat_lt limits.bytes (length file)) TooLarge _ (λ k. cc) e in
    let short = past (nat_lt (length file) FILE_HEADER_BYTES) (Short (length file)) _ (λ k. cc) large in
    let swapped = past (is_pair_swapped bin) PairSwapped _ (λ k. cc) short in
    let otherwise = past (is_other_order reading.order (told_order bin)) OtherOrder _ (λ k. cc) swapped in
    let revision = past (is_unknown_revision o bin) (Revision (major_of o bin) (minor_of o bin)) _ (λ k. cc) otherwise in
    let float = past (not (reading.opaque || reading.floats) && is_among (format_code reading o bin) (1 ∷ 5 ∷ 6 ∷ [])) (FloatFormat (format_code reading o bin)) _ (λ k. cc) revision in
    let gain = past (not reading.opaque && is_among (format_code reading o bin) (4 ∷ [])) GainFormat _ (λ k. cc) float in
    let unknown = past (not (is_among (format_code reading o bin) (1 ∷ 2 ∷ 3 ∷ 4 ∷ 5 ∷ 6 ∷ 7 ∷ 8 ∷ 9 ∷ 10 ∷ 11 ∷ 12 ∷ 15 ∷ 16 ∷ []))) (UnknownFormat (format_code reading o bin)) _ (λ k. cc) gain in
    let text = past (is_none (blocks_for (text_count reading o bin) rest)) (TextCount (text_count reading o bin)) _ (λ k. cc) unknown in
    let extensions = past (int_lt (extensions_field o bin) (pos 0) || int_lt (pos 255) (extensions_field o bin)) (Extensions (extensions_field o bin)) _ (λ k. cc) text in
    let trailer = past (is_trailer_refused (trailer_field o bin) (length rest - TEXT_BLOCK_BYTES * blocks_in reading o bin rest)) (Trailer (trailer_field o bin)) _ (λ k. cc) extensions in
    let first = past (not (first_trace o bin == 0) && not (first_trace o bin == traces_at (blocks_in reading o bin rest))) (FirstTrace (first_trace o bin)) _ (λ k. cc) trailer in
    cc

two_checks : (a b : Bool) (p : ℕ) → (if a then Some (Truncated p) else if b then Some TooManyTraces else None) ≡ Some OutOfMemory → ⊥
two_checks true b p e = cc
two_checks false true p e = cc
two_checks false false p e = cc

length_memory : (limits : Limits) (p left : ℕ) (n : Option ℕ) → refusal_by_length limits p left n ≡ Some OutOfMemory → ⊥
length_memory limits p left None e = cc
length_memory limits p left (Some n) e = two_checks (nat_lt left n) (nat_lt limits.traces p) p e

front_memory : (a : Bool) (p : ℕ) (more : Option LoadFault) → (more ≡ Some OutOfMemory → ⊥) → (if a then Some (Truncated p) else more) ≡ Some OutOfMemory → ⊥
front_memory true p more other e = cc
front_memory false p more other e = other e

pub trace_memory : (h : Head) (limits : Limits) (p : ℕ) (rest : List ℕ) → trace_refusal h limits p rest ≡ Some OutOfMemory → ⊥
trace_memory h limits p rest e = front_memory (nat_lt (length rest) (front_length h)) p (refusal_by_length limits p (length rest) (trace_length h rest)) (length_memory limits p (length rest) (trace_length h rest)) e
