-- Bytes laid over traces that follow one another.
use Rattle.std.proofs.Common.{◌≡◌, ℕ, zero, suc, ◌+◌, ◌*◌, ◌/◌, ◌%◌, ◌<◌, ◌≤◌, List, [], ◌∷◌, ◌++◌, length, take, drop, refl, sym, ap, ◌∙◌, subst, arith, Result, Ok, Err, IfOk, append_assoc, append-nil}
use Rattle.std.specs.Prelude.{slice_index_or, slice_set}
use Rattle.std.proofs.Math.Nat.{div-mul-le_self, mod-eq-sub-div-mul, mul-le-mul_right}
use Rattle.std.proofs.lemmas.List.{length-take, length-drop, length-set, get_or-set_other, drop-drop, drop_all}
use Rattle.frame_cut.specs.Splice.{splice}
use Rattle.trace_view.specs.declared.run.Run.{Run}
use Rattle.trace_view.specs.Runs.{Fit, bytes_with_runs}
use Rattle.trace_store.specs.declared.slot.Slot.{Slot}
use Rattle.trace_view.specs.Puts.{ShowPut}
use Rattle.trace_store.specs.Slots.{base_of, bytes_in, size_of, IsInside}
use Rattle.trace_store.proofs.SlotLemmas.{base-length}
use Rattle.frame_cut.specs.Parts.{put_each_at}
use Rattle.trace_store.specs.Each.{part_of, ArePutRuns, ArePutEach}

pub both_ok : {T E : Type 0} → (P Q R : T → Type 0) (r : Result T E) → IfOk r P → IfOk r Q → ((x : T) → P x → Q x → R x) → IfOk r R
both_ok P Q R (Ok x) p q f = f x p q
both_ok P Q R (Err e) p q f = tt

-- runs that were made for the base of a slot, by its length
module _ {T : Type 0} where
  pub put-runs : (loaded : List ℕ) (slot : Slot T) (base trace : List ℕ) (at : ℕ) (bytes : List ℕ) (runs : List Run) → IsInside loaded slot.layers.base → base ≡ base_of loaded slot.layers.base → trace ≡ bytes_in loaded slot
      → Fit runs (size_of slot.layers.base) → ShowPut (size_of slot.layers.base) slot.layers.runs at bytes runs → ArePutRuns base trace at bytes runs
  put-runs loaded slot base trace at bytes runs inside b t fit shows =
      let size : length base ≡ size_of slot.layers.base = ap length b ∙ base-length loaded slot.layers.base inside in
      record {
        fit = subst (λ (n : ℕ). Fit runs n) (sym size) fit;
        shows = shows base size ∙ ap (λ (xs : List ℕ). splice xs at (length bytes) bytes) (ap (λ (xs : List ℕ). bytes_with_runs xs slot.layers.runs) b ∙ sym t);
      }

-- ---- the runs of one trace after the other

-- with one more list behind the first ones
pub runs-more : (bases traces : List (List ℕ)) (place at size : ℕ) (bytes : List ℕ) (k p : ℕ) (part : List ℕ) (lists : List (List Run)) (runs : List Run)
    → ((more : List (List Run)) → ArePutEach bases traces place at size bytes k more → ArePutEach bases traces place at size bytes 0 (lists ++ more))
    → p ≡ place + k → part ≡ part_of bytes size k → ArePutRuns (slice_index_or bases p []) (slice_index_or traces p []) at part runs
    → (more : List (List Run)) → ArePutEach bases traces place at size bytes (k + 1) more → ArePutEach bases traces place at size bytes 0 ((lists ++ runs ∷ []) ++ more)
runs-more bases traces place at size bytes k p part lists runs before e is here more later =
    let next : ArePutRuns (slice_index_or bases (place + k) []) (slice_index_or traces (place + k) []) at (part_of bytes size k) runs =
    subst (λ (xs : List ℕ). ArePutRuns (slice_index_or bases (place + k) []) (slice_index_or traces (place + k) []) at xs runs) is
    (subst (λ (q : ℕ). ArePutRuns (slice_index_or bases q []) (slice_index_or traces q []) at part runs) e here) in
    subst (λ (all : List (List Run)). ArePutEach bases traces place at size bytes 0 all) (sym (append_assoc lists (runs ∷ []) more)) (before (runs ∷ more) (next, later))

-- with none behind them
pub runs-all : (bases traces : List (List ℕ)) (place at size : ℕ) (bytes : List ℕ) (k : ℕ) (lists : List (List Run))
    → ((more : List (List Run)) → ArePutEach bases traces place at size bytes k more → ArePutEach bases traces place at size bytes 0 (lists ++ more))
    → ArePutEach bases traces place at size bytes 0 lists
runs-all bases traces place at size bytes k lists before =
    subst (λ (all : List (List Run)). ArePutEach bases traces place at size bytes 0 all) (append-nil lists) (before [] tt)

-- ---- the traces of which the first have their bytes

-- the part lies inside the bytes
pub part-inside : (n size k : ℕ) → 0 < size → k < n / size → k * size + size ≤ n
part-inside n size k some within =
    let more : (k + 1) * size ≤ n / size * size = mul-le-mul_right size (omega arith) in
    omega (arith, more, div-mul-le_self n size)

pub length-part : (bytes : List ℕ) (size k : ℕ) → 0 < size → k < length bytes / size → length (part_of bytes size k) ≡ size
length-part bytes size k some within =
    omega (arith, part-inside (length bytes) size k some within, length-take size (drop (k * size) bytes), length-drop (k * size) bytes)

-- what the next list shows over the bases
pub laid-next : (bases traces current : List (List ℕ)) (place at size : ℕ) (bytes : List ℕ) (k p : ℕ) (runs : List Run) → current ≡ bases → p ≡ place + k → 0 < size → k < length bytes / size
    → ArePutRuns (slice_index_or bases (place + k) []) (slice_index_or traces (place + k) []) at (part_of bytes size k) runs
    → bytes_with_runs (slice_index_or current p []) runs ≡ splice (slice_index_or traces (place + k) []) at size (part_of bytes size k)
laid-next bases traces current place at size bytes k p runs same e some within put =
    ap (λ (bs : List (List ℕ)). bytes_with_runs (slice_index_or bs p []) runs) same
    ∙ (ap (λ (q : ℕ). bytes_with_runs (slice_index_or bases q []) runs) e
    ∙ (put.shows ∙ ap (λ (n : ℕ). splice (slice_index_or traces (place + k) []) at n (part_of bytes size k)) (length-part bytes size k some within)))

-- without bytes nothing changes
put_each-none : (traces : List (List ℕ)) (place at size : ℕ) → put_each_at traces place at size [] ≡ traces
put_each-none [] place at size = refl
put_each-none (t ∷ ts) zero at size = refl
put_each-none (t ∷ ts) (suc place) at size = ap (λ (xs : List (List ℕ)). t ∷ xs) (put_each-none ts place at size)

-- the first trace is changed, and then the others
put_each-step : (traces : List (List ℕ)) (place at size : ℕ) (bytes : List ℕ) → place < length traces → 0 < length bytes
    → put_each_at (slice_set traces place (splice (slice_index_or traces place []) at size (take size bytes))) (suc place) at size (drop size bytes) ≡ put_each_at traces place at size bytes
put_each-step [] place at size bytes within some = absurd (omega arith)
put_each-step (t ∷ ts) zero at size [] within some = absurd (omega arith)
put_each-step (t ∷ ts) zero at size (b ∷ bs) within some = refl
put_each-step (t ∷ ts) (suc place) at size bytes within some =
    let short : place < length ts = omega arith in
    ap (λ (xs : List (List ℕ)). t ∷ xs) (put_each-step ts place at size bytes short some)

-- k traces from the one at `place` on have their bytes
pub record ArePutSoFar (old new : List (List ℕ)) (place at size : ℕ) (bytes : List ℕ) (k : ℕ) : Type 0 where
  pub count : length new ≡ length old
  pub later : (j : ℕ) → place + k ≤ j → slice_index_or new j [] ≡ slice_index_or old j []
  pub left : put_each_at new (place + k) at size (drop (k * size) bytes) ≡ put_each_at old place at size bytes

pub so_far_more : (old new next : List (List ℕ)) (place at size : ℕ) (bytes : List ℕ) (k p : ℕ) (shown : List ℕ) → ArePutSoFar old new place at size bytes k → 0 < size → k < length bytes / size → place + k < length old
    → p ≡ place + k → next ≡ slice_set new p shown → shown ≡ splice (slice_index_or old (place + k) []) at size (part_of bytes size k)
    → ArePutSoFar old next place at size bytes (k + 1)
so_far_more old new next place at size bytes k p shown before some within inside e is laid =
    let rest : List ℕ = drop (k * size) bytes in
    let held : slice_index_or new (place + k) [] ≡ slice_index_or old (place + k) [] = before.later (place + k) (omega arith) in
    let put : next ≡ slice_set new (place + k) (splice (slice_index_or new (place + k) []) at size (take size rest)) =
    is ∙ (ap (λ (q : ℕ). slice_set new q shown) e
    ∙ ap (λ (t : List ℕ). slice_set new (place + k) t) (laid ∙ ap (λ (t : List ℕ). splice t at size (take size rest)) (sym held))) in
    let short : place + k < length new = omega (arith, inside, before.count) in
    let bytes-left : 0 < length rest = omega (arith, some, part-inside (length bytes) size k some within, length-drop (k * size) bytes) in
    let step = put_each-step new (place + k) at size rest short bytes-left in
    let sum : k * size + size ≡ (k + 1) * size = omega arith in
    let passed : drop ((k + 1) * size) bytes ≡ drop size rest = sym (drop-drop size (k * size) bytes ∙ ap (λ (n : ℕ). drop n bytes) sum) in
    let place-next : place + (k + 1) ≡ suc (place + k) = omega arith in
    record {
      count = ap (λ (xs : List (List ℕ)). length xs) is ∙ (length-set new p shown ∙ before.count);
      later = λ j h. ap (λ (xs : List (List ℕ)). slice_index_or xs j []) is ∙ (get_or-set_other new p j shown [] (λ same. omega (arith, same, h, e)) ∙ before.later j (omega (arith, h)));
      left =
          ap (λ (q : ℕ). put_each_at next q at size (drop ((k + 1) * size) bytes)) place-next
          ∙ (ap (λ (xs : List ℕ). put_each_at next (suc (place + k)) at size xs) passed
          ∙ (ap (λ (ts : List (List ℕ)). put_each_at ts (suc (place + k)) at size (drop size rest)) put
          ∙ (step ∙ before.left)));
    }

pub so_far_all : (old new : List (List ℕ)) (place at size : ℕ) (bytes : List ℕ) (k : ℕ) → ArePutSoFar old new place at size bytes k → k ≡ length bytes / size → length bytes % size ≡ 0 → new ≡ put_each_at old place at size bytes
so_far_all old new place at size bytes k before e exact =
    let whole : length bytes ≤ k * size = rw e (omega (arith, exact, mod-eq-sub-div-mul (length bytes) size)) in
    let none : drop (k * size) bytes ≡ [] = drop_all (k * size) bytes whole in
    sym (put_each-none new (place + k) at size) ∙ (ap (λ (xs : List ℕ). put_each_at new (place + k) at size xs) (sym none) ∙ before.left)
