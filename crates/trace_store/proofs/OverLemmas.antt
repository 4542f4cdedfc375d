-- The same bytes laid over traces that follow one another, over each at a place of its own.
use Rattle.std.proofs.Common.{◌≡◌, ℕ, zero, suc, ◌+◌, ◌<◌, ◌≤◌, List, [], ◌∷◌, ◌++◌, length, drop, get_or, refl, sym, ap, ◌∙◌, subst, arith, Vec, Global, append_assoc, append-nil, length-append}
use Rattle.std.specs.Prelude.{slice_index_or, slice_set}
use Rattle.std.specs.List.{concat}
use Rattle.std.proofs.lemmas.List.{length-set, get_or-set_other, drop_all, drop_more}
use Rattle.base_file.specs.HeldBytes.{Standing, IsSure}
use Rattle.frame_cut.specs.declared.file_head.Head.{Head}
use Rattle.frame_cut.specs.Cuts.{IsTrace}
use Rattle.frame_cut.specs.Splice.{splice}
use Rattle.trace_view.specs.declared.run.Run.{Run}
use Rattle.trace_view.specs.Runs.{bytes_with_runs}
use Rattle.trace_store.specs.declared.prepared.Prepared.TheVariants.{Runs}
use Rattle.trace_store.specs.declared.store.TraceStore.{TraceStore}
use Rattle.trace_store.specs.Ahead.{traces_then, traces_with, AreRunsFrom, AreRunsOf, IsReady}
use Rattle.trace_store.specs.Each.{put_over, ArePutOver, ArePutRuns}
use Rattle.trace_store.specs.Stores.{bases_of, traces_of}
use Rattle.trace_store.proofs.AheadLemmas.{length-bases}
use Rattle.trace_store.proofs.LengthLemmas.{length-splice, total}

-- ---- the runs of one trace after the other

-- with one more list behind the first ones
pub over-more : (bases traces : List (List ℕ)) (place : ℕ) (places bytes : List ℕ) (k p at : ℕ) (lists : List (List Run)) (runs : List Run)
    → ((more : List (List Run)) → ArePutOver bases traces (place + k) (drop k places) bytes more → ArePutOver bases traces place places bytes (lists ++ more))
    → k < length places → p ≡ place + k → at ≡ get_or places k 0 → ArePutRuns (slice_index_or bases p []) (slice_index_or traces p []) at bytes runs
    → (more : List (List Run)) → ArePutOver bases traces (place + (k + 1)) (drop (k + 1) places) bytes more → ArePutOver bases traces place places bytes ((lists ++ runs ∷ []) ++ more)
over-more bases traces place places bytes k p at lists runs before within e is here more later =
    let next : ArePutRuns (slice_index_or bases (place + k) []) (slice_index_or traces (place + k) []) (get_or places k 0) bytes runs =
    subst (λ (q : ℕ). ArePutRuns (slice_index_or bases (place + k) []) (slice_index_or traces (place + k) []) q bytes runs) is
    (subst (λ (q : ℕ). ArePutRuns (slice_index_or bases q []) (slice_index_or traces q []) at bytes runs) e here) in
    let behind : place + (k + 1) ≡ place + k + 1 = omega arith in
    let left : ArePutOver bases traces (place + k + 1) (drop (k + 1) places) bytes more = subst (λ (q : ℕ). ArePutOver bases traces q (drop (k + 1) places) bytes more) behind later in
    subst (λ (all : List (List Run)). ArePutOver bases traces place places bytes all) (sym (append_assoc lists (runs ∷ []) more))
    (before (runs ∷ more) (subst (λ (ps : List ℕ). ArePutOver bases traces (place + k) ps bytes (runs ∷ more)) (sym (drop_more places k 0 within)) (next, left)))

-- with none behind them
pub over-all : (bases traces : List (List ℕ)) (place : ℕ) (places bytes : List ℕ) (k : ℕ) (lists : List (List Run))
    → ((more : List (List Run)) → ArePutOver bases traces (place + k) (drop k places) bytes more → ArePutOver bases traces place places bytes (lists ++ more))
    → length places ≤ k → ArePutOver bases traces place places bytes lists
over-all bases traces place places bytes k lists before done =
    let none : drop k places ≡ [] = drop_all k places done in
    subst (λ (all : List (List Run)). ArePutOver bases traces place places bytes all) (append-nil lists)
    (before [] (subst (λ (ps : List ℕ). ArePutOver bases traces (place + k) ps bytes []) (sym none) tt))

-- ---- the traces with the runs over their bases

-- without places nothing changes
over-none : (traces : List (List ℕ)) (place : ℕ) (bytes : List ℕ) → put_over traces place [] bytes ≡ traces
over-none [] place bytes = refl
over-none (t ∷ ts) zero bytes = refl
over-none (t ∷ ts) (suc place) bytes = ap (λ (xs : List (List ℕ)). t ∷ xs) (over-none ts place bytes)

-- the first trace is changed, and then the others
over-step : (traces : List (List ℕ)) (place at : ℕ) (places bytes : List ℕ) → place < length traces
    → put_over (slice_set traces place (splice (slice_index_or traces place []) at (length bytes) bytes)) (suc place) places bytes ≡ put_over traces place (at ∷ places) bytes
over-step [] place at places bytes within = absurd (omega (arith, within))
over-step (t ∷ ts) zero at places bytes within = refl
over-step (t ∷ ts) (suc place) at places bytes within = ap (λ (xs : List (List ℕ)). t ∷ xs) (over-step ts place at places bytes (omega (arith, within)))

-- the traces from `place` on are still as they were
over-traces : (bases old new : List (List ℕ)) (place : ℕ) (places bytes : List ℕ) (lists : List (List Run)) → ArePutOver bases old place places bytes lists
    → ((j : ℕ) → place ≤ j → slice_index_or new j [] ≡ slice_index_or old j []) → place + length places ≤ length new → traces_with bases new place lists ≡ put_over new place places bytes
over-traces bases old new place [] bytes [] puts later room = sym (over-none new place bytes)
over-traces bases old new place [] bytes (runs ∷ lists) puts later room = absurd puts
over-traces bases old new place (at ∷ places) bytes [] puts later room = absurd puts
over-traces bases old new place (at ∷ places) bytes (runs ∷ lists) puts later room =
    let shown : List ℕ = bytes_with_runs (slice_index_or bases place []) runs in
    let laid : shown ≡ splice (slice_index_or new place []) at (length bytes) bytes = puts.0.shows ∙ ap (λ (t : List ℕ). splice t at (length bytes) bytes) (sym (later place (omega arith))) in
    let next : List (List ℕ) = slice_set new place shown in
    let behind : place + 1 ≡ suc place = omega arith in
    over-traces bases old next (place + 1) places bytes lists puts.1
    (λ j h. get_or-set_other new place j shown [] (λ same. omega (arith, same, h)) ∙ later j (omega (arith, h)))
    (omega (arith, room, length-set new place shown))
    ∙ (ap (λ (q : ℕ). put_over next q places bytes) behind
    ∙ (ap (λ (t : List ℕ). put_over (slice_set new place t) (suc place) places bytes) laid
    ∙ over-step new place at places bytes (omega (arith, room))))

over-runs : (standing : Standing) (h : Head) (bases traces : List (List ℕ)) (place : ℕ) (places bytes : List ℕ) (lists : List (List Run)) → ArePutOver bases traces place places bytes lists
    → place + length places ≤ length bases
    → (IsSure standing → (i : ℕ) → i < length places → IsTrace h (splice (slice_index_or traces (place + i) []) (get_or places i 0) (length bytes) bytes))
    → AreRunsFrom standing h bases place lists
over-runs standing h bases traces place [] bytes [] puts room whole = tt
over-runs standing h bases traces place [] bytes (runs ∷ lists) puts room whole = absurd puts
over-runs standing h bases traces place (at ∷ places) bytes [] puts room whole = absurd puts
over-runs standing h bases traces place (at ∷ places) bytes (runs ∷ lists) puts room whole =
    let here : place + 0 ≡ place = omega arith in
    let first : IsSure standing → IsTrace h (splice (slice_index_or traces place []) at (length bytes) bytes) =
    λ sure. subst (λ (q : ℕ). IsTrace h (splice (slice_index_or traces q []) at (length bytes) bytes)) here (whole sure 0 (omega arith)) in
    let others : IsSure standing → (i : ℕ) → i < length places → IsTrace h (splice (slice_index_or traces (place + 1 + i) []) (get_or places i 0) (length bytes) bytes) =
    λ sure i inside. let next : place + suc i ≡ place + 1 + i = omega arith in
    subst (λ (q : ℕ). IsTrace h (splice (slice_index_or traces q []) (get_or places i 0) (length bytes) bytes)) next (whole sure (suc i) (omega (arith, inside))) in
    let one : AreRunsOf standing h bases place runs = record { there = omega (arith, room); fit = puts.0.fit; whole = λ sure. rw puts.0.shows (first sure) } in
    (one, over-runs standing h bases traces (place + 1) places bytes lists puts.1 (omega (arith, room)) others)

-- ---- how long the traces are

-- bytes that are laid over traces, and over no byte behind one of them, leave how long the traces are
total-over : (ts : List (List ℕ)) (place : ℕ) (places bytes : List ℕ)
    → ((k : ℕ) → k < length places → get_or places k 0 + length bytes ≤ length (slice_index_or ts (place + k) [])) → total (put_over ts place places bytes) ≡ total ts
total-over [] place places bytes room = refl
total-over (t ∷ ts) (suc place) places bytes room =
    omega (arith, length-append t (concat (put_over ts place places bytes)), length-append t (concat ts), total-over ts place places bytes (λ k h. let next : suc place + k ≡ suc (place + k) = omega arith in rw next at (room k h)))
total-over (t ∷ ts) zero [] bytes room = refl
total-over (t ∷ ts) zero (at ∷ places) bytes room =
    let new : List ℕ = splice t at (length bytes) bytes in
    let same : length new ≡ length t = length-splice t at bytes (room 0 (omega arith)) in
    let others = total-over ts zero places bytes (λ k h. let next : 0 + suc k ≡ suc (0 + k) = omega arith in rw next at (room (suc k) (omega (arith, h)))) in
    omega (arith, same, others, length-append new (concat (put_over ts zero places bytes)), length-append t (concat ts))

-- ---- the edit

module _ {T : Type 0} (s : TraceStore T) (place : ℕ) (places bytes : List ℕ) (lists : Vec (List Run) Global) (room : place + length places ≤ length (traces_of s)) (puts : ArePutOver (bases_of s) (traces_of s) place places bytes lists.items) where
  pub then_over : traces_then s (Runs (record { place = place; lists = lists })) ≡ put_over (traces_of s) place places bytes
  then_over = over-traces (bases_of s) (traces_of s) (traces_of s) place places bytes lists.items puts (λ j h. refl) room

  pub ready_over : (IsSure s.loaded.standing → (i : ℕ) → i < length places → IsTrace s.head (splice (slice_index_or (traces_of s) (place + i) []) (get_or places i 0) (length bytes) bytes))
      → ((k : ℕ) → k < length places → get_or places k 0 + length bytes ≤ length (slice_index_or (traces_of s) (place + k) [])) → IsReady s (Runs (record { place = place; lists = lists }))
  ready_over whole inside = record {
    fit = over-runs s.loaded.standing s.head (bases_of s) (traces_of s) place places bytes lists.items puts (omega (arith, room, length-bases s)) whole;
    length = ap total then_over ∙ total-over (traces_of s) place places bytes inside;
  }
