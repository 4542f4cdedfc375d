-- Traces as they would be with the edit that is prepared.
use Rattle.std.proofs.Common.{◌≡◌, ℕ, zero, suc, ◌+◌, ◌*◌, ◌/◌, ◌%◌, ◌<◌, ◌≤◌, List, [], ◌∷◌, length, drop, get_or, refl, sym, ap, ◌∙◌, subst, arith, Option, Some, None, Vec, Global}
use Rattle.std.specs.Prelude.{slice_index_or, slice_set}
use Rattle.std.proofs.lemmas.List.{length-map, length-set, get_or-set_same, get_or-set_other}
use Rattle.base_file.specs.HeldBytes.{Standing, Falls, IsSure}
use Rattle.base_file.proofs.HeldLemmas.{sure_before}
use Rattle.frame_cut.specs.declared.file_head.Head.{Head}
use Rattle.frame_cut.specs.Cuts.{IsTrace}
use Rattle.frame_cut.specs.Parts.{put_each_at}
use Rattle.frame_cut.specs.Splice.{splice}
use Rattle.trace_view.specs.declared.run.Run.{Run}
use Rattle.trace_view.specs.Runs.{bytes_with_runs}
use Rattle.trace_store.specs.declared.prepared.Prepared.{Prepared}
use Rattle.trace_store.specs.declared.prepared.Prepared.TheVariants.{Put, Runs, Move}
use Rattle.trace_store.specs.declared.store.TraceStore.{TraceStore}
use Rattle.trace_store.specs.Ahead.{traces_ahead, traces_then, traces_with, AreRunsFrom, AreRunsOf, IsReady, IsReadyIfSome}
use Rattle.trace_store.specs.Each.{part_of, ArePutEach, ArePutRuns}
use Rattle.trace_store.specs.Slots.{base_under, bytes_under}
use Rattle.trace_store.specs.Stores.{bases_of, payloads_of, traces_of}
use Rattle.trace_store.proofs.EachLemmas.{laid-next, so_far_all, so_far_more, ArePutSoFar}
use Rattle.trace_store.proofs.LengthLemmas.{length-splice, total, total-set}
use Rattle.trace_store.proofs.MoveLemmas.{length-moved, total-moved, AreTraces}

-- each trace has its base
module _ {T : Type 0} where
  pub length-bases : (s : TraceStore T) → length (bases_of s) ≡ length (traces_of s)
  length-bases s = length-map s.order.ids (base_under s.loaded.bytes s.slots) ∙ sym (length-map s.order.ids (bytes_under s.loaded.bytes s.slots))

-- ---- the traces, one by one

pub length-with : (bases ts : List (List ℕ)) (place : ℕ) (lists : List (List Run)) → length (traces_with bases ts place lists) ≡ length ts
length-with bases ts place [] = refl
length-with bases ts place (runs ∷ lists) = length-with bases (slice_set ts place (bytes_with_runs (slice_index_or bases place []) runs)) (place + 1) lists ∙ length-set ts place (bytes_with_runs (slice_index_or bases place []) runs)

module _ {T : Type 0} where
  pub length-ahead : (s : TraceStore T) (prepared : Option Prepared) → IsReadyIfSome s prepared → length (traces_ahead s prepared) ≡ length (traces_of s)
  length-ahead s None ready = refl
  length-ahead s (Some (Put put)) ready = length-with (bases_of s) (traces_of s) put.place (put.runs ∷ [])
  length-ahead s (Some (Runs runs)) ready = length-with (bases_of s) (traces_of s) runs.place runs.lists.items
  length-ahead s (Some (Move m)) ready = length-moved (traces_of s) m.from m.to (record { from_first = ready.fit.from_first; from_last = ready.fit.from_last; to_first = ready.fit.to_first; to_last = ready.fit.to_last })

pub in_front : (bases ts : List (List ℕ)) (place j : ℕ) (lists : List (List Run)) → j < place → slice_index_or (traces_with bases ts place lists) j [] ≡ slice_index_or ts j []
in_front bases ts place j [] h = refl
in_front bases ts place j (runs ∷ lists) h =
    let new : List ℕ = bytes_with_runs (slice_index_or bases place []) runs in
    in_front bases (slice_set ts place new) (place + 1) j lists (omega (arith, h)) ∙ get_or-set_other ts place j new [] (λ same. omega (arith, same, h))

pub behind : (bases ts : List (List ℕ)) (place j : ℕ) (lists : List (List Run)) → place + length lists ≤ j → slice_index_or (traces_with bases ts place lists) j [] ≡ slice_index_or ts j []
behind bases ts place j [] h = refl
behind bases ts place j (runs ∷ lists) h =
    let new : List ℕ = bytes_with_runs (slice_index_or bases place []) runs in
    behind bases (slice_set ts place new) (place + 1) j lists (omega (arith, h)) ∙ get_or-set_other ts place j new [] (λ same. omega (arith, same, h))

-- one of the lists
pub runs-at : (standing : Standing) (h : Head) (bases : List (List ℕ)) (place j k : ℕ) (lists : List (List Run)) (runs : List Run) → AreRunsFrom standing h bases place lists → k < length lists → get_or lists k runs ≡ runs → j ≡ place + k → AreRunsOf standing h bases j runs
runs-at standing h bases place j k [] runs all within is e = absurd (omega (arith, within))
runs-at standing h bases place j zero (first ∷ lists) runs all within is e =
    let here : j ≡ place = omega (arith, e) in
    subst (λ (v : List Run). AreRunsOf standing h bases j v) is (subst (λ (q : ℕ). AreRunsOf standing h bases q first) (sym here) all.0)
runs-at standing h bases place j (suc k) (first ∷ lists) runs all within is e = runs-at standing h bases (place + 1) j k lists runs all.1 (omega (arith, within)) is (omega (arith, e))

pub with-at : (standing : Standing) (h : Head) (bases ts : List (List ℕ)) (place j k : ℕ) (lists : List (List Run)) (runs : List Run) → AreRunsFrom standing h bases place lists → length bases ≡ length ts
    → k < length lists → get_or lists k runs ≡ runs → j ≡ place + k → slice_index_or (traces_with bases ts place lists) j [] ≡ bytes_with_runs (slice_index_or bases j []) runs
with-at standing h bases ts place j k [] runs all same within is e = absurd (omega (arith, within))
with-at standing h bases ts place j zero (first ∷ lists) runs all same within is e =
    let here : j ≡ place = omega (arith, e) in
    let new : List ℕ = bytes_with_runs (slice_index_or bases place []) first in
    let there : place < length ts = omega (arith, same, all.0.there) in
    ap (λ (q : ℕ). slice_index_or (traces_with bases (slice_set ts place new) (place + 1) lists) q []) here
    ∙ (in_front bases (slice_set ts place new) (place + 1) place lists (omega arith)
    ∙ (get_or-set_same ts place new [] there
    ∙ (ap (λ (v : List Run). bytes_with_runs (slice_index_or bases place []) v) is
    ∙ ap (λ (q : ℕ). bytes_with_runs (slice_index_or bases q []) runs) (sym here))))
with-at standing h bases ts place j (suc k) (first ∷ lists) runs all same within is e =
    let new : List ℕ = bytes_with_runs (slice_index_or bases place []) first in
    with-at standing h bases (slice_set ts place new) (place + 1) j k lists runs all.1 (omega (arith, same, length-set ts place new)) (omega (arith, within)) is (omega (arith, e))

-- ---- runs for one trace

module _ {T : Type 0} where
  pub ready_one : (s : TraceStore T) (place at : ℕ) (bytes : List ℕ) (runs : List Run) → place < length (traces_of s)
      → at + length bytes ≤ length (slice_index_or (traces_of s) place []) → (IsSure s.loaded.standing → IsTrace s.head (splice (slice_index_or (traces_of s) place []) at (length bytes) bytes))
      → ArePutRuns (slice_index_or (bases_of s) place []) (slice_index_or (traces_of s) place []) at bytes runs → IsReady s (Put (record { place = place; runs = runs }))
  ready_one s place at bytes runs there inside whole put =
      let ts : List (List ℕ) = traces_of s in
      let t : List ℕ = slice_index_or ts place [] in
      let one : AreRunsOf s.loaded.standing s.head (bases_of s) place runs = record { there = omega (arith, there, length-bases s); fit = put.fit; whole = λ sure. rw put.shows (whole sure) } in
      let then_is : traces_with (bases_of s) ts place (runs ∷ []) ≡ slice_set ts place (splice t at (length bytes) bytes) = ap (λ (x : List ℕ). slice_set ts place x) put.shows in
      record {
        fit = (one, tt);
        length = omega (arith, ap total then_is, total-set ts place (splice t at (length bytes) bytes) there, length-splice t at bytes inside);
      }

-- ---- runs for traces that follow one another

each-runs : (standing : Standing) (h : Head) (bases traces : List (List ℕ)) (place at size : ℕ) (bytes : List ℕ) (k : ℕ) (lists : List (List Run)) → ArePutEach bases traces place at size bytes k lists → 0 < size
    → k + length lists ≡ length bytes / size → place + length bytes / size ≤ length bases
    → (IsSure standing → (i : ℕ) → i < length bytes / size → IsTrace h (splice (slice_index_or traces (place + i) []) at size (part_of bytes size i)))
    → AreRunsFrom standing h bases (place + k) lists
each-runs standing h bases traces place at size bytes k [] puts some count room whole = tt
each-runs standing h bases traces place at size bytes k (runs ∷ lists) puts some count room whole =
    let within : k < length bytes / size = omega (arith, count) in
    let shown = laid-next bases traces bases place at size bytes k (place + k) runs refl refl some within puts.0 in
    let next : place + (k + 1) ≡ place + k + 1 = omega arith in
    let one : AreRunsOf standing h bases (place + k) runs = record { there = omega (arith, within, room); fit = puts.0.fit; whole = λ sure. rw shown (whole sure k within) } in
    (one, subst (λ (q : ℕ). AreRunsFrom standing h bases q lists) next (each-runs standing h bases traces place at size bytes (k + 1) lists puts.1 some (omega (arith, count)) room whole))

each-traces : (bases old new : List (List ℕ)) (place at size : ℕ) (bytes : List ℕ) (k : ℕ) (lists : List (List Run)) → ArePutSoFar old new place at size bytes k → ArePutEach bases old place at size bytes k lists → 0 < size
    → k + length lists ≡ length bytes / size → length bytes % size ≡ 0 → place + length bytes / size ≤ length old
    → traces_with bases new (place + k) lists ≡ put_each_at old place at size bytes
each-traces bases old new place at size bytes k [] so_far puts some count exact room = so_far_all old new place at size bytes k so_far (omega (arith, count)) exact
each-traces bases old new place at size bytes k (runs ∷ lists) so_far puts some count exact room =
    let within : k < length bytes / size = omega (arith, count) in
    let shown : List ℕ = bytes_with_runs (slice_index_or bases (place + k) []) runs in
    let laid = laid-next bases old bases place at size bytes k (place + k) runs refl refl some within puts.0 in
    let more = so_far_more old new (slice_set new (place + k) shown) place at size bytes k (place + k) shown so_far some within (omega (arith, within, room)) refl refl laid in
    let next : place + k + 1 ≡ place + (k + 1) = omega arith in
    ap (λ (q : ℕ). traces_with bases (slice_set new (place + k) shown) q lists) next ∙ each-traces bases old (slice_set new (place + k) shown) place at size bytes (k + 1) lists more puts.1 some (omega (arith, count)) exact room

none_yet : (old : List (List ℕ)) (place at size : ℕ) (bytes : List ℕ) → ArePutSoFar old old place at size bytes 0
none_yet old place at size bytes =
    let here : place + 0 ≡ place = omega arith in
    let none : 0 * size ≡ 0 = omega arith in
    record {
      count = refl;
      later = λ j h. refl;
      left = ap (λ (n : ℕ). put_each_at old (place + 0) at size (drop n bytes)) none ∙ ap (λ (q : ℕ). put_each_at old q at size bytes) here;
    }

module _ {T : Type 0} (s : TraceStore T) (place at size : ℕ) (bytes : List ℕ) (lists : Vec (List Run) Global) (some : 0 < size) (count : length lists.items ≡ length bytes / size) (room : place + length bytes / size ≤ length (traces_of s))
    (puts : ArePutEach (bases_of s) (traces_of s) place at size bytes 0 lists.items) where
  pub then_each : length bytes % size ≡ 0 → traces_then s (Runs (record { place = place; lists = lists })) ≡ put_each_at (traces_of s) place at size bytes
  then_each exact =
      let here : place + 0 ≡ place = omega arith in
      ap (λ (q : ℕ). traces_with (bases_of s) (traces_of s) q lists.items) (sym here)
      ∙ each-traces (bases_of s) (traces_of s) (traces_of s) place at size bytes 0 lists.items (none_yet (traces_of s) place at size bytes) puts some (omega (arith, count)) exact room

  pub ready_each : length bytes % size ≡ 0 → (IsSure s.loaded.standing → (i : ℕ) → i < length bytes / size → IsTrace s.head (splice (slice_index_or (traces_of s) (place + i) []) at size (part_of bytes size i)))
      → total (put_each_at (traces_of s) place at size bytes) ≡ total (traces_of s) → IsReady s (Runs (record { place = place; lists = lists }))
  ready_each exact whole same =
      let here : place + 0 ≡ place = omega arith in
      record {
        fit = subst (λ (q : ℕ). AreRunsFrom s.loaded.standing s.head (bases_of s) q lists.items) here (each-runs s.loaded.standing s.head (bases_of s) (traces_of s) place at size bytes 0 lists.items puts some (omega (arith, count)) (omega (arith, room, length-bases s)) whole);
        length = ap total (then_each exact) ∙ same;
      }

-- ---- a move

module _ {T : Type 0} where
  pub ready_move : (s : TraceStore T) (a b : ℕ) → AreTraces (traces_of s) a b → 1 ≤ s.order.spare → IsReady s (Move (record { from = a; to = b }))
  ready_move s a b there room = record {
    fit = record { from_first = there.from_first; from_last = there.from_last; to_first = there.to_first; to_last = there.to_last; room = room };
    length = total-moved (traces_of s) a b there;
  }

-- ---- a standing that falls

run_falls : (old new : Standing) (h : Head) (bases : List (List ℕ)) (place : ℕ) (runs : List Run) → Falls old new → AreRunsOf old h bases place runs → AreRunsOf new h bases place runs
run_falls old new h bases place runs falls one = record { there = one.there; fit = one.fit; whole = λ sure. one.whole (sure_before old new falls sure) }

pub runs_fall : (old new : Standing) (h : Head) (bases : List (List ℕ)) (place : ℕ) (lists : List (List Run)) → Falls old new → AreRunsFrom old h bases place lists → AreRunsFrom new h bases place lists
runs_fall old new h bases place [] falls all = tt
runs_fall old new h bases place (runs ∷ lists) falls all = (run_falls old new h bases place runs falls all.0, runs_fall old new h bases (place + 1) lists falls all.1)

-- ---- the same traces in another store

-- a store has the same traces over the same bases, stands as before or has fallen, and has no less room in its order
module _ {T : Type 0} where
  pub record IsSame (s t : TraceStore T) : Type 0 where
    pub head : t.head ≡ s.head
    pub standing : Falls s.loaded.standing t.loaded.standing
    pub bases : bases_of t ≡ bases_of s
    pub traces : traces_of t ≡ traces_of s
    pub payloads : payloads_of t ≡ payloads_of s
    pub room : s.order.spare ≤ t.order.spare

module _ {T : Type 0} where
  pub ahead_kept : (s t : TraceStore T) (prepared : Option Prepared) → IsSame s t → traces_ahead t prepared ≡ traces_ahead s prepared
  ahead_kept s t None same = same.traces
  ahead_kept s t (Some (Put put)) same = rw (same.bases, same.traces) refl
  ahead_kept s t (Some (Runs runs)) same = rw (same.bases, same.traces) refl
  ahead_kept s t (Some (Move m)) same = rw same.traces refl

module _ {T : Type 0} where
  pub ready_kept : (s t : TraceStore T) (prepared : Option Prepared) → IsSame s t → IsReadyIfSome s prepared → IsReadyIfSome t prepared
  ready_kept s t None same ready = tt
  ready_kept s t (Some (Put put)) same ready = record {
    fit = rw (same.head, same.bases) (runs_fall s.loaded.standing t.loaded.standing s.head (bases_of s) put.place (put.runs ∷ []) same.standing ready.fit);
    length = rw (same.bases, same.traces) ready.length;
  }
  ready_kept s t (Some (Runs runs)) same ready = record {
    fit = rw (same.head, same.bases) (runs_fall s.loaded.standing t.loaded.standing s.head (bases_of s) runs.place runs.lists.items same.standing ready.fit);
    length = rw (same.bases, same.traces) ready.length;
  }
  ready_kept s t (Some (Move m)) same ready =
      let count : length (traces_of t) ≡ length (traces_of s) = ap (λ (ts : List (List ℕ)). length ts) same.traces in
      record {
        fit = record {
          from_first = ready.fit.from_first;
          from_last = omega (arith, ready.fit.from_last, count);
          to_first = ready.fit.to_first;
          to_last = omega (arith, ready.fit.to_last, count);
          room = omega (arith, ready.fit.room, same.room);
        };
        length = rw same.traces ready.length;
      }
