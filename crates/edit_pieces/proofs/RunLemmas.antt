-- Runs that are laid over a file at the places of their traces.
use Rattle.std.proofs.Common.{◌≡◌, ℕ, ◌+◌, ◌-◌, ◌≤◌, Bool, true, false, List, [], ◌∷◌, ◌++◌, length, take, drop, map, refl, sym, ap, ◌∙◌, subst, arith, append_assoc, length-append, Option, Some, None}
use Rattle.std.specs.Prelude.{slice_range, ◌==◌, if◌then◌else◌, IsSomeAnd}
use Rattle.std.specs.List.{flat_map, concat, AllByRecursion}
use Rattle.std.specs.Option.{option_map_or, option_or}
use Rattle.std.proofs.lemmas.Bool.{eqb-true}
use Rattle.std.proofs.lemmas.List.{take-append-drop, drop-drop, drop-append-le, length-drop, length-take}
use Rattle.base_file.specs.HeldBytes.{HeldBytes}
use Rattle.slab.specs.Slab.{Slab, get}
use Rattle.journal_codes.specs.Codes.{Span}
use Rattle.journal_save.specs.Disk.{laid, laid_all}
use Rattle.journal_save.proofs.Laid.{laid_all-append}
use Rattle.frame_cut.specs.declared.extent.Extent.{Extent}
use Rattle.frame_cut.specs.declared.file_head.Head.{Head}
use Rattle.trace_seq.proofs.TimeLemmas.{times-self}
use Rattle.trace_view.specs.declared.run.Run.{Run}
use Rattle.trace_view.specs.Runs.{end_of, Fit, FitFrom, bytes_with_runs, bytes_with_runs_from}
use Rattle.trace_view.proofs.WrittenLemmas.{length-written}
use Rattle.trace_store.specs.declared.base.Base.{Base}
use Rattle.trace_store.specs.declared.base.Base.TheVariants.{Loaded, Added}
use Rattle.trace_store.specs.declared.slot.Slot.{Slot}
use Rattle.trace_store.specs.Layers.{Layered, extent_of}
use Rattle.trace_store.specs.Slots.{base_of, bytes_in, bytes_under, size_of, AreHeld, IsInside, IsSlot}
use Rattle.trace_store.proofs.SlotLemmas.{base-length, held-slot}
use Rattle.edit_pieces.specs.Changes.{layers_under, no_layers, run_at, runs_in, runs_over}
use Rattle.edit_pieces.specs.InPlace.{misplaced, unfit_from}
use Rattle.edit_pieces.specs.RunsLeft.{IsRunIn}
use Rattle.edit_pieces.specs.declared.unfit.Unfit.{Unfit}
use Rattle.edit_pieces.specs.declared.unfit.Unfit.TheVariants.{OtherPlace, Fewer}
use Rattle.edit_pieces.proofs.LaidLemmas.{laid-at, all-append, IsInFile}

-- ---- the runs of one trace

fit-begin : (from : ℕ) (rs : List Run) (len : ℕ) → FitFrom from rs len → from ≤ len
fit-begin from [] len fit = fit
fit-begin from (r ∷ rs) len fit = let rest = fit-begin (end_of r) rs len fit.1.1 in omega (arith, fit.0, rest)

-- the bytes up to a place, and those behind
gap-joined : (from at : ℕ) (base : List ℕ) → from ≤ at → drop from base ≡ slice_range base from at ++ drop at base
gap-joined from at base h =
    let there : from + (at - from) ≡ at = omega arith in
    sym (take-append-drop (at - from) (drop from base)) ∙ ap (λ (l : List ℕ). slice_range base from at ++ l) (drop-drop (at - from) from base ∙ ap (λ (k : ℕ). drop k base) there)

gap-length : (from at : ℕ) (base : List ℕ) → from ≤ at → at ≤ length base → length (slice_range base from at) ≡ at - from
gap-length from at base h k = omega (arith, length-take (at - from) (drop from base), length-drop from base)

-- laid over the bytes behind the first ones
laid-runs : (start from : ℕ) (xs base tail : List ℕ) (rs : List Run) → length xs ≡ start + from → FitFrom from rs (length base)
    → laid_all (map (run_at start) rs) (xs ++ (drop from base ++ tail)) ≡ xs ++ (bytes_with_runs_from from base rs ++ tail)
laid-runs start from xs base tail [] e fit = refl
laid-runs start from xs base tail (r ∷ rs) e fit =
    let bs : List ℕ = r.bytes.items in
    let gap : List ℕ = slice_range base from r.at in
    let rest : List ℕ = drop r.at base ++ tail in
    let ends : end_of r ≤ length base = fit-begin (end_of r) rs (length base) fit.1.1 in
    let long : length gap ≡ r.at - from = gap-length from r.at base fit.0 (omega arith) in
    let at_gap : length (xs ++ gap) ≡ start + r.at = omega (arith, fit.0, length-append xs gap) in
    let behind : length ((xs ++ gap) ++ bs) ≡ start + end_of r = omega (arith, length-append (xs ++ gap) bs) in
    let fits : length bs ≤ length rest = omega (arith, length-append (drop r.at base) tail, length-drop r.at base) in
    let whole : xs ++ (drop from base ++ tail) ≡ (xs ++ gap) ++ rest =
    ap (λ (l : List ℕ). xs ++ (l ++ tail)) (gap-joined from r.at base fit.0)
    ∙ ap (λ (l : List ℕ). xs ++ l) (append_assoc gap (drop r.at base) tail)
    ∙ sym (append_assoc xs gap rest) in
    let left : drop (length bs) rest ≡ drop (end_of r) base ++ tail =
    drop-append-le (length bs) (drop r.at base) tail (omega (arith, length-drop r.at base))
    ∙ ap (λ (l : List ℕ). l ++ tail) (drop-drop (length bs) r.at base) in
    let first : laid (start + r.at) bs (xs ++ (drop from base ++ tail)) ≡ ((xs ++ gap) ++ bs) ++ (drop (end_of r) base ++ tail) =
    ap (λ (l : List ℕ). laid (start + r.at) bs l) whole
    ∙ laid-at (start + r.at) (xs ++ gap) rest bs at_gap fits
    ∙ ap (λ (l : List ℕ). (xs ++ gap) ++ (bs ++ l)) left
    ∙ sym (append_assoc (xs ++ gap) bs (drop (end_of r) base ++ tail)) in
    let more : List ℕ = bytes_with_runs_from (end_of r) base rs in
    ap (λ (l : List ℕ). laid_all (map (run_at start) rs) l) first
    ∙ laid-runs start (end_of r) ((xs ++ gap) ++ bs) base tail rs behind fit.1.1
    ∙ append_assoc (xs ++ gap) bs (more ++ tail)
    ∙ append_assoc xs gap (bs ++ (more ++ tail))
    ∙ ap (λ (l : List ℕ). xs ++ (gap ++ l)) (sym (append_assoc bs more tail))
    ∙ ap (λ (l : List ℕ). xs ++ l) (sym (append_assoc gap (bs ++ more) tail))

pub runs-in : (file start from : ℕ) (rs : List Run) (len : ℕ) → FitFrom from rs len → start + len ≤ file → AllByRecursion (IsRunIn file start) rs
runs-in file start from [] len fit h = tt
runs-in file start from (r ∷ rs) len fit h =
    let ends : end_of r ≤ len = fit-begin (end_of r) rs len fit.1.1 in
    (record { some = fit.1.0; inside = omega arith }, runs-in file start (end_of r) rs len fit.1.1 h)

run-spans-inside : (file start : ℕ) (rs : List Run) → AllByRecursion (IsRunIn file start) rs → AllByRecursion (IsInFile file) (map (run_at start) rs)
run-spans-inside file start [] h = tt
run-spans-inside file start (r ∷ rs) h = let inside = h.0.inside in (omega (arith, inside), run-spans-inside file start rs h.1)

-- ---- one trace

-- the bytes of a trace
abbrev pub trace_in : List ℕ → Layered → List ℕ
trace_in file l = bytes_with_runs (base_of file l.base) l.runs

-- a trace lies over the loaded bytes
pub record IsOver (file : List ℕ) (l : Layered) : Type 0 where
  pub inside : IsInside file l.base
  pub fit : Fit l.runs (length (base_of file l.base))

-- a trace that is at its place, and those behind it
record IsPlaced (at : ℕ) (o : Option Extent) (rest : Option Unfit) : Type 0 where
  extent : Extent
  is : o ≡ Some extent
  place : extent.start ≡ at
  rest_fits : rest ≡ None

placed : (at p : ℕ) (o : Option Extent) (rest : Option Unfit) → option_or (misplaced at p o) rest ≡ None → IsPlaced at o rest
placed at p None rest h = absurd (cc)
placed at p (Some e) rest h = side (e.start == at) refl h where
  side : (b : Bool) → (e.start == at) ≡ b → option_or (if b then None else Some (OtherPlace p)) rest ≡ None → IsPlaced at (Some e) rest
  side true q k = record { extent = e; is = refl; place = eqb-true e.start at q; rest_fits = k }
  side false q k = absurd (cc)

-- laid over a file at its place, a trace's runs give its bytes
record IsLaid (file : List ℕ) (at : ℕ) (base : Base) (rs : List Run) (xs : List ℕ) (rest : Option Unfit) : Type 0 where
  shown : laid_all (runs_over (extent_of base) rs) (xs ++ drop at file) ≡ xs ++ (bytes_with_runs (base_of file base) rs ++ drop (at + size_of base) file)
  size : length (bytes_with_runs (base_of file base) rs) ≡ size_of base
  rest_fits : rest ≡ None

laid-trace : (file : List ℕ) (at p : ℕ) (base : Base) (rs : List Run) (xs : List ℕ) (rest : Option Unfit) → length xs ≡ at → IsInside file base → Fit rs (length (base_of file base))
    → option_or (misplaced at p (extent_of base)) rest ≡ None → IsLaid file at base rs xs rest
laid-trace file at p (Added bytes) rs xs rest e inside fit h = absurd (cc)
laid-trace file at p (Loaded x) rs xs rest e inside fit h =
    let there = placed at p (Some x) rest h in
    let same : there.extent ≡ x = (let is = there.is in cc) in
    let place : x.start ≡ at = ap (λ (y : Extent). y.start) (sym same) ∙ there.place in
    let base : List ℕ = base_of file (Loaded x) in
    let tail : List ℕ = drop (at + x.length) file in
    let joined : drop at file ≡ base ++ tail =
    sym (take-append-drop x.length (drop at file))
    ∙ ap (λ (k : ℕ). take x.length (drop k file) ++ drop x.length (drop at file)) (sym place)
    ∙ ap (λ (l : List ℕ). base ++ l) (drop-drop x.length at file) in
    let long : length xs ≡ x.start + 0 = omega (arith, e, place) in
    record {
      shown = ap (λ (l : List ℕ). laid_all (map (run_at x.start) rs) (xs ++ l)) joined ∙ laid-runs x.start 0 xs base tail rs long fit;
      size = length-written base rs fit ∙ base-length file (Loaded x) inside;
      rest_fits = there.rest_fits;
    }

-- ---- all traces

at-end : (at end : ℕ) → (if at == end then None else Some Fewer) ≡ None → at ≡ end
at-end at end h = side (at == end) refl h where
  side : (b : Bool) → (at == end) ≡ b → (if b then None else Some Fewer) ≡ None → at ≡ end
  side true q k = eqb-true at end q
  side false q k = absurd (cc)

pub laid-traces : (file : List ℕ) (at p end : ℕ) (xs : List ℕ) (ls : List Layered) → length xs ≡ at → AllByRecursion (IsOver file) ls → unfit_from at p end ls ≡ None
    → laid_all (flat_map runs_in ls) (xs ++ drop at file) ≡ xs ++ (concat (map (trace_in file) ls) ++ drop end file)
laid-traces file at p end xs [] e over h = ap (λ (k : ℕ). xs ++ drop k file) (at-end at end h)
laid-traces file at p end xs (l ∷ ls) e over h =
    let one = laid-trace file at p l.base l.runs xs (unfit_from (at + size_of l.base) (p + 1) end ls) e over.0.inside over.0.fit h in
    let t : List ℕ = trace_in file l in
    let next : ℕ = at + size_of l.base in
    let long : length (xs ++ t) ≡ next = omega (arith, e, length-append xs t, one.size) in
    let more : List ℕ = concat (map (trace_in file) ls) in
    laid_all-append (runs_in l) (flat_map runs_in ls) (xs ++ drop at file)
    ∙ ap (λ (f : List ℕ). laid_all (flat_map runs_in ls) f) (one.shown ∙ sym (append_assoc xs t (drop next file)))
    ∙ laid-traces file next (p + 1) end (xs ++ t) ls long over.1 one.rest_fits
    ∙ append_assoc xs t (more ++ drop end file)
    ∙ ap (λ (f : List ℕ). xs ++ f) (sym (append_assoc t more (drop end file)))

runs-over-inside : (file : List ℕ) (base : Base) (rs : List Run) → IsInside file base → Fit rs (length (base_of file base)) → AllByRecursion (IsInFile (length file)) (runs_over (extent_of base) rs)
runs-over-inside file (Added bytes) rs inside fit = tt
runs-over-inside file (Loaded x) rs inside fit =
    let ends : x.start + length (base_of file (Loaded x)) ≤ length file = omega (arith, inside, base-length file (Loaded x) inside) in
    run-spans-inside (length file) x.start rs (runs-in (length file) x.start 0 rs (length (base_of file (Loaded x))) fit ends)

pub traces-inside : (file : List ℕ) (ls : List Layered) → AllByRecursion (IsOver file) ls → AllByRecursion (IsInFile (length file)) (flat_map runs_in ls)
traces-inside file [] over = tt
traces-inside file (l ∷ ls) over =
    all-append (IsInFile (length file)) (runs_in l) (flat_map runs_in ls) (runs-over-inside file l.base l.runs over.0.inside over.0.fit) (traces-inside file ls over.1)

-- ---- the traces of a store

module _ {T : Type 0} where
  over-found : (loaded : HeldBytes) (h : Head) (o : Option (Slot T)) → IsSomeAnd o (IsSlot loaded h) → IsOver loaded.bytes (option_map_or (λ slot. slot.layers) o no_layers)
  over-found loaded h None held = absurd held
  over-found loaded h (Some slot) held = record { inside = held.inside; fit = held.fit }

  pub over-id : (loaded : HeldBytes) (h : Head) (slots : Slab (Slot T)) (x : ℕ) (xs : List ℕ) → AreHeld loaded h (x ∷ xs) slots → IsOver loaded.bytes (layers_under slots x)
  over-id loaded h slots x xs held = over-found loaded h (get slots x) (held x (times-self x xs))

  pub held-behind : (loaded : HeldBytes) (h : Head) (slots : Slab (Slot T)) (x : ℕ) (xs : List ℕ) → AreHeld loaded h (x ∷ xs) slots → AreHeld loaded h xs slots
  held-behind loaded h slots x xs held id some = held id (omega (arith, some))

  pub over-ids : (loaded : HeldBytes) (h : Head) (slots : Slab (Slot T)) (ids : List ℕ) → AreHeld loaded h ids slots → AllByRecursion (IsOver loaded.bytes) (map (layers_under slots) ids)
  over-ids loaded h slots [] held = tt
  over-ids loaded h slots (x ∷ xs) held = (over-id loaded h slots x xs held, over-ids loaded h slots xs (held-behind loaded h slots x xs held))

  shown-found : (file : List ℕ) (o : Option (Slot T)) → option_map_or (bytes_in file) o [] ≡ trace_in file (option_map_or (λ slot. slot.layers) o no_layers)
  shown-found file None = refl
  shown-found file (Some slot) = refl

  pub shown-ids : (file : List ℕ) (slots : Slab (Slot T)) (ids : List ℕ) → map (bytes_under file slots) ids ≡ map (trace_in file) (map (layers_under slots) ids)
  shown-ids file slots [] = refl
  shown-ids file slots (x ∷ xs) =
      ap (λ (t : List ℕ). t ∷ map (bytes_under file slots) xs) (shown-found file (get slots x))
      ∙ ap (λ (ts : List (List ℕ)). trace_in file (layers_under slots x) ∷ ts) (shown-ids file slots xs)

-- ---- a walk comes to a trace

no-runs : (start : ℕ) (rs : List Run) (behind : List Span) → length rs ≡ 0 → map (run_at start) rs ++ behind ≡ behind
no-runs start [] behind h = refl
no-runs start (r ∷ rs) behind h = absurd (omega arith)

enter-inside : (file : List ℕ) (base : Base) (rs : List Run) (e : Extent) → extent_of base ≡ Some e → IsInside file base → Fit rs (length (base_of file base)) → AllByRecursion (IsRunIn (length file) e.start) rs
enter-inside file (Added bytes) rs e is inside fit = absurd (cc)
enter-inside file (Loaded x) rs e is inside fit =
    let same : x ≡ e = cc in
    let ends : x.start + length (base_of file (Loaded x)) ≤ length file = omega (arith, inside, base-length file (Loaded x) inside) in
    subst (λ (y : Extent). AllByRecursion (IsRunIn (length file) y.start) rs) same (runs-in (length file) x.start 0 rs (length (base_of file (Loaded x))) fit ends)

module _ {T : Type 0} where
  -- what is left stays the same where the runs of the next trace are taken up
  pub enter-left : (slots : Slab (Slot T)) (old new : List ℕ) (id start : ℕ) (before rs : List Run) (slot : Slot T) (e : Extent) → length before ≡ 0 → old ≡ id ∷ new → get slots id ≡ Some slot
      → extent_of slot.layers.base ≡ Some e → rs ≡ slot.layers.runs
      → map (run_at e.start) rs ++ flat_map runs_in (map (layers_under slots) new) ≡ map (run_at start) before ++ flat_map runs_in (map (layers_under slots) old)
  enter-left slots old new id start before rs slot e none step found over runs =
      let behind : List Span = flat_map runs_in (map (layers_under slots) new) in
      let here : runs_in (layers_under slots id) ≡ map (run_at e.start) rs =
      ap (λ (o : Option (Slot T)). runs_in (option_map_or (λ slot. slot.layers) o no_layers)) found
      ∙ ap (λ (o : Option Extent). runs_over o slot.layers.runs) over
      ∙ ap (λ (l : List Run). map (run_at e.start) l) (sym runs) in
      sym (
      no-runs start before (flat_map runs_in (map (layers_under slots) old)) none
      ∙ ap (λ (ids : List ℕ). flat_map runs_in (map (layers_under slots) ids)) step
      ∙ ap (λ (l : List Span). l ++ behind) here
      )

  -- they lie inside the file
  pub enter-runs : (loaded : HeldBytes) (h : Head) (slots : Slab (Slot T)) (old new : List ℕ) (id : ℕ) (rs : List Run) (slot : Slot T) (e : Extent) → AreHeld loaded h old slots → old ≡ id ∷ new
      → get slots id ≡ Some slot → extent_of slot.layers.base ≡ Some e → rs ≡ slot.layers.runs → AllByRecursion (IsRunIn (length loaded.bytes) e.start) rs
  enter-runs loaded h slots old new id rs slot e held step found over runs =
      let here : AreHeld loaded h (id ∷ new) slots = subst (λ (ids : List ℕ). AreHeld loaded h ids slots) step held in
      let sound : IsSlot loaded h slot = held-slot loaded h slots id slot (here id (times-self id new)) found in
      subst (λ (l : List Run). AllByRecursion (IsRunIn (length loaded.bytes) e.start) l) (sym runs) (enter-inside loaded.bytes slot.layers.base slot.layers.runs e over sound.inside sound.fit)

  -- and each trace behind is there
  pub enter-held : (loaded : HeldBytes) (h : Head) (slots : Slab (Slot T)) (old new : List ℕ) (id : ℕ) → AreHeld loaded h old slots → old ≡ id ∷ new → AreHeld loaded h new slots
  enter-held loaded h slots old new id held step = held-behind loaded h slots id new (subst (λ (ids : List ℕ). AreHeld loaded h ids slots) step held)
