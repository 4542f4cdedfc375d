-- What a bench holds after looks and edits, and what is told of them.
use Rattle.std.proofs.lemmas.Bool.{le-leb}
use Rattle.std.proofs.Common.{◌≡◌, ◌⊎◌, ◌∙◌, ℕ, suc, take, drop, ◌+◌, ◌++◌, ◌∷◌, get_or-set_same, length-set, append_assoc, take_at, drop_at, length-append, length-take-le, take-append-drop, ◌-◌, ◌<◌, ◌≤◌, Bool, true, false, List, [], length, map, inl, inr, refl, sym, ap, subst, arith}
use Rattle.std.specs.Global.{Vec}
use Rattle.std.specs.List.{insert, remove}
use Rattle.num_order.specs.Number.{is_size}
use Rattle.std.proofs.lemmas.Bool.Decides.{nat_tests}
use Rattle.std.specs.Prelude.{slice_set, IsTrue, Result, Ok, Err, IfOk, IfErr, IsErr, IsErrAnd, OnOk, OnErr, Option, Some, None, if◌then◌else◌}
use Rattle.base_file.specs.declared.read_fault.ReadFault.{ReadFault}
use Rattle.base_file.specs.declared.read_fault.ReadFault.TheVariants as reads
use Rattle.field_map.specs.Binding.{bind_fault, is_geometry}
use Rattle.field_map.specs.Pairs.{Pairs}
use Rattle.field_map.specs.declared.place.Place.{Place}
use Rattle.frame_cut.specs.Cuts.{IsCut}
use Rattle.frame_cut.specs.Traces.{count_of, trace_at, is_trace, with_trace}
use Rattle.frame_cut.specs.Volume.{Volume, bytes_of}
use Rattle.trace_record.specs.Facts.{facts_of}
use Rattle.trace_record.specs.Packed.{record_in}
use Rattle.trace_record.specs.declared.packed_record.PackedRecord.{PackedRecord}
use Rattle.trace_record.specs.declared.record.Record.{Record}
use Rattle.edit_overlay.specs.CountedVolume.{CountedVolume, after_look, IsSeen}
use Rattle.edit_overlay.specs.Loaded.{Loaded}
use Rattle.edit_overlay.specs.Reads.{Follow}
use Rattle.live_reports.specs.OfRecords.{AreReportsOf}
use Rattle.bench_rules.specs.declared.row.Row.{Row}
use Rattle.bench_rules.specs.KeptSlices.{KeptSlices, after_slice}
use Rattle.bench_rules.specs.declared.edit.Edit.{Edit}
use Rattle.bench_rules.specs.declared.edit.Edit.TheVariants.{Map}
use Rattle.bench_rules.specs.declared.field.Field.TheVariants as field
use Rattle.bench_rules.specs.declared.refusal.Refusal.{Refusal}
use Rattle.bench_rules.specs.declared.refusal.Refusal.TheVariants.{OutOfMemory}
use Rattle.bench_rules.specs.Looks.{edit_looks}
use Rattle.bench_rules.specs.ReadFaults.{refusal_of, IsReadRefusal}
use Rattle.bench_rules.specs.Refused.{first_refusal}
use Rattle.bench_rules.specs.State.{State, Session}
use Rattle.bench_rules.specs.Steps.{IsAfter, Step, TakesMemory}
use Rattle.bench_rules.proofs.ToldLemmas.{is_told}
use Rattle.many_traces.specs.Formulas.{IsRefusalFor}
use Rattle.volume_records.specs.Faults.{IsOfRead}
use Rattle.volume_records.specs.OfVolume.{records_of}
use Rattle.volume_records.specs.declared.records_fault.RecordsFault.{RecordsFault}
use Rattle.volume_records.specs.declared.records_fault.RecordsFault.TheVariants as records
use Rattle.volume_records.proofs.SeenLemmas.{seen_none, seen_more, seen_at_most}
use Rattle.live_volume.specs.Held.{state_of, session_of, records_in, with_volume, AreMeasured, HasFrame, IsHeld, IsReadAs, OnlyLooks}
use Rattle.live_volume.specs.Refusals.{refusal_of_records, IsOfMachine}
use Rattle.live_volume.specs.declared.live_volume.LiveVolume.TheInside.{Inside}

-- the records of a volume that is the same are the same
pub records_again : (v w : Volume) (fields : Pairs) (rs : List Record) → w ≡ v → map facts_of rs ≡ records_of v fields → map facts_of rs ≡ records_of w fields
records_again v w fields rs same e = e ∙ ap (λ (u : Volume). records_of u fields) (sym same)

-- a test that failed
pub past : {X : Type 0} (b : Bool) (x : X) (rest : Option X) → (if b then Some x else rest) ≡ None → b ≡ false
past true x rest h = absurd cc
past false x rest h = refl

-- ---- edits

-- the trace that is put in is there
pub trace_again : (v : Volume) (p : ℕ) (t : List ℕ) → 1 ≤ p → p ≤ count_of v → trace_at (with_trace v p t) p ≡ t
trace_again v p t first last = let there : p - 1 < length v.traces = omega arith in get_or-set_same v.traces (p - 1) t [] there

-- and is a trace
pub is_trace_with : (v : Volume) (p : ℕ) (t : List ℕ) → 1 ≤ p → p ≤ count_of v → is_trace (with_trace v p t) p ≡ true
is_trace_with v p t first last =
    let inside : p ≤ length (slice_set v.traces (p - 1) t) = omega (arith, length-set v.traces (p - 1) t) in
    rw (le-leb 1 p first, le-leb p (length (slice_set v.traces (p - 1) t)) inside) refl

-- an item that was put in and is taken out leaves the list as it was
pub remove_inserted : {X : Type 0} (xs : List X) (i : ℕ) (x : X) → i ≤ length xs → remove (insert xs i x) i ≡ xs
remove_inserted xs i x inside =
    let long : length (take i xs) ≡ i = length-take-le i xs inside in
    let longer : length (take i xs ++ x ∷ []) ≡ suc i = omega (arith, length-append (take i xs) (x ∷ []), long) in
    ap (λ ys. ys ++ drop (suc i) (take i xs ++ x ∷ drop i xs)) (take_at (take i xs) (x ∷ drop i xs) i long)
    ∙ ap (λ ys. take i xs ++ drop (suc i) ys) (sym (append_assoc (take i xs) (x ∷ []) (drop i xs)))
    ∙ ap (λ ys. take i xs ++ ys) (drop_at (take i xs ++ x ∷ []) (drop i xs) (suc i) longer)
    ∙ take-append-drop i xs

-- what follows where a call went well
pub on_ok : {T E A B : Type 0} (r : Result T E) → (A → B) → OnOk r A → OnOk r B
on_ok (Ok x) f a = f a
on_ok (Err e) f a = a

-- the sizes of numbers are at most 8 bytes
pub size_small : (n : ℕ) → is_size n ≡ true → n ≤ 8
size_small n h = grind (arith, nat_tests)

-- the same volume and field map, read in the same way from the same place, are the same state
pub same_state : (s : State) (v : Volume) (fields : Pairs) (on_disk : Bool) → v ≡ s.volume → fields ≡ s.fields → on_disk ≡ s.on_disk → record s { volume = v; fields = fields; on_disk = on_disk } ≡ s
same_state s v fields on_disk e f g =
    ap (λ (u : Volume). let x : State = record s { volume = u; fields = fields; on_disk = on_disk } in x) e
    ∙ ap (λ (ps : Pairs). let x : State = record s { fields = ps; on_disk = on_disk } in x) f
    ∙ ap (λ (d : Bool). let x : State = record s { on_disk = d } in x) g

-- ---- looks

-- an overlay after one look
pub seen_once : (o last : CountedVolume PackedRecord) → last ≡ after_look o last.reads → Follow o.reads last.reads → IsSeen o last 1
seen_once o last look fell = seen_more o o last 0 (seen_none o) look fell

-- as it was is after at most one look
pub seen_not : (o last : CountedVolume PackedRecord) → last ≡ o → IsSeen o last 1
seen_not o last same = subst (λ (l : CountedVolume PackedRecord). IsSeen o l 1) (sym same) (seen_at_most o o 0 1 (seen_none o) (omega arith))

-- the session after looks at the overlay
pub looked_at : (b : Inside) (o : CountedVolume PackedRecord) (n : ℕ) → IsSeen b.overlay o n → OnlyLooks (session_of b) (session_of (record b { overlay = o })) n
looked_at b o n seen = record {
  state = ap (λ (v : Volume). let s : State = record (state_of b) { volume = v; on_disk = o.loaded.on_disk } in s) seen.volume
      ∙ ap (λ (l : Loaded). let s : State = record (state_of b) { on_disk = l.on_disk } in s) seen.loaded;
  looks = seen.looks;
  loaded = ap (λ (l : Loaded). l.bytes) seen.loaded;
  reads = seen.reads;
}

-- as it is shown
pub looked_as : (b : Inside) (o : CountedVolume PackedRecord) (n : ℕ) (shown : Session) → session_of b ≡ shown → IsSeen b.overlay o n → OnlyLooks shown (session_of (record b { overlay = o })) n
looked_as b o n shown view seen = subst (λ (s : Session). OnlyLooks s (session_of (record b { overlay = o })) n) view (looked_at b o n seen)

-- the bench holds what it held
pub held_again : (b : Inside) (o : CountedVolume PackedRecord) (n : ℕ) → IsSeen b.overlay o n → IsHeld b → IsHeld (record b { overlay = o })
held_again b o n seen h = record {
  cut = λ sure. subst (λ (v : Volume). IsCut (bytes_of v) b.reading b.limits v) (sym seen.volume) (h.cut (seen.reads.agreed sure));
  frame = subst (HasFrame b.limits) (sym seen.volume) h.frame;
  prepared = seen.prepared ∙ h.prepared ∙ sym seen.volume;
  extensions = h.extensions ∙ ap (λ (v : Volume). v.head.extensions) (sym seen.volume);
  records = λ sure. ap (λ (ps : List PackedRecord). map facts_of (map record_in ps)) seen.payloads ∙ h.records (seen.reads.agreed sure) ∙ ap (λ (v : Volume). records_of v b.fields.pairs) (sym seen.volume);
  measured = subst (λ (ps : List PackedRecord). AreMeasured (map record_in ps) o.volume.traces) (sym seen.payloads)
      (subst (λ (v : Volume). AreMeasured (records_in b) v.traces) (sym seen.volume) h.measured);
  reports = subst (λ (ps : List PackedRecord). AreReportsOf b.reports (map record_in ps)) (sym seen.payloads) h.reports;
}

-- looks behind looks
pub looks_none : (s : Session) → OnlyLooks s s 0
looks_none s = record { state = refl; looks = (omega arith, omega arith); loaded = refl; reads = record { agreed = λ sure. sure; failures = omega arith } }

pub looks_more : (a b c : Session) (m n : ℕ) → OnlyLooks a b m → OnlyLooks b c n → OnlyLooks a c (m + n)
looks_more a b c m n f g =
    record { state = g.state ∙ f.state; looks = (omega (arith, f.looks, g.looks), omega (arith, f.looks, g.looks)); loaded = g.loaded ∙ f.loaded; reads = record { agreed = λ sure. f.reads.agreed (g.reads.agreed sure); failures = omega (arith, f.reads.failures, g.reads.failures) } }

pub looks_most : (a b : Session) (m n : ℕ) → OnlyLooks a b m → m ≤ n → OnlyLooks a b n
looks_most a b m n f less = record { state = f.state; looks = (omega (arith, f.looks), omega (arith, f.looks, less)); loaded = f.loaded; reads = f.reads }

-- looks that are not spared
pub looks_unless : (spared : Bool) (a b : Session) (n : ℕ) → spared ≡ false → OnlyLooks a b n → OnlyLooks a b (if spared then 0 else n)
looks_unless true a b n e f = absurd cc
looks_unless false a b n e f = f

-- ---- refusals

-- a read that failed is told so
pub read_is_told : (on_disk : Bool) (fault : ReadFault) → IsTrue on_disk → IsReadRefusal on_disk (refusal_of fault)
read_is_told on_disk reads.ReadFailed is = (is, inl refl)
read_is_told on_disk reads.Changed is = (is, inr refl)
read_is_told on_disk reads.TooLarge is = (is, inl refl)

-- and so is what kept records from being made
pub records_are_told : (on_disk : Bool) (fault : RecordsFault) → (IsOfRead fault → IsTrue on_disk) → IsOfMachine on_disk (refusal_of_records fault)
records_are_told on_disk records.OutOfMemory is = inl refl
records_are_told on_disk (records.Read read) is = inr (read_is_told on_disk read (is tt))

-- a refusal of the machine that leaves a state leaves the one that it is
pub err_back : {T : Type 0} (r : Result T Refusal) (new mid old : State) → mid ≡ old → IfErr r (λ refusal. IsOfMachine mid.on_disk refusal × (new ≡ mid)) → IfErr r (λ refusal. IsOfMachine old.on_disk refusal × (new ≡ old))
err_back (Ok x) new mid old same h = h
err_back (Err refusal) new mid old same h = (subst (λ (s : State). IsOfMachine s.on_disk refusal) same h.0, h.1 ∙ same)

-- it leaves the state
pub left_as_it_was : {T : Type 0} (P : Refusal → Type 0) (r : Result T Refusal) (new old : State) → IfErr r (λ refusal. P refusal × (new ≡ old)) → OnErr r (new ≡ old)
left_as_it_was P (Ok x) new old h = h
left_as_it_was P (Err refusal) new old h = h.1

-- ---- steps

-- an edit that nothing but the machine refuses is a step
pub stepped : {T : Type 0} (old mid new : State) (edit : Edit) (r : Result T Refusal) → first_refusal old edit ≡ None → mid ≡ old → TakesMemory edit → 0 < edit_looks old edit
    → OnOk r (IsAfter mid edit new) → IfErr r (λ refusal. IsOfMachine mid.on_disk refusal × (new ≡ mid)) → Step old edit r new
stepped old mid new edit (Ok x) none same takes looks ok err = rw none (subst (λ (s : State). IsAfter s edit new) same ok)
stepped old mid new edit (Err e) none same takes looks ok err =
    let is : IsOfMachine old.on_disk e = subst (λ (s : State). IsOfMachine s.on_disk e) same err.0 in
    rw none (elim is [ inl memory ↦ (inl (memory, takes), err.1 ∙ same) | inr read ↦ (inr (looks, read), err.1 ∙ same) ])

-- an edit that nothing but want of memory refuses is a step
pub stepped_by_memory : {T : Type 0} (old new : State) (edit : Edit) (r : Result T Refusal) → first_refusal old edit ≡ None → TakesMemory edit
    → OnOk r (IsAfter old edit new) → IfErr r (λ refusal. (refusal ≡ OutOfMemory) × (new ≡ old)) → Step old edit r new
stepped_by_memory old new edit (Ok x) none takes ok err = rw none ok
stepped_by_memory old new edit (Err e) none takes ok err = rw none (inl (err.0, takes), err.1)

-- the same of an edit that looks at no trace where the record that is kept tells the new one, and is refused for want of memory alone then
pub stepped_unless : {T : Type 0} (told : Bool) (old mid new : State) (edit : Edit) (r : Result T Refusal) → first_refusal old edit ≡ None → mid ≡ old → TakesMemory edit → (told ≡ false → 0 < edit_looks old edit)
    → OnOk r (IsAfter mid edit new) → IfErr r (λ refusal. IsOfMachine mid.on_disk refusal × (new ≡ mid)) → (told ≡ true → IfErr r (λ refusal. refusal ≡ OutOfMemory)) → Step old edit r new
stepped_unless false old mid new edit r none same takes looks ok err memory = stepped old mid new edit r none same takes (looks refl) ok err
stepped_unless true old mid new edit (Ok x) none same takes looks ok err memory = stepped_by_memory old new edit (Ok x) none takes (subst (λ (s : State). IsAfter s edit new) same ok) tt
stepped_unless true old mid new edit (Err e) none same takes looks ok err memory = stepped_by_memory old new edit (Err e) none takes tt (memory refl, err.1 ∙ same)

-- the first refusal that is told is a step
pub told_first : (T : Type 0) (old new : State) (edit : Edit) (refusal : Refusal) → first_refusal old edit ≡ Some refusal → new ≡ old → (let r : Result T Refusal = Err refusal in Step old edit r new)
told_first T old new edit refusal first same = rw first (inl (is_told old edit refusal refusal refl), same)

-- or want of memory, where there is none
pub told_for : (T : Type 0) (old new : State) (edit : Edit) (refusal : Refusal) → TakesMemory edit → IsRefusalFor refusal (first_refusal old edit) → new ≡ old → (let r : Result T Refusal = Err refusal in Step old edit r new)
told_for T old new edit refusal takes is same = by (first_refusal old edit) refl is
  where
    by : (o : Option Refusal) → first_refusal old edit ≡ o → IsRefusalFor refusal o → (let r : Result T Refusal = Err refusal in Step old edit r new)
    by None e is = rw e (inl (is, takes), same)
    by (Some first) e is = rw e (inl (is_told old edit first refusal is), same)

-- there is such a trace, so it is looked at
pub is_there : (v : Volume) (p : ℕ) → 1 ≤ p → p ≤ count_of v → is_trace v p ≡ true
is_there v p first last = rw (le-leb 1 p first, le-leb p (count_of v) last) refl

-- a read that failed is a step, whatever else refuses the edit
pub told_of_read : (T : Type 0) (old new : State) (edit : Edit) (refusal : Refusal) → 0 < edit_looks old edit → IsReadRefusal old.on_disk refusal → new ≡ old → (let r : Result T Refusal = Err refusal in Step old edit r new)
told_of_read T old new edit refusal looks read same = by (first_refusal old edit) refl
  where
    by : (o : Option Refusal) → first_refusal old edit ≡ o → (let r : Result T Refusal = Err refusal in Step old edit r new)
    by None e = rw e (inr (looks, read), same)
    by (Some first) e = rw e (inr (looks, read), same)

-- one or the other is
pub told_either : (T : Type 0) (old new : State) (edit : Edit) (refusal : Refusal) → TakesMemory edit → (0 < edit_looks old edit) × IsReadRefusal old.on_disk refusal ⊎ IsRefusalFor refusal (first_refusal old edit) → new ≡ old
    → (let r : Result T Refusal = Err refusal in Step old edit r new)
told_either T old new edit refusal takes (inl read) same = told_of_read T old new edit refusal read.0 read.1 same
told_either T old new edit refusal takes (inr is) same = told_for T old new edit refusal takes is same

-- a read that failed, as it comes back
pub read_refused : {T : Type 0} (old new : State) (edit : Edit) (fault : ReadFault) (r : Result T Refusal) → IsErr r → IsErrAnd r (λ refusal. refusal ≡ refusal_of fault) → 0 < edit_looks old edit → IsTrue old.on_disk → new ≡ old → Step old edit r new
read_refused old new edit fault (Ok x) err is looks disk same = absurd is
read_refused old new edit fault (Err refusal) err is looks disk same =
    told_of_read _ old new edit refusal looks (subst (λ (e : Refusal). IsReadRefusal old.on_disk e) (sym is) (read_is_told old.on_disk fault disk)) same

-- and any other refusal
pub refused_so : {T : Type 0} (old new : State) (edit : Edit) (first : Refusal) (r : Result T Refusal) → IsErr r → IsErrAnd r (λ refusal. refusal ≡ first) → TakesMemory edit
    → (0 < edit_looks old edit) × IsReadRefusal old.on_disk first ⊎ IsRefusalFor first (first_refusal old edit) → new ≡ old → Step old edit r new
refused_so old new edit first (Ok x) err is takes told same = absurd is
refused_so old new edit first (Err refusal) err is takes told same =
    told_either _ old new edit refusal takes (subst (λ (e : Refusal). (0 < edit_looks old edit) × IsReadRefusal old.on_disk e ⊎ IsRefusalFor e (first_refusal old edit)) (sym is) told) same

-- a first refusal that is told of each state with the volume is told of this one
pub told_so : {A P : Type 0} (s : State) (edit : Edit) (refusal : Refusal) → P → (A → 0 < edit_looks s edit) → A × IsReadRefusal s.on_disk refusal ⊎ ((u : State) → u.volume ≡ s.volume → P → first_refusal u edit ≡ Some refusal)
    → (0 < edit_looks s edit) × IsReadRefusal s.on_disk refusal ⊎ IsRefusalFor refusal (first_refusal s edit)
told_so s edit refusal sure looks (inl read) = inl (looks read.0, read.1)
told_so s edit refusal sure looks (inr told) = inr (subst (λ (o : Option Refusal). IsRefusalFor refusal o) (sym (told s refl sure)) refl)

-- the same of what is told under a premise that holds
pub told_under : {A P : Type 0} (s : State) (edit : Edit) (refusal : Refusal) → P → (A → 0 < edit_looks s edit) → A × IsReadRefusal s.on_disk refusal ⊎ (P → IsRefusalFor refusal (first_refusal s edit))
    → (0 < edit_looks s edit) × IsReadRefusal s.on_disk refusal ⊎ IsRefusalFor refusal (first_refusal s edit)
told_under s edit refusal sure looks (inl read) = inl (looks read.0, read.1)
told_under s edit refusal sure looks (inr told) = inr (told sure)

-- one of two, where the second is told under a premise that holds
pub under : {A B P : Type 0} → P → A ⊎ (P → B) → A ⊎ B
under p (inl a) = inl a
under p (inr f) = inr (f p)

-- what kept the records of a geometry name bound anew from being made is an answer to a name that nothing else refuses
pub map_passed : (s u : State) (name : List ℕ) (place : Place) (fault : RecordsFault) (refusal : Refusal) → refusal ≡ refusal_of_records fault → is_geometry name ≡ true → bind_fault s.volume.head.extensions s.fields name place ≡ None
    → (IsOfRead fault → IsTrue s.on_disk × (0 < count_of s.volume)) → u ≡ s → (let r : Result (Unit {0}) Refusal = Err refusal in Step s (Map name (field.Place place)) r u)
map_passed s u name place records.OutOfMemory refusal is geometry none read same = rw none (inl (is, record {}), same)
map_passed s u name place (records.Read fault) refusal is geometry none read same =
    let looks : 0 < edit_looks s (Map name (field.Place place)) = rw geometry (read tt).1 in
    rw none (inr (looks, subst (λ (e : Refusal). IsReadRefusal s.on_disk e) (sym is) (read_is_told s.on_disk fault (read tt).0)), same)

-- the state after a change of the volume alone was read in the same way
pub read_as : (old new : State) (v : Volume) → new ≡ with_volume old v → IsReadAs old new
read_as old new v same = record { reading = ap (λ (s : State). s.reading) same; limits = ap (λ (s : State). s.limits) same; on_disk = ap (λ (s : State). s.on_disk) same }

pub read_as_before : (old new : State) → new ≡ old → IsReadAs old new
read_as_before old new same = record { reading = ap (λ (s : State). s.reading) same; limits = ap (λ (s : State). s.limits) same; on_disk = ap (λ (s : State). s.on_disk) same }

-- done or refused
pub read_as_either : {T E : Type 0} (P : E → Type 0) (r : Result T E) (old new : State) (v : Volume) → OnOk r (new ≡ with_volume old v) → IfErr r (λ fault. P fault × (new ≡ old)) → IsReadAs old new
read_as_either P (Ok x) old new v ok err = read_as old new v ok
read_as_either P (Err e) old new v ok err = read_as_before old new err.1

-- as the one in between was
pub read_as_through : (old mid new : State) → mid ≡ old → IsReadAs mid new → IsReadAs old new
read_as_through old mid new same r = subst (λ (s : State). IsReadAs s new) same r

-- the slices that are kept with the rows of an answer are kept with those that these are
pub kept_as_told : {E P : Type 0} (r : Result (Vec Row) E) (old new : KeptSlices) (k : ℕ) (given wanted : List Row) → IfOk r (λ rows. P → rows.items ≡ given) → IfOk r (λ rows. P → new ≡ after_slice old k rows.items) → (P → given ≡ wanted)
    → OnOk r (P → new ≡ after_slice old k wanted)
kept_as_told (Ok rows) old new k given wanted is kept same = λ p. kept p ∙ ap (after_slice old k) (is p ∙ same p)
kept_as_told (Err e) old new k given wanted is kept same = is

-- what holds of a fault holds of what follows from it
pub if_err : {T E : Type 0} {P Q : E → Type 0} (r : Result T E) → ((e : E) → P e → Q e) → IfErr r P → IfErr r Q
if_err (Ok v) f p = p
if_err (Err e) f p = f e p
