-- How a save goes on, one part behind another.
use Rattle.std.proofs.Common.{OnOk, IfErr, IsTrue, Bool, true, false, is_some, ◌*◌, add-one, replicate, Some, None, ◌∷◌, length-take, length-drop, ◌≡◌, ℕ, ◌+◌, ◌-◌, ◌<◌, ◌≤◌, List, [], ◌++◌, length, get_or, take, drop, refl, ap, sym, subst, ◌∙◌, arith, Option, Result, Ok, Err, MatchResult, slice_range, append_assoc, append-nil, length-append}
use Rattle.std.specs.Prelude.{IfSome, IsSome, IsSomeAnd}
use Rattle.std.specs.Option.{option_map_or}
use Rattle.std.proofs.Math.Seq.{take-add, take-append-add, take-suc}
use Rattle.std.proofs.lemmas.Bool.Decides.{nat_tests}
use Rattle.std.proofs.lemmas.List.{drop-drop, get_or-map, length-map, length-replicate, take_all, take-append-drop, take-append-le}
use Rattle.std.proofs.lemmas.List.Folds.{concat-append}
use Rattle.std.specs.List.{concat}
use Rattle.std.specs.Io.KnownBytes.{Appends}
use Rattle.slab.specs.Slab.{get}
use Rattle.base_file.specs.HeldBytes.{HeldBytes, IsStill, IsSure}
use Rattle.base_file.specs.declared.read_fault.ReadFault.{ReadFault}
use Rattle.base_file.specs.declared.read_fault.ReadFault.TheVariants.{ReadFailed, Changed, TooLarge}
use Rattle.base_file.proofs.HeldLemmas.{sure_before}
use Rattle.trace_seq.proofs.TimeLemmas.{times-get}
use Rattle.trace_store.specs.declared.store.TraceStore.{TraceStore}
use Rattle.trace_store.specs.declared.slot.Slot.{Slot}
use Rattle.trace_store.specs.Slots.{bytes_in, bytes_under, IsSlot}
use Rattle.trace_store.specs.Stores.{traces_of}
use Rattle.edit_overlay.specs.declared.save_fault.SaveFault.{SaveFault}
use Rattle.edit_overlay.specs.declared.waiting.Waiting.{Waiting}
use Rattle.frame_cut.specs.declared.extent.Extent.{Extent}
use Rattle.frame_cut.specs.declared.file_head.Head.{Head}
use Rattle.frame_cut.specs.Frames.{front_length}
use Rattle.frame_cut.specs.Heads.{blocks_of}
use Rattle.frame_cut.specs.Layout.{bytes_at, tail_at}
use Rattle.frame_cut.specs.Volume.{bytes_of}
use Rattle.frame_cut.proofs.BlockLemmas.{concat-blocks_of}
use Rattle.edit_overlay.specs.Held.{HasEnds, volume_with}
use Rattle.trace_store.specs.Reread.{IsReread}
use Rattle.edit_overlay.specs.Saving.{Progress, HasCome, GoesOn, IsUnread, Saves, progress}
use Rattle.edit_overlay.specs.Reads.{IsFaultOfLook}
use Rattle.edit_overlay.specs.Standings.{is_on_disk, reads_in}
use Rattle.edit_overlay.proofs.StandingLemmas.{on_disk_stays}
use Rattle.device_io.specs.Growth.{Appends_more}

-- a save comes from one place to another, with these bytes more
abbrev pub Comes : Option (List ℕ) → Option (List ℕ) → Progress → Progress → List ℕ → Type 0
Comes old new from to bytes = (start : Option (List ℕ)) (all : List ℕ) → HasCome start old from all → HasCome start new to (all ++ bytes)

-- or stops at a prefix
abbrev pub Stops : Option (List ℕ) → Option (List ℕ) → Progress → List ℕ → SaveFault → Type 0
Stops old new from bytes fault = (start : Option (List ℕ)) (all : List ℕ) → HasCome start old from all → Appends start new (take fault.written (all ++ bytes)) × (fault.written < length (all ++ bytes))

pub comes_on : (old mid new : Option (List ℕ)) (from at to : Progress) (xs ys : List ℕ) → Comes old mid from at xs → Comes mid new at to ys → Comes old new from to (xs ++ ys)
comes_on old mid new from at to xs ys f g start all h = rw (← append_assoc all xs ys) (g start (all ++ xs) (f start all h))

pub stops_on : (old mid new : Option (List ℕ)) (from at : Progress) (xs ys : List ℕ) (fault : SaveFault) → Comes old mid from at xs → Stops mid new at ys fault → Stops old new from (xs ++ ys) fault
stops_on old mid new from at xs ys fault f g start all h = rw (← append_assoc all xs ys) (g start (all ++ xs) (f start all h))

-- a stop in front of more bytes
pub stops_before : (old new : Option (List ℕ)) (from : Progress) (xs ys : List ℕ) (fault : SaveFault) → Stops old new from xs fault → Stops old new from (xs ++ ys) fault
stops_before old new from xs ys fault f start all h =
    let stop = f start all h in
    let e : take fault.written ((all ++ xs) ++ ys) ≡ take fault.written (all ++ xs) = take-append-le fault.written (all ++ xs) ys (omega (arith, stop.1)) in
    rw (← append_assoc all xs ys) (rw e stop.0, omega (arith, stop.1, length-append (all ++ xs) ys))

-- a call that came to the first bytes and was refused at the next ones
pub refused_at : {T : Type 0} (r : Result T SaveFault) (fault : SaveFault) (old mid new : Option (List ℕ)) (from at to : Progress) (xs ys zs all : List ℕ) → r ≡ Err fault → (xs ++ ys) ++ zs ≡ all → Comes old mid from at xs → Stops mid new at ys fault → GoesOn old new from to all r
refused_at r fault old mid new from at to xs ys zs all e whole f g start sofar h =
    rw (e, ← whole) (stops_before old new from (xs ++ ys) zs fault (stops_on old mid new from at xs ys fault f g) start sofar h)

-- nothing more
pub nothing : (old : Option (List ℕ)) (at : Progress) → Comes old old at at []
nothing old at start all h = rw (append-nil all) h

-- bytes that the writer took
pub taken_more : (old new : Option (List ℕ)) (written : ℕ) (bytes : List ℕ) → Appends old new bytes → Comes old new (record { written = written; waits = [] }) (record { written = written + length bytes; waits = [] }) bytes
taken_more old new written bytes grows start all h = record {
  taken = h.taken ++ bytes;
  appended = Appends_more start old new h.taken bytes h.appended grows;
  joined = append-nil (h.taken ++ bytes) ∙ ap (λ (s : List ℕ). s ++ bytes) (sym (append-nil h.taken) ∙ h.joined);
  counted = omega (arith, h.counted, length-append h.taken bytes);
}

pub taken_less : (old new : Option (List ℕ)) (written part : ℕ) (bytes : List ℕ) → Appends old new (take part bytes) × (part < length bytes)
    → Stops old new (record { written = written; waits = [] }) bytes (record { written = written + part; read = None })
taken_less old new written part bytes grows start all h =
    let all_is : h.taken ≡ all = sym (append-nil h.taken) ∙ h.joined in
    let cut : take (written + part) (h.taken ++ bytes) ≡ h.taken ++ take part bytes = ap (λ (n : ℕ). take (n + part) (h.taken ++ bytes)) h.counted ∙ take-append-add h.taken bytes part in
    rw (← all_is, cut) (Appends_more start old new h.taken (take part bytes) h.appended grows.0, omega (arith, grows.1, h.counted, length-append h.taken bytes))

range_joined : (xs : List ℕ) (a b c : ℕ) → a ≤ b → b ≤ c → slice_range xs a b ++ slice_range xs b c ≡ slice_range xs a c
range_joined xs a b c h l =
    let at : a + (b - a) ≡ b = omega (arith, h) in
    let n : (b - a) + (c - b) ≡ c - a = omega (arith, h, l) in
    ap (λ (k : ℕ). take (b - a) (drop a xs) ++ take (c - b) (drop k xs)) (sym at)
    ∙ ap (λ (s : List ℕ). take (b - a) (drop a xs) ++ take (c - b) s) (sym (drop-drop (b - a) a xs))
    ∙ sym (take-add (b - a) (c - b) (drop a xs)) ∙ ap (λ (k : ℕ). take k (drop a xs)) n

-- a neighbouring range waits too
pub waits_more : (old : Option (List ℕ)) (loaded : List ℕ) (w : Waiting) (to : ℕ) → w.to ≤ to → Comes old old (progress loaded w) (record { written = w.written; waits = slice_range loaded w.from to }) (slice_range loaded w.to to)
waits_more old loaded w to l start all come = record {
  taken = come.taken;
  appended = come.appended;
  joined = ap (λ (s : List ℕ). come.taken ++ s) (sym (range_joined loaded w.from w.to to w.in_order l)) ∙ sym (append_assoc come.taken _ _) ∙ ap (λ (s : List ℕ). s ++ slice_range loaded w.to to) come.joined;
  counted = come.counted;
}

pub same_bytes : {T : Type 0} (r : Result T SaveFault) (old new : Option (List ℕ)) (from to : Progress) (xs ys : List ℕ) → xs ≡ ys → GoesOn old new from to xs r → GoesOn old new from to ys r
same_bytes r old new from to xs ys e f start all h = rw (← e) (f start all h)

pub same_come : (old new : Option (List ℕ)) (from to : Progress) (xs ys : List ℕ) → xs ≡ ys → Comes old new from to xs → Comes old new from to ys
same_come old new from to xs ys e f start all h = rw (← e) (f start all h)

-- nothing waits any more
pub empty_waits : (loaded : List ℕ) (w : Waiting) → w.from ≡ w.to → slice_range loaded w.from w.to ≡ []
empty_waits loaded w e = let n : w.to - w.from ≡ 0 = omega (arith, e) in rw n refl

other_waits : (start now : Option (List ℕ)) (written : ℕ) (xs ys all : List ℕ) → xs ≡ ys → HasCome start now (record { written = written; waits = xs }) all → HasCome start now (record { written = written; waits = ys }) all
other_waits start now written xs ys all e h = record { taken = h.taken; appended = h.appended; joined = ap (λ (s : List ℕ). h.taken ++ s) (sym e) ∙ h.joined; counted = h.counted }

-- bytes behind those that waited and are written
pub after_flush : {T : Type 0} (r : Result T SaveFault) (old mid new : Option (List ℕ)) (from : Progress) (loaded : List ℕ) (w : Waiting) (written : ℕ) (bytes : List ℕ) → w.from ≡ w.to → Comes old mid from (progress loaded w) []
    → GoesOn mid new (record { written = w.written; waits = [] }) (record { written = written; waits = [] }) bytes r → GoesOn old new from (progress loaded (record w { written = written })) bytes r
after_flush {T = T} r old mid new from loaded w written bytes e f g start all h = go r refl
  where
    come : HasCome start mid (record { written = w.written; waits = [] }) all
    come = other_waits start mid w.written _ [] all (empty_waits loaded w e) (rw (append-nil all) at (f start all h))

    go : (q : Result T SaveFault) → r ≡ q → MatchResult q (λ _. HasCome start new (progress loaded (record w { written = written })) (all ++ bytes)) (λ fault. Appends start new (take fault.written (all ++ bytes)) × (fault.written < length (all ++ bytes)))
    go (Ok x) is = other_waits start new written [] _ (all ++ bytes) (sym (empty_waits loaded w e)) (rw is at (g start all come))
    go (Err fault) is = rw is at (g start all come)

-- ---- how many bytes that are

pub counted : (old new : Option (List ℕ)) (from to : Progress) (bytes : List ℕ) → Comes old new from to bytes → to.written + length to.waits ≡ from.written + length from.waits + length bytes
counted old new from to bytes f =
    let taken : List ℕ = replicate from.written 0 in
    let before : HasCome None old from (taken ++ from.waits) = record { taken = taken; appended = tt; joined = refl; counted = sym (length-replicate {A = ℕ} from.written 0) } in
    let behind = f None (taken ++ from.waits) before in
    omega (arith, behind.counted, ap (λ (s : List ℕ). length s) behind.joined, length-append behind.taken to.waits, length-append (taken ++ from.waits) bytes, length-append taken from.waits, length-replicate {A = ℕ} from.written 0)

pub length-waits : (loaded : List ℕ) (w : Waiting) → w.to ≤ length loaded → length (slice_range loaded w.from w.to) ≡ w.to - w.from
length-waits loaded w l = omega (arith, w.in_order, l, length-take (w.to - w.from) (drop w.from loaded), length-drop w.from loaded)

-- ---- the traces, one behind another

-- one trace more
pub traces_next : (ts : List (List ℕ)) (at : ℕ) → at < length ts → concat (take at ts) ++ get_or ts at [] ≡ concat (take (at + 1) ts)
traces_next ts at l =
    let next : take (at + 1) ts ≡ take at ts ++ (get_or ts at [] ∷ []) = rw add-one (take-suc ts at [] l) in
    let one : concat (get_or ts at [] ∷ []) ≡ get_or ts at [] = append-nil (get_or ts at []) in
    ap (λ (t : List ℕ). concat (take at ts) ++ t) (sym one) ∙ sym (concat-append (take at ts) (get_or ts at [] ∷ [])) ∙ ap (λ (xs : List (List ℕ)). concat xs) (sym next)

-- a trace stands between those in front and those behind
pub traces_split : (ts : List (List ℕ)) (at : ℕ) → at < length ts → (concat (take at ts) ++ get_or ts at []) ++ concat (drop (at + 1) ts) ≡ concat ts
traces_split ts at l =
    ap (λ (s : List ℕ). s ++ concat (drop (at + 1) ts)) (traces_next ts at l) ∙ sym (concat-append (take (at + 1) ts) (drop (at + 1) ts)) ∙ ap (λ (xs : List (List ℕ)). concat xs) (take-append-drop (at + 1) ts)

-- a trace is not empty, if the loaded bytes are sure
some_front : (h : Head) → 0 < front_length h
some_front h = grind (arith, nat_tests)

module _ {T : Type 0} where
  some_in : (loaded : HeldBytes) (h : Head) (o : Option (Slot T)) → IsSomeAnd o (IsSlot loaded h) → IsSure loaded.standing → 0 < length (option_map_or (bytes_in loaded.bytes) o [])
  some_in loaded h None held sure = absurd held
  some_in loaded h (Some slot) held sure = omega (arith, some_front h, (held.whole sure).whole)

  pub some_bytes : (s : TraceStore T) (i : ℕ) → i < length (traces_of s) → IsSure s.loaded.standing → 0 < length (get_or (traces_of s) i [])
  some_bytes s i l sure =
      let f : ℕ → List ℕ = bytes_under s.loaded.bytes s.slots in
      let short : i < length s.order.ids = omega (arith, l, length-map s.order.ids f) in
      let id : ℕ = get_or s.order.ids i 0 in
      let some : 0 < length (f id) = some_in s.loaded s.head (get s.slots id) (s.sound.held id (times-get s.order.ids i 0 short)) sure in
      subst (λ (t : List ℕ). 0 < length t) (sym (get_or-map f s.order.ids i 0 [] short)) some

-- ---- the loaded bytes are read again

module _ {T : Type 0} where
  pub trace_reread : (s t : TraceStore T) (at : ℕ) → IsReread s t → get_or (traces_of t) (at + 1 - 1) [] ≡ get_or (traces_of s) at []
  trace_reread s t at reread =
      let here : at + 1 - 1 ≡ at = omega arith in
      ap (λ (ts : List (List ℕ)). get_or ts (at + 1 - 1) []) reread.traces ∙ ap (λ (i : ℕ). get_or (traces_of s) i []) here

  -- what is sure was sure before
  pub sure_then : (s t : TraceStore T) → IsReread s t → IsSure t.loaded.standing → IsSure s.loaded.standing
  sure_then s t reread sure = sure_before s.loaded.standing t.loaded.standing reread.loaded.standing sure

-- a call goes on over the same bytes
pub comes_over : (old new : Option (List ℕ)) (file loaded : List ℕ) (from to : Waiting) (xs ys : List ℕ) → loaded ≡ file → xs ≡ ys → Comes old new (progress loaded from) (progress loaded to) xs → Comes old new (progress file from) (progress file to) ys
comes_over old new file loaded from to xs ys e same f = subst (λ (b : List ℕ). Comes old new (progress b from) (progress b to) ys) e (same_come old new (progress loaded from) (progress loaded to) xs ys same f)

pub stops_over : (old new : Option (List ℕ)) (file loaded : List ℕ) (from : Waiting) (xs ys : List ℕ) (fault : SaveFault) → loaded ≡ file → xs ≡ ys → Stops old new (progress loaded from) xs fault → Stops old new (progress file from) ys fault
stops_over old new file loaded from xs ys fault e same f = subst (λ (b : List ℕ). Stops old new (progress b from) ys fault) e (subst (λ (x : List ℕ). Stops old new (progress loaded from) x fault) same f)

pub goes_over : {T : Type 0} (r : Result T SaveFault) (old new : Option (List ℕ)) (file loaded : List ℕ) (from to : Waiting) (xs ys : List ℕ) → loaded ≡ file → xs ≡ ys
    → GoesOn old new (progress loaded from) (progress loaded to) xs r → GoesOn old new (progress file from) (progress file to) ys r
goes_over r old new file loaded from to xs ys e same f = subst (λ (b : List ℕ). GoesOn old new (progress b from) (progress b to) ys r) e (same_bytes r old new (progress loaded from) (progress loaded to) xs ys same f)

-- a call that was refused as the one in it
pub refused_as : {T : Type 0} (r : Result T SaveFault) (fault : SaveFault) (old new : Option (List ℕ)) (from to : Progress) (bytes : List ℕ) → r ≡ Err fault → Stops old new from bytes fault → GoesOn old new from to bytes r
refused_as r fault old new from to bytes e f start all h = rw e (f start all h)

-- a read that failed where something is left
pub stops_here : (old : Option (List ℕ)) (at : Progress) (bytes : List ℕ) (fault : SaveFault) → fault.written ≡ at.written → 0 < length at.waits + length bytes → Stops old old at bytes fault
stops_here old at bytes fault e some start all h =
    let n : fault.written ≡ length h.taken = e ∙ h.counted in
    let whole : all ++ bytes ≡ h.taken ++ (at.waits ++ bytes) = ap (λ (s : List ℕ). s ++ bytes) (sym h.joined) ∙ append_assoc h.taken at.waits bytes in
    let cut : take fault.written (all ++ bytes) ≡ h.taken =
    ap (λ (s : List ℕ). take fault.written s) whole ∙ take-append-le fault.written h.taken (at.waits ++ bytes) (omega (arith, n)) ∙ take_all fault.written h.taken (omega (arith, n)) in
    rw cut (h.appended, omega (arith, n, some, ap (λ (s : List ℕ). length s) whole, length-append h.taken (at.waits ++ bytes), length-append at.waits bytes))

never : false ≡ true → ⊥
never e = cc

-- a read fails on disk alone
pub fault_before : (old mid new : HeldBytes) (fault : ReadFault) → IsStill old mid → IsFaultOfLook (reads_in mid) (reads_in new) fault → IsFaultOfLook (reads_in old) (reads_in new) fault
fault_before old mid new ReadFailed still told = omega (arith, still.failures, told)
fault_before old mid new TooLarge still told = told
fault_before old mid new Changed still told = told

unread_before : (old mid new : HeldBytes) (read : Option ReadFault) → IsStill old mid → IsUnread mid new read → IsUnread old new read
unread_before old mid new None still h = tt
unread_before old mid new (Some fault) still h = (subst IsTrue (on_disk_stays old.standing mid.standing still.standing) h.0, fault_before old mid new fault still h.1)

pub read_refused : {T : Type 0} (r : Result T SaveFault) (fault : SaveFault) (old mid new : HeldBytes) → r ≡ Err fault → IsStill old mid → IsUnread mid new fault.read → IfErr r (λ fault. IsUnread old new fault.read)
read_refused r fault old mid new e still h = rw e (unread_before old mid new fault.read still h)

pub read_over : {T : Type 0} (r : Result T SaveFault) (old mid new : HeldBytes) → IsStill old mid → IfErr r (λ fault. IsUnread mid new fault.read) → IfErr r (λ fault. IsUnread old new fault.read)
read_over (Ok x) old mid new still h = tt
read_over (Err fault) old mid new still h = unread_before old mid new fault.read still h

-- what is told where the loaded bytes could not be read
pub unread_on_disk : {T : Type 0} (r : Result T SaveFault) (old new : HeldBytes) → IfErr r (λ fault. IsUnread old new fault.read) → IfErr r (λ fault. IsSome fault.read → IsTrue (is_on_disk old.standing))
unread_on_disk (Ok x) old new h = tt
unread_on_disk (Err fault) old new h = λ some. by fault.read h some
  where
    by : (read : Option ReadFault) → IsUnread old new read → IsSome read → IsTrue (is_on_disk old.standing)
    by None h some = absurd (never some)
    by (Some why) h some = h.0

pub unread_told : {T : Type 0} (r : Result T SaveFault) (old new : HeldBytes) → IfErr r (λ fault. IsUnread old new fault.read) → IfErr r (λ fault. IfSome fault.read (IsFaultOfLook (reads_in old) (reads_in new)))
unread_told (Ok x) old new h = tt
unread_told (Err fault) old new h = by fault.read h
  where
    by : (read : Option ReadFault) → IsUnread old new read → IfSome read (IsFaultOfLook (reads_in old) (reads_in new))
    by None h = tt
    by (Some why) h = h.1

-- and the writer no read
pub no_read : (fault : SaveFault) (old new : HeldBytes) → fault.read ≡ None → IsUnread old new fault.read
no_read fault old new none = rw none tt

pub no_reads : {T : Type 0} (r : Result T SaveFault) (old new : HeldBytes) → IfErr r (λ fault. fault.read ≡ None) → IfErr r (λ fault. IsUnread old new fault.read)
no_reads (Ok x) old new h = tt
no_reads (Err fault) old new h = no_read fault old new h

-- ---- a range of the loaded bytes

-- a range waits behind what waited and is written
pub then_waits : (old new : Option (List ℕ)) (from : Progress) (loaded : List ℕ) (w : Waiting) (a b : ℕ) → w.from ≡ w.to → Comes old new from (progress loaded w) []
    → Comes old new from (record { written = w.written; waits = slice_range loaded a b }) (slice_range loaded a b)
then_waits old new from loaded w a b e f start all h =
    let come = f start all h in
    let taken : come.taken ≡ all = sym (append-nil come.taken) ∙ ap (λ (s : List ℕ). come.taken ++ s) (sym (empty_waits loaded w e)) ∙ come.joined ∙ append-nil all in
    record { taken = come.taken; appended = come.appended; joined = ap (λ (s : List ℕ). s ++ slice_range loaded a b) taken; counted = come.counted }

-- the range of an extent is its trace
pub range_trace : (file : List ℕ) (e : Extent) (t : List ℕ) → bytes_at file e ≡ t → slice_range file e.start (e.start + e.length) ≡ t
range_trace file e t is = let n : e.start + e.length - e.start ≡ e.length = omega arith in ap (λ (k : ℕ). take k (drop e.start file)) n ∙ is

pub range-length : (file : List ℕ) (e : Extent) (t : List ℕ) → e.start + e.length ≤ length file → bytes_at file e ≡ t → length t ≡ e.length
range-length file e t inside is = omega (arith, inside, ap (λ (s : List ℕ). length s) is, length-take e.length (drop e.start file), length-drop e.start file)

-- ---- a piece of what waits

-- the first of the bytes that wait are a range
piece_range : (file piece : List ℕ) (from n : ℕ) → piece ≡ take n (drop from file) → piece ≡ slice_range file from (from + n)
piece_range file piece from n e = let same : n ≡ from + n - from = omega arith in e ∙ ap (λ (k : ℕ). take k (drop from file)) same

-- they stand in front of the others
piece_joined : (taken piece file all : List ℕ) (w : Waiting) (n : ℕ) → piece ≡ take n (drop w.from file) → w.from + n ≤ w.to → taken ++ slice_range file w.from w.to ≡ all → (taken ++ piece) ++ slice_range file (w.from + n) w.to ≡ all
piece_joined taken piece file all w n is l joined =
    append_assoc taken piece (slice_range file (w.from + n) w.to)
    ∙ ap (λ (s : List ℕ). taken ++ (s ++ slice_range file (w.from + n) w.to)) (piece_range file piece w.from n is)
    ∙ ap (λ (s : List ℕ). taken ++ s) (range_joined file w.from (w.from + n) w.to (omega arith) l)
    ∙ joined

-- nothing waits in front of them
in_front : (start now : Option (List ℕ)) (at : Progress) (all : List ℕ) (h : HasCome start now at all) → HasCome start now (record { written = at.written; waits = [] }) h.taken
in_front start now at all h = record { taken = h.taken; appended = h.appended; joined = append-nil h.taken; counted = h.counted }

pub piece_written : (old new : Option (List ℕ)) (file piece : List ℕ) (w v : Waiting) (n : ℕ) → piece ≡ take n (drop w.from file) → w.from + n ≤ w.to → v.from ≡ w.from + n → v.to ≡ w.to
    → Comes old new (record { written = w.written; waits = [] }) (record { written = v.written; waits = [] }) piece → Comes old new (progress file w) (progress file v) []
piece_written old new file piece w v n is l from to f start all h =
    let come = f start h.taken (in_front start old (progress file w) all h) in
    let taken : come.taken ≡ h.taken ++ piece = sym (append-nil come.taken) ∙ come.joined in
    record {
      taken = come.taken;
      appended = come.appended;
      joined = rw (taken, from, to, append-nil all) (piece_joined h.taken piece file all w n is l h.joined);
      counted = come.counted;
    }

pub piece_refused : (old new : Option (List ℕ)) (file piece : List ℕ) (w : Waiting) (n : ℕ) (fault : SaveFault) → piece ≡ take n (drop w.from file) → w.from + n ≤ w.to
    → Stops old new (record { written = w.written; waits = [] }) piece fault → Stops old new (progress file w) [] fault
piece_refused old new file piece w n fault is l f start all h =
    let stop = f start h.taken (in_front start old (progress file w) all h) in
    let rest : List ℕ = slice_range file (w.from + n) w.to in
    let whole : (h.taken ++ piece) ++ rest ≡ all ++ [] = piece_joined h.taken piece file all w n is l h.joined ∙ sym (append-nil all) in
    let cut : take fault.written ((h.taken ++ piece) ++ rest) ≡ take fault.written (h.taken ++ piece) = take-append-le fault.written (h.taken ++ piece) rest (omega (arith, stop.1)) in
    rw (← whole) (rw cut stop.0, omega (arith, stop.1, length-append (h.taken ++ piece) rest))

-- ---- a whole save

-- a list is the front of another one
abbrev pub IsFront : List ℕ → List ℕ → Type 0
IsFront xs all = (zs : List ℕ) × (xs ++ zs ≡ all)

pub shorter_front : (xs ys all : List ℕ) → IsFront (xs ++ ys) all → IsFront xs all
shorter_front xs ys all front = (ys ++ front.0, sym (append_assoc xs ys front.0) ∙ front.1)

grows_by_none : (old : Option (List ℕ)) → Appends old old []
grows_by_none None = tt
grows_by_none (Some xs) = sym (append-nil xs)

abbrev pub begin : Progress
begin = record { written = 0; waits = [] }

at_front : (old : Option (List ℕ)) → HasCome old old begin []
at_front old = record { taken = []; appended = grows_by_none old; joined = refl; counted = refl }

-- a call that came to the first bytes of a save and was refused at the next ones
pub refused_save : {T : Type 0} (r : Result T SaveFault) (fault : SaveFault) (old mid new : Option (List ℕ)) (at : Progress) (xs ys all : List ℕ) → r ≡ Err fault → IsFront (xs ++ ys) all
    → Comes old mid begin at xs → Stops mid new at ys fault → Saves old new all r
refused_save r fault old mid new at xs ys all e front f g =
    rw (e, ← front.1) (stops_before old new begin (xs ++ ys) front.0 fault (stops_on old mid new begin at xs ys fault f g) old [] (at_front old))

-- a call that came to the end
pub ended_save : {T : Type 0} (r : Result T SaveFault) (old mid new : Option (List ℕ)) (at end : Progress) (xs all : List ℕ) → xs ≡ all
    → Comes old mid begin at xs → GoesOn mid new at end [] r → OnOk r (end.waits ≡ []) → Saves old new all r
ended_save (Ok done) old mid new at end xs all e f g empty =
    let come = g old xs (f old [] (at_front old)) in
    let taken : come.taken ≡ all = sym (append-nil come.taken) ∙ ap (λ (s : List ℕ). come.taken ++ s) (sym empty) ∙ come.joined ∙ append-nil xs ∙ e in
    rw (← taken) come.appended
ended_save (Err fault) old mid new at end xs all e f g empty = rw (← e) (rw (append-nil xs) at (g old xs (f old [] (at_front old))))

-- the first range that waits
waits_first : (old : Option (List ℕ)) (loaded : List ℕ) (w : Waiting) → Comes old old (record { written = w.written; waits = [] }) (progress loaded w) (slice_range loaded w.from w.to)
waits_first old loaded w start all come = record {
  taken = come.taken;
  appended = come.appended;
  joined = ap (λ (s : List ℕ). s ++ slice_range loaded w.from w.to) (sym (append-nil come.taken) ∙ come.joined);
  counted = come.counted;
}

-- both headers are written, and the blocks wait
pub headers_come : (old mid new : Option (List ℕ)) (text bin file : List ℕ) (n : ℕ) (w : Waiting) → Comes old mid begin (record { written = n; waits = [] }) text → Comes mid new (record { written = n; waits = [] }) (record { written = w.written; waits = [] }) bin
    → Comes old new begin (progress file w) ((text ++ bin) ++ slice_range file w.from w.to)
headers_come old mid new text bin file n w f g =
    let at : Progress = record { written = w.written; waits = [] } in
    comes_on old new new begin at (progress file w) (text ++ bin) (slice_range file w.from w.to) (comes_on old mid new begin (record { written = n; waits = [] }) at text bin f g) (waits_first new file w)

-- the parts of a save are the bytes of the volume
module _ {T : Type 0} (text bin : List ℕ) (n : ℕ) (s : TraceStore T) (ends : HasEnds s n) where
  -- what stands behind the traces
  abbrev pub behind_range : List ℕ
  behind_range = slice_range s.loaded.bytes (length s.loaded.bytes - 3200 * s.head.trailer - n) (length s.loaded.bytes)

  behind_joined : behind_range ≡ tail_at s.loaded.bytes s.head n ++ concat (blocks_of s.head.trailer (drop (length s.loaded.bytes - 3200 * s.head.trailer) s.loaded.bytes))
  behind_joined =
      let file : List ℕ = s.loaded.bytes in
      let end : ℕ = length file - 3200 * s.head.trailer in
      let tail : end - (end - n) ≡ n = omega (arith, ends.whole) in
      let back : length file - end ≡ 3200 * s.head.trailer = omega (arith, ends.whole) in
      sym (range_joined file (end - n) end (length file) (omega arith) (omega arith))
      ∙ (ap (λ (k : ℕ). take k (drop (end - n) file) ++ slice_range file end (length file)) tail
      ∙ ap (λ (xs : List ℕ). tail_at file s.head n ++ xs) (ap (λ (k : ℕ). take k (drop end file)) back ∙ sym (concat-blocks_of s.head.trailer (drop end file))))

  pub parts_joined : (((text ++ bin) ++ slice_range s.loaded.bytes 3600 s.head.traces_at) ++ concat (traces_of s)) ++ behind_range ≡ bytes_of (volume_with text bin n s)
  parts_joined =
      let front : s.head.traces_at - 3600 ≡ 3200 * s.head.blocks = omega (arith, ends.front) in
      rw (behind_joined, front, ← concat-blocks_of s.head.blocks (drop 3600 s.loaded.bytes)) refl

  -- how long they are together, and the first of them
  pub parts-length : length (bytes_of (volume_with text bin n s)) ≡ length text + length bin + (s.head.traces_at - 3600) + length (concat (traces_of s)) + (n + 3200 * s.head.trailer)
  parts-length =
      let file : List ℕ = s.loaded.bytes in
      let tail : ℕ = length file - 3200 * s.head.trailer - n in
      let front : List ℕ = slice_range file 3600 s.head.traces_at in
      let back : List ℕ = slice_range file tail (length file) in
      omega (
        arith,
        ends.whole,
        ends.front,
        ap (λ (x : List ℕ). length x) parts_joined,
        length-append (((text ++ bin) ++ front) ++ concat (traces_of s)) back,
        length-append ((text ++ bin) ++ front) (concat (traces_of s)),
        length-append (text ++ bin) front,
        length-append text bin,
        length-take (s.head.traces_at - 3600) (drop 3600 file),
        length-drop 3600 file,
        length-take (length file - tail) (drop tail file),
        length-drop tail file,
      )

  pub front_all : IsFront ((((text ++ bin) ++ slice_range s.loaded.bytes 3600 s.head.traces_at) ++ concat (traces_of s)) ++ behind_range) (bytes_of (volume_with text bin n s))
  front_all = ([], append-nil _ ∙ parts_joined)

  pub front_traces : IsFront (((text ++ bin) ++ slice_range s.loaded.bytes 3600 s.head.traces_at) ++ concat (traces_of s)) (bytes_of (volume_with text bin n s))
  front_traces = shorter_front (((text ++ bin) ++ slice_range s.loaded.bytes 3600 s.head.traces_at) ++ concat (traces_of s)) behind_range (bytes_of (volume_with text bin n s)) front_all

  pub front_headers : IsFront (text ++ bin) (bytes_of (volume_with text bin n s))
  front_headers =
      let front : List ℕ = slice_range s.loaded.bytes 3600 s.head.traces_at in
      shorter_front (text ++ bin) front (bytes_of (volume_with text bin n s)) (shorter_front ((text ++ bin) ++ front) (concat (traces_of s)) (bytes_of (volume_with text bin n s)) front_traces)

  pub front_text : IsFront text (bytes_of (volume_with text bin n s))
  front_text = shorter_front text bin (bytes_of (volume_with text bin n s)) front_headers

pub on_ok : {T E A B : Type 0} (r : Result T E) → (A → B) → OnOk r A → OnOk r B
on_ok (Ok x) f a = f a
on_ok (Err e) f a = tt
