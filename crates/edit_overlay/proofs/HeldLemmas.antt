-- An overlay is sound again with another store of the same file.
use Rattle.std.proofs.Common.{◌≡◌, ℕ, ◌+◌, Bool, List, length, refl, sym, subst, ap, ◌∙◌, arith, Option, None, Result, Ok, Err, OnOk, OnErr}
use Rattle.base_file.specs.HeldBytes.{HeldBytes, Falls}
use Rattle.base_file.proofs.HeldLemmas.{Falls-refl}
use Rattle.frame_cut.specs.Volume.{Volume, bytes_of}
use Rattle.trace_store.specs.Ahead.{traces_ahead}
use Rattle.edit_overlay.specs.CountedVolume.{CountedVolume, with_reads}
use Rattle.edit_overlay.specs.Held.{looked_of, volume_ahead, volume_with, IsHeld}
use Rattle.edit_overlay.specs.Loaded.{Loaded}
use Rattle.edit_overlay.specs.Standings.{loaded_in, reads_in}
use Rattle.edit_overlay.specs.Reads.{Reads}
use Rattle.trace_store.specs.Reread.{IsReread}
use Rattle.trace_store.specs.Stores.{payloads_ahead, payloads_of, traces_of}
use Rattle.trace_store.specs.declared.prepared.Prepared.{Prepared}
use Rattle.trace_store.specs.declared.store.TraceStore.{TraceStore}
use Rattle.edit_overlay.specs.declared.laid.Laid.{Laid}
use Rattle.edit_overlay.specs.declared.overlay.Overlay.TheInside.{Inside}
use Rattle.trace_store.proofs.AheadLemmas.{ahead_kept, ready_kept, IsSame}
use Rattle.trace_store.proofs.FallLemmas.{same_fetched}
use Rattle.trace_store.proofs.LengthLemmas.{total, length-with}
use Rattle.edit_overlay.proofs.StandingLemmas.{lends_still, on_disk_stays}

-- what follows from success and from failure alike
pub settle : {T E : Type 0} (r : Result T E) {A B C : Type 0} → OnOk r A → OnErr r B → (A → C) → (B → C) → C
settle (Ok x) a b f g = f a
settle (Err e) a b f g = g b

-- the store has the same loaded file under the same head
module _ {T : Type 0} where
  pub record IsOver (s t : TraceStore T) : Type 0 where
    pub head : t.head ≡ s.head
    pub loaded : t.loaded ≡ s.loaded

-- it stands as it did
module _ {T : Type 0} where
  pub stands_over : (s t : TraceStore T) → IsOver s t → Falls s.loaded.standing t.loaded.standing
  stands_over s t over = subst (λ (l : HeldBytes). Falls s.loaded.standing l.standing) (sym over.loaded) (Falls-refl s.loaded.standing)

module _ {T : Type 0} where
  other_traces : (text bin : List ℕ) (k : ℕ) (s t : TraceStore T) → IsOver s t → volume_with text bin k t ≡ record (volume_with text bin k s) { traces = traces_of t }
  other_traces text bin k s t over = rw (over.head, over.loaded) refl

module _ {T : Type 0} where
  pub held_again : (o : Inside T) (t : TraceStore T) (n : ℕ) → IsHeld o → IsOver o.laid.store t → n + total (traces_of o.laid.store) ≡ o.length + total (traces_of t) → IsHeld (record o { laid = record { store = t; prepared = None }; length = n })
  held_again o t n held over sum =
      let v : Volume = volume_with o.text o.bin o.tail o.laid.store in
      let e : length (bytes_of (volume_with o.text o.bin o.tail t)) ≡ length (bytes_of (record v { traces = traces_of t })) = ap (λ (w : Volume). length (bytes_of w)) (other_traces o.text o.bin o.tail o.laid.store t over) in
      record {
        ends = record {
          front = rw over.head held.ends.front;
          whole = rw (over.head, over.loaded) held.ends.whole;
          front_kept = rw (over.head, over.loaded) held.ends.front_kept;
          back_kept = rw (over.head, over.loaded) held.ends.back_kept;
        };
        lends = rw over.loaded held.lends;
        text = held.text;
        bin = held.bin;
        prepared = tt;
        length = omega (arith, e, length-with v (traces_of t), held.length, sum);
      }

-- the same overlay, of which only the room for more grew
module _ {T : Type 0} where
  same_traces : (text bin : List ℕ) (k : ℕ) (s t : TraceStore T) → IsOver s t → IsSame s t → volume_with text bin k t ≡ volume_with text bin k s
  same_traces text bin k s t over same = other_traces text bin k s t over ∙ ap (λ (ts : List (List ℕ)). record (volume_with text bin k s) { traces = ts }) same.traces

module _ {T : Type 0} where
  pub shown_kept : (o : Inside T) (t : TraceStore T) → IsOver o.laid.store t → IsSame o.laid.store t → looked_of (record o { laid = record o.laid { store = t } }) ≡ looked_of o
  shown_kept o t over same =
      let v = same_traces o.text o.bin o.tail o.laid.store t over same in
      let s : Volume = volume_with o.text o.bin o.tail o.laid.store in
      let w : volume_ahead o.text o.bin o.tail t o.laid.prepared ≡ volume_ahead o.text o.bin o.tail o.laid.store o.laid.prepared =
      ap (λ (x : Volume). record x { traces = traces_ahead t o.laid.prepared }) v ∙ ap (λ (ts : List (List ℕ)). record s { traces = ts }) (ahead_kept o.laid.store t o.laid.prepared same) in
      let first : looked_of (record o { laid = record o.laid { store = t } }) ≡ record (looked_of (record o { laid = record o.laid { store = t } })) { volume = s } = ap (λ (x : Volume). record (looked_of (record o { laid = record o.laid { store = t } })) { volume = x }) v in
      let second : record (looked_of (record o { laid = record o.laid { store = t } })) { volume = s } ≡ record (looked_of o) { payloads = payloads_of t; payloads_prepared = payloads_ahead (payloads_of t) o.laid.prepared; loaded = loaded_in t.loaded; reads = reads_in t.loaded } =
      ap (λ (x : Volume). record (looked_of o) { prepared = x; payloads = payloads_of t; payloads_prepared = payloads_ahead (payloads_of t) o.laid.prepared; loaded = loaded_in t.loaded; reads = reads_in t.loaded }) w in
      let third : record (looked_of o) { payloads = payloads_of t; payloads_prepared = payloads_ahead (payloads_of t) o.laid.prepared; loaded = loaded_in t.loaded; reads = reads_in t.loaded } ≡ record (looked_of o) { payloads = payloads_of t; payloads_prepared = payloads_ahead (payloads_of t) o.laid.prepared } =
      ap (λ (l : HeldBytes). record (looked_of o) { payloads = payloads_of t; payloads_prepared = payloads_ahead (payloads_of t) o.laid.prepared; loaded = loaded_in l; reads = reads_in l }) over.loaded in
      first ∙ (second ∙ (third ∙ ap (λ (ps : List T). record (looked_of o) { payloads = ps; payloads_prepared = payloads_ahead ps o.laid.prepared }) same.payloads))

-- ---- the loaded bytes were read again

-- two shown volumes of the same parts are one
same_parts : {T : Type 0} (v v' w w' : Volume) (n : ℕ) (ps ps' qs qs' : List T) (d d' : Loaded) (a : Reads) → v ≡ v' → w ≡ w' → ps ≡ ps' → qs ≡ qs' → d ≡ d'
    → (let x : CountedVolume T = record { volume = v; prepared = w; looks = n; payloads = ps; payloads_prepared = qs; loaded = d; reads = a } in x)
    ≡ record { volume = v'; prepared = w'; looks = n; payloads = ps'; payloads_prepared = qs'; loaded = d'; reads = a }
same_parts v v' w w' n ps ps' qs qs' d d' a e f g h i = cc

-- the same bytes at the same place are what was loaded
same_loaded : (b b' : List ℕ) (d d' : Bool) → b ≡ b' → d ≡ d' → (let l : Loaded = record { bytes = b; on_disk = d } in l) ≡ record { bytes = b'; on_disk = d' }
same_loaded b b' d d' e f = cc

module _ {T : Type 0} (o : Inside T) (t : TraceStore T) (reread : IsReread o.laid.store t) where
  pub same_reread : IsSame o.laid.store t
  same_reread = same_fetched o.laid.store t reread

  volume_reread : volume_with o.text o.bin o.tail t ≡ volume_with o.text o.bin o.tail o.laid.store
  volume_reread = rw (reread.head, reread.order, reread.slots, reread.loaded.bytes) refl

  ahead_reread : volume_ahead o.text o.bin o.tail t o.laid.prepared ≡ volume_ahead o.text o.bin o.tail o.laid.store o.laid.prepared
  ahead_reread =
      let s : Volume = volume_with o.text o.bin o.tail o.laid.store in
      ap (λ (x : Volume). record x { traces = traces_ahead t o.laid.prepared }) volume_reread ∙ ap (λ (ts : List (List ℕ)). record s { traces = ts }) (ahead_kept o.laid.store t o.laid.prepared same_reread)

  -- the overlay is held still
  pub held_reread : IsHeld o → IsHeld (record o { laid = record o.laid { store = t } })
  held_reread held = record {
    ends = record {
      front = rw reread.head held.ends.front;
      whole = rw (reread.head, reread.loaded.bytes) held.ends.whole;
      front_kept = rw (reread.head, reread.loaded.front) held.ends.front_kept;
      back_kept = rw (reread.head, reread.loaded.back) held.ends.back_kept;
    };
    lends = lends_still o.laid.store.loaded t.loaded reread.loaded held.lends;
    text = held.text;
    bin = held.bin;
    prepared = ready_kept o.laid.store t o.laid.prepared same_reread held.prepared;
    length = held.length ∙ ap (λ (v : Volume). length (bytes_of v)) (sym volume_reread);
  }

  -- and shows the same, but for the reads
  pub shown_reread : looked_of (record o { laid = record o.laid { store = t } }) ≡ with_reads (looked_of o) (reads_in t.loaded)
  shown_reread =
      let payloads : payloads_of t ≡ payloads_of o.laid.store = same_reread.payloads in
      same_parts _ _ _ _ o.looks _ _ _ _ _ _ (reads_in t.loaded) volume_reread ahead_reread payloads (ap (λ (ps : List T). payloads_ahead ps o.laid.prepared) payloads)
      (same_loaded _ _ _ _ reread.loaded.bytes (on_disk_stays o.laid.store.loaded.standing t.loaded.standing reread.loaded.standing))

-- the same, where what is laid over the store stands beside it as it did
module _ {T : Type 0} (o : Inside T) (l : Laid T) (reread : IsReread o.laid.store l.store) (kept : l.prepared ≡ o.laid.prepared) where
  pub held_relaid : IsHeld o → IsHeld (record o { laid = l })
  held_relaid held = subst (λ (p : Option Prepared). IsHeld (record o { laid = record { store = l.store; prepared = p } })) (sym kept) (held_reread o l.store reread held)

  pub shown_relaid : looked_of (record o { laid = l }) ≡ with_reads (looked_of o) (reads_in l.store.loaded)
  shown_relaid =
      subst (λ (p : Option Prepared). looked_of (record o { laid = record { store = l.store; prepared = p } }) ≡ with_reads (looked_of o) (reads_in l.store.loaded)) (sym kept) (shown_reread o l.store reread)
