-- Where the bytes of a standing are, and whether they are sure; and that a trace from the first to the last is there.
use Rattle.std.proofs.Common.{◌≡◌, ◌≤◌, ℕ, true, false, IsTrue, refl, sym, ap, ◌∙◌, subst, arith, Result, Err}
use Rattle.std.specs.Prelude.{IsOk}
use Rattle.std.proofs.lemmas.Bool.{le-leb}
use Rattle.base_file.specs.Faults.{IsFaultOfRead}
use Rattle.base_file.specs.HeldBytes.{HeldBytes, Standing, InMemory, OnPass, OnDisk, Falls, IsInMemory, IsStill, IsSure}
use Rattle.base_file.specs.declared.read_fault.ReadFault.{ReadFault}
use Rattle.base_file.specs.declared.read_fault.ReadFault.TheVariants.{ReadFailed, Changed, TooLarge}
use Rattle.base_file.proofs.HeldLemmas.{memory_stays, sure_before}
use Rattle.frame_cut.specs.Traces.{count_of, is_trace}
use Rattle.frame_cut.specs.Volume.{Volume}
use Rattle.trace_store.specs.Faults.{IsFaultOf}
use Rattle.edit_overlay.specs.Held.{CanLend}
use Rattle.edit_overlay.specs.Reads.{Follow, IsFaultOfLook}
use Rattle.edit_overlay.specs.Standings.{is_on_disk, is_sure, reads_in}

true_is_not_false : true ≡ false → ⊥
true_is_not_false e = cc

-- what is not on disk is sure
pub sure_off_disk : (s : Standing) → is_on_disk s ≡ false → IsTrue (is_sure s)
sure_off_disk InMemory e = refl
sure_off_disk OnPass e = absurd (true_is_not_false e)
sure_off_disk (OnDisk a) e = absurd (true_is_not_false e)

-- what is not in memory is on disk
pub on_disk_else : (s : Standing) → (IsInMemory s → ⊥) → IsTrue (is_on_disk s)
on_disk_else InMemory not = absurd (not tt)
on_disk_else OnPass not = refl
on_disk_else (OnDisk a) not = refl

never : false ≡ true → ⊥
never e = cc

-- a read that cannot fail in memory did not
pub refused_in_memory : {T E : Type 0} (r : Result T E) (fault : E) → r ≡ Err fault → IsOk r → ⊥
refused_in_memory {T = T} {E = E} r fault e ok = never (subst (λ (x : Result T E). IsOk x) e ok)

-- two words for the same: each read agreed
pub sure_is : (s : Standing) → IsTrue (is_sure s) → IsSure s
sure_is InMemory sure = tt
sure_is OnPass sure = tt
sure_is (OnDisk a) sure = sure

pub is_sure_if : (s : Standing) → IsSure s → IsTrue (is_sure s)
is_sure_if InMemory sure = refl
is_sure_if OnPass sure = refl
is_sure_if (OnDisk a) sure = sure

-- bytes stay where they are
pub on_disk_stays : (old new : Standing) → Falls old new → is_on_disk new ≡ is_on_disk old
on_disk_stays InMemory new falls = ap is_on_disk falls
on_disk_stays OnPass new falls = ap is_on_disk falls
on_disk_stays (OnDisk a) InMemory falls = absurd falls
on_disk_stays (OnDisk a) OnPass falls = absurd falls
on_disk_stays (OnDisk a) (OnDisk b) falls = refl

-- and what agrees agreed before
pub agreed_before : (old new : Standing) → Falls old new → IsTrue (is_sure new) → IsTrue (is_sure old)
agreed_before old new falls sure = is_sure_if old (sure_before old new falls (sure_is new sure))

-- reads of the same bytes go on
pub reads_follow : (old new : HeldBytes) → IsStill old new → Follow (reads_in old) (reads_in new)
reads_follow old new still = record { agreed = agreed_before old.standing new.standing still.standing; failures = still.failures }

-- ---- bytes that can be lent

-- what is being passed was before
passed_before : (old new : Standing) → Falls old new → new ≡ OnPass → old ≡ OnPass
passed_before InMemory new falls e = sym falls ∙ e
passed_before OnPass new falls e = refl
passed_before (OnDisk a) InMemory falls e = absurd falls
passed_before (OnDisk a) OnPass falls e = absurd falls
passed_before (OnDisk a) (OnDisk b) falls e = absurd (cc)

-- they can after they were read again
pub lends_still : (old new : HeldBytes) → IsStill old new → CanLend old → CanLend new
lends_still old new still lends = record {
  passed = λ e. lends.passed (passed_before old.standing new.standing still.standing e);
  some = λ away. omega (arith, still.most, lends.some (λ inside. away (memory_stays old.standing new.standing still.standing inside)));
}

-- two words for the same: why a look was refused
pub fault_told : {HasChanged : Type 0} (old new : HeldBytes) (fault : ReadFault) → CanLend old → (HasChanged → ¬ IsSure new.standing) → IsFaultOf HasChanged old new fault → IsFaultOfLook (reads_in old) (reads_in new) fault
fault_told old new ReadFailed lends changed told = told
fault_told old new TooLarge lends changed told = absurd (lends.passed told)
fault_told old new Changed lends changed told = λ sure. changed told (sure_is new.standing sure)

-- n bytes, as many as can be lent, were not read: a read failed
pub piece_told : {T : Type 0} (r : Result T ReadFault) (old new : HeldBytes) (n : ℕ) (fault : ReadFault) → r ≡ Err fault → ((IsInMemory old.standing → ⊥) → n ≤ old.most) → (IsInMemory old.standing → IsOk r)
    → IsFaultOfRead old.most n old.failures new.failures fault → IsFaultOfLook (reads_in old) (reads_in new) fault
piece_told r old new n ReadFailed e room memory told = told
piece_told r old new n TooLarge e room memory told = absurd (omega (arith, told, room (λ inside. refused_in_memory r TooLarge e (memory inside))))
piece_told r old new n Changed e room memory told = absurd told

-- a trace from the first to the last is there
pub trace_there : (v : Volume) (p : ℕ) → 1 ≤ p → p ≤ count_of v → IsTrue (is_trace v p)
trace_there v p first last = rw (le-leb 1 p first, le-leb p (count_of v) last) refl
