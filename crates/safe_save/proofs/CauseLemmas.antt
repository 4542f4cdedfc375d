-- What is told of a save through a buffer follows from what is told of the save inside.
use Rattle.std.proofs.Common.{◌≡◌, refl, ◌∙◌, sym, ap, subst, ℕ, List, ◌++◌, Option, Some, None, option_map, IsSome}
use Rattle.std.specs.Io.KnownBytes.{Appends, append_known}
use Rattle.safe_save.specs.Disk.{Disk}
use Rattle.safe_save.specs.Saving.{Known, Over, Stored, beside_bytes, HasFailed, IsGone, IsCause, NeverElse, IsNeverElse, given_up_at}
use Rattle.safe_save.specs.declared.save_error.Step.{Step}
use Rattle.safe_save.specs.declared.save_error.SaveError.{SaveError}
use Rattle.safe_save.specs.declared.save_error.SaveError.TheVariants.{NotSaved, NotSettled}

-- where a step has failed, the one that is told of a save that is given up is that one
told : (failed : Option Step) → IsSome failed → failed ≡ Some (given_up_at failed)
told None some = absurd cc
told (Some step) some = refl

-- a save that is given up since a step failed tells that one
gone : (why : SaveError) (d e : Disk) → HasFailed d → IsGone why d e → IsCause why e
gone (NotSaved fault) d e failed is = (is.2.0 ∙ told d.failed failed ∙ ap Some (sym is.0), is.1 ∙ sym is.2.1)
gone (NotSettled error) d e failed is = absurd is

-- what is said of the folder of a save, which was taken out of its buffer and then written to, is said of it behind what the buffer held
pub behind : (w t s o : Option Disk) (buffer bytes : List ℕ) (P : Disk → Type 0)
    → t ≡ w → Appends (option_map beside_bytes t) (option_map beside_bytes s) bytes → Over (λ _. P) s o → Stored (append_known (option_map beside_bytes w) buffer) o (λ _. P)
behind None t s o buffer bytes P same added is = tt
behind (Some v) None s o buffer bytes P same added is = absurd cc
behind (Some v) (Some t) None o buffer bytes P same added is = absurd added
behind (Some v) (Some t) (Some d) None buffer bytes P same added is = absurd is
behind (Some v) (Some t) (Some d) (Some e) buffer bytes P same added is = is

-- a write failed, and the save was given up
pub caused : (w t s o : Option Disk) (buffer bytes : List ℕ) (why : SaveError)
    → t ≡ w → Appends (option_map beside_bytes t) (option_map beside_bytes s) bytes → Known s HasFailed → Over (IsGone why) s o → Stored (append_known (option_map beside_bytes w) buffer) o (λ _. IsCause why)
caused w t s o buffer bytes why same added failed is = behind w t s o buffer bytes (IsCause why) same added (over s o failed is)
  where
    over : (s o : Option Disk) → Known s HasFailed → Over (IsGone why) s o → Over (λ _. IsCause why) s o
    over None o failed is = tt
    over (Some d) None failed is = absurd is
    over (Some d) (Some e) failed is = gone why d e failed is

-- a crash leaves what was there or the bytes of the writer, all of which were written
pub never : (w t s o : Option Disk) (buffer bytes : List ℕ) (mode : Option ℕ)
    → t ≡ w → bytes ≡ buffer → Appends (option_map beside_bytes t) (option_map beside_bytes s) bytes → Over (NeverElse mode) s o
    → Stored (append_known (option_map beside_bytes w) buffer) o (IsNeverElse mode)
never None t s o buffer bytes mode same all added is = tt
never (Some v) None s o buffer bytes mode same all added is = absurd cc
never (Some v) (Some t) None o buffer bytes mode same all added is = absurd added
never (Some v) (Some t) (Some d) None buffer bytes mode same all added is = absurd is
never (Some v) (Some t) (Some d) (Some e) buffer bytes mode same all added is =
    let alike : t ≡ v = cc in
    subst (λ (l : List ℕ). IsNeverElse mode l e) (added ∙ ap (λ (x : Disk). beside_bytes x ++ bytes) alike ∙ ap (λ (l : List ℕ). beside_bytes v ++ l) all) is
