-- A save of two bytes, step by step.
use Rattle.std.specs.Prelude.{◌≡◌, refl, [], ◌∷◌, Some, None}
use Rattle.safe_save.specs.Disk.{fresh, created, grown, takes, with_mode, synced_all, renamed, settled, loses, removed}
use Rattle.safe_save.specs.Saving.{whole, ever_taken_by}
use Rattle.safe_save.specs.declared.save_error.Step.TheVariants.{Write, Sync}

-- written, given the mode 0640 (416) and synced, the new file stands beside OUT, and a crash still leaves what was there
pub synced-beside : (synced_all (with_mode 416 (grown (7 ∷ 9 ∷ []) (created fresh)))).beside ≡ whole (7 ∷ 9 ∷ []) (Some 416)
synced-beside = refl

pub synced-may_leave : (synced_all (with_mode 416 (grown (7 ∷ 9 ∷ []) (created fresh)))).may_leave ≡ None ∷ []
synced-may_leave = refl

-- renamed, a crash leaves the new file or what was there
pub renamed-may_leave : (renamed (synced_all (with_mode 416 (grown (7 ∷ 9 ∷ []) (created fresh))))).may_leave ≡ whole (7 ∷ 9 ∷ []) (Some 416) ∷ None ∷ []
renamed-may_leave = refl

-- and once the folder is synced too, the new file alone
pub settled-may_leave : (settled (renamed (synced_all (with_mode 416 (grown (7 ∷ 9 ∷ []) (created fresh)))))).may_leave ≡ whole (7 ∷ 9 ∷ []) (Some 416) ∷ []
settled-may_leave = refl

-- where the sync fails and the new file is taken away, the sync is what failed last, and two bytes were taken
pub removed-failed : (removed (loses Sync (grown (7 ∷ 9 ∷ []) (created fresh)))).failed ≡ Some Sync
removed-failed = refl

pub removed-taken : ever_taken_by (removed (loses Sync (grown (7 ∷ 9 ∷ []) (created fresh)))) ≡ 2
removed-taken = refl

-- a write that took none of two bytes has failed
pub takes-none : (takes 0 (7 ∷ 9 ∷ []) (created fresh)).failed ≡ Some Write
takes-none = refl
