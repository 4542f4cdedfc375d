-- Why traces that were chosen are not edited.
use Rattle.std.specs.Prelude.{◌≡◌, ◌⊎◌, ◌<◌, ℕ, List, length, Some}
use Rattle.bench_rules.specs.declared.chosen_edit.ChosenEdit.{ChosenEdit}
use Rattle.bench_rules.specs.declared.refusal.Refusal.{Refusal}
use Rattle.bench_rules.specs.declared.refusal.Refusal.TheVariants.{OutOfMemory}
use Rattle.bench_rules.specs.ChosenEdits.{refusal_of_edit}
use Rattle.bench_rules.specs.Looks.{each_looks}
use Rattle.bench_rules.specs.ReadFaults.{IsReadRefusal}
use Rattle.bench_rules.specs.State.{State}

-- want of memory; or a trace on disk that was not read; or what the edit refuses of these traces
abbrev pub IsRefusedFor : State → ChosenEdit → List ℕ → Refusal → Type 0
IsRefusedFor s edit traces refusal =
    (refusal ≡ OutOfMemory)
    ⊎ (IsReadRefusal s.on_disk refusal × (0 < each_looks s.fields edit (length traces)))
    ⊎ (refusal_of_edit s.volume s.fields edit traces ≡ Some refusal)
