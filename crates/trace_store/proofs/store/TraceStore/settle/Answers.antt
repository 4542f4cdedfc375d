use Rattle.std.proofs.Common.{◌≤◌, ℕ, length, sym, subst, All}
use Rattle.base_file.specs.HeldBytes.{IsOnDisk}
use Rattle.base_file.proofs.HeldLemmas.{not_in_memory}
use Rattle.trace_store.specs.Stores.{traces_of}
use Rattle.trace_store.proofs.GrownLemmas.{store_settled}
use Rattle.trace_store.proofs.store.TraceStore.settle.Goals as goal

pub invariant_of-result : goal.invariant_of-result
invariant_of-result g c =
    let s = c.args.self in
    let kept = c.settle-loaded.ensures in
    record {
      sound = store_settled s.loaded c.settle-loaded.result s.head s.order.ids s.slots kept.bytes kept.standing
          (λ (disk : IsOnDisk c.settle-loaded.result.standing).
          let away = not_in_memory s.loaded.standing (subst IsOnDisk kept.standing disk) in
          subst (λ (n : ℕ). All (λ t. length t ≤ n) (traces_of s)) (sym (kept.most away)) (c.requires.room away))
          s.sound;
    }
