use Rattle.std.proofs.Common.{rules, subst, sym, arith}
use Rattle.std.proofs.lemmas.Grind.{common_steps}
use Rattle.base_file.specs.HeldBytes.{HeldBytes, Standing, InMemory, OnDisk, OnPass, IsInMemory, IsOnDisk}
use Rattle.volume_loading.proofs.loading.Loading.push.Goals as goal

not_on_disk : (standing : Standing) → IsInMemory standing → IsOnDisk standing → ⊥
not_on_disk InMemory inside disk = disk
not_on_disk OnPass inside disk = disk
not_on_disk (OnDisk agreed) inside disk = inside

pub insert-requires-clause-room : goal.insert-requires-clause-room
insert-requires-clause-room g c = λ (disk : IsOnDisk c.self.inside.store.loaded.standing). absurd (not_on_disk c.self.inside.store.loaded.standing c.self.invariant.in_memory disk)

pub invariant_of-self-2 : goal.invariant_of-self-2
invariant_of-self-2 g c = record {
  in_memory = subst (λ (l : HeldBytes). IsInMemory l.standing) (sym c.insert.ensures.loaded) c.self.invariant.in_memory;
  front = rw c.insert.ensures.loaded c.self.invariant.front;
  back = rw c.insert.ensures.loaded c.self.invariant.back;
  joined = search rules;
  laid = search rules;
  inside = search rules;
  whole = search rules;
  few = search rules;
  so_far = grind (arith, common_steps);
}
