use Rattle.std.proofs.Common.{◌≡◌, ◌∙◌, ap, arith, sym, subst}
use Rattle.std.specs.Prelude.{None, Some}
use Rattle.field_map.specs.declared.map_fault.MapFault.TheVariants.{OutOfMemory}
use Rattle.field_map.specs.Maps.{NameMap}
use Rattle.field_map.specs.Pairs.{shown}
use Rattle.field_map.specs.Binding.{bind_fault}
use Rattle.field_map.proofs.FaultLemmas.{bind_fault-memory}
use Rattle.field_map.proofs.GeometryLemmas.{HasGeometry-bound}
use Rattle.field_map.proofs.field_map.FieldMap.bind.Goals as goal

pub six_places-self-inside-requires : goal.six_places-self-inside-requires
six_places-self-inside-requires c =
    let free : bind_fault c.self.inside.extensions (shown c.self.inside.map.entries) c.args.name.now c.args.place ≡ None
    = subst (λ (m : NameMap). bind_fault m.extensions m.pairs c.args.name.now c.args.place ≡ None) (sym c.self.view_is) (sym c.binding_refusal.ensures ∙ c.in-None.is) in
    rw c.in_ok-put-in-None.ensures.ok (HasGeometry-bound c.self.inside.extensions (shown c.self.inside.map.entries) c.args.name.now c.args.place free c.self.invariant.geometry)

pub returns-in-Some-clause-memory : goal.returns-in-Some-clause-memory
returns-in-Some-clause-memory c =
    let m = c.args.self.now in
    record {
      never_falls = omega arith;
      rose = λ p.
          let memory : c.in-Some.fault ≡ OutOfMemory = cc in
          absurd (bind_fault-memory m.extensions m.pairs c.args.name.now c.args.place (sym c.binding_refusal.ensures ∙ c.in-Some.is ∙ ap Some memory));
    }
