use Rattle.std.proofs.Common.{◌≡◌, ◌∙◌, sym, ap, ◌-◌, ◌<◌, arith}
use Rattle.std.specs.Map.{remove_entry}
use Rattle.std.specs.BTreeMap.{is_at}
use Rattle.std.specs.Prelude.{unwrap_or}
use Rattle.std.proofs.lemmas.Map.Steps.{set_value_same}
use Rattle.std.proofs.lemmas.Map.Views.{All-map-remove_entry, All-values-set_value}
use Rattle.key_counts.specs.Counts.{count_of}
use Rattle.key_counts.proofs.counts.Counts.lower.Goals as goal

pub invariant_of-self : goal.invariant_of-self
invariant_of-self g c =
    rw (c.get_mut.follows.holds (c.in-Some.held.now - 1)).0 (All-values-set_value (is_at (g.K.Ord.cmp c.args.key.now)) (λ n. 0 < n) c.self.inside.map.entries (c.in-Some.held.now - 1) c.self.invariant (omega arith))

-- where the key leaves, the look-up wrote nothing
pub invariant_of-self-else-stays : goal.invariant_of-self-else-stays
invariant_of-self-else-stays g c =
    let unwritten : (c.get_mut.follows.lender c.in-Some.held.now).entries ≡ c.self.inside.map.entries
    = (c.get_mut.follows.holds c.in-Some.held.now).0 ∙ set_value_same (is_at (g.K.Ord.cmp c.args.key.now)) c.self.inside.map.entries c.in-Some.held.now (sym c.in-Some.ensures.value) in
    rw (c.remove.ensures.entries, unwritten) (All-map-remove_entry (is_at (g.K.Ord.cmp c.args.key.now)) (λ e. e.1) (λ n. 0 < n) c.self.inside.map.entries c.self.invariant)

pub returns-else-stays-clause-less : goal.returns-else-stays-clause-less
returns-else-stays-clause-less g c =
    let unwritten : (c.get_mut.follows.lender c.in-Some.held.now).entries ≡ c.self.inside.map.entries
    = (c.get_mut.follows.holds c.in-Some.held.now).0 ∙ set_value_same (is_at (g.K.Ord.cmp c.args.key.now)) c.self.inside.map.entries c.in-Some.held.now (sym c.in-Some.ensures.value) in
    let number : count_of g.K.Ord.cmp c.self.inside.map.entries c.args.key.now ≡ c.in-Some.held.now = ap (λ o. unwrap_or o 0) (sym c.in-Some.ensures.value) in
    let positive : 0 < count_of g.K.Ord.cmp c.self.inside.map.entries c.args.key.now = rw c.self.view_is c.requires in
    let one : count_of g.K.Ord.cmp c.self.inside.map.entries c.args.key.now ≡ 1 = omega arith in
    rw (← c.self.view_is, one) (c.remove.ensures.entries ∙ ap (λ es. remove_entry (is_at (g.K.Ord.cmp c.args.key.now)) es) unwritten)
