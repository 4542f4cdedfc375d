-- What a new number at a held key does to the list.
use Rattle.std.proofs.Common.{◌≡◌, ◌∙◌, ap, sym, List, [], ◌∷◌, refl}
use Rattle.std.specs.Prelude.{Some, None}
use Rattle.std.specs.List.Sorted.{IsStrictlySortedBy}
use Rattle.std.proofs.lemmas.Map.{lookup-none}
use Rattle.std.proofs.lemmas.Map.Entries.{none_below_head}
use Rattle.std.specs.declared.cmp.Ordering.{Ordering}
use Rattle.std.specs.declared.cmp.Ordering.TheVariants.{Less, Equal, Greater}
use Rattle.std.specs.Cmp.{IsTotalOrder}
use Rattle.std.specs.Map.{lookup, set_value, keys_of}
use Rattle.std.specs.BTreeMap.{is_at, insert_entry}

-- a held key takes its new number where it stands
pub held_is_set : {K X : Type 0} {R : K → K → Ordering} (total : IsTotalOrder R) (k : K) (es : List (K × X)) (v w : X) → IsStrictlySortedBy R (keys_of es) → lookup (is_at (R k)) es ≡ Some v
    → set_value (is_at (R k)) es w ≡ insert_entry R es k w
unfolding IsStrictlySortedBy
held_is_set total k [] v w sorted found = absurd cc
held_is_set {R = R} total k (e ∷ es) v w sorted found = go (R k e.0) refl (λ f. held_is_set total k es v w sorted.1 f)
  where
    some_is_none : Some v ≡ None → ⊥
    some_is_none e = cc

    go : (o : Ordering) → R k e.0 ≡ o → (lookup (is_at (R k)) es ≡ Some v → set_value (is_at (R k)) es w ≡ insert_entry R es k w) → set_value (is_at (R k)) (e ∷ es) w ≡ insert_entry R (e ∷ es) k w
    go Less h rest = absurd (some_is_none (sym found ∙ lookup-none (is_at (R k)) (e ∷ es) (none_below_head total k e es sorted h)))
    go Equal h rest = rw h refl
    go Greater h rest = rw h (ap (λ l. e ∷ l) (rest (rw h at found)))
