-- The number that stands most often in a list.
use Rattle.std.specs.Prelude.{◌≡◌, ℕ, ℤ, ◌==◌, ◌<◌, ◌≤◌, ◌≤ℤ◌, List, [], ◌∷◌, Option, Some, None, MatchOption, count_by, nat_lt, if◌then◌else◌}
use Rattle.std.specs.Int.{int_min}
use Rattle.std.specs.Option.{option_map_or}
use Rattle.std.specs.Ordering.{int_eq}

-- how often a number stands in a list
abbrev pub times : ℤ → List ℤ → ℕ
times n ns = count_by (λ m. int_eq m n) ns

-- of two numbers the one that stands more often in the list, and of two that stand equally often the lesser
abbrev pub commoner : List ℤ → ℤ → ℤ → ℤ
commoner ns a b = if times a ns == times b ns then int_min a b else (if nat_lt (times a ns) (times b ns) then b else a)

-- of the numbers at the end the one that stands most often in the list, of several the least; nothing of no number
abbrev pub commonest_among : List ℤ → List ℤ → Option ℤ
commonest_among ns [] = None
commonest_among ns (m ∷ ms) = Some (option_map_or (commoner ns m) (commonest_among ns ms) m)

-- the number that stands most often in a list, of several the least; nothing of an empty list
unfoldable pub commonest : List ℤ → Option ℤ
commonest ns = commonest_among ns ns

-- the number stands in the list, none stands there more often, and none that stands there as often is less
pub record IsCommonest (ns : List ℤ) (c : ℤ) : Type 0 where
  pub stands : 0 < times c ns
  pub most : (n : ℤ) → times n ns ≤ times c ns
  pub least : (n : ℤ) → times n ns ≡ times c ns → c ≤ℤ n

-- what is found is nothing in an empty list, else the number that stands there most often and of several the least
abbrev pub CommonestIsFound : Type 0
CommonestIsFound = (ns : List ℤ) → MatchOption (commonest ns) (ns ≡ []) (IsCommonest ns)
