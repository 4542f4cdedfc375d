-- The limit of the command line is the number of its text.
use Rattle.std.proofs.Common.{◌≡◌, ℕ, List, Option, Some, None, Result, Ok, ap, refl}
use Rattle.std.specs.Str.Parse.{digits_value, without_leading_plus}
use Rattle.command_line.specs.CommandLine.{ReadsLimit}

-- no limit, where there can be no text
pub no_limit : (text : Option (List ℕ)) → ((t : List ℕ) → text ≡ Some t → ⊥) → ReadsLimit text None
no_limit None some = refl
no_limit (Some t) some = absurd (some t refl)
