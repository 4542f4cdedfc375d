-- The command line of the program, as clap sees it.
use Rattle.std.specs.Prelude.{◌≡◌, ◌⊎◌, ◌||◌, ℕ, ℤ, pos, Bool, true, false, List, [], ◌∷◌, Option, Some, None, IfSome, is_some, codes, if◌then◌else◌}
use Rattle.std.specs.Str.{bytes_eq}
use Rattle.std.specs.Str.Parse.{digits_value, without_leading_plus}
use Rattle.std.specs.Prelude.{refl}
use Rattle.clap.proofs.OnLiterals.{clap_on_literals}
use Rattle.clap.specs.Faults.{fault_of, is_simple_and_free}
use Rattle.clap.specs.Kinds.{Kinds, or_else}
use Rattle.clap.specs.declared.error.kind.ErrorKind.TheVariants.{InvalidValue}
use Rattle.clap.specs.Simple.{on_top}
use Rattle.clap.specs.Values.{IsUnsignedIn}
use Rattle.clap.specs.declared.parser.matches.Found.{Found}
use Rattle.clap.specs.Words.{first_value, one_text, is_simple, App, Row, Rule, first_of, matches_of, new_app, new_rule, with_rule}
use Rattle.clap.specs.declared.builder.ArgAction.TheVariants.{Set, SetTrue}
use Rattle.clap.specs.declared.builder.value_parser.ValueParser.TheVariants as vp
use Rattle.num_order.specs.declared.order.Order.{Order}
use Rattle.num_order.specs.declared.order.Order.TheVariants.{Big, Little}

-- the argument `FILE`
abbrev pub file_rule : Rule
file_rule = record (new_rule (codes "FILE")) { action = Some Set; required = true }

-- the argument `--script S`
abbrev pub script_rule : Rule
script_rule = record (new_rule (codes "script")) { long = Some (codes "script"); value_names = 1 }

-- the argument `--out O`
abbrev pub out_rule : Rule
out_rule = record (new_rule (codes "out")) { long = Some (codes "out"); value_names = 1 }

-- the flag `--in-place`
abbrev pub in_place_rule : Rule
in_place_rule = record (new_rule (codes "in-place")) { long = Some (codes "in-place"); action = Some SetTrue }

-- the flag `--on-disk`
abbrev pub on_disk_rule : Rule
on_disk_rule = record (new_rule (codes "on-disk")) { long = Some (codes "on-disk"); action = Some SetTrue }

-- the flag `--fixed`
abbrev pub fixed_rule : Rule
fixed_rule = record (new_rule (codes "fixed")) { long = Some (codes "fixed"); action = Some SetTrue }

-- the argument `--samples N`, N from 0 to 2^32 - 1
abbrev pub samples_rule : Rule
samples_rule = record (new_rule (codes "samples")) { long = Some (codes "samples"); parser = Some (vp.Unsigned 0 4294967295); value_names = 1 }

-- the argument `--format N`, N from 0 to 2^16 - 1
abbrev pub format_rule : Rule
format_rule = record (new_rule (codes "format")) { long = Some (codes "format"); parser = Some (vp.Unsigned 0 65535); value_names = 1 }

-- the argument `--texts N`, N from 0 to 2^15 - 1
abbrev pub texts_rule : Rule
texts_rule = record (new_rule (codes "texts")) { long = Some (codes "texts"); parser = Some (vp.Unsigned 0 32767); value_names = 1 }

-- the flag `--tail`
abbrev pub tail_rule : Rule
tail_rule = record (new_rule (codes "tail")) { long = Some (codes "tail"); action = Some SetTrue }

-- the flag `--floats`
abbrev pub floats_rule : Rule
floats_rule = record (new_rule (codes "floats")) { long = Some (codes "floats"); action = Some SetTrue }

-- the flag `--opaque-samples`
abbrev pub opaque_rule : Rule
opaque_rule = record (new_rule (codes "opaque-samples")) { long = Some (codes "opaque-samples"); action = Some SetTrue }

-- the argument `--order O`
abbrev pub order_rule : Rule
order_rule = record (new_rule (codes "order")) { long = Some (codes "order"); value_names = 1 }

-- the argument `--max-bytes N`, N from 1 to 2^40
abbrev pub limit_rule : Rule
limit_rule = record (new_rule (codes "max-bytes")) { long = Some (codes "max-bytes"); parser = Some (vp.Unsigned 1 1099511627776); value_names = 1 }

-- the flag `--stop`
abbrev pub stop_rule : Rule
stop_rule = record (new_rule (codes "stop")) { long = Some (codes "stop"); action = Some SetTrue }

-- the flag `--session`
abbrev pub session_rule : Rule
session_rule = record (new_rule (codes "session")) { long = Some (codes "session"); action = Some SetTrue }

-- the flag `--save-at-end`
abbrev pub save_at_end_rule : Rule
save_at_end_rule = record (new_rule (codes "save-at-end")) { long = Some (codes "save-at-end"); action = Some SetTrue }

-- the flag `--quiet`
abbrev pub quiet_rule : Rule
quiet_rule = record (new_rule (codes "quiet")) { long = Some (codes "quiet"); action = Some SetTrue }

-- the flag `--recover`
abbrev pub recover_rule : Rule
recover_rule = record (new_rule (codes "recover")) { long = Some (codes "recover"); action = Some SetTrue }

-- the flag `--look`
abbrev pub look_rule : Rule
look_rule = record (new_rule (codes "look")) { long = Some (codes "look"); action = Some SetTrue }

-- the program's name with a version, for which there is the flag `--version`; an option may stand
-- more than once, and the last one counts
abbrev pub titled : App
titled = on_top (λ s. record s { has_version = true; args_override_self = true }) (new_app (codes "segywb"))

-- `segywb FILE [--script S] [--session] [--save-at-end] [--out O] [--in-place] [--on-disk] [--fixed] [--samples N] [--format N] [--texts N] [--tail] [--floats] [--opaque-samples] [--order O] [--max-bytes N] [--stop] [--quiet] [--recover] [--look]`
unfoldable pub segywb : App
segywb = with_rule (with_rule (with_rule (with_rule (with_rule (with_rule (with_rule (with_rule (with_rule (with_rule (with_rule (with_rule (with_rule (with_rule (with_rule (with_rule (with_rule (with_rule (with_rule (with_rule titled file_rule) script_rule) out_rule) in_place_rule) on_disk_rule) fixed_rule) samples_rule) format_rule) texts_rule) tail_rule) floats_rule) opaque_rule) order_rule) limit_rule) stop_rule) session_rule) save_at_end_rule) quiet_rule) recover_rule) look_rule

-- what clap matches for the words
abbrev pub matched : List (List ℕ) → List Row
matched words = matches_of segywb words

-- a flag is set where the first text that clap keeps for it is `true`, and in no other case
abbrev pub is_set : Option (List ℕ) → Bool
is_set None = false
is_set (Some text) = bytes_eq text (codes "true")

-- the most bytes of a file, where no limit is named: 4 GiB in memory, and 1 TiB on disk
abbrev pub usual_limit : Bool → ℕ
usual_limit on_disk = if on_disk then 1099511627776 else 4294967296

-- the limit, or another number that is asked for, is the one whose digits clap keeps for it, and there is none where it keeps none
abbrev pub ReadsLimit : Option (List ℕ) → Option ℕ → Type 0
ReadsLimit None limit = limit ≡ None
ReadsLimit (Some text) limit = limit ≡ Some (digits_value 10 (without_leading_plus text))

-- a count that is asked for is the number whose digits clap keeps for it, and there is none where it keeps none
abbrev pub ReadsCount : Option (List ℕ) → Option ℤ → Type 0
ReadsCount None count = count ≡ None
ReadsCount (Some text) count = count ≡ Some (pos (digits_value 10 (without_leading_plus text)))

-- the order of bytes that is asked for has one of two names, and there is none where clap keeps none
abbrev pub ReadsOrder : Option (List ℕ) → Option Order → Type 0
ReadsOrder None order = order ≡ None
ReadsOrder (Some text) order = (text ≡ codes "big" × order ≡ Some Big) ⊎ (text ≡ codes "little" × order ≡ Some Little)

-- the text, where there is one, is a number from low to high
abbrev pub IsNumberIn : ℕ → ℕ → Option (List ℕ) → Type 0
IsNumberIn low high text = IfSome text (IsUnsignedIn low high)

-- what is read of the matches is there, as numbers that are not too great
pub record IsReadable (f : Found) : Type 0 where
  pub file : is_some (first_value f (codes "FILE")) ≡ true
  pub limit : IsNumberIn 1 1099511627776 (one_text f (codes "max-bytes"))
  pub samples : IsNumberIn 0 4294967295 (one_text f (codes "samples"))
  pub format : IsNumberIn 0 65535 (one_text f (codes "format"))
  pub texts : IsNumberIn 0 32767 (one_text f (codes "texts"))

-- a word behind `--order` that names no order of bytes is refused
abbrev pub order_refusals : Option (List ℕ) → Kinds
order_refusals None = []
order_refusals (Some text) = if bytes_eq text (codes "big") || bytes_eq text (codes "little") then [] else InvalidValue ∷ []

-- what the words are refused for, clap's refusals before that of the order: they are accepted where the list is empty
unfoldable pub refusals : List (List ℕ) → Kinds
refusals words = or_else (fault_of segywb words) (order_refusals (first_of (codes "order") (matched words)))

-- the command is one of which clap's words give the matches
pub segywb-is_simple : is_simple segywb ≡ true
unfolding segywb clap_on_literals
segywb-is_simple = refl

-- and the kinds of its refusals
pub segywb-is_free : is_simple_and_free segywb ≡ true
unfolding segywb clap_on_literals
segywb-is_free = refl
