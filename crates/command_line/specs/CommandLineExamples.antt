-- Command lines that are accepted, and that are refused.
use Rattle.std.specs.Prelude.{◌≡◌, [], ◌∷◌, codes, refl}
use Rattle.clap.proofs.OnLiterals.{clap_on_literals}
use Rattle.clap.specs.declared.error.kind.ErrorKind.TheVariants.{DisplayHelp, InvalidValue, MissingRequiredArgument, UnknownArgument, ValueValidation}
use Rattle.command_line.specs.CommandLine.{refusals, segywb}

-- FILE and a script, an option that stands twice, and `=` before a value
accepted : refusals (codes "segywb" ∷ codes "a.sgy" ∷ codes "--script" ∷ codes "-" ∷ codes "--stop" ∷ codes "--order=big" ∷ codes "--order" ∷ codes "little" ∷ []) ≡ []
unfolding refusals segywb clap_on_literals
accepted = refl

-- no FILE
without_file : refusals (codes "segywb" ∷ codes "--look" ∷ []) ≡ MissingRequiredArgument ∷ []
unfolding refusals segywb clap_on_literals
without_file = refl

-- an option that there is not
unknown : refusals (codes "segywb" ∷ codes "a.sgy" ∷ codes "--undo" ∷ []) ≡ UnknownArgument ∷ []
unfolding refusals segywb clap_on_literals
unknown = refl

-- a number of samples of 33 bits
too_long : refusals (codes "segywb" ∷ codes "a.sgy" ∷ codes "--samples" ∷ codes "4294967296" ∷ []) ≡ ValueValidation ∷ []
unfolding refusals segywb clap_on_literals
too_long = refl

-- an order of bytes that there is not
no_order : refusals (codes "segywb" ∷ codes "a.sgy" ∷ codes "--order" ∷ codes "east" ∷ []) ≡ InvalidValue ∷ []
unfolding refusals segywb clap_on_literals
no_order = refl

-- help is printed in place of a run
asks_for_help : refusals (codes "segywb" ∷ codes "--help" ∷ []) ≡ DisplayHelp ∷ []
unfolding refusals segywb clap_on_literals
asks_for_help = refl
