-- What a file that is being loaded is once a view of one of its traces has ended.
use Rattle.std.specs.Prelude.{◌≡◌, ⊤, Option, MatchOption}
use Rattle.std.specs.Borrow.{Fml, MutBor, RattleType, follows_so}
use mathlib.Core.Option.{none}
use Rattle.trace_view.specs.declared.view.TraceView.{TraceView}
use Rattle.volume_loading.specs.LoadedVolume.{LoadedVolume, with_next_look}
use Rattle.volume_loading.specs.contracts.loading.Loading.{the_row}

-- the file that is being loaded is as before, but for one look more where there was a view
abbrev pub EndsSeen : (T : RattleType) → MutBor (LoadedVolume T.Denot) → Option TraceView → Fml
EndsSeen T l view = follows_so (the_row T) (the_row T) l.ghost_name none (λ _ _. ⊤) (λ last. MatchOption view (last ≡ l.now) (λ _. last ≡ with_next_look l.now))
