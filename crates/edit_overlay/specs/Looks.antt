-- What an overlay is once a view of one of its traces has ended.
use Rattle.std.specs.Prelude.{ℕ, ◌≡◌, ⊤, Option, MatchOption, Result, MatchResult}
use Rattle.std.specs.Borrow.{Fml, MutBor, RattleType, follows_so}
use mathlib.Core.Option.{none}
use Rattle.base_file.specs.declared.read_fault.ReadFault.{ReadFault}
use Rattle.frame_cut.specs.Volume.{Volume}
use Rattle.trace_view.specs.declared.view.TraceView.{TraceView}
use Rattle.edit_overlay.specs.CountedVolume.{CountedVolume, after_look, IsViewOf}
use Rattle.edit_overlay.specs.Reads.{Follow, HaveAgreed, IsFaultOfLook}
use Rattle.edit_overlay.specs.contracts.overlay.Overlay.{the_row}

-- it is as before, but for one look more, which was refused for this reason
pub record HasMissed {T : Type 0} (old last : CountedVolume T) (why : ReadFault) : Type 0 where
  pub looked : last ≡ after_look old last.reads
  pub reads : Follow old.reads last.reads
  pub fault : IsFaultOfLook old.reads last.reads why

-- it is as before, but for one look more, and if each read so far agrees, the view was of trace p of this volume
pub record HasShown {T : Type 0} (old last : CountedVolume T) (of : Volume) (p : ℕ) (view : TraceView) : Type 0 where
  pub looked : last ≡ after_look old last.reads
  pub reads : Follow old.reads last.reads
  pub trace : HaveAgreed last.reads → IsViewOf of p view

-- it is as before where there was no trace p; else there was one look more, whether the view was shown or not
abbrev pub EndsLooked : (T : RattleType) → MutBor (CountedVolume T.Denot) → Volume → ℕ → Result (Option TraceView) ReadFault → Fml
EndsLooked T o of p result = follows_so (the_row T) (the_row T) o.ghost_name none (λ _ _. ⊤) (λ last.
    MatchResult result (λ view. MatchOption view (last ≡ o.now) (HasShown o.now last of p)) (HasMissed o.now last))
