-- What a bench is once a view of one of its traces has ended.
use Rattle.std.specs.Prelude.{ℕ, ◌≡◌, ⊤, Option, MatchOption, Result, MatchResult}
use Rattle.std.specs.Borrow.{Fml, MutBor, follows_so}
use mathlib.Core.Option.{none}
use Rattle.base_file.specs.declared.read_fault.ReadFault.{ReadFault}
use Rattle.trace_view.specs.declared.view.TraceView.{TraceView}
use Rattle.edit_overlay.specs.CountedVolume.{one_more, IsViewOf}
use Rattle.edit_overlay.specs.Reads.{Reads, Follow, HaveAgreed, IsFaultOfLook}
use Rattle.bench_rules.specs.Live.{LiveSession}
use Rattle.bench_core.specs.contracts.bench.Bench.{the_row}

-- the same after one more look, and these reads
abbrev pub after_look : LiveSession → Reads → LiveSession
after_look s reads = record s { looks = one_more s.looks; reads = reads }

-- it is as before, but for one look more, which was refused for this reason
pub record HasMissed (old last : LiveSession) (why : ReadFault) : Type 0 where
  pub looked : last ≡ after_look old last.reads
  pub reads : Follow old.reads last.reads
  pub fault : IsFaultOfLook old.reads last.reads why

-- it is as before, but for one look more, and if each read so far agrees, the view was of trace p
pub record HasShown (old last : LiveSession) (p : ℕ) (view : TraceView) : Type 0 where
  pub looked : last ≡ after_look old last.reads
  pub reads : Follow old.reads last.reads
  pub trace : HaveAgreed last.reads → IsViewOf old.state.volume p view

-- it is as before where there was no trace p; else there was one look more, whether the view was shown or not
abbrev pub EndsLooked : MutBor LiveSession → ℕ → Result (Option TraceView) ReadFault → Fml
EndsLooked s p result = follows_so the_row the_row s.ghost_name none (λ _ _. ⊤) (λ last.
    MatchResult result (λ view. MatchOption view (last ≡ s.now) (HasShown s.now last p)) (HasMissed s.now last))
