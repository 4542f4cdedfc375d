-- What is told of a view is told of the trace that it shows.
use Rattle.std.proofs.Common.{List, ℕ, subst, Result, Ok, Err, OnOk}
use Rattle.std.specs.Prelude.{IfOk}
use Rattle.frame_cut.specs.declared.file_head.Head.{Head}
use Rattle.frame_cut.specs.Traces.{trace_at}
use Rattle.frame_cut.specs.Volume.{Volume}
use Rattle.trace_view.specs.declared.view.TraceView.{TraceView}
use Rattle.trace_view.specs.Shown.{bytes_of, head_of}
use Rattle.edit_overlay.specs.CountedVolume.{IsViewOf}

pub shown_as : (P : Head → List ℕ → Type 0) (v : Volume) (p : ℕ) (view : TraceView) → IsViewOf v p view → P (head_of view) (bytes_of view) → P v.head (trace_at v p)
shown_as P v p view shown told = subst (λ (h : Head). P h (trace_at v p)) shown.0 (subst (λ (t : List ℕ). P (head_of view) t) shown.1 told)

module _ {T E : Type 0} where
  pub on_ok : {A B : Type 0} (r : Result T E) → (A → B) → OnOk r A → OnOk r B
  on_ok (Ok x) f a = f a
  on_ok (Err e) f a = a

  pub if_ok : {P Q : T → Type 0} (r : Result T E) → ((x : T) → P x → Q x) → IfOk r P → IfOk r Q
  if_ok (Ok x) f p = f x p
  if_ok (Err e) f p = p

  pub ok_on : {P : T → Type 0} {B : Type 0} (r : Result T E) → ((x : T) → P x → B) → IfOk r P → OnOk r B
  ok_on (Ok x) f p = f x p
  ok_on (Err e) f p = p
