-- Any list of edits leaves a file that is cut.
use Rattle.std.proofs.Common.{◌≡◌, ℕ, Bool, List, [], ◌∷◌, Option, Some, None, Result, Ok, Err, refl, sym, ap, subst, ◌∙◌}
use Rattle.frame_cut.specs.Cuts.{IsCut}
use Rattle.frame_cut.specs.Volume.{Volume, bytes_of}
use Rattle.frame_cut.proofs.OneCutLemmas.{at_most_one_cut}
use Rattle.bench_rules.specs.declared.edit.Edit.{Edit}
use Rattle.bench_rules.specs.declared.refusal.Refusal.{Refusal}
use Rattle.bench_rules.specs.After.{bytes_after}
use Rattle.bench_laws.specs.EditLaws.{IsReadAlike, StepsStayCut, from_scratch, AnswersFromScratch, RepliesFromScratch}
use Rattle.bench_rules.specs.declared.query.Query.{Query}
use Rattle.bench_rules.specs.declared.query.Query.TheVariants.{Count, Info, Get, GetBin, Line, Lines, Code, Stanzas, Fields, Sample, Geometry, Stat, Fold, Grid, Inlines, Crosslines, Histogram, Range, Totals, Slice, Faults, Problems, Survey, Table, Find, Header, Extremes, OfChosen}
use Rattle.bench_rules.specs.Answer.{answer, IsReply}
use Rattle.frame_cut.specs.declared.limits.Limits.{Limits}
use Rattle.frame_cut.specs.declared.reading.Reading.{Reading}
use Rattle.bench_rules.specs.Refused.{first_refusal}
use Rattle.bench_rules.specs.State.{State}
use Rattle.bench_rules.specs.Steps.{IsAfter, StepUnless}
use Rattle.bench_rules.proofs.ManyValueLemmas.{IsRead}
use Rattle.bench_laws.proofs.CutAgainLemmas.{stays_cut}

itself : (s : State) → IsRead s → IsReadAlike s s
itself s cut = record { cut = cut; head = refl; reading = refl; limits = refl; on_disk = refl }

unchanged : (old new : State) → IsRead old → new ≡ old → IsReadAlike old new
unchanged old new cut e = subst (λ (s : State). IsReadAlike old s) (sym e) (itself old cut)

done : (old new : State) (edit : Edit) → IsRead old → first_refusal old edit ≡ None → IsAfter old edit new → IsReadAlike old new
done old new edit cut none after =
    let some = stays_cut old edit cut none in
    let same : new.volume ≡ some.0 = at_most_one_cut (bytes_after old edit) old.reading old.limits new.volume some.0 after.volume some.1 in
    record {
      cut = subst (λ (file : List ℕ). IsCut file old.reading old.limits new.volume) (sym after.volume.joined) after.volume;
      head = ap (λ (v : Volume). v.head) same ∙ some.2;
      reading = after.reading;
      limits = after.limits;
      on_disk = after.on_disk;
    }

unless : {T : Type 0} (o : Option Refusal) (old new : State) (edit : Edit) (reply : Result T Refusal) → first_refusal old edit ≡ o → IsRead old → StepUnless o old edit reply new → IsReadAlike old new
unless (Some r) old new edit (Ok x) e cut step = absurd step
unless (Some r) old new edit (Err s) e cut step = unchanged old new cut step.1
unless None old new edit (Ok x) e cut step = done old new edit cut e step
unless None old new edit (Err s) e cut step = unchanged old new cut step.1

-- one edit and then what holds of the rest
then : (old mid new : State) → IsReadAlike old mid → IsReadAlike mid new → IsReadAlike old new
then old mid new a b =
    record {
      cut = rw (← a.reading, ← a.limits) b.cut;
      head = b.head ∙ a.head;
      reading = b.reading ∙ a.reading;
      limits = b.limits ∙ a.limits;
      on_disk = b.on_disk ∙ a.on_disk;
    }

read_again : (old mid : State) → IsReadAlike old mid → IsRead mid
read_again old mid a = rw (a.reading, a.limits) a.cut

pub steps_stay_cut : StepsStayCut
steps_stay_cut old new [] [] cut steps = unchanged old new cut steps
steps_stay_cut old new [] (r ∷ rs) cut steps = absurd steps
steps_stay_cut old new (e ∷ es) [] cut steps = absurd steps
steps_stay_cut old new (e ∷ es) (r ∷ rs) cut steps =
    let mid : State = steps.0 in
    let first = unless (first_refusal old e) old mid e r refl cut steps.1 in
    then old mid new first (steps_stay_cut mid new es rs (read_again old mid first) steps.2)

-- the answers from the same parts do not depend on whether the bytes are on disk
answer_alike : (s : State) (on_disk : Bool) (query : Query) → answer s query ≡ answer (record s { on_disk = on_disk }) query
answer_alike s on_disk Count = refl
answer_alike s on_disk Info = refl
answer_alike s on_disk (Get p field) = refl
answer_alike s on_disk (GetBin field) = refl
answer_alike s on_disk (Line b q) = refl
answer_alike s on_disk (Lines b) = refl
answer_alike s on_disk (Code b) = refl
answer_alike s on_disk Stanzas = refl
answer_alike s on_disk Fields = refl
answer_alike s on_disk (Sample p k) = refl
answer_alike s on_disk (Geometry p) = refl
answer_alike s on_disk (Stat p) = refl
answer_alike s on_disk (Fold i c) = refl
answer_alike s on_disk Grid = refl
answer_alike s on_disk Inlines = refl
answer_alike s on_disk Crosslines = refl
answer_alike s on_disk Histogram = refl
answer_alike s on_disk (Range quantity) = refl
answer_alike s on_disk Totals = refl
answer_alike s on_disk (Slice k) = refl
answer_alike s on_disk Faults = refl
answer_alike s on_disk Problems = refl
answer_alike s on_disk Survey = refl
answer_alike s on_disk (Table a b fields) = refl
answer_alike s on_disk (Find a b field low high) = refl
answer_alike s on_disk (Header p) = refl
answer_alike s on_disk (Extremes a b) = refl
answer_alike s on_disk (OfChosen c query) = refl

-- the state that is held is that of a load of the new bytes as the old ones were held
same_state : (old new : State) (v : Volume) → IsReadAlike old new → IsCut (bytes_of new.volume) old.reading old.limits v → new ≡ from_scratch old new v old.on_disk
same_state old new v alike scratch =
    let same : new.volume ≡ v = at_most_one_cut (bytes_of new.volume) old.reading old.limits new.volume v alike.cut scratch in
    ap (λ (u : Volume). let s : State = record new { volume = u } in s) same
    ∙ ap (λ (r : Reading). let s : State = record new { volume = v; reading = r } in s) alike.reading
    ∙ ap (λ (l : Limits). let s : State = record new { volume = v; reading = old.reading; limits = l } in s) alike.limits
    ∙ ap (λ (d : Bool). from_scratch old new v d) alike.on_disk

-- an answer of what reading the new bytes from scratch gives
pub answers_from_scratch : AnswersFromScratch
answers_from_scratch old new edits replies v on_disk query cut steps scratch =
    ap (λ (s : State). answer s query) (same_state old new v (steps_stay_cut old new edits replies cut steps) scratch)
    ∙ answer_alike (from_scratch old new v old.on_disk) on_disk query

-- a reply of what reading the new bytes from scratch gives
pub replies_from_scratch : RepliesFromScratch
replies_from_scratch old new edits replies v query reply cut steps scratch is =
    subst (λ (s : State). IsReply s query reply) (same_state old new v (steps_stay_cut old new edits replies cut steps) scratch) is
