-- How the text of a reply is written, with more behind it.
use Rattle.std.proofs.Common.{◌≡◌, ℕ, List, [], ◌++◌, ap, append-nil}
use Rattle.line_texts.specs.Devices.{Device, TakesPart, count_in_64_bits}
use Rattle.line_texts.specs.Printing.{Outgoing, nothing_out, GoesOut, BreaksOut}
use Rattle.script_text.specs.Replies.{Printed}
use Rattle.line_texts.proofs.OutLemmas.{Left, goes_on, breaks_on, all_out, told_first, told_last}
use Rattle.script_run.specs.Telling.{followed_by}

-- nothing behind it
pub followed_by_none : (p : Printed) → followed_by [] p ≡ p
followed_by_none p = ap (λ (t : List ℕ). let q : Printed = record { text = t; is_refusal = p.is_refusal } in q) (append-nil p.text)

module _ (old now next : Device) (at : Outgoing) (text behind : List ℕ) (out : GoesOut old now nothing_out at text) where
  left : Left old now nothing_out at (behind ++ []) (text ++ behind)
  left = record { done = text; out = out; joined = ap (λ (s : List ℕ). text ++ s) (append-nil behind) }

  -- the writer failed while what stands behind was pushed
  pub told_behind : (told : ℕ) → BreaksOut now next at behind told → (taken : ℕ) × (told ≡ count_in_64_bits taken) × TakesPart old next (text ++ behind) taken
  told_behind told b = told_first old next (text ++ behind) told (breaks_on old now next nothing_out at behind [] (text ++ behind) told left b)

  both_out : (to : Outgoing) → GoesOut now next at to behind → GoesOut old next nothing_out to (text ++ behind)
  both_out to g = all_out old next nothing_out to (text ++ behind) (goes_on old now next nothing_out at to behind [] (text ++ behind) left g)

  -- it failed at what waited
  pub told_at_last : (to : Outgoing) (end : Device) (told : ℕ) → GoesOut now next at to behind → BreaksOut next end to [] told
      → (taken : ℕ) × (told ≡ count_in_64_bits taken) × TakesPart old end (text ++ behind) taken
  told_at_last to end told g b = told_last old next end to (text ++ behind) told (both_out to g) b
