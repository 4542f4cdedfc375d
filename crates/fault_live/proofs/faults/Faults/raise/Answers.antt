use Rattle.std.proofs.Common.{◌≡◌, refl}
use Rattle.trace_record.specs.Keys.{Key, cell, inline, crossline, offset, coordinate_x, coordinate_y, least, greatest, triple}
use Rattle.fault_live.specs.OfFaults.{count_in}
use Rattle.fault_live.proofs.TripleLemmas.{on_err}
use Rattle.fault_live.proofs.faults.Faults.raise.Goals as goal

pub raise_any-requires : goal.raise_any-requires
raise_any-requires c = λ q. c.requires (triple q.0 q.1 q.2)

pub returns-in_err-raise_any-clause-err : goal.returns-in_err-raise_any-clause-err
returns-in_err-raise_any-clause-err c =
    let same : (k : Key) → count_in (record { records = c.args.self.now.records; triples = c.raise_any.new.counter }) k ≡ count_in c.args.self.now k
    = elim [
      | cell i x ↦ refl
      | inline i ↦ refl
      | crossline x ↦ refl
      | offset o ↦ refl
      | coordinate_x r ↦ refl
      | coordinate_y r ↦ refl
      | least v ↦ refl
      | greatest v ↦ refl
      | triple i x o ↦ c.in_err-raise_any.ensures.err (i, x, o)
    ] in
    on_err c.from_residual.result same

pub returns-in_err-raise_any-clause-held : goal.returns-in_err-raise_any-clause-held
returns-in_err-raise_any-clause-held c held =
    let bad = c.in_err-raise_any.ensures.held (λ q. held (triple q.0 q.1 q.2)) in
    cc

pub returns-clause-ok : goal.returns-clause-ok
returns-clause-ok c = elim [
  | cell i x ↦ refl
  | inline i ↦ refl
  | crossline x ↦ refl
  | offset o ↦ refl
  | coordinate_x r ↦ refl
  | coordinate_y r ↦ refl
  | least v ↦ refl
  | greatest v ↦ refl
  | triple i x o ↦ c.in_ok-raise_any.ensures.ok (i, x, o)
]
