use Rattle.std.proofs.Common.{◌≡◌, ◌∙◌, ap, sym, subst, codes, ℕ, List, [], map, is_some, Option, Result, Ok, Err, true≢false}
use Rattle.std.specs.String.{string_bytes}
use Rattle.clap.specs.Built.{IsParsedFrom}
use Rattle.clap.specs.Faults.{fault_of}
use Rattle.clap.specs.declared.error.Error.{Error}
use Rattle.clap.specs.declared.parser.matches.ArgMatches.{ArgMatches}
use Rattle.clap.specs.Words.{first_of, first_value, one_of, found_of}
use Rattle.command_line.specs.CommandLine.{is_set, ReadsLimit, ReadsCount, ReadsOrder, order_refusals, refusals, segywb}
use Rattle.command_line.proofs.AcceptedLemmas.{by_our_faults, nothing_refused, passed_up, refused_by_clap, refused_for_order}
use Rattle.command_line.proofs.ReadableLemmas.{found_readable}
use Rattle.command_line.proofs.RowLemmas.{rows_are, first_of-rows_of, one_of-rows_of}
use Rattle.command_line.proofs.parsing.arguments.Goals as goal

pub returns-in-Some-read_matches-clause-file : goal.returns-in-Some-read_matches-clause-file
returns-in-Some-read_matches-clause-file c =
    let rows = rows_are _ _ c.in_ok-matches.matches c.in_ok-command.ensures c.in_ok-matches.ensures.ok.2 in
    ap (first_of (codes "FILE")) (sym rows) ∙ first_of-rows_of (found_of c.in_ok-matches.matches) (codes "FILE") ∙ c.in-Some-read_matches.ensures.file

pub returns-in-Some-read_matches-clause-script : goal.returns-in-Some-read_matches-clause-script
returns-in-Some-read_matches-clause-script c =
    let rows = rows_are _ _ c.in_ok-matches.matches c.in_ok-command.ensures c.in_ok-matches.ensures.ok.2 in
    ap (first_of (codes "script")) (sym rows) ∙ first_of-rows_of (found_of c.in_ok-matches.matches) (codes "script") ∙ c.in-Some-read_matches.ensures.script

pub returns-in-Some-read_matches-clause-out : goal.returns-in-Some-read_matches-clause-out
returns-in-Some-read_matches-clause-out c =
    let rows = rows_are _ _ c.in_ok-matches.matches c.in_ok-command.ensures c.in_ok-matches.ensures.ok.2 in
    ap (first_of (codes "out")) (sym rows) ∙ first_of-rows_of (found_of c.in_ok-matches.matches) (codes "out") ∙ c.in-Some-read_matches.ensures.out

pub returns-in-Some-read_matches-clause-in_place : goal.returns-in-Some-read_matches-clause-in_place
returns-in-Some-read_matches-clause-in_place c =
    let rows = rows_are _ _ c.in_ok-matches.matches c.in_ok-command.ensures c.in_ok-matches.ensures.ok.2 in
    let same = sym (ap (first_of (codes "in-place")) (sym rows) ∙ first_of-rows_of (found_of c.in_ok-matches.matches) (codes "in-place")) in
    c.in-Some-read_matches.ensures.in_place ∙ ap is_set same

pub returns-in-Some-read_matches-clause-on_disk : goal.returns-in-Some-read_matches-clause-on_disk
returns-in-Some-read_matches-clause-on_disk c =
    let rows = rows_are _ _ c.in_ok-matches.matches c.in_ok-command.ensures c.in_ok-matches.ensures.ok.2 in
    let same = sym (ap (first_of (codes "on-disk")) (sym rows) ∙ first_of-rows_of (found_of c.in_ok-matches.matches) (codes "on-disk")) in
    c.in-Some-read_matches.ensures.on_disk ∙ ap is_set same

pub returns-in-Some-read_matches-clause-fixed : goal.returns-in-Some-read_matches-clause-fixed
returns-in-Some-read_matches-clause-fixed c =
    let rows = rows_are _ _ c.in_ok-matches.matches c.in_ok-command.ensures c.in_ok-matches.ensures.ok.2 in
    let same = sym (ap (first_of (codes "fixed")) (sym rows) ∙ first_of-rows_of (found_of c.in_ok-matches.matches) (codes "fixed")) in
    c.in-Some-read_matches.ensures.fixed ∙ ap is_set same

pub returns-in-Some-read_matches-clause-tail : goal.returns-in-Some-read_matches-clause-tail
returns-in-Some-read_matches-clause-tail c =
    let rows = rows_are _ _ c.in_ok-matches.matches c.in_ok-command.ensures c.in_ok-matches.ensures.ok.2 in
    let same = sym (ap (first_of (codes "tail")) (sym rows) ∙ first_of-rows_of (found_of c.in_ok-matches.matches) (codes "tail")) in
    c.in-Some-read_matches.ensures.tail ∙ ap is_set same

pub returns-in-Some-read_matches-clause-floats : goal.returns-in-Some-read_matches-clause-floats
returns-in-Some-read_matches-clause-floats c =
    let rows = rows_are _ _ c.in_ok-matches.matches c.in_ok-command.ensures c.in_ok-matches.ensures.ok.2 in
    let same = sym (ap (first_of (codes "floats")) (sym rows) ∙ first_of-rows_of (found_of c.in_ok-matches.matches) (codes "floats")) in
    c.in-Some-read_matches.ensures.floats ∙ ap is_set same

pub returns-in-Some-read_matches-clause-opaque : goal.returns-in-Some-read_matches-clause-opaque
returns-in-Some-read_matches-clause-opaque c =
    let rows = rows_are _ _ c.in_ok-matches.matches c.in_ok-command.ensures c.in_ok-matches.ensures.ok.2 in
    let same = sym (ap (first_of (codes "opaque-samples")) (sym rows) ∙ first_of-rows_of (found_of c.in_ok-matches.matches) (codes "opaque-samples")) in
    c.in-Some-read_matches.ensures.opaque ∙ ap is_set same

pub returns-in-Some-read_matches-clause-stop : goal.returns-in-Some-read_matches-clause-stop
returns-in-Some-read_matches-clause-stop c =
    let rows = rows_are _ _ c.in_ok-matches.matches c.in_ok-command.ensures c.in_ok-matches.ensures.ok.2 in
    let same = sym (ap (first_of (codes "stop")) (sym rows) ∙ first_of-rows_of (found_of c.in_ok-matches.matches) (codes "stop")) in
    c.in-Some-read_matches.ensures.stop ∙ ap is_set same

pub returns-in-Some-read_matches-clause-limit : goal.returns-in-Some-read_matches-clause-limit
returns-in-Some-read_matches-clause-limit c =
    let rows = rows_are _ _ c.in_ok-matches.matches c.in_ok-command.ensures c.in_ok-matches.ensures.ok.2 in
    let same = sym (ap (one_of (codes "max-bytes")) (sym rows) ∙ one_of-rows_of (found_of c.in_ok-matches.matches) (codes "max-bytes")) in
    subst (λ (o : Option (List ℕ)). ReadsLimit o c.in-Some-read_matches.read.max_bytes) same c.in-Some-read_matches.ensures.limit

pub returns-in-Some-read_matches-clause-session : goal.returns-in-Some-read_matches-clause-session
returns-in-Some-read_matches-clause-session c =
    let rows = rows_are _ _ c.in_ok-matches.matches c.in_ok-command.ensures c.in_ok-matches.ensures.ok.2 in
    let same = sym (ap (first_of (codes "session")) (sym rows) ∙ first_of-rows_of (found_of c.in_ok-matches.matches) (codes "session")) in
    c.in-Some-read_matches.ensures.session ∙ ap is_set same

pub returns-in-Some-read_matches-clause-save_at_end : goal.returns-in-Some-read_matches-clause-save_at_end
returns-in-Some-read_matches-clause-save_at_end c =
    let rows = rows_are _ _ c.in_ok-matches.matches c.in_ok-command.ensures c.in_ok-matches.ensures.ok.2 in
    let same = sym (ap (first_of (codes "save-at-end")) (sym rows) ∙ first_of-rows_of (found_of c.in_ok-matches.matches) (codes "save-at-end")) in
    c.in-Some-read_matches.ensures.save_at_end ∙ ap is_set same

pub returns-in-Some-read_matches-clause-quiet : goal.returns-in-Some-read_matches-clause-quiet
returns-in-Some-read_matches-clause-quiet c =
    let rows = rows_are _ _ c.in_ok-matches.matches c.in_ok-command.ensures c.in_ok-matches.ensures.ok.2 in
    let same = sym (ap (first_of (codes "quiet")) (sym rows) ∙ first_of-rows_of (found_of c.in_ok-matches.matches) (codes "quiet")) in
    c.in-Some-read_matches.ensures.quiet ∙ ap is_set same

pub returns-in-Some-read_matches-clause-recover : goal.returns-in-Some-read_matches-clause-recover
returns-in-Some-read_matches-clause-recover c =
    let rows = rows_are _ _ c.in_ok-matches.matches c.in_ok-command.ensures c.in_ok-matches.ensures.ok.2 in
    let same = sym (ap (first_of (codes "recover")) (sym rows) ∙ first_of-rows_of (found_of c.in_ok-matches.matches) (codes "recover")) in
    c.in-Some-read_matches.ensures.recover ∙ ap is_set same

pub returns-in-Some-read_matches-clause-order : goal.returns-in-Some-read_matches-clause-order
returns-in-Some-read_matches-clause-order c =
    let rows = rows_are _ _ c.in_ok-matches.matches c.in_ok-command.ensures c.in_ok-matches.ensures.ok.2 in
    let same = sym (ap (first_of (codes "order")) (sym rows) ∙ first_of-rows_of (found_of c.in_ok-matches.matches) (codes "order")) in
    subst (λ (o : Option (List ℕ)). ReadsOrder o c.in-Some-read_matches.read.order) same
    (subst (ReadsOrder (first_value (found_of c.in_ok-matches.matches) (codes "order"))) (sym c.in-Some-read_matches.ensures.order) c.in-Some.ensures.text)

pub returns-in-Some-read_matches-clause-samples : goal.returns-in-Some-read_matches-clause-samples
returns-in-Some-read_matches-clause-samples c =
    let rows = rows_are _ _ c.in_ok-matches.matches c.in_ok-command.ensures c.in_ok-matches.ensures.ok.2 in
    let same = sym (ap (one_of (codes "samples")) (sym rows) ∙ one_of-rows_of (found_of c.in_ok-matches.matches) (codes "samples")) in
    subst (λ (o : Option (List ℕ)). ReadsLimit o c.in-Some-read_matches.read.samples) same c.in-Some-read_matches.ensures.samples

pub returns-in-Some-read_matches-clause-format : goal.returns-in-Some-read_matches-clause-format
returns-in-Some-read_matches-clause-format c =
    let rows = rows_are _ _ c.in_ok-matches.matches c.in_ok-command.ensures c.in_ok-matches.ensures.ok.2 in
    let same = sym (ap (one_of (codes "format")) (sym rows) ∙ one_of-rows_of (found_of c.in_ok-matches.matches) (codes "format")) in
    subst (λ (o : Option (List ℕ)). ReadsLimit o c.in-Some-read_matches.read.format) same c.in-Some-read_matches.ensures.format

pub returns-in-Some-read_matches-clause-texts : goal.returns-in-Some-read_matches-clause-texts
returns-in-Some-read_matches-clause-texts c =
    let rows = rows_are _ _ c.in_ok-matches.matches c.in_ok-command.ensures c.in_ok-matches.ensures.ok.2 in
    let same = sym (ap (one_of (codes "texts")) (sym rows) ∙ one_of-rows_of (found_of c.in_ok-matches.matches) (codes "texts")) in
    subst (λ (o : Option (List ℕ)). ReadsCount o c.in-Some-read_matches.read.texts) same c.in-Some-read_matches.ensures.texts

pub returns-in-Some-read_matches-clause-look : goal.returns-in-Some-read_matches-clause-look
returns-in-Some-read_matches-clause-look c =
    let rows = rows_are _ _ c.in_ok-matches.matches c.in_ok-command.ensures c.in_ok-matches.ensures.ok.2 in
    let same = sym (ap (first_of (codes "look")) (sym rows) ∙ first_of-rows_of (found_of c.in_ok-matches.matches) (codes "look")) in
    c.in-Some-read_matches.ensures.look ∙ ap is_set same

pub returns-in_err-matches-clause-refusals : goal.returns-in_err-matches-clause-refusals
returns-in_err-matches-clause-refusals c =
    let words : List (List ℕ) = map string_bytes c.args.words.now in
    let e : Error = c.in_err-matches.field-0.0 in
    let parse : Result ArgMatches Error = Err e in
    passed_up (refusals words) c.from_residual-in_err-matches.result e c.from_residual-in_err-matches.ensures.1
    (refused_by_clap words e (by_our_faults _ words parse c.in_ok-command.ensures c.in_err-matches.ensures.kinds))

pub returns-in_default-clause-refusals : goal.returns-in_default-clause-refusals
returns-in_default-clause-refusals c =
    let words : List (List ℕ) = map string_bytes c.args.words.now in
    let rows = rows_are _ _ c.in_ok-matches.matches c.in_ok-command.ensures c.in_ok-matches.ensures.ok.2 in
    let same = ap (first_of (codes "order")) (sym rows) ∙ first_of-rows_of (found_of c.in_ok-matches.matches) (codes "order") in
    let parse : Result ArgMatches Error = Ok c.in_ok-matches.matches in
    let taken : fault_of segywb words ≡ [] = by_our_faults _ words parse c.in_ok-command.ensures c.in_ok-matches.ensures.kinds in
    refused_for_order words c.in_ok-error.field-0 taken (ap order_refusals same ∙ c.order.ensures.refused (ap (λ o. is_some o) c.in_default.is)) c.in_ok-error.ensures.kind

pub returns-in-Some-read_matches-clause-refusals : goal.returns-in-Some-read_matches-clause-refusals
returns-in-Some-read_matches-clause-refusals c =
    let words : List (List ℕ) = map string_bytes c.args.words.now in
    let rows = rows_are _ _ c.in_ok-matches.matches c.in_ok-command.ensures c.in_ok-matches.ensures.ok.2 in
    let same = sym (ap (first_of (codes "order")) (sym rows) ∙ first_of-rows_of (found_of c.in_ok-matches.matches) (codes "order")) in
    let parse : Result ArgMatches Error = Ok c.in_ok-matches.matches in
    let taken : fault_of segywb words ≡ [] = by_our_faults _ words parse c.in_ok-command.ensures c.in_ok-matches.ensures.kinds in
    nothing_refused words c.in-Some.order taken (subst (λ (o : Option (List ℕ)). ReadsOrder o c.in-Some.order) same c.in-Some.ensures.text)

-- what is read of the matches is always there
pub returns-clause-refusals : goal.returns-clause-refusals
returns-clause-refusals c =
    let parsed : IsParsedFrom c.in_ok-command.command c.in_ok-matches.matches = record {
      built = c.try_get_matches_from_mut.new.self;
      from = c.in_ok-matches.ensures.ok.0;
      parsed = c.in_ok-matches.ensures.ok.1;
    } in
    absurd (true≢false (sym (c.in-None.ensures.gives (found_readable c.in_ok-command.command c.in_ok-matches.matches c.in_ok-command.ensures parsed))))
