use Rattle.std.proofs.Common.{◌≡◌, ◌⊎◌, ℕ, List, rules, subst, sym}
use Rattle.std.proofs.lemmas.Result.{IfErr-weaker, IfOk-weaker, err_from_is_err_and}
use Rattle.frame_cut.specs.declared.load_fault.LoadFault.{LoadFault}
use Rattle.frame_cut.specs.declared.load_fault.LoadFault.TheVariants.{OutOfMemory}
use Rattle.frame_cut.specs.Cuts.{IsCut, IsRefused}
use Rattle.frame_cut.specs.Volume.{bytes_of}
use Rattle.volume_loading.specs.LoadedVolume.{LoadedVolume}
use Rattle.volume_loading.specs.Loading.{IsLoadFault, TakesWithin}
use Rattle.volume_loading.proofs.FaultLemmas.{kept_failures, load_fault, read_fault}
use Rattle.volume_loading.proofs.loading.Loading.load.Goals as goal

pub returns-in_err-bytes-clause-refused : goal.returns-in_err-bytes-clause-refused
returns-in_err-bytes-clause-refused g c =
    let p = err_from_is_err_and c.from_residual.result c.from_residual.ensures.1 in
    rw p.1 (rw (← p.2) at (read_fault (g.R.Read.remaining c.args.reader.now.inner) c.args.reading c.args.limits c.in_err-bytes.field-0.0 c.in_err-bytes.ensures.refused))

pub returns-clause-refused : goal.returns-clause-refused
returns-clause-refused g c =
    IfErr-weaker c.from_bytes.result
    (λ (fault : LoadFault). (fault ≡ OutOfMemory) ⊎ IsRefused c.in_ok-bytes.bytes.items c.args.reading c.args.limits fault)
    (λ (fault : LoadFault). IsLoadFault (g.R.Read.remaining c.args.reader.now.inner) c.args.reading c.args.limits fault)
    (λ fault h. load_fault (g.R.Read.remaining c.args.reader.now.inner) (g.R.Read.remaining c.read_file.new.reader.inner) c.in_ok-bytes.bytes.items c.args.reading c.args.limits fault c.in_ok-bytes.ensures.all.taken c.in_ok-bytes.ensures.all.end h)
    c.from_bytes.ensures.refused

pub returns-clause-failures : goal.returns-clause-failures
returns-clause-failures g c =
    kept_failures c.from_bytes.result c.args.reader.now.failures c.read_file.new.reader.failures c.in_ok-bytes.bytes.items c.args.reading c.args.limits c.in_ok-bytes.ensures.failures c.from_bytes.ensures.refused

pub returns-clause-cut : goal.returns-clause-cut
returns-clause-cut g c =
    IfOk-weaker c.from_bytes.result
    (λ (l : LoadedVolume g.row.T.Denot). IsCut c.in_ok-bytes.bytes.items c.args.reading c.args.limits l.volume)
    (λ (l : LoadedVolume g.row.T.Denot). IsCut (bytes_of l.volume) c.args.reading c.args.limits l.volume)
    (λ l cut. subst (λ (file : List ℕ). IsCut file c.args.reading c.args.limits l.volume) (sym cut.joined) cut)
    c.from_bytes.ensures.cut

pub returns-clause-read : goal.returns-clause-read
returns-clause-read g c =
    IfErr-weaker c.from_bytes.result
    (λ (fault : LoadFault). (fault ≡ OutOfMemory) ⊎ IsRefused c.in_ok-bytes.bytes.items c.args.reading c.args.limits fault)
    (λ (_ : LoadFault). TakesWithin (g.R.Read.remaining c.args.reader.now.inner) (g.R.Read.remaining c.read_file.new.reader.inner) c.args.limits)
    (λ _ _. record { bytes = c.in_ok-bytes.bytes.items; taken = c.in_ok-bytes.ensures.all.taken; no_fewer = search rules; no_more = search rules })
    c.from_bytes.ensures.refused
