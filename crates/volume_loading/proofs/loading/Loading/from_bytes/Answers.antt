use Rattle.std.proofs.Common.{◌≡◌, ◌∙◌, ◌<◌, ◌^◌, ℕ, arith, refl, sym, ap, inl}
use Rattle.std.proofs.lemmas.Result.{err_from_is_err_and}
use Rattle.volume_loading.proofs.LoadingLemmas.{cut_again, just_cut, loaded_again}
use Rattle.edit_overlay.specs.Standings.{is_on_disk, is_sure}
use Rattle.volume_loading.proofs.loading.Loading.from_bytes.Goals as goal

few : (traces n : ℕ) → n ≡ traces → n < 2 ^ 32 → traces < 2 ^ 32
few traces n is small = omega (arith, is, small)

pub returns-in_err-cut-clause-refused : goal.returns-in_err-cut-clause-refused
returns-in_err-cut-clause-refused g c =
    let p = err_from_is_err_and c.from_residual.result c.from_residual.ensures.1 in
    rw p.1 (rw (← p.2, c.as_slice.ensures.value) at c.in_err-cut.ensures.refused)

pub invariant_of-result : goal.invariant_of-result
invariant_of-result g c =
    just_cut _ c.args.bytes.items c.args.reading c.args.limits c.in_ok-cut.cut.0 c.in_ok-cut.cut.1 c.in_ok-cut.cut.2 c.in-Ok.ensures.standing c.in-Ok.ensures.front c.in-Ok.ensures.back (rw c.as_slice.ensures.value at c.in_ok-cut.ensures.ok) (rw c.as_slice.ensures.value at c.in_ok-cut.ensures.laid) (few c.args.limits.traces c.traces-most.result c.traces-most.ensures c.traces-most.type_inv)
    c.in-Ok.ensures.loaded (c.in-Ok.ensures.head ∙ c.head-head.ensures) c.into_extents-extents.ensures c.tail-tail.ensures c.in-Ok.ensures.traces

pub returns-in_default-clause-refused : goal.returns-in_default-clause-refused
returns-in_default-clause-refused g c = inl refl

pub returns-clause-cut : goal.returns-clause-cut
returns-clause-cut g c =
    cut_again c.args.bytes.items c.args.reading c.args.limits _ _ _ _ c.in_ok-cut.cut.0 c.in_ok-cut.cut.1 c.in_ok-cut.cut.2 c.in-Ok.ensures.loaded (c.in-Ok.ensures.head ∙ c.head-head.ensures) c.into_extents-extents.ensures c.tail-tail.ensures (rw c.as_slice.ensures.value at c.in_ok-cut.ensures.ok)

pub returns-clause-in_memory : goal.returns-clause-in_memory
returns-clause-in_memory g c = ap is_on_disk c.in-Ok.ensures.standing

pub returns-clause-reads : goal.returns-clause-reads
returns-clause-reads g c = ap is_sure c.in-Ok.ensures.standing

pub returns-clause-loaded : goal.returns-clause-loaded
returns-clause-loaded g c =
    loaded_again c.args.bytes.items c.args.reading c.args.limits _ _ _ _ c.in_ok-cut.cut.0 c.in_ok-cut.cut.1 c.in_ok-cut.cut.2 c.in-Ok.ensures.loaded (c.in-Ok.ensures.head ∙ c.head-head.ensures) c.into_extents-extents.ensures c.tail-tail.ensures (rw c.as_slice.ensures.value at c.in_ok-cut.ensures.ok)
