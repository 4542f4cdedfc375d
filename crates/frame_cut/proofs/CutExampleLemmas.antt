-- Cuts of small files, worked by hand.
use Rattle.std.proofs.Common.{inl, inr, ◌≡◌, [], ◌∷◌, ◌++◌, length, refl, lit≤, lit<}
use Rattle.std.proofs.lemmas.List.Elements.{All-nil, All-from_recursion}
use Rattle.frame_cut.specs.declared.load_fault.LoadFault.TheVariants.{Truncated}
use Rattle.frame_cut.specs.Readings.{as_tailed, as_written}
use Rattle.frame_cut.specs.SmallFiles.{wide_limits, head_plain, head_counted, trace_plain_1, trace_plain_2, trace_plain_3, trace_counted, file_plain, file_counted, volume_plain, volume_counted}
use Rattle.frame_cut.specs.Heads.{head_of}
use Rattle.frame_cut.specs.Cuts.{IsTrace, AreBlocks, IsCut, IsStuck}

no_blocks : AreBlocks 0 []
no_blocks = record { count = refl; whole = All-nil (λ b. length b ≡ 3200) }

is_plain_1 : IsTrace head_plain trace_plain_1
is_plain_1 = record { whole = lit≤ tt; exact = refl }

is_plain_2 : IsTrace head_plain trace_plain_2
is_plain_2 = record { whole = lit≤ tt; exact = refl }

is_plain_3 : IsTrace head_plain trace_plain_3
is_plain_3 = record { whole = lit≤ tt; exact = refl }

is_counted : IsTrace head_counted trace_counted
is_counted = record { whole = lit≤ tt; exact = refl }

-- the trace of `counted` has two of three header extensions, and its own number of samples
pub cut-counted : IsCut file_counted as_written wide_limits volume_counted
unfolding head_of
cut-counted = record {
  joined = refl;
  parts = record {
    head = refl;
    text = refl;
    bin = refl;
    blocks = no_blocks;
    traces = All-from_recursion (λ t. IsTrace head_counted t) volume_counted.traces (is_counted, tt);
    few = lit≤ tt;
    tail = inl refl;
    trailer = no_blocks;
  };
}

-- one more byte is a torn trace 4
pub stuck-plain : IsStuck (file_plain ++ 7 ∷ []) as_written wide_limits volume_plain (7 ∷ []) (Truncated 4)
unfolding head_of
stuck-plain = record {
  joined = refl;
  parts = record {
    head = refl;
    text = refl;
    bin = refl;
    blocks = no_blocks;
    traces = All-from_recursion (λ t. IsTrace head_plain t) volume_plain.traces (is_plain_1, (is_plain_2, (is_plain_3, tt)));
    few = lit≤ tt;
    tail = inl refl;
    trailer = no_blocks;
  };
  untailed = refl;
  unkept = refl;
  some = lit< tt;
  refused = refl;
}

-- and under a reading that keeps a tail a byte of no trace
pub cut-tailed : IsCut (file_plain ++ 7 ∷ []) as_tailed wide_limits (record volume_plain { tail = 7 ∷ [] })
unfolding head_of
cut-tailed = record {
  joined = refl;
  parts = record {
    head = refl;
    text = refl;
    bin = refl;
    blocks = no_blocks;
    traces = All-from_recursion (λ t. IsTrace head_plain t) volume_plain.traces (is_plain_1, (is_plain_2, (is_plain_3, tt)));
    few = lit≤ tt;
    tail = inr (refl, refl);
    trailer = no_blocks;
  };
}
