-- What is written of a reading, and whether the file says the same by itself then, worked by hand.
use Rattle.std.specs.Prelude.{◌≡◌, [], ◌∷◌, true, false, Some, negsuc, refl}
use Rattle.frame_cut.specs.Readings.{as_written, as_fixed, as_samples}
use Rattle.frame_cut.specs.SmallFiles.{put_bin, head_plain, head_extended, bin_plain, bin_extended, volume_plain}
use Rattle.declared_frame.specs.Written.{can_declare, declared}

-- in revision 1 the number of samples stands in bytes 3221-3222, and the flag in 3503-3504 is set
pub three_samples : declared (as_samples 3) head_plain bin_plain ≡ put_bin 3221 (0 ∷ 3 ∷ []) bin_plain
three_samples = refl

-- revision 0 has no flag
pub three_samples-0 : declared (as_samples 3) (record head_plain { major = 0 }) (put_bin 3503 (0 ∷ 0 ∷ []) bin_plain) ≡ put_bin 3503 (0 ∷ 0 ∷ []) (put_bin 3221 (0 ∷ 3 ∷ []) bin_plain)
three_samples-0 = refl

-- in revision 2 a number above 65535 stands in bytes 3269-3272, and 0 in the other two
pub many_samples : declared (as_samples 65536) head_extended bin_extended ≡ put_bin 3269 (0 ∷ 1 ∷ 0 ∷ 0 ∷ []) (put_bin 3503 (0 ∷ 1 ∷ []) (put_bin 3221 (0 ∷ 0 ∷ []) bin_extended))
many_samples = refl

-- the code of the format, and a number of extended textual headers that ends by itself
pub format_and_texts : declared (record as_written { format = Some 5; texts = Some (negsuc 0) }) head_plain bin_plain ≡ put_bin 3505 (255 ∷ 255 ∷ []) (put_bin 3225 (0 ∷ 5 ∷ []) bin_plain)
format_and_texts = refl

-- a revision before 2 has no place for 65536 samples
pub too_many : can_declare (as_samples 65536) volume_plain ≡ false
too_many = refl

-- revision 0 has no flag: it says so where each trace has the number
pub revision_0-same : can_declare as_fixed (record volume_plain { head = record head_plain { major = 0 } }) ≡ true
revision_0-same = refl

pub revision_0-other : can_declare (as_samples 3) (record volume_plain { head = record head_plain { major = 0; samples = 3 } }) ≡ false
revision_0-other = refl
