-- How a file is read.
use Rattle.std.specs.Prelude.{ℕ, true, false, None, Some}
use Rattle.frame_cut.specs.declared.reading.Reading.{Reading}

-- as the file says, and integer samples alone
abbrev pub as_written : Reading
as_written = record { fixed = false; opaque = false; floats = false; order = None; samples = None; format = None; texts = None; tail = false }

-- with the binary header's number of samples in every trace
abbrev pub as_fixed : Reading
as_fixed = record as_written { fixed = true }

-- with the files whose samples have no value here
abbrev pub as_opaque : Reading
as_opaque = record as_written { opaque = true }

-- with the values of floats
abbrev pub as_floats : Reading
as_floats = record as_written { floats = true }

-- with what is less than a trace, behind the last one, as bytes of no trace
abbrev pub as_tailed : Reading
as_tailed = record as_written { tail = true }

-- with this number of samples in every trace
abbrev pub as_samples : ℕ → Reading
as_samples n = record as_written { samples = Some n }
