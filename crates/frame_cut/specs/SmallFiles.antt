-- Small files, worked by hand, for examples.
use Rattle.std.specs.Prelude.{ℕ, ◌-◌, true, false, List, [], ◌∷◌, ◌++◌, length, replicate, codes}
use Rattle.std.specs.List.{concat}
use Rattle.std.proofs.Common.{lit≤}
use Rattle.frame_cut.specs.declared.limits.Limits.{Limits}
use Rattle.frame_cut.specs.Splice.{splice}
use Rattle.frame_cut.specs.Volume.{Volume}
use Rattle.frame_cut.specs.declared.file_head.Head.{Head}
use Rattle.num_order.specs.declared.order.Order.TheVariants.{Big, Little}
use Rattle.sample_codes.specs.declared.format.Format.TheVariants.{Valued, Opaque}
use Rattle.sample_codes.specs.declared.value_format.ValueFormat.TheVariants.{Integer}
use Rattle.sample_codes.specs.declared.integer_format.IntegerFormat.TheVariants.{Signed16, Signed24}
use Rattle.sample_codes.specs.declared.opaque_format.OpaqueFormat.TheVariants.{IbmFloat32}

-- the bytes over those from this byte on, counted from 1
abbrev pub with_bytes_at : ℕ → List ℕ → List ℕ → List ℕ
with_bytes_at byte new bytes = splice bytes (byte - 1) (length new) new

-- the bytes over those of the binary header, from this byte of the file on
abbrev pub put_bin : ℕ → List ℕ → List ℕ → List ℕ
put_bin byte new bin = with_bytes_at (byte - 3200) new bin

abbrev pub zeros : ℕ → List ℕ
zeros n = replicate n 0

-- limits that no small file meets
abbrev pub wide_limits : Limits
wide_limits = record { bytes = 4294967296; traces = 4294967295; small = lit≤ tt }

-- ---- plain: revision 1.0, 16-bit samples, two a trace, three traces

-- 40 lines of an EBCDIC C and 79 EBCDIC blanks
abbrev pub text_plain : List ℕ
text_plain = concat (replicate 40 (0xC3 ∷ replicate 79 0x40))

abbrev pub bin_plain : List ℕ
bin_plain =
    put_bin 3217 (0x0F ∷ 0xA0 ∷ [])
    (put_bin 3221 (0 ∷ 2 ∷ [])
    (put_bin 3225 (0 ∷ 3 ∷ [])
    (put_bin 3501 (1 ∷ [])
    (put_bin 3503 (0 ∷ 1 ∷ []) (zeros 400)))))

-- a trace by its sequence number, offset, x, crossline (two bytes each) and samples
abbrev pub trace_of_plain : List ℕ → List ℕ → List ℕ → List ℕ → List ℕ → List ℕ
trace_of_plain sequence offset x crossline samples =
    with_bytes_at 7 sequence
    (with_bytes_at 39 offset
    (with_bytes_at 115 (0 ∷ 2 ∷ [])
    (with_bytes_at 117 (0x0F ∷ 0xA0 ∷ [])
    (with_bytes_at 183 x
    (with_bytes_at 187 (0x01 ∷ 0xF4 ∷ [])
    (with_bytes_at 191 (0 ∷ 10 ∷ [])
    (with_bytes_at 195 crossline
    (with_bytes_at 241 samples (zeros 244)))))))))

abbrev pub trace_plain_1 : List ℕ
trace_plain_1 = trace_of_plain (0 ∷ 1 ∷ []) (0 ∷ 100 ∷ []) (0x03 ∷ 0xE8 ∷ []) (0 ∷ 21 ∷ []) (0x00 ∷ 0x01 ∷ 0xFF ∷ 0xFE ∷ [])

abbrev pub trace_plain_2 : List ℕ
trace_plain_2 = trace_of_plain (0 ∷ 2 ∷ []) (0 ∷ 200 ∷ []) (0x07 ∷ 0xD0 ∷ []) (0 ∷ 22 ∷ []) (0x00 ∷ 0x03 ∷ 0x00 ∷ 0x04 ∷ [])

abbrev pub trace_plain_3 : List ℕ
trace_plain_3 = trace_of_plain (0 ∷ 3 ∷ []) (1 ∷ 44 ∷ []) (0x0B ∷ 0xB8 ∷ []) (0 ∷ 23 ∷ []) (0xFF ∷ 0xFB ∷ 0x00 ∷ 0x06 ∷ [])

abbrev pub file_plain : List ℕ
file_plain = text_plain ++ bin_plain ++ trace_plain_1 ++ trace_plain_2 ++ trace_plain_3

-- ---- extended: revision 2.0, one trace with one header extension

abbrev pub bin_extended : List ℕ
bin_extended =
    put_bin 3217 (0x0F ∷ 0xA0 ∷ [])
    (put_bin 3221 (0 ∷ 2 ∷ [])
    (put_bin 3225 (0 ∷ 3 ∷ [])
    (put_bin 3297 (1 ∷ 2 ∷ 3 ∷ 4 ∷ [])
    (put_bin 3501 (2 ∷ [])
    (put_bin 3503 (0 ∷ 1 ∷ [])
    (put_bin 3507 (0 ∷ 0 ∷ 0 ∷ 1 ∷ []) (zeros 400)))))))

abbrev pub trace_extended : List ℕ
trace_extended = with_bytes_at 8 (1 ∷ []) (with_bytes_at 481 (0 ∷ 1 ∷ 0 ∷ 2 ∷ []) (zeros 484))

abbrev pub file_extended : List ℕ
file_extended = text_plain ++ bin_extended ++ trace_extended

-- ---- counted: extended, with up to three header extensions a trace, of which its trace has two

abbrev pub bin_counted : List ℕ
bin_counted = put_bin 3503 (0 ∷ 0 ∷ []) (put_bin 3507 (0 ∷ 0 ∷ 0 ∷ 3 ∷ []) bin_extended)

abbrev pub trace_counted : List ℕ
trace_counted = with_bytes_at 8 (1 ∷ []) (with_bytes_at 115 (0 ∷ 2 ∷ []) (with_bytes_at 397 (0 ∷ 2 ∷ []) (with_bytes_at 721 (0 ∷ 1 ∷ 0 ∷ 2 ∷ []) (zeros 724))))

abbrev pub file_counted : List ℕ
file_counted = text_plain ++ bin_counted ++ trace_counted

-- ---- trailed: extended, with two data trailer records

abbrev pub bin_trailed : List ℕ
bin_trailed = put_bin 3529 (0 ∷ 0 ∷ 0 ∷ 2 ∷ []) bin_extended

abbrev pub tail_trailed : List (List ℕ)
tail_trailed = (codes "((Acme: Tail))" ++ replicate 3186 0x20) ∷ replicate 3200 0x20 ∷ []

abbrev pub file_trailed : List ℕ
file_trailed = text_plain ++ bin_trailed ++ trace_extended ++ concat tail_trailed

-- ---- little: little-endian, 24-bit samples, one trace

abbrev pub bin_little : List ℕ
bin_little =
    put_bin 3221 (2 ∷ 0 ∷ [])
    (put_bin 3225 (7 ∷ 0 ∷ [])
    (put_bin 3297 (4 ∷ 3 ∷ 2 ∷ 1 ∷ [])
    (put_bin 3501 (2 ∷ [])
    (put_bin 3503 (1 ∷ 0 ∷ []) (zeros 400)))))

abbrev pub trace_little : List ℕ
trace_little = zeros 240 ++ 0xFF ∷ 0xFF ∷ 0xFF ∷ 0x00 ∷ 0x00 ∷ 0x80 ∷ []

abbrev pub file_little : List ℕ
file_little = replicate 3200 0x40 ++ bin_little ++ trace_little

-- ---- texted: plain, with extended textual headers that end by themselves

abbrev pub bin_texted : List ℕ
bin_texted = put_bin 3505 (0xFF ∷ 0xFF ∷ []) bin_plain

abbrev pub blocks_texted : List (List ℕ)
blocks_texted = (codes "((Acme: Note))" ++ replicate 3186 0x20) ∷ (codes "((Seg:  ENDtext))" ++ replicate 3183 0x20) ∷ []

abbrev pub file_texted : List ℕ
file_texted = text_plain ++ bin_texted ++ concat blocks_texted ++ trace_plain_1 ++ trace_plain_2 ++ trace_plain_3

-- ---- untold: revision 0, little-endian without a byte-order constant, IBM floats, one a trace, one trace

abbrev pub bin_untold : List ℕ
bin_untold = put_bin 3221 (1 ∷ 0 ∷ []) (put_bin 3225 (1 ∷ 0 ∷ []) (zeros 400))

-- its sample is 118.625, with the bytes of the number turned round
abbrev pub trace_untold : List ℕ
trace_untold = zeros 240 ++ 0x00 ∷ 0xA0 ∷ 0x76 ∷ 0x42 ∷ []

abbrev pub file_untold : List ℕ
file_untold = replicate 3200 0x40 ++ bin_untold ++ trace_untold

-- ---- what their headers say, and their parts

abbrev pub head_plain : Head
head_plain = record { order = Big; major = 1; minor = 0; format = Valued (Integer Signed16); samples = 2; fixed = true; extensions = 0; blocks = 0; trailer = 0; traces_at = 3600 }

abbrev pub head_extended : Head
head_extended = record { order = Big; major = 2; minor = 0; format = Valued (Integer Signed16); samples = 2; fixed = true; extensions = 1; blocks = 0; trailer = 0; traces_at = 3600 }

abbrev pub head_counted : Head
head_counted = record head_extended { fixed = false; extensions = 3 }

abbrev pub head_little : Head
head_little = record head_plain { order = Little; major = 2; format = Valued (Integer Signed24) }

abbrev pub head_untold : Head
head_untold = record { order = Little; major = 0; minor = 0; format = Opaque IbmFloat32; samples = 1; fixed = false; extensions = 0; blocks = 0; trailer = 0; traces_at = 3600 }

abbrev pub volume_plain : Volume
volume_plain = record { head = head_plain; text = text_plain; bin = bin_plain; blocks = []; traces = trace_plain_1 ∷ trace_plain_2 ∷ trace_plain_3 ∷ []; tail = []; trailer = [] }

abbrev pub volume_extended : Volume
volume_extended = record { head = head_extended; text = text_plain; bin = bin_extended; blocks = []; traces = trace_extended ∷ []; tail = []; trailer = [] }

abbrev pub volume_counted : Volume
volume_counted = record { head = head_counted; text = text_plain; bin = bin_counted; blocks = []; traces = trace_counted ∷ []; tail = []; trailer = [] }

abbrev pub volume_trailed : Volume
volume_trailed = record { head = record head_extended { trailer = 2 }; text = text_plain; bin = bin_trailed; blocks = []; traces = trace_extended ∷ []; tail = []; trailer = tail_trailed }
