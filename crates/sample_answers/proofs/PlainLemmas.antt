-- A sample of a trace that no edit has touched.
use Rattle.std.proofs.Common.{◌≡◌, ◌<◌, ◌+◌, ◌-◌, ◌*◌, ℕ, ℤ, Bool, true, cond, List, take, drop, Option, Some, None, ap, sym, ◌∙◌, arith}
use Rattle.std.specs.Prelude.{option_map, slice_range}
use Rattle.std.proofs.lemmas.Bool.{lt-ltb}
use Rattle.sample_codes.specs.declared.value_format.ValueFormat.{ValueFormat}
use Rattle.sample_codes.specs.Formats.{sample_value, value_width, values, width}
use Rattle.frame_cut.specs.declared.file_head.Head.{Head}
use Rattle.frame_cut.specs.Frames.{sample_count}
use Rattle.trace_view.specs.Values.{sample_of, bytes_of_sample}
use Rattle.sample_answers.specs.Plain.{ArePlain}
use Rattle.sample_answers.specs.declared.plain.PlainSamples.{PlainSamples}

-- where a trace has sample k, and its samples have values, the sample is that of its bytes
pub sample_there : (h : Head) (t : List ℕ) (f : ValueFormat) (k : ℕ) → k < sample_count h t → values h.format ≡ Some f
    → sample_of h t k ≡ Some (sample_value h.order f (bytes_of_sample h t k))
sample_there h t f k less valued =
    ap (λ (b : Bool). cond b (option_map (λ g. sample_value h.order g (bytes_of_sample h t k)) (values h.format)) None) (lt-ltb k (sample_count h t) less)
    ∙ ap (λ (o : Option ValueFormat). option_map (λ g. sample_value h.order g (bytes_of_sample h t k)) o) valued

-- .. and where they are plain, it is what is read at its place
pub plain_sample : (p : PlainSamples) (h : Head) (t : List ℕ) → ArePlain p h t → (k size at end : ℕ) (bytes : List ℕ) (x : ℤ) → k < p.count → size ≡ value_width p.format
    → at ≡ size * k → end ≡ at + size → bytes ≡ slice_range p.bytes.now at end → x ≡ sample_value p.order p.format bytes → sample_of h t k ≡ Some x
plain_sample p h t are k size at end bytes x below wide begins ends taken read =
    let w : size ≡ width h.format = wide ∙ are.width in
    let less : k < sample_count h t = omega (arith, below, are.count) in
    let long : end - at ≡ width h.format = omega (arith, ends, w) in
    let starts : at ≡ width h.format * k = begins ∙ ap (λ n. n * k) w in
    let there : bytes ≡ bytes_of_sample h t k =
    taken
    ∙ ap (λ n. take n (drop at p.bytes.now)) long
    ∙ ap (λ a. take (width h.format) (drop a p.bytes.now)) starts
    ∙ ap (λ xs. take (width h.format) (drop (width h.format * k) xs)) are.bytes in
    let value : x ≡ sample_value h.order p.format (bytes_of_sample h t k) =
    read ∙ ap (λ o. sample_value o p.format bytes) are.order ∙ ap (λ bs. sample_value h.order p.format bs) there in
    sample_there h t p.format k less are.format ∙ ap Some (sym value)
