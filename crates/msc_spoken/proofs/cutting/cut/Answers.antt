use Rattle.std.proofs.Common.{◌≡◌, rules, ap, ◌∙◌}
use Rattle.std.proofs.lemmas.Result.{IfOk-weaker}
use Rattle.std.proofs.lemmas.Str.{chars_from_encodes}
use Rattle.std.specs.Prelude.{encode_utf8_all}
use Rattle.std.specs.Str.{chars}
use Rattle.std.specs.String.{string_bytes}
use Rattle.msc_spoken.specs.Cutting.{cut_text}
use Rattle.msc_spoken.proofs.cutting.cut.Goals as goal

pub returns-clause-bytes : goal.returns-clause-bytes
returns-clause-bytes c =
    let cs = chars c.args.text.now in
    let items : c.as_slice.result.now ≡ cs = search (rules, chars_from_encodes) in
    let same : c.as_slice-2.result.now ≡ cut_text cs = c.as_slice-2.ensures.value ∙ c.in_ok-cut.ensures ∙ ap cut_text items in
    IfOk-weaker c.text_of.result (λ t. string_bytes t ≡ encode_utf8_all c.as_slice-2.result.now) (λ t. string_bytes t ≡ encode_utf8_all (cut_text cs)) (λ t is. is ∙ ap encode_utf8_all same) c.text_of.ensures.bytes

pub returns-clause-characters : goal.returns-clause-characters
returns-clause-characters c =
    let cs = chars c.args.text.now in
    let items : c.as_slice.result.now ≡ cs = search (rules, chars_from_encodes) in
    let same : c.as_slice-2.result.now ≡ cut_text cs = c.as_slice-2.ensures.value ∙ c.in_ok-cut.ensures ∙ ap cut_text items in
    IfOk-weaker c.text_of.result (λ t. chars (string_bytes t) ≡ c.as_slice-2.result.now) (λ t. chars (string_bytes t) ≡ cut_text cs) (λ t is. is ∙ same) c.text_of.ensures.characters
