use Rattle.std.proofs.Common.{◌≡◌, rules, sym}
use Rattle.std.proofs.lemmas.Result.{IfOk-weaker}
use Rattle.std.proofs.lemmas.Str.{chars_from_encodes, IsUtf8-string_bytes}
use Rattle.std.specs.Prelude.{encode_utf8_all}
use Rattle.std.specs.Str.{chars}
use Rattle.std.specs.String.{string_bytes}
use Rattle.msc_spoken.proofs.text.text_of.Goals as goal

pub returns-clause-characters : goal.returns-clause-characters
returns-clause-characters c =
    let cs = c.args.characters.now in
    IfOk-weaker c.collect.result (λ text. string_bytes text ≡ encode_utf8_all cs) (λ text. chars (string_bytes text) ≡ cs)
    (λ text written. sym (chars_from_encodes cs (string_bytes text) (IsUtf8-string_bytes text) (sym written)))
    (search rules)
