use Rattle.std.proofs.Common.{◌++◌, ap, ◌∙◌, arith}
use Rattle.std.proofs.lemmas.List.Elements.{All-from_get_or}
use Rattle.percent_encoding.specs.Iter.{encoded_text}
use Rattle.percent_encoding.proofs.PercentLemmas.{IsByte}
use Rattle.msc_record.proofs.UriLemmas.{same_name}
use Rattle.msc_record.proofs.uri.escaped_name.Goals as goal

pub returns : goal.returns
returns c =
    let name = c.args.name.now in
    let small = All-from_get_or IsByte name 0 (λ i within. omega (arith, c.type_inv.name i)) in
    c.in_ok-append_to.ensures.ok
    ∙ ap (λ front. front ++ encoded_text c.percent_encode.result) c.new-uri.ensures.bytes
    ∙ c.percent_encode.ensures.text
    ∙ same_name name small
