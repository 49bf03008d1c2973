use Rattle.std.proofs.Common.{map, sym, ap, ◌∙◌}
use Rattle.std.proofs.lemmas.List.{drop-map}
use Rattle.msc_mermaid.specs.Parts.{stretch}
use Rattle.msc_markdown.specs.Markdowns.{first_bytes}
use Rattle.msc_markdown.proofs.markdown.bytes_behind.Goals as goal

pub returns : goal.returns
returns c =
    c.first_bytes.ensures ∙ ap (λ x. first_bytes (map stretch x)) c.parts_behind.ensures
    ∙ ap first_bytes (sym (drop-map stretch c.args.count c.args.parts.now))
