use Rattle.std.proofs.Common.{nat_le, length, sym, ap, ◌∙◌}
use Rattle.std.proofs.lemmas.Bool.{leb-true}
use Rattle.msc_lexer.specs.declared.TheConstants.{TEXT_LIMIT}
use Rattle.msc_parser.specs.Drafts.{statements_of}
use Rattle.msc_import.proofs.NamedLemmas.{draft_named}
use Rattle.msc_import.proofs.drawing.few_events.Goals as goal

pub new-requires-2 : goal.new-requires-2
new-requires-2 c =
    let few = sym (ap (λ ss. nat_le (length (statements_of ss)) TEXT_LIMIT) c.as_slice.ensures.value) ∙ sym c.is_few.ensures ∙ c.if-not-is_few.false in
    draft_named _ _ _ _ c.args.sections.items c.in_ok-name.ensures (c.from_vec-header.ensures ∙ c.new.ensures.items) c.from_vec.ensures c.requires (leb-true _ _ few)
