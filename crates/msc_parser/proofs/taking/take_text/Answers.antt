use Rattle.std.proofs.Common.{◌∙◌}
use Rattle.msc_parser.proofs.Actions.{took_text}
use Rattle.msc_parser.proofs.taking.take_text.Goals as goal

pub returns : goal.returns
returns c =
    took_text c.args.text.now c.args.tokens.now _ _ c.requires (c.stands.ensures.0 c.if-not-stands.false) (c.from_vec.ensures ∙ c.in_ok-bytes.ensures.value)
