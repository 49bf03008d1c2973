use Rattle.msc_svg.proofs.PlainSvg.{svg_plain}
use Rattle.msc_svg.proofs.laws.plain_bytes.Goals as goal

pub returns : goal.returns
returns c = svg_plain
