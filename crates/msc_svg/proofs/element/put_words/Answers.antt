use Rattle.msc_svg.proofs.Ranges.{lines_next}
use Rattle.msc_svg.specs.Elements.{words_at}
use Rattle.msc_svg.proofs.element.put_words.Goals as goal

pub loop-k-preserved : goal.loop-k-preserved
loop-k-preserved c =
    lines_next (words_at c.args.x c.args.y c.args.at.now) c.loop-k.k c.args.page.now.items _ _
    c.loop-k.invariant c.in_ok-put_words_at.ensures
