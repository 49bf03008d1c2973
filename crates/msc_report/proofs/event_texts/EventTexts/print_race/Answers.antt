use Rattle.std.proofs.Common.{◌∙◌}
use Rattle.std.proofs.lemmas.Result.{on_ok_weaker}
use Rattle.msc_report.proofs.MadeTexts.{race_put}
use Rattle.msc_report.proofs.event_texts.EventTexts.print_race.Goals as goal

pub returns-then-are_short : goal.returns-then-are_short
returns-then-are_short c d texts =
    on_ok_weaker c.print_blocks.result
    (λ put. put ∙ race_put d c.self.inside.bytes.items _ c.self.inside.spans.items c.args.self.now c.args.e c.args.f _ _ c.args.page.now.items c.self.view_is texts c.requires.e_known c.requires.f_known c.as_slice-then-are_short.ensures.value c.index.ensures c.index-2.ensures)
    c.print_blocks.ensures

pub returns-else-are_short : goal.returns-else-are_short
returns-else-are_short c d texts =
    on_ok_weaker c.print_slices.result
    (λ put. put ∙ race_put d c.self.inside.bytes.items _ c.self.inside.spans.items c.args.self.now c.args.e c.args.f _ _ c.args.page.now.items c.self.view_is texts c.requires.e_known c.requires.f_known c.as_slice-else-are_short.ensures.value c.index.ensures c.index-2.ensures)
    c.print_slices.ensures
