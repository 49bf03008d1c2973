use Rattle.std.proofs.Common.{List, ℕ, ◌++◌, codes, ap, ◌∙◌}
use Rattle.msc_report.specs.Spans.{named_text}
use Rattle.msc_report.specs.Verdicts.{event_text}
use Rattle.msc_report.proofs.MadeTexts.{joined, part_put, text_put}
use Rattle.msc_report.proofs.event_texts.print_parts.Goals as goal

pub returns : goal.returns
returns c =
    let d = c.args.chart.now in
    let event = event_text d c.args.e in
    let before = c.print_place.new.page.bytes.items in
    let told = c.print_event.new.page.bytes.items in
    let named = c.print_owner.new.page.bytes.items in
    let from = c.len-from.ensures ∙ c.print_place.new.page.bytes.ok.0 in
    let next = c.len-next.ensures ∙ c.print_event.new.page.bytes.ok.0 in
    let rest = joined told _ named (codes "; ") (named_text d c.args.e) c.in_ok-extend_from_slice-3.ensures.items c.in_ok-print_owner.ensures in
    let copied = c.in_ok-extend_from_within.ensures.items
    ∙ ap (λ (l : List ℕ). named ++ l) (part_put before event told _ named _ _ c.in_ok-print_event.ensures rest from next) in
    text_put d c.args.e c.args.page.now.bytes.items _ _ _ _ _ _ _ _ _ _
    c.in_ok-extend_from_slice.ensures.items c.in_ok-print_spaced.ensures c.in_ok-extend_from_slice-2.ensures.items
    c.in_ok-print_place.ensures c.in_ok-print_event.ensures c.in_ok-extend_from_slice-3.ensures.items
    c.in_ok-print_owner.ensures copied c.in_ok-extend_from_slice-4.ensures.items
    (c.len-opening.ensures ∙ c.args.page.now.bytes.ok.0)
    (c.len-number.ensures ∙ c.extend_from_slice.new.self.ok.0)
    (c.len-colon.ensures ∙ c.print_spaced.new.page.bytes.ok.0)
    (c.len-first.ensures ∙ c.extend_from_slice-2.new.self.ok.0)
    next
    (c.len-placed.ensures ∙ c.extend_from_slice-3.new.self.ok.0)
    (c.len-second.ensures ∙ c.print_owner.new.page.bytes.ok.0)
    (c.len-stop.ensures ∙ c.extend_from_within.new.self.ok.0)
    (c.len.ensures ∙ c.extend_from_slice-4.new.self.ok.0)
