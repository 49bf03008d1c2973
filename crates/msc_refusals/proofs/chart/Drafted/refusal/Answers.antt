use Rattle.std.proofs.Common.{ℕ, ◌-◌, List, ◌++◌, length, take, ap, ◌∙◌, subst}
use Rattle.std.proofs.lemmas.List.{append_assoc}
use Rattle.msc_chart.specs.declared.fault.ChartFault.{ChartFault}
use Rattle.msc_refusals.specs.Answers.{closing_text}
use Rattle.msc_refusals.specs.Charts.{most, AreBlocks}
use Rattle.msc_refusals.proofs.chart.Drafted.refusal.Goals as goal

pub returns : goal.returns
returns c =
    let r = c.args.lines.now.refused in
    let first = c.in_ok-bytes.bytes.items in
    let more = c.in_ok-more.more.items in
    let both = c.in_ok-extend_from_slice.ensures.items ∙ ap (λ (l : List ℕ). first ++ l) c.as_slice.ensures.value in record {
      faults = c.in_ok-further.further.items;
      are_further = c.in_ok-further.ensures;
      first = first;
      first_is = c.in_ok-bytes.ensures;
      more = more;
      more_are = subst (λ (fs : List ChartFault). AreBlocks r c.args.self.now.draft.now fs more)
          (c.front-shown.ensures ∙ ap (take most) c.as_slice-others.ensures.value) c.in_ok-more.ensures;
      printed_is = c.in_ok-close.ensures ∙ ap (λ (l : List ℕ). l ++ closing_text r c.saturating_sub-left.result) both
          ∙ append_assoc first more (closing_text r c.saturating_sub-left.result)
          ∙ ap (λ (n : ℕ). first ++ (more ++ closing_text r n)) (c.saturating_sub-left.ensures ∙ ap (λ (n : ℕ). n - most) (ap length c.as_slice-others.ensures.value));
    }
