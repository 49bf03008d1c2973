use Rattle.std.proofs.Common.{◌≡◌, ◌-◌, List, ◌++◌, length, map, replicate, ap, ◌∙◌, arith}
use Rattle.msc_wording.specs.Scenarios.{choices_text}
use Rattle.msc_wording.specs.declared.scenario.SpokenChoice.{SpokenChoice}
use Rattle.msc_shown_diagram.specs.Choices.{first_said, no_choice, plain_choice, plain_lent, PlainChoice}
use Rattle.msc_shown_diagram.proofs.ChoiceLemmas.{all_counted, first_named}
use Rattle.msc_shown_diagram.proofs.choices.choices_said.Goals as goal

pub returns : goal.returns
returns c =
    let d = c.args.diagram.now in
    let text = c.args.text.now in
    let cs = c.args.choices.now in
    let spoken : List SpokenChoice = c.push_more.new.choices.items in
    let rest : List PlainChoice = replicate (length cs - 8) no_choice in
    let more : c.saturating_sub.result ≡ length cs - 8 = let sub = c.saturating_sub.ensures in omega (arith, sub) in
    let is : map plain_lent spoken ≡ first_said d text cs ++ rest =
    c.in_ok-push_more.ensures ∙ ap (λ n. map plain_lent c.in_ok-lent.lent.items ++ replicate n no_choice) more ∙ ap (λ (l : List PlainChoice). l ++ rest) (c.in_ok-lent.ensures ∙ ap (map plain_choice) c.as_slice.ensures.value ∙ c.in_ok-words.ensures) in
    record {
      spoken = spoken;
      size = all_counted d text cs spoken is;
      first = first_named d text cs spoken is;
      is_text = c.in_ok-said.ensures ∙ ap choices_text c.as_slice-2.ensures.value;
    }
