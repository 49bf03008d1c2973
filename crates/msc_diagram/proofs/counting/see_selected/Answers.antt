use Rattle.std.proofs.Common.{ap, ◌∙◌, refl}
use Rattle.msc_reason.specs.Counting.{counting}
use Rattle.msc_reason.specs.Marked.{cause_in}
use Rattle.msc_reason.specs.declared.left_out.LeftOut.{LeftOut}
use Rattle.msc_diagram.specs.Places.{above_with}
use Rattle.msc_diagram.proofs.counting.see_selected.Goals as goal

pub returns : goal.returns
returns c s are =
    let e = c.args.enforced.now in
    record {
      all = c.in_ok-see_all.ensures s are;
      named = λ on.
          c.in_ok-see_if.ensures s are (c.names.ensures ∙ on)
          ∙ ap (λ (left : LeftOut). above_with s c.args.answer.now.named (counting e left (cause_in e))) c.of_kinds-kinds.ensures;
      counting_is = λ on. c.in_ok-see_if-2.ensures s are (c.is_some-accepts.ensures ∙ on);
      tally = λ on p. c.in_ok-see_tally.ensures s are on p;
      listed = refl;
      idle = refl;
    }
