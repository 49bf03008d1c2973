use Rattle.std.proofs.Common.{ℕ, List, [], ◌++◌, None, refl, sym, ap, ◌∙◌}
use Rattle.std.proofs.lemmas.List.{append-nil}
use Rattle.std.proofs.lemmas.Result.{IfOk-weaker}
use Rattle.msc_notes.specs.Texts.{error_text}
use Rattle.msc_answer.specs.Ending.{refusal_line}
use Rattle.msc_answer.proofs.BareLines.{bare_text, stands_as}
use Rattle.msc_answer.proofs.refused.refusal_lines.Goals as goal

pub returns-in-Mark : goal.returns-in-Mark
returns-in-Mark c =
    IfOk-weaker c.bare_lines.result _ _
    (λ page begun. bare_text c.args.file.now c.args.text.now c.args.refusal _ _ (stands_as c.args.text.now _ c.args.refusal _ c.in-Mark.is (λ p at. (_, c.mark_place.ensures, at))) begun)
    c.bare_lines.ensures

pub returns-in-Pair : goal.returns-in-Pair
returns-in-Pair c =
    IfOk-weaker c.bare_lines-in-Pair.result _ _
    (λ page begun. bare_text c.args.file.now c.args.text.now c.args.refusal None _ (stands_as c.args.text.now None c.args.refusal _ c.in-Pair.is (λ p at. (None, refl, at))) begun)
    c.bare_lines-in-Pair.ensures

pub returns-in-Instance : goal.returns-in-Instance
returns-in-Instance c =
    IfOk-weaker c.bare_lines-in-Instance.result _ _
    (λ page begun. bare_text c.args.file.now c.args.text.now c.args.refusal None _ (stands_as c.args.text.now None c.args.refusal _ c.in-Instance.is (λ p at. (None, refl, at))) begun)
    c.bare_lines-in-Instance.ensures

pub returns-in-Link : goal.returns-in-Link
returns-in-Link c =
    let position = c.link_position.result in
    IfOk-weaker c.placed_lines-in-Link.result _ _ (λ page told. record {
      position = position;
      stands = rw c.in-Link.is c.link_position.ensures;
      more = [];
      printed_is = told ∙ ap (λ (t : List ℕ). error_text c.args.file.now position ++ t) (sym (append-nil (refusal_line c.args.refusal)));
    }) c.placed_lines-in-Link.ensures

pub returns-in-Rounds : goal.returns-in-Rounds
returns-in-Rounds c =
    IfOk-weaker c.bare_lines-in-Rounds.result _ _
    (λ page begun. bare_text c.args.file.now c.args.text.now c.args.refusal None _ (stands_as c.args.text.now None c.args.refusal _ c.in-Rounds.is (λ p at. (None, refl, at))) begun)
    c.bare_lines-in-Rounds.ensures
