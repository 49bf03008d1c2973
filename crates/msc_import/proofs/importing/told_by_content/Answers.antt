use Rattle.std.proofs.Common.{◌≡◌, map, Err, sym, ap, ◌∙◌, inr, subst}
use Rattle.std.specs.List.{list_any}
use Rattle.msc_mermaid.specs.declared.fault.Expectation.TheVariants.{AnyDiagram}
use Rattle.msc_mermaid.specs.declared.fault.ImportFault.TheVariants.{Expected}
use Rattle.msc_mermaid.specs.declared.statement.Diagram.{Diagram}
use Rattle.msc_mermaid.specs.Gives.{Gives}
use Rattle.msc_mermaid.specs.Lines.{lines_of}
use Rattle.msc_mermaid.specs.White.{trimmed}
use Rattle.msc_mermaid.specs.Mermaid.{end_of, first_line_place, is_head}
use Rattle.msc_import.specs.Importing.{begins_at}
use Rattle.msc_import.proofs.ImportLemmas.{told_none, told_some}
use Rattle.msc_import.proofs.importing.told_by_content.Goals as goal

pub returns-then-not-begins_diagram : goal.returns-then-not-begins_diagram
returns-then-not-begins_diagram c =
    let none = ap (list_any (λ line. is_head (trimmed line.now))) (sym c.as_slice-lines.ensures.value) ∙ sym c.begins_diagram.ensures ∙ c.if-not-begins_diagram.true in
    let said = told_none (λ x. x.now) c.args.cross c.args.text.now c.in_ok-found.found.items c.in_ok-found.ensures c.if-text-gt-TEXT_LIMIT.false none in
    let lines : lines_of c.args.text.now ≡ map (λ x. x.now) c.as_slice-lines.result.now = sym c.in_ok-found.ensures ∙ ap (map (λ x. x.now)) (sym c.as_slice-lines.ensures.value) in
    let place : begins_at c.args.text.now ≡ c.beginning_of-place.result = ap (λ ls. first_line_place 1 ls (end_of ls)) lines ∙ sym c.beginning_of-place.ensures in
    inr (said ∙ ap (λ p. Err (Expected p AnyDiagram)) place)

pub returns : goal.returns
returns c =
    let some = ap (list_any (λ line. is_head (trimmed line.now))) (sym c.as_slice-lines.ensures.value) ∙ sym c.begins_diagram.ensures ∙ c.if-not-begins_diagram.false in
    let said = told_some (λ x. x.now) c.args.cross c.args.text.now c.in_ok-found.found.items c.in_ok-found.ensures c.if-text-gt-TEXT_LIMIT.false some in
    subst (Gives (λ (d : Diagram). d) c.diagram_of.result) (sym said) c.diagram_of.ensures
