use Rattle.std.proofs.Common.{◌≡◌, ℕ, Some, IfOk, ap, sym, ◌∙◌, subst}
use Rattle.std.proofs.lemmas.Result.{IfOk-weaker}
use Rattle.msc_fault_words.specs.RuleFaults.{link}
use Rattle.msc_fault_words.specs.Words.{Words}
use Rattle.msc_fault_words.specs.declared.words.Span.{Span}
use Rattle.msc_answer.specs.RefusedWords.{plain_span, IsLinkSaid}
use Rattle.msc_answer.specs.declared.own.LinkRefusal.{LinkRefusal}
use Rattle.msc_answer.specs.declared.own.LinkRefusal.TheVariants as links
use Rattle.msc_answer.proofs.refused_words.diagram_link.Goals as goal

pub returns-in_ok-span-in-Text : goal.returns-in_ok-span-in-Text
returns-in_ok-span-in-Text c =
    let text = c.args.text.now in
    let fault = c.in-Text.fault in
    let place = c.in-Text.place in
    let span = c.in_ok-span-in-Text.span in
    let here : span ≡ plain_span text place.at span.past = ap (λ (first : ℕ). record { first = first; past = span.past }) c.in_ok-span-in-Text.ensures in
    let said = IfOk-weaker c.link_words-in-Text.result (λ (w : Words). w ≡ link (Some span) fault) (IsLinkSaid text (links.Text fault place))
    (λ w is. (span.past, is ∙ ap (λ (s : Span). link (Some s) fault) here)) c.link_words-in-Text.ensures in
    subst (λ (why : LinkRefusal). IfOk c.link_words-in-Text.result (IsLinkSaid text why)) (sym c.in-Text.is) said
