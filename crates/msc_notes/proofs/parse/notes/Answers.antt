use Rattle.std.proofs.Common.{◌≤◌, length, subst, sym, arith}
use Rattle.std.proofs.lemmas.Result.{IfOk-weaker}
use Rattle.msc_parser.specs.declared.fault.ParseFault.TheVariants.{Expected}
use Rattle.msc_parser.specs.Parsing.{HasParseFault, IsGrammarFault}
use Rattle.msc_notes.specs.Behind.{AreParseNotes}
use Rattle.msc_notes.proofs.FaultPlaces.{fault_inside}
use Rattle.msc_notes.proofs.parse.notes.Goals as goal

pub returns-then-at-text : goal.returns-then-at-text
returns-then-at-text c = λ h.
    let text = c.args.text.now in
    let fault = Expected c.in-Expected.at c.in-Expected.what in
    let inside : c.in-Expected.at ≤ length text = fault_inside text fault (subst (HasParseFault text) c.in-Expected.is h) in
    absurd (omega (arith, inside, c.if-at-text.true))

pub returns-else-at-text : goal.returns-else-at-text
returns-else-at-text c =
    let text = c.args.text.now in
    let fault = Expected c.in-Expected.at c.in-Expected.what in
    IfOk-weaker c.expected_notes.result _ _ (λ notes e. λ h.
    let own : IsGrammarFault text fault = subst (HasParseFault text) c.in-Expected.is h in
    subst (λ f. AreParseNotes text f notes.items) (sym c.in-Expected.is) (e own.tokens own.have)) c.expected_notes.ensures
