use Rattle.std.proofs.Common.{◌≡◌, ◌<◌, length, sym, ◌∙◌, arith}
use Rattle.std.proofs.lemmas.Bool.{eqb-true, eqb-false}
use Rattle.msc_lexer.specs.Lexemes.{lexemes}
use Rattle.msc_parser.specs.Places.{Start, Header, Sections, StatementEnd, Done}
use Rattle.msc_parser.proofs.Steps.{Stops-back}
use Rattle.msc_parser.proofs.Naming.{chart_draft}
use Rattle.msc_parser.proofs.Whole.{msc_refused, chart_name_refused, head_leads, more_refused, chart_read, chart_exits, lexemes_few}
use Rattle.msc_parser.proofs.parsing.chart.Goals as goal

pub returns-in_err-rest : goal.returns-in_err-rest
returns-in_err-rest c =
    chart_exits c.args.text.now c.args.tokens.now _ c.in_err-rest.field-0.0 c.from_residual.ensures.1 (msc_refused c.args.text.now c.args.tokens.now _ c.in_err-rest.ensures)

pub returns-in_err-name : goal.returns-in_err-name
returns-in_err-name c =
    chart_exits c.args.text.now c.args.tokens.now _ c.in_err-name.field-0.0 c.from_residual-in_err-name.ensures.1 (chart_name_refused c.args.text.now c.args.tokens.now c.in_ok-rest.rest.now _ c.in_ok-rest.ensures.1 c.in_err-name.ensures)

pub returns-in_err-rest-2 : goal.returns-in_err-rest-2
returns-in_err-rest-2 c =
    chart_exits c.args.text.now c.args.tokens.now _ c.in_err-rest-2.field-0.0 c.from_residual-in_err-rest-2.ensures.1
    (Stops-back c.args.text.now Start (StatementEnd Header) c.args.tokens.now c.in_ok-name.rest.now _ (head_leads c.args.text.now _ _ _ _ c.in_ok-rest.ensures.1 c.in_ok-name.ensures) (c.in_err-rest-2.ensures Header))

pub returns-in_err-header : goal.returns-in_err-header
returns-in_err-header c =
    chart_exits c.args.text.now c.args.tokens.now _ c.in_err-header.field-0.0 c.from_residual-in_err-header.ensures.1
    (Stops-back c.args.text.now Start Header c.args.tokens.now c.in_ok-rest-2.rest.now _ (head_leads c.args.text.now _ _ _ _ c.in_ok-rest.ensures.1 c.in_ok-name.ensures ∙ c.in_ok-rest-2.ensures.leads Header) c.in_err-header.ensures)

pub returns-in_err-sections : goal.returns-in_err-sections
returns-in_err-sections c =
    chart_exits c.args.text.now c.args.tokens.now _ c.in_err-sections.field-0.0 c.from_residual-in_err-sections.ensures.1
    (Stops-back c.args.text.now Start Sections c.args.tokens.now c.in_ok-header.rest.now _ (head_leads c.args.text.now _ _ _ _ c.in_ok-rest.ensures.1 c.in_ok-name.ensures ∙ c.in_ok-rest-2.ensures.leads Header ∙ c.in_ok-header.ensures.leads) c.in_err-sections.ensures)

pub returns-in_err-rest-3 : goal.returns-in_err-rest-3
returns-in_err-rest-3 c =
    chart_exits c.args.text.now c.args.tokens.now _ c.in_err-rest-3.field-0.0 c.from_residual-in_err-rest-3.ensures.1
    (Stops-back c.args.text.now Start (StatementEnd Done) c.args.tokens.now c.in_ok-sections.rest.now _
    (head_leads c.args.text.now _ _ _ _ c.in_ok-rest.ensures.1 c.in_ok-name.ensures ∙ c.in_ok-rest-2.ensures.leads Header ∙ c.in_ok-header.ensures.leads ∙ c.in_ok-sections.ensures.leads) (c.in_err-rest-3.ensures Done))

pub returns-then-not-is_empty : goal.returns-then-not-is_empty
returns-then-not-is_empty c =
    let some : 0 < length c.in_ok-rest-3.rest.now = let ne = eqb-false (length c.in_ok-rest-3.rest.now) 0 (sym c.is_empty.ensures ∙ c.if-not-is_empty.true) in omega (arith, ne) in
    Stops-back c.args.text.now Start Done c.args.tokens.now c.in_ok-rest-3.rest.now _
    (head_leads c.args.text.now _ _ _ _ c.in_ok-rest.ensures.1 c.in_ok-name.ensures ∙ c.in_ok-rest-2.ensures.leads Header ∙ c.in_ok-header.ensures.leads ∙ c.in_ok-sections.ensures.leads ∙ c.in_ok-rest-3.ensures.leads Done)
    (more_refused c.args.text.now c.in_ok-rest-3.rest.now _ some c.unexpected.ensures)

pub new-requires : goal.new-requires
new-requires c =
    let none : length c.in_ok-rest-3.rest.now ≡ 0 = eqb-true (length c.in_ok-rest-3.rest.now) 0 (sym c.is_empty.ensures ∙ c.if-not-is_empty.false) in
    chart_draft (lexemes c.args.text.now c.args.tokens.now) _
    (chart_read c.args.text.now c.in_ok-rest-3.rest.now (record { name = c.in_ok-name.name; header = c.in_ok-header.header; sections = c.in_ok-sections.sections }) c.in_ok-rest.ensures.1 c.in_ok-name.ensures c.in_ok-rest-2.ensures c.in_ok-header.ensures c.in_ok-sections.ensures c.in_ok-rest-3.ensures none)
    c.requires.named (lexemes_few c.args.text.now c.args.tokens.now c.requires.few)

pub returns : goal.returns
returns c =
    let none : length c.in_ok-rest-3.rest.now ≡ 0 = eqb-true (length c.in_ok-rest-3.rest.now) 0 (sym c.is_empty.ensures ∙ c.if-not-is_empty.false) in
    rw c.new.ensures
    (chart_read c.args.text.now c.in_ok-rest-3.rest.now (record { name = c.in_ok-name.name; header = c.in_ok-header.header; sections = c.in_ok-sections.sections }) c.in_ok-rest.ensures.1 c.in_ok-name.ensures c.in_ok-rest-2.ensures c.in_ok-header.ensures c.in_ok-sections.ensures c.in_ok-rest-3.ensures none)
