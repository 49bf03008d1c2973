use Rattle.std.proofs.Common.{drop, Some, sym, ap, ◌∙◌, ◌+◌}
use Rattle.std.proofs.lemmas.List.{take_rest}
use Rattle.msc_lexer.specs.Lexemes.{lexemes}
use Rattle.msc_place.specs.Collecting.{first_place, address_of}
use Rattle.msc_place.proofs.Collected.{seen_at, seen_more, seen_all, address_none, address_here, address_later, address_nowhere}
use Rattle.msc_place.proofs.statements.address_of.Goals as goal

pub returns-then-is_semicolon : goal.returns-then-is_semicolon
returns-then-is_semicolon c = λ text.
    let ts = c.args.tokens.now in let i = c.loop-i.i in
    let now = ap address_of (seen_more text ts i c.loop-i-test.true) in
    let none = address_none (seen_at text ts i) (lexemes text (drop (i + 1) ts)) (sym (c.is_semicolon.ensures text) ∙ c.if-is_semicolon.true) in
    sym none ∙ sym now ∙ c.loop-i.invariant text

pub returns-then-leads_address : goal.returns-then-leads_address
returns-then-leads_address c = λ text.
    let ts = c.args.tokens.now in let i = c.loop-i.i in
    let now = ap address_of (seen_more text ts i c.loop-i-test.true) in
    let here = address_here (seen_at text ts i) (lexemes text (drop (i + 1) ts)) (sym (c.is_semicolon.ensures text) ∙ c.if-is_semicolon.false) (sym (c.leads_address.ensures text) ∙ c.if-leads_address.true) in
    ap Some (c.first_place.ensures text ∙ ap (λ us. first_place (lexemes text us)) (take_rest ts (i + 1))) ∙ sym here ∙ sym now ∙ c.loop-i.invariant text

pub loop-i-preserved : goal.loop-i-preserved
loop-i-preserved c = λ text.
    let ts = c.args.tokens.now in let i = c.loop-i.i in
    let now = ap address_of (seen_more text ts i c.loop-i-test.true) in
    let later = address_later (seen_at text ts i) (lexemes text (drop (i + 1) ts)) (sym (c.is_semicolon.ensures text) ∙ c.if-is_semicolon.false) (sym (c.leads_address.ensures text) ∙ c.if-leads_address.false) in
    sym later ∙ sym now ∙ c.loop-i.invariant text

pub returns : goal.returns
returns c = λ text.
    let ts = c.args.tokens.now in let i = c.loop-i.i in
    sym address_nowhere ∙ sym (ap address_of (seen_all text ts i c.loop-i-test.false)) ∙ c.loop-i.invariant text
