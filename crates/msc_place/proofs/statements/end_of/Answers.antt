use Rattle.std.proofs.Common.{◌+◌, drop, sym, ap, ◌∙◌}
use Rattle.msc_lexer.specs.Lexemes.{lexemes}
use Rattle.msc_place.specs.Collecting.{end_of}
use Rattle.msc_place.proofs.Collected.{seen_at, seen_more, seen_all, end_here, end_later, end_nowhere}
use Rattle.msc_place.proofs.statements.end_of.Goals as goal

pub returns-then-is_semicolon : goal.returns-then-is_semicolon
returns-then-is_semicolon c = λ text.
    let ts = c.args.tokens.now in let i = c.loop-token.token-index in
    let now = ap end_of (seen_more text ts i c.loop-token-test.true) in
    let here = end_here (seen_at text ts i) (lexemes text (drop (i + 1) ts)) (sym (c.is_semicolon.ensures text) ∙ c.if-is_semicolon.true) in
    sym here ∙ sym now ∙ c.loop-token.invariant text

pub loop-token-preserved : goal.loop-token-preserved
loop-token-preserved c = λ text.
    let ts = c.args.tokens.now in let i = c.loop-token.token-index in
    let now = ap end_of (seen_more text ts i c.loop-token-test.true) in
    let later = end_later (seen_at text ts i) (lexemes text (drop (i + 1) ts)) (sym (c.is_semicolon.ensures text) ∙ c.if-is_semicolon.false) in
    sym later ∙ sym now ∙ c.loop-token.invariant text

pub returns : goal.returns
returns c = λ text.
    let ts = c.args.tokens.now in let i = c.loop-token.token-index in
    sym end_nowhere ∙ sym (ap end_of (seen_all text ts i c.loop-token-test.false)) ∙ c.loop-token.invariant text
