use Rattle.std.proofs.Common.{drop, sym, ap, ◌∙◌, ◌+◌}
use Rattle.std.proofs.lemmas.List.{take_rest}
use Rattle.msc_lexer.specs.Lexemes.{lexemes}
use Rattle.msc_mark.specs.Comments.{comment_in, first_text}
use Rattle.msc_mark.proofs.Steps.{seen_at, comment_none, comment_here, comment_later, comment_nowhere}
use Rattle.msc_place.proofs.Collected.{seen_all}
use Rattle.msc_place.proofs.Collected.{seen_more}
use Rattle.msc_mark.proofs.comment.comment_in.Goals as goal

pub returns-then-is_semicolon-clause-value : goal.returns-then-is_semicolon-clause-value
returns-then-is_semicolon-clause-value c = λ text.
    let ts = c.args.tokens.now in let i = c.loop-i.i in
    let now = ap comment_in (seen_more text ts i c.loop-i-test.true) in
    let none = comment_none (seen_at text ts i) (lexemes text (drop (i + 1) ts)) (sym (c.is_semicolon.ensures text) ∙ c.if-is_semicolon.true) in
    sym none ∙ sym now ∙ c.loop-i.invariant text

pub returns-then-is_comment-clause-value : goal.returns-then-is_comment-clause-value
returns-then-is_comment-clause-value c = λ text.
    let ts = c.args.tokens.now in let i = c.loop-i.i in
    let now = ap comment_in (seen_more text ts i c.loop-i-test.true) in
    let here = comment_here (seen_at text ts i) (lexemes text (drop (i + 1) ts)) (sym (c.is_semicolon.ensures text) ∙ c.if-is_semicolon.false) (sym (c.is_comment.ensures text) ∙ c.if-is_comment.true) in
    c.first_text.ensures.value text ∙ ap (λ us. first_text (lexemes text us)) (take_rest ts (i + 1)) ∙ sym here ∙ sym now ∙ c.loop-i.invariant text

pub loop-i-preserved : goal.loop-i-preserved
loop-i-preserved c = λ text.
    let ts = c.args.tokens.now in let i = c.loop-i.i in
    let now = ap comment_in (seen_more text ts i c.loop-i-test.true) in
    let later = comment_later (seen_at text ts i) (lexemes text (drop (i + 1) ts)) (sym (c.is_semicolon.ensures text) ∙ c.if-is_semicolon.false) (sym (c.is_comment.ensures text) ∙ c.if-is_comment.false) in
    sym later ∙ sym now ∙ c.loop-i.invariant text

pub returns-clause-value : goal.returns-clause-value
returns-clause-value c = λ text.
    let ts = c.args.tokens.now in let i = c.loop-i.i in
    sym comment_nowhere ∙ sym (ap comment_in (seen_all text ts i c.loop-i-test.false)) ∙ c.loop-i.invariant text
