use Rattle.std.proofs.Common.{refl, sym, ◌∙◌, arith}
use Rattle.msc_lexer.proofs.Spellings.{no_word, word_of-length}
use Rattle.msc_lexer.proofs.word.Word.of.Goals as goal

pub returns-in-2 : goal.returns-in-2
returns-in-2 c = c.among.ensures ∙ word_of-length c.args.bytes.now 2 c.in-2.is

pub returns-in-3 : goal.returns-in-3
returns-in-3 c = c.among-in-3.ensures ∙ word_of-length c.args.bytes.now 3 c.in-3.is

pub returns-in-4 : goal.returns-in-4
returns-in-4 c = c.among-in-4.ensures ∙ word_of-length c.args.bytes.now 4 c.in-4.is

pub returns-in-5 : goal.returns-in-5
returns-in-5 c = c.among-in-5.ensures ∙ word_of-length c.args.bytes.now 5 c.in-5.is

pub returns-in-6 : goal.returns-in-6
returns-in-6 c = c.among-in-6.ensures ∙ word_of-length c.args.bytes.now 6 c.in-6.is

pub returns-in-7 : goal.returns-in-7
returns-in-7 c = c.among-in-7.ensures ∙ word_of-length c.args.bytes.now 7 c.in-7.is

pub returns-in-8 : goal.returns-in-8
returns-in-8 c = c.among-in-8.ensures ∙ word_of-length c.args.bytes.now 8 c.in-8.is

pub returns-in-9 : goal.returns-in-9
returns-in-9 c = c.among-in-9.ensures ∙ word_of-length c.args.bytes.now 9 c.in-9.is

pub returns-in-10 : goal.returns-in-10
returns-in-10 c = c.among-in-10.ensures ∙ word_of-length c.args.bytes.now 10 c.in-10.is

pub returns-in-11 : goal.returns-in-11
returns-in-11 c = c.among-in-11.ensures ∙ word_of-length c.args.bytes.now 11 c.in-11.is

pub returns-in-13 : goal.returns-in-13
returns-in-13 c = c.among-in-13.ensures ∙ word_of-length c.args.bytes.now 13 c.in-13.is

pub returns-in_default : goal.returns-in_default
returns-in_default c =
    sym (no_word c.args.bytes.now _ refl (λ e. omega (arith, e)) (λ e. omega (arith, e)) (λ e. omega (arith, e)) (λ e. omega (arith, e)) (λ e. omega (arith, e)) (λ e. omega (arith, e))
    (λ e. omega (arith, e)) (λ e. omega (arith, e)) (λ e. omega (arith, e)) (λ e. omega (arith, e)) (λ e. omega (arith, e)))
