use Rattle.std.proofs.Common.{◌≡◌, ◌<◌, length, take, drop, Some, None, refl, sym, arith}
use Rattle.std.proofs.lemmas.List.{take-append-drop}
use Rattle.std.proofs.lemmas.List.Folds.{length-prefix_len}
use Rattle.msc_lexer.specs.declared.TheConstants.{NAME_LIMIT}
use Rattle.msc_lexer.specs.Bytes.{is_run_byte}
use Rattle.msc_lexer.specs.Words.{word_of}
use Rattle.msc_lexer.proofs.EndsLemmas.{run_at}
use Rattle.msc_lexer.proofs.Fronts.{run_front}
use Rattle.msc_lexer.proofs.lexing.run.Goals as goal

pub returns-in-Some-clause-piece : goal.returns-in-Some-clause-piece
returns-in-Some-clause-piece c =
    let found : word_of (take c.run_length-length.result c.args.text.now) ≡ Some c.in-Some.word = sym c.in-Some.ensures in
    run_front c.args.text.now _ c.run_length-length.result c.requires c.run_length-length.ensures (rw found refl) (rw found (λ e. absurd cc))

pub returns-in-None-clause-piece : goal.returns-in-None-clause-piece
returns-in-None-clause-piece c =
    let missed : word_of (take c.run_length-length.result c.args.text.now) ≡ None = sym c.in-None.ensures in
    run_front c.args.text.now _ c.run_length-length.result c.requires c.run_length-length.ensures (rw missed refl) (λ e. c.if-length-le-NAME_LIMIT.true)

pub returns-in-None-2-clause-flaw : goal.returns-in-None-2-clause-flaw
returns-in-None-2-clause-flaw c =
    let len : c.run_length-length.result ≡ length (take c.run_length-length.result c.args.text.now) = rw c.run_length-length.ensures (sym (length-prefix_len is_run_byte c.args.text.now)) in
    let long : NAME_LIMIT < length (take c.run_length-length.result c.args.text.now) = omega (arith, len) in
    (refl, take c.run_length-length.result c.args.text.now, drop c.run_length-length.result c.args.text.now, sym (take-append-drop c.run_length-length.result c.args.text.now), rw c.run_length-length.ensures (run_at c.args.text.now c.requires), sym c.in-None.ensures, long)
