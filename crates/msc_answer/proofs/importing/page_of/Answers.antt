use Rattle.std.proofs.Common.{[], ap, unwrap_or, ◌∙◌}
use Rattle.msc_answer.specs.Importing.{choices_of, wanted_of}
use Rattle.msc_answer.proofs.importing.page_of.Goals as goal

pub returns-then-words : goal.returns-then-words
returns-then-words c = rw c.if-words.true (c.list_page.ensures (wanted_of c.args.words.chosen) c.args.text.now)

pub returns : goal.returns
returns c =
    let given = choices_of c.args.words.chosen in
    rw c.if-words.false (c.text_page.ensures given (c.given_or_main-given.ensures ∙ ap (λ o. unwrap_or o []) c.requires.choices) c.requires.read)
