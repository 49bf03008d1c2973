use Rattle.std.proofs.Common.{◌≡◌, ◌∙◌, refl, inl, inr, List, map}
use Rattle.std.specs.String.{string_bytes}
use Rattle.clap.specs.Words.{Text, app_of}
use Rattle.msc_command.specs.Grammar.{bare_command, parsers_of, commands_for, whole_command, with_commands, AreParsers}
use Rattle.msc_command.proofs.AskedGrammar.{answers_whole, is_asked_known, is_asked_simple, whole_fault, whole_found}
use Rattle.msc_command.proofs.Taken.{are_parsers, obeys_taken}
use Rattle.msc_command.proofs.program.run.Goals as goal

pub returns-in-Ok-clause-followed : goal.returns-in-Ok-clause-followed
returns-in-Ok-clause-followed g c =
    let p = parsers_of c.choices.result in
    let words : List Text = map string_bytes c.args.words.now in
    let are : AreParsers p = are_parsers c.choices.result (rw c.choices.ensures.architectures c.in_ok-lists.ensures.architectures)
    (rw c.choices.ensures.kinds c.in_ok-lists.ensures.kinds) (rw c.choices.ensures.formats c.in_ok-lists.ensures.formats)
    c.choices.ensures.languages c.choices.ensures.owns c.choices.ensures.crosses c.choices.ensures.pars c.choices.ensures.stick_formats c.choices.ensures.colors
    c.choices.ensures.shells c.choices.ensures.scan_queues c.choices.ensures.scan_formats in
    let is : app_of c.in_ok-command.command ≡ with_commands p bare_command (commands_for words) = c.in_ok-command.ensures.0 in
    let taken = c.in-Ok.ensures.kinds (is_asked_known p words _ is) in
    let matches = (c.in-Ok.ensures.matches (is_asked_simple p words _ is)).1 in
    inl (obeys_taken g.I.Read.remaining g.O.Write.contents (whole_command p) words c.in-Ok.matches _ _ _ _ _ (p, are, refl)
    (whole_fault p words _ is ∙ taken) (matches ∙ whole_found p words _ is) c.obey_matches.ensures.obeyed)

pub returns-clause-followed : goal.returns-clause-followed
returns-clause-followed g c =
    let p = parsers_of c.choices.result in
    let words : List Text = map string_bytes c.args.words.now in
    let are : AreParsers p = are_parsers c.choices.result (rw c.choices.ensures.architectures c.in_ok-lists.ensures.architectures)
    (rw c.choices.ensures.kinds c.in_ok-lists.ensures.kinds) (rw c.choices.ensures.formats c.in_ok-lists.ensures.formats)
    c.choices.ensures.languages c.choices.ensures.owns c.choices.ensures.crosses c.choices.ensures.pars c.choices.ensures.stick_formats c.choices.ensures.colors
    c.choices.ensures.shells c.choices.ensures.scan_queues c.choices.ensures.scan_formats in
    let is : app_of c.in_ok-command.command ≡ with_commands p bare_command (commands_for words) = c.in_ok-command.ensures.0 in
    elim (c.in-Err.ensures.kinds (is_asked_known p words _ is)) [
      | inl memory ↦ inr (inr (rw memory at c.tell_usage.ensures.ends))
      | inr among ↦ inr (inl (_, answers_whole p words _ is are _ among, c.tell_usage.ensures.ends))
    ]
