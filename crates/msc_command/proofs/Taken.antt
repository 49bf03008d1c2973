-- Words that are taken, and the command that they name.
use Rattle.std.proofs.Common.{◌≡◌, ◌∙◌, ◌&&◌, refl, sym, subst, not, true, false, Bool, List, [], ◌∷◌, is_some, ℕ, Option, Some, None, Box}
use Rattle.std.proofs.lemmas.Option.{none-some}
use Rattle.std.specs.Prelude.{MatchOption, map, option_map}
use Rattle.std.specs.Box.{box_value}
use Rattle.clap.specs.Words.{App, Kinds, Row, Text, built, fault_of, subcommand_of, subcommand_rows, subcommand_rows_of}
use Rattle.clap.specs.Kinds.{check_kinds, or_else}
use Rattle.clap.specs.Faults.{defaults_fault, level_fault, settle_fault, walk_fault}
use Rattle.clap.specs.Simple.{Shape}
use Rattle.clap.specs.Walk.{Held, Names as CommandNames, settled as settled_rows, walk, walk_from}
use Rattle.clap.specs.declared.parser.matches.ArgMatches.{ArgMatches}
use Rattle.clap.specs.declared.parser.matches.ArgMatches.TheViews.{out-SubCommand}
use Rattle.clap.specs.declared.parser.matches.SubCommand.{SubCommand}
use Rattle.msc_command.specs.Grammar.{AreParsers, AreTaken, IsGrammar, architecture_words, format_words, kind_words, parsers_of}
use Rattle.msc_command.specs.declared.alternatives.Choices.{Choices}
use Rattle.msc_command.specs.Words.{color_words, cross_words, language_words, own_words, par_words, scan_format_words, scan_queue_words, shell_words, stick_format_words}
use Rattle.msc_command.specs.Program.{ObeysMatches, ObeysNamed}
use Rattle.msc_answer.specs.declared.ending.Status.{Status}
use Rattle.msc_answer.specs.declared.ending.Status.TheVariants.{Refused}

-- the parsers take the words of which options take one
pub are_parsers : (lent : Choices)
    → map (λ word. word.now) lent.architectures.words.now ≡ architecture_words → map (λ word. word.now) lent.kinds.words.now ≡ kind_words
    → map (λ word. word.now) lent.formats.words.now ≡ format_words → map (λ word. word.now) lent.languages.words.now ≡ language_words
    → map (λ word. word.now) lent.owns.words.now ≡ own_words → map (λ word. word.now) lent.crosses.words.now ≡ cross_words
    → map (λ word. word.now) lent.pars.words.now ≡ par_words
    → map (λ word. word.now) lent.stick_formats.words.now ≡ stick_format_words → map (λ word. word.now) lent.colors.words.now ≡ color_words
    → map (λ word. word.now) lent.shells.words.now ≡ shell_words
    → map (λ word. word.now) lent.scan_queues.words.now ≡ scan_queue_words → map (λ word. word.now) lent.scan_formats.words.now ≡ scan_format_words
    → AreParsers (parsers_of lent)
are_parsers lent one two three four five six seven eight nine ten eleven twelve = record {
  architectures = (_, refl, one);
  kinds = (_, refl, two);
  formats = (_, refl, three);
  stick_formats = (_, refl, eight);
  scan_queues = (_, refl, eleven);
  scan_formats = (_, refl, twelve);
  colors = (_, refl, nine);
  languages = (_, refl, four);
  owns = (_, refl, five);
  crosses = (_, refl, six);
  pars = (_, refl, seven);
  shells = (_, refl, ten);
}

-- where neither of two steps fails, the second does not
second_passes : (first second : Kinds) → or_else first second ≡ [] → second ≡ []
second_passes [] second known = known
second_passes (kind ∷ kinds) second known = absurd cc

-- a command that is wanted has been named where the last checks find nothing
is_named : (named help wanted argument : Bool) → wanted ≡ true
    → check_kinds (not named && help) (not named && wanted) argument ≡ [] → named ≡ true
is_named true help wanted argument is known = refl
is_named false true wanted argument is known = absurd cc
is_named false false true argument is known = absurd cc
is_named false false false argument is known = absurd cc

-- a parse that wants a command and does not fail names one
names_wanted : (s : Shape) (names : CommandNames) (held : Held) (words : List Text) (named : Bool) (below : Kinds)
    → s.subcommand_required ≡ true → level_fault s names held words named below ≡ [] → named ≡ true
names_wanted s names held words named below wanted passes =
    let end = (walk s.rules names held words).held in
    let after = second_passes (walk_fault s names (walk_from held) words) _ passes in
    let settled = second_passes below _ after in
    let filled = second_passes (settle_fault s.rules s.args_override_self end) _ settled in
    is_named named _ _ _ wanted (second_passes (defaults_fault (settled_rows s.rules end).rows s.rules) _ filled)

-- words that are taken name a command
names_command : (grammar : App) (words : List Text) → IsGrammar grammar → fault_of grammar words ≡ []
    → is_some (subcommand_of grammar words) ≡ true
names_command grammar words known taken = names_wanted (built grammar).top _ _ _ _ _ (rw known.2 refl) taken

-- what there is
there_is : {A : Type 0} (n : Option A) → is_some n ≡ true → (a : A) × (n ≡ Some a)
there_is (Some a) is = (a, refl)
there_is None is = absurd cc

-- and it is obeyed
pub obeys_taken : {R W : Type 0} (remaining : R → Option (List ℕ)) (contents : W → Option (List ℕ)) (grammar : App) (words : List Text)
    (matches : ArgMatches) (status : Status) (rest left : R) (old new : W)
    → IsGrammar grammar → fault_of grammar words ≡ [] → subcommand_rows_of matches ≡ subcommand_of grammar words
    → ObeysMatches remaining contents matches status rest left old new
    → (named : Text × List Row) × AreTaken words named × ObeysNamed remaining contents named status rest left old new
obeys_taken remaining contents grammar words matches status rest left old new known taken found obeyed =
    let named = there_is _ (names_command grammar words known taken) in (
      named.0,
      (grammar, known, taken, named.1),
      subst (λ n. MatchOption n ((status ≡ Refused) × (new ≡ old)) (λ named. ObeysNamed remaining contents named status rest left old new))
          (found ∙ named.1) obeyed,
    )

-- a command has the name and the rows that are found of it
pub named_by : {Z : Type 0} (found : Option (Box SubCommand Z)) {name : Text} {rows : List Row}
    → Some name ≡ option_map (λ b. (out-SubCommand (box_value b)).name.now) found
    → Some rows ≡ option_map (λ named. named.1) (subcommand_rows found)
    → subcommand_rows found ≡ Some (name, rows)
named_by None is_name are_rows = absurd (none-some _ (sym is_name))
named_by (Some b) is_name are_rows = cc
