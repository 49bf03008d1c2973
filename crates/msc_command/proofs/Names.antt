-- Words that name no event.
use Rattle.std.proofs.Common.{◌≡◌, ℕ, List, Bor, Result, Ok, Err, Some, inr}
use Rattle.std.specs.Prelude.{IfErr, IfOk}
use Rattle.clap.specs.Matches.{first_value}
use Rattle.clap.specs.declared.parser.matches.Found.{Found}
use Rattle.msc_command.specs.Asking.{IsColonAnd, IsEventWord, IsNameText, IsNoName, IsNoNumber}
use Rattle.msc_command.specs.Misuses.{IsEventMisuse}
use Rattle.msc_command.specs.Words.{arg_word}
use Rattle.msc_command.specs.declared.misuse.Misuse.{Misuse}
use Rattle.msc_command.specs.declared.misuse.Misuse.TheVariants.{NoEvent}
use Rattle.msc_command.specs.declared.words.ArgName.{ArgName}
use Rattle.msc_report.specs.declared.pair.EventName.{EventName}
use Rattle.msc_report.specs.declared.pair.EventName.TheVariants.{Number, Line}

-- a word without a colon that is no number names none
pub no_number : (text : List ℕ) → ((rest : List ℕ) → IsColonAnd text rest → ⊥) → IsNoNumber text → IsNoName text
no_number text apart none (Number n) named = none n named.1
no_number text apart none (Line line) named = apart named.0 named.1

-- the word of an argument whose text names an event names it
pub named_so : (found : Found) (id text : List ℕ) (r : Result EventName Misuse) → first_value found id ≡ Some text
    → IfOk r (IsNameText text) → IfOk r (IsEventWord found id)
named_so found id text (Ok name) word named = record { text = text; word = word; named = named }
named_so found id text (Err misuse) word named = tt

-- and one whose text names none is mistaken
pub mistaken_so : (found : Found) (w : ArgName) (text : Bor (List ℕ)) (r : Result EventName Misuse) → first_value found (arg_word w) ≡ Some text.now
    → IfErr r (λ m. (m ≡ NoEvent w text) × IsNoName text.now) → IfErr r (IsEventMisuse found w)
mistaken_so found w text (Ok name) given mistaken = tt
mistaken_so found w text (Err misuse) given (is, none) = inr record { text = text; is = is; given = given; none = none }
