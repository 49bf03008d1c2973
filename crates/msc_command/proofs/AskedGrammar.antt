-- Of the command that words name `clap` is told alone: it takes the words as where it is told of
-- all.
use Rattle.std.proofs.Common.{◌≡◌, refl, sym, subst, true, false, Bool, List, [], ◌∷◌, Option, Some, None, cond, find}
use Rattle.std.proofs.lemmas.Option.{none-some}
use Rattle.std.proofs.lemmas.Slice.Eq.{bytes_eq-Decides}
use Rattle.std.specs.Option.{option_map_or}
use Rattle.std.specs.Str.{bytes_eq}
use Rattle.clap.specs.Words.{App, IsAmong, Text, built, fault_of, is_simple, is_simple_and_free, subcommand_of}
use Rattle.clap.specs.declared.error.kind.ErrorKind.{ErrorKind}
use Rattle.msc_command.specs.Grammar.{bare_command, begun_by, commands_for, whole_command, with_commands, AreAnswered, AreParsers, Parsers}
use Rattle.msc_command.specs.Words.{command_word, command_of_word, command_names}
use Rattle.msc_command.specs.declared.words.CommandName.{CommandName}
use Rattle.msc_command.specs.declared.words.CommandName.TheVariants.{Read}
use Rattle.msc_command.proofs.Begun.{same_fault, same_found, KnowAlike}

-- what is found passes: the first, or what is found behind it
first_passes : {X : Type 0} (p : X → Bool) (y x : X) (rest : Option X) (b : Bool) → p y ≡ b
    → (rest ≡ Some x → p x ≡ true) → cond b (Some y) rest ≡ Some x → p x ≡ true
first_passes p y x rest true is behind found = let same : ◌≡◌ {A = Option _} (Some y) (Some x) = found in cc
first_passes p y x rest false is behind found = behind found

found_passes : {X : Type 0} (p : X → Bool) (xs : List X) (x : X) → find p xs ≡ Some x → p x ≡ true
found_passes p [] x found = absurd (none-some _ found)
found_passes p (y ∷ ys) x found = first_passes p y x (find p ys) (p y) refl (found_passes p ys x) found

-- a word that names a command is its name
is_name : (name : Text) (command_name : CommandName) → command_of_word name ≡ Some command_name → name ≡ command_word command_name
unfolding command_of_word
is_name name command_name found =
    (bytes_eq-Decides name (command_word command_name)).0 (found_passes (λ command_name. bytes_eq name (command_word command_name)) command_names command_name found)

-- the program with one command
abbrev one_command : Parsers → CommandName → App
one_command p command_name = with_commands p bare_command (command_name ∷ [])

-- What is needed of a command: where `clap` is told of it alone, that is known as the same command
-- as where it is told of all, `clap` says all of it, and it is simple.
record IsToldAlone (p : Parsers) (command_name : CommandName) : Type 0 where
  alike : KnowAlike (built (one_command p command_name)) (built (whole_command p)) (command_word command_name)
  known : is_simple_and_free (one_command p command_name) ≡ true
  simple : is_simple (one_command p command_name) ≡ true

-- it is so of each command, by one proof: the second clause is checked for each of the others
told_alone : (p : Parsers) (command_name : CommandName) → IsToldAlone p command_name
told_alone p Read = record { alike = record { top = refl; one = refl; two = refl; other = refl; found = refl }; known = refl; simple = refl }
told_alone p command_name = record { alike = record { top = refl; one = refl; two = refl; other = refl; found = refl }; known = refl; simple = refl }

-- two programs take words alike
abbrev pub TakeAlike : App → App → List Text → Type 0
TakeAlike x y words = (fault_of x words ≡ fault_of y words) × (subcommand_of x words ≡ subcommand_of y words)

-- and takes the words of it alike
one_alike : (p : Parsers) (command_name : CommandName) (program : Text) (rest : List Text)
    → TakeAlike (one_command p command_name) (whole_command p) (program ∷ command_word command_name ∷ rest)
one_alike p command_name program rest = (
  same_fault _ _ (command_word command_name) rest (told_alone p command_name).alike,
  same_found _ _ (command_word command_name) rest (told_alone p command_name).alike,
)

-- what is told for words takes them as the whole program
pub asked_alike : (p : Parsers) (words : List Text)
    → TakeAlike (with_commands p bare_command (commands_for words)) (whole_command p) words
asked_alike p [] = (refl, refl)
asked_alike p (program ∷ []) = (refl, refl)
asked_alike p (program ∷ name ∷ rest) = go (command_of_word name) refl
  where
    go : (found : Option CommandName) → command_of_word name ≡ found
        → TakeAlike (with_commands p bare_command (commands_for (program ∷ name ∷ rest))) (whole_command p) (program ∷ name ∷ rest)
    go None none = rw none (refl, refl)
    go (Some command_name) is = rw (is, is_name name command_name is) (one_alike p command_name program rest)

-- it is of the kind of which `clap` says all, and simple
asked_kind : (p : Parsers) (found : Option CommandName)
    → (is_simple_and_free (with_commands p bare_command (option_map_or (λ command_name. command_name ∷ []) found command_names)) ≡ true)
    × (is_simple (with_commands p bare_command (option_map_or (λ command_name. command_name ∷ []) found command_names)) ≡ true)
asked_kind p None = (refl, refl)
asked_kind p (Some command_name) = ((told_alone p command_name).known, (told_alone p command_name).simple)

module _ (p : Parsers) (words : List Text) (grammar : App) (is : grammar ≡ with_commands p bare_command (commands_for words)) where
  -- `clap` says all of it
  pub is_asked_known : is_simple_and_free grammar ≡ true
  is_asked_known = rw is (asked_kind p (begun_by words)).0

  -- and its matches
  pub is_asked_simple : is_simple grammar ≡ true
  is_asked_simple = rw is (asked_kind p (begun_by words)).1

  -- it has the faults of the whole program
  pub whole_fault : fault_of (whole_command p) words ≡ fault_of grammar words
  whole_fault = rw is (sym (asked_alike p words).0)

  -- and finds the same
  pub whole_found : subcommand_of grammar words ≡ subcommand_of (whole_command p) words
  whole_found = rw is (asked_alike p words).1

  -- and answers what the whole program may answer
  pub answers_whole : AreParsers p → (kind : ErrorKind) → IsAmong kind (fault_of grammar words) → AreAnswered words kind
  answers_whole are kind among =
      (whole_command p, (p, are, refl), subst (λ kinds. IsAmong kind kinds) (sym whole_fault) among)
