-- The scenarios of a diagram, in words.
use Rattle.std.specs.Prelude.{ℕ, ◌-◌, cond, ◌==◌, List, [], ◌∷◌, ◌++◌, Option, None, Some, codes, decimal, length, take}
use Rattle.std.specs.List.{flat_map}
use Rattle.msc_wording.specs.declared.scenario.Outcome.{Outcome}
use Rattle.msc_wording.specs.declared.scenario.Outcome.TheVariants.{Arrives, Branch, Lost, Skipped, Taken, Times, WithoutOption}
use Rattle.msc_wording.specs.declared.scenario.SpokenChoice.{SpokenChoice}
use Rattle.msc_wording.specs.Events.{with_line}
use Rattle.msc_wording.specs.Numbers.{plural}

-- how many rounds a loop has
unfoldable pub times_text : ℕ → List ℕ
times_text rounds =
    cond (rounds == 0) (codes " skipped") (
    cond (rounds == 1) (codes " once") (cond (rounds == 2) (codes " twice") (codes " " ++ (decimal rounds ++ codes " times")))
    )

-- what is chosen
unfoldable pub outcome_text : Outcome → List ℕ
outcome_text Branch = []
outcome_text Taken = codes " taken"
outcome_text Skipped = codes " skipped"
outcome_text (Times rounds) = times_text rounds
outcome_text WithoutOption = codes " without an option"
outcome_text Lost = codes " is lost"
outcome_text Arrives = codes " arrives"

-- what it is about, and its line, unless it is named
abbrev pub subject_text : List ℕ → Option ℕ → List ℕ
subject_text subject None = subject
subject_text subject (Some line) = with_line subject line

-- a choice
unfoldable pub choice_text : SpokenChoice → List ℕ
choice_text choice = subject_text choice.subject.now choice.line ++ outcome_text choice.outcome

-- a choice after a comma
abbrev pub next_choice : SpokenChoice → List ℕ
next_choice choice = codes ", " ++ choice_text choice

-- choices with commas between them
abbrev pub joined_choices : List SpokenChoice → List ℕ
joined_choices [] = []
joined_choices (choice ∷ choices) = choice_text choice ++ flat_map next_choice choices

-- how many more choices there are, if there are some
unfoldable pub more_choices : ℕ → List ℕ
more_choices more =
    cond (more == 0) [] (codes ", and " ++ (decimal more ++ (codes " more " ++ plural more (codes "choice") (codes "choices"))))

-- the first eight choices, and how many more there are
abbrev pub choices_text : List SpokenChoice → List ℕ
choices_text choices = joined_choices (take 8 choices) ++ more_choices (length choices - 8)

-- all scenarios
unfoldable pub all_text : ℕ → List ℕ
all_text scenarios =
    cond (scenarios == 2) (codes "in both scenarios") (codes "in all " ++ (decimal scenarios ++ codes " scenarios"))

-- one scenario, by its number
unfoldable pub one_text : ℕ → ℕ → List ℕ → List ℕ
one_text scenarios number choices =
    codes "in scenario " ++ (decimal number ++ (codes " of " ++ (decimal scenarios ++ (codes ": " ++ choices))))

-- an example of several scenarios
unfoldable pub such_as : ℕ → List ℕ → List ℕ
such_as number choices = codes ", such as scenario " ++ (decimal number ++ (codes ": " ++ choices))

unfoldable pub some_text : ℕ → ℕ → List ℕ → List ℕ
some_text count scenarios example =
    codes "in " ++ (decimal count ++ (codes " of " ++ (decimal scenarios ++ (codes " scenarios" ++ example))))

-- the scenarios in which a race counts
abbrev pub scenarios_text : ℕ → ℕ → ℕ → List ℕ → List ℕ
scenarios_text count scenarios number choices =
    cond (count == scenarios) (all_text scenarios) (
    cond (count == 1) (one_text scenarios number choices) (some_text count scenarios (such_as number choices))
    )
