-- How many places of races the scenarios of a diagram have. A place is a pair of places of events:
-- the instance, and both arrows with the end of each. This project's own numbers.
use Rattle.std.specs.Prelude.{◌≡◌, ℕ, Bool, ◌&&◌, ◌||◌, not, cond, List, [], ◌++◌, Option, None, Some, codes, count_by, is_some, length, map, nat_eq}
use Rattle.std.specs.Fmt.{decimal}
use Rattle.std.specs.List.{filter, list_any}
use Rattle.msc_reason.specs.Kinds.{is_empty}
use Rattle.msc_report.specs.Texts.{text_line}
use Rattle.msc_diagram.specs.Places.{places_in, same_places}
use Rattle.msc_diagram.specs.Stale.{stale_marks}
use Rattle.msc_diagram.specs.Scenarios.{all_of, asked_of, counting_of, named_of, places_from, AreCases, Case}
use Rattle.msc_diagram.specs.declared.check.ScenarioCheck.{ScenarioCheck}
use Rattle.msc_diagram.specs.declared.check.UsedMarks.{UsedMarks}
use Rattle.msc_diagram.specs.declared.numbers.PlaceCounts.{PlaceCounts}
use Rattle.msc_diagram.specs.declared.place.EventPlace.{EventPlace}
use Rattle.msc_diagram.specs.declared.scenario.Scenario.{Scenario}

-- some races may not count: of some kinds, or because marks accept them
abbrev pub names : ScenarioCheck → Bool
names k = not (is_empty k.options.allowed) || is_some k.marks

-- options choose among the races, or marks do
abbrev pub chooses : ScenarioCheck → Bool
chooses k = k.options.closest || names k

-- the places of all races of these scenarios, each once
abbrev pub race_places : ScenarioCheck → List Case → List (EventPlace × EventPlace)
race_places k cases = places_from (all_of k) [] cases

-- those at which a race of some scenario is of a kind that is not left out
abbrev pub named_places : ScenarioCheck → List Case → List (EventPlace × EventPlace)
named_places k cases = places_from (named_of k) [] cases

-- those at which a race of some scenario counts
abbrev pub counting_places : ScenarioCheck → List Case → List (EventPlace × EventPlace)
counting_places k cases = places_from (counting_of k) [] cases

-- those at which a race is listed: one that counts, or a closest one, in some scenario
abbrev pub listed_places : ScenarioCheck → List Case → List (EventPlace × EventPlace)
listed_places k cases = places_from (asked_of k) [] cases

-- a race of a scenario counts at these places
abbrev pub counts_at : ScenarioCheck → EventPlace × EventPlace → Case → Bool
counts_at k places c = list_any (same_places places) (map (places_in c.scenario) (counting_of k c))

-- in how many scenarios one does
abbrev pub counted_in : ScenarioCheck → List Case → EventPlace × EventPlace → ℕ
counted_in k cases places = count_by (counts_at k places) cases

-- the places of the first list that are not in the second
abbrev pub without : List (EventPlace × EventPlace) → List (EventPlace × EventPlace) → List (EventPlace × EventPlace)
without places others = filter (λ p. not (list_any (same_places p) others)) places

-- those that are allowed: all races there, in all scenarios, are of kinds that are left out
abbrev pub allowed_places : ScenarioCheck → List Case → List (EventPlace × EventPlace)
allowed_places k cases = without (race_places k cases) (named_places k cases)

-- those that are accepted: some race there is of another kind, and none counts in any scenario
abbrev pub accepted_places : ScenarioCheck → List Case → List (EventPlace × EventPlace)
accepted_places k cases = without (named_places k cases) (counting_places k cases)

-- how many places are in lists of all, of those of kinds that are not left out, of those that count,
-- and of those that are listed
abbrev pub counts_of : ScenarioCheck → List (EventPlace × EventPlace) → List (EventPlace × EventPlace) → List (EventPlace × EventPlace) → List (EventPlace × EventPlace) → PlaceCounts
counts_of k all named counting listed = record {
  races = length all;
  allowed = cond (is_empty k.options.allowed) None (Some (length (without all named)));
  accepted = cond (is_some k.marks) (Some (length (without named counting))) None;
  closest = cond k.options.closest (Some (length listed)) None;
  listed = length listed;
}

-- how many places of races these scenarios have: all; with kinds that are left out those that are
-- allowed; with marks those that are accepted; with `closest` those of the closest races; and those
-- that are listed
abbrev pub place_counts : ScenarioCheck → List Case → PlaceCounts
place_counts k cases =
    counts_of k (race_places k cases) (named_places k cases) (counting_places k cases) (listed_places k cases)

-- so many places, if all races are listed
abbrev pub counts_of_all : ℕ → PlaceCounts
counts_of_all races = record { races = races; allowed = None; accepted = None; closest = None; listed = races }

-- these are the numbers of some scenarios, by what is known of them, and their stale marks
abbrev pub AreCountsOf : List Scenario → ScenarioCheck → PlaceCounts → List ℕ → Type 0
AreCountsOf scenarios k counts stale =
    (cases : List Case) × AreCases k scenarios cases × (counts ≡ place_counts k cases) × (stale ≡ stale_marks k cases)

-- these are their stale marks; without marks there are none
abbrev pub AreStaleBy : Option UsedMarks → List Scenario → ScenarioCheck → List ℕ → Type 0
AreStaleBy None scenarios k stale = stale ≡ []
AreStaleBy (Some m) scenarios k stale =
    (cases : List Case) × AreCases k scenarios cases × (stale ≡ stale_marks k cases)

abbrev pub AreStale : List Scenario → ScenarioCheck → List ℕ → Type 0
AreStale scenarios k stale = AreStaleBy k.marks scenarios k stale

-- these are the numbers, by place, of the scenarios in which a race counts there
abbrev pub AreCountedIn : List Scenario → ScenarioCheck → (EventPlace × EventPlace → ℕ) → Type 0
AreCountedIn scenarios k counted =
    (cases : List Case) × AreCases k scenarios cases
    × ((places : EventPlace × EventPlace) → counted places ≡ counted_in k cases places)

-- the line of a word and a number
abbrev pub number_line : List ℕ → ℕ → List ℕ
number_line word number = word ++ text_line (decimal number)

-- the same of a number that an option asks for
abbrev pub option_line : List ℕ → Option ℕ → List ℕ
option_line word None = []
option_line word (Some number) = number_line word number

-- how many places are allowed, how many accepted, and how many closest
abbrev pub options_text : PlaceCounts → List ℕ
options_text counts =
    option_line (codes "allowed ") counts.allowed ++ (option_line (codes "accepted ") counts.accepted ++ option_line (codes "closest ") counts.closest)

-- what options print above the scenarios: how many places there are, if there are some
abbrev pub counts_text : ScenarioCheck → PlaceCounts → List ℕ
counts_text k counts =
    cond (chooses k && not (nat_eq counts.races 0)) (number_line (codes "races ") counts.races ++ options_text counts) []

-- the line of a diagram without races
abbrev pub pass_line : Bool → List ℕ
pass_line drawn = cond drawn (text_line (codes "pass, parallel branches drawn one below the other")) (text_line (codes "pass"))

-- what is printed below the scenarios: that there are no races, and then this of stale marks; or this
-- of stale marks, and then how many places are listed and how many scenarios pass
abbrev pub diagram_end : Bool → PlaceCounts → List ℕ → ℕ → List ℕ
diagram_end drawn counts stale passed =
    cond (nat_eq counts.races 0) ((pass_line drawn ++ options_text counts) ++ stale)
    (stale ++ (number_line (codes "listed ") counts.listed ++ number_line (codes "passed ") passed))
