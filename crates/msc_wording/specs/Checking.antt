-- What a check found, in words.
use Rattle.std.specs.Prelude.{ℕ, Bool, cond, ◌==◌, List, [], ◌++◌, Option, None, Some, codes, decimal}
use Rattle.msc_wording.specs.declared.checking.RacesFound.{RacesFound}
use Rattle.msc_wording.specs.declared.checking.RacesFound.TheVariants.{InOneScenario, InRounds, InScenarios}
use Rattle.msc_wording.specs.declared.checking.SpokenCheck.{SpokenCheck}
use Rattle.msc_wording.specs.Numbers.{counted, number_or_none, part, plural}

-- the distinct races of several scenarios
unfoldable pub distinct_text : ℕ → ℕ → List ℕ
distinct_text races scenarios =
    cond (races == 0) (codes "no races in " ++ (decimal scenarios ++ codes " scenarios"))
    (counted races (codes "distinct race") (codes "distinct races"))

-- what is found in a round, and between two rounds
unfoldable pub in_rounds : List ℕ → List ℕ → List ℕ
in_rounds within between = within ++ (codes " in a round, " ++ (between ++ codes " between rounds"))

-- the races in a round, and between two rounds
abbrev pub rounds_text : ℕ → ℕ → List ℕ
rounds_text within between = in_rounds (counted within (codes "race") (codes "races")) (number_or_none between)

-- the races
unfoldable pub found_text : RacesFound → List ℕ
found_text (InOneScenario races) = counted races (codes "race") (codes "races")
found_text (InRounds within between) = rounds_text within between
found_text (InScenarios races scenarios free) = distinct_text races scenarios

-- the scenarios without a race, if others have one
unfoldable pub free_part : RacesFound → List ℕ
free_part (InOneScenario races) = []
free_part (InRounds within between) = []
free_part (InScenarios races scenarios free) =
    cond (races == 0) []
    (codes "; " ++ (decimal free ++ (codes " of " ++ (decimal scenarios
    ++ (codes " scenarios " ++ (plural free (codes "is") (codes "are") ++ codes " free of races"))))))

-- the findings that are shown, if that is not all
unfoldable pub shown_part : Option ℕ → List ℕ
shown_part None = []
shown_part (Some shown) = codes ", " ++ (decimal shown ++ codes " shown")

-- the races across the closest ones, those of kinds that are allowed, and those that are accepted
unfoldable pub wider_part : ℕ → List ℕ
wider_part n = part n (plural n (codes "wider one, across these, not shown") (codes "wider ones, across these, not shown"))

unfoldable pub left_out_part : ℕ → List ℕ
left_out_part n = part n (codes "left out by --allow")

unfoldable pub accepted_part : ℕ → List ℕ
accepted_part n = part n (codes "accepted")

-- the stale marks
unfoldable pub stale_part : ℕ → List ℕ
stale_part n = part n (plural n (codes "stale mark") (codes "stale marks"))

-- the races that are not listed
unfoldable pub unlisted_parts : SpokenCheck → List ℕ
unlisted_parts check =
    wider_part check.wider ++ (left_out_part check.left_out ++ accepted_part check.accepted)

-- what else is found, each if there is some
unfoldable pub further_parts : SpokenCheck → List ℕ
further_parts check = unlisted_parts check ++ (stale_part check.stale ++ shown_part check.shown)

-- that the chart has no run
abbrev pub never_part : Bool → List ℕ
never_part can_happen = cond can_happen [] (codes "; it can never happen as it is drawn")

-- what a check found
abbrev pub check_verdict : SpokenCheck → List ℕ
check_verdict check =
    found_text check.found ++ (further_parts check ++ (free_part check.found ++ never_part check.can_happen))
