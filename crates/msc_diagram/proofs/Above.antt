-- How many places of races there are, if options choose among the races, and if none does.
use Rattle.std.proofs.Common.{◌≡◌, zero, suc, ℕ, Bool, true, false, not, ◌&&◌, ◌||◌, cond, codes, nat_eq, List, [], ◌∷◌, ◌++◌, Option, None, Some, length, unwrap_or, refl, sym, ap, ap₂, ◌∙◌, arith}
use Rattle.std.specs.Prelude.{is_some}
use Rattle.std.specs.List.{All}
use Rattle.std.proofs.Math.Bool.{and-true}
use Rattle.std.proofs.lemmas.Bool.{and_from}
use Rattle.msc_chart.proofs.ListLemmas.{clash}
use Rattle.msc_race.specs.Views.{races_of}
use Rattle.msc_reason.proofs.Counted.{all_count}
use Rattle.msc_reason.proofs.Filtered.{filter_all}
use Rattle.msc_reason.specs.Counting.{counting, counts, is_alone, is_listed}
use Rattle.msc_reason.specs.Kinds.{has_kind, is_empty}
use Rattle.msc_reason.specs.LeftOut.{of_kinds}
use Rattle.msc_reason.specs.Marked.{cause_in, kind_in}
use Rattle.msc_reason.specs.declared.kinds.KindSet.{KindSet}
use Rattle.msc_diagram.proofs.Same.{counted_agree, filter_agreed, stale_agree}
use Rattle.msc_diagram.specs.Checks.{accepts_in}
use Rattle.msc_diagram.specs.Counts.{chooses, counting_places, counts_of, counts_of_all, counts_text, listed_places, named_places, names, number_line, options_text, place_counts, race_places, without, AreStale, AreStaleBy}
use Rattle.msc_diagram.specs.Judging.{AreCountsAbove}
use Rattle.msc_diagram.specs.Places.{above_with}
use Rattle.msc_diagram.specs.Scenarios.{all_of, asked_of, counting_of, judged_in, named_of, places_from, AreCases, Case, IsCase}
use Rattle.msc_diagram.specs.Stale.{idle_in, stale_marks, told_marks}
use Rattle.msc_diagram.specs.Telling.{above_text, IsKnownAbove}
use Rattle.msc_diagram.specs.declared.check.ScenarioCheck.{ScenarioCheck}
use Rattle.msc_diagram.specs.declared.check.UsedMarks.{UsedMarks}
use Rattle.msc_diagram.specs.declared.judging.DiagramFormat.TheVariants as formats
use Rattle.msc_diagram.specs.declared.judging.DiagramStyle.{DiagramStyle}
use Rattle.msc_diagram.specs.declared.numbers.PlaceCounts.{PlaceCounts}
use Rattle.msc_diagram.specs.declared.place.EventPlace.{EventPlace}
use Rattle.msc_diagram.specs.declared.scenario.Scenario.{Scenario}

-- without options the closest races are not asked for, no kind is left out, and no marks are used
plain_parts : (a b : Bool) → (a || b) ≡ false → (a ≡ false) × (b ≡ false)
plain_parts true b off = clash refl off
plain_parts false b off = (refl, off)

unmarked : (a b : Bool) → (not a || b) ≡ false → (a ≡ true) × (b ≡ false)
unmarked true b off = (refl, off)
unmarked false b off = clash refl off

-- without marks none is accepted
none_accepted : (m : Option UsedMarks) (s : Scenario) (p : ℕ × ℕ) → is_some m ≡ false → accepts_in m s p ≡ false
none_accepted None s p none = refl
none_accepted (Some m) s p none = clash refl none

-- then all races of a scenario count
pub plain_left : (q : ScenarioCheck) (c : Case) → IsCase q c → is_some q.marks ≡ false → counting_of q c ≡ named_of q c
plain_left q c is none =
    let e = judged_in q c in
    filter_agreed (counts c.left (cause_in e)) (counts (of_kinds q.options.allowed) (cause_in e)) (races_of e)
    (λ p there.
    let off = is.left_is.accepted p there ∙ none_accepted q.marks c.scenario p none in
    ap₂ (λ (b : Bool) (kinds : KindSet). not b && not (has_kind kinds (kind_in e p.0 p.1))) off is.left_is.kinds)

pub all_named : (q : ScenarioCheck) (c : Case) → is_empty q.options.allowed ≡ true → named_of q c ≡ all_of q c
all_named q c empty =
    let e = judged_in q c in
    let left = of_kinds q.options.allowed in
    filter_all (counts left (cause_in e)) (races_of e) (λ p. all_count left (cause_in e) p (and_from (is_empty q.options.allowed) true empty refl))

-- and are listed, if the closest are not asked for
pub plain_listed : (q : ScenarioCheck) → q.options.closest ≡ false → (c : Case) → asked_of q c ≡ counting_of q c
plain_listed q off c =
    let e = judged_in q c in
    filter_agreed (is_listed e c.left q.options.closest (cause_in e)) (counts c.left (cause_in e)) (races_of e)
    (λ p there. ap (λ (t : Bool). counts c.left (cause_in e) p && (not t || is_alone e.chart.events (counting e c.left (cause_in e)) p)) off
    ∙ and-true (counts c.left (cause_in e) p))

-- two kinds of races of some scenarios are the same
pub same_places_from : (one two : Case → List (ℕ × ℕ)) (P : Case → Type 0) → ((c : Case) → P c → one c ≡ two c)
    → (above : List (EventPlace × EventPlace)) (cases : List Case) → All P cases → places_from one above cases ≡ places_from two above cases
same_places_from one two P same above [] are = refl
same_places_from one two P same above (c ∷ cases) are =
    ap (λ (l : List (ℕ × ℕ)). places_from one (above_with c.scenario above l) cases) (same c (are zero c (omega arith)))
    ∙ same_places_from one two P same (above_with c.scenario above (two c)) cases (λ k x within. are (suc k) x (omega (arith, within)))

-- the numbers are those of all places then
counts_plain : (q : ScenarioCheck) (all named some listed : List (EventPlace × EventPlace)) → q.options.closest ≡ false → is_empty q.options.allowed ≡ true → is_some q.marks ≡ false
    → length all ≡ length listed → counts_of q all named some listed ≡ counts_of_all (length listed)
counts_plain q all named some listed closest empty none same = λ j. record {
  races = same j;
  allowed = cond (empty j) None (Some (length (without all named)));
  accepted = cond (none j) (Some (length (without named some))) None;
  closest = cond (closest j) (Some (length listed)) None;
  listed = length listed;
}

pub plain_counts : (scenarios : List Scenario) (q : ScenarioCheck) (cases : List Case) → AreCases q scenarios cases → chooses q ≡ false
    → counts_of_all (length (listed_places q cases)) ≡ place_counts q cases
plain_counts scenarios q cases are off =
    let plain = plain_parts q.options.closest (names q) off in
    let none = unmarked (is_empty q.options.allowed) (is_some q.marks) plain.1 in
    let races = ap length (sym (same_places_from (asked_of q) (all_of q) (IsCase q)
    (λ c is. plain_listed q plain.0 c ∙ plain_left q c is none.1 ∙ all_named q c none.0) [] cases are.all)) in
    sym (counts_plain q (race_places q cases) (named_places q cases) (counting_places q cases) (listed_places q cases) plain.0 none.0 none.1 races)

-- nothing stands above the scenarios then
no_counts : (q : ScenarioCheck) (counts : PlaceCounts) → chooses q ≡ false → counts_text q counts ≡ []
no_counts q counts off = ap (λ (b : Bool). cond (b && not (nat_eq counts.races 0)) (number_line (codes "races ") counts.races ++ options_text counts) []) off

-- what is told above the scenarios tells the numbers of all of them
pub above_agrees : (scenarios : List Scenario) (q : ScenarioCheck) (above : Option PlaceCounts) (stale : List ℕ) (cases : List Case)
    → IsKnownAbove scenarios q above stale → AreCases q scenarios cases → above_text q above ≡ counts_text q (place_counts q cases)
above_agrees scenarios q None stale cases (off, none) are = sym (no_counts q (place_counts q cases) off)
above_agrees scenarios q (Some counts) stale cases (some, (first, its, is, old)) are =
    ap (counts_text q) (is ∙ counted_agree scenarios q first cases its are)

-- and so do the numbers that are told below them
pub counts_agree : (scenarios : List Scenario) (q : ScenarioCheck) (above : Option PlaceCounts) (stale : List ℕ) (cases : List Case) (n : ℕ)
    → IsKnownAbove scenarios q above stale → AreCases q scenarios cases → n ≡ length (listed_places q cases)
    → unwrap_or above (counts_of_all n) ≡ place_counts q cases
counts_agree scenarios q None stale cases n (off, none) are is = ap counts_of_all is ∙ plain_counts scenarios q cases are off
counts_agree scenarios q (Some counts) stale cases n (some, (first, its, same, old)) are is =
    same ∙ counted_agree scenarios q first cases its are

-- without marks none is stale
pub none_stale : (q : ScenarioCheck) (cases : List Case) → is_some q.marks ≡ false → [] ≡ stale_marks q cases
none_stale q cases none = by q.marks none
  where
    by : (m : Option UsedMarks) → is_some m ≡ false → [] ≡ idle_in q cases (told_marks m)
    by None none = refl
    by (Some m) none = clash refl none

pub all_stale : (scenarios : List Scenario) (q : ScenarioCheck) (stale : List ℕ) (cases : List Case)
    → AreStale scenarios q stale → AreCases q scenarios cases → stale ≡ stale_marks q cases
all_stale scenarios q stale cases known are = by q.marks refl known
  where
    by : (m : Option UsedMarks) → q.marks ≡ m → AreStaleBy m scenarios q stale → stale ≡ stale_marks q cases
    by None same none = none ∙ none_stale q cases (ap is_some same)
    by (Some m) same (first, its, is) = is ∙ stale_agree scenarios q first cases its are

-- the stale marks are those of all scenarios
pub known_stale : (scenarios : List Scenario) (q : ScenarioCheck) (above : Option PlaceCounts) (stale : List ℕ) (cases : List Case)
    → IsKnownAbove scenarios q above stale → AreCases q scenarios cases → stale ≡ stale_marks q cases
known_stale scenarios q None stale cases (off, none) are =
    none ∙ none_stale q cases (unmarked (is_empty q.options.allowed) (is_some q.marks) (plain_parts q.options.closest (names q) off).1).1
known_stale scenarios q (Some counts) stale cases (some, (first, its, same, old)) are = old ∙ stale_agree scenarios q first cases its are

-- whatever is told above them is right, before all scenarios are put
pub above_begins : (scenarios : List Scenario) (q : ScenarioCheck) (diagram_style : DiagramStyle) (above : Option PlaceCounts) (stale : List ℕ) → IsKnownAbove scenarios q above stale
    → (counts : PlaceCounts) × AreCountsAbove (formats.Lines diagram_style) scenarios q counts × (above_text q above ≡ counts_text q counts)
above_begins scenarios q diagram_style None stale (off, none) = (counts_of_all 0, λ on. clash on off, sym (no_counts q (counts_of_all 0) off))
above_begins scenarios q diagram_style (Some counts) stale (some, its) = (counts, λ on. (stale, its), refl)
