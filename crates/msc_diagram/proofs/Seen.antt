-- The numbers of places, by what was seen of all scenarios.
use Rattle.std.proofs.Common.{◌≡◌, ℕ, Bool, true, false, not, ◌||◌, cond, None, Some, List, [], length, refl, ap, ◌∙◌, arith}
use Rattle.std.specs.Prelude.{is_some}
use Rattle.msc_reason.specs.Kinds.{is_empty}
use Rattle.msc_diagram.specs.Counts.{counted_in, counts_of, names, place_counts, without}
use Rattle.msc_diagram.specs.Scenarios.{all_of, asked_of, counting_of, named_of, places_from}
use Rattle.msc_diagram.specs.Stale.{idle_in, stale_marks, told_marks}
use Rattle.msc_diagram.specs.Tallies.{tally_at}
use Rattle.msc_diagram.specs.Telling.{SeesCases}
use Rattle.msc_diagram.specs.declared.answer.Answer.{Answer}
use Rattle.msc_diagram.specs.declared.check.ScenarioCheck.{ScenarioCheck}
use Rattle.msc_diagram.specs.declared.place.EventPlace.{EventPlace}
use Rattle.msc_diagram.specs.declared.scenario.Scenario.{Scenario}

-- of what is not asked for nothing is counted
if_asked : (b : Bool) (x y : ℕ) → (b ≡ true → x ≡ y) → cond b (Some x) None ≡ cond b (Some y) None
if_asked true x y same = ap Some (same refl)
if_asked false x y same = refl

if_left : (b c : Bool) (x y : ℕ) → ((not b || c) ≡ true → x ≡ y) → cond b None (Some x) ≡ cond b None (Some y)
if_left true c x y same = refl
if_left false c x y same = ap Some (same refl)

if_either : (b c : Bool) → c ≡ true → (not b || c) ≡ true
if_either true c is = is
if_either false c is = refl

-- so the other places make no difference
either_counts : (q : ScenarioCheck) (all named kept some few counted : List (EventPlace × EventPlace))
    → (names q ≡ true → named ≡ kept) → (is_some q.marks ≡ true → some ≡ counted)
    → counts_of q all named some few ≡ counts_of q all kept counted few
either_counts q all named kept some few counted by_kind by_mark =
    let allowed = if_left (is_empty q.options.allowed) (is_some q.marks) (length (without all named)) (length (without all kept))
    (λ on. ap (λ (l : List (EventPlace × EventPlace)). length (without all l)) (by_kind on)) in
    let accepted = if_asked (is_some q.marks) (length (without named some)) (length (without kept counted))
    (λ on. let kinds = by_kind (if_either (is_empty q.options.allowed) (is_some q.marks) on) in let marks = by_mark on in λ j. length (without (kinds j) (marks j))) in
    λ j. record { races = length all; allowed = allowed j; accepted = accepted j; closest = cond q.options.closest (Some (length few)) None; listed = length few }

module _ (scenarios : List Scenario) (q : ScenarioCheck) (tallies : Bool) (old new : Answer) (seen : SeesCases scenarios q tallies old new) where
  -- behind no places
  pub seen_counts : old.all ≡ [] → old.named ≡ [] → old.counting ≡ [] → old.listed ≡ []
      → counts_of q new.all new.named new.counting new.listed ≡ place_counts q seen.cases
  seen_counts none kinds some few =
      let all = seen.all ∙ ap (λ (l : List (EventPlace × EventPlace)). places_from (all_of q) l seen.cases) none in
      let listed = seen.listed ∙ ap (λ (l : List (EventPlace × EventPlace)). places_from (asked_of q) l seen.cases) few in
      either_counts q new.all new.named (places_from (named_of q) [] seen.cases) new.counting new.listed (places_from (counting_of q) [] seen.cases)
      (λ on. seen.named on ∙ ap (λ (l : List (EventPlace × EventPlace)). places_from (named_of q) l seen.cases) kinds)
      (λ on. seen.counting on ∙ ap (λ (l : List (EventPlace × EventPlace)). places_from (counting_of q) l seen.cases) some)
      ∙ (λ j. counts_of q (all j) (places_from (named_of q) [] seen.cases) (places_from (counting_of q) [] seen.cases) (listed j))

  -- behind no scenarios
  pub seen_tally : ((p : EventPlace × EventPlace) → tally_at old.tally p ≡ 0) → tallies ≡ true
      → (p : EventPlace × EventPlace) → tally_at new.tally p ≡ counted_in q seen.cases p
  seen_tally none on p =
      let sum = seen.tally on p in let zero = none p in
      omega (arith, sum, zero)

  -- and with all marks
  pub seen_stale : old.idle.items ≡ told_marks q.marks → new.idle.items ≡ stale_marks q seen.cases
  seen_stale told = seen.idle ∙ ap (idle_in q seen.cases) told
