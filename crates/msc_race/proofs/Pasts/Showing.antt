-- What short witnesses and reversing runs show.
use Rattle.std.proofs.Common.{◌≡◌, ℕ, Bool, true, false, List, [], ◌∷◌, ◌++◌, Option, None, Some, refl, sym, ap, ◌∙◌}
use Rattle.std.specs.Prelude.{MatchOption}
use Rattle.std.proofs.lemmas.Bool.{false_from_ne_true}
use Rattle.msc_chart.specs.Lists.{occurs, until}
use Rattle.msc_chart.specs.Orders.{WiredChart}
use Rattle.msc_race.proofs.Shared.{clash, occurs-push, until-within}
use Rattle.msc_race.specs.Reversals.{ComesFirst, IsReversingRun}
use Rattle.msc_race.specs.Short.{IsShortAnswer}
use Rattle.msc_race.specs.Shown.{IsShown}

-- a short witness shows its pair
pub shown_short : (chart : WiredChart) (e f : ℕ) (events : List ℕ) → IsShortAnswer chart e f events → IsShown true chart e f events
shown_short chart e f events answer = record {
  shown = answer.short;
  run = answer.shows.run;
  whole = λ other. absurd cc;
  reverses = (
    ap (λ (l : List ℕ). occurs l f) answer.shows.last ∙ occurs-push (until events f) f,
    false_from_ne_true _ (λ before. clash (until-within events f e before) answer.shows.without),
  );
  apart = answer.apart;
}

-- and so does the witness of its first event
pub shown_whole : (chart : WiredChart) (e f : ℕ) (events : List ℕ) → IsReversingRun chart e f events → IsShown false chart e f events
shown_whole chart e f events reversing = record {
  shown = reversing.witness;
  run = reversing.run;
  whole = λ _. reversing.whole;
  reverses = reversing.reverses;
  apart = reversing.apart;
}

-- what holds of a value where there is one, follows from what does
pub each_match : {T : Type 0} (N : Type 0) (P Q : T → Type 0) → ((x : T) → P x → Q x) → (o : Option T) → MatchOption o N P → MatchOption o N Q
each_match N P Q weaker None none = none
each_match N P Q weaker (Some x) some = weaker x some
