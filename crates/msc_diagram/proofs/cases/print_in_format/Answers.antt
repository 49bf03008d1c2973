use Rattle.std.proofs.Common.{◌≡◌, ℕ, List, ◌++◌, length, sym, ap, ◌∙◌, subst, eqb-true, cond, nat_eq, Some, None, inl, inr, refl}
use Rattle.std.proofs.lemmas.List.{append-nil}
use Rattle.std.proofs.lemmas.Result.{err_from_is_err_and}
use Rattle.msc_chart.specs.Drawings.{Drawing}
use Rattle.msc_chart.specs.Lists.{Occurs}
use Rattle.msc_print.proofs.Putting.{begins_none, pages_in}
use Rattle.msc_race.specs.Views.{races_of, AreRacesOf}
use Rattle.msc_race.specs.Wired.{IsEnforced}
use Rattle.msc_reason.specs.Counting.{is_listed, listed}
use Rattle.msc_reason.specs.Marked.{cause_in}
use Rattle.msc_judge.specs.Findings.{Texts}
use Rattle.msc_judge.specs.Telling.{race_text}
use Rattle.msc_diagram.specs.Places.{fresh, AreAllPlaces}
use Rattle.msc_diagram.specs.Scenarios.{head_text}
use Rattle.msc_diagram.specs.Telling.{has_heads, AreTextsBy}
use Rattle.msc_diagram.proofs.Below.{all_are_races, has_some, kept_are, races_known}
use Rattle.msc_diagram.proofs.Fresh.{fresh_part}
use Rattle.msc_diagram.proofs.Told.{new_told, no_texts, none_told, told_none}
use Rattle.msc_diagram.proofs.cases.print_in_format.Goals as goal

pub new_listed-requires : goal.new_listed-requires
new_listed-requires g c =
    ap length c.as_slice.ensures.value ∙ c.in_ok-places.ensures.size ∙ ap (λ (d : Drawing). length d.events) (sym c.requires.chart)

pub returns-in_err-places-clause-put : goal.returns-in_err-places-clause-put
returns-in_err-places-clause-put g c runs are =
    let exit = err_from_is_err_and c.from_residual.result c.from_residual.ensures.1 in
    rw (exit.1, exit.2) (inr (refl, begins_none _ _))

pub returns-in_err-new-clause-put : goal.returns-in_err-new-clause-put
returns-in_err-new-clause-put g c runs are =
    let exit = err_from_is_err_and c.from_residual-in_err-new.result c.from_residual-in_err-new.ensures.1 in
    rw (exit.1, exit.2) (inr (refl, begins_none _ _))

-- no race is new
pub returns-then-is_empty-clause-put : goal.returns-then-is_empty-clause-put
returns-then-is_empty-clause-put g c runs are =
    let s = c.args.listing.now in
    let a = c.args.asked in
    let q = a.check in
    let n = c.args.numbered in
    let text = race_text no_texts s.judged q.options runs in
    let head : List ℕ = head_text (cond (has_heads a.format) (Some n.number) None) n.scenario.now.choices n.races in
    let page : List ℕ = c.args.page.now.bytes.items in
    let places = subst (AreAllPlaces n.scenario.now) (sym c.as_slice.ensures.value) c.in_ok-places.ensures in
    let new = c.in_ok-new.ensures.list n.scenario.now places in
    let none : length c.in_ok-new.new.items ≡ 0 = sym c.in_ok-new.new.ok.0 ∙ eqb-true _ _ (sym c.is_empty.ensures ∙ c.if-is_empty.true) in
    let empty = sym (ap length new) ∙ none in
    inl (
      no_texts,
      none_told (AreTextsBy a.format a.check.queues) n.number (length c.args.reported.now) n.scenario.now no_texts _ empty,
      pages_in _ page page _ (sym (ap (λ (t : List ℕ). page ++ t) (told_none text head q.options.most (length c.args.reported.now) _ empty) ∙ append-nil page)),
    )

-- what is new is a race
pub print_new-requires-clause-races : goal.print_new-requires-clause-races
print_new-requires-clause-races g c =
    let s = c.args.listing.now in
    let n = c.args.numbered in
    let is = subst IsEnforced c.enforced.ensures c.facts.ensures.order in
    let places = subst (AreAllPlaces n.scenario.now) (sym c.as_slice.ensures.value) c.in_ok-places.ensures in
    let new = c.as_slice-2.ensures.value ∙ c.in_ok-new.ensures.list n.scenario.now places in
    let races : AreRacesOf s.judged (listed s.judged s.allowed s.closest (cause_in s.judged))
    = kept_are s.judged (is_listed s.judged s.allowed s.closest (cause_in s.judged)) (races_of s.judged) (all_are_races s.judged is) in
    λ y z there. races y z (fresh_part n.scenario.now c.args.reported.now _ (y, z) (subst (λ (l : List (ℕ × ℕ)). Occurs l (y, z)) new there))

-- so both of its events are known
pub print_new-requires-clause-within : goal.print_new-requires-clause-within
print_new-requires-clause-within g c =
    let s = c.args.listing.now in
    let n = c.args.numbered in
    let is = subst IsEnforced c.enforced.ensures c.facts.ensures.order in
    let places = subst (AreAllPlaces n.scenario.now) (sym c.as_slice.ensures.value) c.in_ok-places.ensures in
    let new = c.as_slice-2.ensures.value ∙ c.in_ok-new.ensures.list n.scenario.now places in
    let races : AreRacesOf s.judged (listed s.judged s.allowed s.closest (cause_in s.judged))
    = kept_are s.judged (is_listed s.judged s.allowed s.closest (cause_in s.judged)) (races_of s.judged) (all_are_races s.judged is) in
    let size = ap length c.as_slice-3.ensures.value ∙ c.in_ok-places.ensures.size ∙ ap (λ (d : Drawing). length d.events) (sym c.requires.chart) in
    races_known s.judged c.as_slice-2.result.now (length c.as_slice-3.result.now)
    (λ y z there. races y z (fresh_part n.scenario.now c.args.reported.now _ (y, z) (subst (λ (l : List (ℕ × ℕ)). Occurs l (y, z)) new there))) (sym size)

pub print_new-requires-clause-places : goal.print_new-requires-clause-places
print_new-requires-clause-places g c =
    subst (AreAllPlaces c.args.numbered.scenario.now) (sym c.as_slice-3.ensures.value) c.in_ok-places.ensures

-- the head and the races
pub returns-clause-put : goal.returns-clause-put
returns-clause-put g c runs are =
    let s = c.args.listing.now in
    let a = c.args.asked in
    let n = c.args.numbered in
    let head : List ℕ = head_text (cond (has_heads a.format) (Some n.number) None) n.scenario.now.choices n.races in
    let places = subst (AreAllPlaces n.scenario.now) (sym c.as_slice.ensures.value) c.in_ok-places.ensures in
    let new = c.as_slice-2.ensures.value ∙ c.in_ok-new.ensures.list n.scenario.now places in
    let some : c.is_empty.result ≡ nat_eq (length c.as_slice-2.result.now) 0
    = c.is_empty.ensures ∙ ap (λ k. nat_eq k 0) (c.in_ok-new.new.ok.0 ∙ ap length (sym c.as_slice-2.ensures.value)) in
    new_told (AreTextsBy a.format a.check.queues) (λ (texts : Texts). race_text texts s.judged a.check.options runs) head a.check.options.most n.number c.len-first.result (length c.args.reported.now) n.scenario.now
    c.as_slice-2.result.now (fresh n.scenario.now c.args.reported.now (listed s.judged s.allowed s.closest (cause_in s.judged)))
    c.print_new.result (g.W.Write.contents c.args.writer.now) (g.W.Write.contents c.print_new.new.writer) c.args.page.now.bytes.items c.print_new.new.page.bytes.items
    c.len-first.ensures.value new (has_some c.as_slice-2.result.now c.is_empty.result some c.if-is_empty.false) (c.print_new.ensures runs are)
