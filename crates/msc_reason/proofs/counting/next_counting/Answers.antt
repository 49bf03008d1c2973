use Rattle.std.proofs.Common.{◌≡◌, ℕ, List, sym, ◌∙◌, subst}
use Rattle.std.specs.Prelude.{OnOk}
use Rattle.msc_race.specs.Views.{races_from, AreRacesOf}
use Rattle.msc_reason.proofs.Counted.{all_counted}
use Rattle.msc_reason.specs.Marked.{cause_in}
use Rattle.msc_reason.proofs.counting.next_counting.Goals as goal

pub returns-then-is_empty-clause-list : goal.returns-then-is_empty-clause-list
returns-then-is_empty-clause-list c =
    let e = c.args.enforced.now in
    subst (λ (l : List (ℕ × ℕ)). OnOk c.next_races.result (c.next_races.new.list.items ≡ l))
    (sym (all_counted c.args.allowed (cause_in e) (races_from e c.args.e) (sym c.is_empty.ensures ∙ c.if-is_empty.true))) c.next_races.ensures.list

pub push_counting-requires : goal.push_counting-requires
push_counting-requires c =
    subst (AreRacesOf c.args.enforced.now) (sym (c.as_slice.ensures.value ∙ c.in_ok-next_races.ensures.list)) c.in_ok-next_races.ensures.races
