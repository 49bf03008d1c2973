use Rattle.std.proofs.Common.{◌≡◌, ℕ, true, is_some, List, ◌++◌, sym, ap, ap₂, ◌∙◌, subst}
use Rattle.std.specs.Prelude.{OnOk}
use Rattle.std.specs.List.{filter}
use Rattle.msc_reason.proofs.Sums.{listed_closest}
use Rattle.msc_reason.specs.Counting.{counting, is_alone}
use Rattle.msc_reason.specs.Marked.{cause_in, listed_from}
use Rattle.msc_reason.specs.Selected.{Selected}
use Rattle.msc_reason.proofs.selecting.Listing.fill.Goals as goal

pub push_alone-requires : goal.push_alone-requires
push_alone-requires c = (
  c.self.inside.allowed,
  record {
    event = c.args.e;
    marks = rw c.in-Some.is at c.self.invariant;
    end = c.in_ok-next_counting.ensures.segment;
    races = c.as_slice.ensures.value ∙ c.in_ok-next_counting.ensures.list;
  },
)

pub returns-clause-list : goal.returns-clause-list
returns-clause-list c =
    let e = c.self.inside.enforced in
    let allowed = c.self.inside.allowed in
    let closest : is_some c.self.inside.marks ≡ true = ap is_some c.in-Some.is in
    let alone = is_alone e.chart.events (counting e allowed (cause_in e)) in
    let text = ap₂ (λ (old races : List (ℕ × ℕ)). old ++ filter alone races) c.clear.ensures.items (c.as_slice.ensures.value ∙ c.in_ok-next_counting.ensures.list)
    ∙ listed_closest e allowed c.args.e ∙ ap (λ b. listed_from e allowed b c.args.e) (sym closest) in
    subst (λ (v : Selected). OnOk c.push_alone.result (c.push_alone.new.list.items ≡ listed_from v.judged v.allowed v.closest c.args.e)) c.self.view_is
    (subst (λ (l : List (ℕ × ℕ)). OnOk c.push_alone.result (c.push_alone.new.list.items ≡ l)) text (c.push_alone.ensures allowed (record {
      event = c.args.e;
      marks = rw c.in-Some.is at c.self.invariant;
      end = c.in_ok-next_counting.ensures.segment;
      races = c.as_slice.ensures.value ∙ c.in_ok-next_counting.ensures.list;
    })))
