use Rattle.std.proofs.Common.{ℕ, ◌+◌, List, ◌++◌, length, nat_eq, sym, ap, ap₂, ◌∙◌, subst, arith}
use Rattle.std.specs.List.{filter, list_any}
use Rattle.std.proofs.lemmas.Bool.{ne_eqb}
use Rattle.std.proofs.lemmas.List.{length-append, nil_from_length}
use Rattle.msc_race.specs.Views.{races_from, AreRacesOf}
use Rattle.msc_reason.proofs.Filtered.{filter_none, filter_some}
use Rattle.msc_reason.proofs.Sums.{kept_all, kept_below, kept_more, kept_none, kept_rest}
use Rattle.msc_reason.specs.Counting.{counts}
use Rattle.msc_reason.specs.Marked.{cause_in}
use Rattle.msc_reason.proofs.selecting.none_counts.Goals as goal

pub loop-e-init : goal.loop-e-init
loop-e-init c = record {
  reached = c.new-walk.ensures c.args.enforced.now.chart.events;
  none = let e = c.args.enforced.now in kept_none e (counts c.args.allowed (cause_in e));
}

pub some_counts-requires : goal.some_counts-requires
some_counts-requires c =
    subst (AreRacesOf c.args.enforced.now) (sym (c.as_slice.ensures.value ∙ c.in_ok-next_races.ensures.list)) c.in_ok-next_races.ensures.races

pub returns-then-some_counts : goal.returns-then-some_counts
returns-then-some_counts c =
    let e = c.args.enforced.now in
    let test = counts c.args.allowed (cause_in e) in
    let within = c.loop-e-test.true in
    let more = ap length (kept_more e test c.loop-e.e) ∙ length-append (kept_below e test c.loop-e.e) _ in
    let all = kept_rest e test (c.loop-e.e + 1) (omega (arith, within, c.events-e-end.ensures)) in
    let is = ap (list_any test) (sym (c.as_slice.ensures.value ∙ c.in_ok-next_races.ensures.list)) ∙ sym c.some_counts.ensures ∙ c.if-some_counts.true in
    let some = filter_some test (races_from e c.loop-e.e) is in
    sym (ne_eqb _ 0 (λ none. some (nil_from_length (filter test (races_from e c.loop-e.e)) (omega (arith, more, all, none)))))

pub loop-e-preserved : goal.loop-e-preserved
loop-e-preserved c =
    let e = c.args.enforced.now in
    let test = counts c.args.allowed (cause_in e) in
    let is = ap (list_any test) (sym (c.as_slice.ensures.value ∙ c.in_ok-next_races.ensures.list)) ∙ sym c.some_counts.ensures ∙ c.if-some_counts.false in
    record {
      reached = c.in_ok-next_races.ensures.reached;
      none = kept_more e test c.loop-e.e
          ∙ ap₂ (λ (xs ys : List (ℕ × ℕ)). xs ++ ys) c.loop-e.invariant.none (filter_none test (races_from e c.loop-e.e) is);
    }

pub returns : goal.returns
returns c =
    let e = c.args.enforced.now in
    let end = c.loop-e.auto.e-end in
    let past = c.loop-e-test.false in
    let all = kept_all e (counts c.args.allowed (cause_in e)) c.loop-e.e (omega (arith, end, past, c.events-e-end.ensures)) in
    sym (ap (λ (l : List (ℕ × ℕ)). nat_eq (length l) 0) (sym all ∙ c.loop-e.invariant.none))
