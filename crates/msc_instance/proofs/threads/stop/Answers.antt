use Rattle.std.proofs.Common.{◌≡◌, List, Vec, Global, ◌++◌, ◌∷◌, [], length, sym, ap, ◌∙◌, subst}
use Rattle.std.specs.List.{AllZip}
use Rattle.std.specs.Vec.{with_items}
use Rattle.std.proofs.lemmas.List.{with_items_is}
use Rattle.msc_instance.specs.declared.threads.Answer.{Answer}
use Rattle.msc_instance.specs.declared.threads.Job.{Job}
use Rattle.msc_instance.specs.Threads.{IsClosedJob}
use Rattle.msc_instance.proofs.threads.stop.Goals.{in-NotRun, in-Ran}
use Rattle.msc_instance.proofs.threads.stop.Goals as goal

-- jobs in whose places closed ones were written are closed
closed_now : (old now : Vec Job Global) (l : List Job) → now ≡ with_items old l → length l ≡ old.len
    → AllZip IsClosedJob old.items l → AllZip IsClosedJob old.items now.items
closed_now old now l is long closed =
    subst (AllZip IsClosedJob old.items)
    (sym (ap (λ (v : Vec Job Global). v.items) is ∙ with_items_is old l long)) closed

-- and so they are where one more job stands behind them
closed_before : (old : Vec Job Global) (now l : List Job) (k : Job) → now ≡ (with_items old l).items ++ k ∷ []
    → length l ≡ old.len → AllZip IsClosedJob old.items l
    → (closed : List Job) × AllZip IsClosedJob old.items closed × (now ≡ closed ++ k ∷ [])
closed_before old now l k is long closed = (l, closed, is ∙ ap (λ xs. xs ++ k ∷ []) (with_items_is old l long))

pub returns-clause-stopped : goal.returns-clause-stopped
returns-clause-stopped c = elim c.match-answer.branch [
  | in-NotRun w ↦
      let is = ap (λ (v : Vec Job Global). v.items) w.jobs-is ∙ w.push_reserved.ensures.items in
      let told = closed_before c.args.jobs c.match-answer.jobs.items _ w.in-NotRun.job is
      (c.close_each.auto.jobs ∙ c.as_mut_slice.ensures.len) (rw (← c.as_mut_slice.ensures.value) c.close_each.ensures) in
      rw w.in-NotRun.is (told.0, told.1, told.2, ap (λ (v : Vec Answer Global). v.items) w.answers-is)
  | in-Ran w ↦ rw w.in-Ran.is (
    closed_now c.args.jobs c.match-answer.jobs _ w.jobs-is
        (c.close_each.auto.jobs ∙ c.as_mut_slice.ensures.len) (rw (← c.as_mut_slice.ensures.value) c.close_each.ensures),
    ap (λ (v : Vec Answer Global). v.items) w.answers-is ∙ w.push_reserved-in-Ran.ensures.items,
  )
]
