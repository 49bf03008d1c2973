use Rattle.std.proofs.Common.{refl, ap, sym, ◌∙◌, subst, arith}
use Rattle.std.specs.Vec.{with_items}
use Rattle.std.proofs.lemmas.List.{with_items_is}
use Rattle.msc_chart.specs.Lists.{occurs}
use Rattle.msc_chart.proofs.ListLemmas.{clash}
use Rattle.msc_execution.specs.Roles.{EndLists, role}
use Rattle.msc_execution.specs.Running.{AreEager, HasRun}
use Rattle.msc_instance.specs.Active.{IsPost}
use Rattle.msc_instance.specs.Views.{ends_of}
use Rattle.msc_instance.proofs.Beginning.{begins}
use Rattle.msc_instance.proofs.Kept.{leaves}
use Rattle.msc_instance.proofs.running.run_instance.Goals as goal

pub run-last-requires : goal.run-last-requires
run-last-requires g c =
    let within = c.lines_are_ranges.ensures.within c.args.chart.now c.args.i in
    let first = c.line-start.ensures.first in
    let past = c.line-start.ensures.past_last in
    let post : IsPost c.args.chart.now
    (record {
      queues = c.args.ends.queues;
      instance = c.args.i;
      start = c.line-start.result.0;
      end = c.line-start.result.1;
      began = c.of-began.result;
    }) = record {
      laws = record {
        rise = c.lines_are_ranges.ensures.rise;
        outlets = c.outputs_have_outlets.ensures;
        quotas = c.logs_keep_quotas.ensures;
        own = c.inlets_bring_own.ensures;
      };
      accepted = c.facts.ensures;
      line = c.line-start.ensures.range;
      ordered = omega (arith, within.0, first, past);
      within = omega (arith, within.1, past);
      fit = rw c.of-began.ensures c.requires.fit;
    } in
    begins _ _ _ post (ap ends_of (sym c.of-began.ensures)) (ap (λ l. l.items) c.new.ensures
    ∙ c.requires.empty) refl refl refl refl
    (rw c.new.ensures c.requires.room)

pub returns-clause-run : goal.returns-clause-run
returns-clause-run g c =
    let a = c.run-last.new.self in
    let same = with_items_is a.outlets c.close_all.new.outlets (c.close_all.auto.outlets
    ∙ c.as_mut_slice.ensures.len) in
    subst (λ (first : EndLists).
    HasRun (role c.args.ends.queues c.args.chart.now c.args.i) g.G.Gate.is_open c.args.patience
    first
    (record {
      log = a.journal.log.items;
      ends =
          record {
            outlets = (with_items a.outlets c.close_all.new.outlets).items;
            inlets =
                a.inlets.items;
          };
      end = c.run-last.result;
    }))
    (ap ends_of c.of-began.ensures)
    (leaves (role c.args.ends.queues c.args.chart.now c.args.i) g.G.Gate.is_open c.args.patience
    (ends_of c.of-began.result.value) a.shut a.outlets.items
    (with_items a.outlets c.close_all.new.outlets).items a.inlets.items a.journal.log.items c.run-last.result
    (rw (same, ← c.as_mut_slice.ensures.value) c.close_all.ensures)
    (λ late eager. c.run-last.ensures.in_time late
    (subst (λ (first : EndLists). AreEager first.inlets) (ap ends_of c.of-began.ensures) eager))
    (λ zero. c.run-last.ensures.untaken zero
    ∙ ap (λ (first : EndLists). first.inlets) (ap ends_of (sym c.of-began.ensures)))
    c.run-last.ensures.ends)

pub returns-clause-asked : goal.returns-clause-asked
unfolding occurs
returns-clause-asked g c =
    c.run-last.ensures.asked
    (λ e there. clash (sym (ap (λ l. occurs l e) (ap (λ l. l.items) c.new.ensures ∙ c.requires.empty)) ∙ there) refl)
