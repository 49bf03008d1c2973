use Rattle.std.proofs.Common.{inl, inr, refl}
use Rattle.msc_answer.specs.declared.verdicts.Subject.TheVariants as subjects
use Rattle.msc_wording.specs.declared.closing.MarkedText.TheVariants as texts
use Rattle.msc_scanning.proofs.Given.{refused}
use Rattle.msc_scanning.specs.Charts.{PutsCharted}
use Rattle.msc_scanning.specs.Linking.{RefusesLinked}
use Rattle.msc_scanning.specs.declared.putting.Target.{Target}
use Rattle.msc_scanning.specs.declared.queues.Linked.TheVariants as linked
use Rattle.msc_scanning.proofs.charts.put_charted.Goals as goal

pub returns-in-Ok : goal.returns-in-Ok
returns-in-Ok g c =
    let y = c.in-Ok.ensures in (
      y.0,
      record {
        names = c.as_slice.result.now;
        are_names = rw c.as_slice.ensures.value (rw c.chart-chart.ensures at c.in_ok-names.ensures);
        known = c.words.result;
        are_known = record {
          pairs = rw c.words.ensures.pairs c.in_ok-known.ensures.pairs;
          mailboxes = rw c.words.ensures.mailboxes c.in_ok-known.ensures.mailboxes;
          singles = rw c.words.ensures.singles c.in_ok-known.ensures.singles;
        };
        target = record { subject = subjects.Chart c.args.source; file = c.args.file; label = c.as_bytes.result; help = texts.Chart };
        is_target = record { subject = refl; file_is = refl; label_is = c.as_bytes.ensures.value; help_is = refl };
        puts = inl y.1;
      },
      y.2,
    )

pub returns : goal.returns
returns g c =
    let p = c.args.plan in let file = c.args.file.now in let s = c.args.source in
    let target : Target = record { subject = subjects.Chart s; file = c.args.file; label = c.as_bytes.result; help = texts.Chart } in
    refused g.O.Write.contents p file file s.now.text c.in-Err.refusal (PutsCharted p file s) (RefusesLinked p target c.words.result (linked.Chart s))
    (λ outcome printed why so. record {
      names = c.as_slice.result.now;
      are_names = rw c.as_slice.ensures.value (rw c.chart-chart.ensures at c.in_ok-names.ensures);
      known = c.words.result;
      are_known = record {
        pairs = rw c.words.ensures.pairs c.in_ok-known.ensures.pairs;
        mailboxes = rw c.words.ensures.mailboxes c.in_ok-known.ensures.mailboxes;
        singles = rw c.words.ensures.singles c.in_ok-known.ensures.singles;
      };
      target = target;
      is_target = record { subject = refl; file_is = refl; label_is = c.as_bytes.ensures.value; help_is = refl };
      puts = inr (c.in-Err.refusal, why, so);
    })
    c.put_refusal.result c.args.output.now c.check_chart.new.output c.put_refusal.new.output c.in-Err.ensures
    (rw (c.origin_of-origin.ensures.label, c.origin_of-origin.ensures.file, c.origin_of-origin.ensures.text, c.text.ensures) at c.put_refusal.ensures)
