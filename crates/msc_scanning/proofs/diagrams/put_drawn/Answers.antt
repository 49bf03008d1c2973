use Rattle.std.proofs.Common.{inr}
use Rattle.msc_scanning.proofs.Given.{refused}
use Rattle.msc_scanning.specs.Diagrams.{PutsScenarios, RefusesDrawn}
use Rattle.msc_scanning.proofs.diagrams.put_drawn.Goals as goal

pub returns : goal.returns
returns g c =
    let p = c.args.plan in let drawn = c.args.drawn in let site = drawn.site in
    refused g.O.Write.contents p site.label.now site.diagram.file.now site.diagram.text.now c.in-Err.refusal (PutsScenarios p drawn)
    (RefusesDrawn p drawn c.args.first c.words.result)
    (λ outcome printed why so. record {
      first = c.args.first;
      is_first = c.requires;
      names = c.as_slice.result.now;
      are_names = rw c.as_slice.ensures.value c.in_ok-names.ensures;
      known = c.words.result;
      are_known = record {
        pairs = rw c.words.ensures.pairs c.in_ok-known.ensures.pairs;
        mailboxes = rw c.words.ensures.mailboxes c.in_ok-known.ensures.mailboxes;
        singles = rw c.words.ensures.singles c.in_ok-known.ensures.singles;
      };
      puts = inr (c.in-Err.refusal, why, so);
    })
    c.put_refusal.result c.args.output.now c.check_drawn.new.output c.put_refusal.new.output c.in-Err.ensures
    (rw (c.origin_of-origin.ensures.label, c.origin_of-origin.ensures.file, c.origin_of-origin.ensures.text) at c.put_refusal.ensures)
