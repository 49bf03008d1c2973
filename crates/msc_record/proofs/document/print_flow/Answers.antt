use Rattle.std.proofs.Common.{◌≡◌, ◌++◌, Bor, List, ℕ, Option, subst, sym}
use Rattle.std.specs.Prelude.{OnOk}
use Rattle.std.specs.Option.{option_copied}
use Rattle.msc_record.specs.Documents.{flow_back, flow_front, flows_part}
use Rattle.msc_record.proofs.WritingLemmas.{puts_on}
use Rattle.msc_record.proofs.document.print_flow.Goals as goal

pub returns : goal.returns
returns c =
    let run = c.in-Some.run'.now in
    let old = c.args.page.now.items in
    let last = c.put-3.new.page.items in
    subst (λ (o : Option (Bor (List ℕ))). OnOk c.put-3.result (last ≡ old ++ flows_part (option_copied o))) (sym c.in-Some.is)
    (puts_on c.put-3.result old c.put.new.page.items last flow_front (run ++ flow_back) c.in_ok-put.ensures
    (puts_on c.put-3.result c.put.new.page.items c.put-2.new.page.items last run flow_back c.in_ok-put-2.ensures c.put-3.ensures))
