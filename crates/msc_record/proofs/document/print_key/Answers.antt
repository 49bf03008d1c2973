use Rattle.std.proofs.Common.{◌≡◌, ◌++◌, Bor, List, ℕ, Option, subst, sym}
use Rattle.std.specs.Prelude.{OnOk}
use Rattle.std.specs.Option.{option_copied}
use Rattle.msc_record.specs.Documents.{key_front, key_part}
use Rattle.msc_record.specs.Results.{key_json}
use Rattle.msc_record.specs.Values.{json_text}
use Rattle.msc_record.proofs.WritingLemmas.{puts_on}
use Rattle.msc_record.proofs.document.print_key.Goals as goal

pub returns : goal.returns
returns c =
    let old = c.args.page.now.items in
    let last = c.print_object.new.page.items in
    subst (λ (o : Option (Bor (List ℕ))). OnOk c.print_object.result (last ≡ old ++ key_part (option_copied o))) (sym c.in-Some.is)
    (puts_on c.print_object.result old c.put.new.page.items last key_front (json_text (key_json c.in-Some.key.now)) c.in_ok-put.ensures c.print_object.ensures.printed)
