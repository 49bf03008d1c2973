use Rattle.std.proofs.Common.{sym, ap, ◌∙◌}
use Rattle.std.specs.String.{string_bytes}
use Rattle.msc_scan.specs.Names.{kind_of_name}
use Rattle.msc_scan.proofs.WalkLemmas.{file_so, on_ok}
use Rattle.msc_scan.proofs.walk.put_file.Goals as goal

pub returns-in-Some : goal.returns-in-Some
returns-in-Some c =
    on_ok c.put.result (file_so (kind_of_name (string_bytes c.args.whole)) c.in-Some.kind (string_bytes c.args.whole) c.args.found.now.items c.put.new.found.items
    (ap kind_of_name (sym c.as_str.ensures.value) ∙ (sym c.kind_of_name.ensures ∙ c.in-Some.is))) c.put.ensures
