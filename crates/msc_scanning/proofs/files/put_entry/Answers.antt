use Rattle.msc_scanning.proofs.Written.{found_file}
use Rattle.msc_scanning.proofs.files.put_entry.Goals as goal

pub returns-in-File : goal.returns-in-File
returns-in-File g c =
    found_file g.O.Write.contents c.args.plan c.args.input c.args.entry.now _ c.in-File.is c.as_str-name.result.now c.as_str-name.ensures.value c.put_file.result c.args.output.now c.put_file.new.output c.put_file.ensures
