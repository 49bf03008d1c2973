use Rattle.msc_scanning.proofs.Written.{failed_file}
use Rattle.msc_scanning.proofs.files.put_file.Goals as goal

pub returns-in-Err-Device : goal.returns-in-Err-Device
returns-in-Err-Device g c = failed_file g.O.Write.contents c.args.plan c.args.input c.args.name.now c.args.kind c.put_failed.result c.args.output.now c.put_failed.new.output c.put_failed.ensures
