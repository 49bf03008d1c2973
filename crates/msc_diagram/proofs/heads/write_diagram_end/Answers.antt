use Rattle.std.proofs.Common.{Bool, ◌++◌, OnOk, codes, cond, sym, subst}
use Rattle.std.specs.Io.KnownBytes.{Appends}
use Rattle.std.proofs.lemmas.Bool.{ne_eqb}
use Rattle.msc_diagram.specs.Counts.{number_line, options_text, pass_line}
use Rattle.msc_diagram.proofs.heads.write_diagram_end.Goals as goal

pub returns : goal.returns
returns g c =
    let k = c.args.counts in let stale = c.args.stale.now in
    subst (λ (b : Bool). OnOk c.write_lists.result (Appends (g.W.Write.contents c.args.writer.now) (g.W.Write.contents c.write_lists.new.writer)
    (cond b ((pass_line c.args.drawn ++ options_text k) ++ stale) (stale ++ (number_line (codes "listed ") k.listed ++ number_line (codes "passed ") c.args.passed)))))
    (sym (ne_eqb k.races 0 c.if-counts-eq0.false)) c.write_lists.ensures
