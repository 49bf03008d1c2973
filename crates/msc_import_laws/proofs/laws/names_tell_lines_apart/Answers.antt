use Rattle.std.proofs.Common.{ap}
use Rattle.msc_import_laws.specs.Lines.{drawn_name}
use Rattle.msc_import_laws.proofs.LineNames.{drawn_apart}
use Rattle.msc_import_laws.proofs.Texts.{text_once, text_outlined}
use Rattle.msc_import_laws.proofs.laws.names_tell_lines_apart.Goals as goal

pub returns : goal.returns
returns c = record {
  apart = λ how text d x y e o k.
      (drawn_apart d.lines x y (text_outlined how.language how.cross how.fence text d e).few_lines o k, λ same. ap (drawn_name d) same);
  once = λ how text d e. text_once how.language how.cross how.fence text d e;
}
