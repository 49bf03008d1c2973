use Rattle.msc_markdown.specs.Markdowns.{markdown}
use Rattle.msc_import.specs.Importing.{diagram_from, scenario_of}
use Rattle.msc_import.specs.Whole.{all_of}
use Rattle.msc_import.proofs.ImportLemmas.{found_read, found_unread}
use Rattle.msc_import.proofs.laws.reading_comes_first.Goals as goal

pub returns : goal.returns
returns c = record {
  one_of_diagram = λ x text d is. found_read (scenario_of x) (diagram_from x.language x.cross x.fence) (markdown text) d is;
  one_refused = λ x text r is. found_unread (scenario_of x) (diagram_from x.language x.cross x.fence) (markdown text) r is;
  of_diagram = λ x text d is. found_read (all_of x) (diagram_from x.language x.cross x.fence) (markdown text) d is;
  refused = λ x text r is. found_unread (all_of x) (diagram_from x.language x.cross x.fence) (markdown text) r is;
}
