-- The lines of an architecture: its word, and the links that are listed.
use Rattle.std.specs.Prelude.{ℕ, List, ◌++◌, codes, length}
use Rattle.std.specs.List.{flat_map}
use Rattle.msc_chart.specs.declared.queue.Queues.{Queues}
use Rattle.msc_chart.specs.Architectures.{link_word}
use Rattle.msc_chart.specs.Drawings.{Drawing}
use Rattle.msc_links.specs.declared.listing.ListedLink.{ListedLink}
use Rattle.msc_links.specs.Listed.{listed_links}
use Rattle.msc_links.specs.Said.{link_text}
use Rattle.msc_report.specs.Texts.{text_line}
use Rattle.msc_report.specs.Verdicts.{queues_line}

-- the line of a link, or of an instance for all links to it
abbrev pub link_line : Drawing → ListedLink → List ℕ
link_line d listed =
    codes "link " ++ (link_text d.instances listed.link ++ (codes " " ++ text_line (link_word listed.kind)))

-- the lines of links
abbrev pub link_lines : Drawing → List ListedLink → List ℕ
link_lines d listed = flat_map (link_line d) listed

-- the lines of the links that are listed
abbrev pub links_text : Drawing → Queues → List ℕ
links_text d queues = link_lines d (listed_links queues (length d.instances))

-- the lines of an architecture
abbrev pub queues_text : Drawing → Queues → List ℕ
queues_text d queues = queues_line queues ++ links_text d queues
