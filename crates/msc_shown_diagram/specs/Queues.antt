-- An architecture between the lines of a diagram.
use Rattle.std.specs.Prelude.{ℕ, List, encode_utf8_all, map}
use Rattle.msc_chart.specs.declared.queue.Queues.{Queues}
use Rattle.msc_links.specs.Said.{queues_named}
use Rattle.msc_speech.specs.Names.{ident_said}
use Rattle.msc_spoken.specs.Showing.{shown_text}

-- An architecture as it is written, between this number of lines with these identifiers: each line is
-- named by its identifier, as people read it.
abbrev pub queues_written : List (List ℕ) → ℕ → Queues → List ℕ
queues_written idents count queues =
    encode_utf8_all (shown_text (queues_named (map ident_said idents) count queues))
