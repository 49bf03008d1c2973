use Rattle.std.proofs.Common.{◌≡◌, ◌++◌, map, take}
use Rattle.msc_links.specs.Said.{options_text}
use Rattle.msc_links.proofs.said.print_link_options.Given as goal

-- the options of the links so far have been printed
abbrev pub invariant-loop-each : goal.invariant-loop-each
invariant-loop-each l =
    l.text.items ≡ l.initial.text.items ++ options_text (map (λ name. name.now) l.names) (take l.each-index l.listed)
