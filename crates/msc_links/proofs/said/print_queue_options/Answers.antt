use Rattle.std.proofs.Common.{List, ℕ, ◌++◌, codes, length, map, ap, ◌∙◌}
use Rattle.std.specs.Borrow.{Bor}
use Rattle.std.proofs.lemmas.List.{append_assoc}
use Rattle.msc_chart.specs.Architectures.{queues_word}
use Rattle.msc_links.specs.declared.listing.ListedLink.{ListedLink}
use Rattle.msc_links.specs.Listed.{listed_links}
use Rattle.msc_links.specs.Said.{options_text, queue_options}
use Rattle.msc_links.proofs.said.print_queue_options.Goals as goal

pub returns : goal.returns
unfolding queue_options
returns c =
    let d = c.args.chart.now in
    let queues = c.args.queues.now in
    let base = c.args.text.now.items in
    let before = c.extend_from_slice-2.new.self.items in
    let names = ap (map (λ (name : Bor (List ℕ)). name.now)) c.as_slice.ensures.value ∙ c.in_ok-names.ensures in
    let listed = c.as_slice-2.ensures.value ∙ c.in_ok-listed.ensures ∙ ap (listed_links queues) c.instances.ensures.number in
    let options = options_text d.instances (listed_links queues (length d.instances)) in
    let word = c.in_ok-extend_from_slice-2.ensures.items
    ∙ ap (λ (t : List ℕ). t ++ c.as_bytes.result.now) c.in_ok-extend_from_slice.ensures.items
    ∙ ap (λ (w : List ℕ). (base ++ codes "--queues ") ++ w) (c.as_bytes.ensures.value ∙ c.word.ensures) in
    c.in_ok-print_link_options.ensures
    ∙ ap (λ (n : List (List ℕ)). before ++ options_text n c.as_slice-2.result.now) names
    ∙ ap (λ (l : List ListedLink). before ++ options_text d.instances l) listed
    ∙ ap (λ (t : List ℕ). t ++ options) (word ∙ append_assoc base (codes "--queues ") (queues_word queues))
    ∙ append_assoc base (codes "--queues " ++ queues_word queues) options
    ∙ ap (λ (t : List ℕ). base ++ t) (append_assoc (codes "--queues ") (queues_word queues) options)
