use Rattle.std.proofs.Common.{◌≡◌, ◌∙◌, ◌&&◌, ◌||◌, not, ap}
use Rattle.msc_chart.specs.declared.queue.LinkKind.TheVariants.{Pair, Mailbox, Single}
use Rattle.msc_chart.specs.Architectures.{link_word}
use Rattle.msc_links.specs.Comments.{is_near, is_slip}
use Rattle.msc_links.proofs.comment.is_slip.Goals as goal

pub returns : goal.returns
unfolding is_slip
returns c =
    let text = c.args.text.now in
    let pair : c.in_ok-pair.pair ≡ is_near text (link_word Pair) = c.in_ok-pair.ensures ∙ ap (is_near text) c.as_bytes.ensures.value in
    let mailbox : c.in_ok-mailbox.mailbox ≡ is_near text (link_word Mailbox) = c.in_ok-mailbox.ensures ∙ ap (is_near text) c.as_bytes-2.ensures.value in
    let single : c.in_ok-single.single ≡ is_near text (link_word Single) = c.in_ok-single.ensures ∙ ap (is_near text) c.as_bytes-3.ensures.value in
    c.is_one_near.ensures ∙ (λ i. not (c.has_blank-blank.ensures i) && (pair i || mailbox i || single i))
