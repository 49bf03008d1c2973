use Rattle.std.proofs.Common.{◌||◌, nat_eq, Bool, ap, ◌∙◌}
use Rattle.msc_chart.specs.Architectures.{link_kind, link_number}
use Rattle.msc_chart.proofs.LinkLemmas.{given_mailbox, given_pair, given_single}
use Rattle.msc_chart.proofs.queue.Links.give.Goals as goal

pub returns-in-Pair-clause-kinds : goal.returns-in-Pair-clause-kinds
unfolding link_kind
returns-in-Pair-clause-kinds c x y x_in y_in =
    let link = link_number x y in
    rw c.in-Pair.is (given_pair c.args.self.now.pairs c.args.self.now.mailboxes x y c.args.sender c.args.receiver y_in c.requires.receiver _ _
    (c.put.ensures link ∙ ap (λ (b : Bool). b || nat_eq link (link_number c.args.sender c.args.receiver)) (c.clear.ensures link))
    (c.clear-2.ensures link))

pub returns-in-Mailbox-clause-kinds : goal.returns-in-Mailbox-clause-kinds
unfolding link_kind
returns-in-Mailbox-clause-kinds c x y x_in y_in =
    let link = link_number x y in
    rw c.in-Mailbox.is (given_mailbox c.args.self.now.pairs c.args.self.now.mailboxes x y c.args.sender c.args.receiver y_in c.requires.receiver _ _
    (c.clear.ensures link)
    (c.put-in-Mailbox.ensures link ∙ ap (λ (b : Bool). b || nat_eq link (link_number c.args.sender c.args.receiver)) (c.clear-2.ensures link)))

pub returns-in-Single-clause-kinds : goal.returns-in-Single-clause-kinds
unfolding link_kind
returns-in-Single-clause-kinds c x y x_in y_in =
    let link = link_number x y in
    rw c.in-Single.is (given_single c.args.self.now.pairs c.args.self.now.mailboxes x y c.args.sender c.args.receiver y_in c.requires.receiver _ _
    (c.clear.ensures link)
    (c.clear-2.ensures link))
