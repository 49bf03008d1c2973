use Rattle.std.proofs.Common.{map, ap}
use Rattle.msc_chart.proofs.Rows.{actions_texts, actions_events, actions_drawn, below_coregion_drawn, two_senders_drawn, coregion_drawn, relay_drawn, empty_coregion_events, relay_pair, relay_mailbox, relay_single, two_senders_pair, coregion_mailbox}
use Rattle.msc_chart.proofs.EnforcedRows.{two_mailboxes_enforced, actions_enforced}
use Rattle.msc_chart.proofs.laws.worked_charts.Goals as goal

pub returns : goal.returns
returns c = record {
  drawn = two_senders_drawn;
  coregion = coregion_drawn;
  relay = relay_drawn;
  below = below_coregion_drawn;
  segments = ap (map (λ e. e.segment)) empty_coregion_events;
  actions = actions_events;
  texts = actions_texts;
  action = actions_drawn;
  pair = relay_pair;
  mailbox = relay_mailbox;
  single = relay_single;
  senders = two_senders_pair;
  one = coregion_mailbox;
  enforced = two_mailboxes_enforced;
  controlled = actions_enforced;
}
