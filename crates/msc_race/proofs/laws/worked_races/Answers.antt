use Rattle.msc_race.proofs.Worked.RaceRows as rows
use Rattle.msc_race.proofs.laws.worked_races.Goals as goal

pub returns : goal.returns
returns c = record {
  two_senders_pair = rows.two_senders_pair;
  two_senders_mailbox = rows.two_senders_mailbox;
  coregion = rows.coregion_none;
  relay_pair = rows.relay_pair;
  relay_single = rows.relay_single;
  relay_mailbox = rows.relay_mailbox;
  relay_enforced = rows.relay_enforced;
  overtaking = rows.overtaking_races;
  overtaking_enforced = rows.overtaking_enforced;
  crossing = rows.crossing_races;
  mailboxes = rows.mailboxes_races;
}
