use Rattle.msc_race.proofs.Worked.OneOrOther.{crossing_one, mailboxes_one}
use Rattle.msc_race.proofs.Worked.RaceRows as rows
use Rattle.msc_race.proofs.laws.worked_runs.Goals as goal

pub returns : goal.returns
returns c = record {
  two_senders_pair = rows.two_senders_pair_run;
  two_senders_mailbox = rows.two_senders_mailbox_run;
  no_run = rows.two_senders_no_run;
  relay_pair = rows.relay_pair_run;
  overtaken = rows.overtaking_run;
  crossing_a = rows.crossing_a;
  crossing_b = rows.crossing_b;
  crossing_one = crossing_one;
  mailboxes_q = rows.mailboxes_q;
  mailboxes_z = rows.mailboxes_z;
  mailboxes_one = mailboxes_one;
}
