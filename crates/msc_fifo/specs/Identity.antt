-- Which queue an end belongs to.
use Rattle.atomic_table.specs.Seated.{TableId}

-- What no other queue shares with a queue. It is only ever compared: what stands in it belongs to
-- how queues are held
pub record QueueId : Type 0 where
  pub table : TableId
