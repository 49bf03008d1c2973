-- What came back of the instances, with one telling of what was read and of what is strange.
use Rattle.std.proofs.Common.{◌⊎◌, ℕ, ◌<◌, ◌≤◌, Bool, List, [], length, inl, inr, arith}
use Rattle.std.specs.List.{AllZip}
use Rattle.std.proofs.lemmas.Bool.{cases_lt}
use Rattle.msc_chart.specs.declared.queue.Queues.{Queues}
use Rattle.msc_chart.specs.Drawings.{Drawing}
use Rattle.msc_fifo.specs.Identity.{QueueId}
use Rattle.msc_execution.specs.Roles.{role, wired_ends}
use Rattle.msc_execution.specs.Logs.{Reading}
use Rattle.msc_execution.specs.Growth.{IsLeftBy, HasTaken}
use Rattle.msc_execution.specs.Running.{EndsAs}
use Rattle.msc_execution.proofs.Settling.Came.{Came, left_at, HaveRunFresh, HaveEnded}

-- what is strange, told for all instances at once
module _ (queues : Queues) (d : Drawing) (open' : Bool) (patience : ℕ) (id : ℕ → QueueId) (c : Came)
    (runs : HaveRunFresh queues d open' patience id c) where
  -- what an instance read, nothing past the last one
  reading_by : (i : ℕ) → (i < length d.instances) ⊎ (length d.instances ≤ i) → Reading
  reading_by i (inl lt) = (runs i lt).reading
  reading_by i (inr ge) = record { read_at = λ e. 0; place_at = λ e. 0 }

  -- what was strange to it
  strange_by : (i : ℕ) → (i < length d.instances) ⊎ (length d.instances ≤ i) → ℕ → List ℕ
  strange_by i (inl lt) = (runs i lt).run.strange
  strange_by i (inr ge) = λ q. []

  -- what became of its outlets
  put_by : (i : ℕ) (w : (i < length d.instances) ⊎ (length d.instances ≤ i))
      → i < length d.instances
      → AllZip (IsLeftBy (role queues d i) (c.logs i) (reading_by i w))
      (wired_ends id (role queues d i)).outlets (c.back i).outlets
  unfolding reading_by
  put_by i (inl lt) within = (runs i lt).run.put
  put_by i (inr ge) within = absurd (omega arith)

  -- what became of its inlets
  got_by : (i : ℕ) (w : (i < length d.instances) ⊎ (length d.instances ≤ i))
      → i < length d.instances
      → AllZip (HasTaken (role queues d i) (c.logs i) (reading_by i w) (strange_by i w))
      (wired_ends id (role queues d i)).inlets (c.back i).inlets
  unfolding reading_by strange_by
  got_by i (inl lt) within = (runs i lt).run.got
  got_by i (inr ge) within = absurd (omega arith)

  -- how it ended
  ended_by : (i : ℕ) (w : (i < length d.instances) ⊎ (length d.instances ≤ i))
      → i < length d.instances
      → EndsAs (role queues d i) open' patience (reading_by i w) (left_at c i) (strange_by i w)
      (c.ends i)
  unfolding reading_by strange_by
  ended_by i (inl lt) within = (runs i lt).run.ended
  ended_by i (inr ge) within = absurd (omega arith)

  -- all of that, for all instances
  all_ended : HaveEnded queues d open' patience id c
  all_ended = record {
    grown = record {
      readings = λ i. reading_by i (cases_lt i (length d.instances));
      strange = λ i. strange_by i (cases_lt i (length d.instances));
      put = λ i lt. put_by i (cases_lt i (length d.instances)) lt;
      got = λ i lt. got_by i (cases_lt i (length d.instances)) lt;
    };
    logs = λ i lt. (runs i lt).run.log;
    ended = λ i lt. ended_by i (cases_lt i (length d.instances)) lt;
  }

-- so runs of all instances are grown ends with one telling of what is strange
pub runs_ended : (queues : Queues) (d : Drawing) (open' : Bool) (patience : ℕ) (id : ℕ → QueueId)
    (c : Came)
    → HaveRunFresh queues d open' patience id c → HaveEnded queues d open' patience id c
runs_ended queues d open' patience id c runs = all_ended queues d open' patience id c runs
