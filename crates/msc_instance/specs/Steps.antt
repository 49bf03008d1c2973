-- What an instance keeps while it runs.
use Rattle.std.specs.Prelude.{◌≡◌, ℕ, Bool, true, false, List, ◌++◌, map}
use Rattle.std.specs.List.{AllZip}
use Rattle.msc_fifo.specs.Ends.{IsSameOutlet, IsSameInlet}
use Rattle.msc_execution.specs.Roles.{Role, EndLists, NumberedOutlet, NumberedInlet}
use Rattle.msc_execution.specs.Logs.{Reading, IsLogOf, clock_along, outputs_at, inputs_at, sent, received}
use Rattle.msc_execution.specs.Growth.{all_messages, clocks_at, claim_at, IsLeftBy}

-- an open outlet after the outputs of a log
pub record IsPutBy (r : Role) (log : List ℕ) (reading : Reading) (old new : NumberedOutlet) : Type 0 where
  pub number : new.0 ≡ old.0
  pub same : IsSameOutlet old.1 new.1
  pub put : new.1.put ≡ old.1.put ++ sent r.queues r.chart old.0 log
  pub opened : new.1.closed ≡ false
  pub claims : new.1.claims ≡ old.1.claims
      ++ map (claim_at r log reading old.1.sender) (outputs_at r.queues r.chart old.0 log)

-- an inlet after the inputs of a log, where nothing strange has come
pub record IsGotBy (r : Role) (log : List ℕ) (reading : Reading) (old new : NumberedInlet) : Type 0 where
  pub number : new.0 ≡ old.0
  pub same : IsSameInlet old.1 new.1
  pub got : all_messages new.1.got ≡ all_messages old.1.got ++ received r.queues r.chart old.0 log
  pub clocks : clocks_at new.1.got new.1.clocks ≡ clocks_at old.1.got old.1.clocks
      ++ map reading.read_at (inputs_at r.queues r.chart old.0 log)

-- all outlets after the outputs of a log, open or closed
abbrev pub ArePutBy : Bool → Role → List ℕ → Reading → List NumberedOutlet → List NumberedOutlet → Type 0
ArePutBy false r log reading olds news = AllZip (IsPutBy r log reading) olds news
ArePutBy true r log reading olds news = AllZip (IsLeftBy r log reading) olds news

-- an instance between two steps: whether its outlets are closed, its ends, its log and its clock
pub record State : Type 0 where
  pub shut : Bool
  pub ends : EndLists
  pub log : List ℕ
  pub clock : ℕ

-- an instance that began with these ends and has read these clocks
pub record IsKept (r : Role) (reading : Reading) (first : EndLists) (s : State) : Type 0 where
  pub log : IsLogOf r.chart r.number s.log
  pub put : ArePutBy s.shut r s.log reading first.outlets s.ends.outlets
  pub got : AllZip (IsGotBy r s.log reading) first.inlets s.ends.inlets
  pub clock : s.clock ≡ clock_along r.chart reading.read_at s.log

-- an instance that began with these ends
pub record HasBegun (r : Role) (first : EndLists) (s : State) : Type 0 where
  pub reading : Reading
  pub kept : IsKept r reading first s
