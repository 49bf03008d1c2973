-- What is read of the queue of an event that may come next.
use Rattle.std.proofs.Common.{◌≡◌, ℕ, ◌<◌, List, length, get_or, ap, ◌∙◌, arith}
use Rattle.msc_chart.specs.Charts.{partner}
use Rattle.msc_chart.specs.Orders.{WiredChart, queue}
use Rattle.msc_race.specs.declared.queued_run.QueuedRun.{QueuedRun}
use Rattle.msc_race.specs.QueuedRuns.{IsComing}
use Rattle.msc_race.proofs.Making.LinkLemmas.{any_default}

-- what is read at a place of a list stands there
pub read_at : (xs : List ℕ) (i k d r : ℕ) → i ≡ k → k < length xs → r ≡ get_or xs i d → r ≡ get_or xs k 0
read_at xs i k d r same within read =
    read ∙ ap (λ (j : ℕ). get_or xs j d) same ∙ any_default xs k d 0 within

module _ {chart : WiredChart} {c : QueuedRun} {x : ℕ} (here : IsComing chart c x) where
  -- the queue of x has a head
  pub has_head : queue chart x < length c.heads.items
  has_head = here.were.heads x here.may.event here.message

  -- and a last output
  pub has_last : queue chart x < length c.lasts.items
  has_last = let within = has_head in let size = here.were.lasts in omega (arith, within, size)

  -- its head, as it is read
  pub head_read : (q d r : ℕ) → q ≡ queue chart x → r ≡ get_or c.heads.items q d → r ≡ get_or c.heads.items (queue chart x) 0
  head_read q d r same = read_at c.heads.items q (queue chart x) d r same has_head

  -- and its last output
  pub last_read : (q d r : ℕ) → q ≡ queue chart x → r ≡ get_or c.lasts.items q d → r ≡ get_or c.lasts.items (queue chart x) 0
  last_read q d r same = read_at c.lasts.items q (queue chart x) d r same has_last

  -- and the link of the output of its message
  pub next_read : (s d r : ℕ) → s ≡ partner chart.events x → r ≡ get_or c.next.items s d → r ≡ get_or c.next.items (partner chart.events x) 0
  next_read s d r same =
      let within = here.is_wired.matched.in_range x here.may.event in
      let size = here.were.next in
      read_at c.next.items s (partner chart.events x) d r same (omega (arith, within, size))
