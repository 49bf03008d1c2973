-- The event that is due next, and when an instance is ready for it.
use Rattle.std.proofs.Common.{◌≡◌, ℕ, ◌<◌, true, List, sym, subst, arith}
use Rattle.msc_chart.specs.Lists.{occurs}
use Rattle.msc_chart.specs.Charts.{before, is_controlled, is_output}
use Rattle.msc_chart.specs.Drawings.{Drawing}
use Rattle.msc_execution.specs.Running.{IsFirstDue, IsReadyToSend}
use Rattle.msc_instance.specs.declared.active.Post.{Post}
use Rattle.msc_instance.specs.Active.{post_role, IsPost, IsNext}
use Rattle.msc_instance.proofs.Logs.{on_post, logged_below, not_logged}

module _ (d : Drawing) (p : Post) (post : IsPost d p) (log : List ℕ) (next : ℕ)
    (is : IsNext d p log next) (within : next < p.end) (yes' : is_controlled d.events next ≡ true) where
  -- it is the first that is due
  pub first_due : IsFirstDue d p.instance log next
  first_due = record {
    controlled = yes';
    on_line = (on_post d p post log next is next is.from within).1;
    missing = not_logged d p post log next is next (omega arith) yes';
    first = logged_below d p post log next is;
  }

  -- so an instance is ready for it, where it is an output and all that is drawn before it is logged
  pub ready_to_send : (now : List ℕ) → now ≡ log → is_output d.events next ≡ true
      → ((x : ℕ) → before d.events x next ≡ true → occurs log x ≡ true) → IsReadyToSend (post_role d p) now
  ready_to_send now same sends all = subst (IsReadyToSend (post_role d p)) (sym same)
      (record { output = next; due = first_due; sends = sends; ready = all })
