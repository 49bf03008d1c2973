-- How the run of an instance begins.
use Rattle.std.proofs.Common.{◌≡◌, ℕ, ◌<◌, ◌≤◌, false, List, [], ◌∷◌, length, refl, sym, arith, All, vec_capacity}
use Rattle.std.specs.List.{AllZip}
use Rattle.std.proofs.lemmas.List.Elements.{All-head, All-tail}
use Rattle.msc_chart.specs.Drawings.{Drawing}
use Rattle.msc_chart.proofs.ListLemmas.{clash}
use Rattle.msc_execution.specs.Roles.{Role, EndLists, NumberedOutlet, IsFit}
use Rattle.msc_execution.specs.Logs.{Reading, IsLogOf, line_events, controlled}
use Rattle.msc_instance.specs.declared.active.Active.{Active}
use Rattle.msc_instance.specs.declared.active.Post.{Post}
use Rattle.msc_instance.specs.Steps.{IsPutBy, IsGotBy, HasBegun}
use Rattle.msc_instance.specs.Active.{IsPost, IsSound, logged_by, post_role, first_ends, ends_now, line_below}
use Rattle.msc_instance.proofs.Occurs.{occurs-nil}
use Rattle.msc_instance.proofs.Growing.{clock_nil}
use Rattle.msc_instance.proofs.Stepped as stepped
use Rattle.msc_instance.proofs.Zipped.{zip_self}
use Rattle.msc_instance.proofs.Logs.{none_below}
use Rattle.msc_instance.proofs.Begun.{state_with}

-- the outlets are open, and nothing is put
all_begun : (r : Role) (reading : Reading) (outs : List NumberedOutlet)
    → All (λ (o : NumberedOutlet). o.1.closed ≡ false) outs
    → AllZip (IsPutBy r [] reading) outs outs
all_begun r reading [] all = tt
all_begun r reading (o ∷ outs) all = (
  stepped.begun r [] reading o o reading (All-head (λ (x : NumberedOutlet). x.1.closed ≡ false) o outs all),
  all_begun r reading outs (All-tail (λ (x : NumberedOutlet). x.1.closed ≡ false) o outs all),
)

-- nothing is a log of any instance
empty_log : (d : Drawing) (i : ℕ) → IsLogOf d i []
empty_log d i = record {
  on_line = λ e there. clash there (occurs-nil e);
  steps = tt;
  controlled = (controlled d (line_events d i), refl);
}

-- an instance has begun with the ends that it begins with
pub begun_first : (r : Role) (first : EndLists) → IsFit r first
    → HasBegun r first (state_with false first.outlets first.inlets [] 0)
begun_first r first fit =
    let reading : Reading = record { read_at = λ e. 0; place_at = λ e. 0 } in
    record {
      reading = reading;
      kept = record {
        log = empty_log r.chart r.number;
        put = all_begun r reading first.outlets (λ k o lt. (fit.room k o lt).0);
        got = zip_self (IsGotBy r [] reading) first.inlets (λ n. stepped.begun_in r [] reading n n reading);
        clock = sym (clock_nil r.chart reading.read_at);
      };
    }

-- an instance with the ends of its post and an empty log
pub begins : (d : Drawing) (p : Post) (a : Active) → IsPost d p → ends_now a ≡ first_ends p
    → logged_by a ≡ [] → a.clock ≡ 0
    → a.next ≡ p.start → a.first ≡ p.start → a.shut ≡ false
    → length (line_events d p.instance) ≤ vec_capacity a.journal.log → IsSound d p a
begins d p a post ends empty clock next first open' room =
    let none : line_below d p.instance p.start ≡ [] = none_below d p.instance p.start (λ e lt on.
    (let in' : e < length d.events = omega (arith, post.ordered, post.within) in
    let r = (post.line e in').0 on in absurd (omega (arith, r.0)))) in
    record {
      post = post;
      begun = rw (open', ends, empty, clock) (begun_first (post_role d p) (first_ends p) post.fit);
      next = record {
        from = omega (arith, next);
        to = omega (arith, next, post.ordered);
        done = rw (empty, next, none) refl;
      };
      first = record {
        from = omega (arith, first);
        to = omega (arith, first, post.ordered);
        there = λ e low lt. absurd (omega (arith, first));
      };
      closed = λ shut. clash shut open';
      room = room;
    }
