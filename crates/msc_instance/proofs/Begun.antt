-- What an instance keeps from step to step.
use Rattle.std.proofs.Common.{◌≡◌, ℕ, ◌+◌, ◌<◌, max, Bool, true, false, cond, List, [], ◌∷◌, ◌++◌, length, set, get_or, sym, ap, ◌∙◌, subst}
use Rattle.std.specs.List.{AllZip}
use Rattle.std.proofs.lemmas.List.{append-nil}
use Rattle.msc_chart.specs.Lists.{occurs}
use Rattle.msc_chart.specs.Charts.{message, is_output, is_input, is_local}
use Rattle.msc_chart.specs.Orders.{queue_of}
use Rattle.msc_chart.proofs.ListLemmas.{clash, IsDistinct}
use Rattle.msc_chart.proofs.Drawn.{not_both, output_not_local, input_not_local}
use Rattle.msc_fifo.specs.declared.entry.Taken.TheVariants as took
use Rattle.msc_fifo.specs.declared.entry.Entry.TheVariants.{Message}
use Rattle.msc_fifo.specs.Claims.{claim}
use Rattle.msc_execution.specs.Roles.{Role, EndLists, NumberedOutlet, NumberedInlet, IsFit}
use Rattle.msc_execution.specs.Logs.{Reading, IsLogOf, clock_along}
use Rattle.msc_execution.specs.Growth.{IsLeftBy, all_messages, clocks_at}
use Rattle.msc_execution.proofs.Lists.Words.{fails}
use Rattle.msc_instance.specs.Steps.{State, IsPutBy, IsGotBy, ArePutBy, HasBegun}
use Rattle.msc_instance.specs.Active.{HasPut, HasGot}
use Rattle.msc_instance.proofs.Growing.{clock_pushed, with_event}
use Rattle.msc_instance.proofs.Stepped as stepped
use Rattle.msc_instance.proofs.Zipped.{zip_map, zip_one, zip_set}
use Rattle.msc_instance.proofs.Numbered.{outlet_number, inlet_number, sent_once, taken_once}

-- an instance between two steps, by its parts
abbrev pub state_with : Bool → List NumberedOutlet → List NumberedInlet → List ℕ → ℕ → State
state_with shut outs ins log clock =
    record { shut = shut; ends = record { outlets = outs; inlets = ins }; log = log; clock = clock }

-- events that are no outputs leave the outlets as they are
put_stays : (r : Role) (log : List ℕ) (reading : Reading) (e k n : ℕ) (shut : Bool)
    (olds news : List NumberedOutlet) → occurs log e ≡ false
    → is_output r.chart.events e ≡ false → ArePutBy shut r log reading olds news
    → ArePutBy shut r (log ++ e ∷ []) (with_event e k n reading) olds news
put_stays r log reading e k n false olds news new none h =
    zip_map (IsPutBy r log reading) (IsPutBy r (log ++ e ∷ []) (with_event e k n reading)) olds news
    (λ x y own. stepped.stayed r log reading x y own e k n new (λ output _. clash output none)) h
put_stays r log reading e k n true olds news new none h =
    zip_map (IsLeftBy r log reading) (IsLeftBy r (log ++ e ∷ []) (with_event e k n reading)) olds news
    (λ x y own. stepped.left_stayed r log reading x y own e k n new (λ output _. clash output none)) h

-- events that are no inputs leave the inlets as they are
got_stays : (r : Role) (log : List ℕ) (reading : Reading) (e k n : ℕ) (olds news : List NumberedInlet)
    → occurs log e ≡ false
    → is_input r.chart.events e ≡ false → AllZip (IsGotBy r log reading) olds news
    → AllZip (IsGotBy r (log ++ e ∷ []) (with_event e k n reading)) olds news
got_stays r log reading e k n olds news new none h =
    zip_map (IsGotBy r log reading) (IsGotBy r (log ++ e ∷ []) (with_event e k n reading)) olds news
    (λ x y own. stepped.stayed_in r log reading x y own e k n new (λ input _. clash input none)) h

module _ {r : Role} {first : EndLists} {outs : List NumberedOutlet} {ins : List NumberedInlet} {log : List ℕ} {clock : ℕ}
    (begun : HasBegun r first (state_with false outs ins log clock)) where
  -- an output more
  pub begun_sent : (k now e : ℕ) (o new : NumberedOutlet)
      → IsFit r first → is_output r.chart.events e ≡ true → occurs log e ≡ false
      → IsLogOf r.chart r.number (log ++ e ∷ [])
      → k < length outs → queue_of r.queues r.chart (message r.chart.events e) ≡ (get_or outs k o).0
      → HasPut (message r.chart.events e) clock now (get_or outs k o) new
      → HasBegun r first (state_with false (set outs k new) ins (log ++ e ∷ []) now)
  begun_sent k now e o new fit output is_new is_log lt here put =
      let reading = begun.reading in
      let kept = begun.kept in
      let after = with_event e put.place now reading in
      let none : is_input r.chart.events e ≡ false =
      fails (is_input r.chart.events e) (λ input. not_both r.chart.events e output input) in
      record {
        reading = after;
        kept = record {
          log = is_log;
          put = zip_one (IsPutBy r log reading) (IsPutBy r (log ++ e ∷ []) after) outlet_number
              (get_or outs k o).0 first.outlets outs k o new lt
              (subst IsDistinct (sym fit.outlets) (sent_once r))
              (λ x own. sym own.number)
              (λ x own. subst (λ (q : ℕ). IsPutBy r (log ++ e ∷ []) after x (q, new.1)) (sym put.number)
              (stepped.sent r log reading x (get_or outs k o) own e put.place now is_new output (here
              ∙ own.number) new.1 put.same put.put put.opened
              (subst (λ (n : ℕ). new.1.claims ≡ (get_or outs k o).1.claims ++ claim put.place
              (Message (get_or outs k o).1.sender (message r.chart.events e)) (n + 1) now ∷ [])
              kept.clock put.claims)))
              (λ x z own other. stepped.stayed r log reading x z own e put.place now is_new
              (λ _ own_queue. other (sym own_queue ∙ here)))
              kept.put;
          got = got_stays r log reading e put.place now first.inlets ins is_new none kept.got;
          clock = sym (clock_pushed r.chart reading log e put.place now is_new
              ∙ ap (λ b. cond b now (cond (is_input r.chart.events e)
              (max (clock_along r.chart reading.read_at log) now)
              (clock_along r.chart reading.read_at log))) output);
        };
      }

module _ {r : Role} {first : EndLists} {shut : Bool} {outs : List NumberedOutlet} {ins : List NumberedInlet} {log : List ℕ}
    {clock : ℕ} (begun : HasBegun r first (state_with shut outs ins log clock)) where
  -- a local event more
  pub begun_acted : (e : ℕ)
      → is_local r.chart.events e ≡ true → occurs log e ≡ false → IsLogOf r.chart r.number (log ++ e ∷ [])
      → HasBegun r first (state_with shut outs ins (log ++ e ∷ []) clock)
  begun_acted e local is_new is_log =
      let reading = begun.reading in
      let kept = begun.kept in
      let no_output : is_output r.chart.events e ≡ false =
      fails (is_output r.chart.events e) (λ o. clash local (output_not_local r.chart.events e o)) in
      let no_input : is_input r.chart.events e ≡ false =
      fails (is_input r.chart.events e) (λ i. clash local (input_not_local r.chart.events e i)) in
      let c : ℕ = clock_along r.chart reading.read_at log in
      record {
        reading = with_event e 0 0 reading;
        kept = record {
          log = is_log;
          put = put_stays r log reading e 0 0 shut first.outlets outs is_new no_output kept.put;
          got = got_stays r log reading e 0 0 first.inlets ins is_new no_input kept.got;
          clock = kept.clock ∙ sym (clock_pushed r.chart reading log e 0 0 is_new
              ∙ ap (λ b. cond b 0 (cond (is_input r.chart.events e) (max c 0) c)) no_output
              ∙ ap (λ b. cond b (max c 0) c) no_input);
        };
      }

  -- an input more
  pub begun_took : (k e i place now : ℕ) (n new : NumberedInlet)
      → IsFit r first → is_input r.chart.events e ≡ true → occurs log e ≡ false
      → IsLogOf r.chart r.number (log ++ e ∷ [])
      → k < length ins → queue_of r.queues r.chart (message r.chart.events e) ≡ (get_or ins k n).0
      → HasGot clock (took.Message i (message r.chart.events e) place now) (get_or ins k n) new
      → HasBegun r first (state_with shut outs (set ins k new) (log ++ e ∷ []) now)
  begun_took k e i place now n new fit input is_new is_log lt here got =
      let reading = begun.reading in
      let kept = begun.kept in
      let read : ℕ = got.clocks.1.0 in
      let after = with_event e place read reading in
      let no_output : is_output r.chart.events e ≡ false =
      fails (is_output r.chart.events e) (λ o. not_both r.chart.events e o input) in
      let c : ℕ = clock_along r.chart reading.read_at log in
      record {
        reading = after;
        kept = record {
          log = is_log;
          put = put_stays r log reading e place read shut first.outlets outs is_new no_output kept.put;
          got = zip_one (IsGotBy r log reading) (IsGotBy r (log ++ e ∷ []) after) inlet_number
              (get_or ins k n).0 first.inlets ins k n new lt
              (subst IsDistinct (sym fit.inlets) (taken_once r))
              (λ x own. sym own.number)
              (λ x own. subst (λ (q : ℕ). IsGotBy r (log ++ e ∷ []) after x (q, new.1)) (sym got.number)
              (stepped.took r log reading x (get_or ins k n) own got.even e place read i is_new input
              (here ∙ own.number) new.1 got.same got.got got.clocks.1.1))
              (λ x z own other. stepped.stayed_in r log reading x z own e place read is_new
              (λ _ own_queue. other (sym own_queue ∙ here)))
              kept.got;
          clock = got.clocks.1.2 ∙ ap (λ a. max a read) kept.clock
              ∙ sym (clock_pushed r.chart reading log e place read is_new
              ∙ ap (λ b. cond b read (cond (is_input r.chart.events e) (max c read) c)) no_output
              ∙ ap (λ b. cond b (max c read) c) input);
        };
      }

  -- an inlet that brought no message
  begun_kept : (k : ℕ) (n new : NumberedInlet) → k < length ins
      → ((x : NumberedInlet) → IsGotBy r log begun.reading x (get_or ins k n) → IsGotBy r log begun.reading x new)
      → HasBegun r first (state_with shut outs (set ins k new) log clock)
  begun_kept k n new lt own =
      let kept = begun.kept in
      record {
        reading = begun.reading;
        kept = record {
          log = kept.log;
          put = kept.put;
          got = zip_set (IsGotBy r log begun.reading) first.inlets ins k n new lt own kept.got;
          clock = kept.clock;
        };
      }

  -- an end mark more
  pub begun_ended : (k i : ℕ) (n new : NumberedInlet)
      → k < length ins → HasGot clock (took.Ended i) (get_or ins k n) new
      → HasBegun r first (state_with shut outs (set ins k new) log clock)
  begun_ended k i n new lt got =
      let reading = begun.reading in
      begun_kept k n new lt
      (λ x own. subst (λ (q : ℕ). IsGotBy r log reading x (q, new.1)) (sym got.number)
      (stepped.ended r log reading x (get_or ins k n) own got.even i 0 new.1 got.same got.got
      got.clocks))

  -- a take that found nothing
  pub begun_nothing : (k : ℕ) (n new : NumberedInlet)
      → k < length ins → HasGot clock took.Nothing (get_or ins k n) new
      → HasBegun r first (state_with shut outs (set ins k new) log clock)
  begun_nothing k n new lt got =
      let same : new.1.got ≡ (get_or ins k n).1.got = got.got ∙ append-nil (get_or ins k n).1.got in
      begun_kept k n new lt
      (λ x own. record {
        number = got.number ∙ own.number;
        same = (got.same.0 ∙ own.same.0, got.same.1 ∙ own.same.1);
        got = ap all_messages same ∙ own.got;
        clocks = (λ j. clocks_at (same j) (got.clocks j)) ∙ own.clocks;
      })
