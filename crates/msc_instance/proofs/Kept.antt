-- What an instance keeps where its outlets are closed and where it ends.
use Rattle.std.proofs.Common.{◌≡◌, ◌≢◌, ℕ, ◌<◌, Bool, true, false, cond, eqb, List, [], ◌∷◌, map, length, set, get_or, refl, sym, ap, ◌∙◌, subst}
use Rattle.std.specs.List.{AllZip}
use Rattle.std.proofs.Math.Seq.{map-set_same}
use Rattle.std.proofs.lemmas.Bool.{eq-eqb, ne_eqb}
use Rattle.msc_chart.specs.Lists.{occurs}
use Rattle.msc_fifo.specs.declared.entry.Taken.TheVariants as took
use Rattle.msc_ending.specs.declared.end.End.{End}
use Rattle.msc_ending.specs.declared.end.End.TheVariants as end
use Rattle.msc_execution.specs.Roles.{Role, EndLists, NumberedOutlet, NumberedInlet, IsFit}
use Rattle.msc_execution.specs.Logs.{Reading, clock_along}
use Rattle.msc_execution.specs.Growth.{HasTaken, IsLeftBy, IsStrange}
use Rattle.msc_execution.specs.Running.{EndsAs, AreEager, SomeIdled, HasRun}
use Rattle.msc_instance.specs.Steps.{IsPutBy, IsGotBy, ArePutBy, HasBegun}
use Rattle.msc_instance.specs.Active.{HasGot, HasCome, IsClosedFrom}
use Rattle.msc_instance.proofs.Stepped as stepped
use Rattle.msc_instance.proofs.Zipped.{zip_map, zip_after, zip_one}
use Rattle.msc_instance.proofs.Numbered.{inlet_number, taken_once, number_there}
use Rattle.msc_instance.proofs.Begun.{state_with}
use Rattle.msc_chart.proofs.ListLemmas.{IsDistinct}

-- how an instance ended does not depend on its outlets
same_end : (r : Role) (open' : Bool) (patience : ℕ) (reading : Reading)
    (outs news : List NumberedOutlet) (ins : List NumberedInlet) (log : List ℕ) (last : End)
    (strange : ℕ → List ℕ) (end : End)
    → EndsAs r open' patience reading
    (record { log = log; ends = record { outlets = outs; inlets = ins }; end = last }) strange end
    → EndsAs r open' patience reading
    (record { log = log; ends = record { outlets = news; inlets = ins }; end = last }) strange end
same_end r open' patience reading outs news ins log last strange end.Finished h = h
same_end r open' patience reading outs news ins log last strange end.Starved h = h
same_end r open' patience reading outs news ins log last strange end.Impatient h = h
same_end r open' patience reading outs news ins log last strange end.Stopped h = h
same_end r open' patience reading outs news ins log last strange (end.Foreign m) h =
    record { queue = h.queue; own = h.own; last = h.last; others = h.others; is_strange = h.is_strange }

-- the outlets are closed, whether they were before or not
pub closes : (r : Role) (log : List ℕ) (reading : Reading) (shut : Bool)
    (first outs news : List NumberedOutlet)
    → AllZip IsClosedFrom outs news → ArePutBy shut r log reading first outs
    → AllZip (IsLeftBy r log reading) first news
closes r log reading false first outs news closed h =
    zip_after (IsPutBy r log reading) IsClosedFrom (IsLeftBy r log reading) first outs news
    (λ x y z own now. subst (λ (q : ℕ). IsLeftBy r log reading x (q, z.1)) (sym now.number)
    (let mark = now.claims own.opened in
    stepped.closed r log reading x y own z.1 mark.0 now.same now.put now.closed mark.1)) h closed
closes r log reading true first outs news closed h =
    zip_after (IsLeftBy r log reading) IsClosedFrom (IsLeftBy r log reading) first outs news
    (λ x y z own now.
    let same : y ≡ z = λ j. (sym now.number j, sym (now.again own.closed) j) in
    subst (λ (o : NumberedOutlet). IsLeftBy r log reading x o) same own) h closed

-- all outlets are closed
pub begun_closed : {r : Role} {first : EndLists} {outs : List NumberedOutlet} {ins : List NumberedInlet} {log : List ℕ} {clock : ℕ}
    (begun : HasBegun r first (state_with false outs ins log clock)) (news : List NumberedOutlet)
    → AllZip IsClosedFrom outs news → HasBegun r first (state_with true news ins log clock)
begun_closed {r} {first} {outs} {ins} {log} {clock} begun news closed = record {
  reading = begun.reading;
  kept = record {
    log = begun.kept.log;
    put = closes r log begun.reading false first.outlets outs news closed begun.kept.put;
    got = begun.kept.got;
    clock = begun.kept.clock;
  };
}

module _ {r : Role} {first : EndLists} {shut : Bool} {outs : List NumberedOutlet} {ins : List NumberedInlet} {log : List ℕ}
    {clock : ℕ} (begun : HasBegun r first (state_with shut outs ins log clock)) where
  -- an instance that ends with nothing strange
  pub comes : (open' : Bool) (patience : ℕ) (end : End)
      → ((reading : Reading) → clock ≡ clock_along r.chart reading.read_at log
      → EndsAs r open' patience reading
      (record { log = log; ends = record { outlets = outs; inlets = ins }; end = end }) (λ q. []) end)
      → HasCome r open' patience first shut
      (record { log = log; ends = record { outlets = outs; inlets = ins }; end = end })
  comes open' patience end ends = record {
    reading = begun.reading;
    log = begun.kept.log;
    put = begun.kept.put;
    strange = λ q. [];
    got = zip_map (IsGotBy r log begun.reading) (HasTaken r log begun.reading (λ q. [])) first.inlets ins
        (λ x y own. stepped.done r log begun.reading x y own (λ q. []) refl) begun.kept.got;
    ended = ends begun.reading begun.kept.clock;
  }

  -- an instance that ends with a strange message
  pub comes_strange : (open' : Bool) (patience k i m place now : ℕ) (n new : NumberedInlet)
      → IsFit r first → k < length ins → HasGot clock (took.Message i m place now) (get_or ins k n) new
      → IsStrange r (get_or ins k n).0 log m
      → HasCome r open' patience first shut
      (record {
        log = log;
        ends = record { outlets = outs; inlets = set ins k new };
        end =
            end.Foreign m;
      })
  comes_strange open' patience k i m place now n new fit lt got odd =
      let reading = begun.reading in
      let q : ℕ = (get_or ins k n).0 in
      let strange : ℕ → List ℕ = λ p. cond (eqb p q) (m ∷ []) [] in
      let one : strange q ≡ m ∷ [] = ap (λ b. cond b (m ∷ []) []) (eq-eqb q q refl) in
      let other : (p : ℕ) → p ≢ q → strange p ≡ [] = λ p apart.
      ap (λ b. cond b (m ∷ []) []) (ne_eqb p q apart) in
      let numbers : map inlet_number (set ins k new) ≡ map inlet_number ins =
      map-set_same inlet_number ins k new n got.number in
      record {
        reading = reading;
        log = begun.kept.log;
        put = begun.kept.put;
        strange = strange;
        got = zip_one (IsGotBy r log reading) (HasTaken r log reading strange) inlet_number q
            first.inlets ins k n new lt
            (subst IsDistinct (sym fit.inlets) (taken_once r))
            (λ x own. sym own.number)
            (λ x own. subst (λ (p : ℕ). HasTaken r log reading strange x (p, new.1)) (sym got.number)
            (stepped.done_strange r log reading x (get_or ins k n) own got.even strange i m
            got.clocks.1.0 new.1 got.same got.got got.clocks.1.1
            (ap strange (sym own.number) ∙ one)))
            (λ x z own apart. stepped.done r log reading x z own strange (other x.0 apart))
            begun.kept.got;
        ended = record {
          queue = q;
          own = ap (λ l. occurs l q) numbers ∙ number_there ins k n lt;
          last = one;
          others = other;
          is_strange = odd;
        };
      }

-- what an instance leaves once all outlets are closed
pub leaves : (r : Role) (open' : Bool) (patience : ℕ) (first : EndLists) (shut : Bool)
    (outs news : List NumberedOutlet) (ins : List NumberedInlet) (log : List ℕ) (last : End)
    → AllZip IsClosedFrom outs news
    → (last ≡ end.Impatient → AreEager first.inlets → SomeIdled patience ins)
    → (patience ≡ 0 → ins ≡ first.inlets)
    → HasCome r open' patience first shut
    (record { log = log; ends = record { outlets = outs; inlets = ins }; end = last })
    → HasRun r open' patience first
    (record { log = log; ends = record { outlets = news; inlets = ins }; end = last })
leaves r open' patience first shut outs news ins log last closed in_time untaken come = record {
  reading = come.reading;
  run = record {
    log = come.log;
    put = closes r log come.reading shut first.outlets outs news closed come.put;
    strange = come.strange;
    got = come.got;
    ended = same_end r open' patience come.reading outs news ins log last come.strange last come.ended;
    in_time = in_time;
    untaken = untaken;
  };
}
