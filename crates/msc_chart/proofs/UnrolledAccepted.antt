-- Two rounds of a chart that is short enough are a chart.
use Rattle.std.proofs.Common.{ℕ, List, length, arith}
use Rattle.msc_chart.specs.Building.{IsBuilt}
use Rattle.msc_chart.specs.Charts.{IsLinearOrder}
use Rattle.msc_chart.specs.Drawings.{Drawing, IsAccepted}
use Rattle.msc_chart.specs.Rounds.{IsShort, two_rounds}
use Rattle.msc_chart.proofs.StuckLemmas.{linear_acyclic}
use Rattle.msc_chart.proofs.EventCounts.{events_few, locals_few}
use Rattle.msc_chart.proofs.RoundEvents.{events_many, rounds_in_text_order, rounds_on_lines}
use Rattle.msc_chart.proofs.RoundPartners.{rounds_matched}
use Rattle.msc_chart.proofs.RoundMessages.{messages_many, actions_many, rounds_messages, rounds_actions}

-- what holds of every chart holds of its two rounds, which have a linear order
pub unrolled_built : (d : Drawing) → IsAccepted d → IsShort d → (order : List ℕ) → IsLinearOrder (two_rounds d).events order → IsBuilt (two_rounds d) order
unrolled_built d accepted short order linear =
    let events = events_many 2 (length d.messages) d.events in
    let few = events_few d accepted in
    record {
      accepted = record {
        few_instances = accepted.few_instances;
        few_messages = omega (arith, messages_many 2 d accepted, short.messages);
        few_actions = omega (arith, actions_many 2 d accepted, locals_few 2 d accepted, short.actions);
        few_events = omega (arith, events, few, short.messages, short.actions);
        on_lines = rounds_on_lines 2 (length d.messages) d.events accepted.in_text_order (length d.instances) accepted.on_lines;
        in_text_order = rounds_in_text_order 2 (length d.messages) d.events accepted.in_text_order;
        matched = rounds_matched 2 (length d.messages) d.events accepted.in_text_order accepted.matched;
        acyclic = linear_acyclic (two_rounds d).events order linear;
        has_messages = rounds_messages 2 d accepted;
        has_actions = rounds_actions 2 d accepted;
      };
      linear = linear;
    }
