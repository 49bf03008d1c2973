use Rattle.std.proofs.Common.{map, refl, ap, ◌∙◌}
use Rattle.msc_full.specs.Blocks.{texts_of}
use Rattle.msc_shown_chart.specs.Shown.{plain_event}
use Rattle.msc_refusals.proofs.ring.ring_text.Goals as goal

pub returns : goal.returns
returns c = record {
  shown = record {
    source = record { ref_ptr = (0, 0); now = c.in_ok-source.source };
    names = c.as_slice.result;
    events = c.as_slice-2.result;
    colours = c.args.colours;
  };
  source = ap (λ text. text.now) c.in_ok-source.ensures.text;
  ends = c.in_ok-source.ensures.ends;
  colours_are = refl;
  names_are = ap texts_of c.as_slice.ensures.value ∙ c.in_ok-names.ensures;
  events_are = ap (map plain_event) c.as_slice-2.ensures.value ∙ c.in_ok-events.ensures;
  printed_is = c.in_ok-bytes.ensures;
}
