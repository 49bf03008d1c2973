use Rattle.std.proofs.Common.{refl, ◌∙◌}
use Rattle.msc_findings.specs.declared.scenario.ShownScenario.{ShownScenario}
use Rattle.msc_diagram.specs.Full.{full_texts}
use Rattle.msc_diagram.proofs.full.print_with.Goals as goal

pub returns : goal.returns
returns g c runs are =
    let a = c.args.asked in
    let n = c.args.numbered in
    let words = c.args.words.now in
    let scenario : ShownScenario = record {
      number = n.number;
      scenarios = a.races.scenarios;
      choices = c.as_str.result;
      counts = c.as_slice.result;
      first = c.args.new.first;
      rounds = c.as_slice-2.result;
    } in (
      full_texts c.text.result scenario,
      record {
        events = words.events;
        are = c.requires.words.events;
        text = c.text.result;
        text_is = c.text.ensures;
        scenario = scenario;
        scenario_is = record {
          number_is = refl;
          scenarios_are = refl;
          said = rw c.as_str.ensures.value c.requires.words.choices;
          counts_are = c.as_slice.ensures.value ∙ c.requires.words.counts;
          first_is = refl;
          rounds_are = c.as_slice-2.ensures.value;
        };
        texts_are = refl;
      },
      c.print_scenario.ensures runs are,
    )
