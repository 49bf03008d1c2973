use Rattle.std.proofs.Common.{ap, ◌∙◌}
use Rattle.msc_lexer.specs.Lexemes.{lexemes}
use Rattle.msc_place.specs.declared.naming.Part.TheVariants.{Header, Sections}
use Rattle.msc_place.specs.Collecting.{event_places, name_places}
use Rattle.msc_place.proofs.StandingLemmas.{all_stand}
use Rattle.msc_place.proofs.InsideLemmas.{all_inside}
use Rattle.msc_place.proofs.places.Places.of.Goals as goal

pub invariant_of-result : goal.invariant_of-result
invariant_of-result c =
    let text = c.args.text.now in let tokens = c.in_ok-tokens.tokens.items in
    let events = c.in_ok-events.ensures text ∙ ap (λ ts. event_places (lexemes text ts)) c.deref.ensures.value in
    let sections = c.in_ok-sections.ensures text ∙ ap (λ ts. name_places Sections (lexemes text ts)) c.deref-2.ensures.value in
    let header = c.in_ok-header.ensures text ∙ ap (λ ts. name_places Header (lexemes text ts)) c.deref-3.ensures.value in
    record {
      inside = all_inside text tokens _ c.in_ok-tokens.ensures.within events sections header;
      stand = all_stand text tokens _ c.in_ok-tokens.ensures.tokens events sections header;
    }
