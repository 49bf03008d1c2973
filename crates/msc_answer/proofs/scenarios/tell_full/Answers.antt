use Rattle.std.proofs.Common.{◌∙◌, Some, ap, sym}
use Rattle.msc_answer.proofs.SurveyLemmas.{first_is}
use Rattle.msc_answer.proofs.scenarios.tell_full.Goals as goal

pub tell_with-requires-clause-first : goal.tell_with-requires-clause-first
tell_with-requires-clause-first g c =
    first_is c.args.scenarios.now c.get-first.result.now (c.in_ok-first.ensures ∙ ap Some (sym c.get-first.ensures))
