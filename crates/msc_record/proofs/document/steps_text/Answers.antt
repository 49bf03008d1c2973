use Rattle.std.proofs.Common.{List, ℕ, map, subst, ◌∙◌}
use Rattle.json.specs.Tree.{HasNumbers, json_tokens}
use Rattle.msc_record.specs.Members.{array_of}
use Rattle.msc_record.specs.Results.{step_json}
use Rattle.msc_record.specs.SarifLent.{plain_step}
use Rattle.msc_record.proofs.NumberLemmas.{added_is_printable, numbers_of_json}
use Rattle.msc_record.proofs.document.steps_text.Goals as goal

pub returns-clause-numbers : goal.returns-clause-numbers
returns-clause-numbers c =
    let json = λ (uri : List ℕ). array_of (map (step_json uri) (map plain_step c.args.steps.now)) in
    let j = json c.as_str.result.now in
    subst (λ uri. HasNumbers (json uri)) (c.as_str.ensures.value ∙ c.in_ok-uri.ensures)
    (numbers_of_json j (added_is_printable (json_tokens j) c.new-writer.ensures.tokens c.in_ok-write_steps.ensures c.into_inner.ensures.reads_back))
