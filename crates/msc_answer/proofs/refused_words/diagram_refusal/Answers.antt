use Rattle.std.proofs.Common.{ℕ, List, ◌++◌, ap, refl, ◌∙◌}
use Rattle.std.specs.String.{string_bytes}
use Rattle.msc_answer.specs.RefusedWords.{closing_text}
use Rattle.msc_answer.proofs.refused_words.diagram_refusal.Goals as goal

pub returns : goal.returns
returns c =
    let r = c.args.refused in
    let block = c.in_ok-bytes.bytes.items in
    let closing = c.as_bytes.ensures.value ∙ c.in_ok-closing.ensures ∙ ap (λ (l : List ℕ). closing_text l r.colours) c.as_str.ensures.value in record {
      shown = record { file = r.file; text = c.as_slice.result; colours = r.colours };
      file_is = refl;
      text_is = c.as_slice.ensures.value ∙ c.in_ok-plain.ensures;
      colours_are = refl;
      block = block;
      block_is = c.in_ok-bytes.ensures;
      label = string_bytes c.in_ok-label.label;
      label_is = c.in_ok-label.ensures;
      printed_is = c.in_ok-extend_from_slice.ensures.items ∙ ap (λ (l : List ℕ). block ++ l) closing;
    }
