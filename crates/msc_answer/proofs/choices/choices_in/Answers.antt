use Rattle.std.proofs.Common.{◌≡◌, false, codes, map, sym, ap, ◌∙◌}
use Rattle.std.specs.List.{slice_split}
use Rattle.std.specs.Str.{bytes_eq}
use Rattle.std.proofs.lemmas.Simd.{map-map}
use Rattle.msc_answer.specs.Importing.{choice_in, is_comma}
use Rattle.msc_answer.proofs.choices.choices_in.Goals as goal

pub returns : goal.returns
returns c =
    let other : bytes_eq c.args.word.now (codes "main") ≡ false = sym c.eq.ensures ∙ c.if-eq.false in
    let parts_are = c.in_ok-parts.ensures ∙ ap (slice_split is_comma) c.as_bytes.ensures.value in
    let choices_are =
    c.in_ok-choices.ensures
    ∙ ap (map (λ part. choice_in part.now)) c.as_slice.ensures.value
    ∙ sym (map-map choice_in (λ part. part.now) c.in_ok-parts.parts.items)
    ∙ ap (map choice_in) parts_are in
    rw other choices_are
