use Rattle.std.proofs.Common.{ℕ, leb, cond, bit_and, w8, refl}
use Rattle.std.proofs.lemmas.Simd.{zip2_splat, zip2_of_maps, splat_is_map, length-chunk, chunk-fits}
use lib.Lanes.{chunk}
use Rattle.msc_lexer.specs.Bytes.{is_run_byte}
use Rattle.msc_lexer.proofs.LaneLemmas.{run_of_lanes}
use Rattle.msc_lexer.proofs.lanes.run_in_load.Goals as goal

pub returns : goal.returns
returns c =
    let v = chunk c.args.at 16 c.args.text.now in
    let long = length-chunk c.args.at 16 c.args.text.now c.requires in
    let at_least : ℕ → ℕ → ℕ = λ a b. cond (leb a b) 255 0 in
    let from_a = zip2_of_maps _ _ _ v (zip2_splat {Y = ℕ} _ v 16 _ long) (splat_is_map v 16 _ long) in
    let no_letter = zip2_of_maps at_least _ _ v (splat_is_map v 16 _ long) from_a in
    let no_digit = zip2_of_maps at_least _ _ v (splat_is_map v 16 _ long) (zip2_splat {Y = ℕ} _ v 16 _ long) in
    let neither = zip2_of_maps bit_and _ _ v no_letter no_digit in
    run_of_lanes is_run_byte _ v _ _ long (chunk-fits w8 c.args.at 16 c.args.text.now c.type_inv.text)
    (zip2_of_maps bit_and _ _ v neither (zip2_splat {Y = ℕ} _ v 16 _ long)) refl c.first_set.ensures
