use Rattle.std.proofs.Common.{ℕ, List, [], refl, subst, sym, ◌∙◌}
use Rattle.msc_print.proofs.PrintLemmas.{Appends-none as nothing_more}
use Rattle.msc_scanning.proofs.Given.{blocks_known, blocks_text, given, held}
use Rattle.msc_scanning.specs.Folding.{Folds}
use Rattle.msc_scanning.specs.Texts.{PutsNumber, PutsText}
use Rattle.msc_scanning.specs.declared.holding.Holding.TheVariants.{Blocks, Nothing}
use Rattle.msc_scanning.proofs.texts.put_text.Goals as goal

pub put_blocks-requires : goal.put_blocks-requires
put_blocks-requires g c = blocks_known c.args.kind c.args.text.now c.in-Blocks.found (sym c.in_ok-holding_of.ensures ∙ c.in-Blocks.is)

pub returns-in-Nothing : goal.returns-in-Nothing
returns-in-Nothing g c = (
  [],
  held c.args.plan c.args.file.now c.args.kind c.args.text.now c.words_for-words.result Nothing c.new.result.items [] c.words_for-words.ensures
      (sym c.in-Nothing.is ∙ c.in_ok-holding_of.ensures) (c.new.ensures.items, refl),
  nothing_more _,
)

pub returns-in-Blocks : goal.returns-in-Blocks
returns-in-Blocks g c =
    let p = c.args.plan in let file = c.args.file.now in let kind = c.args.kind in let text = c.args.text.now in
    let x = c.words_for-words.result in let f = c.in-Blocks.found in let contents = g.O.Write.contents in
    given contents (λ outcomes. Folds (PutsNumber p x file f.text) f.numbers [] outcomes.items) (λ outcomes. PutsText p file kind text outcomes.items)
    (λ outcomes printed folds. held p file kind text x (Blocks f) outcomes.items printed c.words_for-words.ensures (sym c.in-Blocks.is ∙ c.in_ok-holding_of.ensures)
    (subst (λ (t : List ℕ). Folds (PutsNumber p x file t) f.numbers [] outcomes.items printed) (blocks_text kind text f (sym c.in_ok-holding_of.ensures ∙ c.in-Blocks.is)) folds))
    c.put_blocks.result c.args.output.now c.put_blocks.new.output c.put_blocks.ensures
