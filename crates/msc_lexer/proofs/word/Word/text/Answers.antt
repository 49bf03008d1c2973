use Rattle.std.proofs.Common.{refl}
use Rattle.msc_lexer.proofs.word.Word.text.Goals as goal

pub returns-in-Input : goal.returns-in-Input
returns-in-Input c = rw c.in-Input.is refl
