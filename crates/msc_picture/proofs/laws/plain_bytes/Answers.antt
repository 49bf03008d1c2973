use Rattle.msc_picture.proofs.PlainScenes.{plain_texts}
use Rattle.msc_picture.proofs.PlainTexts.{plain_picture}
use Rattle.msc_picture.proofs.laws.plain_bytes.Goals as goal

pub returns-clause-texts : goal.returns-clause-texts
returns-clause-texts c = plain_texts

pub returns-clause-picture : goal.returns-clause-picture
returns-clause-picture c = plain_picture
