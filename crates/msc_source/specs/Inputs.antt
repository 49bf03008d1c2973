-- What reading an input to its end answers, and what that tells of the input.
use Rattle.msc_source.specs.declared.reading.TheConstants.{BYTE_LIMIT}
use Rattle.std.specs.Prelude.{◌↔◌, ℕ, ◌≤◌, ◌<◌, List, length, take, Option}
use Rattle.std.specs.Io.KnownBytes.{Consumes, IsAtEnd}
use Rattle.msc_parser.specs.declared.fault.ParseFault.{ParseFault}
use Rattle.msc_parser.specs.Grammar.{Tree}
use Rattle.msc_source.specs.declared.language.Language.{Language}
use Rattle.msc_source.specs.Texts.{HasDraftIn, HasFaultIn}

-- the bytes are all that the reader had left, or as many of them as may be read
pub record IsReadFrom (old new : Option (List ℕ)) (bytes : List ℕ) : Type 0 where
  pub taken : Consumes old new bytes
  pub most : length bytes ≤ BYTE_LIMIT
  pub whole : length bytes < BYTE_LIMIT → IsAtEnd new

-- What is read of bytes has their drafts and their faults, and no others: of a longer text than may
-- be enough is read to tell that.
pub record WhatIsReadIsTold (language : Language) (bytes : List ℕ) : Type 0 where
  pub draft : (d : Tree) → HasDraftIn language (take BYTE_LIMIT bytes) d ↔ HasDraftIn language bytes d
  pub fault : (f : ParseFault) → HasFaultIn language (take BYTE_LIMIT bytes) f ↔ HasFaultIn language bytes f

-- that holds of all bytes
abbrev pub WhatIsReadTellsTheInput : Type 0
WhatIsReadTellsTheInput = (language : Language) (bytes : List ℕ) → WhatIsReadIsTold language bytes
