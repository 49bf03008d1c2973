-- The chunks of a round.
use Rattle.std.specs.Prelude.{ℕ, ◌*◌, List, [], ◌∷◌, drop, take, Option, None, Some, slice_get}
use Rattle.msc_scanning.specs.Files.{AreBlocks, Input}
use Rattle.msc_scanning.specs.declared.files.Block.{Block}
use Rattle.msc_scanning.specs.declared.files.Item.{Item}
use Rattle.msc_scanning.specs.declared.rounds.TheConstants.{CHUNK}
use Rattle.msc_scanning.specs.declared.words.Plan.{Plan}
use Rattle.std.specs.Global.{Vec}

-- the items that a thread takes
abbrev pub chunk_at : List Item → ℕ → List Item
chunk_at items index = take CHUNK (drop (index * CHUNK) items)

-- the block that was made of the item at a place
abbrev pub flat : Option (Option Block) → Option Block
flat None = None
flat (Some block) = block

abbrev pub made_at : List (Option Block) → ℕ → Option Block
made_at blocks index = flat (slice_get blocks index)

-- of each chunk of these items some blocks were made
abbrev pub AreChunks : Plan → Input → List Item → List (Vec (Option Block)) → Type 0
AreChunks p input items [] = Unit {0}
AreChunks p input items (blocks ∷ made) = AreBlocks p input (take CHUNK items) blocks.items × AreChunks p input (drop CHUNK items) made
