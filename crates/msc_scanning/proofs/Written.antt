-- What is printed of files.
use Rattle.std.proofs.Common.{◌≡◌, ◌<◌, ◌+◌, ◌*◌, ℕ, zero, suc, List, [], ◌∷◌, ◌++◌, length, take, drop, get_or, slice_get, Option, None, Some, Result, Ok, Err, inr, refl, sym, ap, subst, arith, ◌∙◌}
use Rattle.std.specs.Global.{Vec}
use Rattle.std.specs.String.{string_bytes}
use Rattle.msc_scan.specs.declared.name.FileKind.{FileKind}
use Rattle.msc_scan.specs.declared.walk.Entry.{Entry}
use Rattle.msc_scan.specs.declared.walk.Found.TheVariants.{File}
use Rattle.msc_report.specs.declared.fault.Fault.{Fault}
use Rattle.msc_scanning.specs.Files.{AreBlocks, AreFailed, Input, IsBlock, PutsEntry, PutsFile}
use Rattle.msc_scanning.specs.Putting.{Gives}
use Rattle.msc_scanning.specs.Rounds.{chunk_at, flat, made_at, AreChunks}
use Rattle.msc_scanning.specs.declared.rounds.TheConstants.{CHUNK}
use Rattle.std.proofs.lemmas.List.{drop-drop, drop_more}
use Rattle.std.proofs.lemmas.Option.{slice_get-get_or}
use Rattle.msc_scanning.specs.declared.files.Block.{Block}
use Rattle.msc_scanning.specs.declared.files.Item.{Item}
use Rattle.msc_scanning.specs.declared.outcome.Outcome.{Outcome}
use Rattle.msc_scanning.specs.declared.words.Plan.{Plan}

module _ {W : Type 0} (contents : W → Option (List ℕ)) (p : Plan) (input : Input) where
  -- a file that cannot be read fails
  pub failed_file : (name : List ℕ) (kind : Option FileKind) (result : Result (Vec Outcome) Fault) (old new : W)
      → Gives contents (λ outcomes. AreFailed p outcomes.items) result old new → Gives contents (λ outcomes. PutsFile p input name kind outcomes.items) result old new
  failed_file name kind (Ok outcomes) old new (printed, failed, wrote) = (printed, inr failed, wrote)
  failed_file name kind (Err fault) old new gives = tt

  -- a file is a name that was found so
  pub found_file : (entry : Entry) (kind : Option FileKind) → entry.found ≡ File kind → (name : List ℕ) → name ≡ string_bytes entry.name
      → (result : Result (Vec Outcome) Fault) (old new : W) → Gives contents (λ outcomes. PutsFile p input name kind outcomes.items) result old new
      → Gives contents (λ outcomes. PutsEntry p input entry outcomes.items) result old new
  found_file entry kind is name same (Ok outcomes) old new (printed, puts, wrote) =
      (printed, rw is (subst (λ (n : List ℕ). PutsFile p input n kind outcomes.items printed) same puts), wrote)
  found_file entry kind is name same (Err fault) old new gives = tt

module _ (p : Plan) (input : Input) where
  -- the block of the item at a place
  pub block_there : (all : List Item) (blocks : List (Option Block)) → AreBlocks p input all blocks → (i : ℕ) (item : Item) → slice_get all i ≡ Some item
      → (block : Option Block) → slice_get blocks i ≡ Some block → IsBlock p input item block
  block_there all [] are i item is block stands = absurd cc
  block_there [] (b ∷ blocks) are i item is block stands = absurd are
  block_there (first ∷ all) (b ∷ blocks) are zero item is block stands =
      let same_item : first ≡ item = cc in let same_block : b ≡ block = cc in
      subst (λ (it : Item). IsBlock p input it block) same_item (subst (λ (it : Option Block). IsBlock p input first it) same_block are.0)
  block_there (first ∷ all) (b ∷ blocks) are (suc i) item is block stands = block_there all blocks are.1 i item is block stands

  -- one more block
  pub one_block : (all : List Item) (blocks : List (Option Block)) → AreBlocks p input all blocks → (item : Item) → slice_get all (length blocks) ≡ Some item
      → (block : Option Block) → IsBlock p input item block → AreBlocks p input all (blocks ++ block ∷ [])
  one_block [] [] are item is block its = absurd cc
  one_block (first ∷ all) [] are item is block its =
      let same : first ≡ item = cc in (subst (λ (it : Item). IsBlock p input it block) (sym same) its, tt)
  one_block [] (b ∷ blocks) are item is block its = absurd are
  one_block (first ∷ all) (b ∷ blocks) are item is block its = (are.0, one_block all blocks are.1 item is block its)

  -- what was made of an item before its turn
  pub made_there : (all : List Item) (blocks : List (Option Block)) → AreBlocks p input all blocks → (i : ℕ) (item : Item) → i < length all
      → item ≡ get_or all i item → (made : Option Block) → made ≡ made_at blocks i → IsBlock p input item made
  made_there all blocks are i item inside is made same =
      subst (λ (m : Option Block). IsBlock p input item m) (sym same) (by (slice_get blocks i) refl)
    where
      there : slice_get all i ≡ Some item
      there = slice_get-get_or all i item inside ∙ ap (λ (it : Item). Some it) (sym is)

      by : (stands : Option (Option Block)) → slice_get blocks i ≡ stands → IsBlock p input item (flat stands)
      by None e = tt
      by (Some block) e = block_there all blocks are i item there block e

  -- the chunks that are left
  pub next_chunk : (rest : List Item) (made : List (Vec (Option Block))) (i : ℕ) (blocks : Vec (Option Block)) → i < length made
      → AreChunks p input rest (drop i made) → AreChunks p input (drop CHUNK rest) (drop (i + 1) made)
  next_chunk rest made i blocks inside are =
      (subst (λ (l : List (Vec (Option Block))). AreChunks p input rest l) (drop_more made i blocks inside) are).1

  -- chunks of which each has its blocks
  pub all_chunks : (made : List (Vec (Option Block))) (items : List Item)
      → ((i : ℕ) (d : Vec (Option Block)) → i < length made → AreBlocks p input (chunk_at items i) (get_or made i d).items) → AreChunks p input items made
  all_chunks [] items each = tt
  all_chunks (blocks ∷ made) items each = (
    each 0 blocks (omega arith),
    all_chunks made (drop CHUNK items) (λ i d inside. subst (λ (l : List Item). AreBlocks p input (take CHUNK l) (get_or made i d).items)
        (behind i) (each (suc i) d (omega (arith, inside)))),
  )
    where
      behind : (i : ℕ) → drop (suc i * CHUNK) items ≡ drop (i * CHUNK) (drop CHUNK items)
      behind i = ap (λ (n : ℕ). drop n items) (let same : suc i * CHUNK ≡ CHUNK + i * CHUNK = omega arith in same) ∙ sym (drop-drop (i * CHUNK) CHUNK items)
