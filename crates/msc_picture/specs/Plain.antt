-- Texts that every terminal and every reader shows the same: of the bytes 32 to 126 and line ends.
use Rattle.std.specs.Prelude.{◌≡◌, ℕ, ◌<◌, Bool, true, ◌&&◌, ◌||◌, List, [], ◌∷◌, Some, get_or, length, map, nat_eq, nat_le, slice_get, IsTrue}
use Rattle.msc_chart.specs.Drawings.{Drawing, message_at}
use Rattle.msc_parser.specs.Grammar.{Tree}
use Rattle.msc_picture.specs.declared.scene.Act.{Act}
use Rattle.msc_picture.specs.declared.scene.Act.TheVariants.{Sends, Takes, Does}
use Rattle.msc_picture.specs.declared.scene.Arrow.{Arrow}
use Rattle.msc_picture.specs.declared.scene.Head.{Head}
use Rattle.msc_picture.specs.declared.scene.Scene.{Scene}
use Rattle.msc_picture.specs.declared.scene.Spot.{Spot}
use Rattle.msc_picture.specs.Columns.{no_head}
use Rattle.msc_picture.specs.Scenes.{IsPopulated, head_of, message_text}
use Rattle.msc_picture.specs.Texts.{picture_text}

-- a byte from 32 to 126, or a line end
abbrev pub is_plain_byte : ℕ → Bool
is_plain_byte b = nat_eq b 10 || (nat_le 32 b && nat_le b 126)

-- each byte is
unfoldable pub is_plain : List ℕ → Bool
is_plain [] = true
is_plain (b ∷ bs) = is_plain_byte b && is_plain bs

abbrev pub IsPlain : List ℕ → Type 0
IsPlain text = IsTrue (is_plain text)

-- an action's text is
abbrev pub IsPlainAct : Act → Type 0
IsPlainAct (Sends m) = IsPlain []
IsPlainAct (Takes m) = IsPlain []
IsPlainAct (Does text) = IsPlain text

-- the names and the texts that a picture shows are
pub record HasPlainTexts (s : Scene) : Type 0 where
  pub name : IsPlain s.name
  pub heads : (i : ℕ) → IsPlain (get_or s.heads i no_head).name
  pub kinds : (i : ℕ) → IsPlain (get_or s.heads i no_head).kind
  pub labels : (m : ℕ) (arrow : Arrow) → slice_get s.arrows m ≡ Some arrow → IsPlain arrow.label
  pub acts : (e : ℕ) (spot : Spot) → slice_get s.spots e ≡ Some spot → IsPlainAct spot.act

-- the names of a chart and its draft are, as the grammar has them
pub record HasPlainNames (draft : Tree) (d : Drawing) : Type 0 where
  pub name : IsPlain d.name
  pub heads : (i : ℕ) (h : Head) → slice_get (map head_of draft.sections) i ≡ Some h
      → IsPlain h.name × IsPlain h.kind
  pub messages : (m : ℕ) → m < length d.messages → IsPlain (message_text (message_at d m))

-- the names of a chart being plain, so are all texts of its pictures: those of actions are masked
abbrev pub TextsOfPicturesArePlain : Type 0
TextsOfPicturesArePlain =
    (draft : Tree) (d : Drawing) (s : Scene) → HasPlainNames draft d → IsPopulated draft d s
    → HasPlainTexts s

-- and so is each picture in text
abbrev pub PicturesArePlain : Type 0
PicturesArePlain = (s : Scene) → HasPlainTexts s → IsPlain (picture_text s)
