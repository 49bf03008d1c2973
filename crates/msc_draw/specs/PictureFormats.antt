-- The forms of a picture.
use Rattle.std.specs.Prelude.{ℕ, List}
use Rattle.msc_picture.specs.declared.scene.Scene.{Scene}
use Rattle.msc_picture.specs.Texts.{picture_text}
use Rattle.msc_svg.specs.Svg.{svg_text}
use Rattle.msc_draw.specs.declared.picture_format.PictureFormat.{PictureFormat}
use Rattle.msc_draw.specs.declared.picture_format.PictureFormat.TheVariants.{Text, Svg}

-- a picture in a form, with a further text above it, which is empty where there is none; lines of
-- characters have no such text
abbrev pub text_in : PictureFormat → Scene → List ℕ → List ℕ
text_in Text scene more = picture_text scene
text_in Svg scene more = svg_text scene more
