-- Laws of layouts and of pictures in SVG: what their definitions come to.
use Rattle.std.specs.Prelude.{ℕ, ◌+◌, ◌≤◌, ◌<◌, List, length}
use Rattle.msc_picture.specs.declared.scene.Scene.{Scene}
use Rattle.msc_picture.specs.Plain.{HasPlainTexts, IsPlain}
use Rattle.msc_svg.specs.Layouts.{layout_of}
use Rattle.msc_svg.specs.Places.{axis, edge}
use Rattle.msc_svg.specs.Svg.{svg_text}

-- axes stand from left to right
abbrev pub AxesStandApart : Type 0
AxesStandApart =
    (s : Scene) (heading : List (List ℕ)) (i : ℕ) → i + 1 < length s.heads
    → axis (layout_of s heading) i + 112 ≤ axis (layout_of s heading) (i + 1)

-- rows stand from above, the first one below the heads
abbrev pub RowsStandApart : Type 0
RowsStandApart =
    (s : Scene) (heading : List (List ℕ)) (r : ℕ) → r < length s.rows
    → edge (layout_of s heading) r + 32 ≤ edge (layout_of s heading) (r + 1)

-- a picture in SVG is of the bytes 32 to 126 and line ends, where its texts and the one above it are
abbrev pub SvgPicturesArePlain : Type 0
SvgPicturesArePlain =
    (s : Scene) (more : List ℕ) → HasPlainTexts s → IsPlain more → IsPlain (svg_text s more)
