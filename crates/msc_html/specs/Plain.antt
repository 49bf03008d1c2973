-- That pictures and reports are of the bytes 32 to 126 and line ends.
use Rattle.std.specs.Prelude.{◌≡◌, ℕ, List, [], ◌∷◌, Option, Some, get_or}
use Rattle.msc_chart.specs.Drawings.{Drawing, chart_of}
use Rattle.msc_chart.specs.declared.queue.Queues.{Queues}
use Rattle.msc_draw.specs.Pictures.{PrintsPicture, PrintsReversal}
use Rattle.msc_draw.specs.declared.picture_format.PictureFormat.{PictureFormat}
use Rattle.msc_parser.specs.Drafts.{IsDraft}
use Rattle.msc_parser.specs.Grammar.{Tree}
use Rattle.msc_picture.specs.declared.scene.Scene.{Scene}
use Rattle.msc_picture.specs.Plain.{HasPlainTexts, IsPlain}
use Rattle.msc_html.specs.Articles.{Article}
use Rattle.msc_html.specs.Findings.{PrintsReport}
use Rattle.msc_html.specs.Reports.{Report, report_text}

-- the pictures of the runs of articles have plain texts
abbrev pub ArePlainRuns : List Article → Type 0
ArePlainRuns [] = IsPlain []
ArePlainRuns (a ∷ articles) =
    ((run : Scene) → a.run ≡ Some run → HasPlainTexts run) × ArePlainRuns articles

-- the names of a chart's instances are plain
abbrev pub HasPlainInstances : Drawing → Type 0
HasPlainInstances d = (i : ℕ) → IsPlain (get_or d.instances i [])

-- where the names of its chart's instances, all texts of its pictures and the version are plain, so
-- is a report
abbrev pub ReportsArePlain : Type 0
ReportsArePlain =
    (r : Report) → HasPlainInstances r.chart → HasPlainTexts r.scene → ArePlainRuns r.articles
    → IsPlain r.version → IsPlain (report_text r)

-- a picture of a draft's chart is plain
abbrev pub PrintedPicturesArePlain : Type 0
PrintedPicturesArePlain =
    (draft : Tree) → IsDraft draft → (ranks : Option (List ℕ)) (queues : Option Queues) (form : PictureFormat) (printed : List ℕ)
    → PrintsPicture draft (chart_of draft) ranks queues form printed → IsPlain printed

-- and so is one of a run that reverses a race
abbrev pub PrintedReversalsArePlain : Type 0
PrintedReversalsArePlain =
    (draft : Tree) → IsDraft draft → (ranks : Option (List ℕ)) (queues : Queues) (form : PictureFormat) (e f : ℕ) (printed : List ℕ)
    → PrintsReversal draft (chart_of draft) ranks queues form e f printed → IsPlain printed

-- and a report, where the version is
abbrev pub PrintedReportsArePlain : Type 0
PrintedReportsArePlain =
    (draft : Tree) → IsDraft draft → (ranks : Option (List ℕ)) (queues : Queues) (version printed : List ℕ) → IsPlain version
    → PrintsReport draft (chart_of draft) ranks queues version printed → IsPlain printed
