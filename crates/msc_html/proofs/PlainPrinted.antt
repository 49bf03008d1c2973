-- All that is printed of a draft's chart is plain.
use Rattle.std.proofs.Common.{◌≡◌, ℕ, zero, suc, true, List, [], ◌∷◌, Option, None, Some, length, inl, inr, refl, sym, subst, ◌∙◌}
use Rattle.std.specs.Prelude.{codes}
use Rattle.std.specs.Fmt.{decimal}
use Rattle.std.proofs.lemmas.Bool.{cases_lt}
use Rattle.msc_chart.specs.Drawings.{Drawing, chart_of}
use Rattle.msc_chart.specs.Lists.{StandsAt}
use Rattle.msc_chart.specs.declared.queue.Queues.{Queues}
use Rattle.msc_draw.specs.PictureFormats.{text_in}
use Rattle.msc_draw.specs.Pictures.{PrintsPicture, PrintsReversal}
use Rattle.msc_draw.specs.Verdicts.{reversal_text}
use Rattle.msc_draw.specs.declared.picture_format.PictureFormat.{PictureFormat}
use Rattle.msc_draw.specs.declared.picture_format.PictureFormat.TheVariants.{Text, Svg}
use Rattle.msc_links.specs.Said.{queues_said}
use Rattle.msc_parser.specs.Canonical.{canonical}
use Rattle.msc_parser.specs.Drafts.{IsDraft}
use Rattle.msc_parser.specs.Grammar.{Tree}
use Rattle.msc_picture.specs.Plain.{HasPlainTexts, IsPlain, PicturesArePlain, TextsOfPicturesArePlain, is_plain}
use Rattle.msc_picture.specs.Scenes.{IsPopulated}
use Rattle.msc_picture.specs.declared.scene.Scene.{Scene}
use Rattle.msc_picture.proofs.PlainBytes.{plain_by, plain_decimal, plain_join}
use Rattle.msc_race.specs.Views.{races_of}
use Rattle.msc_race.specs.Wired.{enforced_chart}
use Rattle.msc_svg.specs.Laws.{SvgPicturesArePlain}
use Rattle.msc_html.specs.Articles.{Article}
use Rattle.msc_html.specs.Findings.{AreDrawn, PrintsReport, ShowsIts}
use Rattle.msc_html.specs.Plain.{ArePlainRuns, HasPlainInstances}
use Rattle.msc_html.specs.Reports.{report}
use Rattle.msc_html.proofs.PlainNames.{instances_plain, names_plain}
use Rattle.msc_html.proofs.PlainQueues.{said_plain}
use Rattle.msc_html.proofs.PlainReports.{over_plain, report_plain}

-- what stands above the picture of a run
run_over_plain : (d : Drawing) (queues : Queues) (e f : ℕ) → HasPlainInstances d
    → is_plain (reversal_text d queues e f) ≡ true
run_over_plain d queues e f names =
    plain_join _ (decimal e) (plain_join _ (codes " before ") (plain_join _ (decimal f)
    (plain_join (queues_said d queues) (codes ": a run with ") (said_plain d queues names) (plain_by _ refl))
    (plain_decimal f)) (plain_by _ refl)) (plain_decimal e)

-- the texts of the pictures of runs, where each article that has one has plain ones
runs_plain : (articles : List Article)
    → ((k : ℕ) (a : Article) → StandsAt articles k a → (s : Scene) → a.run ≡ Some s → HasPlainTexts s) → ArePlainRuns articles
runs_plain [] each = plain_by [] refl
runs_plain (a ∷ others) each = (each zero a refl, runs_plain others (λ k b at. each (suc k) b at))

module _ (texts : TextsOfPicturesArePlain) (pictures : PicturesArePlain) (svgs : SvgPicturesArePlain) (draft : Tree) (is : IsDraft draft) where
  -- the texts of a picture of the chart, or of a run of it
  scene_plain : (s : Scene) → IsPopulated draft (chart_of draft) s → HasPlainTexts s
  scene_plain s shows = texts draft (chart_of draft) s (names_plain draft is) shows

  form_plain : (form : PictureFormat) (s : Scene) (more : List ℕ) → IsPopulated draft (chart_of draft) s → IsPlain more → IsPlain (text_in form s more)
  form_plain Text s more shows over = pictures s (scene_plain s shows)
  form_plain Svg s more shows over = svgs s more (scene_plain s shows) over

  -- a picture is plain
  pub picture_printed : (ranks : Option (List ℕ)) (queues : Option Queues) (form : PictureFormat) (printed : List ℕ)
      → PrintsPicture draft (chart_of draft) ranks queues form printed → IsPlain printed
  picture_printed ranks None form printed says =
      subst IsPlain (sym says.text) (form_plain form says.scene [] says.right.shows (plain_by [] refl))
  picture_printed ranks (Some queues) form printed says =
      subst IsPlain (sym says.text) (form_plain form says.scene _ says.right.shows (over_plain (chart_of draft) queues _ _ (instances_plain draft is)))

  -- and so is one of a run
  pub reversal_printed : (ranks : Option (List ℕ)) (queues : Queues) (form : PictureFormat) (e f : ℕ) (printed : List ℕ)
      → PrintsReversal draft (chart_of draft) ranks queues form e f printed → IsPlain printed
  reversal_printed ranks queues form e f printed says =
      subst IsPlain (sym says.run.text) (form_plain form says.run.scene _ says.run.shows (run_over_plain (chart_of draft) queues e f (instances_plain draft is)))

  -- the picture of a run in an article
  article_run : (ranks : Option (List ℕ)) (queues : Queues) (many : ℕ) (articles : List Article)
      → AreDrawn (ShowsIts draft (chart_of draft) ranks queues) many articles
      → (k : ℕ) (a : Article) → StandsAt articles k a → (s : Scene) → a.run ≡ Some s → HasPlainTexts s
  article_run ranks queues many articles are k a at s same = elim (cases_lt k many) [
    | inl less ↦
        let drawn = are.some k a at less in
        let one : drawn.0 ≡ s = let both = sym drawn.1 ∙ same in cc in
        subst HasPlainTexts one (scene_plain drawn.0 drawn.2.shows)
    | inr past ↦ absurd (let none = are.none k a at past in cc)
  ]

  -- and so is a report
  pub report_printed : (ranks : Option (List ℕ)) (queues : Queues) (version printed : List ℕ) → IsPlain version
      → PrintsReport draft (chart_of draft) ranks queues version printed → IsPlain printed
  report_printed ranks queues version printed plain says =
      let races = length (races_of (enforced_chart (chart_of draft) queues says.order)) in
      subst IsPlain (sym says.text) (report_plain
      (report (chart_of draft) queues races (length says.closest) says.scene says.articles (canonical draft) version)
      (instances_plain draft is) (scene_plain says.scene says.right.shows)
      (runs_plain says.articles (article_run ranks queues says.many says.articles says.tell.drawn)) plain)
