use Rattle.std.proofs.Common.{◌<◌, ◌+◌, ℕ, refl, subst, ap}
use Rattle.msc_html.proofs.OneMore.{no_more, one_more}
use Rattle.msc_html.specs.declared.article.ShownRace.{ShownRace}
use Rattle.msc_html.specs.declared.races.Progress.{Progress}
use Rattle.msc_race.specs.Views.{wiring_of}
use Rattle.msc_race.specs.Wired.{EnforcedChart}
use Rattle.msc_reason.specs.Causes.{IsCauseOf}
use Rattle.msc_html.proofs.races.put_race.Goals as goal

pub returns-then-progress-ge-ARTICLE_LIMIT : goal.returns-then-progress-ge-ARTICLE_LIMIT
returns-then-progress-ge-ARTICLE_LIMIT c = λ base races h.
    no_more c.args.source.now base c.args.page.now.items races c.args.race c.args.progress.now h
    c.if-progress-ge-ARTICLE_LIMIT.true

pub returns : goal.returns
returns c = λ base races h.
    let p = c.args.progress.now in
    let q = c.put_run_article.new.progress in
    let t : ShownRace = record {
      number = p.told + 1;
      first = c.args.race.0;
      second = c.args.race.1;
      cause = c.cause_of.result;
    } in
    let new : Progress = record { told = q.told + 1; room = q.room; full = q.full } in
    let made = c.in_ok-put_run_article.ensures.article in
    let right = subst (λ (e : EnforcedChart). IsCauseOf (wiring_of e) c.args.race.0 c.args.race.1 c.cause_of.result)
    c.enforced-enforced.ensures c.cause_of.ensures.cause in
    let few : p.told < 50 = c.if-progress-ge-ARTICLE_LIMIT.false in
    one_more c.args.source.now base c.args.page.now.items c.put_run_article.new.page.items races
    c.args.race p q new t made.0 h few made.1
    (ap (λ (n : ℕ). n + 1) c.in_ok-put_run_article.ensures.told) refl refl refl refl right made.2
