-- All sequence diagrams of a Markdown text: what was printed of some first ones, and what of the
-- next.
use Rattle.std.proofs.Common.{◌≡◌, ◌<◌, ◌≤◌, ◌+◌, ◌||◌, ℕ, Bool, true, false, nat_lt, List, [], ◌∷◌, ◌++◌, length, drop, get_or, Option, Result, Ok, Err, inl, inr, refl, sym, ap, subst, ◌∙◌}
use Rattle.std.specs.Io.KnownBytes.{Appends}
use Rattle.std.proofs.lemmas.List.{append-nil, append_assoc, drop_all, drop_more}
use Rattle.msc_print.proofs.KnownBytes.{Appends-append}
use Rattle.msc_report.specs.declared.fault.Fault.TheVariants.{Parse, Chart, NotStarted, Memory, Device}
use Rattle.msc_print.proofs.PrintLemmas.{Appends-none as nothing_more}
use Rattle.msc_answer.specs.Answering.{AnswersWith, IsPut, TellsBlock}
use Rattle.msc_answer.specs.Refused.{form_of, is_spent, AreTold, IsToldIn, TellsIn}
use Rattle.msc_answer.specs.Scenarios.{RefusesScenarios}
use Rattle.msc_answer.specs.Surveys.{at_block, behind, refused_end, refused_text, survey_end, worse, BeginsBlock, BeginsOne, BeginsSurvey, PrintsBlock, Surveys, SurveysOne}
use Rattle.msc_answer.specs.declared.ending.Refusal.{Refusal}
use Rattle.msc_answer.specs.declared.ending.Refusal.TheVariants as refusals
use Rattle.msc_answer.specs.declared.ending.Status.{Status}
use Rattle.msc_answer.specs.declared.ending.Status.TheVariants.{Done, Refused}
use Rattle.msc_answer.specs.declared.scenarios.Surveyed.{Surveyed}
use Rattle.msc_answer.specs.declared.tasks.RefusalForm.{RefusalForm}
use Rattle.msc_answer.specs.declared.tasks.RefusalForm.TheVariants as forms
use Rattle.msc_answer.specs.declared.tasks.ScenarioArgs.{ScenarioArgs}
use Rattle.msc_answer.specs.declared.tasks.Task.TheVariants as tasks

-- what a form has of a refusal went out, if it is nothing too
lines_in : {W : Type 0} (contents : W → Option (List ℕ)) (form : RefusalForm) (file text : List ℕ) (refusal : Refusal) (old new : W)
    → TellsIn contents form file text refusal old new
    → (lines : List ℕ) × AreTold form file text refusal lines × Appends (contents old) (contents new) lines
lines_in contents forms.Nothing file text refusal old new same = ([], refl, rw same (nothing_more _))
lines_in contents forms.Lines file text refusal old new told = told
lines_in contents (forms.Words colours) file text refusal old new told = told

module _ {W : Type 0} (contents : W → Option (List ℕ)) (x : ScenarioArgs) (file text : List ℕ) where
  module _ (n : ℕ) where
    module _ (refusal : Refusal) (form : RefusalForm) (is : form ≡ form_of (tasks.Scenarios x)) (old mid new : W)
        (wrote : Appends (contents old) (contents mid) (refused_text x file n)) where
      -- the text of a diagram that is refused went out, and its lines
      pub lines_told : TellsIn contents form file text refusal mid new
          → (lines : List ℕ) × AreTold (form_of (tasks.Scenarios x)) file text refusal lines × Appends (contents old) (contents new) (refused_text x file n ++ lines)
      lines_told told =
          let lines = lines_in contents form file text refusal mid new told in (
            lines.0,
            subst (λ (f : RefusalForm). AreTold f file text refusal lines.0) is lines.1,
            Appends-append (contents old) (contents mid) (contents new) (refused_text x file n) lines.0 wrote lines.2,
          )

      -- or the lines did not
      pub lines_untold : (other : Refusal) → IsToldIn contents form file text refusal (Err other) mid new
          → TellsBlock contents x file text n refusal (Err other) old new
      lines_untold other (inl (memory, same)) = inl (memory, inr (inl (rw same wrote)))
      lines_untold other (inr device) = inr device

      -- and what follows them went out
      pub told_block : TellsIn contents form file text refusal mid new → (u : Unit {0}) (after : W)
          → Appends (contents new) (contents after) (refused_end x) → TellsBlock contents x file text n refusal (Ok u) old after
      told_block told u after ended =
          let lines = lines_told told in (
            lines.0,
            lines.1,
            subst (λ (p : List ℕ). Appends (contents old) (contents after) p) (append_assoc (refused_text x file n) lines.0 (refused_end x))
                (Appends-append (contents old) (contents new) (contents after) (refused_text x file n ++ lines.0) (refused_end x) lines.2 ended),
          )

    -- where nothing is refused, a diagram is left as that
    pub spent_block : (r : Refusal) (old new : W) → is_spent r ≡ true
        → AnswersWith contents (PrintsBlock x file text n) (BeginsBlock x file text n) (RefusesScenarios (at_block x n) text) (Err r) old new
        → AnswersWith contents (SurveysOne x file text n) (BeginsOne x file text n) (λ refusal. ⊥) (Err r) old new
    spent_block (refusals.Fault (Parse f)) old new spent does = absurd cc
    spent_block (refusals.Fault (Chart f)) old new spent does = absurd cc
    spent_block (refusals.Fault (NotStarted i)) old new spent does = absurd cc
    spent_block (refusals.Fault Memory) old new spent (inl same) = inl same
    spent_block (refusals.Fault Memory) old new spent (inr (printed, begins, part)) = inr (printed, inl begins, part)
    spent_block (refusals.Fault Device) old new spent does = tt
    spent_block (refusals.Pair f) old new spent does = absurd cc
    spent_block (refusals.Mark f) old new spent does = absurd cc
    spent_block (refusals.ArrowMark f) old new spent does = absurd cc
    spent_block (refusals.Instance name) old new spent does = absurd cc
    spent_block (refusals.Link fault) old new spent does = absurd cc
    spent_block (refusals.Rounds f) old new spent does = absurd cc
    spent_block (refusals.Import e) old new spent does = absurd cc

    -- where it is refused, the writer has had no call before it is told
    pub refused_block : (r : Refusal) (old new : W) → is_spent r ≡ false
        → AnswersWith contents (PrintsBlock x file text n) (BeginsBlock x file text n) (RefusesScenarios (at_block x n) text) (Err r) old new
        → RefusesScenarios (at_block x n) text r × (new ≡ old)
    refused_block (refusals.Fault (Parse f)) old new refused does = does
    refused_block (refusals.Fault (Chart f)) old new refused does = does
    refused_block (refusals.Fault (NotStarted i)) old new refused does = does
    refused_block (refusals.Fault Memory) old new refused does = absurd cc
    refused_block (refusals.Fault Device) old new refused does = absurd cc
    refused_block (refusals.Pair f) old new refused does = does
    refused_block (refusals.Mark f) old new refused does = does
    refused_block (refusals.ArrowMark f) old new refused does = does
    refused_block (refusals.Instance name) old new refused does = does
    refused_block (refusals.Link fault) old new refused does = does
    refused_block (refusals.Rounds f) old new refused does = does
    refused_block (refusals.Import e) old new refused does = does

    module _ (refusal : Refusal) (old mid new : W) (said : RefusesScenarios (at_block x n) text refusal × (mid ≡ old)) where
      -- then it was told
      pub surveyed_refused : (u : Unit {0}) → TellsBlock contents x file text n refusal (Ok u) mid new
          → AnswersWith contents (SurveysOne x file text n) (BeginsOne x file text n) (λ r. ⊥) (Ok (record { status = Refused; listed = 0; accepted = 0; marked = false })) old new
      surveyed_refused u (lines, are, wrote) = (
        refused_text x file n ++ (lines ++ refused_end x),
        inr (record { refusal = refusal; refused = said.0; ends = refl; lines = lines; are = are; text_is = refl }),
        subst (λ (w : W). Appends (contents w) (contents new) (refused_text x file n ++ (lines ++ refused_end x))) said.1 wrote,
      )

      -- what was told of it begins what is printed
      begun_so : (printed : List ℕ) → BeginsOne x file text n printed → Appends (contents mid) (contents new) printed
          → AnswersWith contents (SurveysOne x file text n) (BeginsOne x file text n) (λ r. ⊥) (Err (refusals.Fault Memory)) old new
      begun_so printed begins wrote = inr (
        printed,
        begins,
        (printed, [], sym (append-nil _), subst (λ (w : W). Appends (contents w) (contents new) printed) said.1 wrote),
      )

      -- or it was not
      pub untold_block : (other : Refusal) → TellsBlock contents x file text n refusal (Err other) mid new
          → AnswersWith contents (SurveysOne x file text n) (BeginsOne x file text n) (λ r. ⊥) (Err other) old new
      untold_block other (inl (memory, inl same)) = rw memory (inl (same ∙ said.1))
      untold_block other (inl (memory, inr (inl wrote))) = rw memory (begun_so (refused_text x file n) (inr (refusal, said.0, inl refl)) wrote)
      untold_block other (inl (memory, inr (inr (lines, are, wrote)))) =
          rw memory (begun_so (refused_text x file n ++ lines) (inr (refusal, said.0, inr (lines, are, refl))) wrote)
      untold_block other (inr device) = rw device tt

  module _ (ns : List ℕ) where
    -- what is printed of the diagrams of these numbers follows what was printed
    abbrev pub Follows : ScenarioArgs → Bool → Bool → Status → List ℕ → List ℕ → Type 0
    Follows now is_listed is_marked worst rest done =
        ((status : Status) (more : List ℕ) → Surveys now file text rest is_listed is_marked worst status more → Surveys x file text ns false false Done status (done ++ more))
        × ((more : List ℕ) → BeginsSurvey now file text rest more → BeginsSurvey x file text ns (done ++ more))

    -- that went behind the known bytes of a writer
    abbrev pub SoFar : ScenarioArgs → Bool → Bool → Status → List ℕ → W → W → Type 0
    SoFar now is_listed is_marked worst rest old new = (done : List ℕ) × Follows now is_listed is_marked worst rest done × Appends (contents old) (contents new) done

    -- nothing was printed yet
    pub none_so_far : (old : W) → SoFar x false false Done ns old old
    none_so_far old = ([], ((λ status more says. says), (λ more begins. begins)), nothing_more _)

    module _ (now : ScenarioArgs) (is_listed is_marked : Bool) (worst : Status) (n : ℕ) (rest : List ℕ) where
      -- what is printed of one and of those behind it is printed of all of them
      one_more : (one : Surveyed) (first : List ℕ) → SurveysOne now file text n one first → (status : Status) (more : List ℕ)
          → Surveys (behind now one.listed) file text rest (is_listed || nat_lt 0 one.listed) (is_marked || one.marked) (worse worst one.status) status more
          → Surveys now file text (n ∷ rest) is_listed is_marked worst status (first ++ more)
      unfolding Surveys
      one_more one first is status more says = (one, first, more, is, says, refl)

      one_begun : (one : Surveyed) (first : List ℕ) → SurveysOne now file text n one first → (more : List ℕ)
          → BeginsSurvey (behind now one.listed) file text rest more → BeginsSurvey now file text (n ∷ rest) (first ++ more)
      unfolding BeginsSurvey
      one_begun one first is more begins = inr (inr (one, first, more, is, begins, refl))

      -- what begins one begins them
      begun_here : (printed : List ℕ) → BeginsOne now file text n printed → BeginsSurvey now file text (n ∷ rest) printed
      unfolding BeginsSurvey
      begun_here printed begins = inr (inl begins)

      begun_none : BeginsSurvey now file text (n ∷ rest) []
      unfolding BeginsSurvey
      begun_none = inl refl

      -- one more was printed
      pub more_so_far : (one : Surveyed) (old mid new : W) → SoFar now is_listed is_marked worst (n ∷ rest) old mid
          → AnswersWith contents (SurveysOne now file text n) (BeginsOne now file text n) (λ r. ⊥) (Ok one) mid new
          → SoFar (behind now one.listed) (is_listed || nat_lt 0 one.listed) (is_marked || one.marked) (worse worst one.status) rest old new
      more_so_far one old mid new (done, follows, wrote) (first, is, more_wrote) = (
        done ++ first,
        (
          (λ status more says. subst (λ (p : List ℕ). Surveys x file text ns false false Done status p) (sym (append_assoc done first more))
              (follows.0 status (first ++ more) (one_more one first is status more says))),
          (λ more begins. subst (λ (p : List ℕ). BeginsSurvey x file text ns p) (sym (append_assoc done first more))
              (follows.1 (first ++ more) (one_begun one first is more begins))),
        ),
        Appends-append (contents old) (contents mid) (contents new) done first wrote more_wrote,
      )

      -- one was not, so they are not
      pub failed_so_far : (r : Refusal) (old mid new : W) → SoFar now is_listed is_marked worst (n ∷ rest) old mid
          → AnswersWith contents (SurveysOne now file text n) (BeginsOne now file text n) (λ r. ⊥) (Err r) mid new
          → AnswersWith contents (Surveys x file text ns false false Done) (BeginsSurvey x file text ns) (λ r. ⊥) (Err r) old new
      failed_so_far (refusals.Fault Memory) old mid new (done, follows, wrote) (inl same) = inr (
        done ++ [],
        follows.1 [] begun_none,
        (done, [], refl, subst (λ (w : W). Appends (contents old) (contents w) done) (sym same) wrote),
      )
      failed_so_far (refusals.Fault Memory) old mid new (done, follows, wrote) (inr (printed, begins, (front, left, is, part))) = inr (
        done ++ printed,
        follows.1 printed (begun_here printed begins),
        (
          done ++ front,
          left,
          ap (λ (p : List ℕ). done ++ p) is ∙ sym (append_assoc done front left),
          Appends-append (contents old) (contents mid) (contents new) done front wrote part,
        ),
      )
      failed_so_far (refusals.Fault Device) old mid new so does = tt
      failed_so_far (refusals.Fault (Parse f)) old mid new so does = absurd does.0
      failed_so_far (refusals.Fault (Chart f)) old mid new so does = absurd does.0
      failed_so_far (refusals.Fault (NotStarted i)) old mid new so does = absurd does.0
      failed_so_far (refusals.Pair f) old mid new so does = absurd does.0
      failed_so_far (refusals.Mark f) old mid new so does = absurd does.0
      failed_so_far (refusals.ArrowMark f) old mid new so does = absurd does.0
      failed_so_far (refusals.Instance name) old mid new so does = absurd does.0
      failed_so_far (refusals.Link fault) old mid new so does = absurd does.0
      failed_so_far (refusals.Rounds f) old mid new so does = absurd does.0
      failed_so_far (refusals.Import e) old mid new so does = absurd does.0

    module _ (now : ScenarioArgs) (is_listed is_marked : Bool) (worst : Status) where
      ended : Surveys now file text [] is_listed is_marked worst worst (survey_end now is_listed is_marked)
      unfolding Surveys
      ended = (refl, refl)

      begun_all : BeginsSurvey now file text [] []
      unfolding BeginsSurvey
      begun_all = refl

      -- all were printed, and what follows them
      pub all_so_far : (old mid : W) → SoFar now is_listed is_marked worst [] old mid → (answer : Result Status Refusal) (new : W)
          → IsPut contents (survey_end now is_listed is_marked) worst answer mid new
          → AnswersWith contents (Surveys x file text ns false false Done) (BeginsSurvey x file text ns) (λ r. ⊥) answer old new
      all_so_far old mid (done, follows, wrote) (Ok status) new (same, ended_so) = (
        done ++ survey_end now is_listed is_marked,
        follows.0 status _ (subst (λ (s : Status). Surveys now file text [] is_listed is_marked worst s (survey_end now is_listed is_marked)) (sym same) ended),
        Appends-append (contents old) (contents mid) (contents new) done (survey_end now is_listed is_marked) wrote ended_so,
      )
      all_so_far old mid so (Err refusal) new device = rw device tt

      -- what follows them was not
      pub no_end : (old new : W) → SoFar now is_listed is_marked worst [] old new
          → AnswersWith contents (Surveys x file text ns false false Done) (BeginsSurvey x file text ns) (λ r. ⊥) (Err (refusals.Fault Memory)) old new
      no_end old new (done, follows, wrote) = inr (done ++ [], follows.1 [] begun_all, (done, [], refl, wrote))

    -- at a place of the numbers, and behind the last
    module _ (now : ScenarioArgs) (is_listed is_marked : Bool) (worst : Status) (i : ℕ) (old : W) where
      pub at_place : (e : ℕ) → i < length ns → (mid : W) → SoFar now is_listed is_marked worst (drop i ns) old mid → SoFar now is_listed is_marked worst (get_or ns i e ∷ drop (i + 1) ns) old mid
      at_place e inside mid so = subst (λ (rest : List ℕ). SoFar now is_listed is_marked worst rest old mid) (drop_more ns i e inside) so

      pub at_end : length ns ≤ i → (new : W) → SoFar now is_listed is_marked worst (drop i ns) old new → SoFar now is_listed is_marked worst [] old new
      at_end past new so = subst (λ (rest : List ℕ). SoFar now is_listed is_marked worst rest old new) (drop_all i ns past) so
