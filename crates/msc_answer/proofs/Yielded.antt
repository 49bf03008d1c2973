-- What is answered of a text is what was yielded: nothing is known of what began where memory ran out.
use Rattle.std.proofs.Common.{ℕ, List, Option, Err, inl, inr, refl}
use Rattle.msc_report.specs.declared.fault.Fault.TheVariants.{Parse, Chart, NotStarted, Memory, Device}
use Rattle.msc_answer.specs.Answering.{AnswersWith}
use Rattle.msc_answer.specs.Verdicts.{Yields}
use Rattle.msc_answer.specs.declared.ending.Refusal.{Refusal}
use Rattle.msc_answer.specs.declared.ending.Refusal.TheVariants as refusals

module _ {W A B : Type 0} (contents : W → Option (List ℕ)) (prints : A → List ℕ → Type 0) (begins : List ℕ → Type 0)
    (refuses : Refusal → Type 0) (yields : B → List ℕ → Type 0) (old new : W) where
  -- where there is no answer
  pub not_yielded : (refusal : Refusal) → AnswersWith contents prints begins refuses (Err refusal) old new
      → Yields contents yields refuses (Err refusal) old new
  not_yielded (refusals.Fault Memory) answers = inl refl
  not_yielded (refusals.Fault Device) answers = inl refl
  not_yielded (refusals.Fault (Parse f)) answers = inr answers
  not_yielded (refusals.Fault (Chart f)) answers = inr answers
  not_yielded (refusals.Fault (NotStarted i)) answers = inr answers
  not_yielded (refusals.Pair f) answers = inr answers
  not_yielded (refusals.Mark f) answers = inr answers
  not_yielded (refusals.ArrowMark f) answers = inr answers
  not_yielded (refusals.Instance name) answers = inr answers
  not_yielded (refusals.Link fault) answers = inr answers
  not_yielded (refusals.Rounds f) answers = inr answers
  not_yielded (refusals.Import e) answers = inr answers
