-- What was printed is right to print.
use Rattle.std.proofs.Common.{◌≡◌, ◌⊎◌, inl, inr, ℕ, Bool, true, false, cond, nat_eq, List, length, Option, None, Some, Result, Ok, Err, ap, subst, sym, ◌∙◌}
use Rattle.msc_answer.proofs.Witness.{found_text}
use Rattle.msc_answer.specs.Refused.{is_spent}
use Rattle.msc_answer.specs.declared.ending.Refusal.{Refusal}
use Rattle.msc_answer.specs.declared.tasks.ScenarioArgs.{ScenarioArgs}
use Rattle.msc_markdown.specs.Markdowns.{Found, markdown}
use Rattle.msc_mermaid.specs.declared.fault.ImportFault.{ImportFault}
use Rattle.msc_report.specs.declared.fault.Fault.{Fault}
use Rattle.msc_scan.specs.declared.name.FileKind.{FileKind}
use Rattle.msc_scan.specs.declared.name.FileKind.TheVariants as kinds
use Rattle.msc_scanning.specs.Holding.{holding_by, holding_of, is_mermaid_text}
use Rattle.msc_scanning.specs.Linking.{IsRefusedSo}
use Rattle.msc_scanning.specs.Putting.{Gives}
use Rattle.msc_scanning.specs.Refusing.{AnswersRefusal}
use Rattle.msc_scanning.specs.Texts.{AreWordsFor, PutsHeld, PutsText}
use Rattle.msc_scanning.specs.declared.holding.Holding.{Holding}
use Rattle.msc_scanning.specs.declared.holding.Holding.TheVariants.{Nothing, Chart, Diagram, Blocks}
use Rattle.msc_scanning.specs.declared.outcome.Outcome.{Outcome}
use Rattle.msc_scanning.specs.declared.words.Plan.{Plan}

module _ {W : Type 0} (contents : W → Option (List ℕ)) where
  -- what is right to print for one reason is right for another
  pub given : {A E : Type 0} → (one other : A → List ℕ → Type 0) → ((a : A) (printed : List ℕ) → one a printed → other a printed)
      → (result : Result A E) (old new : W) → Gives contents one result old new → Gives contents other result old new
  given one other so (Ok a) old new (printed, is, wrote) = (printed, so a printed is, wrote)
  given one other so (Err e) old new gives = tt

  module _ (p : Plan) (label file text : List ℕ) (refusal : Refusal) (prints : Outcome → List ℕ → Type 0) where
    -- a refusal was told
    pub told : ((outcome : Outcome) (printed : List ℕ) → IsRefusedSo p label file text refusal outcome printed → prints outcome printed)
        → (result : Result Outcome Fault) (old new : W) → AnswersRefusal contents p label file text refusal result old new → Gives contents prints result old new
    told so (Ok outcome) old new (unspent, is, (printed, page, wrote)) = (printed, so outcome printed (is, page), wrote)
    told so (Err fault) old new answers = tt

    -- so was one before which nothing was printed
    pub refused : (refuses : Refusal → Type 0)
        → ((outcome : Outcome) (printed : List ℕ) → refuses refusal → IsRefusedSo p label file text refusal outcome printed → prints outcome printed)
        → (result : Result Outcome Fault) (old mid new : W) → (is_spent refusal ≡ true) ⊎ (refuses refusal × (mid ≡ old))
        → AnswersRefusal contents p label file text refusal result mid new → Gives contents prints result old new
    refused refuses so (Ok outcome) old mid new (inl spent) (unspent, is, page) = let never : false ≡ true = sym unspent ∙ spent in absurd cc
    refused refuses so (Ok outcome) old mid new (inr (why, same)) (unspent, is, (printed, page, wrote)) =
        (printed, so outcome printed why (is, page), rw same at wrote)
    refused refuses so (Err fault) old mid new before answers = tt

-- a text that holds sequence diagrams of Markdown was read as Markdown
blocks_in : (named whole none : Bool) (f g : Found) → cond whole Diagram (cond none (cond named Nothing Chart) (Blocks f)) ≡ Blocks g → f ≡ g
blocks_in named true none f g is = absurd cc
blocks_in true false true f g is = absurd cc
blocks_in false false true f g is = absurd cc
blocks_in named false false f g is = cc

blocks_by : (named : Bool) (found : Result Found ImportFault) (g : Found) → holding_by named found ≡ Blocks g → found ≡ Ok g
blocks_by named (Ok f) g is = ap Ok (blocks_in named f.whole (nat_eq (length f.numbers) 0) f g is)
blocks_by true (Err fault) g is = absurd cc
blocks_by false (Err fault) g is = absurd cc

mermaid_none : (is_diagram : Bool) (g : Found) → cond is_diagram Diagram Nothing ≡ Blocks g → ⊥
mermaid_none true g is = cc
mermaid_none false g is = cc

pub blocks_read : (kind : Option FileKind) (text : List ℕ) (g : Found) → holding_of kind text ≡ Blocks g → markdown text ≡ Ok g
blocks_read (Some kinds.Chart) text g is = absurd cc
blocks_read (Some kinds.Mermaid) text g is = absurd (mermaid_none (is_mermaid_text text) g is)
blocks_read (Some kinds.Markdown) text g is = blocks_by true (markdown text) g is
blocks_read None text g is = blocks_by false (markdown text) g is

pub blocks_text : (kind : Option FileKind) (text : List ℕ) (g : Found) → holding_of kind text ≡ Blocks g → g.text ≡ text
blocks_text kind text g is = found_text text g (blocks_read kind text g is)

pub blocks_known : (kind : Option FileKind) (text : List ℕ) (g : Found) → holding_of kind text ≡ Blocks g → markdown g.text ≡ Ok g
blocks_known kind text g is = subst (λ (t : List ℕ). markdown t ≡ Ok g) (sym (blocks_text kind text g is)) (blocks_read kind text g is)

-- what is printed of what a text holds is printed of it
pub held : (p : Plan) (file : List ℕ) (kind : Option FileKind) (text : List ℕ) (x : ScenarioArgs) (h : Holding) (outcomes : List Outcome) (printed : List ℕ)
    → AreWordsFor p file kind x → h ≡ holding_of kind text → PutsHeld h p x file text outcomes printed → PutsText p file kind text outcomes printed
held p file kind text x h outcomes printed are is puts = (x, are, subst (λ (h : Holding). PutsHeld h p x file text outcomes printed) is puts)
