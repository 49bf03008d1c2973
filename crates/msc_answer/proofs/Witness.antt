-- Which texts are checked diagram by diagram, and the diagram of one of them.
use Rattle.std.proofs.Common.{◌≡◌, ℕ, Bool, true, false, cond, nat_lt, List, length, Option, Some, None, Result, Ok, Err, refl, sym, ap, subst}
use Rattle.msc_import.specs.Importing.{found_as, read, read_from}
use Rattle.msc_import.specs.declared.importing.DiagramReading.{DiagramReading}
use Rattle.msc_lexer.specs.declared.TheConstants.{TEXT_LIMIT}
use Rattle.msc_markdown.specs.Markdowns.{Found, found_in, markdown}
use Rattle.msc_mermaid.specs.declared.fault.ImportFault.{ImportFault}
use Rattle.msc_mermaid.specs.declared.fault.ImportFault.TheVariants.{TooLong}
use Rattle.msc_answer.specs.Answering.{AnswersWith, BeginsDiagrams, Does, PrintsDiagrams, RefusesDiagrams}
use Rattle.msc_answer.specs.Surveys.{many_found, many_in}
use Rattle.msc_answer.specs.declared.ending.Refusal.{Refusal}
use Rattle.msc_answer.specs.declared.ending.Status.{Status}
use Rattle.msc_answer.specs.declared.tasks.ScenarioArgs.{ScenarioArgs}
use Rattle.msc_answer.specs.declared.tasks.Task.TheVariants as tasks

-- what is chosen is what there is
witness_is : (none : Bool) (f g : Found) → cond none None (Some f) ≡ Some g → f ≡ g
witness_is true f g is = absurd cc
witness_is false f g is = cc

many_is : (fence : Option ℕ) (found : Result Found ImportFault) (g : Found) → many_found fence found ≡ Some g → found ≡ Ok g
many_is None (Ok f) g is = ap Ok (witness_is _ f g is)
many_is None (Err e) g is = absurd cc
many_is (Some n) found g is = absurd cc

-- and it is of that text
text_is : (long : Bool) (text : List ℕ) (g : Found) → cond long (Err TooLong) (Ok (found_in text)) ≡ Ok g → g.text ≡ text
text_is true text g is = absurd cc
text_is false text g is =
    let same : found_in text ≡ g = cc in ap (λ (f : Found). f.text) (sym same)

pub found_text : (text : List ℕ) (g : Found) → markdown text ≡ Ok g → g.text ≡ text
unfolding markdown
found_text text g is = text_is (nat_lt TEXT_LIMIT (length text)) text g is

-- of a text whose diagrams are all checked it is known what it holds
pub many_text : (x : ScenarioArgs) (text : List ℕ) (g : Found) → Some g ≡ many_in x text → g.text ≡ text
many_text x text g is = found_text text g (many_is x.diagram.fence (markdown text) g (sym is))

pub many_known : (x : ScenarioArgs) (text : List ℕ) (g : Found) → Some g ≡ many_in x text → markdown g.text ≡ Ok g
many_known x text g is =
    subst (λ (t : List ℕ). markdown t ≡ Ok g) (sym (many_text x text g is)) (many_is x.diagram.fence (markdown text) g (sym is))

-- the diagram of a text is that of what it holds
pub read_found : (x : DiagramReading) (f : Found) → markdown f.text ≡ Ok f → read_from x f ≡ read x f.text
unfolding found_as
read_found x f is = rw is refl

-- what was answered of the diagrams of a text was answered for the task
pub diagrams_so : {W : Type 0} (contents : W → Option (List ℕ)) (x : ScenarioArgs) (file text : List ℕ) (many : Option Found) → many ≡ many_in x text
    → (answer : Result Status Refusal) (old new : W)
    → AnswersWith contents (PrintsDiagrams many x file text) (BeginsDiagrams many x file text) (RefusesDiagrams many x text) answer old new
    → Does contents (tasks.Scenarios x) file text answer old new
diagrams_so contents x file text many is answer old new said =
    subst (λ (m : Option Found). AnswersWith contents (PrintsDiagrams m x file text) (BeginsDiagrams m x file text) (RefusesDiagrams m x text) answer old new) is said
