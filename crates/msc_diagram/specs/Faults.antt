-- The lines that faults of imports and of marks are printed as. This project's own format.
use Rattle.std.specs.Prelude.{ℕ, cond, nat_le, List, ◌++◌, codes}
use Rattle.std.specs.Fmt.{decimal}
use Rattle.msc_mermaid.specs.Expectations.{closer_word, expectation}
use Rattle.msc_mermaid.specs.Keys.{head_text}
use Rattle.msc_scenarios.specs.declared.TheConstants.{SCENARIO_LIMIT}
use Rattle.msc_mermaid.specs.declared.fault.ImportFault.{ImportFault}
use Rattle.msc_mermaid.specs.declared.fault.ImportFault.TheVariants as imports
use Rattle.msc_import.specs.Importing.{Refusal}
use Rattle.msc_report.specs.Texts.{text_line}
use Rattle.msc_arrow_marks.specs.declared.fault.Slip.{Slip}
use Rattle.msc_arrow_marks.specs.declared.fault.Slip.TheVariants as slips

-- the line of a fault by its number, on a line of the text
abbrev pub import_line : ℕ → ℕ → List ℕ → List ℕ
import_line number line words =
    codes "import fault " ++ (decimal number ++ (codes " at " ++ (decimal line ++ (codes ": " ++ text_line words))))

-- the line of a diagram that has several scenarios, so many or more than are counted
abbrev pub several_line : ℕ → List ℕ
several_line count =
    cond (nat_le count SCENARIO_LIMIT) (codes "import fault 12: " ++ (decimal count ++ text_line (codes " scenarios, say --choose"))) (text_line (codes "import fault 12: more than 4096 scenarios, say --choose"))

-- the line of a fault of an import, and of the name that it speaks of
abbrev pub import_fault_line : ImportFault → List ℕ → List ℕ
import_fault_line imports.TooLong name = text_line (codes "import fault 1: text longer than 1048576 bytes")
import_fault_line (imports.Expected here what) name = codes "import fault 2 at " ++ (decimal here.line ++ (codes ": expected " ++ text_line (expectation what)))
import_fault_line (imports.Unsupported here head) name = codes "import fault 3 at " ++ (decimal here.line ++ (codes ": " ++ (head_text head ++ text_line (codes " is not supported"))))
import_fault_line (imports.Entity here) name = codes "import fault 3 at " ++ (decimal here.line ++ (codes ": " ++ (name ++ text_line (codes " is not supported"))))
import_fault_line (imports.Unended here) name = import_line 4 here.line (codes "block without end")
import_fault_line (imports.Outside here word) name = codes "import fault 5 at " ++ (decimal here.line ++ (codes ": " ++ (closer_word word ++ text_line (codes " outside of its block"))))
import_fault_line (imports.Stray here) name = import_line 5 here.line (codes "sequenceDiagram outside of its block")
import_fault_line (imports.TooDeep here) name = import_line 6 here.line (codes "more than 10 blocks inside each other")
import_fault_line (imports.TooManyLines here) name = import_line 7 here.line (codes "more than 32 instances")
import_fault_line (imports.TooManyScenarios limit) name =
    codes "import fault 11: more than " ++ (decimal limit ++ text_line (codes " scenarios"))
import_fault_line (imports.Several count) name = several_line count
import_fault_line (imports.Choice here choice most) name =
    codes "import fault 13 at " ++ (decimal here.line ++ (codes ": choice " ++ (decimal choice ++ (codes " is more than " ++ text_line (decimal most)))))
import_fault_line (imports.TooManyChoices given met) name =
    codes "import fault 14: " ++ (decimal given ++ (codes " choices for " ++ (decimal met ++ text_line (codes " blocks"))))
import_fault_line (imports.TooManyArrows here) name = import_line 15 here.line (codes "more than 1024 arrows")
import_fault_line (imports.Shared here at) name = codes "import fault 16 at " ++ (decimal here.line ++ (codes ": parallel branches share " ++ text_line name))
import_fault_line (imports.NoDiagram number) name = codes "import fault 17: no diagram " ++ text_line (decimal number)
import_fault_line (imports.SeveralDiagrams count) name =
    codes "import fault 20: " ++ (decimal count ++ text_line (codes " diagrams, say --fence"))
import_fault_line imports.Memory name = text_line (codes "memory fault")

-- the line of why nothing is imported
abbrev pub import_refusal_line : Refusal → List ℕ
import_refusal_line refused = import_fault_line refused.fault refused.name

-- the line of a faulty mark on a line of the text, by the number of its fault and words
abbrev pub accept_line : List ℕ → ℕ → List ℕ → List ℕ
accept_line number line words =
    codes "accept fault " ++ (number ++ (codes " at " ++ (decimal line ++ (codes ": " ++ text_line words))))

abbrev pub accept_fault_line : Slip → ℕ → List ℕ
accept_fault_line slips.Part line = accept_line (codes "1") line (codes "expected in, with or a reason")
accept_fault_line slips.Reason line = accept_line (codes "2") line (codes "no reason")
accept_fault_line slips.Label line = accept_line (codes "3") line (codes "a mark stands in a line of its own")
accept_fault_line slips.Second line = accept_line (codes "4") line (codes "a second mark for one arrow")
