use Rattle.std.proofs.Common.{◌≡◌, ◌+◌, ◌++◌, ◌∷◌, [], codes, length, get_or, drop, sym, ap, ◌∙◌}
use Rattle.msc_scenarios.specs.Naming.{free_name, made, names_behind}
use Rattle.msc_scenarios.proofs.NamingLemmas.{names_more, names_end}
use Rattle.msc_scenarios.proofs.line_name.names_of.Goals as goal

pub loop-ident-preserved : goal.loop-ident-preserved
loop-ident-preserved c =
    let l = c.loop-ident in let names = l.names.items in let item = c.ident-item.result in
    let idents = c.args.idents.now in
    let made_is : c.in_ok-plain.plain.items ≡ made (get_or idents l.ident-index item) (codes "p") = c.in_ok-plain.ensures ∙ ap (λ x. made x c.as_bytes.result.now) (c.as_slice.ensures ∙ c.ident-item.is) ∙ ap (made (get_or idents l.ident-index item)) c.as_bytes.ensures.value in
    let name_is : c.in_ok-name.name.items ≡ free_name names (made (get_or idents l.ident-index item) (codes "p")) 1 (length names + 1) = c.in_ok-name.ensures ∙ ap (λ x. free_name x c.as_slice-in-loop-ident-2.result.now 1 (length x + 1)) c.as_slice-in-loop-ident.ensures.value ∙ ap (λ x. free_name names x 1 (length names + 1)) (c.as_slice-in-loop-ident-2.ensures.value ∙ made_is) in
    let put = c.in_ok-from_slice.ensures ∙ c.as_slice-in-loop-ident-3.ensures.value ∙ name_is in
    ap (λ x. names_behind x (drop (l.ident-index + 1) idents)) (c.in_ok-push.ensures.items ∙ ap (λ n. names ++ n ∷ []) put)
    ∙ sym (names_more names idents l.ident-index item c.loop-ident-test.true) ∙ l.invariant

pub returns : goal.returns
returns c =
    sym (names_end c.loop-ident.names.items c.args.idents.now c.loop-ident.ident-index c.loop-ident-test.false) ∙ c.loop-ident.invariant
