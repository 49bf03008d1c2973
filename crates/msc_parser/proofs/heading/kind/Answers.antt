use Rattle.std.proofs.Common.{◌∙◌}
use Rattle.msc_parser.specs.Places.{DeclKind, DeclEnd}
use Rattle.msc_parser.proofs.Steps.{not_both, exits}
use Rattle.msc_parser.proofs.Endings.{within_others}
use Rattle.msc_parser.proofs.Headings.{kind_none, kind_first_refused, kind_one, kind_two}
use Rattle.msc_parser.proofs.Parts.{pushed_one, pushed_two}
use Rattle.msc_parser.proofs.heading.kind.Goals as goal

pub returns-then-not-stands : goal.returns-then-not-stands
returns-then-not-stands c =
    kind_none c.args.text.now c.args.tokens.now _ c.requires (λ e. not_both c.stands.ensures c.if-not-stands.true e) (c.from_vec.ensures ∙ c.new-names.ensures.items)

pub take_name-requires : goal.take_name-requires
take_name-requires c = within_others c.args.text.now c.args.tokens.now c.requires

pub returns-in_err-first : goal.returns-in_err-first
returns-in_err-first c = λ st.
    exits c.args.text.now _ (DeclKind st) (DeclEnd st) c.args.tokens.now _ c.in_err-first.field-0.0 c.from_residual.ensures.1
    (kind_first_refused c.args.text.now c.args.tokens.now _ c.requires (c.stands.ensures.0 c.if-not-stands.false) c.in_err-first.ensures st)

pub returns-then-not-stands-2 : goal.returns-then-not-stands-2
returns-then-not-stands-2 c =
    let one = pushed_one c.new-names.result.items c.push.new.self.items _ c.new-names.ensures.items c.in_ok-push.ensures.items in
    rw (c.from_vec-then-not-stands-2.ensures, one)
    (kind_one c.args.text.now c.args.tokens.now c.requires (c.stands.ensures.0 c.if-not-stands.false) c.in_ok-first.ensures
    (λ e. not_both c.stands-2.ensures c.if-not-stands-2.true e))

pub returns : goal.returns
returns c =
    let one = pushed_one c.new-names.result.items c.push.new.self.items _ c.new-names.ensures.items c.in_ok-push.ensures.items in
    let two = pushed_two c.push.new.self.items c.push-2.new.self.items _ _ one c.in_ok-push-2.ensures.items in
    rw (c.from_vec-2.ensures, two)
    (kind_two c.args.text.now c.args.tokens.now c.requires (c.stands.ensures.0 c.if-not-stands.false) c.in_ok-first.ensures c.in_ok-second.ensures)
