use Rattle.std.proofs.Common.{◌||◌, is_some, sym, ap, ◌∙◌}
use Rattle.std.specs.Option.{option_copied}
use Rattle.bit_rows.specs.Rows.{has}
use Rattle.msc_mark.specs.Named.{hears}
use Rattle.msc_mark.proofs.Idents.{put_is, put_none}
use Rattle.msc_mark.proofs.Noting.{or_none}
use Rattle.msc_mark.proofs.row.put_ident.Goals as goal

pub returns-in-Some-get_index_of : goal.returns-in-Some-get_index_of
returns-in-Some-get_index_of c = λ q k there.
    let found = sym c.get_index_of.ensures.index ∙ c.in-Some-get_index_of.is in
    let put = put_is c.args.idents.now.keys c.in-Some.ident k c.in-Some-get_index_of.number q c.requires.apart found there in
    let heard = put ∙ ap (λ o. hears o k.name.now (option_copied k.number)) (sym c.in-Some.is) in
    c.put.ensures q ∙ ap (λ b. has c.args.row.now q || b) heard

pub returns-in_default-get_index_of : goal.returns-in_default-get_index_of
returns-in_default-get_index_of c = λ q k there.
    let none = sym c.get_index_of.ensures.found ∙ ap is_some c.in_default-get_index_of.is in
    let other = put_none c.args.idents.now.keys c.in-Some.ident k q none there in
    let heard = ap (λ o. hears o k.name.now (option_copied k.number)) c.in-Some.is ∙ other in
    sym (ap (λ b. has c.args.row.now q || b) heard ∙ or_none (has c.args.row.now q))
