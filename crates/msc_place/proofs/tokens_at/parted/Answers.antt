use Rattle.std.proofs.Common.{◌+◌, ◌<◌, [], get_or, take, drop, refl, sym, ◌∙◌}
use Rattle.std.proofs.lemmas.List.{append-nil, take-append-drop, take_more, take_all, at_drop_more}
use Rattle.std.proofs.lemmas.List.Elements.{All-more}
use Rattle.msc_place.proofs.Collected.{no_token}
use Rattle.msc_place.proofs.tokens_at.parted.Goals as goal

pub returns-then-token-at : goal.returns-then-token-at
returns-then-token-at c =
    let tokens = c.args.tokens.now in let i = c.loop-i.i in
    record {
      front = take i tokens;
      rest = drop i tokens;
      whole = sym (take-append-drop i tokens);
      before = c.loop-i.invariant.before;
      found = (drop (i + 1) tokens, at_drop_more (λ ts. ts) tokens i no_token c.loop-i-test.true, c.if-token-at.true);
      behind = c.loop-i.invariant.behind;
    }

pub loop-i-preserved : goal.loop-i-preserved
loop-i-preserved c =
    let tokens = c.args.tokens.now in let i = c.loop-i.i in
    let inside = c.loop-i-test.true in
    record {
      before = All-more (λ t. t.start < c.args.at) tokens i no_token inside c.loop-i.invariant.before c.if-token-at.false;
      behind = (take i tokens, get_or tokens i no_token, take_more tokens i no_token inside, refl);
    }

pub returns : goal.returns
returns c =
    let tokens = c.args.tokens.now in let i = c.loop-i.i in
    record {
      front = take i tokens;
      rest = [];
      whole = sym (append-nil (take i tokens) ∙ take_all i tokens c.loop-i-test.false);
      before = c.loop-i.invariant.before;
      found = refl;
      behind = c.loop-i.invariant.behind;
    }
