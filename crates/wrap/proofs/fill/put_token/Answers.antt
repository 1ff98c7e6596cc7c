use mathlib.Core.Path.{◌∙◌, sym, subst}
use mathlib.Core.Bool.{Bool}
use Rattle.wrap.specs.Filled.{Closed}
use Rattle.wrap.proofs.TokenRules.{Next, token_none, token_drops, token_places}
use Rattle.wrap.proofs.fill.put_token.Goals as goal
use Rattle.wrap.proofs.fill.put_token.Goals.{After-is_blank_letter}

-- the token and the line that it is put on
next : (t : After-is_blank_letter) →
    let a = t.args in
    Next a.line a.ws.now a.token a.limit.columns t.close_if-next.result t.close_if-next.new.ws t.is_blank_letter.result
next t =
    let a = t.args in
    record {
      sane = t.requires.sane;
      some = t.if-token-eq0.false;
      next =
          subst (λ (b : Bool). Closed b a.line a.ws.now t.close_if-next.result t.close_if-next.new.ws) t.passes.ensures
          t.close_if-next.ensures;
      kind = t.is_blank_letter.ensures;
    }

pub returns-then-token-eq0 : goal.returns-then-token-eq0
returns-then-token-eq0 c = token_none _ _ _ _ c.requires.sane c.if-token-eq0.true

pub returns-then-drops : goal.returns-then-drops
returns-then-drops c = token_drops (next (goal.at.returns-then-drops c).After-is_blank_letter) (sym c.drops.ensures ∙ c.if-drops.true)

pub returns : goal.returns
returns c =
    token_places (next (goal.at.returns c).After-is_blank_letter) (sym c.drops.ensures ∙ c.if-drops.false) c.add_or_break.ensures
