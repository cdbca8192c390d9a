use Rattle.std.proofs.Common.{subst}
use Rattle.script_places.specs.Naming.{IsNamedBy}
use Rattle.script_places.specs.declared.named.Named.TheVariants.{Byte, Token, Clash, Statement, Source}
use Rattle.script_places.proofs.Naming.{numbered, numbered_behind}
use Rattle.script_places.proofs.named.named_by.Goals as goal

pub returns-in_ok-number_at_end-in-Byte-clause-only : goal.returns-in_ok-number_at_end-in-Byte-clause-only
returns-in_ok-number_at_end-in-Byte-clause-only c = λ named is. numbered {place = Byte} c.in_ok-number_at_end-in-Byte.ensures.only named (subst (λ f. IsNamedBy f c.args.line.now named) c.in-Byte.is is)

pub returns-in_ok-number_at_end-in-Token-clause-only : goal.returns-in_ok-number_at_end-in-Token-clause-only
returns-in_ok-number_at_end-in-Token-clause-only c = λ named is. numbered {place = Token} c.in_ok-number_at_end-in-Token.ensures.only named (subst (λ f. IsNamedBy f c.args.line.now named) c.in-Token.is is)

pub returns-in_ok-number_in_front-in-Clash-clause-only : goal.returns-in_ok-number_in_front-in-Clash-clause-only
returns-in_ok-number_in_front-in-Clash-clause-only c = λ named is. numbered_behind {place = Clash} c.behind.ensures c.in_ok-number_in_front-in-Clash.ensures.only named (subst (λ f. IsNamedBy f c.args.line.now named) c.in-Clash.is is)

pub returns-in_ok-number_in_front-in-Statement-clause-only : goal.returns-in_ok-number_in_front-in-Statement-clause-only
returns-in_ok-number_in_front-in-Statement-clause-only c = λ named is. numbered_behind {place = Statement} c.behind-in-Statement.ensures c.in_ok-number_in_front-in-Statement.ensures.only named (subst (λ f. IsNamedBy f c.args.line.now named) c.in-Statement.is is)

pub returns-in_ok-number_in_front-in-Source-clause-only : goal.returns-in_ok-number_in_front-in-Source-clause-only
returns-in_ok-number_in_front-in-Source-clause-only c = λ named is. numbered_behind {place = Source} c.behind-in-Source.ensures c.in_ok-number_in_front-in-Source.ensures.only named (subst (λ f. IsNamedBy f c.args.line.now named) c.in-Source.is is)

pub returns-in_ok-number_in_front-in-Crossfade-clause-only : goal.returns-in_ok-number_in_front-in-Crossfade-clause-only
returns-in_ok-number_in_front-in-Crossfade-clause-only c = λ named is. numbered_behind {place = Source} c.behind-in-Crossfade.ensures c.in_ok-number_in_front-in-Crossfade.ensures.only named (subst (λ f. IsNamedBy f c.args.line.now named) c.in-Crossfade.is is)

pub returns-in_ok-number_in_front-in-Switch-clause-only : goal.returns-in_ok-number_in_front-in-Switch-clause-only
returns-in_ok-number_in_front-in-Switch-clause-only c = λ named is. numbered_behind {place = Source} c.behind-in-Switch.ensures c.in_ok-number_in_front-in-Switch.ensures.only named (subst (λ f. IsNamedBy f c.args.line.now named) c.in-Switch.is is)
