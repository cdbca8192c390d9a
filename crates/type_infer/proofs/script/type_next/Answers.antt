use Rattle.std.proofs.Common.{get_or, map, subst, sym}
use Rattle.std.proofs.lemmas.List.{get_or_default}
use Rattle.script_grammar.specs.View.{view_part}
use Rattle.typing_rules.specs.Scripts.{Targets}
use Rattle.name_scope.specs.Noted.{resolved}
use Rattle.type_infer.specs.States.{IsReady, IsStepped}
use Rattle.type_infer.proofs.Ending.{inside, turned}
use Rattle.type_infer.proofs.script.type_next.Goals as goal

pub bounds-statements-index : goal.bounds-statements-index
bounds-statements-index c = inside c.args.statements.now c.args.front.now.count (map resolved c.args.front.now.all.items) c.args.front.now.fault c.args.index c.requires.front c.requires.inside

pub next-requires : goal.next-requires
next-requires c = record { ready = subst (λ (y : Targets). IsReady y c.args.typing.now) (sym c.requires.table) c.requires.before.ready }

pub returns-clause-turned : goal.returns-clause-turned
returns-clause-turned c =
    let xs = c.args.statements.now in
    let n = c.args.front.now.count in
    let all = map resolved c.args.front.now.all.items in
    let x = get_or xs c.args.index c.index-statements-index.result in
    let within = inside xs n all c.args.front.now.fault c.args.index c.requires.front c.requires.inside in
    let step = subst (λ (y : Targets). IsStepped y (view_part x.part) c.args.typing.now c.next.new.typing c.in_ok-yes.yes) c.requires.table c.in_ok-yes.ensures.stepped in
    turned xs n all c.args.front.now.fault c.args.index x c.args.typing.now c.next.new.typing c.in_ok-yes.yes c.requires.front c.requires.inside (get_or_default xs c.args.index c.index-statements-index.result x within) c.requires.placed c.requires.before.typed step
