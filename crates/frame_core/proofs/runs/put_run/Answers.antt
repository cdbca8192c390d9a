use Rattle.std.proofs.Common.{◌≡◌, ◌∙◌, ◌++◌, ◌∷◌, [], length, ap, arith, sym, option_to_list}
use Rattle.frame_core.proofs.MarkRuns.{few_runs, joined_marks, joined_tight, last_within, pushed_marks, pushed_tight}
use Rattle.frame_core.proofs.runs.put_run.Goals as goal

pub overflow_add-last : goal.overflow_add-last
overflow_add-last c =
    let cut = c.pop.ensures.items ∙ ap (λ r. c.pop.new.self.items ++ option_to_list r) c.in-Some.is in
    let within = last_within c.pop.new.self.items c.args.runs.now.items c.args.runs.now.items c.in-Some.last c.args.run cut c.requires.tight (omega (arith, c.if-run-eq0.false)) in
    omega (arith, within, c.requires.few)

pub push_reserved-requires-else-joins-2 : goal.push_reserved-requires-else-joins-2
push_reserved-requires-else-joins-2 c =
    let cut = c.pop.ensures.items ∙ ap (λ r. c.pop.new.self.items ++ option_to_list r) c.in-Some.is in
    let now = c.push_reserved-else-joins.new.self in
    let long : length now.items ≡ length c.args.runs.now.items = ap length c.push_reserved-else-joins.ensures.items ∙ sym (ap length cut) in
    let few = few_runs c.args.runs.now.items c.requires.tight in
    omega (arith, long, few, now.ok.0, c.requires.room, c.if-run-eq0.false, c.push_reserved-else-joins.ensures.capacity, c.pop.ensures.capacity)

pub returns-then-joins-clause-marks : goal.returns-then-joins-clause-marks
returns-then-joins-clause-marks c =
    let cut = c.pop.ensures.items ∙ ap (λ r. c.pop.new.self.items ++ option_to_list r) c.in-Some.is in
    joined_marks c.pop.new.self.items c.args.runs.now.items c.push_reserved-then-joins.new.self.items c.in-Some.last c.args.run cut c.requires.tight (omega (arith, c.if-run-eq0.false))
    c.push_reserved-then-joins.ensures.items (sym c.joins.ensures ∙ c.if-joins.true)

pub returns-then-joins-clause-tight : goal.returns-then-joins-clause-tight
returns-then-joins-clause-tight c =
    let cut = c.pop.ensures.items ∙ ap (λ r. c.pop.new.self.items ++ option_to_list r) c.in-Some.is in
    joined_tight c.pop.new.self.items c.args.runs.now.items c.push_reserved-then-joins.new.self.items c.in-Some.last c.args.run cut c.requires.tight (omega (arith, c.if-run-eq0.false))
    c.push_reserved-then-joins.ensures.items

pub returns-else-joins-clause-marks : goal.returns-else-joins-clause-marks
returns-else-joins-clause-marks c =
    let cut = c.pop.ensures.items ∙ ap (λ r. c.pop.new.self.items ++ option_to_list r) c.in-Some.is in
    pushed_marks c.pop.new.self.items c.args.runs.now.items c.push_reserved-else-joins-2.new.self.items c.in-Some.last c.args.run cut c.requires.tight (omega (arith, c.if-run-eq0.false))
    (c.push_reserved-else-joins-2.ensures.items ∙ ap (λ l. l ++ c.args.run ∷ []) c.push_reserved-else-joins.ensures.items)

pub returns-else-joins-clause-tight : goal.returns-else-joins-clause-tight
returns-else-joins-clause-tight c =
    let cut = c.pop.ensures.items ∙ ap (λ r. c.pop.new.self.items ++ option_to_list r) c.in-Some.is in
    pushed_tight c.pop.new.self.items c.args.runs.now.items c.push_reserved-else-joins-2.new.self.items c.in-Some.last c.args.run cut c.requires.tight (omega (arith, c.if-run-eq0.false))
    (c.push_reserved-else-joins-2.ensures.items ∙ ap (λ l. l ++ c.args.run ∷ []) c.push_reserved-else-joins.ensures.items)
    (sym c.joins.ensures ∙ c.if-joins.false)
