use Rattle.script_places.proofs.Naming.{at_end_is, each_found, ended, ends_in}
use Rattle.script_places.proofs.numbers.number_at_end.Goals as goal

pub returns-then-not-ends_with-clause-only : goal.returns-then-not-ends_with-clause-only
returns-then-not-ends_with-clause-only c = λ n small h.
    let is = at_end_is c.args.line.now c.args.words.now c.split_at.result.0.now c.split_at.result.1.now c.last_word.result n small c.requires h c.last_word.ensures.place c.split_at.ensures.front c.split_at.ensures.back in
    let there = (ended c.split_at.result.0.now c.args.words.now c.ends_with.result c.ends_with.ensures.value).1 is.0 is.1 in
    let missing = c.if-not-ends_with.true in
    cc

pub returns-clause-found : goal.returns-clause-found
returns-clause-found c =
    let words = (ended c.split_at.result.0.now c.args.words.now c.ends_with.result c.ends_with.ensures.value).0 c.if-not-ends_with.false in
    each_found c.read_u64.result (λ n is. ends_in c.args.line.now c.args.words.now c.split_at.result.0.now c.split_at.result.1.now c.last_word.result n c.split_at.ensures.front c.split_at.ensures.back words is) c.read_u64.ensures.found

pub returns-clause-only : goal.returns-clause-only
returns-clause-only c = λ n small h.
    let is = at_end_is c.args.line.now c.args.words.now c.split_at.result.0.now c.split_at.result.1.now c.last_word.result n small c.requires h c.last_word.ensures.place c.split_at.ensures.front c.split_at.ensures.back in
    c.read_u64.ensures.only n small is.2
