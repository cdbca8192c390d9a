use Rattle.std.proofs.Common.{◌≡◌, ◌<◌, ◌∙◌, true, rules, ap, sym, subst}
use Rattle.frame_core.specs.Slots.{goes_on}
use Rattle.op_leaf.specs.Readers.{read_by, reader_slot}
use Rattle.op_leaf.proofs.Stretching.{going_inner, going_title, inner_some, titled_going}
use Rattle.op_leaf.proofs.reader.ReaderState.rest.Goals as goal

pub returns-clause-inner : goal.returns-clause-inner
returns-clause-inner c = λ j low.
    let yes : c.goes_on.result ≡ true = search rules in
    let here : goes_on c.args.title (reader_slot c.args.self.now) ≡ true = sym (ap (goes_on c.args.title) c.offer.ensures) ∙ sym c.goes_on.ensures ∙ yes in
    let there = inner_some (reader_slot c.args.self.now) (going_inner c.args.title (reader_slot c.args.self.now) here) in
    going_inner c.args.title (reader_slot (read_by j c.args.self.now))
    (titled_going (λ j. reader_slot (read_by j c.args.self.now)) c.args.title c.args.most j here (subst (λ n. j < n) (c.stretch.ensures.stretch there) low))

pub returns-clause-titled : goal.returns-clause-titled
returns-clause-titled c = λ j low.
    let yes : c.goes_on.result ≡ true = search rules in
    let here : goes_on c.args.title (reader_slot c.args.self.now) ≡ true = sym (ap (goes_on c.args.title) c.offer.ensures) ∙ sym c.goes_on.ensures ∙ yes in
    let there = inner_some (reader_slot c.args.self.now) (going_inner c.args.title (reader_slot c.args.self.now) here) in
    going_title c.args.title (reader_slot (read_by j c.args.self.now))
    (titled_going (λ j. reader_slot (read_by j c.args.self.now)) c.args.title c.args.most j here (subst (λ n. j < n) (c.stretch.ensures.stretch there) low))
