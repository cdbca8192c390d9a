use Rattle.std.proofs.Common.{◌∙◌, rules, sym}
use Rattle.trace_turns.specs.Turns.{base_at}
use Rattle.trace_turns.proofs.Readying.{ok_map}
use Rattle.trace_turns.proofs.Resuming.{empty_again, fit_again}
use Rattle.trace_turns.proofs.Thinning.{kept_forgotten}
use Rattle.trace_turns.proofs.find.search_turns.Goals as goal

pub find_live-requires : goal.find_live-requires
find_live-requires c = c.requires

pub search_chunks-requires : goal.search_chunks-requires
search_chunks-requires c = record {
  some = c.requires.some;
  few = c.requires.few;
  setting = c.requires.setting;
  sides = c.requires.sides;
  long = c.requires.long ∙ sym c.in_ok-find_live.ensures.many ∙ sym c.forget_run.ensures.many;
  none = search rules;
  kept = kept_forgotten c.find_live.new.taps.buffers.items c.forget_run.new.buffers.items c.forget_run.ensures.many c.forget_run.ensures.forgotten;
  empty = empty_again c.find_live.new.taps.buffers.items c.forget_run.new.buffers.items c.forget_run.ensures.many c.forget_run.ensures.forgotten;
  text = (
    c.requires.text.0,
    fit_again c.find_live.new.taps.buffers.items c.forget_run.new.buffers.items c.forget_run.ensures.many c.forget_run.ensures.forgotten (base_at c.args.station.now) c.args.window c.args.ticks c.requires.text.0 c.args.ends.now
        (c.in_ok-find_live.ensures.fit c.requires.text.0 c.requires.text.1),
  );
}

pub returns-in-Refused-clause-none : goal.returns-in-Refused-clause-none
returns-in-Refused-clause-none c = λ e text fit ordered. c.in_ok-find_live.ensures.none c.in-Refused.is text fit ordered

pub returns-clause-found : goal.returns-clause-found
returns-clause-found c = ok_map c.search_chunks.result (λ found h e text fit. h e text
    (fit_again c.find_live.new.taps.buffers.items c.forget_run.new.buffers.items c.forget_run.ensures.many c.forget_run.ensures.forgotten (base_at c.args.station.now) c.args.window c.args.ticks text c.args.ends.now
    (c.in_ok-find_live.ensures.fit text fit))) c.search_chunks.ensures.found

pub returns-clause-none : goal.returns-clause-none
returns-clause-none c = ok_map c.search_chunks.result (λ found h e text fit. h e text
    (fit_again c.find_live.new.taps.buffers.items c.forget_run.new.buffers.items c.forget_run.ensures.many c.forget_run.ensures.forgotten (base_at c.args.station.now) c.args.window c.args.ticks text c.args.ends.now
    (c.in_ok-find_live.ensures.fit text fit))) c.search_chunks.ensures.none

pub returns-clause-fit : goal.returns-clause-fit
returns-clause-fit c = ok_map c.search_chunks.result (λ found h text fit. h text
    (fit_again c.find_live.new.taps.buffers.items c.forget_run.new.buffers.items c.forget_run.ensures.many c.forget_run.ensures.forgotten (base_at c.args.station.now) c.args.window c.args.ticks text c.args.ends.now
    (c.in_ok-find_live.ensures.fit text fit))) c.search_chunks.ensures.fit
