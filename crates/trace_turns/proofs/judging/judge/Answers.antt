use Rattle.std.proofs.Common.{rules, ◌<◌, ◌∙◌, ℕ, List, length, ap, sym, subst}
use Rattle.std.specs.Prelude.{◌≤◌, slice_get, slice_index_or}
use Rattle.trace_turns.specs.Answering.{BufferState}
use Rattle.trace_turns.specs.Turns.{base_at}
use Rattle.trace_records.specs.Traces.{text_of}
use Rattle.trace_turns.proofs.Accepting.{done, empty, fit, kept, legal, not_legal, not_unread, told_in}
use Rattle.trace_turns.proofs.Ordering.{turns_found}
use Rattle.trace_turns.proofs.Readying.{ok_map}
use Rattle.trace_turns.proofs.judging.judge.Goals as goal

pub returns-then-not-all_legal-clause-no : goal.returns-then-not-all_legal-clause-no
returns-then-not-all_legal-clause-no c = λ e ordered.
    let wrong = c.all_legal.ensures.no c.if-not-all_legal.true in
    not_legal (base_at c.args.station.now) c.args.station.now.clocks.now c.requires.setting (record { ticks = c.args.ticks; window = c.args.window; buffers = c.args.logs.now }) c.requires.trace c.requires.buffers
    c.args.taps.now.buffers.items c.args.ends.now c.requires.size c.requires.new c.args.sides.now.readers.items c.requires.sides.read wrong.0 wrong.1 (ap (λ l. slice_get l wrong.0) (sym c.as_slice.ensures) ∙ wrong.2) wrong.3 ordered

pub find_turns-requires : goal.find_turns-requires
find_turns-requires c = record {
  some = c.requires.trace.bounds.window_least;
  few = c.requires.trace.bounds.ticks_most;
  setting = c.requires.setting;
  sides = c.requires.sides;
  long = search rules;
  none = c.requires.none;
  kept = kept (base_at c.args.station.now) c.args.station.now.clocks.now c.requires.setting (record { ticks = c.args.ticks; window = c.args.window; buffers = c.args.logs.now }) c.requires.trace c.requires.buffers
      c.args.taps.now.buffers.items c.args.ends.now c.requires.size c.requires.new;
  empty = empty (base_at c.args.station.now) c.args.station.now.clocks.now c.requires.setting (record { ticks = c.args.ticks; window = c.args.window; buffers = c.args.logs.now }) c.requires.trace c.requires.buffers
      c.args.taps.now.buffers.items c.args.ends.now c.requires.size c.requires.new;
  text = (
    text_of c.args.logs.now,
    fit (base_at c.args.station.now) c.args.station.now.clocks.now c.requires.setting (record { ticks = c.args.ticks; window = c.args.window; buffers = c.args.logs.now }) c.requires.trace c.requires.buffers
        c.args.taps.now.buffers.items c.args.ends.now c.requires.size c.requires.new,
  );
}

pub returns-then-not-unread_stay-clause-no : goal.returns-then-not-unread_stay-clause-no
returns-then-not-unread_stay-clause-no c = λ e ordered.
    let wrong = c.unread_stay.ensures.no c.if-not-unread_stay.true in
    let there = c.deref.ensures.value in
    let reads = c.deref-2.ensures.value in
    not_unread (base_at c.args.station.now) c.args.station.now.clocks.now c.requires.setting (record { ticks = c.args.ticks; window = c.args.window; buffers = c.args.logs.now }) c.requires.trace c.requires.buffers
    c.args.taps.now.buffers.items c.args.ends.now c.requires.size c.requires.new c.args.sides.now.readers.items c.requires.sides.read wrong.0
    (subst (λ (l : List BufferState). wrong.0 < length l) there wrong.1)
    (subst (λ (l : List ℕ). c.args.station.now.clocks.now.running ≤ slice_index_or l wrong.0 0) reads wrong.2)
    (λ d none. wrong.3 d (ap (λ (l : List BufferState). (slice_index_or l wrong.0 d).takes) there ∙ none)) ordered

pub returns-clause-no : goal.returns-clause-no
returns-clause-no c = ok_map c.find_turns.result (λ found h e. h e (text_of c.args.logs.now)
    (fit (base_at c.args.station.now) c.args.station.now.clocks.now c.requires.setting (record { ticks = c.args.ticks; window = c.args.window; buffers = c.args.logs.now }) c.requires.trace c.requires.buffers
    c.args.taps.now.buffers.items c.args.ends.now c.requires.size c.requires.new)) c.find_turns.ensures.none

pub returns-clause-yes : goal.returns-clause-yes
returns-clause-yes c =
    let there = c.deref.ensures.value in
    let reads = c.deref-2.ensures.value in
    let text = text_of c.args.logs.now in
    let now = fit (base_at c.args.station.now) c.args.station.now.clocks.now c.requires.setting (record { ticks = c.args.ticks; window = c.args.window; buffers = c.args.logs.now }) c.requires.trace c.requires.buffers
    c.args.taps.now.buffers.items c.args.ends.now c.requires.size c.requires.new in
    ok_map c.find_turns.result (λ found h e.
    let all = turns_found (base_at c.args.station.now) c.args.station.now.clocks.now c.requires.setting c.args.window c.args.ticks text now.formed c.find_turns.new.turns.items (h e text now) in
    done (base_at c.args.station.now) c.args.station.now.clocks.now c.requires.setting (record { ticks = c.args.ticks; window = c.args.window; buffers = c.args.logs.now }) c.requires.trace c.requires.buffers
    c.args.taps.now.buffers.items c.args.ends.now c.requires.size c.requires.new c.args.sides.now.readers.items c.requires.sides.read all.0 all.1
    (legal (base_at c.args.station.now) c.args.station.now.clocks.now c.requires.setting (record { ticks = c.args.ticks; window = c.args.window; buffers = c.args.logs.now }) c.requires.trace c.requires.buffers
    c.args.taps.now.buffers.items c.args.ends.now c.requires.size c.requires.new c.args.sides.now.readers.items c.requires.sides.read
    (λ b plan at. c.all_legal.ensures.yes c.if-not-all_legal.false b plan (ap (λ l. slice_get l b) c.as_slice.ensures ∙ at))
    (λ b d low high. ap (λ (l : List BufferState). (slice_index_or l b d).takes) (sym there) ∙ c.unread_stay.ensures.yes c.if-not-unread_stay.false b d (subst (λ (l : List BufferState). b < length l) (sym there) low)
    (subst (λ (l : List ℕ). c.args.station.now.clocks.now.running ≤ slice_index_or l b 0) (sym reads) high)))) c.find_turns.ensures.found

pub returns-clause-turns : goal.returns-clause-turns
returns-clause-turns c = ok_map c.find_turns.result (λ found h e. h e (text_of c.args.logs.now)
    (fit (base_at c.args.station.now) c.args.station.now.clocks.now c.requires.setting (record { ticks = c.args.ticks; window = c.args.window; buffers = c.args.logs.now }) c.requires.trace c.requires.buffers
    c.args.taps.now.buffers.items c.args.ends.now c.requires.size c.requires.new)) c.find_turns.ensures.found

pub returns-clause-empty : goal.returns-clause-empty
returns-clause-empty c = ok_map c.find_turns.result (λ found h e. h) c.find_turns.ensures.empty

pub returns-clause-kept : goal.returns-clause-kept
returns-clause-kept c = ok_map c.find_turns.result (λ found h e. h) c.find_turns.ensures.kept

pub returns-clause-told : goal.returns-clause-told
returns-clause-told c = ok_map c.find_turns.result (λ found h e. told_in (base_at c.args.station.now) c.args.window c.args.ticks (text_of c.args.logs.now) c.find_turns.new.taps.buffers.items c.args.ends.now (h (text_of c.args.logs.now)
    (fit (base_at c.args.station.now) c.args.station.now.clocks.now c.requires.setting (record { ticks = c.args.ticks; window = c.args.window; buffers = c.args.logs.now }) c.requires.trace c.requires.buffers
    c.args.taps.now.buffers.items c.args.ends.now c.requires.size c.requires.new))) c.find_turns.ensures.fit
