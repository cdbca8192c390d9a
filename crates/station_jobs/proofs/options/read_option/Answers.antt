use Rattle.std.proofs.Common.{◌∙◌, ap, sym, ⊎_elim}
use Rattle.std.specs.Prelude.{Some, codes}
use Rattle.std.specs.Str.{bytes_eq}
use Rattle.std.proofs.lemmas.Bool.{true≢false}
use Rattle.station_jobs.specs.Read.{options_of}
use Rattle.station_jobs.specs.Words.{SaysCues, SaysOneThread, SaysStart, SaysTrace, SaysWindow}
use Rattle.station_jobs.proofs.Reading.{said_once, window_or_start, window_or_trace}
use Rattle.station_jobs.proofs.options.read_option.Goals as goal

pub returns-in-Some-clause-only : goal.returns-in-Some-clause-only
returns-in-Some-clause-only c = λ after said. ⊎_elim
    (λ (one : SaysOneThread c.args.word.now (options_of c.args.before) after).
    absurd (true≢false (sym (c.eq.ensures ∙ ap (λ word. bytes_eq word (codes "--one-thread")) one.word_is) ∙ c.if-eq.false)))
    (⊎_elim (λ (two : SaysWindow c.args.word.now (options_of c.args.before) after).
    rw c.with_window.ensures (said_once (λ w. w.ticks) c.args.before.window _ two.once
    ∙ ap Some ((λ i. record (options_of c.args.before) { window = Some (c.in-Some.ensures.only two.window two.word_is i) }) ∙ sym two.after_is)))
    (⊎_elim (λ (three : SaysStart c.args.word.now (options_of c.args.before) after).
    absurd (window_or_start c.args.word.now c.in-Some.ensures.found.text three.word_is.text c.in-Some.ensures.found.word_is three.word_is.word_is))
    (⊎_elim (λ (four : SaysTrace c.args.word.now (options_of c.args.before) after).
    absurd (window_or_trace c.args.word.now c.in-Some.ensures.found.text four.name c.in-Some.ensures.found.word_is four.word_is.word_is))
    (λ (five : SaysCues c.args.word.now (options_of c.args.before) after).
    absurd (true≢false (sym (c.eq-2.ensures ∙ ap (λ word. bytes_eq word (codes "--cues")) five.word_is) ∙ c.if-eq-2.false)))))) said

pub returns-in_err-trace-clause-only : goal.returns-in_err-trace-clause-only
returns-in_err-trace-clause-only c = λ after said. absurd (⊎_elim
    (λ (one : SaysOneThread c.args.word.now (options_of c.args.before) after).
    true≢false (sym (c.eq.ensures ∙ ap (λ word. bytes_eq word (codes "--one-thread")) one.word_is) ∙ c.if-eq.false))
    (⊎_elim (λ (two : SaysWindow c.args.word.now (options_of c.args.before) after). c.in_default.ensures.only two.window two.word_is)
    (⊎_elim (λ (three : SaysStart c.args.word.now (options_of c.args.before) after). c.in_default-read_start_option.ensures.only three.start three.word_is)
    (⊎_elim (λ (four : SaysTrace c.args.word.now (options_of c.args.before) after). c.in_err-trace.ensures.only four.name four.word_is)
    (λ (five : SaysCues c.args.word.now (options_of c.args.before) after).
    true≢false (sym (c.eq-2.ensures ∙ ap (λ word. bytes_eq word (codes "--cues")) five.word_is) ∙ c.if-eq-2.false))))) said)
