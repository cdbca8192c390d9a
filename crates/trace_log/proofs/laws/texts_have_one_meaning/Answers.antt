use Rattle.trace_log.specs.Texts.{trace_text}
use Rattle.trace_log.proofs.FirstLine.{one_stop, stop_excludes, text_is}
use Rattle.trace_log.proofs.OneTrace.{one_trace}
use Rattle.trace_log.proofs.laws.texts_have_one_meaning.Goals as goal

pub returns : goal.returns
returns c = record {
  one_trace = one_trace;
  one_stop = one_stop;
  never_both = λ t at is stops. stop_excludes (trace_text t) at stops (text_is t is);
}
