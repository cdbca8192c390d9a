-- What is found of the trace in a file is one.
use Rattle.std.proofs.Common.{◌≡◌, ◌<◌, ℕ, List, length, refl, sym, ap, ◌∙◌, subst, arith}
use Rattle.std.specs.Prelude.{Some, None}
use Rattle.liq_base.specs.Files.{Files, file_at}
use Rattle.stream_meaning.specs.Instants.{Setting}
use Rattle.trace_log.specs.Stops.{StopsAt}
use Rattle.trace_log.specs.Texts.{IsTrace, trace_text}
use Rattle.trace_log.specs.Values.{TraceValue}
use Rattle.trace_records.specs.Traces.{IsAccepted}
use Rattle.refusal_lines.specs.declared.replay_lines.ReplayFault.{ReplayFault}
use Rattle.refusal_lines.specs.declared.replay_lines.ReplayFault.TheVariants.{NoTrace, TraceTooLarge, NotATrace, DoesNotFit}
use Rattle.station_jobs.specs.Replays.{HasFitting, HasMore, HasNoTrace, HasText, HasTrace, IsReplayFault, most_bytes}

-- a trace, or a fault
pub data Told : Type 0 where
  Tells : TraceValue → Told
  Untells : ReplayFault → Told

abbrev pub IsTold : Files → (name : List ℕ) (base : Setting) (clocks N : ℕ) → Told → Type 0
IsTold files name base clocks N (Tells trace) = HasFitting files name base clocks N trace
IsTold files name base clocks N (Untells fault) = IsReplayFault files name base clocks N fault

pub record IsOneTold (files : Files) (name : List ℕ) (base : Setting) (clocks N : ℕ) (told : Told) : Type 0 where
  pub holds : IsTold files name base clocks N told
  pub only : (other : Told) → IsTold files name base clocks N other → other ≡ told

-- a text is that of one trace, or stops at one line
pub record TraceLaws : Type 0 where
  pub one_trace : (t u : TraceValue) → IsTrace t → IsTrace u → trace_text t ≡ trace_text u → t ≡ u
  pub one_stop : (text : List ℕ) (i j : ℕ) → StopsAt text i → StopsAt text j → i ≡ j
  pub never_both : (t : TraceValue) (at : ℕ) → IsTrace t → StopsAt (trace_text t) at → ⊥

-- a file that is there is the one
same_text : (files : Files) (name one other : List ℕ) → file_at files name ≡ Some one → file_at files name ≡ Some other → other ≡ one
same_text files name one other is at = let e : Some one ≡ Some other = sym is ∙ at in (cc)

gone : {P : Type 0} (files : Files) (name one : List ℕ) → file_at files name ≡ None → file_at files name ≡ Some one → P
gone files name one none is = absurd (let e : None ≡ Some one = sym none ∙ is in (cc))

-- it has at most so many bytes, or more
apart : {P : Type 0} (files : Files) (name one : List ℕ) → HasText files name one → HasMore files name → P
apart files name one has more = absurd (let long = subst (λ t. most_bytes < length t) (same_text files name one more.text has.there more.there) more.many in let few = has.few in omega (arith, long, few))

module _ (laws : TraceLaws) (files : Files) (name : List ℕ) where
  -- it is one trace
  same_trace : (one other : TraceValue) → HasTrace files name one → HasTrace files name other → other ≡ one
  same_trace one other has also =
      laws.one_trace other one also.is_trace has.is_trace (sym also.text_is ∙ same_text files name has.text also.text has.has.there also.has.there ∙ has.text_is)

  -- or none
  not_both : {P : Type 0} (trace : TraceValue) (line : ℕ) → HasTrace files name trace → HasNoTrace files name line → P
  not_both trace line has none = absurd (laws.never_both trace line has.is_trace
      (subst (λ t. StopsAt t line) (same_text files name has.text none.text has.has.there none.has.there ∙ has.text_is) none.stops))

  same_line : (one other : ℕ) → HasNoTrace files name one → HasNoTrace files name other → other ≡ one
  same_line one other has also = laws.one_stop has.text other one (subst (λ t. StopsAt t other) (same_text files name has.text also.text has.has.there also.has.there) also.stops) has.stops

  module _ (base : Setting) (clocks N : ℕ) where
    unlike : {P : Type 0} (one other : TraceValue) → HasFitting files name base clocks N one → HasTrace files name other → (IsAccepted base clocks N other → ⊥) → P
    unlike one other fitting has unfit = absurd (unfit (subst (λ t. IsAccepted base clocks N t) (sym (same_trace one other fitting.has has)) fitting.fits))

    only : (one : Told) → IsTold files name base clocks N one → (other : Told) → IsTold files name base clocks N other → other ≡ one
    only (Tells one) is (Tells other) at = ap Tells (same_trace one other is.has at.has)
    only (Tells one) is (Untells (NoTrace told)) at = gone files name is.has.text at.1 is.has.has.there
    only (Tells one) is (Untells (TraceTooLarge told)) at = apart files name is.has.text is.has.has at.1
    only (Tells one) is (Untells (NotATrace line)) at = not_both one line is.has at
    only (Tells one) is (Untells DoesNotFit) at = unlike one at.trace is at.has at.unfit
    only (Untells (NoTrace told)) is (Tells other) at = gone files name at.has.text is.1 at.has.has.there
    only (Untells (NoTrace told)) is (Untells (NoTrace also)) at = ap (λ n. Untells (NoTrace n)) (at.0 ∙ sym is.0)
    only (Untells (NoTrace told)) is (Untells (TraceTooLarge also)) at = gone files name at.1.text is.1 at.1.there
    only (Untells (NoTrace told)) is (Untells (NotATrace line)) at = gone files name at.text is.1 at.has.there
    only (Untells (NoTrace told)) is (Untells DoesNotFit) at = gone files name at.has.text is.1 at.has.has.there
    only (Untells (TraceTooLarge told)) is (Tells other) at = apart files name at.has.text at.has.has is.1
    only (Untells (TraceTooLarge told)) is (Untells (NoTrace also)) at = gone files name is.1.text at.1 is.1.there
    only (Untells (TraceTooLarge told)) is (Untells (TraceTooLarge also)) at = ap (λ n. Untells (TraceTooLarge n)) (at.0 ∙ sym is.0)
    only (Untells (TraceTooLarge told)) is (Untells (NotATrace line)) at = apart files name at.text at.has is.1
    only (Untells (TraceTooLarge told)) is (Untells DoesNotFit) at = apart files name at.has.text at.has.has is.1
    only (Untells (NotATrace line)) is (Tells other) at = not_both other line at.has is
    only (Untells (NotATrace line)) is (Untells (NoTrace also)) at = gone files name is.text at.1 is.has.there
    only (Untells (NotATrace line)) is (Untells (TraceTooLarge also)) at = apart files name is.text is.has at.1
    only (Untells (NotATrace line)) is (Untells (NotATrace also)) at = ap (λ l. Untells (NotATrace l)) (same_line line also is at)
    only (Untells (NotATrace line)) is (Untells DoesNotFit) at = not_both at.trace line at.has is
    only (Untells DoesNotFit) is (Tells other) at = unlike other is.trace at is.has is.unfit
    only (Untells DoesNotFit) is (Untells (NoTrace also)) at = gone files name is.has.text at.1 is.has.has.there
    only (Untells DoesNotFit) is (Untells (TraceTooLarge also)) at = apart files name is.has.text is.has.has at.1
    only (Untells DoesNotFit) is (Untells (NotATrace line)) at = not_both is.trace line is.has at
    only (Untells DoesNotFit) is (Untells DoesNotFit) at = refl

    pub one_told : (told : Told) → IsTold files name base clocks N told → IsOneTold files name base clocks N told
    one_told told is = record { holds = is; only = only told is }
