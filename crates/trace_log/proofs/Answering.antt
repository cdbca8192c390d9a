-- What is answered for a text: each answer at its end of `read`.
use Rattle.std.proofs.Common.{◌≡◌, ◌↔◌, ℕ, List, Result, Err, sym, ap, ◌∙◌, subst}
use Rattle.trace_log.specs.Values.{TraceValue}
use Rattle.trace_log.specs.Texts.{trace_text, IsTrace}
use Rattle.trace_log.specs.Stops.{StopsAt, IsText}
use Rattle.trace_log.specs.declared.fault.TraceFault.{TraceFault}
use Rattle.trace_log.specs.declared.fault.TraceFault.TheVariants as faults
use Rattle.trace_log.proofs.FirstLine.{one_stop, stop_excludes, text_is}
use Rattle.trace_log.proofs.OneTrace.{one_trace}

pub told_there : (text : List ℕ) (at : ℕ) (r : Result TraceValue TraceFault) → r ≡ Err (faults.NotTrace at) → StopsAt text at → (j : ℕ) → (r ≡ Err (faults.NotTrace j)) ↔ StopsAt text j
told_there text at r is stops j = (
  λ e. let same : at ≡ j = cc in subst (λ n. StopsAt text n) same stops,
  λ s. is ∙ ap (λ n. Err (faults.NotTrace n)) (one_stop text at j stops s),
)

pub told_never : (text : List ℕ) (r : Result TraceValue TraceFault) → ((j : ℕ) → r ≡ Err (faults.NotTrace j) → ⊥) → IsText text → (j : ℕ) → (r ≡ Err (faults.NotTrace j)) ↔ StopsAt text j
told_never text r never whole j = (λ e. absurd (never j e), λ s. absurd (stop_excludes text j s whole))

pub no_trace : (text : List ℕ) (at : ℕ) → StopsAt text at → (t : TraceValue) → IsTrace t → text ≡ trace_text t → ⊥
no_trace text at stops t is e = stop_excludes text at stops (subst (λ (l : List ℕ). IsText l) (sym e) (text_is t is))

pub that_trace : (text : List ℕ) (u t : TraceValue) → IsTrace u → text ≡ trace_text u → IsTrace t → text ≡ trace_text t → u ≡ t
that_trace text u t is e is' e' = one_trace u t is is' (sym e ∙ e')
