-- An output, by other names of its setting and its clock.
use Rattle.std.proofs.Common.{◌≡◌, ◌∙◌, ℕ, ap, sym}
use Rattle.std.specs.Prelude.{slice_get}
use Rattle.clock_infer.specs.declared.clock_map.NodeClock.TheVariants.{Main}
use Rattle.stream_meaning.specs.Instants.{Setting, clock_of}
use Rattle.stream_meaning.specs.Sinks.{IsOutput}

-- it keeps its width
abbrev pub output_moved : (one other : Setting) (m k sink node : ℕ) → one ≡ other → m ≡ k → IsOutput one m sink node → IsOutput other k sink node
output_moved one other m k sink node same clock output = record {
  name = output.name;
  fallible = output.fallible;
  wide = output.wide;
  there = ap (λ (s : Setting). slice_get s.plan.sinks sink) (sym same) ∙ output.there;
  in_clock = ap (λ (s : Setting). clock_of s node) (sym same) ∙ output.in_clock ∙ ap Main clock;
}
