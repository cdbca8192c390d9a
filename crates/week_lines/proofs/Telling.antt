-- What is told of switches, one by one.
use Rattle.std.proofs.Common.{◌≡◌, ◌↔◌, ◌<◌, ◌+◌, ◌∙◌, ℕ, suc, Bool, true, ◌||◌, Some, List, [], ◌∷◌, ◌++◌, map, length, get_or, arith, refl, ap, sym, inl, inr, append-nil, length-append}
use Rattle.std.specs.Prelude.{slice_get}
use Rattle.std.specs.List.{concat}
use Rattle.std.proofs.Math.ListN.{get_or-append}
use Rattle.std.proofs.Math.Seq.{get_or-append_seam}
use Rattle.std.proofs.lemmas.Bool.{cases_eq}
use Rattle.std.proofs.lemmas.List.Folds.{concat-append}
use Rattle.std.proofs.lemmas.List.{length-map}
use Rattle.std.proofs.lemmas.Option.{slice_get_within}
use Rattle.plan_core.specs.declared.node.Node.{Node}
use Rattle.plan_core.specs.declared.node.Op.TheVariants.{Switch}
use Rattle.plan_core.specs.declared.plan.Plan.{Plan}
use Rattle.plan_core.specs.Plans.{IsWellFormed}
use Rattle.time_pred.specs.Predicates.{Predicate}
use Rattle.time_pred.specs.View.{view_shared}
use Rattle.time_pred.specs.declared.shared.SharedPred.{SharedPred}
use Rattle.week_plan.specs.Spans.{AreSpansOf, IsDaily}
use Rattle.week_plan.specs.Tables.{IsTableOf, is_told}
use Rattle.week_plan.specs.declared.span.Span.{Span}
use Rattle.week_lines.specs.Weeks.{AreLines, IsOfSource, is_silent, some_silent}

-- what is told of each second of the week
pub spans_same : (test other : ℕ → Bool) (spans : List Span) → ((at : ℕ) → at < 604800 → test at ≡ other at) → AreSpansOf test spans → AreSpansOf other spans
spans_same test other spans same of = record {
  exact = λ at low. of.exact at low ∙ same at low;
  apart = of.apart;
  within = of.within;
}

pub daily_same : (test other : ℕ → Bool) (daily : Bool) → ((at : ℕ) → at < 604800 → test at ≡ other at) → ((daily ≡ true) ↔ IsDaily test) → ((daily ≡ true) ↔ IsDaily other)
daily_same test other daily same is = (
  λ held at low. sym (same (at + 86400) low) ∙ is.0 held at low ∙ same at (omega (arith, low)),
  λ like. is.1 (λ at low. same (at + 86400) low ∙ like at low ∙ sym (same at (omega (arith, low)))),
)

pub table_same : (test other : ℕ → Bool) (words : List ℕ) → ((at : ℕ) → at < 604800 → test at ≡ other at) → IsTableOf test words → IsTableOf other words
table_same test other words same of = record { table = of.table; same = λ at low. of.same at low ∙ same at low }

-- the lines of the first k sources
pub record LinesTo (plan : Plan) (mark : ℕ → Bool) (k : ℕ) (text : List ℕ) : Type 0 where
  pub parts : List (List ℕ)
  pub size : length parts ≡ k
  pub each : (number : ℕ) (node : Node) → number < k → slice_get plan.nodes number ≡ Some node → IsOfSource plan mark number node.op node.children (get_or parts number [])
  pub joined : text ≡ concat parts

pub no_lines : (plan : Plan) (mark : ℕ → Bool) (text : List ℕ) → text ≡ [] → LinesTo plan mark 0 text
no_lines plan mark text is = record {
  parts = [];
  size = refl;
  each = λ number node low here. absurd (omega (arith, low));
  joined = is;
}

pub more_lines : (plan : Plan) (mark : ℕ → Bool) (k : ℕ) (node : Node) (old new own : List ℕ) → LinesTo plan mark k old → slice_get plan.nodes k ≡ Some node
    → IsOfSource plan mark k node.op node.children own → new ≡ old ++ own → LinesTo plan mark (k + 1) new
more_lines plan mark k node old new own before here is told = record {
  parts = before.parts ++ own ∷ [];
  size = length-append before.parts (own ∷ []) ∙ (let size = before.size in omega (arith, size));
  each = λ number other low at. elim (cases_eq number k) [
    | inl same ↦ last number other same at
    | inr apart ↦ rw (get_or-append before.parts (own ∷ []) [] number (let size = before.size in omega (arith, low, apart, size))) (before.each number other (omega (arith, low, apart)) at)
  ];
  joined = told ∙ ap (λ (t : List ℕ). t ++ own) before.joined ∙ ap (λ (t : List ℕ). concat before.parts ++ t) (sym (append-nil own)) ∙ sym (concat-append before.parts (own ∷ []));
}
  where
    last : (number : ℕ) (other : Node) → number ≡ k → slice_get plan.nodes number ≡ Some other
        → IsOfSource plan mark number other.op other.children (get_or (before.parts ++ own ∷ []) number [])
    last number other same at =
        let one : Some other ≡ Some node = sym at ∙ ap (slice_get plan.nodes) same ∙ here in
        let node_is : other ≡ node = cc in
        let text : get_or (before.parts ++ own ∷ []) number [] ≡ own = ap (λ (n : ℕ). get_or (before.parts ++ own ∷ []) n []) (same ∙ sym before.size) ∙ get_or-append_seam before.parts own [] [] in
        rw (text, node_is, same) is

pub all_lines : (plan : Plan) (mark : ℕ → Bool) (k : ℕ) (text : List ℕ) → k ≡ length plan.nodes → LinesTo plan mark k text → AreLines plan mark text
all_lines plan mark k text end lines = record {
  parts = lines.parts;
  size = lines.size ∙ end;
  each = λ number node here. lines.each number node (let within = slice_get_within plan.nodes number node here in omega (arith, within, end)) here;
  joined = lines.joined;
}

-- one source more may be silent
pub more_silent : (plan : Plan) (k : ℕ) (old new : List ℕ) → IsTableOf (some_silent plan k) old → IsTableOf (λ at. is_told old at || is_silent plan k at) new
    → IsTableOf (some_silent plan (k + 1)) new
more_silent plan k old new before after =
    let next : suc k ≡ k + 1 = omega arith in
    table_same (λ at. is_told old at || is_silent plan k at) (some_silent plan (k + 1)) new
    (λ at low. ap (λ (b : Bool). b || is_silent plan k at) (before.same at low) ∙ ap (λ (n : ℕ). some_silent plan n at) next) after

-- a switch has as many children as predicates
pub switch_size : (plan : Plan) (number : ℕ) (node : Node) (sensitive : Bool) (preds : List Predicate) (own : List SharedPred) → IsWellFormed plan → slice_get plan.nodes number ≡ Some node
    → node.op ≡ Switch sensitive preds → map view_shared own ≡ preds → length node.children ≡ length own
switch_size plan number node sensitive preds own well here is viewed =
    let has = (well.nodes number node here).number in
    let size : length node.children ≡ length preds = rw is at has in
    size ∙ ap length (sym viewed) ∙ length-map own view_shared
