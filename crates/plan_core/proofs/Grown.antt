-- A well-formed plan with one node, one output or one buffer more.
use Rattle.std.proofs.Common.{◌≡◌, ℕ, zero, suc, ◌+◌, ◌^◌, ◌<◌, ◌≤◌, ◌⊎◌, inl, inr, List, [], ◌∷◌, ◌++◌, length, length-append, Bool, Some, refl, sym, ap, ◌∙◌, arith, subst, get_or}
use Rattle.std.specs.Prelude.{map, slice_get, All}
use Rattle.std.proofs.lemmas.List.Elements.{All-append, All-nil}
use Rattle.std.proofs.Math.Nat.{max-le}
use Rattle.std.proofs.lemmas.Bool.{cases_lt}
use Rattle.std.proofs.lemmas.List.{get_or_past}
use Rattle.std.proofs.lemmas.Option.{slice_get_within, get_or_from_slice_get}
use Rattle.liq_base.specs.declared.limits.TheConstants.{MIN_RATE, MAX_RATE, MAX_FRAME, MAX_NODES, MAX_CROSSFADES}
use Rattle.liq_base.specs.declared.memory.Kind.{Kind}
use Rattle.plan_core.specs.declared.node.Node.{Node}
use Rattle.plan_core.specs.declared.node.Op.TheVariants.{Buffer}
use Rattle.plan_core.specs.declared.plan.Plan.{Plan}
use Rattle.plan_core.specs.declared.sink.BufferPlan.{BufferPlan}
use Rattle.plan_core.specs.declared.sink.SinkPlan.{SinkPlan}
use Rattle.plan_core.specs.declared.sink.SinkPlan.TheVariants.{Output, Feed}
use Rattle.plan_core.specs.Plans.{sink_node, IsNoReader, IsNodeOver, AreNodes, IsBuffer, FeedsFrom, FeedsBuffer, ReadsBuffer, IsOfOne, ReadersHaveKind, IsWellFormed, with_node, with_output, with_buffer, reader_of, greatest, own_crossfades, crossfade_counts, crossfades_from}
use Rattle.plan_core.proofs.Lists.{some_same, one_more, there}
use Rattle.plan_core.proofs.Counts.{count_at, count_length}
use Rattle.plan_core.proofs.Paths.{more_nodes}

-- an item stays where it is as the list grows, and the new one is the last
stays : {A : Type 0} (xs ys : List A) (i : ℕ) (x : A) → slice_get xs i ≡ Some x → slice_get (xs ++ ys) i ≡ Some x
stays [] ys i x is = cc
stays (y ∷ xs) ys zero x is = is
stays (y ∷ xs) ys (suc i) x is = stays xs ys i x is

last_is : {A : Type 0} (xs : List A) (x : A) → slice_get (xs ++ x ∷ []) (length xs) ≡ Some x
last_is [] x = refl
last_is (y ∷ xs) x = last_is xs x

one_longer : {A : Type 0} (xs : List A) (x : A) → length (xs ++ x ∷ []) ≡ length xs + 1
one_longer xs x = length-append xs (x ∷ [])

pub each_of_one : {A : Type 0} (P : A → Type 0) (x : A) → P x → All P (x ∷ [])
each_of_one P x p zero d lt = p
each_of_one P x p (suc k) d lt = absurd (omega arith)

same_feed : (a b m n : ℕ) → Feed a m ≡ Feed b n → (a ≡ b) × (m ≡ n)
same_feed a b m n e = (cc, cc)

same_buffer : (a b : ℕ) → Buffer a ≡ Buffer b → a ≡ b
same_buffer a b e = cc

no_feed : (name : List ℕ) (node : ℕ) (fallible wide : Bool) (b n : ℕ) → Output name node fallible wide ≡ Feed b n → ⊥
no_feed name node fallible wide b n e = cc

-- the node of each sink is there in a longer list too
sinks_there : (plan : Plan) (n : ℕ) → length plan.nodes ≤ n → All (λ sink. sink_node sink < length plan.nodes) plan.sinks → All (λ sink. sink_node sink < n) plan.sinks
sinks_there plan n le all k d lt = let below = all k d lt in omega arith

-- the node that a feed names is there
source_there : (plan : Plan) (b j node : ℕ) → IsWellFormed plan → FeedsFrom plan b j node → node < length plan.nodes
source_there plan b j node w feed =
    let lt : j < length plan.sinks = slice_get_within plan.sinks j (Feed b node) feed in
    let P : SinkPlan → Type 0 = λ s. sink_node s < length plan.nodes in
    subst P (get_or_from_slice_get plan.sinks j (Feed b node) (Feed b node) feed) (w.sinks j (Feed b node) lt)

-- an item of a longer list at a place that the shorter one has
at_old_place : {A : Type 0} (xs : List A) (y : A) (i : ℕ) (x : A) → i < length xs → slice_get (xs ++ y ∷ []) i ≡ Some x → slice_get xs i ≡ Some x
at_old_place xs y i x lt is =
    elim (one_more xs y i x is) [
      | inl p ↦ p.1
      | inr p ↦ absurd (omega (arith, p.0))
    ]

module _ (plan : Plan) (w : IsWellFormed plan) (node : Node) (none : IsNoReader node.op) where
  -- each reader of the longer list was there
  old_reader : (b i : ℕ) (reader : Node) → slice_get (plan.nodes ++ node ∷ []) i ≡ Some reader → reader.op ≡ Buffer b → slice_get plan.nodes i ≡ Some reader
  old_reader b i reader at is =
      elim (one_more plan.nodes node i reader at) [
        | inl p ↦ p.1
        | inr p ↦ absurd (none b (ap (λ (n : Node). n.op) p.1 ∙ is))
      ]

  pub node_keeps : length plan.nodes < MAX_NODES → IsNodeOver plan.nodes node → IsWellFormed (with_node plan node)
  node_keeps room over =
      let longer = one_longer plan.nodes node in
      let few : length (plan.nodes ++ node ∷ []) ≤ MAX_NODES = omega arith in
      let more : length plan.nodes ≤ length (plan.nodes ++ node ∷ []) = omega arith in
      record {
        rate = w.rate;
        frame = w.frame;
        few_nodes = few;
        few_sinks = w.few_sinks;
        nodes = more_nodes plan.nodes node w.nodes over;
        sinks = sinks_there plan (length (plan.nodes ++ node ∷ [])) more w.sinks;
        buffers = w.buffers;
        fed = w.fed;
        read = λ b i (reader, at, is). w.read b i (reader, old_reader b i reader at is, is);
        one_feed = w.one_feed;
        one_reader = λ b lt.
            let (i, (reader, at, is), only) = w.one_reader b lt in
            (i, (reader, stays plan.nodes (node ∷ []) i reader at, is), λ j (other, there, reads). only j (other, old_reader b j other there reads, reads));
        readers = λ b i j n reader source at is feed there.
            w.readers b i j n reader source (old_reader b i reader at is) is feed (at_old_place plan.nodes node n source (source_there plan b j n w feed) there);
      }

module _ (plan : Plan) (w : IsWellFormed plan) (name : List ℕ) (node : ℕ) (fallible wide : Bool) where
  -- each feed of the longer list was there
  old_feed : (b i n : ℕ) → FeedsFrom (with_output plan name node fallible wide) b i n → FeedsFrom plan b i n
  old_feed b i n at =
      elim (one_more plan.sinks (Output name node fallible wide) i (Feed b n) at) [
        | inl p ↦ p.1
        | inr p ↦ absurd (no_feed name node fallible wide b n p.1)
      ]

  pub output_keeps : length plan.sinks + 1 < 2 ^ 32 → node < length plan.nodes → IsWellFormed (with_output plan name node fallible wide)
  output_keeps room there =
      let longer = one_longer plan.sinks (Output name node fallible wide) in
      let few : length (plan.sinks ++ Output name node fallible wide ∷ []) < 2 ^ 32 = omega arith in
      let P : SinkPlan → Type 0 = λ s. sink_node s < length plan.nodes in
      record {
        rate = w.rate;
        frame = w.frame;
        few_nodes = w.few_nodes;
        few_sinks = few;
        nodes = w.nodes;
        sinks = All-append P plan.sinks (Output name node fallible wide ∷ []) w.sinks (each_of_one P (Output name node fallible wide) there);
        buffers = w.buffers;
        fed = λ b i (n, at). w.fed b i (n, old_feed b i n at);
        read = w.read;
        one_feed = λ b lt.
            let (i, (n, at), only) = w.one_feed b lt in
            (i, (n, stays plan.sinks (Output name node fallible wide ∷ []) i (Feed b n) at), λ j (m, also). only j (m, old_feed b j m also));
        one_reader = w.one_reader;
        readers = λ b i j n reader source at is feed there. w.readers b i j n reader source at is (old_feed b j n feed) there;
      }

-- a reader has no children, and so no path down with a crossfade
reader_over : (nodes : List Node) (b : ℕ) (kind : Kind) → IsNodeOver nodes (reader_of b kind)
reader_over nodes b kind = record {
  children = All-nil (λ child. child < length nodes);
  few = omega arith;
  number = refl;
  kinds = λ number child (k, lt, is) at. absurd (omega arith);
  range = tt;
  crossfades = omega arith;
}

module _ (plan : Plan) (w : IsWellFormed plan) (source : ℕ) (from : Node) (stands : slice_get plan.nodes source ≡ Some from) (buffer : BufferPlan) where
  abbrev count : ℕ
  count = length plan.buffers

  abbrev grown : Plan
  grown = with_buffer plan source from.kind buffer

  -- a feed of the longer list is an old one or that of the new buffer
  which_feed : (b i n : ℕ) → FeedsFrom grown b i n → (FeedsFrom plan b i n × (b < count)) ⊎ ((i ≡ length plan.sinks) × (b ≡ count) × (n ≡ source))
  which_feed b i n at =
      elim (one_more plan.sinks (Feed (length plan.buffers) source) i (Feed b n) at) [
        | inl p ↦ inl (p.1, w.fed b i (n, p.1))
        | inr p ↦ let q = same_feed (length plan.buffers) b source n p.1 in inr (p.0, sym q.0, sym q.1)
      ]

  which_reader : (b i : ℕ) (reader : Node) → slice_get grown.nodes i ≡ Some reader → reader.op ≡ Buffer b
      → ((slice_get plan.nodes i ≡ Some reader) × (b < count)) ⊎ ((i ≡ length plan.nodes) × (b ≡ count) × (reader.kind ≡ from.kind))
  which_reader b i reader at is =
      elim (one_more plan.nodes (reader_of (length plan.buffers) from.kind) i reader at) [
        | inl p ↦ inl (p.1, w.read b i (reader, p.1, is))
        | inr p ↦ inr (p.0, same_buffer b (length plan.buffers) (sym is ∙ sym (ap (λ (n : Node). n.op) p.1)), sym (ap (λ (n : Node). n.kind) p.1))
      ]

  one_new_feed : (b : ℕ) → b < length grown.buffers → IsOfOne (FeedsBuffer grown b)
  one_new_feed b lt =
      let longer = one_longer plan.buffers buffer in
      elim (cases_lt b count) [
        | inl old ↦
            let (i, (n, at), only) = w.one_feed b old in (
              i,
              (n, stays plan.sinks (Feed count source ∷ []) i (Feed b n) at),
              λ j (m, also).
                  elim (which_feed b j m also) [
                    | inl p ↦ only j (m, p.0)
                    | inr p ↦ absurd (omega (arith, old, p.1))
                  ],
            )
        | inr new ↦
            let same : count ≡ b = omega arith in
            let P : ℕ → Type 0 = λ x. FeedsBuffer grown x (length plan.sinks) in (
              length plan.sinks,
              subst P same (source, last_is plan.sinks (Feed count source)),
              λ j (m, also).
                  elim (which_feed b j m also) [
                    | inl p ↦ absurd (omega (arith, new, p.1))
                    | inr p ↦ p.0
                  ],
            )
      ]

  one_new_reader : (b : ℕ) → b < length grown.buffers → IsOfOne (ReadsBuffer grown b)
  one_new_reader b lt =
      let longer = one_longer plan.buffers buffer in
      elim (cases_lt b count) [
        | inl old ↦
            let (i, (reader, at, is), only) = w.one_reader b old in (
              i,
              (reader, stays plan.nodes (reader_of count from.kind ∷ []) i reader at, is),
              λ j (other, there, reads).
                  elim (which_reader b j other there reads) [
                    | inl p ↦ only j (other, p.0, reads)
                    | inr p ↦ absurd (omega (arith, old, p.1))
                  ],
            )
        | inr new ↦
            let same : count ≡ b = omega arith in
            let P : ℕ → Type 0 = λ x. ReadsBuffer grown x (length plan.nodes) in (
              length plan.nodes,
              subst P same (reader_of count from.kind, last_is plan.nodes (reader_of count from.kind), refl),
              λ j (other, there, reads).
                  elim (which_reader b j other there reads) [
                    | inl p ↦ absurd (omega (arith, new, p.1))
                    | inr p ↦ p.0
                  ],
            )
      ]

  kinds_agree : ReadersHaveKind grown
  kinds_agree b i j n reader other at is feed there =
      elim (which_reader b i reader at is) [
        | inl old ↦
            elim (which_feed b j n feed) [
              | inl fed ↦ w.readers b i j n reader other old.0 is fed.0 (at_old_place plan.nodes (reader_of count from.kind) n other (source_there plan b j n w fed.0) there)
              | inr fed ↦ absurd (omega (arith, old.1, fed.1))
            ]
        | inr new ↦
            elim (which_feed b j n feed) [
              | inl fed ↦ absurd (omega (arith, new.1, fed.1))
              | inr fed ↦
                  let P : ℕ → Type 0 = λ x. slice_get grown.nodes x ≡ Some from in
                  let here : slice_get grown.nodes n ≡ Some from = subst P (sym fed.2) (stays plan.nodes (reader_of count from.kind ∷ []) source from stands) in
                  let one : from ≡ other = some_same (sym here ∙ there) in
                  new.2 ∙ ap (λ (m : Node). m.kind) one
            ]
      ]

  pub buffer_keeps : length plan.nodes < MAX_NODES → length plan.sinks + 1 < 2 ^ 32 → IsBuffer buffer → IsWellFormed (with_buffer plan source from.kind buffer)
  buffer_keeps room room_of_sinks is =
      let longer = one_longer plan.nodes (reader_of count from.kind) in
      let more_sinks = one_longer plan.sinks (Feed count source) in
      let more_buffers = one_longer plan.buffers buffer in
      let few : length grown.nodes ≤ MAX_NODES = omega arith in
      let few_sinks : length grown.sinks < 2 ^ 32 = omega arith in
      let more : length plan.nodes ≤ length grown.nodes = omega arith in
      let within : source < length plan.nodes = slice_get_within plan.nodes source from stands in
      let below : source < length grown.nodes = omega arith in
      let P : SinkPlan → Type 0 = λ s. sink_node s < length grown.nodes in
      record {
        rate = w.rate;
        frame = w.frame;
        few_nodes = few;
        few_sinks = few_sinks;
        nodes = more_nodes plan.nodes (reader_of count from.kind) w.nodes (reader_over plan.nodes count from.kind);
        sinks = All-append P plan.sinks (Feed count source ∷ []) (sinks_there plan (length grown.nodes) more w.sinks) (each_of_one P (Feed count source) below);
        buffers = All-append IsBuffer plan.buffers (buffer ∷ []) w.buffers (each_of_one IsBuffer buffer is);
        fed = λ b i (n, at). elim (which_feed b i n at) [ inl p ↦ omega (arith, p.1) | inr p ↦ omega (arith, p.1) ];
        read = λ b i (reader, at, reads). elim (which_reader b i reader at reads) [ inl p ↦ omega (arith, p.1) | inr p ↦ omega (arith, p.1) ];
        one_feed = one_new_feed;
        one_reader = one_new_reader;
        readers = kinds_agree;
      }

pub empty_keeps : (rate frame : ℕ) → MIN_RATE ≤ rate → rate ≤ MAX_RATE → 1 ≤ frame → frame ≤ MAX_FRAME → IsWellFormed (record { rate = rate; frame = frame; nodes = []; sinks = []; buffers = [] })
empty_keeps rate frame low high some few = record {
  rate = (low, high);
  frame = (some, few);
  few_nodes = omega arith;
  few_sinks = omega arith;
  nodes = λ i node is. cc;
  sinks = All-nil (λ sink. sink_node sink < 0);
  buffers = All-nil IsBuffer;
  fed = λ b i (n, at). cc;
  read = λ b i (reader, at, is). cc;
  one_feed = λ b lt. absurd (omega arith);
  one_reader = λ b lt. absurd (omega arith);
  readers = λ b i j n reader source at is feed there. cc;
}

-- each number of a list is at most this
greatest_at_most : (f : ℕ → ℕ) (most : ℕ) (xs : List ℕ) → ((x : ℕ) → f x ≤ most) → greatest (map f xs) ≤ most
greatest_at_most f most [] all = omega arith
greatest_at_most f most (x ∷ xs) all = let first = all x in let rest = greatest_at_most f most xs all in max-le first rest

-- the count of a node is that of a node that is there, or 0
count_few : (nodes : List Node) → AreNodes nodes → (i : ℕ) → get_or (crossfade_counts nodes) i 0 ≤ MAX_CROSSFADES
count_few nodes are i =
    elim (cases_lt i (length nodes)) [
      | inl lt ↦
          let (node, is) = there nodes i lt in
          let count = count_at nodes i node is in
          let few = (are i node is).crossfades in
          omega arith
      | inr past ↦
          let long = count_length [] nodes in
          let none : get_or (crossfade_counts nodes) i 0 ≡ 0 = get_or_past (crossfade_counts nodes) i 0 (omega arith) in
          omega arith
    ]

pub no_more_crossfades : (nodes : List Node) (node : Node) → AreNodes nodes → own_crossfades node.op ≡ 0 → crossfades_from nodes node ≤ MAX_CROSSFADES
no_more_crossfades nodes node are none =
    let most = greatest_at_most (λ child. get_or (crossfade_counts nodes) child 0) MAX_CROSSFADES node.children (count_few nodes are) in
    omega arith
