-- One node begins: a reader takes, and any other node makes no calls.
use Rattle.std.proofs.Common.{◌≡◌, ◌∙◌, ◌++◌, ℕ, suc, Bool, false, Some, List, [], length, map, slice_get, refl, ap, sym, subst}
use Rattle.std.proofs.lemmas.Bool.{true≢false}
use Rattle.liq_base.specs.declared.memory.Kind.{Kind}
use Rattle.plan_core.specs.declared.node.Node.{Node}
use Rattle.plan_core.specs.declared.node.Op.{Op}
use Rattle.plan_core.specs.declared.node.Op.TheVariants.{Buffer}
use Rattle.plan_core.specs.Plans.{IsNoReader}
use Rattle.frame_core.specs.Slots.{Slot}
use Rattle.frame_core.specs.Calls.{Call, Took, Answer}
use Rattle.stream_meaning.specs.Operators.{Work, Plays, Picks, Mixes, Fades, Reads, work_of}
use Rattle.stream_meaning.specs.Instants.{Setting, Moment, work_at}
use Rattle.stream_meaning.specs.Calls.{HasAnswers, IsBegin, after_calls, takes_by}
use Rattle.stream_meaning.proofs.Sorted.{no_takes}
use Rattle.stream_meaning.proofs.Answering.{answers_in-other, answers_in-own}
use Rattle.node_states.specs.declared.state.NodeState.{NodeState}
use Rattle.node_states.specs.States.{StateStands, reading_by, reads}
use Rattle.node_states.specs.Takes.{HasBegunAt}
use Rattle.node_states.specs.Takes as node
use Rattle.node_states.proofs.Chunks.{adds_none, map-append}
use Rattle.clock_nodes.specs.declared.scene.Scene.{Scene}
use Rattle.clock_nodes.specs.Scenes.{setting_over}
use Rattle.clock_instants.specs.Takes.{HasBegun, NodeBegan, NodeTookSome, begun_by}

no_reads : (rate i : ℕ) (kind : Kind) (op : Op) → IsNoReader op → reads (work_of rate i kind op) ≡ false
no_reads rate i kind (Buffer buffer) none = absurd (none buffer refl)
no_reads rate i kind _ none = refl

other_began : (setting : Setting) (sub : ℕ → ℕ → List Slot) (past : List Moment) (filled i : ℕ) (work : Work) (front : ℕ → List Answer) (state : NodeState)
    → reads work ≡ false → StateStands setting sub past filled i work state → HasBegun setting sub past filled i work front [] state
other_began setting sub past filled i work front state none stands = record {
  stands = subst (λ (n : ℕ). StateStands setting sub past n i work state) (ap (λ (b : Bool). begun_by b filled) (sym none)) stands;
  calls = sym (no_takes setting past i work (λ buffer is. true≢false (ap reads (sym is) ∙ none)));
  taken = λ buffer is. absurd (true≢false (ap reads (sym is) ∙ none));
  others = λ buffer other. refl;
}

same_buffer : (a b : ℕ) → Reads a ≡ Reads b → a ≡ b
same_buffer a b is = ap number is
  where
    number : Work → ℕ
    number (Plays leaf) = 0
    number (Picks rule eligible) = 0
    number (Mixes mixing) = 0
    number (Fades overlap) = 0
    number (Reads buffer) = buffer

reader_began : (setting : Setting) (sub : ℕ → ℕ → List Slot) (past : List Moment) (filled i buffer : ℕ) (front : ℕ → List Answer) (more : List Answer) (state : NodeState)
    → filled ≡ length past → HasBegunAt setting sub past i buffer (front buffer) more state → HasBegun setting sub past filled i (Reads buffer) front (map (Took buffer) more) state
reader_began setting sub past filled i buffer front more state even begun = record {
  stands = subst (λ (n : ℕ). StateStands setting sub past (suc n) i (Reads buffer) state) (sym even) begun.stands;
  calls = ap (map (Took buffer)) (sym begun.takes);
  taken = λ other is.
      let same : buffer ≡ other = same_buffer buffer other is in
      subst (λ (b : ℕ). (reading_by setting i b past (suc (length past))).taken ≡ length (after_calls front (map (Took buffer) more) b)) same
      (begun.taken ∙ ap (λ (answers : List Answer). length (front buffer ++ answers)) (sym (answers_in-own buffer more)));
  others = λ other apart. answers_in-other other buffer more (λ same. apart (ap Reads same));
}

answers_of_one : (setting : Setting) (front : ℕ → List Answer) (buffer : ℕ) (more : List Answer) (has : HasAnswers setting (after_calls front (map (Took buffer) more)))
    → setting.answers buffer ≡ (front buffer ++ more) ++ has.rest buffer
answers_of_one setting front buffer more has =
    has.are buffer ∙ ap (λ (answers : List Answer). (front buffer ++ answers) ++ has.rest buffer) (answers_in-own buffer more)

module _ {T : Type 0} (stands : T → List Call → Type 0) (scene : Scene) (i : ℕ) where
  pub node_other : (state : NodeState) (a : T) → ((node : Node) → slice_get scene.plan.now.nodes i ≡ Some node → IsNoReader node.op) → NodeBegan stands scene i state state a a
  node_other state a none = record {
    more = [];
    taps = adds_none stands a;
    begun = λ other sub past filled node front found starts has stand even taken.
        other_began (setting_over scene other) sub past filled i (work_at (setting_over scene other) i node) front state (no_reads scene.plan.now.rate i node.kind node.op (none node found)) stand;
  }

  module _ (buffer : ℕ) (reader : (node : Node) → slice_get scene.plan.now.nodes i ≡ Some node → node.op ≡ Buffer buffer) (old : NodeState) (a b : T) where
    work_is : (other : Setting) (node : Node) → slice_get scene.plan.now.nodes i ≡ Some node → work_at (setting_over scene other) i node ≡ Reads buffer
    work_is other node found = ap (work_of scene.plan.now.rate i node.kind) (reader node found)

    pub node_reader : (new : NodeState) → node.HasBegun stands buffer old new a b → NodeBegan stands scene i old new a b
    node_reader new has = record {
      more = map (Took buffer) has.more;
      taps = has.taps;
      begun = λ other sub past filled node front found starts answers stand even taken.
          let S = setting_over scene other in
          let work = work_is other node found in
          let same : filled ≡ length past = even (ap reads work) in
          subst (λ (w : Work). HasBegun S sub past filled i w front (map (Took buffer) has.more) new) (sym work)
          (reader_began S sub past filled i buffer front has.more new same
          (has.begun S sub past i (front buffer) (answers.rest buffer)
          (subst (λ (n : ℕ). StateStands S sub past n i (Reads buffer) old) same (subst (λ (w : Work). StateStands S sub past filled i w old) work stand))
          starts (answers_of_one S front buffer has.more answers) (taken buffer work)));
    }

    pub node_some : node.HasTakenSome stands buffer old a b → NodeTookSome stands scene i old a b
    node_some has = record {
      made = map (Took buffer) has.more;
      taps = has.taps;
      begins = λ other sub past filled node front found answers stand even taken.
          let S = setting_over scene other in
          let work = work_is other node found in
          let same : filled ≡ length past = even (ap reads work) in
          let left = has.begins S sub past i (front buffer) (answers.rest buffer)
          (subst (λ (n : ℕ). StateStands S sub past n i (Reads buffer) old) same (subst (λ (w : Work). StateStands S sub past filled i w old) work stand))
          (answers_of_one S front buffer has.more answers) (taken buffer work) in
          subst (λ (w : Work). IsBegin (map (Took buffer) has.more) (takes_by S past i w)) (sym work)
          (record {
            rest = map (Took buffer) left.0;
            are = ap (map (Took buffer)) left.1 ∙ map-append (Took buffer) has.more left.0;
          });
    }
