-- The answers of one engine, and those of all.
use Rattle.std.proofs.Common.{◌≡◌, ◌<◌, ◌∙◌, ◌++◌, ◌/◌, ◌%◌, ℕ, suc, Bool, true, false, cond, List, [], ◌∷◌, nat_eq, append-nil, append_assoc, arith, refl, ap, sym, subst, ◌⊎◌, inl, inr}
use mathlib.Core.Path.{fun_ext}
use Rattle.std.proofs.lemmas.Bool.Decides.{nat_tests}
use Rattle.clock_infer.specs.declared.clock_map.NodeClock.{NodeClock}
use Rattle.frame_core.specs.Calls.{Call, Answer}
use Rattle.stream_meaning.specs.Instants.{Setting, with_rest}
use Rattle.stream_meaning.specs.Calls.{IsBegin, IsUnread, answers_in, calls_of_tick, joined_upto}
use Rattle.stream_meaning.proofs.Answering.{answers_in-append, begin_joined, joined_same}
use Rattle.rounds_run.specs.Rounds.{AreTurns, AreTurnsBegun, AreTurnsUpto, calls_of_turns, world}

-- an engine has its own answers, or does not read the buffer
abbrev pub Owns : Setting → NodeClock → List Call → (ℕ → List Answer) → Type 0
Owns setting clock calls answers = (buffer : ℕ) → (answers buffer ≡ answers_in buffer calls) ⊎ IsUnread setting clock buffer

abbrev rest_by : {U : Type 0} (a c r : List Answer) → ((a ≡ c) ⊎ U) → List Answer
rest_by a c r (inl same) = r
rest_by a c r (inr unread) = c ++ r

rest_is : {U : Type 0} (a c r : List Answer) (own : (a ≡ c) ⊎ U) → (U → a ≡ []) → a ++ rest_by a c r own ≡ c ++ r
rest_is a c r (inl same) none = ap (λ (xs : List Answer). xs ++ r) same
rest_is a c r (inr unread) none = ap (λ (xs : List Answer). xs ++ (c ++ r)) (none unread)

-- what is to follow an engine's own answers
abbrev pub meets : (setting : Setting) (clock : NodeClock) (calls : List Call) (answers : ℕ → List Answer) → Owns setting clock calls answers → (rest : ℕ → List Answer) → ℕ → List Answer
meets setting clock calls answers own rest buffer = rest_by (answers buffer) (answers_in buffer calls) (rest buffer) (own buffer)

pub meets_is : (setting : Setting) (clock : NodeClock) (calls : List Call) (answers : ℕ → List Answer) (own : Owns setting clock calls answers) (rest : ℕ → List Answer)
    → ((buffer : ℕ) → IsUnread setting clock buffer → answers buffer ≡ []) → with_rest setting answers (meets setting clock calls answers own rest) ≡ world setting calls rest
meets_is setting clock calls answers own rest none =
    ap (λ (f : ℕ → List Answer). record { plan = setting.plan; library = setting.library; clocks = setting.clocks; start = setting.start; answers = f })
    (fun_ext (λ buffer. rest_is (answers buffer) (answers_in buffer calls) (rest buffer) (own buffer) (none buffer)))

pub own_this : (setting : Setting) (clock : NodeClock) (calls more : List Call) (buffer : ℕ) (answers : List Answer) → (answers ≡ answers_in buffer calls) ⊎ IsUnread setting clock buffer
    → (answers ++ answers_in buffer more ≡ answers_in buffer (calls ++ more)) ⊎ IsUnread setting clock buffer
own_this setting clock calls more buffer answers (inl same) = inl (ap (λ (xs : List Answer). xs ++ answers_in buffer more) same ∙ sym (answers_in-append buffer calls more))
own_this setting clock calls more buffer answers (inr unread) = inr unread

pub own_other : (setting : Setting) (clock : NodeClock) (calls more : List Call) (buffer : ℕ) (answers : List Answer) → (answers ≡ answers_in buffer calls) ⊎ IsUnread setting clock buffer
    → (answers_in buffer more ≡ []) ⊎ IsUnread setting clock buffer → (answers ≡ answers_in buffer (calls ++ more)) ⊎ IsUnread setting clock buffer
own_other setting clock calls more buffer answers (inl same) (inl none) =
    inl (same ∙ sym (answers_in-append buffer calls more ∙ ap (λ (xs : List Answer). answers_in buffer calls ++ xs) none ∙ append-nil (answers_in buffer calls)))
own_other setting clock calls more buffer answers (inl same) (inr unread) = inr unread
own_other setting clock calls more buffer answers (inr unread) apart = inr unread

-- calls that begin quiet ones are quiet
front_nil : (xs ys : List Answer) → xs ++ ys ≡ [] → xs ≡ []
front_nil [] ys is = refl
front_nil (x ∷ xs) ys is = absurd cc

pub none_begun : (buffer : ℕ) (made rest : List Call) → answers_in buffer (made ++ rest) ≡ [] → answers_in buffer made ≡ []
none_begun buffer made rest none = front_nil (answers_in buffer made) (answers_in buffer rest) (sym (answers_in-append buffer made rest) ∙ none)

world_more : (setting : Setting) (calls more : List Call) (rest : ℕ → List Answer) → world setting calls (λ buffer. answers_in buffer more ++ rest buffer) ≡ world setting (calls ++ more) rest
world_more setting calls more rest =
    ap (λ (f : ℕ → List Answer). record { plan = setting.plan; library = setting.library; clocks = setting.clocks; start = setting.start; answers = f })
    (fun_ext (λ buffer. sym (append_assoc (answers_in buffer calls) (answers_in buffer more) (rest buffer)) ∙ ap (λ (xs : List Answer). xs ++ rest buffer) (sym (answers_in-append buffer calls more))))

-- one turn more
abbrev with_turn : (ℕ → ℕ → Bool) → ℕ → (ℕ → Bool) → ℕ → ℕ → Bool
with_turn accepted turns new j buffer = cond (nat_eq j turns) (new buffer) (accepted j buffer)

-- the turns before, with the answers of what comes behind them
module _ (setting : Setting) (clocks turns : ℕ) (calls more : List Call) (accepted : ℕ → Bool) (before : AreTurns setting clocks turns calls) where
  turns_before : (rest : ℕ → List Answer) → calls ≡ calls_of_turns (world setting (calls ++ more) rest) (with_turn before.accepted turns accepted) clocks turns
  turns_before rest =
      let W = world setting (calls ++ more) rest in
      before.are (λ buffer. answers_in buffer more ++ rest buffer) ∙ ap (λ V. calls_of_turns V before.accepted clocks turns) (world_more setting calls more rest)
      ∙ joined_same (λ j. calls_of_tick W (before.accepted j) (j % clocks) (j / clocks)) (λ j. calls_of_tick W (with_turn before.accepted turns accepted j) (j % clocks) (j / clocks)) turns
      (λ j low. ap (λ f. calls_of_tick W f (j % clocks) (j / clocks)) (fun_ext (λ buffer.
      let differs : nat_eq j turns ≡ false = grind (arith, nat_tests) in sym (ap (λ (b : Bool). cond b (accepted buffer) (before.accepted j buffer)) differs))))

  -- what the next turn's puts are answered
  turn_here : accepted ≡ with_turn before.accepted turns accepted turns
  turn_here = fun_ext (λ buffer. let one : nat_eq turns turns ≡ true = grind (arith, nat_tests) in sym (ap (λ (b : Bool). cond b (accepted buffer) (before.accepted turns buffer)) one))

  module _ (clock : NodeClock) (answers : ℕ → List Answer) (own : Owns setting clock (calls ++ more) answers) (none : (buffer : ℕ) → IsUnread setting clock buffer → answers buffer ≡ []) where
    turn_is : (rest : ℕ → List Answer) → calls_of_tick (with_rest setting answers (meets setting clock (calls ++ more) answers own rest)) accepted (turns % clocks) (turns / clocks)
        ≡ calls_of_tick (world setting (calls ++ more) rest) (with_turn before.accepted turns accepted turns) (turns % clocks) (turns / clocks)
    turn_is rest =
        ap (λ V. calls_of_tick V accepted (turns % clocks) (turns / clocks)) (meets_is setting clock (calls ++ more) answers own rest none)
        ∙ ap (λ f. calls_of_tick (world setting (calls ++ more) rest) f (turns % clocks) (turns / clocks)) turn_here

    pub turned_more : ((rest : ℕ → List Answer) → more ≡ calls_of_tick (with_rest setting answers rest) accepted (turns % clocks) (turns / clocks))
        → AreTurns setting clocks (suc turns) (calls ++ more)
    turned_more is = record {
      accepted = with_turn before.accepted turns accepted;
      are = λ rest.
          let W = world setting (calls ++ more) rest in
          ap (λ (cs : List Call). cs ++ more) (turns_before rest)
          ∙ ap (λ (cs : List Call). calls_of_turns W (with_turn before.accepted turns accepted) clocks turns ++ cs) (is (meets setting clock (calls ++ more) answers own rest) ∙ turn_is rest);
    }

    begun_to : (all : ℕ) → turns < all → ((rest : ℕ → List Answer) → IsBegin more (calls_of_tick (with_rest setting answers rest) accepted (turns % clocks) (turns / clocks)))
        → (rest : ℕ → List Answer) → IsBegin (calls ++ more) (calls_of_turns (world setting (calls ++ more) rest) (with_turn before.accepted turns accepted) clocks all)
    begun_to all low is rest =
        let W = world setting (calls ++ more) rest in
        let turn : ℕ → List Call = λ j. calls_of_tick W (with_turn before.accepted turns accepted j) (j % clocks) (j / clocks) in
        subst (λ (cs : List Call). IsBegin (cs ++ more) (joined_upto turn all)) (sym (turns_before rest))
        (begin_joined turn turns all more low (subst (IsBegin more) (turn_is rest) (is (meets setting clock (calls ++ more) answers own rest))))

    -- the beginning of one turn more
    pub turned_part : (all : ℕ) → turns < all → ((rest : ℕ → List Answer) → IsBegin more (calls_of_tick (with_rest setting answers rest) accepted (turns % clocks) (turns / clocks)))
        → AreTurnsBegun setting clocks all (calls ++ more)
    turned_part all low is = record { accepted = with_turn before.accepted turns accepted; begun = begun_to all low is }

    -- so many turns, and the beginning of one more
    pub turned_upto : ((rest : ℕ → List Answer) → IsBegin more (calls_of_tick (with_rest setting answers rest) accepted (turns % clocks) (turns / clocks)))
        → AreTurnsUpto setting clocks turns (calls ++ more)
    turned_upto is = record {
      accepted = with_turn before.accepted turns accepted;
      whole = λ rest. record { rest = more; are = ap (λ (cs : List Call). cs ++ more) (turns_before rest) };
      begun = begun_to (suc turns) (omega arith) is;
    }
