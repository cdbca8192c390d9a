-- From the bytes of a script to its name, and from the words to what they ask for.
use Rattle.std.proofs.Common.{◌≡◌, ◌≢◌, ◌<◌, ℕ, suc, List, [], ◌∷◌, length, get_or, refl, sym, ap, ◌∙◌, subst, arith}
use Rattle.std.specs.Prelude.{Option, Some, None, IfErr, IsSomeAnd, Result, Ok, Err, String, string_bytes}
use Rattle.std.specs.declared.alloc.Global.{Global}
use Rattle.liq_base.specs.Files.{file_at}
use Rattle.liq_base.specs.Pieces.{SinkTold}
use Rattle.liq_base.specs.Shelves.{OnlyRead, ShelfTold}
use Rattle.liq_base.specs.declared.limits.TheConstants.{MAX_SCRIPT_BYTES}
use Rattle.script_lex.specs.declared.token.LexFault.TheVariants as lex_fault
use Rattle.script_plan.specs.declared.fault.ScriptFault.TheVariants as fault
use Rattle.about_cli.specs.Ends.{Answers, Ends, Holds, Outside, TellsLong, Told, UsageSaid}
use Rattle.about_cli.specs.Told.{HasNoPlan, Tells}
use Rattle.about_cli.specs.Words.{AsksFor, HasNoForm, texts, verb_of}
use Rattle.about_cli.specs.declared.told.Untold.{Untold}
use Rattle.about_cli.specs.declared.told.Untold.TheVariants.{NoPlan}
use Rattle.about_cli.specs.declared.verb.Question.{Question}
use Rattle.about_cli.specs.declared.verb.Question.TheVariants.{Tokens}
use Rattle.about_cli.specs.declared.verb.Verb.{Verb}

and_more : {A : Type 0} (P Q : A → Type 0) (o : Option A) → ((x : A) → P x → Q x) → IsSomeAnd o P → IsSomeAnd o Q
and_more P Q None goes h = h
and_more P Q (Some x) goes h = goes x h

holds_more : (shelf : ShelfTold) (file : List ℕ) (P Q : List ℕ → Type 0) → ((text : List ℕ) → P text → Q text) → Holds shelf file P
    → Holds shelf file Q
holds_more shelf file P Q goes h = λ files told. and_more P Q (file_at files file) goes (h files told)

-- a text that is too long has no plan
long_has_none : (text : List ℕ) → MAX_SCRIPT_BYTES < length text → HasNoPlan text
long_has_none text long = record { cause = fault.Lex lex_fault.TextTooLong; meant = λ is. absurd cc; is_fault = long }

-- an answer on each text that is too long is one on a script that is
pub told_of_long : (question : Question) (file : List ℕ) (scripts scripts_new old : ShelfTold) (out out_new : SinkTold) (status : ℕ)
    → Holds scripts file (λ text. MAX_SCRIPT_BYTES < length text) → TellsLong question old out out_new status
    → Told question file scripts scripts_new old old out out_new status
told_of_long question file scripts scripts_new old out out_new status long tells =
    let Long : List ℕ → Type 0 = λ text. MAX_SCRIPT_BYTES < length text in
    record {
      is_status = tells.is_status;
      done = λ at. let said = tells.done at in record {
        told = said.told;
        said = said.said;
        is = holds_more scripts file Long (λ t. Tells question t old old said.told) said.is long;
      };
      no_plan = λ at. let none = tells.no_plan at in (none.0, holds_more scripts file Long HasNoPlan long_has_none long, none.1);
      no_usage = tells.no_usage;
      unread = λ at. absurd (tells.no_read at);
      unwritten = λ at. let said = tells.unwritten at in record {
        told = said.told;
        part = said.part;
        is = holds_more scripts file Long (λ t. Tells question t old old said.told) said.is long;
      };
      refused = tells.refused;
    }

-- a text without a plan, of which something else than its tokens is asked
pub no_plan_but : {A : Type 0} (question : Question) (text : List ℕ) (r : Result A Untold) → question ≢ Tokens
    → IfErr r (λ why. why ≡ NoPlan → HasNoPlan text) → IfErr r (λ why. why ≡ NoPlan → (question ≢ Tokens) × HasNoPlan text)
no_plan_but question text (Ok a) other none = tt
no_plan_but question text (Err why) other none = λ is. (other, none is)

-- words ask for one thing
asks_one : (words : List (List ℕ)) (v w : Verb) (f g : List ℕ) → AsksFor words v f → AsksFor words w g → (v ≡ w) × (f ≡ g)
asks_one words v w f g a b =
    let two : a.word ∷ f ∷ [] ≡ b.word ∷ g ∷ [] = sym a.two ∙ b.two in
    let word : a.word ≡ b.word = cc in
    let file : f ≡ g = cc in
    let verb : Some v ≡ Some w = sym a.is_verb ∙ ap verb_of word ∙ b.is_verb in
    (cc, file)

pub ends_asked : (words : List (List ℕ)) (input : Option (List ℕ)) (verb : Verb) (file : List ℕ) (old new : Outside) (status : ℕ) → AsksFor words verb file
    → OnlyRead old.scripts new.scripts → OnlyRead old.shelf new.shelf → new.err ≡ old.err → Answers verb file input old new status
    → Ends words input old new status
ends_asked words input verb file old new status asks scripts shelf err answers = record {
  scripts_read = scripts;
  shelf_read = shelf;
  asked = λ v f asked.
      let one = asks_one words verb v file f asks asked in
      (subst (λ (w : Verb). Answers w f input old new status) one.0 (subst (λ (g : List ℕ). Answers verb g input old new status) one.1 answers), err);
  usage = λ none. absurd (none verb file asks);
}

pub same_read : (a : ShelfTold) → OnlyRead a a
same_read a = record { files = refl; created = refl; closed = refl; reads = omega arith; writes = omega arith }

pub ends_usage : (words : List (List ℕ)) (input : Option (List ℕ)) (old new : Outside) (status : ℕ) → HasNoForm words → new.scripts ≡ old.scripts
    → new.shelf ≡ old.shelf → UsageSaid old new status → Ends words input old new status
ends_usage words input old new status none scripts shelf said = record {
  scripts_read = subst (λ (s : ShelfTold). OnlyRead old.scripts s) (sym scripts) (same_read old.scripts);
  shelf_read = subst (λ (s : ShelfTold). OnlyRead old.shelf s) (sym shelf) (same_read old.shelf);
  asked = λ v f asks. absurd (none v f asks);
  usage = λ no. said;
}

-- two words
pub two_words : (words : List (String Global)) (a b : String Global) → length words ≡ 2 → a ≡ get_or words 0 a → b ≡ get_or words 1 b
    → texts words ≡ string_bytes a ∷ string_bytes b ∷ []
two_words [] a b two first second = absurd (omega arith)
two_words (x ∷ []) a b two first second = absurd (omega arith)
two_words (x ∷ y ∷ []) a b two first second =
    ap (λ (w : String Global). string_bytes w ∷ string_bytes y ∷ []) (sym first)
    ∙ ap (λ (w : String Global). string_bytes a ∷ string_bytes w ∷ []) (sym second)
two_words (x ∷ y ∷ z ∷ words) a b two first second = absurd (omega arith)

pub asked_of : (words : List (List ℕ)) (word file : List ℕ) (verb : Verb) → words ≡ word ∷ file ∷ [] → verb_of word ≡ Some verb
    → AsksFor words verb file
asked_of words word file verb two is = record { word = word; two = two; is_verb = is }

-- two words of which the first is no verb have no form, and so have more or fewer words
pub no_verb : (words : List (List ℕ)) (word file : List ℕ) → words ≡ word ∷ file ∷ [] → verb_of word ≡ None → HasNoForm words
no_verb words word file two none verb f asks =
    let same : word ∷ file ∷ [] ≡ asks.word ∷ f ∷ [] = sym two ∙ asks.two in
    let word_is : word ≡ asks.word = cc in
    let both : None ≡ Some verb = sym none ∙ ap verb_of word_is ∙ asks.is_verb in
    absurd (cc)

texts_long : (words : List (String Global)) → length (texts words) ≡ length words
texts_long [] = refl
texts_long (w ∷ words) = ap suc (texts_long words)

pub not_two : (words : List (String Global)) → length words ≢ 2 → HasNoForm (texts words)
not_two words not verb file asks = not (sym (texts_long words) ∙ ap length asks.two)

pub first_of_two : (words : List (String Global)) (a : String Global) → length words ≡ 2 → a ≡ get_or words 0 a
    → (file : List ℕ) × (texts words ≡ string_bytes a ∷ file ∷ [])
first_of_two [] a two first = absurd (omega arith)
first_of_two (x ∷ []) a two first = absurd (omega arith)
first_of_two (x ∷ y ∷ []) a two first = (string_bytes y, ap (λ (w : String Global). string_bytes w ∷ string_bytes y ∷ []) (sym first))
first_of_two (x ∷ y ∷ z ∷ words) a two first = absurd (omega arith)
