use Rattle.std.proofs.Common.{rules, ◌≡◌, ◌∙◌, ℕ, List, [], ◌∷◌, refl, subst, sym, ap, arith}
use Rattle.std.specs.Prelude.{Some, string_bytes}
use Rattle.about_cli.specs.Ends.{UsageSaid}
use Rattle.about_cli.specs.Words.{AsksFor, HasNoForm, texts, verb_of}
use Rattle.about_cli.specs.declared.verb.Question.{Question}
use Rattle.about_cli.specs.declared.verb.Verb.TheVariants.{Where, Tell}
use Rattle.about_cli.proofs.Completing.{complete_asked, complete_usage}
use Rattle.about_cli.proofs.Telling.{asked_of, ends_asked, ends_usage, first_of_two, no_verb, not_two, same_read, two_words}
use Rattle.about_cli.proofs.call.about.Goals as goal
use Rattle.about_cli.proofs.call.about.Goals.{then-words-eq2+in-None, else-words-eq2}

pub returns-in-Some-Where : goal.returns-in-Some-Where
returns-in-Some-Where g c =
    let word = c.as_str.result.now in
    let file = c.as_str-in-Some-Where.result.now in
    let two : texts c.args.words.now ≡ word ∷ file ∷ [] =
    two_words c.args.words.now c.index-words-0.result c.index-words-1.result (omega arith) c.index-words-0.is c.index-words-1.is
    ∙ ap (λ (w : List ℕ). w ∷ string_bytes c.index-words-1.result ∷ []) (sym c.as_str.ensures.value)
    ∙ ap (λ (f : List ℕ). word ∷ f ∷ []) (sym c.as_str-in-Some-Where.ensures.value) in
    let verb : verb_of word ≡ Some Where = sym c.verb_of.ensures ∙ c.in-Some-Where.is ∙ ap Some c.in-Some-Where.field-0-is in
    let asked = asked_of (texts c.args.words.now) word file Where two verb in
    record {
      ends = ends_asked (texts c.args.words.now) _ Where file _ _ c.show.result asked c.show.ensures.scripts
          (same_read (g.S.Shelf.told c.args.shelf.now)) refl (c.show.ensures.passed, refl);
      complete = complete_asked c.one_answer.ensures.apart c.one_list_of_calls.ensures.plan (texts c.args.words.now) (g.I.Read.remaining c.args.input.now) Where file _ _ c.show.result
          asked c.show.ensures.scripts (same_read (g.S.Shelf.told c.args.shelf.now)) refl (c.show.ensures.passed, refl);
      untouched = λ none. refl;
      unread = λ none. absurd (none (file, asked));
    }

pub returns-in-Some-Tell : goal.returns-in-Some-Tell
returns-in-Some-Tell g c =
    let word = c.as_str.result.now in
    let file = c.as_str-in-Some-Tell.result.now in
    let question = c.in-Some-Tell.question in
    let two : texts c.args.words.now ≡ word ∷ file ∷ [] =
    two_words c.args.words.now c.index-words-0.result c.index-words-1-in-Some-Tell.result (omega arith) c.index-words-0.is c.index-words-1-in-Some-Tell.is
    ∙ ap (λ (w : List ℕ). w ∷ string_bytes c.index-words-1-in-Some-Tell.result ∷ []) (sym c.as_str.ensures.value)
    ∙ ap (λ (f : List ℕ). word ∷ f ∷ []) (sym c.as_str-in-Some-Tell.ensures.value) in
    let verb : verb_of word ≡ Some (Tell question) = first_of (cc, search (rules, c.verb_of.ensures), grind (arith, c.verb_of.ensures)) in
    let asked = asked_of (texts c.args.words.now) word file (Tell question) two verb in
    record {
      ends = ends_asked (texts c.args.words.now) _ (Tell question) file _ _ c.answer.result asked
          c.answer.ensures.scripts c.answer.ensures.shelf refl c.answer.ensures.told;
      complete = complete_asked c.one_answer.ensures.apart c.one_list_of_calls.ensures.plan (texts c.args.words.now) (g.I.Read.remaining c.args.input.now) (Tell question) file _ _ c.answer.result
          asked c.answer.ensures.scripts c.answer.ensures.shelf refl c.answer.ensures.told;
      untouched = λ none. c.answer.ensures.untouched
          (λ is. none (file, subst (λ (q : Question). AsksFor (texts c.args.words.now) (Tell q) file) is asked));
      unread = λ none. refl;
    }

pub returns : goal.returns
returns g c =
    let none : HasNoForm (texts c.args.words.now) = elim c.if-words-eq2.branch [
      | then-words-eq2+in-None w ↦
          (let some = first_of_two c.args.words.now w.index-words-0.result (omega arith) w.index-words-0.is in
          no_verb (texts c.args.words.now) w.as_str.result.now some.0
          (some.1 ∙ ap (λ (x : List ℕ). x ∷ some.0 ∷ []) (sym w.as_str.ensures.value)) (sym w.verb_of.ensures ∙ w.in-None.is))
      | else-words-eq2 w ↦ not_two c.args.words.now (λ e. first_of (omega arith, cc, grind arith))
    ] in
    record {
      ends = ends_usage (texts c.args.words.now) _ _ _ c.put.result none refl refl
          (record { said = rw c.as_bytes.ensures.value at c.put.ensures; out_kept = refl; scripts_kept = refl; shelf_kept = refl });
      complete = complete_usage (texts c.args.words.now) _ _ c.put.result none
          (record { said = rw c.as_bytes.ensures.value at c.put.ensures; out_kept = refl; scripts_kept = refl; shelf_kept = refl });
      untouched = λ none. refl;
      unread = λ none. refl;
    }
