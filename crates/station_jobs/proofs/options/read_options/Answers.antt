use Rattle.std.proofs.Common.{◌≡◌, ◌∙◌, ◌+◌, ◌∷◌, Option, Some, None, drop, ap, sym, subst}
use Rattle.std.specs.Prelude.{string_bytes}
use Rattle.std.proofs.lemmas.List.{drop_more}
use Rattle.station_jobs.specs.Read.{options_of}
use Rattle.station_jobs.specs.Words.{AreOptions, IsOption, Options, texts}
use Rattle.station_jobs.proofs.options.read_options.Goals as goal

pub returns-in_err-options-clause-only : goal.returns-in_err-options-clause-only
returns-in_err-options-clause-only c = λ all are.
    let words = c.args.words.now in
    let i = c.loop-word.word-index in
    let before = options_of c.loop-word.options in
    let split : texts (drop i words) ≡ string_bytes c.word-item.result ∷ texts (drop (i + 1) words) =
    ap texts (drop_more words i c.word-item.result c.loop-word-test.true ∙ ap (λ w. w ∷ drop (i + 1) words) (sym c.word-item.is)) in
    let (after, said, rest) = subst (λ ws. AreOptions before ws all) split (c.loop-word.invariant.only all are) in
    let told = c.in_err-options.ensures.only after (subst (λ w. IsOption w before after) (sym c.as_str.ensures.value) said) in
    absurd (let none : ◌≡◌ {A = Option Options} None (Some after) = told in cc)

pub loop-word-preserved : goal.loop-word-preserved
loop-word-preserved c =
    let words = c.args.words.now in
    let i = c.loop-word.word-index in
    let before = options_of c.loop-word.options in
    let next = options_of c.in_ok-options.options in
    let split : texts (drop i words) ≡ string_bytes c.word-item.result ∷ texts (drop (i + 1) words) =
    ap texts (drop_more words i c.word-item.result c.loop-word-test.true ∙ ap (λ w. w ∷ drop (i + 1) words) (sym c.word-item.is)) in
    record {
      found = λ all are. c.loop-word.invariant.found all
          (subst (λ ws. AreOptions before ws all) (sym split) (next, subst (λ w. IsOption w before next) c.as_str.ensures.value c.in_ok-options.ensures.found, are));
      only = λ all are.
          let (after, said, rest) = subst (λ ws. AreOptions before ws all) split (c.loop-word.invariant.only all are) in
          let told : ◌≡◌ {A = Option Options} (Some next) (Some after) = c.in_ok-options.ensures.only after (subst (λ w. IsOption w before after) (sym c.as_str.ensures.value) said) in
          let same : after ≡ next = cc in
          subst (λ o. AreOptions o (texts (drop (i + 1) words)) all) same rest;
    }
