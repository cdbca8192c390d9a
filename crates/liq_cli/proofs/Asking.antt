-- From what is asked for to the words.
use Rattle.std.proofs.Common.{◌≡◌, ℕ, List, refl, sym, subst, inl, inr}
use Rattle.std.specs.Prelude.{Some, option_map}
use Rattle.liq_base.specs.Files.{Files}
use Rattle.station_jobs.specs.Words.{Asked, IsAsked, HasNoForm}
use Rattle.station_jobs.specs.Verdicts.{Verdict, Usage, ForVerdict, ForEachVerdict, IsVerdict, IsVerdictOn}
use Rattle.station_jobs.specs.Prepared.{ForEach, ForOne}
use Rattle.station_jobs.specs.Read.{asked_of}
use Rattle.station_jobs.specs.declared.form.Form.{Form}

-- the words ask for this, and for nothing else
pub record AsksOne (words : List (List ℕ)) (asked : Asked) : Type 0 where
  pub is : IsAsked words asked
  pub only : (other : Asked) → IsAsked words other → other ≡ asked

-- what was read of the words is all that they ask for
pub asks_one : (words : List (List ℕ)) (form : Form) → IsAsked words (asked_of form)
    → ((asked : Asked) → IsAsked words asked → option_map asked_of (Some form) ≡ Some asked) → AsksOne words (asked_of form)
asks_one words form is only = record {
  is = is;
  only = λ other at. let e : Some (asked_of form) ≡ Some other = only other at in (cc);
}

formed : (words : List (List ℕ)) (asked : Asked) (files : Files) (verdict : Verdict) → AsksOne words asked → IsVerdictOn asked files verdict → IsVerdict words files verdict
formed words asked files verdict asks is = inr (record { asked = asked; is_asked = asks.is; is_verdict = is })

pub unformed : (words : List (List ℕ)) (asked : Asked) (files : Files) (verdict : Verdict) → AsksOne words asked → IsVerdict words files verdict → IsVerdictOn asked files verdict
unformed words asked files verdict asks (inl usage) = absurd (usage.1 asked asks.is)
unformed words asked files verdict asks (inr is) = subst (λ a. IsVerdictOn a files verdict) (asks.only is.asked is.is_asked) is.is_verdict

pub for_verdict : (words : List (List ℕ)) (asked : Asked) (files : Files) (P : Verdict → Type 0) → AsksOne words asked → ForOne asked files P → ForVerdict words files P
for_verdict words asked files P asks one = record {
  verdict = one.verdict;
  is_verdict = formed words asked files one.verdict asks one.is_verdict;
  only = λ other is. one.only other (unformed words asked files other asks is);
  holds = one.holds;
}

pub for_each_verdict : (words : List (List ℕ)) (asked : Asked) (files : Files) (P : Verdict → Type 0) → AsksOne words asked → ForEach asked files P → ForEachVerdict words files P
for_each_verdict words asked files P asks each verdict is = each verdict (unformed words asked files verdict asks is)

-- words of no form have the usage line for a verdict
no_other : (words : List (List ℕ)) (files : Files) (verdict : Verdict) → HasNoForm words → IsVerdict words files verdict → verdict ≡ Usage
no_other words files verdict none (inl usage) = usage.0
no_other words files verdict none (inr is) = absurd (none is.asked is.is_asked)

pub for_usage : (words : List (List ℕ)) (files : Files) (P : Verdict → Type 0) → HasNoForm words → P Usage → ForVerdict words files P
for_usage words files P none p = record {
  verdict = Usage;
  is_verdict = inl (refl, none);
  only = λ other is. no_other words files other none is;
  holds = p;
}

-- what is said of the one verdict is said of each
pub each_of_one : (words : List (List ℕ)) (files : Files) (P Q : Verdict → Type 0) → ((verdict : Verdict) → P verdict → Q verdict) → ForVerdict words files P → ForEachVerdict words files Q
each_of_one words files P Q f one verdict is = subst Q (sym (one.only verdict is)) (f one.verdict one.holds)

-- where it holds of one it holds of the other
pub one_more : (asked : Asked) (files : Files) (P Q : Verdict → Type 0) → ((verdict : Verdict) → P verdict → Q verdict) → ForOne asked files P → ForOne asked files Q
one_more asked files P Q f one = record { verdict = one.verdict; is_verdict = one.is_verdict; only = one.only; holds = f one.verdict one.holds }

pub each_one : (asked : Asked) (files : Files) (P : Verdict → Type 0) → ForOne asked files P → ForEach asked files P
each_one asked files P one verdict is = subst P (sym (one.only verdict is)) one.holds
