-- The runs of tokens, and how they end.
use Rattle.std.proofs.Common.{◌≡◌, ◌≢◌, ℕ, ◌-◌, ◌<◌, List, [], ◌∷◌, ◌++◌, length, refl, sym, ap, ◌∙◌, subst, arith, length-append, Ok, Err, Option, Some, None, false}
use Rattle.script_lex.specs.Spelling.{IsToken, IsLongest, LexStop, Bad, OpenText, Large, FaultAt}
use Rattle.script_lex.specs.Tokens.{between, Leads, EndsBy, Runs}
use Rattle.script_lex.specs.Reading.{Read, shape_at}
use Rattle.script_lex.specs.Gives.{Gives, Refuses, IfFault, RunsTo}
use Rattle.script_lex.specs.declared.token.Token.{Token}
use Rattle.script_lex.specs.declared.token.TokenKind.{TokenKind}
use Rattle.script_lex.specs.declared.refusal.Refusal.{Refusal}
use Rattle.script_lex.specs.declared.refusal.Refusal.TheVariants as refusals
use Rattle.script_lex.proofs.Firsts.{starts}
use Rattle.script_lex.proofs.Whole.{shape_found, shape_fault}
use Rattle.script_lex.proofs.Apart.{StopsAt}
use Rattle.script_lex.proofs.One.{token_one, token_never, token_some, fault_one, fault_some}

-- a token leaves less
pub token_shorter : (bs : List ℕ) (k : TokenKind) (r : List ℕ) → IsToken bs k r → length r < length bs
token_shorter bs k r t =
    let l = t.longest in
    let s = starts t.shape l.text l.spelled in
    let size = ap length l.split ∙ length-append l.text r in
    let some = ap length s.is in
    omega arith

-- what a function returned is the token that stands there
pub gives_token : {X : Type 0} (kind : X → TokenKind) (after : X → List ℕ) (bs : List ℕ) (left : ℕ) (x : X) → Gives kind after (shape_at bs) left (Ok x) → IsToken bs (kind x) (after x)
gives_token {X} kind after bs left x gives = by_read (shape_at bs) refl gives
  where
    by_read : (read : Read) → shape_at bs ≡ read → Gives kind after read left (Ok x) → IsToken bs (kind x) (after x)
    by_read (Ok found) is g = let L : List ℕ → Type 0 = λ r. IsLongest found.0 bs r in record { shape = found.0; longest = subst L (sym g.2) (shape_found bs found is); within = g.0; means = g.1 }
    by_read (Err e) is g = absurd g

-- and what it refused is the fault that stands there
pub refused_fault : (bs : List ℕ) (e : Refusal) → bs ≢ [] → Refuses (shape_at bs) (length bs) e → IfFault e (λ f. FaultAt f bs)
refused_fault bs e some gives = by_read (shape_at bs) e refl gives
  where
    by_read : (read : Read) (e : Refusal) → shape_at bs ≡ read → Refuses read (length bs) e → IfFault e (λ f. FaultAt f bs)
    by_read read refusals.Memory is g = tt
    by_read (Ok found) (refusals.NumberTooLarge n) is g = (record { shape = found.0; rest = found.1; longest = shape_found bs found is; past = g.0 }, g.1)
    by_read (Ok found) (refusals.BadByte n) is g = absurd g
    by_read (Ok found) (refusals.UnclosedString n) is g = absurd g
    by_read (Err f) (refusals.NumberTooLarge n) is g = absurd g
    by_read (Err f) (refusals.BadByte n) is g = let P : LexStop → Type 0 = λ x. StopsAt x bs in subst P g (shape_fault bs f some is)
    by_read (Err f) (refusals.UnclosedString n) is g = let P : LexStop → Type 0 = λ x. StopsAt x bs in subst P g (shape_fault bs f some is)

-- one token more
leads_push : (total : ℕ) (bytes before after : List ℕ) (ts : List Token) (t : Token) → Leads total bytes ts before → IsToken (between false before) t.kind after → t.start ≡ total - length (between false before) → t.end ≡ total - length after → Leads total bytes (ts ++ t ∷ []) after
leads_push total bytes before after [] t leads stands start end =
    let P : List ℕ → Type 0 = λ b. Leads total b (t ∷ []) after in subst P (sym leads) (after, stands, start, end, refl)
leads_push total bytes before after (u ∷ ts) t leads stands start end =
    (leads.0, leads.1, leads.2, leads.3, leads_push total leads.0 before after ts t leads.4 stands start end)

pub turn : (text before rest after : List ℕ) (ts : List Token) (t : Token) → Leads (length text) text ts before → between false before ≡ rest → IsToken rest t.kind after → t.start ≡ length text - length rest → t.end ≡ length text - length after → Leads (length text) text (ts ++ t ∷ []) after
turn text before rest after ts t leads behind stands start end =
    let P : List ℕ → Type 0 = λ b. IsToken b t.kind after in
    leads_push (length text) text before after ts t leads (subst P (sym behind) stands) (start ∙ ap (λ (l : List ℕ). length text - length l) (sym behind)) end

-- a fault behind the tokens
pub fault_run : (text before rest : List ℕ) (ts : List Token) (e : Refusal) → Leads (length text) text ts before → between false before ≡ rest → rest ≢ [] → Refuses (shape_at rest) (length rest) e → IfFault e (RunsTo text ts)
fault_run text before rest ts e leads behind some refuses = by_fault e (refused_fault rest e some refuses)
  where
    run : (f : LexStop) → FaultAt f rest → RunsTo text ts f
    run f stands = let P : List ℕ → Type 0 = λ b. FaultAt f b in (before, leads, subst P (sym behind) stands)

    by_fault : (e : Refusal) → IfFault e (λ f. FaultAt f rest) → IfFault e (RunsTo text ts)
    by_fault refusals.Memory h = tt
    by_fault (refusals.BadByte n) h = run (Bad n) h
    by_fault (refusals.UnclosedString n) h = run (OpenText n) h
    by_fault (refusals.NumberTooLarge n) h = run (Large n) h

-- how a run ends is told by what is left
ends_one : (bs : List ℕ) (e g : Option LexStop) → EndsBy e bs → EndsBy g bs → e ≡ g
ends_one bs None None a b = refl
ends_one bs None (Some f) a b = absurd (fault_some bs f b a)
ends_one bs (Some f) None a b = absurd (fault_some bs f a b)
ends_one bs (Some f) (Some g) a b = ap Some (fault_one bs f g a b)

ends_never : (bs : List ℕ) (e : Option LexStop) (k : TokenKind) (r : List ℕ) → EndsBy e bs → IsToken bs k r → ⊥
ends_never bs None k r a t = token_some bs k r t a
ends_never bs (Some f) k r a t = token_never bs k r f t a

end_here : (total : ℕ) (bytes rest : List ℕ) (e : Option LexStop) → bytes ≡ rest → EndsBy e (between false rest) → EndsBy e (between false bytes)
end_here total bytes rest e is a = let P : List ℕ → Type 0 = λ l. EndsBy e (between false l) in subst P (sym is) a

same_token : (t u : Token) → t.kind ≡ u.kind → t.start ≡ u.start → t.end ≡ u.end → t ≡ u
same_token t u kind start end = λ i. record { kind = kind i; start = start i; end = end i }

both : {A : Type 0} (t u : A) (ts us : List A) → t ≡ u → ts ≡ us → t ∷ ts ≡ u ∷ us
both t u ts us head tail = ap (λ x. x ∷ ts) head ∙ ap (λ (xs : List _). u ∷ xs) tail

-- one text has one run
leads_one : (total : ℕ) (bytes : List ℕ) (ts us : List Token) (x y : List ℕ) (e g : Option LexStop) → Leads total bytes ts x → Leads total bytes us y → EndsBy e (between false x) → EndsBy g (between false y) → (ts ≡ us) × (e ≡ g)
leads_one total bytes [] [] x y e g a b p q = (refl, ends_one (between false bytes) e g (end_here total bytes x e a p) (end_here total bytes y g b q))
leads_one total bytes [] (u ∷ us) x y e g a b p q = absurd (ends_never (between false bytes) e u.kind b.0 (end_here total bytes x e a p) b.1)
leads_one total bytes (t ∷ ts) [] x y e g a b p q = absurd (ends_never (between false bytes) g t.kind a.0 (end_here total bytes y g b q) a.1)
leads_one total bytes (t ∷ ts) (u ∷ us) x y e g a b p q =
    let one = token_one (between false bytes) t.kind u.kind a.0 b.0 a.1 b.1 in
    let P : List ℕ → Type 0 = λ l. Leads total l us y in
    let more = leads_one total a.0 ts us x y e g a.4 (subst P (sym one.1) b.4) p q in
    let same = same_token t u one.0 (a.2 ∙ sym b.2) (a.3 ∙ ap (λ (l : List ℕ). total - length l) one.1 ∙ sym b.3) in
    (both t u ts us same more.0, more.1)

pub runs_one : (text : List ℕ) (ts us : List Token) (e g : Option LexStop) → Runs text ts e → Runs text us g → (ts ≡ us) × (e ≡ g)
runs_one text ts us e g a b = leads_one (length text) text ts us a.0 b.0 e g a.1 b.1 a.2 b.2
