use Rattle.std.proofs.Common.{◌≡◌, refl, true, false, arith}
use Rattle.script_parse.specs.Places.{opens, closes}
use Rattle.parse_base.specs.Gives.{token_kind}
use Rattle.script_parse.proofs.Nesting.{counted, at_most_one, still_shallow, deep_here}
use Rattle.script_parse.proofs.script.depth_place.Goals as goal

pub loop-i-preserved : goal.loop-i-preserved
loop-i-preserved c =
    let t = c.index-tokens-i.result in
    let one : opens (token_kind t) ≡ true → c.from-opened.result ≡ 1 = λ h. rw (c.from-opened.ensures, c.opens.ensures, h) refl in
    let none : opens (token_kind t) ≡ false → c.from-opened.result ≡ 0 = λ h. rw (c.from-opened.ensures, c.opens.ensures, h) refl in
    let one' : closes (token_kind t) ≡ true → c.from-closed.result ≡ 1 = λ h. rw (c.from-closed.ensures, c.closes.ensures, h) refl in
    let none' : closes (token_kind t) ≡ false → c.from-closed.result ≡ 0 = λ h. rw (c.from-closed.ensures, c.closes.ensures, h) refl in
    let o = counted opens c.args.tokens.now c.loop-i.i t c.loop-i.opened c.from-opened.result c.loop-i.invariant.0 c.loop-i-test.true c.index-tokens-i.is one none in
    let s = counted closes c.args.tokens.now c.loop-i.i t c.loop-i.closed c.from-closed.result c.loop-i.invariant.1 c.loop-i-test.true c.index-tokens-i.is one' none' in (
      o,
      s,
      omega (arith, c.loop-i.invariant.2, at_most_one (opens (token_kind t)) c.from-opened.result one none),
      omega (arith, c.loop-i.invariant.3, at_most_one (closes (token_kind t)) c.from-closed.result one' none'),
      still_shallow c.args.tokens.now c.loop-i.i _ _ o s (omega (arith, c.if-opened-closed.false)) c.loop-i.invariant.4,
    )

pub returns-then-opened-closed-clause-found : goal.returns-then-opened-closed-clause-found
returns-then-opened-closed-clause-found c =
    let t = c.index-tokens-i.result in
    let one : opens (token_kind t) ≡ true → c.from-opened.result ≡ 1 = λ h. rw (c.from-opened.ensures, c.opens.ensures, h) refl in
    let none : opens (token_kind t) ≡ false → c.from-opened.result ≡ 0 = λ h. rw (c.from-opened.ensures, c.opens.ensures, h) refl in
    let one' : closes (token_kind t) ≡ true → c.from-closed.result ≡ 1 = λ h. rw (c.from-closed.ensures, c.closes.ensures, h) refl in
    let none' : closes (token_kind t) ≡ false → c.from-closed.result ≡ 0 = λ h. rw (c.from-closed.ensures, c.closes.ensures, h) refl in
    let o = counted opens c.args.tokens.now c.loop-i.i t c.loop-i.opened c.from-opened.result c.loop-i.invariant.0 c.loop-i-test.true c.index-tokens-i.is one none in
    let s = counted closes c.args.tokens.now c.loop-i.i t c.loop-i.closed c.from-closed.result c.loop-i.invariant.1 c.loop-i-test.true c.index-tokens-i.is one' none' in
    deep_here c.args.tokens.now c.loop-i.i _ _ c.loop-i-test.true o s c.if-opened-closed.true c.loop-i.invariant.4
