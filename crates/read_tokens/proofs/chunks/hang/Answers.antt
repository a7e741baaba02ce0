-- By the first byte. Assumes nothing.
use mathlib.Core.Path.{◌≡◌, sym, ap, ◌∙◌}
use mathlib.Core.Bool.{Bool, true, false, ◌&&◌, ◌||◌}
use Prim.Native.Nat.{ℕ}
use lib.Dec.{eqb}
use borrow.Author.Tests.{eq-eqb, ne_eqb}
use Rattle.grammar.specs.Tokens.{is_word_byte, hang}
use Rattle.read_tokens.proofs.HangCases.{after_minus, after-colon, after_less, after_more, after-other}
use Rattle.read_tokens.proofs.chunks.hang.Goals as goal

pub returns-in-45 : goal.returns-in-45
returns-in-45 c =
    let known : (k : ℕ) → c.args.b ≡ k → hang k c.args.c ≡ hang c.args.b c.args.c = λ k e. ap (λ (n : ℕ). hang n c.args.c) (sym e) in
    c.is_digit.ensures ∙ after_minus c.args.c ∙ known _ c.in-45.is

pub returns-in-58 : goal.returns-in-58
returns-in-58 c =
    let known : (k : ℕ) → c.args.b ≡ k → hang k c.args.c ≡ hang c.args.b c.args.c = λ k e. ap (λ (n : ℕ). hang n c.args.c) (sym e) in
    after-colon c.args.c ∙ known _ c.in-58.is

pub returns-then-c-eq61 : goal.returns-then-c-eq61
returns-then-c-eq61 c =
    let known : (k : ℕ) → c.args.b ≡ k → hang k c.args.c ≡ hang c.args.b c.args.c = λ k e. ap (λ (n : ℕ). hang n c.args.c) (sym e) in
    let e = eq-eqb c.args.c 61 c.if-c-eq61.true in
    e ∙ ap (λ (t : Bool). t || eqb c.args.c 62) (sym e) ∙ after_less c.args.c ∙ known _ c.in-60.is

pub returns-else-c-eq61 : goal.returns-else-c-eq61
returns-else-c-eq61 c =
    let known : (k : ℕ) → c.args.b ≡ k → hang k c.args.c ≡ hang c.args.b c.args.c = λ k e. ap (λ (n : ℕ). hang n c.args.c) (sym e) in
    let e = ne_eqb c.args.c 61 c.if-c-eq61.false in
    ap (λ (t : Bool). t || eqb c.args.c 62) (sym e) ∙ after_less c.args.c ∙ known _ c.in-60.is

pub returns-in-62 : goal.returns-in-62
returns-in-62 c =
    let known : (k : ℕ) → c.args.b ≡ k → hang k c.args.c ≡ hang c.args.b c.args.c = λ k e. ap (λ (n : ℕ). hang n c.args.c) (sym e) in
    after_more c.args.c ∙ known _ c.in-62.is

pub returns-then-is_word_byte : goal.returns-then-is_word_byte
returns-then-is_word_byte c =
    let n = c.in_default.in_default-own.rest in
    let e : is_word_byte c.args.b ≡ true = sym c.is_word_byte.ensures ∙ c.if-is_word_byte.true in
    c.is_word_byte-then-is_word_byte.ensures
    ∙ ap (λ (t : Bool). t && is_word_byte c.args.c) (sym e)
    ∙ after-other c.args.b c.args.c n.0.0.0.1 n.0.0.1 n.0.1 n.1

pub returns-else-is_word_byte : goal.returns-else-is_word_byte
returns-else-is_word_byte c =
    let n = c.in_default.in_default-own.rest in
    let e : is_word_byte c.args.b ≡ false = sym c.is_word_byte.ensures ∙ c.if-is_word_byte.false in
    c.if-is_word_byte.false
    ∙ ap (λ (t : Bool). t && is_word_byte c.args.c) (sym e)
    ∙ after-other c.args.b c.args.c n.0.0.0.1 n.0.0.1 n.0.1 n.1
